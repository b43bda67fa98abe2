use Rattle.gx_object.proofs.OwnedTags.{bad_time}
use Rattle.gx_object.proofs.tag.decode.owned_tagger.Goals as goal

pub returns-in-Err-clause-causes : goal.returns-in-Err-clause-causes
returns-in-Err-clause-causes c = bad_time c.args.tagger.now c.in-Some.who c.in-Err.error c.in-Some.is c.in-Err.ensures.causes
