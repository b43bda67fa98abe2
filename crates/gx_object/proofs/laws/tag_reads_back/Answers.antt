use Rattle.gx_object.proofs.ReadBack.{own_tag_back}
use Rattle.gx_object.proofs.laws.tag_reads_back.Goals as goal

pub returns : goal.returns
returns c = own_tag_back c.args.tag.now c.args.copy.now c.id_has_digits.ensures.held c.id_has_digits-2.ensures.held
