use Rattle.gx_object.proofs.TagLineLemmas.{opens_last}
use Rattle.gx_object.proofs.tag.lines.opens_signature.Goals as goal

pub returns : goal.returns
returns c = opens_last c.args.text.now c.begins_with-4.result c.if-begins_with.ensures c.if-begins_with-2.ensures c.if-begins_with-3.ensures c.begins_with-4.ensures
