use Rattle.gx_object.proofs.Judgements.{tag_or_not, one_bad_tag}
use Rattle.gx_object.proofs.laws.bytes_spell_a_tag_or_go_wrong.Goals as goal

pub returns-clause-judged : goal.returns-clause-judged
returns-clause-judged c = tag_or_not c.args.hash c.args.bytes.now c.from_bytes.result c.from_bytes.ensures.ok c.from_bytes.ensures.causes

pub returns-clause-once : goal.returns-clause-once
returns-clause-once c = one_bad_tag c.args.hash c.args.bytes.now
