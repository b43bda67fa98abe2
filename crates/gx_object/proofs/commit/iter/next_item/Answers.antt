use Rattle.gx_object.specs.declared.commit.iter.Stage.TheVariants.{Committer, Encoding}
use Rattle.gx_object.proofs.IterLemmas.{any_stage, header_stage}
use Rattle.gx_object.proofs.commit.iter.next_item.Goals as goal

pub returns-in-Committer-clause-item : goal.returns-in-Committer-clause-item
returns-in-Committer-clause-item c = any_stage c.args.hash Committer c.args.stage c.args.bytes.now c.committer_item.result c.in-Committer.is (c.committer_item.ensures.item c.args.hash)

pub returns-in-Encoding-clause-item : goal.returns-in-Encoding-clause-item
returns-in-Encoding-clause-item c = any_stage c.args.hash Encoding c.args.stage c.args.bytes.now c.first_header_or_message.result c.in-Encoding.is (c.first_header_or_message.ensures.item c.args.hash)

pub returns-in-Headers-clause-item : goal.returns-in-Headers-clause-item
returns-in-Headers-clause-item c = header_stage c.args.hash c.args.stage c.args.bytes.now c.header_or_message.result c.in-Headers.is (c.header_or_message.ensures.item c.args.hash)
