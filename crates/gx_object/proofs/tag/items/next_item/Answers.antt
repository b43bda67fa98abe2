use Rattle.gx_object.specs.declared.tag.items.Stage.TheVariants.{TargetKind, Name, Tagger}
use Rattle.gx_object.proofs.TagSteps.{any_stage}
use Rattle.gx_object.proofs.tag.items.next_item.Goals as goal

pub returns-in-TargetKind-clause-item : goal.returns-in-TargetKind-clause-item
returns-in-TargetKind-clause-item c = any_stage c.args.hash TargetKind c.args.stage c.args.bytes.now c.kind_item.result c.in-TargetKind.is (c.kind_item.ensures.item c.args.hash)

pub returns-in-Name-clause-item : goal.returns-in-Name-clause-item
returns-in-Name-clause-item c = any_stage c.args.hash Name c.args.stage c.args.bytes.now c.name_item.result c.in-Name.is (c.name_item.ensures.item c.args.hash)

pub returns-in-Tagger-clause-item : goal.returns-in-Tagger-clause-item
returns-in-Tagger-clause-item c = any_stage c.args.hash Tagger c.args.stage c.args.bytes.now c.tagger_or_body.result c.in-Tagger.is (c.tagger_or_body.ensures.item c.args.hash)
