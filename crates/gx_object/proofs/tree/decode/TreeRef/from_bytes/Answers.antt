use Rattle.std.proofs.Common.{Ok, Err}
use Rattle.gx_object.proofs.Refusals.{only_tree}
use Rattle.gx_object.proofs.TreeKinds.{tree_kind}
use Rattle.gx_object.proofs.tree.decode.TreeRef.from_bytes.Goals as goal

pub returns-in-Some-clause-kind : goal.returns-in-Some-clause-kind
returns-in-Some-clause-kind c = tree_kind c.args.hash c.args.bytes.now c.in-Some.entries c.in-Some.ensures

pub returns-in-Some-clause-only : goal.returns-in-Some-clause-only
returns-in-Some-clause-only c = only_tree c.args.hash c.args.bytes.now (Ok (record { entries = c.in-Some.entries })) c.in-Some.ensures tt

pub returns-in-None-clause-only : goal.returns-in-None-clause-only
returns-in-None-clause-only c = only_tree c.args.hash c.args.bytes.now (Err c.refusal.result) tt c.refusal.ensures
