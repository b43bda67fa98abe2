use Rattle.std.proofs.Common.{Ok, Err}
use Rattle.gx_object.specs.Laws.OneCommit.{only_commit}
use Rattle.gx_object.proofs.commit.decode.CommitRef.from_bytes.Goals as goal

pub returns-in-Some-clause-only : goal.returns-in-Some-clause-only
returns-in-Some-clause-only c = only_commit c.args.hash c.args.bytes.now (Ok c.in-Some.commit) c.in-Some.ensures tt

pub returns-in-Some-clause-ids : goal.returns-in-Some-clause-ids
returns-in-Some-clause-ids c = record { tree = c.in-Some.ensures.tree_id; parents = c.in-Some.ensures.parent_ids }

pub returns-in-None-clause-only : goal.returns-in-None-clause-only
returns-in-None-clause-only c = only_commit c.args.hash c.args.bytes.now (Err c.refusal.result) tt c.refusal.ensures
