-- What is said of a made commit's id is said of what `commit_edits` answers.
use Rattle.std.proofs.Common.{Result, Ok, Err, IfOk, IfErr}
use Rattle.gx_hash.specs.declared.oid.ObjectId.{ObjectId}
use Rattle.gix.specs.MadeCommit.{made_id}
use Rattle.gix.specs.declared.commit_edits.MadeCommit.{MadeCommit}
use Rattle.gix.specs.declared.error.CommitEditsError.{CommitEditsError}

pub ok_by_id : (result : Result MadeCommit CommitEditsError) (P : ObjectId → Type 0) → IfOk result (λ made. P made.id) → IfOk (made_id result) P
ok_by_id (Ok made) P h = h
ok_by_id (Err refusal) P h = tt

pub err_by_id : (result : Result MadeCommit CommitEditsError) (P : CommitEditsError → Type 0) → IfErr result P → IfErr (made_id result) P
err_by_id (Ok made) P h = tt
err_by_id (Err refusal) P h = h
