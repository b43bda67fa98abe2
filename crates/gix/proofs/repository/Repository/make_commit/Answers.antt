use Rattle.std.proofs.Common.{refl}
use Rattle.gix.specs.CommitRequest.{request_of}
use Rattle.gix.specs.MadeCommit.{made_id}
use Rattle.gix.proofs.MachineLemmas.{commit_means}
use Rattle.gix.proofs.MadeCommitLemmas.{err_by_id, ok_by_id}
use Rattle.gix.proofs.repository.Repository.make_commit.Goals as goal

pub returns-clause-means : goal.returns-clause-means
returns-clause-means g c =
    commit_means (made_id c.commit_request.result) (request_of c.args.committer.now c.args.author.now c.args.reference.now c.args.message.now c.args.parents.now c.args.edits.now) _ _
    c.commit_is_accepted.ensures (ok_by_id c.commit_request.result _ c.commit_request.ensures.ok) (err_by_id c.commit_request.result _ c.commit_request.ensures.leaves) (err_by_id c.commit_request.result _ c.commit_request.ensures.causes) refl
