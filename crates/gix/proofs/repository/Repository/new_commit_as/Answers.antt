use Rattle.std.proofs.Common.{[], ◌∙◌, refl}
use Rattle.gix.specs.CommitOverTree.{commit_writing}
use Rattle.gix.specs.CommitRequest.{request_of}
use Rattle.gix.specs.Repository.{held_by}
use Rattle.gix.proofs.WritingLemmas.{stores_parts, wrote}
use Rattle.gix.proofs.repository.Repository.new_commit_as.Goals as goal

pub returns : goal.returns
returns g c = wrote (commit_writing c.args.tree (request_of c.args.committer.now c.args.author.now [] c.args.message.now c.args.parents.now [])) c.written_object_is_stored.ensures (held_by g.S.Meanings.state c.args.self.now) _ _ refl c.in_default.ensures.none
    (stores_parts _ _ _ _ _ _ _ refl (c.as_slice.ensures ∙ c.in_ok-bytes.ensures) c.in_ok-write_object.ensures.id c.in_ok-write_object.ensures.kind c.in_ok-write_object.ensures.ok)
