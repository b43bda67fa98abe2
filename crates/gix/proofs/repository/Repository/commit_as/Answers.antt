use Rattle.std.proofs.Common.{[], refl}
use Rattle.gix.specs.CommitRequest.{request_of}
use Rattle.gix.specs.Repository.{held_by}
use Rattle.gix.proofs.CommitAsLemmas.{commit_as_means}
use Rattle.gix.proofs.repository.Repository.commit_as.Goals as goal

pub returns : goal.returns
returns g c = commit_as_means c.args.tree (request_of c.args.committer.now c.args.author.now c.args.reference.now c.args.message.now c.args.parents.now []) (held_by g.S.Meanings.state c.args.self.now) _ _ refl
    c.commit_tree.ensures.ok c.commit_tree.ensures.leaves c.commit_tree.ensures.causes
