-- Runs of the generator in a new repository.
use Rattle.std.specs.Prelude.{◌≡◌, ℕ, zero, suc, codes, Option, Some, None}
use Rattle.std.specs.FinMap.{get}
use Rattle.gx_hash.specs.declared.oid.ObjectId.{ObjectId}
use Rattle.gx_store.specs.Conflict.{IsFree}
use Rattle.gx_store.specs.Content.{AreApart}
use Rattle.gx_store.specs.declared.target.Target.TheVariants.{Symbolic}
use Rattle.gx_edit.specs.Output.{Output}
use Rattle.gix.specs.CommitEdits.{written_objects}
use Rattle.gix.specs.Held.{Whole}
use Rattle.gix.specs.History.{IsEmpty}
use Rattle.gix.specs.Trees.{Makes}
use Rattle.gix.specs.View.{whole}
use Rattle.gx_script.specs.declared.request.CommitRequest.{CommitRequest}
use Rattle.gx_script.specs.declared.request.Request.TheVariants.{Commit}
use Rattle.gx_tool.specs.CommitForm.{commit_request}
use Rattle.gx_tool.specs.Generator.{commit_at}
use Rattle.gx_tool.specs.Machine.{Step}
use Rattle.gx_tool.specs.declared.answer.Answer.TheVariants.{Id}
use Rattle.gx_tool.specs.declared.reply.Reply.TheVariants.{Accepted}

-- A repository is new: no object is stored, `HEAD` leads to a branch that is not there, no reference is in its way, and
-- no namespace is set. (git-init(1))
pub record IsNew (start : Whole) : Type 0 where
  pub no_space : start.settings.namespace ≡ None
  pub no_objects : IsEmpty start.state
  pub head : get start.state.references.targets (codes "HEAD") ≡ Some (Symbolic (codes "refs/heads/main"))
  pub unborn : get start.state.references.targets (codes "refs/heads/main") ≡ None
  pub free : IsFree start.state.references.targets (codes "refs/heads/main")

-- No two different objects of the commit and of what is stored share an id, and none has the null id.
-- (hash-function-transition, "Background")
abbrev pub HasOwnIds : Whole → CommitRequest → Type 0
HasOwnIds old asked = (output : Output) → Makes (commit_request asked) (whole old.state) output
    → AreApart old.state.hash old.state.content (written_objects (commit_request asked) output)

-- So it is of so many commits of the generator from a place on, each in its own state of the run: the first at the
-- start, over the last commit, and the next wherever the machine may be then, over the one that was made.
unfoldable pub HaveOwnIds : ℕ → Whole → ℕ → Option ObjectId → Type 0
HaveOwnIds zero old place last = Unit {0}
HaveOwnIds (suc count) old place last = HasOwnIds old (commit_at place last)
    × ((id : ObjectId) (next : Whole) → Step old (Commit (commit_at place last)) (Accepted (Id id)) next
    → HaveOwnIds count next (suc place) (Some id))
