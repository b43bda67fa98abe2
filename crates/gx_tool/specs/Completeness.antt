-- What a run without faults has before it.
use Rattle.std.specs.Prelude.{ℕ, zero, suc, List, [], ◌∷◌, Option, Some}
use Rattle.gx_hash.specs.declared.oid.ObjectId.{ObjectId}
use Rattle.gx_store.specs.Faults.{Rose}
use Rattle.gix.specs.Causes.{IsFaultless as IsFaultlessStore}
use Rattle.gix.specs.Held.{Whole}
use Rattle.gx_script.specs.declared.request.Request.{Request}
use Rattle.gx_script.specs.declared.request.Request.TheVariants.{Commit}
use Rattle.gx_tool.specs.declared.answer.Answer.TheVariants.{Id}
use Rattle.gx_tool.specs.declared.reply.Reply.{Reply}
use Rattle.gx_tool.specs.declared.reply.Reply.TheVariants.{Accepted}
use Rattle.gx_tool.specs.Course.{Moment}
use Rattle.gx_tool.specs.Generating.{Scene}
use Rattle.gx_tool.specs.Generator.{commit_at}
use Rattle.gx_tool.specs.Machine.{Step}
use Rattle.gx_tool.specs.Serving.{call_of}

-- Nothing of the store is unreadable, and no fault of writing, of the source or of the sink was counted.
pub record IsFaultless (start now : Moment) : Type 0 where
  pub store : IsFaultlessStore start.held.store now.held.store
  pub source : ¬ Rose start.source_faults now.source_faults
  pub sink : ¬ Rose start.sink_faults now.sink_faults

-- The request is sure to be accepted in the state.
unfoldable pub IsValid : Whole → Request → Type 0
IsValid old request = (call_of request).valid old.settings old.state

-- Each request is valid in its own state of a run: the first at the start, and the next wherever the
-- machine may be then.
unfoldable pub AreValid : Whole → List Request → Type 0
AreValid old [] = Unit {0}
AreValid old (request ∷ requests) = IsValid old request
    × ((reply : Reply) (next : Whole) → Step old request reply next → AreValid next requests)

-- The same of a run of the generator, which has no source.
pub record IsFaultlessScene (start now : Scene) : Type 0 where
  pub store : IsFaultlessStore start.held.store now.held.store
  pub sink : ¬ Rose start.faults now.faults

-- So many commits of the generator from a place on are valid, each in its own state of a run: the first at the start,
-- over the last commit, and the next wherever the machine may be then, over the one that was made.
unfoldable pub AreValidCommits : ℕ → Whole → ℕ → Option ObjectId → Type 0
AreValidCommits zero old place last = Unit {0}
AreValidCommits (suc count) old place last = IsValid old (Commit (commit_at place last))
    × ((id : ObjectId) (next : Whole) → Step old (Commit (commit_at place last)) (Accepted (Id id)) next
    → AreValidCommits count next (suc place) (Some id))
