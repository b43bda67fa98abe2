-- Why a commit is not read.
use Rattle.std.specs.Prelude.{◌≡◌, ◌≢◌, ℕ, List, None, Some, IfSome, IsTrue}
use Rattle.gx_hash.specs.declared.kind.HashKind.{HashKind}
use Rattle.gx_hash.specs.declared.oid.ObjectId.{ObjectId}
use Rattle.gx_object.specs.declared.kind.Kind.{Kind}
use Rattle.gx_object.specs.declared.kind.Kind.TheVariants as kind
use Rattle.gx_object.specs.CommitSpelling.{CommitText, SpellsCommit}
use Rattle.gx_store.specs.Content.{Content, lookup}
use Rattle.gx_store.specs.State.{StoreState}
use Rattle.gx_store.specs.declared.error.What.TheVariants as what
use Rattle.gx_walk.specs.declared.error.WalkError.{WalkError}
use Rattle.gx_walk.specs.declared.error.WalkError.TheVariants.{Missing, NotACommit, NotATree, Decode, TreeCycle, Cancelled, Store, NoMemory}

-- the id is that of an object of another kind
abbrev pub IsNoCommit : Content → ObjectId → Type 0
IsNoCommit content id = (actual : Kind) × (bytes : List ℕ)
    × (lookup content id ≡ Some (actual, bytes)) × (actual ≢ kind.Commit)

-- the id is that of a commit whose bytes spell none
abbrev pub IsUndecodable : HashKind → Content → ObjectId → Type 0
IsUndecodable hash content id = (bytes : List ℕ) × (lookup content id ≡ Some (kind.Commit, bytes))
    × ((text : CommitText) → ¬ SpellsCommit hash bytes text)

-- An error names an id for which the fact holds. It is not stored, is no commit, or its bytes spell none, as far as the
-- store tells its content; or it can't be read.
abbrev pub CommitCauses : StoreState → (ObjectId → Type 0) → WalkError → Type 0
CommitCauses state Named (Missing id) = Named id × IfSome state.content (λ content. lookup content id ≡ None)
CommitCauses state Named (NotACommit id) = Named id × IfSome state.content (λ content. IsNoCommit content id)
CommitCauses state Named (Decode id) = Named id
    × IfSome state.content (λ content. IsUndecodable state.hash content id)
CommitCauses state Named (Store part) = (id : ObjectId) × (part ≡ what.Object id)
    × IsTrue (state.unreadable (what.Object id)) × Named id
CommitCauses state Named NoMemory = Unit {0}
CommitCauses state Named (NotATree id) = ⊥
CommitCauses state Named (TreeCycle id) = ⊥
CommitCauses state Named Cancelled = ⊥
