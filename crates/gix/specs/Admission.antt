-- Which requests for a commit may be made.
use Rattle.std.specs.Prelude.{◌≡◌, ◌≢◌, Bool, true, false, [], ◌∷◌, Some, Contains}
use Rattle.gx_hash.specs.declared.oid.ObjectId.{ObjectId}
use Rattle.gx_rules.specs.Component.{IsComponent}
use Rattle.gx_rules.specs.declared.component_rules.Protect.{Protect}
use Rattle.gx_object.specs.declared.tree.EntryKind.TheVariants as entry_kind
use Rattle.gx_object.specs.Identity.{is_writable_identity}
use Rattle.gx_object.specs.Mode.{kind_of_mode}
use Rattle.gx_store.specs.Content.{Content, IsStored}
use Rattle.gx_edit.specs.Path.{Path}
use Rattle.gx_edit.specs.PathMap.{PathMap}
use Rattle.gx_edit.specs.Entries.{is_link_kind}
use Rattle.gx_edit.specs.Output.{Output}
use Rattle.gx_edit.specs.declared.leaf.Leaf.{Leaf}
use Rattle.gx_refs.specs.EditCauses.{MayBeMade}
use Rattle.gix.specs.declared.settings.Settings.{Settings}
use Rattle.gix.specs.CommitRequest.{CommitRequest}
use Rattle.gix.specs.View.{View, State, whole}
use Rattle.gix.specs.Trees.{Edits, MayWrite}
use Rattle.gix.specs.NewCommit.{commit_id}
use Rattle.gix.specs.Reference.{commit_terms, edits_of}

-- Both identities of the request can be written. (git-commit(1), "Commit Information")
abbrev pub AreWritable : CommitRequest → Type 0
AreWritable r = (is_writable_identity r.author ≡ true) × (is_writable_identity r.committer ≡ true)

-- The objects of a request may be written: its trees, and its commit with both identities.
pub record MayStore (settings : Settings) (r : CommitRequest) (view : View) (output : Output) : Type 0 where
  pub trees : MayWrite settings r view output
  pub identities : AreWritable r

-- The commit may be made: its objects may be written, and its reference may be moved to it.
pub record IsAdmitted (settings : Settings) (r : CommitRequest) (view : View) (output : Output) : Type 0 where
  pub objects : MayStore settings r view output
  pub reference : MayBeMade (commit_terms settings r) view.references (edits_of r (commit_id view.hash r output))

-- ---- the same, said of paths

-- Each component of the path may be checked out, the last as a link where it is one, and holds no zero byte.
-- (git-config(1), "core.protectNTFS")
abbrev pub AreComponents : Protect → Bool → Path → Type 0
AreComponents protect is_link [] = Unit {0}
AreComponents protect is_link (name ∷ []) = IsComponent name is_link protect × (Contains name 0 → ⊥)
AreComponents protect is_link (name ∷ next ∷ path) = IsComponent name false protect × (Contains name 0 → ⊥)
    × AreComponents protect is_link (next ∷ path)

-- each path of the map is fit so
abbrev pub HasSafePaths : Protect → PathMap → Type 0
HasSafePaths protect m = (p : Path) (leaf : Leaf) → m p ≡ Some leaf
    → AreComponents protect (is_link_kind (kind_of_mode leaf.mode.value)) p

-- what the leaves name is stored, but for submodules
abbrev pub HasStoredLeaves : Content → PathMap → Type 0
HasStoredLeaves content m = (p : Path) (leaf : Leaf) → m p ≡ Some leaf
    → kind_of_mode leaf.mode.value ≢ entry_kind.Commit → IsStored content leaf.id

-- A valid request: it has no parent, or its first parent's tree has a path map, whose leaves are stored; its edits make
-- of that a map whose names may all be checked out; both identities can be written; and its reference may be moved to
-- any commit.
pub record IsValidCommit (settings : Settings) (r : CommitRequest) (state : State) : Type 0 where
  pub new_map : PathMap
  pub edits : Edits r (whole state) new_map
  pub leaves : HasStoredLeaves state.content edits.base
  pub paths : HasSafePaths settings.protect new_map
  pub identities : AreWritable r
  pub reference : (id : ObjectId) → MayBeMade (commit_terms settings r) (Some state.references) (edits_of r id)
