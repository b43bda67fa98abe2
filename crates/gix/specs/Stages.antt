-- What the stages of a commit hand on, for the functions that go through them.
use Rattle.std.specs.Prelude.{◌≡◌, ◌≢◌, ◌⊎◌, ℕ, true, false, List, map, Some, None, IfSome}
use Rattle.std.specs.List.{AllByRecursion}
use Rattle.gx_hash.specs.declared.kind.HashKind.{HashKind}
use Rattle.gx_hash.specs.declared.oid.ObjectId.{ObjectId}
use Rattle.gx_object.specs.declared.kind.Kind.{Kind}
use Rattle.gx_object.specs.declared.kind.Kind.TheVariants as kind
use Rattle.gx_object.specs.declared.tree.Entry.{Entry}
use Rattle.gx_object.specs.declared.tree.EntryKind.{EntryKind}
use Rattle.gx_object.specs.Identity.{are_writable}
use Rattle.gx_store.specs.Content.{lookup, id_of}
use Rattle.gx_store.specs.Kinds.{AreChangesOfKind}
use Rattle.gx_store.specs.State.{StoreState, IsUnreadable}
use Rattle.gx_store.specs.declared.error.What.TheVariants as what
use Rattle.gx_edit.specs.Path.{components}
use Rattle.gx_edit.specs.PathMap.{blobs_of, path_of}
use Rattle.gx_edit.specs.PathList.{has_empty_name}
use Rattle.gx_edit.specs.View as directories
use Rattle.gx_edit.specs.StoredTree.{IsReadable}
use Rattle.gx_edit.specs.View.{names_of, only}
use Rattle.gx_edit.specs.Editor.{hash_of, view_of as directories_of, upserted_entry}
use Rattle.gx_edit.specs.EditorCauses.{EditCauses, LoadsAll}
use Rattle.gx_edit.specs.ViewOfEdits.{view_with, edited_view, PutsOwnId}
use Rattle.gx_edit.specs.Output.{Output}
use Rattle.gx_edit.specs.declared.editor.Editor.{Editor}
use Rattle.gx_edit.specs.declared.error.EditError.{EditError}
use Rattle.gx_edit.specs.declared.error.EditError.TheVariants as edit_error
use Rattle.gx_edit.specs.declared.path_edit.PathEdit.{PathEdit}
use Rattle.gx_refs.specs.Prepared.{Prepares}
use Rattle.gix.specs.declared.settings.Settings.{Settings}
use Rattle.gix.specs.declared.error.CommitEditsError.{CommitEditsError}
use Rattle.gix.specs.declared.error.CommitEditsError.TheVariants.{FindExistingObject, ObjectKind, Decode, EmptyPathComponent, WriteObject, Store, NoMemory}
use Rattle.gix.specs.declared.edits.Edited.{Edited}
use Rattle.gix.specs.declared.plan.Plan.{Plan}
use Rattle.gix.specs.declared.plan.NewObjects.{NewObjects}
use Rattle.gix.specs.CommitRequest.{CommitRequest}
use Rattle.gix.specs.Lifting.{lifted}
use Rattle.gix.specs.View.{view_of}
use Rattle.gix.specs.Base.{IsBaseTree}
use Rattle.gix.specs.Trees.{WhereLoaded, IsLoadedBy, EditsView, MayWrite, have_names}
use Rattle.gix.specs.Reference.{commit_terms, edits_of}
use Rattle.gix.specs.Admission.{MayStore, IsAdmitted}
use Rattle.gix.specs.NewCommit.{commit_text, commit_id}
use Rattle.gix.specs.Causes.{SpellsNone, IsFirstGap, CommitEditsCauses}

-- Why a stage refuses, which reads alone.
abbrev pub StageCauses : Settings → CommitRequest → StoreState → CommitEditsError → Type 0
StageCauses settings r state (Store what.Write) = ⊥
StageCauses settings r state refusal = CommitEditsCauses settings r state state refusal

-- why the object of a kind at an id is not known
abbrev pub ReadCauses : StoreState → Kind → ObjectId → CommitEditsError → Type 0
ReadCauses state wanted id (FindExistingObject named) = (named ≡ id)
    × IfSome state.content (λ content. lookup content id ≡ None)
ReadCauses state wanted id (ObjectKind named actual) = (named ≡ id)
    × IfSome state.content (λ content. (actual ≢ wanted) × (bytes : List ℕ)
    × (lookup content id ≡ Some (actual, bytes)))
ReadCauses state wanted id (Decode named) = (named ≡ id) × IfSome state.content (λ content.
    (bytes : List ℕ) × (lookup content id ≡ Some (wanted, bytes)) × SpellsNone state.hash wanted bytes)
ReadCauses state wanted id (Store fault) = IsUnreadable state (what.Object id) fault
ReadCauses state wanted id NoMemory = Unit {0}
ReadCauses state wanted id refusal = ⊥

-- an editor of the base
pub record IsBaseEditor (r : CommitRequest) (state : StoreState) (editor : Editor) : Type 0 where
  pub hash : hash_of editor ≡ state.hash
  pub entries : List Entry
  pub is_base : IsBaseTree (view_of state) r.parents entries
  pub fresh : directories_of editor ≡ only (names_of entries)

-- the ids of the blobs of edits
abbrev pub blob_ids : HashKind → List PathEdit → List ObjectId
blob_ids hash edits = map (id_of hash) (blobs_of edits)

-- ---- edits

-- an entry is put at a path, which has no empty component, and the trees that this loads can be read
pub record IsPutAt (state : StoreState) (old : directories.View) (path : List ℕ) (kind : EntryKind) (id : ObjectId)
    (new : directories.View) : Type 0 where
  pub named : has_empty_name (components path) ≡ false
  pub loads : LoadsAll state old (components path)
  pub view : WhereLoaded (view_of state) (λ load. new ≡ upserted_entry state.hash load old (components path) kind id)

-- One edit is made of the directories. Its id is not null, and the trees that it loads can be read.
pub record IsMadeBy (state : StoreState) (old : directories.View) (edit : PathEdit)
    (new : directories.View) : Type 0 where
  pub own : PutsOwnId state.hash edit
  pub loads : LoadsAll state old (components (path_of edit))
  pub view : WhereLoaded (view_of state) (λ load. new ≡ view_with state.hash load old edit)

-- why an edit at a path is not made
abbrev pub EditRefusedAt : StoreState → directories.View → List ℕ → EditError → Type 0
EditRefusedAt state old path edit_error.NoMemory = Unit {0}
EditRefusedAt state old path refusal = EditCauses state old (components path) refusal

-- the same of an edit, at its path
abbrev pub EditRefused : StoreState → directories.View → PathEdit → EditError → Type 0
EditRefused state old edit refusal = EditRefusedAt state old (path_of edit) refusal

-- A refusal of an edit is handed on; an empty component is told by the edit's path, for which there may be no memory.
abbrev pub IsToldAs : PathEdit → EditError → CommitEditsError → Type 0
IsToldAs edit edit_error.EmptyPathComponent told = (told ≡ EmptyPathComponent (path_of edit)) ⊎ (told ≡ NoMemory)
IsToldAs edit refusal told = told ≡ lifted refusal

-- the edits are made of the directories, and their blobs' ids kept
pub record IsEdited (state : StoreState) (start : directories.View) (edits : List PathEdit)
    (result : Edited) : Type 0 where
  pub hash : hash_of result.editor ≡ state.hash
  pub named : have_names edits ≡ true
  pub own : AllByRecursion (PutsOwnId state.hash) edits
  pub read : (id : ObjectId) → IsLoadedBy (view_of state) start edits id
      → IfSome state.content (λ content. IsReadable state.hash content id)
  pub is_end : WhereLoaded (view_of state) (λ load. directories_of result.editor
      ≡ edited_view state.hash load start edits)
  pub blobs : result.blobs.items ≡ blob_ids state.hash edits

-- why edits are not made
abbrev pub EditsCauses : StoreState → directories.View → List PathEdit → CommitEditsError → Type 0
EditsCauses state start edits (EmptyPathComponent path) = IsFirstGap edits path
EditsCauses state start edits NoMemory = Unit {0}
EditsCauses state start edits refusal = (id : ObjectId) × IsLoadedBy (view_of state) start edits id
    × ReadCauses state kind.Tree id refusal

-- The objects of a request: the ids of its blobs, its trees, and its commit with its id.
pub record AreObjects (hash : HashKind) (r : CommitRequest) (objects : NewObjects) : Type 0 where
  pub blobs : objects.blobs.items ≡ blob_ids hash r.edits
  pub trees : objects.trees.hash ≡ hash
  pub commit : objects.commit ≡ commit_text r objects.trees
  pub is_id : objects.id ≡ commit_id hash r objects.trees

-- objects that may be written
pub record AreStorable (settings : Settings) (r : CommitRequest) (state : StoreState)
    (objects : NewObjects) : Type 0 where
  pub may : MayStore settings r (view_of state) objects.trees
  pub are : AreObjects state.hash r objects

-- the directories as a request leaves them, with the ids of its blobs
pub record IsEditedBy (r : CommitRequest) (state : StoreState) (result : Edited) : Type 0 where
  pub hash : hash_of result.editor ≡ state.hash
  pub edits : EditsView r (view_of state) (directories_of result.editor)
  pub blobs : result.blobs.items ≡ blob_ids state.hash r.edits

-- the trees of a request, which may be written
pub record AreTreesOf (settings : Settings) (r : CommitRequest) (state : StoreState) (trees : Output) : Type 0 where
  pub may : MayWrite settings r (view_of state) trees
  pub hash : trees.hash ≡ state.hash

-- why an identity is refused
abbrev pub IdentityCauses : CommitRequest → CommitEditsError → Type 0
IdentityCauses r (WriteObject field) = are_writable r.author r.committer field ≡ false
IdentityCauses r refusal = ⊥

-- What is to be written: the objects of a request that may be made, and the changes of its references.
pub record IsPlan (settings : Settings) (r : CommitRequest) (state : StoreState) (plan : Plan) : Type 0 where
  pub admitted : IsAdmitted settings r (view_of state) plan.objects.trees
  pub objects : AreObjects state.hash r plan.objects
  pub ready : Prepares (commit_terms settings r) state.references (edits_of r plan.objects.id) plan.prepared
  pub kinds : AreChangesOfKind state.hash plan.prepared.changes
