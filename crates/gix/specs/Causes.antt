-- Why a commit of edits is refused.
use Rattle.std.specs.Prelude.{◌≡◌, ◌≢◌, ◌⊎◌, ℕ, true, false, List, ◌∷◌, ◌++◌, map, Option, Some, None, IsTrue, IfSome}
use Rattle.gx_hash.specs.declared.kind.HashKind.{HashKind}
use Rattle.gx_hash.specs.declared.oid.ObjectId.{ObjectId}
use Rattle.gx_rules.specs.Component.{IsFirstViolated}
use Rattle.gx_object.specs.declared.kind.Kind.{Kind}
use Rattle.gx_object.specs.declared.kind.Kind.TheVariants as kind
use Rattle.gx_object.specs.declared.encode.Field.{Field}
use Rattle.gx_object.specs.declared.encode.Field.TheVariants.{FileName}
use Rattle.gx_object.specs.declared.tree.Entry.{Entry}
use Rattle.gx_object.specs.declared.tree.EntryKind.TheVariants as entry_kind
use Rattle.gx_object.specs.CommitSpelling.{CommitText, SpellsCommit}
use Rattle.gx_object.specs.Identity.{are_writable}
use Rattle.gx_object.specs.Mode.{kind_of_mode}
use Rattle.gx_object.specs.Tree.{is_writable_filename}
use Rattle.gx_object.specs.TreeSpelling.{SpellsTree}
use Rattle.gx_store.specs.Content.{IsStored, lookup, id_of}
use Rattle.gx_store.specs.Faults.{Rose}
use Rattle.gx_store.specs.State.{StoreState}
use Rattle.gx_store.specs.declared.error.StoreError.{StoreError}
use Rattle.gx_store.specs.declared.error.StoreError.TheVariants as store_error
use Rattle.gx_store.specs.declared.error.What.{What}
use Rattle.gx_store.specs.declared.error.What.TheVariants as what
use Rattle.gx_hash.specs.ObjectIds.{has_id}
use Rattle.gx_edit.specs.PathMap.{path_of}
use Rattle.gx_edit.specs.Entries.{IsEntry, is_link}
use Rattle.gx_edit.specs.Output.{Output, SomeEntry}
use Rattle.gx_edit.specs.declared.path_edit.PathEdit.{PathEdit}
use Rattle.gx_refs.specs.EditCauses.{EditRefusal, IsEditFault}
use Rattle.gx_refs.specs.declared.error.RefError.{RefError}
use Rattle.gx_refs.specs.declared.error.RefError.TheVariants as ref_error
use Rattle.gix.specs.declared.settings.Settings.{Settings}
use Rattle.gix.specs.declared.error.CommitEditsError.{CommitEditsError}
use Rattle.gix.specs.declared.error.CommitEditsError.TheVariants.{FindExistingObject, ObjectKind, Decode, EmptyPathComponent, InvalidFilename, MissingObject, WriteObject, Cycle, DepthLimitExceeded, MustExist, MustNotExist, ReferenceOutOfDate, NameConflict, Store, NoMemory}
use Rattle.gix.specs.CommitRequest.{CommitRequest}
use Rattle.gix.specs.View.{View, view_of}
use Rattle.gix.specs.Base.{HasTree, IsBaseTree, OfFirst}
use Rattle.gix.specs.Trees.{has_gap, have_names, IsLoaded, Makes, brought, MayWrite}
use Rattle.gix.specs.Admission.{MayStore}
use Rattle.gix.specs.NewCommit.{commit_id}
use Rattle.gix.specs.Reference.{commit_terms, edits_of}

-- ---- what is read

-- An object that is read has to be of a kind: the first parent a commit; its tree, and each directory that an edit
-- loads, a tree.
abbrev pub IsReadAs : CommitRequest → View → ObjectId → Kind → Type 0
IsReadAs r view id kind.Commit = OfFirst r.parents (λ parent. id ≡ parent)
IsReadAs r view id kind.Tree =
    OfFirst r.parents (λ parent. IfSome view.content (λ content. HasTree view.hash content parent id))
    ⊎ IsLoaded r view id
IsReadAs r view id kind.Blob = ⊥
IsReadAs r view id kind.Tag = ⊥

-- it is not stored
pub record IsAbsent (r : CommitRequest) (view : View) (id : ObjectId) : Type 0 where
  pub wanted : Kind
  pub read : IsReadAs r view id wanted
  pub absent : IfSome view.content (λ content. lookup content id ≡ None)

-- it is of another kind
pub record IsOther (r : CommitRequest) (view : View) (id : ObjectId) (actual : Kind) : Type 0 where
  pub wanted : Kind
  pub read : IsReadAs r view id wanted
  pub other : IfSome view.content (λ content. (actual ≢ wanted) × (bytes : List ℕ)
      × (lookup content id ≡ Some (actual, bytes)))

-- the bytes spell no object of the kind
abbrev pub SpellsNone : HashKind → Kind → List ℕ → Type 0
SpellsNone hash kind.Commit bytes = (text : CommitText) → ¬ SpellsCommit hash bytes text
SpellsNone hash kind.Tree bytes = (entries : List Entry) → ¬ SpellsTree hash bytes entries
SpellsNone hash kind.Blob bytes = ⊥
SpellsNone hash kind.Tag bytes = ⊥

-- it is of the kind, and its bytes spell none
pub record IsBad (r : CommitRequest) (view : View) (id : ObjectId) : Type 0 where
  pub wanted : Kind
  pub read : IsReadAs r view id wanted
  pub bad : IfSome view.content (λ content. (bytes : List ℕ) × (lookup content id ≡ Some (wanted, bytes))
      × SpellsNone view.hash wanted bytes)

-- ---- the edits and their trees

-- The path is that of the first edit whose path has an empty component.
pub record IsFirstGap (edits : List PathEdit) (path : List ℕ) : Type 0 where
  pub before : List PathEdit
  pub edit : PathEdit
  pub after : List PathEdit
  pub split : edits ≡ before ++ edit ∷ after
  pub named : have_names before ≡ true
  pub gap : has_gap edit ≡ true
  pub is_path : path ≡ path_of edit

-- an entry of the trees that the request makes has the property
pub record OfEntry (r : CommitRequest) (view : View) (P : Output → Entry → Type 0) : Type 0 where
  pub output : Output
  pub makes : Makes r view output
  pub some : SomeEntry output (P output)

-- the entry is no submodule, and what it names is neither stored nor brought
pub record IsMissing (r : CommitRequest) (view : View) (output : Output) (entry : Entry) : Type 0 where
  pub no_submodule : kind_of_mode entry.mode.value ≢ entry_kind.Commit
  pub not_brought : has_id (map (id_of view.hash) (brought r output)) entry.oid ≡ false
  pub not_stored : IfSome view.content (λ content. ¬ IsStored content entry.oid)

-- What the entry names is looked for among the stored objects: it is no submodule, whose commit stands in another
-- repository, and no object that the request brings. (gitsubmodules(7))
pub record IsSought (r : CommitRequest) (view : View) (output : Output) (entry : Entry) (id : ObjectId) : Type 0 where
  pub no_submodule : kind_of_mode entry.mode.value ≢ entry_kind.Commit
  pub not_brought : has_id (map (id_of view.hash) (brought r output)) entry.oid ≡ false
  pub is_id : entry.oid ≡ id

-- A field that can't be written is a name in a tree, or, where the trees may be written, a part of an identity. (Git,
-- "Git Internals - Git Objects", "Tree Objects")
abbrev pub IsUnwritable : Settings → CommitRequest → View → Field → Type 0
IsUnwritable settings r view FileName = OfEntry r view (λ output entry. is_writable_filename entry.filename ≡ false)
IsUnwritable settings r view field = (output : Output) × MayWrite settings r view output
    × (are_writable r.author r.committer field ≡ false)

-- ---- the reference

-- The request's objects may be written, and the edit of its reference is refused.
pub record IsMoveRefused (settings : Settings) (r : CommitRequest) (view : View) (refusal : RefError) : Type 0 where
  pub output : Output
  pub may : MayStore settings r view output
  pub refused : EditRefusal (commit_terms settings r) view.references (edits_of r (commit_id view.hash r output))
      refusal

-- The request's objects may be written, and what the edit of its reference reads can't be.
pub record IsMoveFault (settings : Settings) (r : CommitRequest) (state : StoreState) (fault : What) : Type 0 where
  pub output : Output
  pub may : MayStore settings r (view_of state) output
  pub unread : IsEditFault (commit_terms settings r) state (edits_of r (commit_id state.hash r output)) fault

-- ---- causes

-- Why the machine refuses a commit: what the request holds, and what is stored, where that is told. Causes of a later
-- stage come only where those before are passed: the base, the edits, the trees, the identities, the reference. A fault
-- of the store and lack of memory are none of its refusals.
abbrev pub Cause : Settings → CommitRequest → View → CommitEditsError → Type 0
Cause settings r view (FindExistingObject id) = IsAbsent r view id
Cause settings r view (ObjectKind id actual) = IsOther r view id actual
Cause settings r view (Decode id) = IsBad r view id
Cause settings r view (EmptyPathComponent path) = ((entries : List Entry) × IsBaseTree view r.parents entries)
    × IsFirstGap r.edits path
Cause settings r view (InvalidFilename filename kind id source) =
    OfEntry r view (λ output entry. IsEntry entry filename kind id
    × IsFirstViolated filename (is_link entry) settings.protect source)
Cause settings r view (MissingObject filename kind id) =
    OfEntry r view (λ output entry. IsEntry entry filename kind id × IsMissing r view output entry)
Cause settings r view (WriteObject field) = IsUnwritable settings r view field
Cause settings r view (Cycle name) = IsMoveRefused settings r view (ref_error.Cycle name)
Cause settings r view (DepthLimitExceeded name) = IsMoveRefused settings r view (ref_error.DepthLimitExceeded name)
Cause settings r view (MustExist name) = IsMoveRefused settings r view (ref_error.MustExist name)
Cause settings r view (MustNotExist name actual) = IsMoveRefused settings r view (ref_error.MustNotExist name actual)
Cause settings r view (ReferenceOutOfDate name expected actual) =
    IsMoveRefused settings r view (ref_error.ReferenceOutOfDate name expected actual)
Cause settings r view (NameConflict name other) = IsMoveRefused settings r view (ref_error.NameConflict name other)
Cause settings r view (Store fault) = ⊥
Cause settings r view NoMemory = ⊥

-- ---- faults of the store

-- what is read of the objects, and what is sought at an entry of the new trees
abbrev pub IsObjectRead : CommitRequest → View → ObjectId → Type 0
IsObjectRead r view id = ((wanted : Kind) × IsReadAs r view id wanted)
    ⊎ OfEntry r view (λ output entry. IsSought r view output entry id)

-- A store's fault names what could not be read, or comes of a write that failed.
abbrev pub HasFault : Settings → CommitRequest → StoreState → StoreState → What → Type 0
HasFault settings r old new (what.Object id) = IsTrue (old.unreadable (what.Object id))
    × IsObjectRead r (view_of old) id
HasFault settings r old new (what.Name name) = IsTrue (old.unreadable (what.Name name))
    × IsMoveFault settings r old (what.Name name)
HasFault settings r old new what.Index = ⊥
HasFault settings r old new what.Listing = IsTrue (old.unreadable what.Listing)
    × IsMoveFault settings r old what.Listing
HasFault settings r old new what.Write = Rose old.faults new.faults

-- Nothing is unreadable, and no fault of writing was counted.
pub record IsFaultless (old new : StoreState) : Type 0 where
  pub readable : (part : What) → old.unreadable part ≡ false
  pub quiet : ¬ Rose old.faults new.faults

-- a store's refusal is handed on
abbrev pub handed_on : StoreError → CommitEditsError
handed_on store_error.NoMemory = NoMemory
handed_on (store_error.Fault fault) = Store fault

-- Why a commit of edits is refused. Lack of memory needs no cause.
abbrev pub CommitEditsCauses : Settings → CommitRequest → StoreState → StoreState → CommitEditsError → Type 0
CommitEditsCauses settings r old new (Store fault) = HasFault settings r old new fault
CommitEditsCauses settings r old new NoMemory = Unit {0}
CommitEditsCauses settings r old new refusal = Cause settings r (view_of old) refusal

-- what of an error is the store's; nothing of a refusal
abbrev pub store_part : CommitEditsError → Option StoreError
store_part (Store fault) = Some (store_error.Fault fault)
store_part NoMemory = Some store_error.NoMemory
store_part refusal = None
