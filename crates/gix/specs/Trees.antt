-- The trees that a request makes of its base.
use Rattle.std.specs.Prelude.{◌≡◌, ◌≢◌, ◌⊎◌, ℕ, Bool, true, false, not, List, ◌∷◌, ◌++◌, map, Some, IfSome}
use Rattle.std.specs.List.{list_all, AllByRecursion}
use Rattle.gx_hash.specs.declared.oid.ObjectId.{ObjectId}
use Rattle.gx_hash.specs.ObjectIds.{has_id}
use Rattle.gx_object.specs.declared.kind.Kind.{Kind}
use Rattle.gx_object.specs.declared.tree.Entry.{Entry}
use Rattle.gx_object.specs.declared.tree.EntryKind.TheVariants as entry_kind
use Rattle.gx_object.specs.Mode.{kind_of_mode}
use Rattle.gx_store.specs.Content.{IsStored, id_of}
use Rattle.gx_edit.specs.Path.{components}
use Rattle.gx_edit.specs.PathMap.{PathMap, edited, blobs_of, path_of}
use Rattle.gx_edit.specs.PathList.{has_empty_name}
use Rattle.gx_edit.specs.EditorCauses.{IsOnWay}
use Rattle.gx_edit.specs.EditorWriting.{AreSpelled}
use Rattle.gx_edit.specs.Entries.{IsSafe}
use Rattle.gx_edit.specs.Output.{Output}
use Rattle.gx_edit.specs.View as directories
use Rattle.gx_edit.specs.View.{Names, IsLoad, names_of, only}
use Rattle.gx_edit.specs.StoredTree.{IsReadable}
use Rattle.gx_edit.specs.ViewOfEdits.{edited_view, PutsOwnId}
use Rattle.gx_edit.specs.Written.{IsOutputOfView}
use Rattle.gx_edit.specs.declared.path_edit.PathEdit.{PathEdit}
use Rattle.gix.specs.declared.settings.Settings.{Settings}
use Rattle.gix.specs.CommitRequest.{CommitRequest}
use Rattle.gix.specs.View.{View}
use Rattle.gix.specs.Base.{IsBaseTree, IsBase}

-- A component of the edit's path is empty.
abbrev pub has_gap : PathEdit → Bool
has_gap edit = has_empty_name (components (path_of edit))

-- No component of a path of the edits is empty.
abbrev pub have_names : List PathEdit → Bool
have_names edits = list_all (λ edit. not (has_gap edit)) edits

-- ---- the directories that edits load, and what they make of them

-- what holds of whatever loads the stored trees, where these are told
abbrev pub WhereLoaded : View → ((ObjectId → Names) → Type 0) → Type 0
WhereLoaded view P = IfSome view.content (λ content. (load : ObjectId → Names) → IsLoad view.hash content load → P load)

-- One of the edits loads the tree of this id: the edits before it are made, and the tree is that of a directory on the
-- way to its path, which is not loaded yet.
pub record IsLoadedBy (view : View) (start : directories.View) (edits : List PathEdit) (id : ObjectId) : Type 0 where
  pub before : List PathEdit
  pub edit : PathEdit
  pub after : List PathEdit
  pub split : edits ≡ before ++ edit ∷ after
  pub named : have_names before ≡ true
  pub own : AllByRecursion (PutsOwnId view.hash) before
  pub whole : has_gap edit ≡ false
  pub on_way : WhereLoaded view
      (λ load. IsOnWay view.hash load (edited_view view.hash load start before) (components (path_of edit)) id)

-- An edit of the request loads the tree of this id, from the base on.
pub record IsLoaded (r : CommitRequest) (view : View) (id : ObjectId) : Type 0 where
  pub entries : List Entry
  pub is_base : IsBaseTree view r.parents entries
  pub loaded : IsLoadedBy view (only (names_of entries)) r.edits id

-- The directories as a request leaves them: its edits are made one after another, from the base on. No component of
-- their paths is empty, each puts an id that is not null, and each tree that they load can be read.
-- (git-fast-import(1), "filemodify" and "filedelete")
pub record EditsView (r : CommitRequest) (view : View) (end : directories.View) : Type 0 where
  pub entries : List Entry
  pub is_base : IsBaseTree view r.parents entries
  pub named : have_names r.edits ≡ true
  pub own : AllByRecursion (PutsOwnId view.hash) r.edits
  pub read : (id : ObjectId) → IsLoadedBy view (only (names_of entries)) r.edits id
      → IfSome view.content (λ content. IsReadable view.hash content id)
  pub is_end : WhereLoaded view (λ load. end ≡ edited_view view.hash load (only (names_of entries)) r.edits)

-- the trees that are written of those directories
pub record Makes (r : CommitRequest) (view : View) (output : Output) : Type 0 where
  pub end : directories.View
  pub edits : EditsView r view end
  pub written : IsOutputOfView view.hash end output

-- the blobs and trees that a request brings
abbrev pub brought : CommitRequest → Output → List (Kind × List ℕ)
brought r output = blobs_of r.edits ++ output.trees

-- The entry is a submodule, whose commit stands in another repository, or names what is stored or
-- brought. (gitsubmodules(7))
abbrev pub IsFound : View → List (Kind × List ℕ) → Entry → Type 0
IsFound view objects entry = kind_of_mode entry.mode.value ≢ entry_kind.Commit
    → IfSome view.content (λ content. IsStored content entry.oid
    ⊎ (has_id (map (id_of view.hash) objects) entry.oid ≡ true))

-- The trees that a request makes may be written: each name in them can be spelled and may be checked out, and each
-- entry names what is there.
pub record MayWrite (settings : Settings) (r : CommitRequest) (view : View) (output : Output) : Type 0 where
  pub makes : Makes r view output
  pub spelled : AreSpelled output
  pub safe : AllByRecursion (IsSafe (Some settings.protect)) output.entries
  pub found : AllByRecursion (IsFound view (brought r output)) output.entries

-- ---- requests whose base has a path map

-- The map that a request makes: its edits are made one after another on its base, and no component of their paths is
-- empty. (git-fast-import(1), "filemodify" and "filedelete")
pub record Edits (r : CommitRequest) (view : View) (m : PathMap) : Type 0 where
  pub base : PathMap
  pub is_base : IsBase view r.parents base
  pub named : have_names r.edits ≡ true
  pub is_map : m ≡ edited view.hash base r.edits
