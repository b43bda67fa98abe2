-- What a list of edits makes of an editor's view.
use Rattle.std.specs.Prelude.{◌≢◌, ℕ, Bool, List, [], ◌∷◌, Contains}
use Rattle.gx_hash.specs.declared.kind.HashKind.{HashKind}
use Rattle.gx_hash.specs.declared.oid.ObjectId.{ObjectId}
use Rattle.gx_hash.specs.HashKind.{kind_of}
use Rattle.gx_hash.specs.ObjectId.{null_id}
use Rattle.gx_object.specs.declared.tree.EntryKind.TheVariants as entry_kind
use Rattle.gx_object.specs.Mode.{mode_of}
use Rattle.gx_edit.specs.Path.{Path, components}
use Rattle.gx_edit.specs.PathMap.{blob_id, file_mode, path_of}
use Rattle.gx_edit.specs.StandsForMap.{IsAbove, item_of}
use Rattle.gx_edit.specs.View.{Names, View, upserted, removed}
use Rattle.gx_edit.specs.declared.leaf.Leaf.{Leaf}
use Rattle.gx_edit.specs.declared.path_edit.PathEdit.{PathEdit}
use Rattle.gx_edit.specs.declared.path_edit.PathEdit.TheVariants.{File, Link, Module, Remove}

-- the leaf that a file's edit puts
abbrev pub file_leaf : HashKind → List ℕ → Bool → Leaf
file_leaf hash bytes executable = record { mode = record { value = file_mode executable }; id = blob_id hash bytes }

-- the leaf that a link's edit puts
abbrev pub link_leaf : HashKind → List ℕ → Leaf
link_leaf hash bytes = record { mode = record { value = mode_of entry_kind.Link }; id = blob_id hash bytes }

-- the leaf that a submodule's edit puts
abbrev pub module_leaf : ObjectId → Leaf
module_leaf id = record { mode = record { value = mode_of entry_kind.Commit }; id = id }

module _ (hash : HashKind) (load : ObjectId → Names) where
  -- a leaf is put at a written path
  abbrev pub leaf_put : View → List ℕ → Leaf → View
  leaf_put v path leaf = upserted hash load v (components path) (item_of leaf)

  -- what one edit makes of a view
  abbrev pub view_with : View → PathEdit → View
  view_with v (File path bytes executable) = leaf_put v path (file_leaf hash bytes executable)
  view_with v (Link path bytes) = leaf_put v path (link_leaf hash bytes)
  view_with v (Module path id) = leaf_put v path (module_leaf id)
  view_with v (Remove path) = removed hash load v (components path)

  -- Edits are made one after another, each on what the ones before it left.
  abbrev pub edited_view : View → List PathEdit → View
  edited_view v [] = v
  edited_view v (edit ∷ edits) = edited_view (view_with v edit) edits

-- The id that an edit puts is not null. (git-fsck(1), "nullSha1")
abbrev pub PutsOwnId : HashKind → PathEdit → Type 0
PutsOwnId hash (File path bytes executable) = blob_id hash bytes ≢ null_id (kind_of (blob_id hash bytes))
PutsOwnId hash (Link path bytes) = blob_id hash bytes ≢ null_id (kind_of (blob_id hash bytes))
PutsOwnId hash (Module path id) = id ≢ null_id (kind_of id)
PutsOwnId hash (Remove path) = Unit {0}

-- the path leads to that of one of the edits
pub record LeadsToEdit (edits : List PathEdit) (q : Path) : Type 0 where
  pub edit : PathEdit
  pub among : Contains edits edit
  pub above : IsAbove q (components (path_of edit))
