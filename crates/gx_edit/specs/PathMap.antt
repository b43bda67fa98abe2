-- Path maps: which leaf stands at each path, and what edits make of that.
use Rattle.std.specs.Prelude.{ℕ, Bool, true, false, ◌||◌, if◌then◌else◌, List, [], ◌∷◌, ◌++◌, Option, Some, None}
use Rattle.gx_hash.specs.declared.kind.HashKind.{HashKind}
use Rattle.gx_hash.specs.declared.oid.ObjectId.{ObjectId}
use Rattle.gx_hash.specs.ObjectId.{object_id}
use Rattle.gx_object.specs.declared.kind.Kind.{Kind}
use Rattle.gx_object.specs.declared.kind.Kind.TheVariants as kind
use Rattle.gx_object.specs.declared.tree.EntryKind.TheVariants as entry_kind
use Rattle.gx_object.specs.Kind.{kind_name}
use Rattle.gx_object.specs.Mode.{mode_of}
use Rattle.gx_edit.specs.Path.{Path, path_eq, leads_to, components}
use Rattle.gx_edit.specs.declared.leaf.Leaf.{Leaf}
use Rattle.gx_edit.specs.declared.path_edit.PathEdit.{PathEdit}
use Rattle.gx_edit.specs.declared.path_edit.PathEdit.TheVariants.{File, Link, Module, Remove}

-- A path map says which leaf stands at a path.
abbrev pub PathMap : Type 0
PathMap = Path → Option Leaf

-- the map of the empty tree
abbrev pub no_paths : PathMap
no_paths q = None

-- Putting a leaf at a path takes away what stands above the path and below it, since a name is a leaf or a directory
-- and never both. (git-fast-import(1), "filemodify")
abbrev pub put : PathMap → Path → Leaf → PathMap
put m p leaf q = if path_eq p q then Some leaf else if leads_to p q || leads_to q p then None else m q

-- Dropping a path takes it away with all that stands below it. (git-fast-import(1), "filedelete")
abbrev pub dropped : PathMap → Path → PathMap
dropped m p q = if leads_to p q then None else m q

-- the blob that these bytes are, by its id
abbrev pub blob_id : HashKind → List ℕ → ObjectId
blob_id hash bytes = object_id hash (kind_name kind.Blob) bytes

-- the mode of a file
abbrev pub file_mode : Bool → ℕ
file_mode true = mode_of entry_kind.BlobExecutable
file_mode false = mode_of entry_kind.Blob

-- what one edit makes of a map
abbrev pub with_edit : HashKind → PathMap → PathEdit → PathMap
with_edit hash m (File path bytes executable) = put m (components path)
    (record { mode = record { value = file_mode executable }; id = blob_id hash bytes })
with_edit hash m (Link path bytes) = put m (components path)
    (record { mode = record { value = mode_of entry_kind.Link }; id = blob_id hash bytes })
with_edit hash m (Module path id) = put m (components path)
    (record { mode = record { value = mode_of entry_kind.Commit }; id = id })
with_edit hash m (Remove path) = dropped m (components path)

-- Edits are made one after another, each on what the ones before it left.
abbrev pub edited : HashKind → PathMap → List PathEdit → PathMap
edited hash m [] = m
edited hash m (edit ∷ edits) = edited hash (with_edit hash m edit) edits

-- the blobs of an edit
abbrev pub blobs_in : PathEdit → List (Kind × List ℕ)
blobs_in (File path bytes executable) = (kind.Blob, bytes) ∷ []
blobs_in (Link path bytes) = (kind.Blob, bytes) ∷ []
blobs_in (Module path id) = []
blobs_in (Remove path) = []

-- the blobs that edits bring, those of paths that a later edit takes away too
abbrev pub blobs_of : List PathEdit → List (Kind × List ℕ)
blobs_of [] = []
blobs_of (edit ∷ edits) = blobs_in edit ++ blobs_of edits

-- the path that an edit is made at
abbrev pub path_of : PathEdit → List ℕ
path_of (File path bytes executable) = path
path_of (Link path bytes) = path
path_of (Module path id) = path
path_of (Remove path) = path
