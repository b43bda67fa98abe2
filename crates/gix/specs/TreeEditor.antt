-- What contracts see of an editor of a repository's tree, and why there is none.
use Rattle.std.specs.Prelude.{◌≡◌}
use Rattle.gx_hash.specs.declared.oid.ObjectId.{ObjectId}
use Rattle.gx_object.specs.declared.kind.Kind.TheVariants as kind
use Rattle.gx_rules.specs.declared.component_rules.Protect.{Protect}
use Rattle.gx_store.specs.State.{StoreState}
use Rattle.gx_edit.specs.OpenTree.{LoadCauses}
use Rattle.gx_edit.specs.declared.editor.Editor as edit
use Rattle.gx_edit.specs.declared.error.EditError.{EditError}
use Rattle.gx_edit.specs.declared.error.EditError.TheVariants as edit_error
use Rattle.gix.specs.declared.object.tree.editor.Editor.{Editor}
use Rattle.gix.specs.declared.object.tree.error.EditTreeError.{EditTreeError}
use Rattle.gix.specs.declared.object.tree.error.EditTreeError.TheVariants.{NotFound, ObjectKind, Decode, Store, NoMemory}

-- the same without its protections
abbrev pub detached : Editor → edit.Editor
detached editor = editor.inner

-- the protections that it writes with
abbrev pub protect_of : Editor → Protect
protect_of editor = editor.protect

-- Why the tree at the id is not edited: it is not loaded.
abbrev pub EditTreeCauses : StoreState → ObjectId → EditTreeError → Type 0
EditTreeCauses state id (NotFound named) = LoadCauses state id (edit_error.FindExistingObject named)
EditTreeCauses state id (ObjectKind named expected actual) = (expected ≡ kind.Tree)
    × LoadCauses state id (edit_error.ObjectKind named actual)
EditTreeCauses state id (Decode named) = LoadCauses state id (edit_error.Decode named)
EditTreeCauses state id (Store fault) = LoadCauses state id (edit_error.Store fault)
EditTreeCauses state id NoMemory = LoadCauses state id edit_error.NoMemory

-- how the refusal of a tree that is not loaded is handed on; it is none of the others
abbrev pub told_as : EditError → EditTreeError
told_as (edit_error.FindExistingObject id) = NotFound id
told_as (edit_error.ObjectKind id actual) = ObjectKind id kind.Tree actual
told_as (edit_error.Decode id) = Decode id
told_as (edit_error.Store fault) = Store fault
told_as refusal = NoMemory
