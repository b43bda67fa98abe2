-- Why a tree is not edited.
use Rattle.std.proofs.Common.{refl}
use Rattle.gx_hash.specs.declared.oid.ObjectId.{ObjectId}
use Rattle.gx_store.specs.State.{StoreState}
use Rattle.gx_edit.specs.OpenTree.{LoadCauses}
use Rattle.gx_edit.specs.declared.error.EditError.{EditError}
use Rattle.gx_edit.specs.declared.error.EditError.TheVariants as edit_error
use Rattle.gix.specs.TreeEditor.{EditTreeCauses, told_as}

pub not_edited : (s : StoreState) (id : ObjectId) (e : EditError) → LoadCauses s id e → EditTreeCauses s id (told_as e)
not_edited s id (edit_error.FindExistingObject named) c = c
not_edited s id (edit_error.ObjectKind named actual) c = (refl, c)
not_edited s id (edit_error.Decode named) c = c
not_edited s id (edit_error.Store fault) c = c
not_edited s id edit_error.NoMemory c = c
not_edited s id edit_error.EmptyPathComponent c = absurd c
not_edited s id edit_error.IsTree c = absurd c
not_edited s id (edit_error.InvalidFilename filename k named source) c = absurd c
not_edited s id (edit_error.MissingObject filename k named) c = absurd c
not_edited s id (edit_error.WriteObject field) c = absurd c
