-- Edits of one kind, and one more.
use Rattle.std.proofs.Common.{◌≡◌, sym, subst, List, [], ◌∷◌, ◌++◌}
use Rattle.gx_hash.specs.declared.kind.HashKind.{HashKind}
use Rattle.gx_refs.specs.Prepared.{AreEditsOfKind, SetsKind}
use Rattle.gx_refs.specs.declared.edit.RefEdit.{RefEdit}

joined : (hash : HashKind) (old : List RefEdit) (edit : RefEdit) → AreEditsOfKind hash old → SetsKind hash edit.change → AreEditsOfKind hash (old ++ edit ∷ [])
joined hash [] edit all sets = (sets, tt)
joined hash (first ∷ old) edit all sets = (all.0, joined hash old edit all.1 sets)

pub one_edit_more : (hash : HashKind) (old new : List RefEdit) (edit : RefEdit) → new ≡ old ++ edit ∷ [] → AreEditsOfKind hash old → SetsKind hash edit.change → AreEditsOfKind hash new
one_edit_more hash old new edit is all sets = subst (AreEditsOfKind hash) (sym is) (joined hash old edit all sets)
