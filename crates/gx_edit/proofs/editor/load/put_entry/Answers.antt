use Rattle.std.proofs.Common.{refl}
use Rattle.gx_edit.proofs.FinMapLemmas.{inserted}
use Rattle.gx_edit.proofs.PlaceLemmas.{same_place}
use Rattle.gx_edit.proofs.editor.load.put_entry.Goals as goal

pub returns : goal.returns
returns c = same_place _ _ (rw c.into_vec.ensures at (inserted c.args.node.now.names.entries c.insert.new.self.entries c.into_vec.result _ c.in_ok-insert.ensures.entries)) refl
