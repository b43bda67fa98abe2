use Rattle.std.proofs.Common.{refl, subst, List}
use Rattle.std.proofs.lemmas.Result.{err_from_is_err_and}
use Rattle.gx_object.specs.declared.tree.Entry.{Entry}
use Rattle.gx_edit.specs.ReadMapCauses.{SpellsCanonically}
use Rattle.gx_edit.proofs.ListingLemmas.{misspelt}
use Rattle.gx_edit.proofs.NodeLoads.{not_opened}
use Rattle.gx_edit.proofs.stored_tree.open_tree.open_tree.Goals as goal

pub returns-in_err-bytes-clause-refused : goal.returns-in_err-bytes-clause-refused
returns-in_err-bytes-clause-refused g c =
    let p = err_from_is_err_and c.from_residual.result c.from_residual.ensures.1 in
    rw (p.1, p.2) (not_opened (g.S.Meanings.state c.args.store.now) c.args.id _ c.in_err-bytes.ensures.refused)

pub returns-in_default-clause-refused : goal.returns-in_default-clause-refused
returns-in_default-clause-refused g c =
    let bad = rw c.in_default.is at c.in_ok-entries.ensures in (
      refl,
      misspelt (g.S.Meanings.state c.args.store.now).content (g.S.Meanings.state c.args.store.now).hash c.args.id c.in_ok-bytes.bytes c.as_slice-2.result.now c.as_slice-2.ensures c.in_ok-bytes.ensures.found
          (subst (λ h. (entries : List Entry) → ¬ SpellsCanonically h c.as_slice-2.result.now entries) c.hash_kind-hash.ensures bad),
    )
