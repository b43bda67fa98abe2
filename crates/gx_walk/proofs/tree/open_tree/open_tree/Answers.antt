use Rattle.std.proofs.Common.{refl, subst, List}
use Rattle.gx_object.specs.declared.tree.Entry.{Entry}
use Rattle.gx_object.specs.TreeSpelling.{SpellsTree}
use Rattle.gx_walk.proofs.OpenLemmas.{misspelt}
use Rattle.gx_walk.proofs.tree.open_tree.open_tree.Goals as goal

pub returns-in_default-clause-causes : goal.returns-in_default-clause-causes
returns-in_default-clause-causes g c =
    let bad = rw c.in_default.is at c.in_ok-entries.ensures in (
      refl,
      misspelt (g.S.Meanings.state c.args.store.now).content (g.S.Meanings.state c.args.store.now).hash c.args.id c.in_ok-bytes.bytes c.as_slice.result.now c.as_slice.ensures c.in_ok-bytes.ensures.ok
          (subst (λ h. (entries : List Entry) → ¬ SpellsTree h c.as_slice.result.now entries) c.hash_kind-hash.ensures bad),
    )
