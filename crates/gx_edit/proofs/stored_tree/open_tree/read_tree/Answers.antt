use Rattle.std.proofs.Common.{sym, subst}
use Rattle.gx_object.specs.TreeSpelling.{SpellsTree}
use Rattle.gx_edit.proofs.NodeLoads.{misspelt}
use Rattle.gx_edit.proofs.stored_tree.open_tree.read_tree.Goals as goal

pub returns-in-Err-Decode-clause-refused : goal.returns-in-Err-Decode-clause-refused
returns-in-Err-Decode-clause-refused g c =
    misspelt (g.S.Meanings.state c.args.store.now) c.args.hash c.args.id c.in_ok-bytes.bytes c.requires.kind c.in_ok-bytes.ensures.found
    (λ entries s. let only = c.in-Err-Decode.ensures.only entries (subst (λ b. SpellsTree c.args.hash b entries) (sym c.as_slice.ensures) s) in cc)
