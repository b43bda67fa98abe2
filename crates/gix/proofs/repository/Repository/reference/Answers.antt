use Rattle.std.proofs.Common.{◌∷◌, [], sym, subst, None, Ok}
use Rattle.gx_store.specs.declared.target.Target.TheVariants as target
use Rattle.gix.specs.Meaning.{Means}
use Rattle.gix.specs.OneEdit.{naming, reference_meaning, unsigned_meaning, update_of}
use Rattle.gix.specs.Repository.{held_by}
use Rattle.gix.proofs.OneEditLemmas.{answered}
use Rattle.gix.proofs.repository.Repository.reference.Goals as goal

pub returns : goal.returns
returns g c =
    let old = held_by g.S.Meanings.state c.args.self.now in
    let new = held_by g.S.Meanings.state c.edit_reference.new.self in
    let edit = update_of c.args.name.now c.args.target c.args.constraint c.args.log_message.now in
    let met = subst (λ e. Means (unsigned_meaning (e ∷ [])) old c.edit_reference.result new) c.in_ok-edit.ensures c.edit_reference.ensures in
    let done = subst (λ r. Means (unsigned_meaning (edit ∷ [])) old r new) c.in_ok-edit_reference.was met in
    subst (λ n. Means (reference_meaning c.args.name.now c.args.target c.args.constraint c.args.log_message.now) old (Ok (record { name = n; target = target.Object c.args.target; peeled = None })) new) (sym c.in_ok-try_clone.ensures)
    (answered (naming c.args.name.now c.args.target) edit old new c.in_ok-edit_reference.field-0 done)
