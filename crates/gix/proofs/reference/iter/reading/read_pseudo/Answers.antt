use Rattle.std.proofs.Common.{◌∙◌, sym, subst, option_copied}
use Rattle.std.proofs.lemmas.Result.{err_from_is_err_and}
use Rattle.std.specs.List.{AllByRecursion}
use Rattle.gx_store.specs.Kinds.{IsTargetOfKind}
use Rattle.gx_refs.specs.Shown.{prefix_of}
use Rattle.gx_refs.specs.declared.reference.Reference.{Reference}
use Rattle.gix.specs.Found.{AreFound}
use Rattle.gix.specs.Repository.{store_of}
use Rattle.gix.proofs.FoundLemmas.{kinds_of, pseudo_fault, pseudo_listed}
use Rattle.gix.proofs.reference.iter.reading.read_pseudo.Goals as goal

pub returns-clause-kinds : goal.returns-clause-kinds
returns-clause-kinds g c =
    let state = g.S.Meanings.state (store_of c.args.repo.now) in
    let space = prefix_of (option_copied c.namespace_of-space.result) in
    subst (AllByRecursion (λ (reference : Reference). IsTargetOfKind state.hash reference.target)) (sym c.from_vec.ensures)
    (kinds_of space state.hash state.references c.as_slice.result.now c.in_ok-list.list.items c.in_ok-list.ensures.found)

pub returns-clause-ok : goal.returns-clause-ok
returns-clause-ok g c =
    let state = g.S.Meanings.state (store_of c.args.repo.now) in
    let space = prefix_of (option_copied c.namespace_of-space.result) in
    let kept = c.as_slice.ensures ∙ c.pseudo_names-names.ensures in
    let found = subst (λ names. AreFound space state.hash state.references names c.in_ok-list.list.items) kept c.in_ok-list.ensures.found in
    let listed = pseudo_listed space state.hash state.references c.in_ok-list_names.field-0 c.in_ok-list.list.items c.in_ok-list_names.ensures.ok found in
    rw (c.from_vec.ensures, sym c.namespace_of-space.ensures) listed

pub returns-in_err-list-clause-fault : goal.returns-in_err-list-clause-fault
returns-in_err-list-clause-fault g c =
    let state = g.S.Meanings.state (store_of c.args.repo.now) in
    let space = prefix_of (option_copied c.namespace_of-space.result) in
    let p = err_from_is_err_and c.from_residual-in_err-list.result c.from_residual-in_err-list.ensures.1 in
    let kept = c.as_slice.ensures ∙ c.pseudo_names-names.ensures in
    rw (p.1, p.2, sym c.namespace_of-space.ensures) (pseudo_fault space state c.in_ok-list_names.field-0 c.as_slice.result.now c.in_err-list.field-0.0 kept c.in_ok-list_names.ensures.ok c.in_err-list.ensures.fault)
