use Rattle.std.proofs.Common.{◌≡◌, ◌∙◌, ap, subst}
use Rattle.std.specs.List.{AllByRecursion}
use Rattle.std.proofs.lemmas.Result.{err_from_is_err_and}
use Rattle.gx_edit.specs.Entries.{IsSafe}
use Rattle.gx_edit.specs.Output.{Output}
use Rattle.gx_edit.specs.Planning.{objects_of}
use Rattle.gx_edit.specs.Writing.{AreSafe}
use Rattle.gx_edit.proofs.OutputLemmas.{first_stored, trees_stored, stopped, write_cause, stored_cause, names_cause, kept_unreadable}
use Rattle.gx_edit.proofs.output.Output.write.Goals as goal

pub returns-in_err-check_names-clause-causes : goal.returns-in_err-check_names-clause-causes
returns-in_err-check_names-clause-causes g c =
    let p = err_from_is_err_and c.from_residual.result c.from_residual.ensures.1 in
    rw (p.1, p.2) (names_cause c.args.self.now c.args.protect (g.S.Meanings.state c.args.store.now) c.deref.result.now _ (c.deref.ensures.value ∙ ap (λ (o : Output). o.entries) c.self.view_is) c.in_err-check_names.ensures.err)

pub returns-in_err-store_trees-clause-causes : goal.returns-in_err-store_trees-clause-causes
returns-in_err-store_trees-clause-causes g c =
    let o : Output = c.args.self.now in
    let s = g.S.Meanings.state c.args.store.now in
    let u = g.S.Meanings.state c.store_trees.new.store in
    let p = err_from_is_err_and c.from_residual-in_err-store_trees.result c.from_residual-in_err-store_trees.ensures.1 in
    let same : objects_of c.deref-2.result.now ≡ o.trees = ap objects_of c.deref-2.ensures.value ∙ ap (λ (x : Output). x.trees) c.self.view_is in
    let safe : AreSafe c.args.protect o = subst (AllByRecursion (IsSafe c.args.protect)) (c.deref.ensures.value ∙ ap (λ (x : Output). x.entries) c.self.view_is) c.in_ok-check_names.ensures.ok in
    rw (p.1, p.2) (write_cause o c.args.protect s u _ (stopped o c.args.protect s u safe (first_stored o s u c.deref-2.result.now same c.in_err-store_trees.ensures.err)) c.in_err-store_trees.ensures.fault)

pub returns-in_err-check_stored-clause-causes : goal.returns-in_err-check_stored-clause-causes
returns-in_err-check_stored-clause-causes g c =
    let o : Output = c.args.self.now in
    let s = g.S.Meanings.state c.args.store.now in
    let u = g.S.Meanings.state c.store_trees.new.store in
    let p = err_from_is_err_and c.from_residual-in_err-check_stored.result c.from_residual-in_err-check_stored.ensures.1 in
    let same : objects_of c.deref-2.result.now ≡ o.trees = ap objects_of c.deref-2.ensures.value ∙ ap (λ (x : Output). x.trees) c.self.view_is in
    let safe : AreSafe c.args.protect o = subst (AllByRecursion (IsSafe c.args.protect)) (c.deref.ensures.value ∙ ap (λ (x : Output). x.entries) c.self.view_is) c.in_ok-check_names.ensures.ok in
    let b = trees_stored o s u c.deref-2.result.now same c.in_ok-store_trees.ensures.ok in
    rw (p.1, p.2) (stored_cause o c.args.protect s u c.deref-3.result.now _ (c.deref-3.ensures.value ∙ ap (λ (x : Output). x.entries) c.self.view_is) (kept_unreadable o.trees s u b) c.in_err-check_stored.ensures.asked
    (record { becomes = b; safe = safe }) c.in_err-check_stored.ensures.err)
