use Rattle.std.proofs.Common.{◌≡◌, ◌∙◌, ap}
use Rattle.gx_edit.specs.Output.{Output}
use Rattle.gx_edit.specs.Planning.{objects_of}
use Rattle.gx_edit.proofs.CheckOutputLemmas.{on_ok, on_err}
use Rattle.gx_edit.proofs.OutputLemmas.{first_stored, trees_stored}
use Rattle.gx_edit.proofs.output.Output.store.Goals as goal

pub returns-clause-ok : goal.returns-clause-ok
returns-clause-ok g c =
    let o : Output = c.args.self.now in
    let same : objects_of c.deref.result.now ≡ o.trees = ap objects_of c.deref.ensures.value ∙ ap (λ (x : Output). x.trees) c.self.view_is in
    on_ok c.store_trees.result (trees_stored o (g.S.Meanings.state c.args.store.now) (g.S.Meanings.state c.store_trees.new.store) c.deref.result.now same) c.store_trees.ensures.ok

pub returns-clause-leaves : goal.returns-clause-leaves
returns-clause-leaves g c =
    let o : Output = c.args.self.now in
    let same : objects_of c.deref.result.now ≡ o.trees = ap objects_of c.deref.ensures.value ∙ ap (λ (x : Output). x.trees) c.self.view_is in
    on_err c.store_trees.result (first_stored o (g.S.Meanings.state c.args.store.now) (g.S.Meanings.state c.store_trees.new.store) c.deref.result.now same) c.store_trees.ensures.err
