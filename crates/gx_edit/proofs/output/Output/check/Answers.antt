use Rattle.std.proofs.Common.{◌≡◌, ◌∙◌, ap}
use Rattle.std.proofs.lemmas.Result.{err_from_is_err_and}
use Rattle.gx_hash.specs.declared.oid.ObjectId.{ObjectId}
use Rattle.gx_store.specs.Content.{id_of}
use Rattle.gx_hash.specs.ObjectIds.{has_id}
use Rattle.gx_edit.specs.Output.{Output}
use Rattle.std.proofs.Common.{map}
use Rattle.gx_edit.proofs.NeededLemmas.{ids_in}
use Rattle.gx_edit.proofs.CheckOutputLemmas.{on_ok, if_err, ids_planned, may_be_written, missing_cause, unsafe_cause}
use Rattle.gx_edit.proofs.output.Output.check.Goals as goal

pub returns-in_err-check_each_name-clause-causes : goal.returns-in_err-check_each_name-clause-causes
returns-in_err-check_each_name-clause-causes g c =
    let p = err_from_is_err_and c.from_residual.result c.from_residual.ensures.1 in
    rw (p.1, p.2) (unsafe_cause c.args.self.now (g.S.Meanings.state c.args.store.now) c.args.given.now c.args.protect c.deref.result.now _ (c.deref.ensures.value ∙ ap (λ (o : Output). o.entries) c.self.view_is) c.in_err-check_each_name.ensures.err)

pub returns-clause-ok : goal.returns-clause-ok
returns-clause-ok g c =
    let o : Output = c.args.self.now in
    let has : (id : ObjectId) → has_id c.in_ok-trees.trees id ≡ has_id (map (id_of o.hash) o.trees) id =
    λ id. c.in_ok-trees.ensures id ∙ ap (λ l. has_id l id) (ap ids_in c.deref-2.ensures.value ∙ ids_planned c.self.inside.hash c.self.inside.trees.items c.self.invariant ∙ ap (λ (x : Output). map (id_of x.hash) x.trees) c.self.view_is) in
    on_ok c.check_needed.result
    (may_be_written o (g.S.Meanings.state c.args.store.now) c.args.given.now c.in_ok-trees.trees has c.args.protect c.deref.result.now c.deref-3.result.now (c.deref.ensures.value ∙ ap (λ (x : Output). x.entries) c.self.view_is) c.in_ok-check_each_name.ensures.ok
    (c.deref-3.ensures.value ∙ ap (λ (x : Output). x.entries) c.self.view_is)) c.check_needed.ensures.ok

pub returns-clause-causes : goal.returns-clause-causes
returns-clause-causes g c =
    let o : Output = c.args.self.now in
    let has : (id : ObjectId) → has_id c.in_ok-trees.trees id ≡ has_id (map (id_of o.hash) o.trees) id =
    λ id. c.in_ok-trees.ensures id ∙ ap (λ l. has_id l id) (ap ids_in c.deref-2.ensures.value ∙ ids_planned c.self.inside.hash c.self.inside.trees.items c.self.invariant ∙ ap (λ (x : Output). map (id_of x.hash) x.trees) c.self.view_is) in
    if_err c.check_needed.result
    (λ e. missing_cause o (g.S.Meanings.state c.args.store.now) c.args.given.now c.in_ok-trees.trees has c.args.protect c.deref-3.result.now e (c.deref-3.ensures.value ∙ ap (λ (x : Output). x.entries) c.self.view_is)) c.check_needed.ensures.err
