use Rattle.std.proofs.Common.{◌∙◌, sym, ap, subst, List}
use Rattle.std.proofs.lemmas.Result.{err_from_is_err_and}
use Rattle.gx_object.specs.declared.tree.Entry.{Entry}
use Rattle.gx_edit.specs.EditorPlan.{IsRootPlanned, output_with}
use Rattle.gx_edit.specs.Nodes.{places_of, view_at}
use Rattle.gx_edit.specs.View.{names_of, only}
use Rattle.gx_edit.specs.Written.{IsOutputOfView}
use Rattle.gx_edit.proofs.EditorSpelled.{plan_refused}
use Rattle.gx_edit.proofs.EditorSteps.{ids_own, root_planned}
use Rattle.gx_edit.proofs.editor.write.plan_write.Goals as goal

pub output_of-requires : goal.output_of-requires
output_of-requires c =
    let root : IsRootPlanned c.args.hash (places_of c.args.nodes.now) c.in_ok-planned.planned c.in_ok-planned.rows.items = c.in_ok-planned.ensures in
    ids_own c.args.hash (places_of c.args.nodes.now) 1 c.in_ok-planned.planned root.below

pub returns-in_err-output-clause-causes : goal.returns-in_err-output-clause-causes
returns-in_err-output-clause-causes c =
    let a = places_of c.args.nodes.now in
    let p = err_from_is_err_and c.from_residual-in_err-output.result c.from_residual-in_err-output.ensures.1 in
    rw (p.1, p.2) (plan_refused c.args.hash (view_at a 0) (output_with c.args.hash c.in_ok-planned.planned c.in_ok-planned.rows.items)
    (root_planned c.args.hash a c.requires c.in_ok-planned.planned c.in_ok-planned.rows.items c.in_ok-planned.ensures) _ c.in_err-output.ensures.causes)

pub returns-clause-ok : goal.returns-clause-ok
returns-clause-ok c =
    let a = places_of c.args.nodes.now in
    let root : IsRootPlanned c.args.hash a c.in_ok-planned.planned c.in_ok-planned.rows.items = c.in_ok-planned.ensures in
    record {
      output = subst (IsOutputOfView c.args.hash (view_at a 0)) (sym c.in_ok-output.ensures.ok) (root_planned c.args.hash a c.requires c.in_ok-planned.planned c.in_ok-planned.rows.items root);
      links = c.in_ok-root.ensures.links;
      root = record {
        entries = c.in_ok-planned.rows.items;
        written = root.written;
        root = c.in_ok-root.ensures.view ∙ ap (λ (l : List Entry). only (names_of l)) c.deref.ensures.value;
      };
    }
