use Rattle.gx_edit.specs.EditorPlan.{IsRootPlanned, output_with}
use Rattle.gx_edit.specs.Nodes.{places_of, view_at}
use Rattle.gx_edit.specs.Written.{IsOutputOfView}
use Rattle.gx_edit.proofs.EditorSpelled.{ok_is, all_refused}
use Rattle.gx_edit.proofs.EditorSteps.{ids_own, root_planned}
use Rattle.gx_edit.proofs.editor.plan.plan_nodes.Goals as goal

pub output_of-requires : goal.output_of-requires
output_of-requires c =
    let root : IsRootPlanned c.args.hash (places_of c.args.nodes.now) c.in_ok-planned.planned c.in_ok-planned.rows.items = c.in_ok-planned.ensures in
    ids_own c.args.hash (places_of c.args.nodes.now) 1 c.in_ok-planned.planned root.below

pub returns-clause-ok : goal.returns-clause-ok
returns-clause-ok c =
    let a = places_of c.args.nodes.now in
    ok_is (IsOutputOfView c.args.hash (view_at a 0)) (output_with c.args.hash c.in_ok-planned.planned c.in_ok-planned.rows.items) c.output_of.result
    (root_planned c.args.hash a c.requires c.in_ok-planned.planned c.in_ok-planned.rows.items c.in_ok-planned.ensures) c.output_of.ensures.ok

pub returns-clause-causes : goal.returns-clause-causes
returns-clause-causes c =
    let a = places_of c.args.nodes.now in
    all_refused c.args.hash (view_at a 0) (output_with c.args.hash c.in_ok-planned.planned c.in_ok-planned.rows.items)
    (root_planned c.args.hash a c.requires c.in_ok-planned.planned c.in_ok-planned.rows.items c.in_ok-planned.ensures) c.output_of.result c.output_of.ensures.causes
