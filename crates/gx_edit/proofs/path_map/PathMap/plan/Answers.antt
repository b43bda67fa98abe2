use Rattle.std.proofs.Common.{◌≡◌, ◌∙◌, sym, false}
use Rattle.std.proofs.lemmas.Result.{err_from_is_err_and}
use Rattle.gx_edit.specs.PathList.{has_zero}
use Rattle.gx_edit.proofs.ExistsLemmas.{has_directory}
use Rattle.gx_edit.proofs.OutputLemmas.{plans_paths, are_planned, output_planned}
use Rattle.gx_edit.proofs.path_map.PathMap.plan.Goals as goal

pub returns-in_err-rows-clause-causes : goal.returns-in_err-rows-clause-causes
returns-in_err-rows-clause-causes c =
    let p = err_from_is_err_and c.from_residual.result c.from_residual.ensures.1 in
    rw (p.1, p.2) (has_directory c.args.self.now c.has_zero.ensures.rising c.has_zero.ensures.map (sym c.has_zero.ensures.zero ∙ c.if-has_zero.false))

pub returns-in_err-plan-clause-causes : goal.returns-in_err-plan-clause-causes
returns-in_err-plan-clause-causes c =
    let p = err_from_is_err_and c.from_residual-in_err-plan.result c.from_residual-in_err-plan.ensures.1 in
    rw (p.1, p.2) (has_directory c.args.self.now c.has_zero.ensures.rising c.has_zero.ensures.map (sym c.has_zero.ensures.zero ∙ c.if-has_zero.false))

pub new-requires : goal.new-requires
new-requires c =
    let plain : has_zero c.args.self.now ≡ false = sym c.has_zero.ensures.zero ∙ c.if-has_zero.false in
    let w = plans_paths c.args.self.now c.args.hash c.in_ok-plan.plan c.in_ok-plan.root c.in_ok-rows.rows.items _ c.has_zero.ensures.rising c.has_zero.ensures.map plain c.in_ok-rows.ensures c.deref.ensures.value c.in_ok-plan.ensures in
    are_planned c.args.self.now c.args.hash c.in_ok-plan.plan c.in_ok-plan.root w

pub returns-clause-ok : goal.returns-clause-ok
returns-clause-ok c =
    let plain : has_zero c.args.self.now ≡ false = sym c.has_zero.ensures.zero ∙ c.if-has_zero.false in
    let w = plans_paths c.args.self.now c.args.hash c.in_ok-plan.plan c.in_ok-plan.root c.in_ok-rows.rows.items _ c.has_zero.ensures.rising c.has_zero.ensures.map plain c.in_ok-rows.ensures c.deref.ensures.value c.in_ok-plan.ensures in
    output_planned c.args.self.now c.args.hash c.in_ok-plan.plan c.in_ok-plan.root w _ c.new.ensures
