use Rattle.std.proofs.Common.{◌≡◌, ◌++◌, sym, ap, ◌∙◌, subst}
use Rattle.gx_object.specs.declared.tree.EntryMode.{EntryMode}
use Rattle.gx_edit.specs.Planning.{made, with_entry}
use Rattle.gx_object.specs.Tree.{entry_bytes}
use Rattle.gx_edit.specs.declared.writing.plan.OpenDirectory.{OpenDirectory}
use Rattle.gx_edit.proofs.OpenLemmas.{HaveReach, HaveReach-push, HaveReach-pop, all_reach, reach_others, planning_start, planning_file, planning_opened, planning_ended, planning_done, planning_root, planning_closed, plan_done, smaller_closed, smaller_opened}
use Rattle.gx_edit.proofs.writing.plan.plan_trees.Goals as goal

pub loop-plan-init : goal.loop-plan-init
loop-plan-init c = record {
  reach = all_reach c.args.rows.now;
  reaches = subst HaveReach (sym c.new-open.ensures.items) tt;
  so_far = λ d ok h. planning_start c.args.hash _ _ _ d _ (λ i. record { trees = c.new.ensures.items i; entries = c.new-2.ensures.items i }) c.new-open.ensures.items c.new-bytes.ensures.items ok h;
}

pub returns-in-None-pop : goal.returns-in-None-pop
returns-in-None-pop c = λ d ok h.
    let w = planning_ended c.args.hash c.loop-plan.at c.loop-plan.rest.now c.in-None.ensures.cases (c.loop-plan.invariant.so_far d ok h) in
    let done = planning_done c.args.hash _ c.in_ok-id-in-None.id w c.in_ok-id-in-None.ensures.0 c.in_ok-id-in-None.ensures.1 in
    plan_done c.args.hash d c.push_tree.new.self c.in_ok-id-in-None.id (planning_root c.args.hash _ c.in_ok-id-in-None.id (sym c.loop-plan.open.ok.0 ∙ c.in-None-pop.ensures.cases.0) w done)

pub loop-plan-smaller-in-Some-pop : goal.loop-plan-smaller-in-Some-pop
loop-plan-smaller-in-Some-pop c = smaller_closed c.loop-plan.open.items c.pop.new.self.items c.in-Some-pop.outer c.loop-plan.at c.loop-plan.rest.now c.in-Some-pop.ensures.items

pub loop-plan-preserved-in-Some-pop : goal.loop-plan-preserved-in-Some-pop
loop-plan-preserved-in-Some-pop c =
    let reaches = HaveReach-pop c.pop.new.self.items c.in-Some-pop.outer (subst HaveReach c.in-Some-pop.ensures.items c.loop-plan.invariant.reaches) in
    let o : OpenDirectory = c.in-Some-pop.outer in
    record {
      reach = reaches.1;
      reaches = reaches.0;
      so_far = λ d ok h.
          let w = planning_ended c.args.hash c.loop-plan.at c.loop-plan.rest.now c.in-None.ensures.cases (c.loop-plan.invariant.so_far d ok h) in
          let done = planning_done c.args.hash _ c.in_ok-id-in-None.id w c.in_ok-id-in-None.ensures.0 c.in_ok-id-in-None.ensures.1 in
          let mode : ◌≡◌ {A = EntryMode} c.from-mode.result _ = λ i. record { value = c.from-mode.ensures i } in
          planning_closed c.args.hash c.pop.new.self.items o _ _ c.in_ok-id-in-None.id _ c.in-Some-pop.ensures.items ok w done
          (c.in_ok-push_entry-in-Some-pop.ensures.bytes ∙ ap (λ m. o.bytes.items ++ entry_bytes (record { mode = m; filename = o.name.now; oid = c.in_ok-id-in-None.id })) mode)
          (c.in_ok-push_entry-in-Some-pop.ensures.entry ∙ ap (λ m. with_entry (record { mode = m; filename = o.name.now; oid = c.in_ok-id-in-None.id }) (made c.push_tree.new.self)) mode);
    }

pub loop-plan-preserved-in-None-split_first_name : goal.loop-plan-preserved-in-None-split_first_name
loop-plan-preserved-in-None-split_first_name c =
    let split = c.in-Some.ensures.cases.0 in
    record {
      reach = reach_others c.loop-plan.at _ c.in-Some.row.now c.in-Some.others.now split c.loop-plan.invariant.reach;
      reaches = c.loop-plan.invariant.reaches;
      so_far = λ d ok h. planning_file c.args.hash _ c.loop-plan.at _ c.in-Some.row.now c.in-Some.others.now c.rest_of-path.result.now _ split c.rest_of-path.ensures c.in-None-split_first_name.ensures.parts
          c.in_ok-push_entry-in-None-split_first_name.ensures.bytes c.in_ok-push_entry-in-None-split_first_name.ensures.entry (c.loop-plan.invariant.so_far d ok h);
    }

pub loop-plan-smaller : goal.loop-plan-smaller
loop-plan-smaller c =
    let o : OpenDirectory = record { name = c.in-Some-split_first_name.name; after = c.first_group.result.1; at = c.loop-plan.at; bytes = c.loop-plan.bytes } in
    smaller_opened c.push.new.self.items c.loop-plan.open.items o _ c.loop-plan.rest.now c.first_group.result.0.now c.in_ok-push-in-Some-split_first_name.ensures.items c.first_group.ensures.lighter

pub loop-plan-preserved : goal.loop-plan-preserved
loop-plan-preserved c =
    let o : OpenDirectory = record { name = c.in-Some-split_first_name.name; after = c.first_group.result.1; at = c.loop-plan.at; bytes = c.loop-plan.bytes } in
    record {
      reach = c.first_group.ensures.reach;
      reaches = subst HaveReach (sym c.in_ok-push-in-Some-split_first_name.ensures.items) (HaveReach-push c.loop-plan.open.items o c.loop-plan.invariant.reaches c.first_group.ensures.reach_after);
      so_far = λ d ok h. planning_opened c.args.hash c.push.new.self.items o c.loop-plan.rest.now c.first_group.result.0.now _ c.in_ok-push-in-Some-split_first_name.ensures.items c.new-bytes-in-Some-split_first_name.ensures.items c.first_group.ensures (c.loop-plan.invariant.so_far d ok h);
    }
