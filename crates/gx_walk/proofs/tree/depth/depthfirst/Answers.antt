use Rattle.std.proofs.Common.{◌≡◌, ◌<◌, ◌^◌, ◌++◌, List, [], ◌∷◌, length, get_or, sym, ap, ◌∙◌, subst, refl, arith, true≢false, inl, Contains, take, ap₂, if◌then◌else◌}
use Rattle.gx_hash.specs.declared.oid.ObjectId.{ObjectId}
use Rattle.std.proofs.lemmas.Result.{err_from_is_err_and}
use Rattle.gx_object.specs.declared.tree.Entry.{Entry}
use Rattle.gx_object.specs.TreeSpelling.{SpellsTree}
use Rattle.gx_walk.specs.OpenTree.{above_of}
use Rattle.gx_walk.specs.declared.tree.open_tree.OpenTree.{OpenTree}
use Rattle.gx_walk.proofs.GoingLemmas.{going_done, going_first, going_close, going_cancelled, going_over, going_enter, enter_cycle, enter_stop, enter_failed, enter_done, IsEntering}
use Rattle.gx_walk.proofs.AheadLemmas.{next_of, above_next}
use Rattle.gx_walk.proofs.AboveLemmas.{above_push, above_pop}
use Rattle.gx_walk.proofs.OpenLemmas.{id_among, id_found}
use Rattle.gx_walk.proofs.ReachLemmas.{not_old}
use Rattle.gx_walk.proofs.AskedLemmas.{not_new}
use Rattle.gx_walk.proofs.WeightLemmas.{weigh, weigh_file, weigh_close, weigh_open}
use Rattle.gx_walk.proofs.tree.depth.depthfirst.Goals as goal

no_levels : (levels : List OpenTree) → length levels ≡ 0 → levels ≡ []
no_levels [] h = refl
no_levels (x ∷ levels) h = absurd (omega (arith, h))

pub returns-in_default-clause-causes : goal.returns-in_default-clause-causes
returns-in_default-clause-causes g c =
    let bad = rw c.in_default.is at c.in_ok-entries.ensures in
    (refl, inl (record { id_is = refl; bad = subst (λ h. (entries : List Entry) → ¬ SpellsTree h c.args.bytes.now entries) c.hash_kind.ensures bad; told = refl }))

pub loop-entry-init : goal.loop-entry-init
loop-entry-init g c =
    let first : OpenTree = record { id = c.args.root; entries = c.in-Some.entries; place = 0; at = 0 } in
    let s = g.S.Meanings.state c.args.store.now in
    let good = rw c.in-Some.is at c.in_ok-entries.ensures in (
      c.in_ok-entered.ensures ∙ ap (λ ls. above_of [] ls first) (sym c.new-levels.ensures.items),
      going_first s c.args.root c.args.bytes.now (g.V.Visit.visits c.args.visit.now) (g.V.Visit.cancels c.args.visit.now) _ c.new-levels.result.items c.new-path.result.items c.new-levels.ensures.items c.new-path.ensures.items
          (subst (λ h. SpellsTree h c.args.bytes.now c.in-Some.entries.items) c.hash_kind.ensures good) refl refl refl,
    )

pub loop-entry-smaller-in-Some-pop : goal.loop-entry-smaller-in-Some-pop
loop-entry-smaller-in-Some-pop g c =
    subst (λ v. weigh (2 ^ 64) c.pop.new.self.items c.in-Some-pop.above < weigh (2 ^ 64) v c.loop-entry.tree) (sym c.in-Some-pop.ensures.items) (weigh_close (2 ^ 64) c.pop.new.self.items c.in-Some-pop.above c.loop-entry.tree)

pub loop-entry-preserved-in-Some-pop : goal.loop-entry-preserved-in-Some-pop
loop-entry-preserved-in-Some-pop g c =
    let s = g.S.Meanings.state c.args.store.now in (
      c.leave.ensures ∙ above_pop c.pop.new.self.items c.loop-entry.levels.items c.loop-entry.tree c.in-Some-pop.above c.loop-entry.entered c.in-Some-pop.ensures.items c.loop-entry.invariant.0,
      going_close s c.args.root c.args.bytes.now (g.V.Visit.visits c.args.visit.now) (g.V.Visit.cancels c.args.visit.now)
          c.pop.new.self.items c.loop-entry.levels.items c.loop-entry.tree c.in-Some-pop.above c.loop-entry.path.items c.truncate.new.self.items (g.V.Visit.visits c.loop-entry.visit) (g.V.Visit.cancels c.loop-entry.visit)
          c.in-Some-pop.ensures.items (omega (arith, c.in_default-get.ensures.lookup.3, ap length c.deref.ensures.value)) c.truncate.ensures.items c.loop-entry.invariant.1,
    )

pub returns-then-is_cancel-clause-causes : goal.returns-then-is_cancel-clause-causes
returns-then-is_cancel-clause-causes g c =
    let s = g.S.Meanings.state c.args.store.now in
    let t = c.loop-entry.tree in
    let e = c.in-Some-get.entry.now in
    going_cancelled s c.args.root c.args.bytes.now (g.V.Visit.visits c.args.visit.now) (g.V.Visit.cancels c.args.visit.now) {levels = c.loop-entry.levels.items} {tree = t} {path = c.loop-entry.path.items} {new = g.V.Visit.visits c.loop-entry.visit} {after = g.V.Visit.cancels c.loop-entry.visit} e c.deref-in-loop-entry.result.now c.in_ok-action.action (g.V.Visit.visits c.visit_entry.new.visit) (g.V.Visit.cancels c.visit_entry.new.visit)
    (omega (arith, c.in-Some-get.ensures.lookup.3.0, ap length c.deref.ensures.value)) (c.in-Some-get.ensures.lookup.1 ∙ ap (λ (l : List Entry). get_or l t.place e) c.deref.ensures.value)
    (c.deref-in-loop-entry.ensures.value ∙ c.in_ok-extend_from_slice.ensures.items ∙ ap (λ b. c.loop-entry.path.items ++ b) c.as_slice.ensures)
    (c.is_cancel.ensures.0 c.if-is_cancel.true) c.in_ok-action.ensures.ok c.loop-entry.invariant.1

pub loop-entry-smaller-then-not-is_entered : goal.loop-entry-smaller-then-not-is_entered
loop-entry-smaller-then-not-is_entered g c =
    let s = g.S.Meanings.state c.args.store.now in
    let t = c.loop-entry.tree in
    let e = c.in-Some-get.entry.now in
    let less : t.place < length t.entries.items = omega (arith, c.in-Some-get.ensures.lookup.3.0, ap length c.deref.ensures.value) in
    weigh_file (2 ^ 64) c.loop-entry.levels.items t (next_of t) (omega (arith, less))

pub loop-entry-preserved-then-not-is_entered : goal.loop-entry-preserved-then-not-is_entered
loop-entry-preserved-then-not-is_entered g c =
    let s = g.S.Meanings.state c.args.store.now in
    let t = c.loop-entry.tree in
    let e = c.in-Some-get.entry.now in (
      c.loop-entry.invariant.0 ∙ sym (above_next [] c.loop-entry.levels.items t),
      going_over s c.args.root c.args.bytes.now (g.V.Visit.visits c.args.visit.now) (g.V.Visit.cancels c.args.visit.now) {levels = c.loop-entry.levels.items} {tree = t} {path = c.loop-entry.path.items} {new = g.V.Visit.visits c.loop-entry.visit} {after = g.V.Visit.cancels c.loop-entry.visit} e c.deref-in-loop-entry.result.now c.truncate-then-not-is_entered.new.self.items c.in_ok-action.action (g.V.Visit.visits c.visit_entry.new.visit) (g.V.Visit.cancels c.visit_entry.new.visit)
          (omega (arith, c.in-Some-get.ensures.lookup.3.0, ap length c.deref.ensures.value)) (c.in-Some-get.ensures.lookup.1 ∙ ap (λ (l : List Entry). get_or l t.place e) c.deref.ensures.value)
          (c.deref-in-loop-entry.ensures.value ∙ c.in_ok-extend_from_slice.ensures.items ∙ ap (λ b. c.loop-entry.path.items ++ b) c.as_slice.ensures)
          (c.truncate-then-not-is_entered.ensures.items ∙ ap (take t.at) (sym c.deref-in-loop-entry.ensures.value))
          (λ cancel. true≢false (sym (c.is_cancel.ensures.1 cancel) ∙ c.if-is_cancel.false)) (sym c.is_entered.ensures ∙ c.if-not-is_entered.true) c.in_ok-action.ensures.ok c.loop-entry.invariant.1,
    )

pub returns-then-not-branch-clause-causes : goal.returns-then-not-branch-clause-causes
returns-then-not-branch-clause-causes g c =
    let s = g.S.Meanings.state c.args.store.now in
    let t = c.loop-entry.tree in
    let e = c.in-Some-get.entry.now in
    let n : IsEntering s c.args.root c.args.bytes.now (g.V.Visit.visits c.args.visit.now) (g.V.Visit.cancels c.args.visit.now) c.loop-entry.levels.items t e c.loop-entry.path.items c.deref-in-loop-entry.result.now (g.V.Visit.visits c.visit_entry.new.visit) (g.V.Visit.cancels c.visit_entry.new.visit) =
    going_enter s c.args.root c.args.bytes.now (g.V.Visit.visits c.args.visit.now) (g.V.Visit.cancels c.args.visit.now) {levels = c.loop-entry.levels.items} {tree = t} {path = c.loop-entry.path.items} {new = g.V.Visit.visits c.loop-entry.visit} {after = g.V.Visit.cancels c.loop-entry.visit} e c.deref-in-loop-entry.result.now c.in_ok-action.action (g.V.Visit.visits c.visit_entry.new.visit) (g.V.Visit.cancels c.visit_entry.new.visit)
    (omega (arith, c.in-Some-get.ensures.lookup.3.0, ap length c.deref.ensures.value)) (c.in-Some-get.ensures.lookup.1 ∙ ap (λ (l : List Entry). get_or l t.place e) c.deref.ensures.value)
    (c.deref-in-loop-entry.ensures.value ∙ c.in_ok-extend_from_slice.ensures.items ∙ ap (λ b. c.loop-entry.path.items ++ b) c.as_slice.ensures)
    (λ cancel. true≢false (sym (c.is_cancel.ensures.1 cancel) ∙ c.if-is_cancel.false)) (sym c.is_entered.ensures ∙ c.if-not-is_entered.false) c.in_ok-action.ensures.ok c.loop-entry.invariant.1 in
    enter_cycle s c.args.root c.args.bytes.now (g.V.Visit.visits c.args.visit.now) (g.V.Visit.cancels c.args.visit.now) n (subst (λ ids. Contains ids e.oid) c.loop-entry.invariant.0 (id_among c.loop-entry.entered e.oid (not_old _ (sym c.in_ok-enter.ensures.new ∙ c.if-not-branch.true))))

pub returns-in_err-enter-clause-causes : goal.returns-in_err-enter-clause-causes
returns-in_err-enter-clause-causes g c =
    let s = g.S.Meanings.state c.args.store.now in
    let t = c.loop-entry.tree in
    let e = c.in-Some-get.entry.now in
    let n : IsEntering s c.args.root c.args.bytes.now (g.V.Visit.visits c.args.visit.now) (g.V.Visit.cancels c.args.visit.now) c.loop-entry.levels.items t e c.loop-entry.path.items c.deref-in-loop-entry.result.now (g.V.Visit.visits c.visit_entry.new.visit) (g.V.Visit.cancels c.visit_entry.new.visit) =
    going_enter s c.args.root c.args.bytes.now (g.V.Visit.visits c.args.visit.now) (g.V.Visit.cancels c.args.visit.now) {levels = c.loop-entry.levels.items} {tree = t} {path = c.loop-entry.path.items} {new = g.V.Visit.visits c.loop-entry.visit} {after = g.V.Visit.cancels c.loop-entry.visit} e c.deref-in-loop-entry.result.now c.in_ok-action.action (g.V.Visit.visits c.visit_entry.new.visit) (g.V.Visit.cancels c.visit_entry.new.visit)
    (omega (arith, c.in-Some-get.ensures.lookup.3.0, ap length c.deref.ensures.value)) (c.in-Some-get.ensures.lookup.1 ∙ ap (λ (l : List Entry). get_or l t.place e) c.deref.ensures.value)
    (c.deref-in-loop-entry.ensures.value ∙ c.in_ok-extend_from_slice.ensures.items ∙ ap (λ b. c.loop-entry.path.items ++ b) c.as_slice.ensures)
    (λ cancel. true≢false (sym (c.is_cancel.ensures.1 cancel) ∙ c.if-is_cancel.false)) (sym c.is_entered.ensures ∙ c.if-not-is_entered.false) c.in_ok-action.ensures.ok c.loop-entry.invariant.1 in
    let p = err_from_is_err_and c.from_residual-in_err-enter.result c.from_residual-in_err-enter.ensures.1 in
    rw (p.1, p.2) (enter_stop s c.args.root c.args.bytes.now (g.V.Visit.visits c.args.visit.now) (g.V.Visit.cancels c.args.visit.now) n)

pub returns-in_err-push-clause-causes : goal.returns-in_err-push-clause-causes
returns-in_err-push-clause-causes g c =
    let s = g.S.Meanings.state c.args.store.now in
    let t = c.loop-entry.tree in
    let e = c.in-Some-get.entry.now in
    let n : IsEntering s c.args.root c.args.bytes.now (g.V.Visit.visits c.args.visit.now) (g.V.Visit.cancels c.args.visit.now) c.loop-entry.levels.items t e c.loop-entry.path.items c.deref-in-loop-entry.result.now (g.V.Visit.visits c.visit_entry.new.visit) (g.V.Visit.cancels c.visit_entry.new.visit) =
    going_enter s c.args.root c.args.bytes.now (g.V.Visit.visits c.args.visit.now) (g.V.Visit.cancels c.args.visit.now) {levels = c.loop-entry.levels.items} {tree = t} {path = c.loop-entry.path.items} {new = g.V.Visit.visits c.loop-entry.visit} {after = g.V.Visit.cancels c.loop-entry.visit} e c.deref-in-loop-entry.result.now c.in_ok-action.action (g.V.Visit.visits c.visit_entry.new.visit) (g.V.Visit.cancels c.visit_entry.new.visit)
    (omega (arith, c.in-Some-get.ensures.lookup.3.0, ap length c.deref.ensures.value)) (c.in-Some-get.ensures.lookup.1 ∙ ap (λ (l : List Entry). get_or l t.place e) c.deref.ensures.value)
    (c.deref-in-loop-entry.ensures.value ∙ c.in_ok-extend_from_slice.ensures.items ∙ ap (λ b. c.loop-entry.path.items ++ b) c.as_slice.ensures)
    (λ cancel. true≢false (sym (c.is_cancel.ensures.1 cancel) ∙ c.if-is_cancel.false)) (sym c.is_entered.ensures ∙ c.if-not-is_entered.false) c.in_ok-action.ensures.ok c.loop-entry.invariant.1 in
    let p = err_from_is_err_and c.from_residual-in_err-push.result c.from_residual-in_err-push.ensures.1 in
    rw (p.1, p.2) (enter_stop s c.args.root c.args.bytes.now (g.V.Visit.visits c.args.visit.now) (g.V.Visit.cancels c.args.visit.now) n)

pub returns-in_err-inner-clause-causes : goal.returns-in_err-inner-clause-causes
returns-in_err-inner-clause-causes g c =
    let s = g.S.Meanings.state c.args.store.now in
    let t = c.loop-entry.tree in
    let e = c.in-Some-get.entry.now in
    let n : IsEntering s c.args.root c.args.bytes.now (g.V.Visit.visits c.args.visit.now) (g.V.Visit.cancels c.args.visit.now) c.loop-entry.levels.items t e c.loop-entry.path.items c.deref-in-loop-entry.result.now (g.V.Visit.visits c.visit_entry.new.visit) (g.V.Visit.cancels c.visit_entry.new.visit) =
    going_enter s c.args.root c.args.bytes.now (g.V.Visit.visits c.args.visit.now) (g.V.Visit.cancels c.args.visit.now) {levels = c.loop-entry.levels.items} {tree = t} {path = c.loop-entry.path.items} {new = g.V.Visit.visits c.loop-entry.visit} {after = g.V.Visit.cancels c.loop-entry.visit} e c.deref-in-loop-entry.result.now c.in_ok-action.action (g.V.Visit.visits c.visit_entry.new.visit) (g.V.Visit.cancels c.visit_entry.new.visit)
    (omega (arith, c.in-Some-get.ensures.lookup.3.0, ap length c.deref.ensures.value)) (c.in-Some-get.ensures.lookup.1 ∙ ap (λ (l : List Entry). get_or l t.place e) c.deref.ensures.value)
    (c.deref-in-loop-entry.ensures.value ∙ c.in_ok-extend_from_slice.ensures.items ∙ ap (λ b. c.loop-entry.path.items ++ b) c.as_slice.ensures)
    (λ cancel. true≢false (sym (c.is_cancel.ensures.1 cancel) ∙ c.if-is_cancel.false)) (sym c.is_entered.ensures ∙ c.if-not-is_entered.false) c.in_ok-action.ensures.ok c.loop-entry.invariant.1 in
    let p = err_from_is_err_and c.from_residual-in_err-inner.result c.from_residual-in_err-inner.ensures.1 in
    rw (p.1, p.2) (enter_failed s c.args.root c.args.bytes.now (g.V.Visit.visits c.args.visit.now) (g.V.Visit.cancels c.args.visit.now) n _ c.in_err-inner.ensures.causes)

pub returns-in_err-push-2-clause-causes : goal.returns-in_err-push-2-clause-causes
returns-in_err-push-2-clause-causes g c =
    let s = g.S.Meanings.state c.args.store.now in
    let t = c.loop-entry.tree in
    let e = c.in-Some-get.entry.now in
    let n : IsEntering s c.args.root c.args.bytes.now (g.V.Visit.visits c.args.visit.now) (g.V.Visit.cancels c.args.visit.now) c.loop-entry.levels.items t e c.loop-entry.path.items c.deref-in-loop-entry.result.now (g.V.Visit.visits c.visit_entry.new.visit) (g.V.Visit.cancels c.visit_entry.new.visit) =
    going_enter s c.args.root c.args.bytes.now (g.V.Visit.visits c.args.visit.now) (g.V.Visit.cancels c.args.visit.now) {levels = c.loop-entry.levels.items} {tree = t} {path = c.loop-entry.path.items} {new = g.V.Visit.visits c.loop-entry.visit} {after = g.V.Visit.cancels c.loop-entry.visit} e c.deref-in-loop-entry.result.now c.in_ok-action.action (g.V.Visit.visits c.visit_entry.new.visit) (g.V.Visit.cancels c.visit_entry.new.visit)
    (omega (arith, c.in-Some-get.ensures.lookup.3.0, ap length c.deref.ensures.value)) (c.in-Some-get.ensures.lookup.1 ∙ ap (λ (l : List Entry). get_or l t.place e) c.deref.ensures.value)
    (c.deref-in-loop-entry.ensures.value ∙ c.in_ok-extend_from_slice.ensures.items ∙ ap (λ b. c.loop-entry.path.items ++ b) c.as_slice.ensures)
    (λ cancel. true≢false (sym (c.is_cancel.ensures.1 cancel) ∙ c.if-is_cancel.false)) (sym c.is_entered.ensures ∙ c.if-not-is_entered.false) c.in_ok-action.ensures.ok c.loop-entry.invariant.1 in
    let p = err_from_is_err_and c.from_residual-in_err-push-2.result c.from_residual-in_err-push-2.ensures.1 in
    rw (p.1, p.2) (enter_stop s c.args.root c.args.bytes.now (g.V.Visit.visits c.args.visit.now) (g.V.Visit.cancels c.args.visit.now) n)

pub loop-entry-smaller : goal.loop-entry-smaller
loop-entry-smaller g c =
    let s = g.S.Meanings.state c.args.store.now in
    let t = c.loop-entry.tree in
    let e = c.in-Some-get.entry.now in
    let inner = c.in_ok-inner.inner in
    let less : t.place < length t.entries.items = omega (arith, c.in-Some-get.ensures.lookup.3.0, ap length c.deref.ensures.value) in
    subst (λ v. weigh (2 ^ 64) v inner < weigh (2 ^ 64) c.loop-entry.levels.items t) (sym c.in_ok-push-2.ensures.items)
    (weigh_open (2 ^ 64) c.loop-entry.levels.items t (next_of t) inner
    (omega (arith, c.loop-entry.levels.ok.0, c.loop-entry.levels.small)) (omega (arith, less)) (omega (arith, inner.entries.ok.0, inner.entries.small)))

pub loop-entry-preserved : goal.loop-entry-preserved
loop-entry-preserved g c =
    let s = g.S.Meanings.state c.args.store.now in
    let t = c.loop-entry.tree in
    let e = c.in-Some-get.entry.now in
    let n : IsEntering s c.args.root c.args.bytes.now (g.V.Visit.visits c.args.visit.now) (g.V.Visit.cancels c.args.visit.now) c.loop-entry.levels.items t e c.loop-entry.path.items c.deref-in-loop-entry.result.now (g.V.Visit.visits c.visit_entry.new.visit) (g.V.Visit.cancels c.visit_entry.new.visit) =
    going_enter s c.args.root c.args.bytes.now (g.V.Visit.visits c.args.visit.now) (g.V.Visit.cancels c.args.visit.now) {levels = c.loop-entry.levels.items} {tree = t} {path = c.loop-entry.path.items} {new = g.V.Visit.visits c.loop-entry.visit} {after = g.V.Visit.cancels c.loop-entry.visit} e c.deref-in-loop-entry.result.now c.in_ok-action.action (g.V.Visit.visits c.visit_entry.new.visit) (g.V.Visit.cancels c.visit_entry.new.visit)
    (omega (arith, c.in-Some-get.ensures.lookup.3.0, ap length c.deref.ensures.value)) (c.in-Some-get.ensures.lookup.1 ∙ ap (λ (l : List Entry). get_or l t.place e) c.deref.ensures.value)
    (c.deref-in-loop-entry.ensures.value ∙ c.in_ok-extend_from_slice.ensures.items ∙ ap (λ b. c.loop-entry.path.items ++ b) c.as_slice.ensures)
    (λ cancel. true≢false (sym (c.is_cancel.ensures.1 cancel) ∙ c.if-is_cancel.false)) (sym c.is_entered.ensures ∙ c.if-not-is_entered.false) c.in_ok-action.ensures.ok c.loop-entry.invariant.1 in (
      c.in_ok-enter.ensures.ok ∙ ap (λ b. if b then c.loop-entry.entered ++ e.oid ∷ [] else c.loop-entry.entered) c.if-not-branch.false
          ∙ ap₂ (λ (ids : List ObjectId) (id : ObjectId). ids ++ id ∷ []) (c.loop-entry.invariant.0 ∙ sym (above_next [] c.loop-entry.levels.items t)) (sym c.in_ok-inner.ensures.id)
          ∙ sym (above_push c.loop-entry.levels.items (next_of t) c.in_ok-inner.inner) ∙ ap (λ ls. above_of [] ls c.in_ok-inner.inner) (sym c.in_ok-push-2.ensures.items),
      enter_done s c.args.root c.args.bytes.now (g.V.Visit.visits c.args.visit.now) (g.V.Visit.cancels c.args.visit.now) n c.push-in-loop-entry.new.self.items c.in_ok-inner.inner c.push.new.self.items c.in_ok-push-2.ensures.items
          (c.in_ok-push.ensures.items ∙ ap (λ b. b ++ 47 ∷ []) (sym c.deref-in-loop-entry.ensures.value))
          (λ among. true≢false (sym (id_found c.loop-entry.entered e.oid (subst (λ ids. Contains ids e.oid) (sym c.loop-entry.invariant.0) among)) ∙ not_new _ (sym c.in_ok-enter.ensures.new ∙ c.if-not-branch.false)))
          c.in_ok-inner.ensures.opened c.in_ok-inner.ensures.id c.in_ok-inner.ensures.place (c.in_ok-inner.ensures.at ∙ c.len.ensures ∙ c.push.new.self.ok.0),
    )

pub returns-in-None-clause-ok : goal.returns-in-None-clause-ok
returns-in-None-clause-ok g c =
    going_done (g.S.Meanings.state c.args.store.now) c.args.root c.args.bytes.now (g.V.Visit.visits c.args.visit.now) (g.V.Visit.cancels c.args.visit.now) c.loop-entry.levels.items c.loop-entry.tree c.loop-entry.path.items
    (g.V.Visit.visits c.loop-entry.visit) (g.V.Visit.cancels c.loop-entry.visit) (no_levels c.loop-entry.levels.items (sym c.loop-entry.levels.ok.0 ∙ c.in-None.ensures.cases.0)) (omega (arith, c.in_default-get.ensures.lookup.3, ap length c.deref.ensures.value)) c.loop-entry.invariant.1
