use Rattle.std.proofs.Common.{◌≡◌, ◌^◌, ◌+◌, ◌++◌, List, [], ◌∷◌, length, get_or, sym, ap, ◌∙◌, subst, refl, arith, true≢false, inl, length-append}
use Rattle.std.proofs.lemmas.Result.{err_from_is_err_and}
use Rattle.gx_object.specs.declared.tree.Entry.{Entry}
use Rattle.gx_object.specs.TreeSpelling.{SpellsTree}
use Rattle.gx_walk.specs.declared.tree.breadth.Waiting.{Waiting}
use Rattle.gx_walk.proofs.WideLemmas.{wide_first, wide_done, wide_failed, wide_entered, wide_cancelled, wide_over, wide_halt, wide_queued, wide_smaller_over, wide_smaller_queued, wide_smaller_entered}
use Rattle.gx_walk.proofs.tree.breadth.breadthfirst.Goals as goal

pub returns-in_default-clause-causes : goal.returns-in_default-clause-causes
returns-in_default-clause-causes g c =
    let bad = rw c.in_default.is at c.in_ok-entries.ensures in
    (refl, inl (record { id_is = refl; bad = subst (λ h. (entries : List Entry) → ¬ SpellsTree h c.args.bytes.now entries) c.hash_kind.ensures bad; told = refl }))

no_items : (ws : List Waiting) → length ws ≡ 0 → ws ≡ []
no_items [] h = refl
no_items (x ∷ ws) h = absurd (omega (arith, h))

pub loop-entry-init : goal.loop-entry-init
loop-entry-init g c =
    let s = g.S.Meanings.state c.args.store.now in
    let good = rw c.in-Some.is at c.in_ok-entries.ensures in
    wide_first s c.args.root c.args.bytes.now (g.V.Visit.visits c.args.visit.now) (g.V.Visit.cancels c.args.visit.now) _ c.new-queue.result.items c.new-queue.ensures.items c.in_ok-vec.ensures.items c.new.ensures.items refl
    (subst (λ h. SpellsTree h c.args.bytes.now c.in-Some.entries.items) c.hash_kind.ensures good)

pub returns-in-None-clause-ok : goal.returns-in-None-clause-ok
returns-in-None-clause-ok g c =
    let s = g.S.Meanings.state c.args.store.now in
    let t = c.loop-entry.tree in
    wide_done s c.args.root c.args.bytes.now (g.V.Visit.visits c.args.visit.now) (g.V.Visit.cancels c.args.visit.now) c.loop-entry.invariant (no_items c.loop-entry.queue.items (sym c.loop-entry.queue.ok.0 ∙ c.in-None.ensures.cases.0)) (omega (arith, c.in_default-get.ensures.lookup.3, ap length c.deref.ensures.value))

pub returns-in_err-tree-in-Some-pop_front-clause-causes : goal.returns-in_err-tree-in-Some-pop_front-clause-causes
returns-in_err-tree-in-Some-pop_front-clause-causes g c =
    let s = g.S.Meanings.state c.args.store.now in
    let t = c.loop-entry.tree in
    let p = err_from_is_err_and c.from_residual-in_err-tree-in-Some-pop_front.result c.from_residual-in_err-tree-in-Some-pop_front.ensures.1 in
    rw (p.1, p.2) (wide_failed s c.args.root c.args.bytes.now (g.V.Visit.visits c.args.visit.now) (g.V.Visit.cancels c.args.visit.now) c.loop-entry.invariant c.in-Some-pop_front.next c.pop_front.new.self.items c.in-Some-pop_front.ensures.items (omega (arith, c.in_default-get.ensures.lookup.3, ap length c.deref.ensures.value)) _ c.in_err-tree-in-Some-pop_front.ensures.causes)

pub loop-entry-smaller-in-Some-pop_front : goal.loop-entry-smaller-in-Some-pop_front
loop-entry-smaller-in-Some-pop_front g c =
    let n = c.in_ok-tree-in-Some-pop_front.tree in
    let w = c.in-Some-pop_front.next in
    let deep : length n.above.items ≡ length w.above.items + 1 = ap length c.in_ok-tree-in-Some-pop_front.ensures.ok.above_is ∙ length-append w.above.items (w.id ∷ []) in
    wide_smaller_entered (2 ^ 64) c.loop-entry.tree n c.loop-entry.queue.items c.pop_front.new.self.items w c.in-Some-pop_front.ensures.items deep (omega (arith, n.entries.ok.0, n.entries.small))

pub loop-entry-preserved-in-Some-pop_front : goal.loop-entry-preserved-in-Some-pop_front
loop-entry-preserved-in-Some-pop_front g c =
    let s = g.S.Meanings.state c.args.store.now in
    let t = c.loop-entry.tree in
    wide_entered s c.args.root c.args.bytes.now (g.V.Visit.visits c.args.visit.now) (g.V.Visit.cancels c.args.visit.now) c.loop-entry.invariant c.in-Some-pop_front.next c.pop_front.new.self.items c.in-Some-pop_front.ensures.items (omega (arith, c.in_default-get.ensures.lookup.3, ap length c.deref.ensures.value)) c.in_ok-tree-in-Some-pop_front.tree c.in_ok-tree-in-Some-pop_front.ensures.ok

pub returns-then-is_cancel-clause-causes : goal.returns-then-is_cancel-clause-causes
returns-then-is_cancel-clause-causes g c =
    let s = g.S.Meanings.state c.args.store.now in
    let t = c.loop-entry.tree in
    let e = c.in-Some-get.entry.now in
    wide_cancelled s c.args.root c.args.bytes.now (g.V.Visit.visits c.args.visit.now) (g.V.Visit.cancels c.args.visit.now) c.loop-entry.invariant e c.deref-in-loop-entry-2.result.now c.in_ok-action.action (g.V.Visit.visits c.visit_entry.new.visit) (g.V.Visit.cancels c.visit_entry.new.visit)
    (omega (arith, c.in-Some-get.ensures.lookup.3.0, ap length c.deref.ensures.value)) (c.in-Some-get.ensures.lookup.1 ∙ ap (λ (l : List Entry). get_or l t.place e) c.deref.ensures.value)
    (c.deref-in-loop-entry-2.ensures.value ∙ c.in_ok-path.ensures ∙ ap (λ b. b ++ c.as_slice.result.now) c.deref-in-loop-entry.ensures.value ∙ ap (λ b. t.path.items ++ b) c.as_slice.ensures) c.in_ok-action.ensures.ok (c.is_cancel.ensures.0 c.if-is_cancel.true)

pub loop-entry-smaller-then-not-is_entered : goal.loop-entry-smaller-then-not-is_entered
loop-entry-smaller-then-not-is_entered g c =
    let s = g.S.Meanings.state c.args.store.now in
    let t = c.loop-entry.tree in
    wide_smaller_over (2 ^ 64) t c.loop-entry.queue.items (omega (arith, c.in-Some-get.ensures.lookup.3.0, ap length c.deref.ensures.value))

pub loop-entry-preserved-then-not-is_entered : goal.loop-entry-preserved-then-not-is_entered
loop-entry-preserved-then-not-is_entered g c =
    let s = g.S.Meanings.state c.args.store.now in
    let t = c.loop-entry.tree in
    let e = c.in-Some-get.entry.now in
    wide_over s c.args.root c.args.bytes.now (g.V.Visit.visits c.args.visit.now) (g.V.Visit.cancels c.args.visit.now) c.loop-entry.invariant e c.deref-in-loop-entry-2.result.now c.in_ok-action.action (g.V.Visit.visits c.visit_entry.new.visit) (g.V.Visit.cancels c.visit_entry.new.visit)
    (omega (arith, c.in-Some-get.ensures.lookup.3.0, ap length c.deref.ensures.value)) (c.in-Some-get.ensures.lookup.1 ∙ ap (λ (l : List Entry). get_or l t.place e) c.deref.ensures.value)
    (c.deref-in-loop-entry-2.ensures.value ∙ c.in_ok-path.ensures ∙ ap (λ b. b ++ c.as_slice.result.now) c.deref-in-loop-entry.ensures.value ∙ ap (λ b. t.path.items ++ b) c.as_slice.ensures) c.in_ok-action.ensures.ok
    (λ cancel. true≢false (sym (c.is_cancel.ensures.1 cancel) ∙ c.if-is_cancel.false)) (sym c.is_entered.ensures ∙ c.if-not-is_entered.true)

pub returns-in_err-next-clause-causes : goal.returns-in_err-next-clause-causes
returns-in_err-next-clause-causes g c =
    let s = g.S.Meanings.state c.args.store.now in
    let t = c.loop-entry.tree in
    let e = c.in-Some-get.entry.now in
    let p = err_from_is_err_and c.from_residual-in_err-next.result c.from_residual-in_err-next.ensures.1 in
    rw (p.1, p.2) (wide_halt s c.args.root c.args.bytes.now (g.V.Visit.visits c.args.visit.now) (g.V.Visit.cancels c.args.visit.now) c.loop-entry.invariant e c.deref-in-loop-entry-2.result.now c.in_ok-action.action (g.V.Visit.visits c.visit_entry.new.visit) (g.V.Visit.cancels c.visit_entry.new.visit)
    (omega (arith, c.in-Some-get.ensures.lookup.3.0, ap length c.deref.ensures.value)) (c.in-Some-get.ensures.lookup.1 ∙ ap (λ (l : List Entry). get_or l t.place e) c.deref.ensures.value)
    (c.deref-in-loop-entry-2.ensures.value ∙ c.in_ok-path.ensures ∙ ap (λ b. b ++ c.as_slice.result.now) c.deref-in-loop-entry.ensures.value ∙ ap (λ b. t.path.items ++ b) c.as_slice.ensures) c.in_ok-action.ensures.ok
    (λ cancel. true≢false (sym (c.is_cancel.ensures.1 cancel) ∙ c.if-is_cancel.false)) (sym c.is_entered.ensures ∙ c.if-not-is_entered.false))

pub returns-in_err-push_back-clause-causes : goal.returns-in_err-push_back-clause-causes
returns-in_err-push_back-clause-causes g c =
    let s = g.S.Meanings.state c.args.store.now in
    let t = c.loop-entry.tree in
    let e = c.in-Some-get.entry.now in
    let p = err_from_is_err_and c.from_residual-in_err-push_back.result c.from_residual-in_err-push_back.ensures.1 in
    rw (p.1, p.2) (wide_halt s c.args.root c.args.bytes.now (g.V.Visit.visits c.args.visit.now) (g.V.Visit.cancels c.args.visit.now) c.loop-entry.invariant e c.deref-in-loop-entry-2.result.now c.in_ok-action.action (g.V.Visit.visits c.visit_entry.new.visit) (g.V.Visit.cancels c.visit_entry.new.visit)
    (omega (arith, c.in-Some-get.ensures.lookup.3.0, ap length c.deref.ensures.value)) (c.in-Some-get.ensures.lookup.1 ∙ ap (λ (l : List Entry). get_or l t.place e) c.deref.ensures.value)
    (c.deref-in-loop-entry-2.ensures.value ∙ c.in_ok-path.ensures ∙ ap (λ b. b ++ c.as_slice.result.now) c.deref-in-loop-entry.ensures.value ∙ ap (λ b. t.path.items ++ b) c.as_slice.ensures) c.in_ok-action.ensures.ok
    (λ cancel. true≢false (sym (c.is_cancel.ensures.1 cancel) ∙ c.if-is_cancel.false)) (sym c.is_entered.ensures ∙ c.if-not-is_entered.false))

pub loop-entry-smaller : goal.loop-entry-smaller
loop-entry-smaller g c =
    let s = g.S.Meanings.state c.args.store.now in
    let t = c.loop-entry.tree in
    let above : c.in_ok-next.next.above.items ≡ t.above.items = c.in_ok-next.ensures.above_is ∙ c.deref-in-loop-entry-3.ensures.value in
    wide_smaller_queued (2 ^ 64) t c.loop-entry.queue.items c.push_back.new.self.items c.in_ok-next.next (omega (arith, t.above.ok.0, t.above.small)) (omega (arith, c.in-Some-get.ensures.lookup.3.0, ap length c.deref.ensures.value)) (ap length above) c.in_ok-push_back.ensures.items

pub loop-entry-preserved : goal.loop-entry-preserved
loop-entry-preserved g c =
    let s = g.S.Meanings.state c.args.store.now in
    let t = c.loop-entry.tree in
    let e = c.in-Some-get.entry.now in
    wide_queued s c.args.root c.args.bytes.now (g.V.Visit.visits c.args.visit.now) (g.V.Visit.cancels c.args.visit.now) c.loop-entry.invariant e c.deref-in-loop-entry-2.result.now c.in_ok-action.action (g.V.Visit.visits c.visit_entry.new.visit) (g.V.Visit.cancels c.visit_entry.new.visit)
    (omega (arith, c.in-Some-get.ensures.lookup.3.0, ap length c.deref.ensures.value)) (c.in-Some-get.ensures.lookup.1 ∙ ap (λ (l : List Entry). get_or l t.place e) c.deref.ensures.value)
    (c.deref-in-loop-entry-2.ensures.value ∙ c.in_ok-path.ensures ∙ ap (λ b. b ++ c.as_slice.result.now) c.deref-in-loop-entry.ensures.value ∙ ap (λ b. t.path.items ++ b) c.as_slice.ensures) c.in_ok-action.ensures.ok
    (λ cancel. true≢false (sym (c.is_cancel.ensures.1 cancel) ∙ c.if-is_cancel.false)) (sym c.is_entered.ensures ∙ c.if-not-is_entered.false) c.in_ok-next.next c.push_back.new.self.items
    (record {
      above_is = c.in_ok-next.ensures.above_is ∙ c.deref-in-loop-entry-3.ensures.value;
      path_is = c.in_ok-next.ensures.path_is ∙ ap (λ b. b ++ 47 ∷ []) (sym c.deref-in-loop-entry-2.ensures.value);
      id_is = c.in_ok-next.ensures.id_is;
    }) c.in_ok-push_back.ensures.items
