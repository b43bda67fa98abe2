use Rattle.std.proofs.Common.{◌≡◌, ◌<◌, ◌^◌, ◌+◌, ◌⊎◌, ◌++◌, List, [], ◌∷◌, length, get_or, Some, is_some, cond, true≢false, eqb-true, eq-eqb, sym, ap, ◌∙◌, subst, refl, arith}
use Rattle.std.proofs.lemmas.Result.{err_from_is_err_and}
use Rattle.gx_object.specs.declared.tree.Entry.{Entry}
use Rattle.gx_edit.specs.Path.{components, path_eq}
use Rattle.gx_edit.specs.OpenTree.{IsOneOf}
use Rattle.gx_edit.specs.declared.stored_tree.open_tree.OpenTree.{OpenTree}
use Rattle.gx_edit.specs.PathList.{map_of}
use Rattle.gx_edit.specs.SharedIds.{HasIdsOf, HasNoNullId}
use Rattle.gx_edit.specs.PathTexts.{rows_of, rows_in}
use Rattle.gx_edit.specs.ReadMapCauses.IsAtOrBelow.{here}
use Rattle.gx_edit.proofs.EntryOrder.{told_all}
use Rattle.gx_edit.proofs.ReadingLemmas.{at_root, at_file, at_sub, at_closed, at_end, represents, IsRead}
use Rattle.gx_edit.proofs.ReadMapLemmas.{is_map, has_ids, no_null}
use Rattle.gx_edit.proofs.CauseLemmas.{opened_cause, reached_next, refused_cycle, refused_twice, refused_empty}
use Rattle.gx_edit.proofs.WeightLemmas.{weigh, weigh_file, weigh_close, weigh_open}
use Rattle.gx_edit.proofs.stored_tree.read_map.Goals as goal

no_levels : (levels : List OpenTree) → length levels ≡ 0 → levels ≡ []
no_levels [] h = refl
no_levels (x ∷ levels) h = absurd (omega (arith, h))

pub returns-in_err-tree-clause-refused : goal.returns-in_err-tree-clause-refused
returns-in_err-tree-clause-refused g c =
    let s = g.S.Meanings.state c.args.store.now in
    let p = err_from_is_err_and c.from_residual.result c.from_residual.ensures.1 in
    rw (p.1, p.2) (opened_cause s c.args.root c.args.root _ (told_all s.content (λ content. here)) c.in_err-tree.ensures.refused)

pub loop-entry-init : goal.loop-entry-init
loop-entry-init g c =
    let s = g.S.Meanings.state c.args.store.now in
    at_root s.hash s.content c.new-levels.result.items c.in_ok-tree.tree c.new-path.result.items c.args.root (map_of (rows_of c.new-leaves.result))
    c.new-levels.ensures.items c.new-path.ensures.items c.in_ok-tree.ensures.opened c.in_ok-tree.ensures.place c.in_ok-tree.ensures.at (λ p. ap (λ es. map_of (rows_in es) p) c.new-leaves.ensures.empty)

pub from_leaves-requires : goal.from_leaves-requires
from_leaves-requires g c =
    let s = g.S.Meanings.state c.args.store.now in
    let r = at_end s.hash s.content c.loop-entry.levels.items c.loop-entry.tree c.loop-entry.path.items c.args.root (map_of (rows_of c.loop-entry.leaves)) (no_levels c.loop-entry.levels.items (sym c.loop-entry.levels.ok.0 ∙ c.in-None.ensures.cases.0)) (omega (arith, c.in_default.ensures.lookup.3, ap length c.deref.ensures.value)) c.loop-entry.invariant in
    is_map s.hash r.directory (map_of (rows_of c.loop-entry.leaves)) r.canonical r.ids r.look

pub returns-in-None-clause-represents : goal.returns-in-None-clause-represents
returns-in-None-clause-represents g c =
    let s = g.S.Meanings.state c.args.store.now in
    let r = at_end s.hash s.content c.loop-entry.levels.items c.loop-entry.tree c.loop-entry.path.items c.args.root (map_of (rows_of c.loop-entry.leaves)) (no_levels c.loop-entry.levels.items (sym c.loop-entry.levels.ok.0 ∙ c.in-None.ensures.cases.0)) (omega (arith, c.in_default.ensures.lookup.3, ap length c.deref.ensures.value)) c.loop-entry.invariant in
    represents s.hash s.content c.args.root (map_of c.from_leaves.result) (subst (λ rows. IsRead s.hash s.content c.args.root (map_of rows)) (sym c.from_leaves.ensures) r)

pub loop-entry-smaller-in-Some-pop : goal.loop-entry-smaller-in-Some-pop
loop-entry-smaller-in-Some-pop g c =
    subst (λ v. weigh (2 ^ 64) c.pop.new.self.items c.in-Some-pop.above < weigh (2 ^ 64) v c.loop-entry.tree) (sym c.in-Some-pop.ensures.items) (weigh_close (2 ^ 64) c.pop.new.self.items c.in-Some-pop.above c.loop-entry.tree)

pub loop-entry-preserved-in-Some-pop : goal.loop-entry-preserved-in-Some-pop
loop-entry-preserved-in-Some-pop g c =
    let s = g.S.Meanings.state c.args.store.now in
    at_closed s.hash s.content c.pop.new.self.items c.loop-entry.levels.items c.loop-entry.tree c.in-Some-pop.above c.loop-entry.path.items c.truncate.new.self.items c.args.root (map_of (rows_of c.loop-entry.leaves))
    c.in-Some-pop.ensures.items (omega (arith, c.in_default.ensures.lookup.3, ap length c.deref.ensures.value)) c.truncate.ensures.items c.loop-entry.invariant

pub loop-entry-smaller-then-not-is_tree : goal.loop-entry-smaller-then-not-is_tree
loop-entry-smaller-then-not-is_tree g c =
    let t = c.loop-entry.tree in
    let less : t.place < length t.entries.items = omega (arith, c.in-Some.ensures.lookup.3.0, ap length c.deref.ensures.value) in
    weigh_file (2 ^ 64) c.loop-entry.levels.items t (record { id = t.id; entries = t.entries; place = t.place + 1; at = t.at }) (omega (arith, less))

pub loop-entry-preserved-then-not-is_tree : goal.loop-entry-preserved-then-not-is_tree
loop-entry-preserved-then-not-is_tree g c =
    let s = g.S.Meanings.state c.args.store.now in
    let t = c.loop-entry.tree in
    let e = c.in-Some.entry.now in
    at_file s.hash s.content c.loop-entry.levels.items t c.loop-entry.path.items c.args.root (map_of (rows_of c.loop-entry.leaves)) (map_of (rows_of c.insert_leaf.new.leaves)) e
    (omega (arith, c.in-Some.ensures.lookup.3.0, ap length c.deref.ensures.value)) (c.in-Some.ensures.lookup.1 ∙ ap (λ (l : List Entry). get_or l t.place e) c.deref.ensures.value)
    (sym c.if-not-is_tree.ensures) (λ q. c.in_ok-insert_leaf.ensures q ∙ ap (λ b. cond (path_eq (components (b ++ e.filename)) q) (Some (record { mode = e.mode; id = e.oid })) (map_of (rows_of c.loop-entry.leaves) q)) c.deref-then-not-is_tree.ensures.value)
    c.loop-entry.invariant

pub returns-then-is_open-clause-refused : goal.returns-then-is_open-clause-refused
returns-then-is_open-clause-refused g c =
    let s = g.S.Meanings.state c.args.store.now in
    let t = c.loop-entry.tree in
    let e = c.in-Some.entry.now in
    refused_cycle s.hash s.content {t = t} e
    (omega (arith, c.in-Some.ensures.lookup.3.0, ap length c.deref.ensures.value)) (c.in-Some.ensures.lookup.1 ∙ ap (λ (l : List Entry). get_or l t.place e) c.deref.ensures.value) (sym c.if-not-is_tree.ensures)
    (subst (λ l. (t.id ≡ e.oid) ⊎ IsOneOf e.oid l) c.deref-in-loop-entry.ensures.value (c.is_open.ensures c.if-is_open.true)) c.loop-entry.invariant

pub returns-then-has_leaf-clause-refused : goal.returns-then-has_leaf-clause-refused
returns-then-has_leaf-clause-refused g c =
    let s = g.S.Meanings.state c.args.store.now in
    let t = c.loop-entry.tree in
    let e = c.in-Some.entry.now in
    let text : c.deref-in-loop-entry-2.result.now ≡ c.loop-entry.path.items ++ e.filename = c.deref-in-loop-entry-2.ensures.value ∙ c.in_ok-extend_from_slice.ensures.items ∙ ap (λ b. c.loop-entry.path.items ++ b) c.as_slice.ensures in
    refused_twice s.hash s.content {t = t} e
    (omega (arith, c.in-Some.ensures.lookup.3.0, ap length c.deref.ensures.value)) (c.in-Some.ensures.lookup.1 ∙ ap (λ (l : List Entry). get_or l t.place e) c.deref.ensures.value) (sym (c.has_leaf.ensures ∙ ap (λ b. is_some (map_of (rows_of c.loop-entry.leaves) (components b))) text) ∙ c.if-has_leaf.true) c.loop-entry.invariant

pub returns-in_err-inner-clause-refused : goal.returns-in_err-inner-clause-refused
returns-in_err-inner-clause-refused g c =
    let s = g.S.Meanings.state c.args.store.now in
    let t = c.loop-entry.tree in
    let e = c.in-Some.entry.now in
    let p = err_from_is_err_and c.from_residual-in_err-inner.result c.from_residual-in_err-inner.ensures.1 in
    rw (p.1, p.2) (opened_cause s c.args.root e.oid _ (reached_next s.hash s.content {t = t} e
    (omega (arith, c.in-Some.ensures.lookup.3.0, ap length c.deref.ensures.value)) (c.in-Some.ensures.lookup.1 ∙ ap (λ (l : List Entry). get_or l t.place e) c.deref.ensures.value) (sym c.if-not-is_tree.ensures) c.loop-entry.invariant) c.in_err-inner.ensures.refused)

pub returns-then-is_empty-clause-refused : goal.returns-then-is_empty-clause-refused
returns-then-is_empty-clause-refused g c =
    let s = g.S.Meanings.state c.args.store.now in
    let t = c.loop-entry.tree in
    let e = c.in-Some.entry.now in
    refused_empty s.hash s.content {t = t} e c.in_ok-inner.inner
    (omega (arith, c.in-Some.ensures.lookup.3.0, ap length c.deref.ensures.value)) (c.in-Some.ensures.lookup.1 ∙ ap (λ (l : List Entry). get_or l t.place e) c.deref.ensures.value) (sym c.if-not-is_tree.ensures) c.in_ok-inner.ensures.opened
    (sym c.in_ok-inner.inner.entries.ok.0 ∙ eqb-true _ 0 (sym c.is_empty.ensures ∙ c.if-is_empty.true)) c.loop-entry.invariant

pub loop-entry-smaller : goal.loop-entry-smaller
loop-entry-smaller g c =
    let t = c.loop-entry.tree in
    let inner = c.in_ok-inner.inner in
    let less : t.place < length t.entries.items = omega (arith, c.in-Some.ensures.lookup.3.0, ap length c.deref.ensures.value) in
    subst (λ v. weigh (2 ^ 64) v inner < weigh (2 ^ 64) c.loop-entry.levels.items t) (sym c.in_ok-push-2.ensures.items)
    (weigh_open (2 ^ 64) c.loop-entry.levels.items t (record { id = t.id; entries = t.entries; place = t.place + 1; at = t.at }) inner
    (omega (arith, c.loop-entry.levels.ok.0, c.loop-entry.levels.small)) (omega (arith, less)) (omega (arith, inner.entries.ok.0, inner.entries.small)))

pub loop-entry-preserved : goal.loop-entry-preserved
loop-entry-preserved g c =
    let s = g.S.Meanings.state c.args.store.now in
    let t = c.loop-entry.tree in
    let e = c.in-Some.entry.now in
    let text : c.deref-in-loop-entry-2.result.now ≡ c.loop-entry.path.items ++ e.filename = c.deref-in-loop-entry-2.ensures.value ∙ c.in_ok-extend_from_slice.ensures.items ∙ ap (λ b. c.loop-entry.path.items ++ b) c.as_slice.ensures in
    at_sub s.hash s.content c.loop-entry.levels.items c.push-in-loop-entry.new.self.items t c.in_ok-inner.inner c.loop-entry.path.items c.push.new.self.items c.args.root (map_of (rows_of c.loop-entry.leaves)) e
    c.in_ok-push-2.ensures.items (omega (arith, c.in-Some.ensures.lookup.3.0, ap length c.deref.ensures.value)) (c.in-Some.ensures.lookup.1 ∙ ap (λ (l : List Entry). get_or l t.place e) c.deref.ensures.value) (sym c.if-not-is_tree.ensures)
    (sym (c.has_leaf.ensures ∙ ap (λ b. is_some (map_of (rows_of c.loop-entry.leaves) (components b))) text) ∙ c.if-has_leaf.false)
    (c.in_ok-push.ensures.items ∙ ap (λ b. b ++ 47 ∷ []) (c.in_ok-extend_from_slice.ensures.items ∙ ap (λ b. c.loop-entry.path.items ++ b) c.as_slice.ensures)) c.in_ok-inner.ensures.opened c.in_ok-inner.ensures.place
    (c.in_ok-inner.ensures.at ∙ c.len.ensures ∙ c.push.new.self.ok.0) (λ none. true≢false (sym (c.is_empty.ensures ∙ eq-eqb _ 0 (c.in_ok-inner.inner.entries.ok.0 ∙ ap length none)) ∙ c.if-is_empty.false)) c.loop-entry.invariant

pub returns-in-None-clause-ids : goal.returns-in-None-clause-ids
returns-in-None-clause-ids g c =
    let s = g.S.Meanings.state c.args.store.now in
    let r = at_end s.hash s.content c.loop-entry.levels.items c.loop-entry.tree c.loop-entry.path.items c.args.root (map_of (rows_of c.loop-entry.leaves)) (no_levels c.loop-entry.levels.items (sym c.loop-entry.levels.ok.0 ∙ c.in-None.ensures.cases.0)) (omega (arith, c.in_default.ensures.lookup.3, ap length c.deref.ensures.value)) c.loop-entry.invariant in
    subst (λ rows. HasIdsOf s.hash (map_of rows)) (sym c.from_leaves.ensures) (has_ids s.hash r.directory (map_of (rows_of c.loop-entry.leaves)) r.canonical r.ids r.look)

pub returns-in-None-clause-own : goal.returns-in-None-clause-own
returns-in-None-clause-own g c =
    let s = g.S.Meanings.state c.args.store.now in
    let r = at_end s.hash s.content c.loop-entry.levels.items c.loop-entry.tree c.loop-entry.path.items c.args.root (map_of (rows_of c.loop-entry.leaves)) (no_levels c.loop-entry.levels.items (sym c.loop-entry.levels.ok.0 ∙ c.in-None.ensures.cases.0)) (omega (arith, c.in_default.ensures.lookup.3, ap length c.deref.ensures.value)) c.loop-entry.invariant in
    subst (λ rows. HasNoNullId s.hash (map_of rows)) (sym c.from_leaves.ensures) (no_null s.hash r.directory (map_of (rows_of c.loop-entry.leaves)) r.canonical r.ids r.look)
