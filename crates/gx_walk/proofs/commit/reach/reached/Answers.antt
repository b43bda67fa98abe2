use Rattle.std.proofs.Common.{◌≡◌, ◌∙◌, true, List, ◌∷◌, [], ◌++◌, sym, refl, ap, subst, arith}
use Rattle.std.proofs.lemmas.Bool.{false≢true}
use Rattle.std.proofs.lemmas.Grind.{common_steps}
use Rattle.std.proofs.lemmas.List.{nil_from_length}
use Rattle.std.proofs.lemmas.Result.{err_from_is_err_and}
use Rattle.gx_hash.specs.declared.oid.ObjectId.{ObjectId}
use Rattle.gx_walk.specs.History.{Told, Reaches, followed}
use Rattle.gx_hash.specs.ObjectIds.{has_id}
use Rattle.gx_walk.specs.Reaching.{IsReaching}
use Rattle.gx_walk.proofs.GraphLemmas.{extends_then}
use Rattle.gx_walk.proofs.ReachLemmas.{reaching_start, reaching_end, reaching_id}
use Rattle.gx_walk.proofs.TellLemmas.{told_all, told_then, told_both, causes_then}
use Rattle.gx_walk.proofs.commit.reach.reached.Goals as goal

pub loop-id-init : goal.loop-id-init
loop-id-init g c =
    let same = c.in_ok-pending.ensures.items_if_clones_equal (λ x y e. e) in (
      told_all (g.S.Meanings.state c.args.store.now)
          (λ h. IsReaching h (followed h c.args.parents (has_id c.args.shallow.now)) c.args.ids.now c.new.result c.in_ok-pending.pending.items)
          (λ h. subst (IsReaching h (followed h c.args.parents (has_id c.args.shallow.now)) c.args.ids.now c.new.result) (sym same)
          (reaching_start h (followed h c.args.parents (has_id c.args.shallow.now)) c.args.ids.now c.new.result c.new.ensures)),
      λ x. ap (λ w. has_id w x) (c.new-2.ensures.items ∙ sym c.new.ensures),
      λ x h. absurd (false≢true (subst (λ w. has_id w x ≡ true) c.new.ensures h)),
      c.requires,
      λ id some. refl,
    )

pub loop-id-preserved : goal.loop-id-preserved
loop-id-preserved g c = (
  told_both (g.S.Meanings.state c.args.store.now)
      (λ h. IsReaching h (followed h c.args.parents (has_id c.args.shallow.now)) c.args.ids.now c.loop-id.found.set c.loop-id.pending.items)
      (λ h. (ids : List ObjectId)
      → IsReaching h (followed h c.args.parents (has_id c.args.shallow.now)) ids c.loop-id.found.set (c.pop.new.self.items ++ c.in-Some.id ∷ [])
      → IsReaching h (followed h c.args.parents (has_id c.args.shallow.now)) ids c.visit.new.found.set c.visit.new.pending.items)
      (λ h. IsReaching h (followed h c.args.parents (has_id c.args.shallow.now)) c.args.ids.now c.visit.new.found.set c.visit.new.pending.items)
      (λ h before step. step c.args.ids.now
      (subst (IsReaching h (followed h c.args.parents (has_id c.args.shallow.now)) c.args.ids.now c.loop-id.found.set) c.in-Some.ensures.items before))
      c.loop-id.invariant.0 c.in_ok-visit.ensures.kept,
  c.in_ok-visit.ensures.listed c.loop-id.invariant.1,
  c.in_ok-visit.ensures.read c.loop-id.invariant.2,
  c.in_ok-visit.ensures.graph,
  extends_then c.args.graph.now c.loop-id.graph c.visit.new.graph c.loop-id.invariant.4 c.in_ok-visit.ensures.keeps,
)

pub returns-in_err-visit-clause-causes : goal.returns-in_err-visit-clause-causes
returns-in_err-visit-clause-causes g c =
    let p = err_from_is_err_and c.from_residual-in_err-visit.result c.from_residual-in_err-visit.ensures.1 in
    let s = g.S.Meanings.state c.args.store.now in
    rw (p.1, p.2) (causes_then s (λ one. one ≡ c.in-Some.id)
    (λ one. Told s (λ h. Reaches (followed h c.args.parents (has_id c.args.shallow.now)) c.args.ids.now one)) _
    (λ one is. told_then s (λ h. IsReaching h (followed h c.args.parents (has_id c.args.shallow.now)) c.args.ids.now c.loop-id.found.set c.loop-id.pending.items)
    (λ h. Reaches (followed h c.args.parents (has_id c.args.shallow.now)) c.args.ids.now one)
    (λ h before. subst (Reaches (followed h c.args.parents (has_id c.args.shallow.now)) c.args.ids.now) (sym is)
    (reaching_id h (followed h c.args.parents (has_id c.args.shallow.now)) c.args.ids.now c.loop-id.found.set c.pop.new.self.items c.in-Some.id
    (subst (IsReaching h (followed h c.args.parents (has_id c.args.shallow.now)) c.args.ids.now c.loop-id.found.set) c.in-Some.ensures.items before)))
    c.loop-id.invariant.0) c.in_err-visit.ensures.causes)

pub returns-clause-exact : goal.returns-clause-exact
returns-clause-exact g c =
    let empty = nil_from_length c.loop-id.pending.items (grind (arith, common_steps)) in
    told_then (g.S.Meanings.state c.args.store.now)
    (λ h. IsReaching h (followed h c.args.parents (has_id c.args.shallow.now)) c.args.ids.now c.loop-id.found.set c.loop-id.pending.items) _
    (λ h it id. reaching_end h (followed h c.args.parents (has_id c.args.shallow.now)) c.args.ids.now c.loop-id.found.set c.loop-id.pending.items it empty id) c.loop-id.invariant.0

pub returns-clause-commits : goal.returns-clause-commits
returns-clause-commits g c =
    told_then (g.S.Meanings.state c.args.store.now)
    (λ h. IsReaching h (followed h c.args.parents (has_id c.args.shallow.now)) c.args.ids.now c.loop-id.found.set c.loop-id.pending.items) _
    (λ h it. it.read) c.loop-id.invariant.0
