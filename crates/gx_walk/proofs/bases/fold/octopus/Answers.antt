use Rattle.std.proofs.Common.{◌≡◌, ◌∙◌, ◌∷◌, [], true, sym, refl, ap, subst, rules, inl, get_or, drop, ◌+◌, Option, Some}
use Rattle.std.specs.List.{slice_get}
use Rattle.std.proofs.lemmas.Result.{err_from_is_err_and}
use Rattle.gx_hash.specs.ObjectIds.{has_id}
use Rattle.gx_hash.specs.declared.oid.ObjectId.{ObjectId}
use Rattle.gx_hash.specs.declared.oid.ObjectId.TheVariants.{Sha1}
use Rattle.gx_walk.specs.History.{History, Reaches, start}
use Rattle.gx_walk.specs.MergeBase.{AreBases, IsOctopus, IsReadForBases, IsReadForOctopus, shown_parents}
use Rattle.gx_walk.proofs.BaseLemmas.{reach_then}
use Rattle.gx_walk.proofs.FoldLemmas.{fold_next, fold_reached, fold_own, fold_other, fold_names, never_none, item_is, drop_item}
use Rattle.gx_walk.proofs.GraphLemmas.{extends_then}
use Rattle.gx_walk.proofs.IdLemmas.{has_self}
use Rattle.gx_walk.proofs.TellLemmas.{told_all, told_both, causes_then}
use Rattle.gx_walk.proofs.bases.fold.octopus.Goals as goal

pub loop-other-init : goal.loop-other-init
loop-other-init g c =
    let s = g.S.Meanings.state c.args.store.now in (
      told_all s (λ h. (found : Option ObjectId) → IsOctopus h c.args.shallow.now c.args.one c.args.others.now found → IsOctopus h c.args.shallow.now c.args.one c.args.others.now found) (λ h found it. it),
      told_all s (λ h. Reaches (shown_parents h c.args.shallow.now) (c.args.one ∷ []) c.args.one) (λ h. start (has_self c.args.one)),
      inl refl,
      c.requires,
      λ id some. refl,
    )

pub returns-in_err-bases-clause-causes : goal.returns-in_err-bases-clause-causes
returns-in_err-bases-clause-causes g c =
    let p = err_from_is_err_and c.from_residual.result c.from_residual.ensures.1 in
    let s = g.S.Meanings.state c.args.store.now in
    let other : ObjectId = get_or c.args.others.now c.loop-other.other-index (Sha1 []) in
    let among : has_id c.args.others.now other ≡ true = item_is c.args.others.now c.loop-other.other-index other c.loop-other-test.true (search rules) in
    rw (p.1, p.2) (causes_then s (IsReadForBases s c.args.shallow.now c.loop-other.base (other ∷ [])) (IsReadForOctopus s c.args.shallow.now c.args.one c.args.others.now) _
    (λ id read.
    let met = fold_other c.args.one c.args.others.now c.loop-other.base other c.loop-other.invariant.2 among read.asked in
    record {
      other = met.0;
      among = met.1;
      apart = met.2;
      reached = told_both s (λ h. Reaches (shown_parents h c.args.shallow.now) (c.args.one ∷ []) c.loop-other.base)
          (λ h. Reaches (shown_parents h c.args.shallow.now) (c.loop-other.base ∷ other ∷ []) id)
          (λ h. Reaches (shown_parents h c.args.shallow.now) (c.args.one ∷ c.args.others.now) id)
          (λ h at r. fold_names (shown_parents h c.args.shallow.now) c.args.one c.args.others.now c.loop-other.base other at among r) c.loop-other.invariant.1 read.reached;
    }) c.in_err-bases.ensures.causes)

pub loop-other-preserved : goal.loop-other-preserved
loop-other-preserved g c =
    let s = g.S.Meanings.state c.args.store.now in
    let i = c.loop-other.other-index in
    let others = c.args.others.now in
    let base = c.loop-other.base in
    let bases = c.in_ok-bases.bases in
    let next : ObjectId = c.in-Some.first.now in
    let other : ObjectId = get_or others i (Sha1 []) in
    let among : has_id others other ≡ true = item_is others i other c.loop-other-test.true (search rules) in
    let rest = drop_item others i other c.loop-other-test.true (search rules) in
    let at : slice_get bases 0 ≡ Some next = ap (λ w. slice_get w 0) (sym c.as_slice.ensures) ∙ sym c.in-Some.ensures.value in (
      told_both s
          (λ h. (found : Option ObjectId) → IsOctopus h c.args.shallow.now base (drop i others) found → IsOctopus h c.args.shallow.now c.args.one others found)
          (λ h. AreBases h c.args.shallow.now base (other ∷ []) bases)
          (λ h. (found : Option ObjectId) → IsOctopus h c.args.shallow.now next (drop (i + 1) others) found → IsOctopus h c.args.shallow.now c.args.one others found)
          (λ h before are found it. before found (subst (λ w. IsOctopus h c.args.shallow.now base w found) (sym rest) (fold_next h c.args.shallow.now base other bases are next (drop (i + 1) others) found at it)))
          c.loop-other.invariant.0 c.in_ok-bases.ensures.ok,
      told_both s
          (λ h. Reaches (shown_parents h c.args.shallow.now) (c.args.one ∷ []) base)
          (λ h. AreBases h c.args.shallow.now base (other ∷ []) bases)
          (λ h. Reaches (shown_parents h c.args.shallow.now) (c.args.one ∷ []) next)
          (λ h reached are. reach_then reached (fold_reached h c.args.shallow.now base other bases are next at))
          c.loop-other.invariant.1 c.in_ok-bases.ensures.ok,
      fold_own c.args.one others base other bases next c.loop-other.invariant.2 among c.in_ok-bases.ensures.alone at,
      c.in_ok-bases.ensures.graph,
      extends_then c.args.graph.now c.loop-other.graph c.merge_base.new.graph c.loop-other.invariant.4 c.in_ok-bases.ensures.keeps,
    )

pub returns-in_default-clause-alone : goal.returns-in_default-clause-alone
returns-in_default-clause-alone g c =
    let others = c.args.others.now in
    let other : ObjectId = get_or others c.loop-other.other-index (Sha1 []) in
    let among : has_id others other ≡ true = item_is others c.loop-other.other-index other c.loop-other-test.true (search rules) in
    λ own. absurd (never_none c.args.one others c.loop-other.base other c.in_ok-bases.bases c.loop-other.invariant.2 among c.in_ok-bases.ensures.alone
    (ap (λ w. slice_get w 0) (sym c.as_slice.ensures) ∙ sym c.in_default.ensures.value) own)
