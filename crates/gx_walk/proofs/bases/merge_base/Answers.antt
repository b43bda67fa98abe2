use Rattle.std.proofs.Common.{◌≡◌, ◌∙◌, ◌↔◌, Bool, true, List, ◌∷◌, [], sym, ap, subst, IfOk, Ok}
use Rattle.std.specs.Prelude.{◌||◌}
use Rattle.std.proofs.lemmas.Bool.{or_right, both_ways}
use Rattle.std.proofs.lemmas.Result.{err_from_is_err_and}
use Rattle.gx_hash.specs.ObjectIds.{has_id}
use Rattle.gx_hash.specs.declared.oid.ObjectId.{ObjectId}
use Rattle.gx_walk.specs.Graph.{IsGraphOf}
use Rattle.gx_walk.specs.History.{History, Told, Reaches, followed}
use Rattle.gx_walk.specs.MergeBase.{AreBases, IsAlone, IsReadForBases, shown_parents}
use Rattle.gx_walk.specs.declared.commit.sorting.Parents.TheVariants.{All}
use Rattle.gx_walk.proofs.BaseLemmas.{base_answer, one_of, reach_more, reach_shallow}
use Rattle.gx_walk.proofs.TellLemmas.{told_then, told_three, causes_then}
use Rattle.gx_walk.proofs.bases.merge_base.Goals as goal

pub returns-in_err-of_one-clause-causes : goal.returns-in_err-of_one-clause-causes
returns-in_err-of_one-clause-causes g c =
    let p = err_from_is_err_and c.from_residual-in_err-of_one.result c.from_residual-in_err-of_one.ensures.1 in
    let s = g.S.Meanings.state c.args.store.now in
    rw (p.1, p.2) (causes_then s _ (IsReadForBases s c.args.shallow.now c.args.one c.args.others.now) _
    (λ id told. record {
      asked = λ alone. both_ways _ c.if-is_alone.false (c.is_alone.ensures.1 alone);
      reached = told_then s _ (λ h. Reaches (shown_parents h c.args.shallow.now) (c.args.one ∷ c.args.others.now) id)
          (λ h r. reach_more (one_of c.args.one c.args.others.now) (reach_shallow h c.in_ok-shallow.shallow c.args.shallow.now c.in_ok-shallow.ensures r)) told;
    }) c.in_err-of_one.ensures.causes)

pub returns-in_err-of_others-clause-causes : goal.returns-in_err-of_others-clause-causes
returns-in_err-of_others-clause-causes g c =
    let p = err_from_is_err_and c.from_residual-in_err-of_others.result c.from_residual-in_err-of_others.ensures.1 in
    let s = g.S.Meanings.state c.args.store.now in
    rw (p.1, p.2) (causes_then s _ (IsReadForBases s c.args.shallow.now c.args.one c.args.others.now) _
    (λ id told. record {
      asked = λ alone. both_ways _ c.if-is_alone.false (c.is_alone.ensures.1 alone);
      reached = told_then s _ (λ h. Reaches (shown_parents h c.args.shallow.now) (c.args.one ∷ c.args.others.now) id)
          (λ h r. reach_more (λ y e. or_right _ _ e) (reach_shallow h c.in_ok-shallow.shallow c.args.shallow.now c.in_ok-shallow.ensures r)) told;
    }) c.in_err-of_others.ensures.causes)

pub returns-clause-ok : goal.returns-clause-ok
returns-clause-ok g c =
    let s = g.S.Meanings.state c.args.store.now in
    told_three s
    (λ h. (id : ObjectId) → (has_id c.in_ok-of_one.of_one.set id ≡ true) ↔ Reaches (followed h All (has_id c.in_ok-shallow.shallow)) (c.args.one ∷ []) id)
    (λ h. (id : ObjectId) → (has_id c.in_ok-of_others.of_others.set id ≡ true) ↔ Reaches (followed h All (has_id c.in_ok-shallow.shallow)) c.args.others.now id)
    (λ h. IsGraphOf h c.reached-2.new.graph)
    (λ h. AreBases h c.args.shallow.now c.args.one c.args.others.now _)
    (λ h exact_one exact_others of. base_answer h c.reached-2.new.graph c.in_ok-shallow.shallow c.args.shallow.now c.in_ok-shallow.ensures c.args.one c.args.others.now
    c.in_ok-of_one.of_one.set c.in_ok-of_others.of_others.set c.in_ok-of_others.of_others.list.items _
    exact_one exact_others c.in_ok-of_others.ensures.listed c.in_ok-of_others.ensures.read of c.in_ok-best_of.ensures (λ alone. both_ways _ c.if-is_alone.false (c.is_alone.ensures.1 alone)))
    c.in_ok-of_one.ensures.exact c.in_ok-of_others.ensures.exact c.in_ok-of_others.ensures.graph
