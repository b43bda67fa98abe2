-- The fold of first bases.
use Rattle.std.proofs.Math.Seq.{drop-cons}
use Rattle.std.proofs.Common.{◌≡◌, ◌≢◌, ℕ, zero, suc, ◌<◌, ◌+◌, length, get_or, drop, arith, Bool, true, false, List, [], ◌∷◌, sym, refl, ap, ◌∙◌, subst, ◌⊎◌, inl, inr, Option, Some, None}
use Rattle.std.specs.Prelude.{MatchOption}
use Rattle.std.specs.List.{slice_get}
use Rattle.std.proofs.lemmas.Bool.{cases_Bool, or_left, or_right, or_cases, both_ways, false≢true}
use Rattle.gx_hash.specs.ObjectIds.{id_eq, has_id}
use Rattle.gx_hash.specs.Laws.{same_id, own_id}
use Rattle.gx_hash.specs.declared.oid.ObjectId.{ObjectId}
use Rattle.gx_walk.specs.History.{History, Reaches, start, step}
use Rattle.gx_walk.specs.MergeBase.{AreBases, IsAlone, IsOctopus, shown_parents}
use Rattle.gx_walk.proofs.IdLemmas.{cases_id, has_id_get, has_self, single}
use Rattle.gx_walk.proofs.BaseLemmas.{one_of, reach_then, reach_more}

-- one of the others is another commit
abbrev pub HasOther : ObjectId → List ObjectId → Type 0
HasOther one others = (z : ObjectId) × (has_id others z ≡ true) × (z ≢ one)

-- nothing but the commit itself was met, or another one was
abbrev pub IsOwnOr : ObjectId → List ObjectId → ObjectId → Type 0
IsOwnOr one others base = (base ≡ one) ⊎ HasOther one others

module _ (history : History) (shallow : List ObjectId) (base other : ObjectId) (bases : List ObjectId) (are : AreBases history shallow base (other ∷ []) bases) where
  pub fold_next : (next : ObjectId) (rest : List ObjectId) (found : Option ObjectId) → slice_get bases 0 ≡ Some next → IsOctopus history shallow next rest found → IsOctopus history shallow base (other ∷ rest) found
  fold_next next rest found at it = (bases, are, subst (λ o. MatchOption o (found ≡ None) (λ b. IsOctopus history shallow b rest found)) (sym at) it)

  -- the first base is reached
  pub fold_reached : (next : ObjectId) → slice_get bases 0 ≡ Some next → Reaches (shown_parents history shallow) (base ∷ []) next
  fold_reached next at = elim (cases_Bool (has_id (other ∷ []) base)) [
    | inl same ↦
        let only : slice_get (base ∷ []) 0 ≡ Some next = subst (λ w. slice_get w 0 ≡ Some next) (are.alone (inr same)) at in
        let e : base ≡ next = cc in
        subst (Reaches (shown_parents history shallow) (base ∷ [])) e (start (has_self base))
    | inr apart ↦
        let base_is = ((are.listed (not_alone apart)).exact next).0 (has_id_get bases 0 next at) in
        base_is.common.of_one
  ] where
    not_alone : has_id (other ∷ []) base ≡ false → IsAlone base (other ∷ []) → ⊥
    not_alone apart (inl none) = cc
    not_alone apart (inr same) = both_ways _ apart same

-- ---- what an error may name

-- the first base stays the commit itself, or another one is met
pub fold_own : (one : ObjectId) (others : List ObjectId) (base other : ObjectId) (bases : List ObjectId) (next : ObjectId) → IsOwnOr one others base → has_id others other ≡ true → (IsAlone base (other ∷ []) → bases ≡ base ∷ []) → slice_get bases 0 ≡ Some next → IsOwnOr one others next
fold_own one others base other bases next (inr met) among alone at = inr met
fold_own one others base other bases next (inl own) among alone at = elim (cases_id other one) [
  | inl e ↦
      let only : slice_get (base ∷ []) 0 ≡ Some next = subst (λ w. slice_get w 0 ≡ Some next) (alone (inr (subst (λ w. has_id (other ∷ []) w ≡ true) (e ∙ sym own) (has_self other)))) at in
      let same : base ≡ next = cc in
      inl (sym same ∙ own)
  | inr ne ↦ inr (other, among, λ e. both_ways _ ne (subst (λ w. id_eq other w ≡ true) e (own_id other)))
]

pub fold_other : (one : ObjectId) (others : List ObjectId) (base other : ObjectId) → IsOwnOr one others base → has_id others other ≡ true → ¬ IsAlone base (other ∷ []) → HasOther one others
fold_other one others base other (inr met) among asked = met
fold_other one others base other (inl own) among asked = (other, among, λ e. asked (inr (subst (λ w. has_id (other ∷ []) w ≡ true) (e ∙ sym own) (has_self other))))

-- what a reached commit and another one reach
pub fold_names : (follow : ObjectId → List ObjectId) (one : ObjectId) (others : List ObjectId) (base other : ObjectId) → Reaches follow (one ∷ []) base → has_id others other ≡ true
    → {id : ObjectId} → Reaches follow (base ∷ other ∷ []) id → Reaches follow (one ∷ others) id
fold_names follow one others base other at among (start {x = id} said) = elim (or_cases _ _ said) [
  | inl here ↦ subst (Reaches follow (one ∷ others)) (same_id base id here) (reach_more (one_of one others) at)
  | inr there ↦ subst (Reaches follow (one ∷ others)) (single other id there) (start (or_right (id_eq one other) _ among))
]
fold_names follow one others base other at among (step before parent) = step (fold_names follow one others base other at among before) parent

-- an item of a list
pub item_is : (ids : List ObjectId) (i : ℕ) (x : ObjectId) → i < length ids → x ≡ get_or ids i x → has_id ids x ≡ true
item_is [] i x lt is = absurd (omega arith)
item_is (y ∷ ys) zero x lt is = or_left _ _ (subst (λ w. id_eq w x ≡ true) is (own_id x))
item_is (y ∷ ys) (suc i) x lt is = or_right (id_eq y x) _ (item_is ys i x (omega arith) is)

pub drop_item : (ids : List ObjectId) (i : ℕ) (x : ObjectId) → i < length ids → x ≡ get_or ids i x → drop i ids ≡ x ∷ drop (i + 1) ids
drop_item ids i x lt is =
    let e : suc i ≡ i + 1 = omega arith in
    drop-cons ids i x lt ∙ ap (λ n. get_or ids i x ∷ drop n ids) e ∙ ap (λ w. w ∷ drop (i + 1) ids) (sym is)

-- where all others are the commit itself, no base is missing
pub never_none : (one : ObjectId) (others : List ObjectId) (base other : ObjectId) (bases : List ObjectId) → IsOwnOr one others base → has_id others other ≡ true → (IsAlone base (other ∷ []) → bases ≡ base ∷ [])
    → slice_get bases 0 ≡ None → ((z : ObjectId) → has_id others z ≡ true → z ≡ one) → ⊥
never_none one others base other bases (inr met) among alone at own = met.2 (own met.0 met.1)
never_none one others base other bases (inl is_own) among alone at own =
    let same : other ≡ base = own other among ∙ sym is_own in
    let only : bases ≡ base ∷ [] = alone (inr (subst (λ w. has_id (other ∷ []) w ≡ true) same (has_self other))) in
    let some : Some base ≡ None = sym (ap (λ w. slice_get w 0) only) ∙ at in cc
