-- The best of common ancestors are those that no other one has as a parent.
use Rattle.std.proofs.Common.{◌≡◌, ℕ, zero, suc, ◌<◌, ◌+◌, ℤ, pos, Bool, true, false, not, List, [], ◌∷◌, length, get_or, map, filter, sym, refl, ap, ◌∙◌, subst, arith, ◌⊎◌, inl, inr, Option, Some, if◌then◌else◌}
use Rattle.std.specs.Prelude.{◌&&◌, ◌||◌, ◌↔◌}
use Rattle.std.specs.List.{list_any, slice_get}
use Rattle.std.proofs.lemmas.Bool.{and_from, and_parts, or_cases, or_left, or_right, both_ways, false_from_ne_true, false≢true, not-true}
use Rattle.gx_hash.specs.ObjectIds.{id_eq, has_id}
use Rattle.gx_hash.specs.Laws.{same_id, own_id}
use Rattle.gx_hash.specs.declared.oid.ObjectId.{ObjectId}
use Rattle.gx_walk.specs.Best.{IsBestOf, has_child}
use Rattle.gx_walk.specs.Graph.{history_in, IsGraphOf}
use Rattle.gx_walk.specs.History.{History, Node, followed, Reaches, start, step, parents_in, time_in, time_of}
use Rattle.gx_walk.specs.MergeBase.{AreBases, IsAlone, IsBase, IsBaseList, IsCommonAncestor, StandsBefore, shown_parents}
use Rattle.gx_walk.specs.Reaching.{AreRead}
use Rattle.gx_walk.specs.declared.commit.sorting.Parents.TheVariants.{All}
use Rattle.gx_walk.specs.declared.graph.Graph.{Graph}
use Rattle.gx_walk.proofs.IdLemmas.{cases_id, has_id-filter, has_id_get, has_self, single}

pub reach_then : {follow : ObjectId → List ObjectId} {ids : List ObjectId} {x y : ObjectId} → Reaches follow ids x → Reaches follow (x ∷ []) y → Reaches follow ids y
reach_then r (start among) = subst (Reaches _ _) (single _ _ among) r
reach_then r (step before parent) = step (reach_then r before) parent

pub reach_more : {follow : ObjectId → List ObjectId} {ids others : List ObjectId} {x : ObjectId} → ((y : ObjectId) → has_id ids y ≡ true → has_id others y ≡ true) → Reaches follow ids x → Reaches follow others x
reach_more f (start among) = start (f _ among)
reach_more f (step before parent) = step (reach_more f before) parent

any_of : (p : ObjectId → Bool) (ids : List ObjectId) → list_any p ids ≡ true → (z : ObjectId) × (has_id ids z ≡ true) × (p z ≡ true)
any_of p [] h = absurd (false≢true h)
any_of p (z ∷ zs) h = elim (or_cases _ _ h) [
  | inl e ↦ (z, or_left _ _ (own_id z), e)
  | inr rest ↦ let (y, among, e) = any_of p zs rest in (y, or_right _ _ among, e)
]

any_from : (p : ObjectId → Bool) (ids : List ObjectId) (z : ObjectId) → has_id ids z ≡ true → p z ≡ true → list_any p ids ≡ true
any_from p [] z h e = absurd (false≢true h)
any_from p (y ∷ ys) z h e = elim (or_cases _ _ h) [
  | inl here ↦ or_left _ _ (subst (λ w. p w ≡ true) (sym (same_id y z here)) e)
  | inr rest ↦ or_right _ _ (any_from p ys z rest e)
]

module _ (follow : ObjectId → List ObjectId) (one : ObjectId) (others : List ObjectId) where
  common_down : (x y : ObjectId) → IsCommonAncestor follow one others x → Reaches follow (x ∷ []) y → IsCommonAncestor follow one others y
  common_down x y c r = record { of_one = reach_then c.of_one r; of_others = reach_then c.of_others r }

  -- another common ancestor that has x as a parent
  record HasCommonChild (x : ObjectId) : Type 0 where
    pub child : ObjectId
    pub common : IsCommonAncestor follow one others child
    pub apart : child ≡ x → ⊥
    pub parent : has_id (follow child) x ≡ true

  -- what another common ancestor reaches is the parent of another one
  child_from_reach : (y : ObjectId) {x : ObjectId} → IsCommonAncestor follow one others y → (y ≡ x → ⊥) → Reaches follow (y ∷ []) x → HasCommonChild x
  child_from_reach y {x} c ne (start among) = absurd (ne (single y x among))
  child_from_reach y {x} c ne (step {x = z} before parent) = elim (cases_id z x) [
    | inl same ↦ subst HasCommonChild same (child_from_reach y {x = z} c (λ e. ne (e ∙ same)) before)
    | inr apart ↦ record { child = z; common = common_down y z c before; apart = λ e. both_ways _ apart (subst (λ w. id_eq z w ≡ true) e (own_id z)); parent = parent }
  ]

  module _ (a b list : List ObjectId) (by_one : (x : ObjectId) → (has_id a x ≡ true) ↔ Reaches follow (one ∷ []) x) (by_others : (x : ObjectId) → (has_id b x ≡ true) ↔ Reaches follow others x)
      (listed : (x : ObjectId) → has_id list x ≡ has_id b x) (read : ObjectId → List ObjectId) (agree : (x : ObjectId) → has_id b x ≡ true → read x ≡ follow x) where
    abbrev both : List ObjectId
    both = filter (has_id a) list

    abbrev child : ObjectId → Bool
    child q = list_any (λ z. not (id_eq z q) && has_id (read z) q) both

    pub both_parts : (x : ObjectId) → has_id both x ≡ true → (has_id a x ≡ true) × (has_id b x ≡ true)
    both_parts x h = let parts = and_parts (has_id a x) (has_id list x) (sym (has_id-filter (has_id a) list x) ∙ h) in (parts.0, sym (listed x) ∙ parts.1)

    common_from : (x : ObjectId) → has_id both x ≡ true → IsCommonAncestor follow one others x
    common_from x h = let parts = both_parts x h in record { of_one = (by_one x).0 parts.0; of_others = (by_others x).0 parts.1 }

    from_common : (x : ObjectId) → IsCommonAncestor follow one others x → has_id both x ≡ true
    from_common x c = has_id-filter (has_id a) list x ∙ and_from _ _ ((by_one x).1 c.of_one) (listed x ∙ (by_others x).1 c.of_others)

    child_from : (q : ObjectId) → child q ≡ true → HasCommonChild q
    child_from q h =
        let (z, among, test) = any_of (λ z. not (id_eq z q) && has_id (read z) q) both h in
        let parts = and_parts (not (id_eq z q)) (has_id (read z) q) test in
        record { child = z; common = common_from z among; apart = λ e. both_ways _ (not-true _ parts.0) (subst (λ w. id_eq z w ≡ true) e (own_id z)); parent = subst (λ w. has_id w q ≡ true) (agree z (both_parts z among).1) parts.1 }

    from_child : (q : ObjectId) → HasCommonChild q → child q ≡ true
    from_child q h =
        let among = from_common h.child h.common in
        any_from (λ z. not (id_eq z q) && has_id (read z) q) both h.child among
        (and_from _ _ (ap not (false_from_ne_true _ (λ e. h.apart (same_id h.child q e)))) (subst (λ w. has_id w q ≡ true) (sym (agree h.child (both_parts h.child among).1)) h.parent))

    pub base_is : (x : ObjectId) → ((not (child x) && has_id both x) ≡ true) ↔ IsBase follow one others x
    base_is x = (
      λ h.
          let parts = and_parts (not (child x)) (has_id both x) h in
          record {
            common = common_from x parts.1;
            best = λ y c r. elim (cases_id y x) [
              | inl e ↦ e
              | inr ne ↦ absurd (both_ways _ (not-true _ parts.0) (from_child x (child_from_reach y c (λ e. both_ways _ ne (subst (λ w. id_eq y w ≡ true) e (own_id y))) r)))
            ];
          },
      λ m. and_from _ _ (ap not (false_from_ne_true _ (λ e. let h = child_from x e in h.apart (m.best h.child h.common (step (start (has_self h.child)) h.parent))))) (from_common x m.common),
    )

-- the best by what was read are the bases in the history
pub base_list : (history read : History) (shallow : List ObjectId) (one : ObjectId) (others a b list bases : List ObjectId)
    → ((x : ObjectId) → (has_id a x ≡ true) ↔ Reaches (shown_parents history shallow) (one ∷ []) x) → ((x : ObjectId) → (has_id b x ≡ true) ↔ Reaches (shown_parents history shallow) others x)
    → ((x : ObjectId) → has_id list x ≡ has_id b x) → ((x : ObjectId) → has_id b x ≡ true → history x ≡ read x) → IsBestOf read (has_id shallow) (filter (has_id a) list) bases
    → IsBaseList history shallow one others bases
base_list history read shallow one others a b list bases by_one by_others listed agree best = record {
  exact = λ x. let at = base_is (shown_parents history shallow) one others a b list by_one by_others listed (shown_parents read shallow) parents_agree x in (λ h. at.0 (sym (best.exact x) ∙ h), λ m. best.exact x ∙ at.1 m);
  ordered = λ i j x y lt at_i at_j.
      subst (λ t. StandsBefore t x (time_of history y) y) (sym (times_agree x (has_id_get bases i x at_i)))
      (subst (λ u. StandsBefore (time_of read x) x u y) (sym (times_agree y (has_id_get bases j y at_j))) (best.ordered i j x y lt at_i at_j));
} where
  parents_agree : (x : ObjectId) → has_id b x ≡ true → shown_parents read shallow x ≡ shown_parents history shallow x
  parents_agree x h = ap (λ (o : Option Node). if has_id shallow x then [] else parents_in o) (sym (agree x h))

  times_agree : (x : ObjectId) → has_id bases x ≡ true → time_of history x ≡ time_of read x
  times_agree x h =
      let in_both = (and_parts (not (has_child read (has_id shallow) (filter (has_id a) list) x)) (has_id (filter (has_id a) list) x) (sym (best.exact x) ∙ h)).1 in
      ap time_in (agree x (both_parts (shown_parents history shallow) one others a b list by_one by_others listed (shown_parents read shallow) parents_agree x in_both).1)

-- one commit is one of several
pub one_of : (one : ObjectId) (others : List ObjectId) (y : ObjectId) → has_id (one ∷ []) y ≡ true → has_id (one ∷ others) y ≡ true
one_of one others y h = or_left _ _ (subst (λ w. id_eq one w ≡ true) (single one y h) (own_id one))

-- sets with the same shallow ids
shallow_same : (set shallow : List ObjectId) → ((x : ObjectId) → has_id set x ≡ has_id shallow x) → has_id set ≡ has_id shallow
shallow_same set shallow same = λ i x. same x i

pub reach_shallow : (history : History) (set shallow : List ObjectId) → ((x : ObjectId) → has_id set x ≡ has_id shallow x) → {ids : List ObjectId} {x : ObjectId} → Reaches (followed history All (has_id set)) ids x → Reaches (shown_parents history shallow) ids x
reach_shallow history set shallow same {ids} {x} r = subst (λ w. Reaches (followed history All w) ids x) (shallow_same set shallow same) r

-- what is answered, where the commit is not alone
pub base_answer : (history : History) (graph : Graph (Unit {0})) (set shallow : List ObjectId) → ((x : ObjectId) → has_id set x ≡ has_id shallow x) → (one : ObjectId) (others a b list bases : List ObjectId)
    → ((x : ObjectId) → (has_id a x ≡ true) ↔ Reaches (followed history All (has_id set)) (one ∷ []) x) → ((x : ObjectId) → (has_id b x ≡ true) ↔ Reaches (followed history All (has_id set)) others x)
    → ((x : ObjectId) → has_id list x ≡ has_id b x) → AreRead graph b → IsGraphOf history graph → IsBestOf (history_in graph) (has_id set) (filter (has_id a) list) bases
    → ¬ IsAlone one others → AreBases history shallow one others bases
base_answer history graph set shallow same one others a b list bases by_one by_others listed read of best asked = record {
  alone = λ h. absurd (asked h);
  listed = λ _.
      let e = shallow_same set shallow same in
      base_list history (history_in graph) shallow one others a b list bases
      (subst (λ w. (x : ObjectId) → (has_id a x ≡ true) ↔ Reaches (followed history All w) (one ∷ []) x) e by_one)
      (subst (λ w. (x : ObjectId) → (has_id b x ≡ true) ↔ Reaches (followed history All w) others x) e by_others)
      listed (λ x h. of x (read x h)) (subst (λ w. IsBestOf (history_in graph) w (filter (has_id a) list) bases) e best);
}
