-- How a key is found among keys that ascend.
use Rattle.std.proofs.Common.{◌≡◌, ◌<◌, ◌∙◌, ℕ, zero, suc, Bool, true, false, cond, Some, None, List, [], ◌∷◌, sym, ap, refl, inl, inr, arith}
use Rattle.std.specs.List.{slice_get, AllByRecursion}
use Rattle.std.specs.List.Sorted.{IsStrictlySortedBy}
use Rattle.std.specs.Cmp.{IsTotalOrder}
use Rattle.std.specs.Ordering.{is_eq}
use Rattle.std.specs.declared.cmp.Ordering.{Ordering}
use Rattle.std.specs.declared.cmp.Ordering.TheVariants.{Less, Equal, Greater}
use Rattle.std.specs.Map.{keys_of}
use Rattle.std.proofs.lemmas.Bool.{cases_order}
use Rattle.std.proofs.lemmas.Cmp.{nat_list_cmp_total, on_total, then_total, tied_back, alike_right}
use Rattle.std.proofs.lemmas.Map.Keys.{sorted_head, sorted_tail}
use Rattle.gx_actor.specs.declared.mailmap.index.Places.{Places}
use Rattle.gx_actor.specs.Index.{Key, IsIndex, key_cmp, look}

pub keys_total : IsTotalOrder key_cmp
keys_total = then_total (on_total (λ (key : Key). key.0) nat_list_cmp_total) (on_total (λ (key : Key). key.1) nat_list_cmp_total)

pub is_equal : (o : Ordering) → is_eq o ≡ true → o ≡ Equal
is_equal Less e = cc
is_equal Equal e = refl
is_equal Greater e = cc

-- what holds of each key holds of the one at a place
key_at : (P : Key → Type 0) (slots : List (Key × Places)) (k : ℕ) (slot : Key × Places) → AllByRecursion P (keys_of slots) → slice_get slots k ≡ Some slot → P slot.0
key_at P [] k slot all at = cc
key_at P (s ∷ ss) zero slot all at = let same : s ≡ slot = cc in rw (← same) all.0
key_at P (s ∷ ss) (suc k) slot all at = key_at P ss k slot all.1 at

-- earlier keys are below later ones
below : (slots : List (Key × Places)) (i j : ℕ) (s t : Key × Places) → IsStrictlySortedBy key_cmp (keys_of slots) → i < j → slice_get slots i ≡ Some s → slice_get slots j ≡ Some t → key_cmp s.0 t.0 ≡ Less
below [] i j s t sorted order p q = cc
below (x ∷ xs) zero zero s t sorted order p q = absurd (omega arith)
below (x ∷ xs) zero (suc j) s t sorted order p q =
    let same : x ≡ s = cc in
    rw (← same) (key_at (λ y. key_cmp x.0 y ≡ Less) xs j t (sorted_head key_cmp x.0 (keys_of xs) sorted) q)
below (x ∷ xs) (suc i) zero s t sorted order p q = absurd (omega arith)
below (x ∷ xs) (suc i) (suc j) s t sorted order p q = below xs i j s t (sorted_tail key_cmp x.0 (keys_of xs) sorted) (omega arith) p q

same_slot : (slots : List (Key × Places)) (i j : ℕ) (s t : Key × Places) → i ≡ j → slice_get slots i ≡ Some s → slice_get slots j ≡ Some t → s ≡ t
same_slot slots i j s t e p q = let both : Some s ≡ Some t = sym p ∙ ap (slice_get slots) e ∙ q in cc

less_equal : (o : Ordering) → o ≡ Less → o ≡ Equal → ⊥
less_equal o p q = cc

-- no key up to one that is below the key is the key
pub after_less : (slots : List (Key × Places)) (key : Key) (i j : ℕ) (s t : Key × Places) → IsStrictlySortedBy key_cmp (keys_of slots) → slice_get slots i ≡ Some s → slice_get slots j ≡ Some t → key_cmp t.0 key ≡ Less → key_cmp s.0 key ≡ Equal → j < i
after_less slots key i j s t sorted p q less equal =
    elim (cases_order i j) [
      | inl same ↦ absurd (less_equal (key_cmp t.0 key) less (ap (λ (x : Key × Places). key_cmp x.0 key) (sym (same_slot slots i j s t same p q)) ∙ equal))
      | inr apart ↦
          elim apart [
            | inl before ↦ absurd (less_equal (key_cmp s.0 key) (keys_total.trans s.0 t.0 key (below slots i j s t sorted before p q) less) equal)
            | inr after ↦ after
          ]
    ]

greater_equal : (o : Ordering) → o ≡ Greater → o ≡ Equal → ⊥
greater_equal o p q = cc

greater_less : (o : Ordering) → o ≡ Greater → o ≡ Less → ⊥
greater_less o p q = cc

-- and no key from one on that is above it
pub before_greater : (slots : List (Key × Places)) (key : Key) (i j : ℕ) (s t : Key × Places) → IsStrictlySortedBy key_cmp (keys_of slots) → slice_get slots i ≡ Some s → slice_get slots j ≡ Some t → key_cmp t.0 key ≡ Greater → key_cmp s.0 key ≡ Equal → i < j
before_greater slots key i j s t sorted p q greater equal =
    elim (cases_order i j) [
      | inl same ↦ absurd (greater_equal (key_cmp t.0 key) greater (ap (λ (x : Key × Places). key_cmp x.0 key) (sym (same_slot slots i j s t same p q)) ∙ equal))
      | inr apart ↦
          elim apart [
            | inl before ↦ before
            | inr after ↦ absurd (greater_less (key_cmp t.0 key) greater (sym (alike_right keys_total s.0 key t.0 equal) ∙ below slots j i t s sorted after q p))
          ]
    ]

look_step : (s : Key × Places) (ss : List (Key × Places)) (key : Key) (b : Bool) → is_eq (key_cmp key s.0) ≡ b → look (s ∷ ss) key ≡ cond b (Some s.1) (look ss key)
look_step s ss key b e = rw e refl

unless_tied : (s slot : Key × Places) (key : Key) (b : Bool) → key_cmp s.0 slot.0 ≡ Less → key_cmp slot.0 key ≡ Equal → is_eq (key_cmp key s.0) ≡ b → b ≡ false
unless_tied s slot key false less equal e = refl
unless_tied s slot key true less equal e =
    let here : key_cmp key s.0 ≡ Equal = is_equal _ e in
    let there : key_cmp key slot.0 ≡ Equal = tied_back keys_total slot.0 key equal in
    absurd (less_equal (key_cmp s.0 slot.0) less (sym (keys_total.congr key s.0 slot.0 here) ∙ there))

-- a key that ties with the key has its places
pub look_at : (slots : List (Key × Places)) (key : Key) (k : ℕ) (slot : Key × Places) → IsStrictlySortedBy key_cmp (keys_of slots) → slice_get slots k ≡ Some slot → key_cmp slot.0 key ≡ Equal → look slots key ≡ Some slot.1
look_at [] key k slot sorted at equal = cc
look_at (s ∷ ss) key zero slot sorted at equal =
    let same : s ≡ slot = cc in
    let tied : key_cmp key slot.0 ≡ Equal = tied_back keys_total slot.0 key equal in
    look_step s ss key true (ap is_eq (ap (λ (x : Key × Places). key_cmp key x.0) same ∙ tied)) ∙ ap (λ (x : Key × Places). Some x.1) same
look_at (s ∷ ss) key (suc k) slot sorted at equal =
    let less : key_cmp s.0 slot.0 ≡ Less = key_at (λ y. key_cmp s.0 y ≡ Less) ss k slot (sorted_head key_cmp s.0 (keys_of ss) sorted) at in
    look_step s ss key false (unless_tied s slot key _ less equal refl) ∙ look_at ss key k slot (sorted_tail key_cmp s.0 (keys_of ss) sorted) at equal

never_tied : (s : Key × Places) (key : Key) (b : Bool) → (key_cmp s.0 key ≡ Equal → ⊥) → is_eq (key_cmp key s.0) ≡ b → b ≡ false
never_tied s key false never e = refl
never_tied s key true never e = absurd (never (tied_back keys_total key s.0 (is_equal _ e)))

-- where none ties there are none
pub look_none : (slots : List (Key × Places)) (key : Key) → ((k : ℕ) (slot : Key × Places) → slice_get slots k ≡ Some slot → key_cmp slot.0 key ≡ Equal → ⊥) → look slots key ≡ None
look_none [] key never = refl
look_none (s ∷ ss) key never = look_step s ss key false (never_tied s key _ (never zero s refl) refl) ∙ look_none ss key (λ k slot at. never (suc k) slot at)

-- no entries have no keys
pub empty_index : IsIndex [] []
unfolding IsStrictlySortedBy
empty_index = record { ascends = tt; places = λ key. refl }
