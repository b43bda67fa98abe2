-- The texts that a text lies below, shorter ones first.
use Rattle.std.proofs.Common.{◌≡◌, ◌⊎◌, inl, inr, ℕ, suc, ◌+◌, ◌<◌, Bool, true, false, ◌&&◌, ◌||◌, ◌==◌, nat_lt, cond, List, [], ◌∷◌, length, take, get_or, Option, None, refl, sym, ap, ap₂, ◌∙◌, arith}
use Rattle.std.proofs.lemmas.Bool.{cases_order, le-ltb, lt-ltb}
use Rattle.std.proofs.lemmas.List.{length-take-le}
use Rattle.std.specs.Str.{bytes_eq}
use Rattle.gx_edit.specs.PathList.{PathList}
use Rattle.gx_edit.specs.PathTexts.{leaf_at_text, is_below}
use Rattle.gx_edit.specs.declared.leaf.Leaf.{Leaf}
use Rattle.gx_edit.proofs.PathLemmas.{bytes_eq-is}
use Rattle.gx_edit.proofs.TextLemmas.{bytes_eq-turned, and_false}

pub below_longer : (q p : List ℕ) → is_below q p ≡ true → length q < length p
below_longer [] [] e = cc
below_longer [] (b ∷ p) e = omega arith
below_longer (a ∷ q) [] e = cc
below_longer (a ∷ q) (b ∷ p) e = go (a == b) e (below_longer q p)
  where
    go : (t : Bool) → (t && is_below q p) ≡ true → (is_below q p ≡ true → length q < length p) → suc (length q) < suc (length p)
    go true e ih = let less : length q < length p = ih e in omega (arith, less)
    go false e ih = cc

and_grouped : (s t u : Bool) → (s && (t && u)) ≡ ((s && t) && u)
and_grouped true t u = refl
and_grouped false t u = refl

below_is : (q p : List ℕ) → length q < length p → is_below q p ≡ (bytes_eq q (take (length q) p) && (get_or p (length q) 0 == 47))
below_is [] [] h = absurd (omega (arith, h))
below_is [] (b ∷ p) h = refl
below_is (a ∷ q) [] h = absurd (omega (arith, h))
below_is (a ∷ q) (b ∷ p) h = ap (λ t. (a == b) && t) (below_is q p (omega (arith, h))) ∙ and_grouped (a == b) (bytes_eq q (take (length q) p)) (get_or p (length q) 0 == 47)

differ : (a b : List ℕ) → (length a ≡ length b → ⊥) → bytes_eq a b ≡ false
differ a b other = go (bytes_eq a b) refl
  where
    go : (t : Bool) → bytes_eq a b ≡ t → t ≡ false
    go false e = refl
    go true e = absurd (other (ap length (bytes_eq-is a b e)))

turned : (t s : Bool) → (t && s) ≡ ((s && t) || false)
turned true true = refl
turned true false = refl
turned false true = refl
turned false false = refl

-- the texts above up to a place, and the one that ends there
above_next : (p q : List ℕ) (at : ℕ) → at < length p → (nat_lt (length q) (at + 1) && is_below q p) ≡ (((get_or p at 0 == 47) && bytes_eq (take at p) q) || (nat_lt (length q) at && is_below q p))
above_next p q at within = go (cases_order (length q) at)
  where
    long : length (take at p) ≡ at
    long = length-take-le at p (omega (arith, within))

    apart : (length q ≡ at → ⊥) → ((get_or p at 0 == 47) && bytes_eq (take at p) q) ≡ false
    apart other = ap (λ t. (get_or p at 0 == 47) && t) (differ (take at p) q (λ e. other (sym e ∙ long))) ∙ and_false (get_or p at 0 == 47)

    go : (length q ≡ at) ⊎ ((length q < at) ⊎ (at < length q)) → (nat_lt (length q) (at + 1) && is_below q p) ≡ (((get_or p at 0 == 47) && bytes_eq (take at p) q) || (nat_lt (length q) at && is_below q p))
    go (inl same) =
        ap (λ t. t && is_below q p) (lt-ltb (length q) (at + 1) (omega (arith, same)))
        ∙ below_is q p (omega (arith, same, within))
        ∙ ap (λ k. bytes_eq q (take k p) && (get_or p k 0 == 47)) same
        ∙ ap (λ t. t && (get_or p at 0 == 47)) (bytes_eq-turned q (take at p))
        ∙ turned (bytes_eq (take at p) q) (get_or p at 0 == 47)
        ∙ ap (λ t. ((get_or p at 0 == 47) && bytes_eq (take at p) q) || (t && is_below q p)) (sym (le-ltb (length q) at (omega (arith, same))))
    go (inr (inl less)) =
        ap (λ t. t && is_below q p) (lt-ltb (length q) (at + 1) (omega (arith, less)))
        ∙ ap₂ (λ s t. s || (t && is_below q p)) (sym (apart (λ e. absurd (omega (arith, e, less))))) (sym (lt-ltb (length q) at less))
    go (inr (inr more)) =
        ap (λ t. t && is_below q p) (le-ltb (length q) (at + 1) (omega (arith, more)))
        ∙ ap₂ (λ s t. s || (t && is_below q p)) (sym (apart (λ e. absurd (omega (arith, e, more))))) (sym (le-ltb (length q) at (omega (arith, more))))

both : (a b : Bool) (o : Option Leaf) → cond a None (cond b None o) ≡ cond (a || b) None o
both true b o = refl
both false b o = refl

pub above_step : (p : List ℕ) (at : ℕ) (old mid new : PathList) → at < length p → ((q : List ℕ) → leaf_at_text new q ≡ cond ((get_or p at 0 == 47) && bytes_eq (take at p) q) None (leaf_at_text mid q))
    → ((q : List ℕ) → leaf_at_text mid q ≡ cond (nat_lt (length q) at && is_below q p) None (leaf_at_text old q)) → (q : List ℕ) → leaf_at_text new q ≡ cond (nat_lt (length q) (at + 1) && is_below q p) None (leaf_at_text old q)
above_step p at old mid new within gone before q =
    gone q ∙ ap (cond ((get_or p at 0 == 47) && bytes_eq (take at p) q) None) (before q)
    ∙ both ((get_or p at 0 == 47) && bytes_eq (take at p) q) (nat_lt (length q) at && is_below q p) (leaf_at_text old q)
    ∙ ap (λ t. cond t None (leaf_at_text old q)) (sym (above_next p q at within))

pub above_all : (p : List ℕ) (at : ℕ) (old new : PathList) → length p < at + 1 → ((q : List ℕ) → leaf_at_text new q ≡ cond (nat_lt (length q) at && is_below q p) None (leaf_at_text old q)) → (q : List ℕ) → leaf_at_text new q ≡ cond (is_below q p) None (leaf_at_text old q)
above_all p at old new end before q = before q ∙ ap (λ t. cond t None (leaf_at_text old q)) (go (is_below q p) refl)
  where
    go : (t : Bool) → is_below q p ≡ t → (nat_lt (length q) at && t) ≡ t
    go true e = let less : length q < length p = below_longer q p e in ap (λ t. t && true) (lt-ltb (length q) at (omega (arith, less, end)))
    go false e = and_false (nat_lt (length q) at)
