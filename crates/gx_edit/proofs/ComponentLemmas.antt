-- A text's names, up to its first slash and after it.
use Rattle.std.proofs.Common.{◌≡◌, ℕ, suc, Bool, true, false, ◌+◌, ◌<◌, ◌≤◌, cond, List, [], ◌∷◌, drop, take, length, Option, Some, None, refl, sym, ap, ◌∙◌, arith, ◌==◌, add-one, one-add, not, nat_lt, MatchOption, ltb-true, ltb-false}
use Rattle.std.specs.List.{position, position_or_len}
use Rattle.gx_edit.specs.Path.{Path, components, at_front}

abbrev pub is_slash : ℕ → Bool
is_slash b = b == 47

pub components-none : (bs : List ℕ) → length bs ≤ position_or_len is_slash bs → components bs ≡ bs ∷ []
components-none [] h = refl
components-none (b ∷ bs) h = go (b == 47) h (components-none bs)
  where
    go : (t : Bool) → suc (length bs) ≤ cond (not t) (1 + position_or_len is_slash bs) 0 → (length bs ≤ position_or_len is_slash bs → components bs ≡ bs ∷ []) → cond t ([] ∷ components bs) (at_front b (components bs)) ≡ (b ∷ bs) ∷ []
    go true h ih = absurd (omega (arith, h))
    go false h ih = ap (at_front b) (ih (omega (arith, h)))

pub components-some : (bs : List ℕ) → position_or_len is_slash bs < length bs → components bs ≡ take (position_or_len is_slash bs) bs ∷ components (drop (suc (position_or_len is_slash bs)) bs)
components-some [] h = absurd (omega (arith, h))
components-some (b ∷ bs) h = go (b == 47) h (components-some bs)
  where
    go : (t : Bool) → cond (not t) (1 + position_or_len is_slash bs) 0 < suc (length bs) → (position_or_len is_slash bs < length bs → components bs ≡ take (position_or_len is_slash bs) bs ∷ components (drop (suc (position_or_len is_slash bs)) bs))
        → cond t ([] ∷ components bs) (at_front b (components bs)) ≡ take (cond (not t) (1 + position_or_len is_slash bs) 0) (b ∷ bs) ∷ components (drop (suc (cond (not t) (1 + position_or_len is_slash bs) 0)) (b ∷ bs))
    go true h ih = refl
    go false h ih = let k : position_or_len is_slash bs < length bs = omega (arith, h) in
        ap (at_front b) (ih k) ∙ rw one-add refl

pub components-position : (bs : List ℕ) → MatchOption (position is_slash bs) (components bs ≡ bs ∷ []) (λ k. (k < length bs) × (components bs ≡ take k bs ∷ components (drop (k + 1) bs)))
components-position bs = go (nat_lt (position_or_len is_slash bs) (length bs)) refl
  where
    go : (t : Bool) → nat_lt (position_or_len is_slash bs) (length bs) ≡ t → MatchOption (cond t (Some (position_or_len is_slash bs)) None) (components bs ≡ bs ∷ []) (λ k. (k < length bs) × (components bs ≡ take k bs ∷ components (drop (k + 1) bs)))
    go true e = let h : position_or_len is_slash bs < length bs = ltb-true _ _ e in (h, rw add-one (components-some bs h))
    go false e = components-none bs (ltb-false _ _ e)

pub components_found : (bs : List ℕ) (r : Option ℕ) → r ≡ position is_slash bs → MatchOption r (components bs ≡ bs ∷ []) (λ k. (k < length bs) × (components bs ≡ take k bs ∷ components (drop (k + 1) bs)))
components_found bs r e = rw e (components-position bs)

-- a text has at least one name
pub components_some : (bs : List ℕ) → components bs ≡ [] → ⊥
components_some [] e = cc
components_some (b ∷ bs) e = go (b == 47) (components bs) e
  where
    go : (t : Bool) (p : Path) → cond t ([] ∷ p) (at_front b p) ≡ [] → ⊥
    go true p e = cc
    go false [] e = cc
    go false (n ∷ p) e = cc

pub some_name : (bs : List ℕ) → (c : List ℕ) × (p : Path) × (components bs ≡ c ∷ p)
some_name bs = go (components bs) refl
  where
    go : (q : Path) → components bs ≡ q → (c : List ℕ) × (p : Path) × (components bs ≡ c ∷ p)
    go [] e = absurd (components_some bs e)
    go (c ∷ p) e = (c, p, e)

-- a text that is one name is that name
pub components_one : (bs n : List ℕ) → components bs ≡ n ∷ [] → n ≡ bs
components_one [] n e = cc
components_one (b ∷ bs) n e = go (b == 47) (components bs) refl e (components_one bs)
  where
    go : (t : Bool) (p : Path) → components bs ≡ p → cond t ([] ∷ p) (at_front b p) ≡ n ∷ [] → ((m : List ℕ) → components bs ≡ m ∷ [] → m ≡ bs) → n ≡ b ∷ bs
    go true p is e ih = absurd (components_some bs (is ∙ (let none : p ≡ [] = cc in none)))
    go false [] is e ih = absurd (components_some bs is)
    go false (m ∷ []) is e ih = let tail : m ≡ bs = ih m is in let front : b ∷ m ≡ n = cc in sym front ∙ ap (λ l. b ∷ l) tail
    go false (m ∷ k ∷ p) is e ih = cc
