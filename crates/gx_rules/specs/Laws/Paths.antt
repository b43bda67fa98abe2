-- The components of a text, up to its first slash and after it.
use Rattle.std.proofs.Common.{◌≡◌, ℕ, suc, Bool, true, false, ◌+◌, ◌<◌, ◌≤◌, cond, List, [], ◌∷◌, drop, take, length, ◌++◌, Option, Some, None, refl, ap, ◌∙◌, arith, ◌==◌, add-one, one-add, not, nat_lt, MatchOption, ltb-true, ltb-false}
use Rattle.std.specs.List.{position, position_or_len, join_with_byte, slice_split, onto_first}
use Rattle.std.proofs.lemmas.List.Splits.{join_with_byte-slice_split}
use Rattle.gx_rules.specs.Path.{Path, components, at_front}

abbrev pub is_slash : ℕ → Bool
is_slash b = b == 47

pub components-none : (bs : List ℕ) → length bs ≤ position_or_len is_slash bs → components bs ≡ bs ∷ []
components-none [] h = refl
components-none (b ∷ bs) h = go (b == 47) h (components-none bs)
  where
    go : (t : Bool) → suc (length bs) ≤ cond (not t) (1 + position_or_len is_slash bs) 0 → (length bs ≤ position_or_len is_slash bs → components bs ≡ bs ∷ []) → cond t ([] ∷ components bs) (at_front b (components bs)) ≡ (b ∷ bs) ∷ []
    go true h ih = absurd (omega (arith, h))
    go false h ih = ap (at_front b) (ih (omega (arith, h)))

pub components-some : (bs : List ℕ) → position_or_len is_slash bs < length bs → components bs ≡ take (position_or_len is_slash bs) bs ∷ components (drop (suc (position_or_len is_slash bs)) bs)
components-some [] h = absurd (omega (arith, h))
components-some (b ∷ bs) h = go (b == 47) h (components-some bs)
  where
    go : (t : Bool) → cond (not t) (1 + position_or_len is_slash bs) 0 < suc (length bs) → (position_or_len is_slash bs < length bs → components bs ≡ take (position_or_len is_slash bs) bs ∷ components (drop (suc (position_or_len is_slash bs)) bs))
        → cond t ([] ∷ components bs) (at_front b (components bs)) ≡ take (cond (not t) (1 + position_or_len is_slash bs) 0) (b ∷ bs) ∷ components (drop (suc (cond (not t) (1 + position_or_len is_slash bs) 0)) (b ∷ bs))
    go true h ih = refl
    go false h ih = let k : position_or_len is_slash bs < length bs = omega (arith, h) in
        ap (at_front b) (ih k) ∙ rw one-add refl

pub components-position : (bs : List ℕ) → MatchOption (position is_slash bs) (components bs ≡ bs ∷ []) (λ k. (k < length bs) × (components bs ≡ take k bs ∷ components (drop (k + 1) bs)))
components-position bs = go (nat_lt (position_or_len is_slash bs) (length bs)) refl
  where
    go : (t : Bool) → nat_lt (position_or_len is_slash bs) (length bs) ≡ t → MatchOption (cond t (Some (position_or_len is_slash bs)) None) (components bs ≡ bs ∷ []) (λ k. (k < length bs) × (components bs ≡ take k bs ∷ components (drop (k + 1) bs)))
    go true e = let h : position_or_len is_slash bs < length bs = ltb-true _ _ e in (h, rw add-one (components-some bs h))
    go false e = components-none bs (ltb-false _ _ e)

pub components_found : (bs : List ℕ) (r : Option ℕ) → r ≡ position is_slash bs → MatchOption r (components bs ≡ bs ∷ []) (λ k. (k < length bs) × (components bs ≡ take k bs ∷ components (drop (k + 1) bs)))
components_found bs r e = rw e (components-position bs)

-- a text has at least one name
pub components_some : (bs : List ℕ) → components bs ≡ [] → ⊥
components_some [] e = cc
components_some (b ∷ bs) e = go (b == 47) (components bs) e
  where
    go : (t : Bool) (p : Path) → cond t ([] ∷ p) (at_front b p) ≡ [] → ⊥
    go true p e = cc
    go false [] e = cc
    go false (n ∷ p) e = cc

-- the recursion is that of `split`
at_front_is : (b : ℕ) (path : Path) → at_front b path ≡ onto_first b path
at_front_is b [] = refl
at_front_is b (name ∷ path) = refl

pub components_split : (bytes : List ℕ) → components bytes ≡ slice_split is_slash bytes
components_split [] = refl
components_split (b ∷ bytes) = go (b == 47) (components_split bytes)
  where
    go : (t : Bool) → components bytes ≡ slice_split is_slash bytes → cond t ([] ∷ components bytes) (at_front b (components bytes)) ≡ cond t ([] ∷ slice_split is_slash bytes) (onto_first b (slice_split is_slash bytes))
    go true ih = ap (λ (path : Path). [] ∷ path) ih
    go false ih = ap (at_front b) ih ∙ at_front_is b (slice_split is_slash bytes)

pub components_joined : (bytes : List ℕ) → join_with_byte 47 (components bytes) ≡ bytes
components_joined bytes = ap (join_with_byte 47) (components_split bytes) ∙ join_with_byte-slice_split 47 bytes

front_more : (b : ℕ) (path more : Path) → (path ≡ [] → ⊥) → at_front b (path ++ more) ≡ at_front b path ++ more
front_more b [] more some = absurd (some refl)
front_more b (name ∷ path) more some = refl

-- the components of two texts with a slash between them
pub components_of_two : (one two : List ℕ) → components (one ++ (47 ∷ two)) ≡ components one ++ components two
components_of_two [] two = refl
components_of_two (b ∷ one) two = go (b == 47) (components_of_two one two)
  where
    go : (t : Bool) → components (one ++ (47 ∷ two)) ≡ components one ++ components two → cond t ([] ∷ components (one ++ (47 ∷ two))) (at_front b (components (one ++ (47 ∷ two)))) ≡ cond t ([] ∷ components one) (at_front b (components one)) ++ components two
    go true ih = ap (λ (path : Path). [] ∷ path) ih
    go false ih = ap (at_front b) ih ∙ front_more b (components one) (components two) (components_some one)
