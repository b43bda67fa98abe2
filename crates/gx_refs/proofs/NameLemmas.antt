-- Names among names.
use Rattle.std.proofs.Common.{◌≡◌, ◌≢◌, ◌∙◌, sym, ap, refl, ℕ, Bool, true, false, ◌||◌, List, [], ◌∷◌, ◌++◌, map}
use Rattle.std.specs.Str.{bytes_eq}
use Rattle.std.specs.List.{AllByRecursion}
use Rattle.std.proofs.lemmas.Slice.Eq.{bytes_eq-Decides}
use Rattle.gx_store.specs.Change.{HaveDistinctNames}
use Rattle.gx_store.specs.declared.change.RefChange.{RefChange}
use Rattle.gx_refs.specs.Chain.{is_among, AreDistinct}

pub same_name : (a b : List ℕ) → bytes_eq a b ≡ true → a ≡ b
same_name a b = (bytes_eq-Decides a b).0

pub own_name : (a : List ℕ) → bytes_eq a a ≡ true
own_name a = (bytes_eq-Decides a a).1 refl

pub other_name : (a b : List ℕ) → bytes_eq a b ≡ false → a ≢ b
other_name a b h e = let clash : true ≡ false = sym ((bytes_eq-Decides a b).1 e) ∙ h in cc

pub turned : (a b : List ℕ) → bytes_eq a b ≡ false → bytes_eq b a ≡ false
turned a b h = go (bytes_eq b a) refl
  where
    go : (t : Bool) → bytes_eq b a ≡ t → bytes_eq b a ≡ false
    go true e = absurd (other_name a b h (sym (same_name b a e)))
    go false e = e

-- neither of two holds
pub neither : (a b : Bool) → (a || b) ≡ false → (a ≡ false) × (b ≡ false)
neither true b e = let h : true ≡ false = e in cc
neither false b e = (refl, e)

pub nor : (a b : Bool) → a ≡ false → b ≡ false → (a || b) ≡ false
nor true b h k = h
nor false b h k = k

among_more : (name next : List ℕ) (names : List (List ℕ)) → is_among name names ≡ false → bytes_eq next name ≡ false → is_among name (names ++ next ∷ []) ≡ false
among_more name next [] h k = nor _ _ k refl
among_more name next (x ∷ names) h k = let p = neither _ _ h in nor _ _ p.0 (among_more name next names p.1 k)

-- names with one more that is none of them
pub distinct_more : (names : List (List ℕ)) (next : List ℕ) → AreDistinct names → is_among next names ≡ false → AreDistinct (names ++ next ∷ [])
distinct_more [] next d h = (refl, tt)
distinct_more (x ∷ names) next d h =
    let p = neither _ _ h in
    (among_more x next names d.0 (turned x next p.0), distinct_more names next d.1 p.1)

pub among_at : (name : List ℕ) (names : List (List ℕ)) (next : List ℕ) (more : List (List ℕ)) → is_among name (names ++ next ∷ more) ≡ false → bytes_eq next name ≡ false
among_at name [] next more h = (neither _ _ h).0
among_at name (x ∷ names) next more h = among_at name names next more (neither _ _ h).1

-- of distinct names each is new to those before it
pub distinct_new : (names : List (List ℕ)) (next : List ℕ) (more : List (List ℕ)) → AreDistinct (names ++ next ∷ more) → is_among next names ≡ false
distinct_new [] next more d = refl
distinct_new (x ∷ names) next more d = nor _ _ (turned next x (among_at x names next more d.0)) (distinct_new names next more d.1)

-- the last of two equal lists
last_or : {X : Type 0} → X → List X → X
last_or x [] = x
last_or x (y ∷ ys) = last_or y ys

last_or-last : {X : Type 0} (x : X) (ys : List X) (y : X) → last_or x (ys ++ y ∷ []) ≡ y
unfolding last_or
last_or-last x [] y = refl
last_or-last x (z ∷ ys) y = last_or-last z ys y

pub last_same : {X : Type 0} (xs ys : List X) (x y : X) → xs ++ x ∷ [] ≡ ys ++ y ∷ [] → x ≡ y
last_same xs ys x y e = sym (last_or-last x xs x) ∙ ap (last_or x) e ∙ last_or-last x ys y

-- changes of distinct names
apart : (name : List ℕ) (changes : List RefChange) → is_among name (map (λ (change : RefChange). change.name) changes) ≡ false → AllByRecursion (λ (other : RefChange). other.name ≢ name) changes
apart name [] h = tt
apart name (change ∷ changes) h = let p = neither _ _ h in (other_name _ _ p.0, apart name changes p.1)

pub distinct_changes : (changes : List RefChange) → AreDistinct (map (λ (change : RefChange). change.name) changes) → HaveDistinctNames changes
distinct_changes [] d = tt
distinct_changes (change ∷ changes) d = (apart change.name changes d.0, distinct_changes changes d.1)
