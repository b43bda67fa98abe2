-- Paths, and what stands at a path after an edit.
use Rattle.std.proofs.Common.{◌≡◌, ℕ, Bool, true, false, ◌||◌, ◌&&◌, cond, List, [], ◌∷◌, Option, Some, None, refl, sym, ap, ◌∙◌, true≢false, ap₂}
use Rattle.std.specs.Str.{bytes_eq}
use Rattle.std.specs.Cmp.Lexicographic.{pointwise_decides, bytes_decides}
use Rattle.gx_edit.specs.Path.{Path, path_eq, leads_to}
use Rattle.gx_edit.specs.declared.leaf.Leaf.{Leaf}
use Rattle.gx_edit.specs.PathMap.{PathMap, put, dropped}

pub path_eq-is : (p q : Path) → path_eq p q ≡ true → p ≡ q
path_eq-is p q = (pointwise_decides bytes_decides p q).0

pub path_eq-of : (p q : Path) → p ≡ q → path_eq p q ≡ true
path_eq-of p q = (pointwise_decides bytes_decides p q).1

pub bytes_eq-is : (a b : List ℕ) → bytes_eq a b ≡ true → a ≡ b
bytes_eq-is a b = (bytes_decides a b).0

pub bytes_eq-of : (a b : List ℕ) → a ≡ b → bytes_eq a b ≡ true
bytes_eq-of a b = (bytes_decides a b).1

pub leads_to-same : (p : Path) → leads_to p p ≡ true
leads_to-same [] = refl
leads_to-same (n ∷ p) = rw (bytes_eq-of n n refl) (leads_to-same p)

pub leads_to-both : (p q : Path) → leads_to p q ≡ true → leads_to q p ≡ true → p ≡ q
leads_to-both [] [] a b = refl
leads_to-both [] (m ∷ q) a b = cc
leads_to-both (n ∷ p) [] a b = cc
leads_to-both (n ∷ p) (m ∷ q) a b = go (bytes_eq n m) refl a b (leads_to-both p q)
  where
    go : (t : Bool) → bytes_eq n m ≡ t → (t && leads_to p q) ≡ true → leads_to (m ∷ q) (n ∷ p) ≡ true → (leads_to p q ≡ true → leads_to q p ≡ true → p ≡ q) → n ∷ p ≡ m ∷ q
    go true e a b ih = let same : n ≡ m = bytes_eq-is n m e in
        let rest : leads_to q p ≡ true = rw (bytes_eq-of m n (sym same)) at b in
        let tails : p ≡ q = ih a rest in cc
    go false e a b ih = cc

-- p leads_to q, and q leads_to r
pub leads_to-chain : (p q r : Path) → leads_to p q ≡ true → leads_to q r ≡ true → leads_to p r ≡ true
leads_to-chain [] q r a b = refl
leads_to-chain (n ∷ p) [] r a b = cc
leads_to-chain (n ∷ p) (m ∷ q) [] a b = cc
leads_to-chain (n ∷ p) (m ∷ q) (k ∷ r) a b = go (bytes_eq n m) (bytes_eq m k) refl refl a b (leads_to-chain p q r)
  where
    go : (s t : Bool) → bytes_eq n m ≡ s → bytes_eq m k ≡ t → (s && leads_to p q) ≡ true → (t && leads_to q r) ≡ true → (leads_to p q ≡ true → leads_to q r ≡ true → leads_to p r ≡ true) → (bytes_eq n k && leads_to p r) ≡ true
    go true true e f a b ih = rw (bytes_eq-of n k (bytes_eq-is n m e ∙ bytes_eq-is m k f)) (ih a b)
    go true false e f a b ih = cc
    go false t e f a b ih = cc

-- What stands at q after a put at p.
pub data PutCase (m : PathMap) (p : Path) (x : Leaf) (q : Path) (r : Option Leaf) : Type 0 where
  same : p ≡ q → r ≡ Some x → PutCase m p x q r
  near : (leads_to p q || leads_to q p) ≡ true → r ≡ None → PutCase m p x q r
  apart : leads_to p q ≡ false → leads_to q p ≡ false → r ≡ m q → PutCase m p x q r

pub put_cases : (m : PathMap) (p : Path) (x : Leaf) (q : Path) → PutCase m p x q (put m p x q)
put_cases m p x q = go (path_eq p q) (leads_to p q) (leads_to q p) refl refl refl
  where
    go : (a b c : Bool) → path_eq p q ≡ a → leads_to p q ≡ b → leads_to q p ≡ c → PutCase m p x q (cond a (Some x) (cond (b || c) None (m q)))
    go true b c e f g = same (path_eq-is p q e) refl
    go false true c e f g = near (ap (λ t. t || leads_to q p) f) refl
    go false false true e f g = near (ap₂ (λ t s. t || s) f g) refl
    go false false false e f g = apart f g refl

pub put-same : (m : PathMap) (p : Path) (x : Leaf) → put m p x p ≡ Some x
put-same m p x = rw (path_eq-of p p refl) refl

pub put-apart : (m : PathMap) (p : Path) (x : Leaf) (q : Path) → leads_to p q ≡ false → leads_to q p ≡ false → put m p x q ≡ m q
put-apart m p x q b c = go (put m p x q) (put_cases m p x q)
  where
    go : (r : Option Leaf) → PutCase m p x q r → r ≡ m q
    go r (same e f) = absurd (true≢false (sym (leads_to-same p) ∙ ap (leads_to p) e ∙ b))
    go r (near h e) = absurd (true≢false (sym h ∙ ap₂ (λ s t. s || t) b c))
    go r (apart f g e) = e

pub dropped-some : (m : PathMap) (p q : Path) (x : Leaf) → dropped m p q ≡ Some x → (leads_to p q ≡ false) × (m q ≡ Some x)
dropped-some m p q x h = go (leads_to p q) refl h
  where
    go : (t : Bool) → leads_to p q ≡ t → cond t None (m q) ≡ Some x → (leads_to p q ≡ false) × (m q ≡ Some x)
    go true e h = cc
    go false e h = (e, h)
