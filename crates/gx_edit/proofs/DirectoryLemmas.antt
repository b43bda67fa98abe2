-- A path map has at most one canonical directory.
use Rattle.std.proofs.Common.{◌≡◌, ℕ, Bool, true, false, ◌≢◌, ◌++◌, ◌⊎◌, inl, inr, cond, List, [], ◌∷◌, Some, None, refl, sym, ◌∙◌, subst, Equal}
use Rattle.std.specs.Str.{bytes_eq}
use Rattle.std.specs.Cmp.{tied_itself}
use Rattle.std.specs.Cmp.Lexicographic.{slice_cmp, nat_list_cmp_total}
use Rattle.std.specs.Ordering.{nat_cmp}
use Rattle.gx_edit.specs.Path.{Path}
use Rattle.gx_edit.specs.declared.leaf.Leaf.{Leaf}
use Rattle.gx_edit.specs.CanonicalTree.{Directory, leaf_at, Follow, IsCanonical, IsBelow}
use Rattle.gx_edit.specs.CanonicalTree.Directory.{End, File, Sub}
use Rattle.gx_edit.proofs.PathLemmas.{bytes_eq-is, bytes_eq-of}

pub below-irrefl : (a : List ℕ) → IsBelow a a → ⊥
below-irrefl a h = let e : slice_cmp nat_cmp a a ≡ Equal = tied_itself nat_list_cmp_total a in cc

pub below-chain : (a b c : List ℕ) → IsBelow a b → IsBelow b c → IsBelow a c
below-chain a b c = nat_list_cmp_total.trans a b c

pub bytes_eq-no : (a b : List ℕ) → (a ≢ b) → bytes_eq a b ≡ false
bytes_eq-no a b ne = go (bytes_eq a b) refl
  where
    go : (t : Bool) → bytes_eq a b ≡ t → t ≡ false
    go true e = absurd (ne (bytes_eq-is a b e))
    go false e = refl

pub leaf_at-root : (d : Directory) → leaf_at d [] ≡ None
leaf_at-root End = refl
leaf_at-root (File n x rest) = refl
leaf_at-root (Sub n inner rest) = refl

-- a name that does not stand in a directory has nothing in it
pub Follow-none : (n k : List ℕ) (d : Directory) (p : Path) → Follow n k d → leaf_at d (n ∷ p) ≡ None
Follow-none n k End p f = refl
Follow-none n k (File m x rest) [] f = rw (bytes_eq-no m n (λ e. f.0 (sym e))) (Follow-none n k rest [] f.2)
Follow-none n k (File m x rest) (c ∷ p) f = Follow-none n k rest (c ∷ p) f.2
Follow-none n k (Sub m inner rest) p f = rw (bytes_eq-no m n (λ e. f.0 (sym e))) (Follow-none n k rest p f.2)

-- the key of the entry that a path begins with
abbrev pub key_of : List ℕ → Path → List ℕ
key_of c [] = c
key_of c (d ∷ p) = c ++ 47 ∷ []

pub Follow-key : (n k : List ℕ) (d : Directory) (c : List ℕ) (p : Path) (x : Leaf) → Follow n k d → leaf_at d (c ∷ p) ≡ Some x → IsBelow k (key_of c p)
Follow-key n k End c p x f h = cc
Follow-key n k (File m y rest) c [] x f h = go (bytes_eq m c) refl h (Follow-key n k rest c [] x f.2)
  where
    go : (t : Bool) → bytes_eq m c ≡ t → cond t (Some y) (leaf_at rest (c ∷ [])) ≡ Some x → (leaf_at rest (c ∷ []) ≡ Some x → IsBelow k c) → IsBelow k c
    go true e h ih = subst (IsBelow k) (bytes_eq-is m c e) f.1
    go false e h ih = ih h
Follow-key n k (File m y rest) c (d ∷ p) x f h = Follow-key n k rest c (d ∷ p) x f.2 h
Follow-key n k (Sub m inner rest) c [] x f h = go (bytes_eq m c) h (Follow-key n k rest c [] x f.2)
  where
    go : (t : Bool) → cond t (leaf_at inner []) (leaf_at rest (c ∷ [])) ≡ Some x → (leaf_at rest (c ∷ []) ≡ Some x → IsBelow k c) → IsBelow k c
    go true h ih = let none : leaf_at inner [] ≡ None = leaf_at-root inner in cc
    go false h ih = ih h
Follow-key n k (Sub m inner rest) c (d ∷ p) x f h = go (bytes_eq m c) refl h (Follow-key n k rest c (d ∷ p) x f.2)
  where
    go : (t : Bool) → bytes_eq m c ≡ t → cond t (leaf_at inner (d ∷ p)) (leaf_at rest (c ∷ d ∷ p)) ≡ Some x → (leaf_at rest (c ∷ d ∷ p) ≡ Some x → IsBelow k (c ++ 47 ∷ [])) → IsBelow k (c ++ 47 ∷ [])
    go true e h ih = subst (λ m. IsBelow k (m ++ 47 ∷ [])) (bytes_eq-is m c e) f.1
    go false e h ih = ih h

-- a canonical directory with an entry has a leaf
pub some_leaf : (d : Directory) → IsCanonical d → (d ≢ End) → (c : List ℕ) × (p : Path) × (x : Leaf) × (leaf_at d (c ∷ p) ≡ Some x)
some_leaf End ok ne = absurd (ne refl)
some_leaf (File n x rest) ok ne = (n, [], x, rw (bytes_eq-of n n refl) refl)
some_leaf (Sub n inner rest) ok ne = let s = some_leaf inner ok.2 ok.1 in (n, s.0 ∷ s.1, s.2, rw (bytes_eq-of n n refl) s.3)

pub cons_canonical-file : (n : List ℕ) (x : Leaf) (rest : Directory) → IsCanonical (File n x rest) → IsCanonical rest
cons_canonical-file n x rest ok = ok.2

-- the rests of two directories with equal first names and equal look-ups
file_rests : (n : List ℕ) (x y : Leaf) (r s : Directory) → Follow n n r → Follow n n s → ((p : Path) → leaf_at (File n x r) p ≡ leaf_at (File n y s) p) → (p : Path) → leaf_at r p ≡ leaf_at s p
file_rests n x y r s f g h [] = leaf_at-root r ∙ sym (leaf_at-root s)
file_rests n x y r s f g h (c ∷ d ∷ p) = h (c ∷ d ∷ p)
file_rests n x y r s f g h (c ∷ []) = go (bytes_eq n c) refl (h (c ∷ []))
  where
    go : (t : Bool) → bytes_eq n c ≡ t → cond t (Some x) (leaf_at r (c ∷ [])) ≡ cond t (Some y) (leaf_at s (c ∷ [])) → leaf_at r (c ∷ []) ≡ leaf_at s (c ∷ [])
    go true e h = subst (λ c. leaf_at r (c ∷ []) ≡ leaf_at s (c ∷ [])) (bytes_eq-is n c e) (Follow-none n n r [] f ∙ sym (Follow-none n n s [] g))
    go false e h = h

sub_rests : (n : List ℕ) (i j r s : Directory) → Follow n (n ++ 47 ∷ []) r → Follow n (n ++ 47 ∷ []) s → ((p : Path) → leaf_at (Sub n i r) p ≡ leaf_at (Sub n j s) p) → (p : Path) → leaf_at r p ≡ leaf_at s p
sub_rests n i j r s f g h [] = leaf_at-root r ∙ sym (leaf_at-root s)
sub_rests n i j r s f g h (c ∷ p) = go (bytes_eq n c) refl (h (c ∷ p))
  where
    go : (t : Bool) → bytes_eq n c ≡ t → cond t (leaf_at i p) (leaf_at r (c ∷ p)) ≡ cond t (leaf_at j p) (leaf_at s (c ∷ p)) → leaf_at r (c ∷ p) ≡ leaf_at s (c ∷ p)
    go true e h = subst (λ c. leaf_at r (c ∷ p) ≡ leaf_at s (c ∷ p)) (bytes_eq-is n c e) (Follow-none n _ r p f ∙ sym (Follow-none n _ s p g))
    go false e h = h

sub_inners : (n : List ℕ) (i j r s : Directory) → ((p : Path) → leaf_at (Sub n i r) p ≡ leaf_at (Sub n j s) p) → (p : Path) → leaf_at i p ≡ leaf_at j p
sub_inners n i j r s h p = rw (bytes_eq-of n n refl) at (h (n ∷ p))

-- a first file is at its name in the other directory: its name is the first there, or a later one
file_first : (n : List ℕ) (x : Leaf) (r : Directory) → leaf_at (File n x r) (n ∷ []) ≡ Some x
file_first n x r = rw (bytes_eq-of n n refl) refl

later_file : (n m : List ℕ) (x y : Leaf) (s : Directory) → Follow m m s → leaf_at (File m y s) (n ∷ []) ≡ Some x → (m ≡ n) ⊎ IsBelow m n
later_file n m x y s f h = go (bytes_eq m n) refl h
  where
    go : (t : Bool) → bytes_eq m n ≡ t → cond t (Some y) (leaf_at s (n ∷ [])) ≡ Some x → (m ≡ n) ⊎ IsBelow m n
    go true e h = inl (bytes_eq-is m n e)
    go false e h = inr (Follow-key m m s n [] x f h)

later_sub : (m : List ℕ) (j s : Directory) (c : List ℕ) (p : Path) (x : Leaf) → Follow m (m ++ 47 ∷ []) s → leaf_at (Sub m j s) (c ∷ p) ≡ Some x → (m ≡ c) ⊎ IsBelow (m ++ 47 ∷ []) (key_of c p)
later_sub m j s c p x f h = go (bytes_eq m c) refl h
  where
    go : (t : Bool) → bytes_eq m c ≡ t → cond t (leaf_at j p) (leaf_at s (c ∷ p)) ≡ Some x → (m ≡ c) ⊎ IsBelow (m ++ 47 ∷ []) (key_of c p)
    go true e h = inl (bytes_eq-is m c e)
    go false e h = inr (Follow-key m _ s c p x f h)

no_mix : (n m : List ℕ) (x : Leaf) (r j s : Directory) → IsCanonical (File n x r) → IsCanonical (Sub m j s) → ((p : Path) → leaf_at (File n x r) p ≡ leaf_at (Sub m j s) p) → ⊥
no_mix n m x r j s a b h =
    let first : leaf_at (Sub m j s) (n ∷ []) ≡ Some x = sym (h (n ∷ [])) ∙ file_first n x r in
    let leaf = some_leaf j b.2 b.1 in
    let deep : leaf_at (Sub m j s) (m ∷ leaf.0 ∷ leaf.1) ≡ Some leaf.2 = rw (bytes_eq-of m m refl) leaf.3 in
    let there : leaf_at r (m ∷ leaf.0 ∷ leaf.1) ≡ Some leaf.2 = h (m ∷ leaf.0 ∷ leaf.1) ∙ deep in
    let up : IsBelow n (m ++ 47 ∷ []) = Follow-key n n r m (leaf.0 ∷ leaf.1) leaf.2 a.1 there in
    go (bytes_eq m n) refl first up
  where
    go : (t : Bool) → bytes_eq m n ≡ t → cond t (leaf_at j []) (leaf_at s (n ∷ [])) ≡ Some x → IsBelow n (m ++ 47 ∷ []) → ⊥
    go true e h up = let none : leaf_at j [] ≡ None = leaf_at-root j in cc
    go false e h up = below-irrefl n (below-chain n _ n up (Follow-key m _ s n [] x b.3 h))

one_name : (n m : List ℕ) → (m ≡ n) ⊎ IsBelow m n → (n ≡ m) ⊎ IsBelow n m → n ≡ m
one_name n m (inl e) b = sym e
one_name n m (inr a) (inl e) = e
one_name n m (inr a) (inr b) = absurd (below-irrefl n (below-chain n m n b a))

-- the same with a slash at the end
one_sub : (n m : List ℕ) → (m ≡ n) ⊎ IsBelow (m ++ 47 ∷ []) (n ++ 47 ∷ []) → (n ≡ m) ⊎ IsBelow (n ++ 47 ∷ []) (m ++ 47 ∷ []) → n ≡ m
one_sub n m (inl e) b = sym e
one_sub n m (inr a) (inl e) = e
one_sub n m (inr a) (inr b) = absurd (below-irrefl (n ++ 47 ∷ []) (below-chain (n ++ 47 ∷ []) (m ++ 47 ∷ []) (n ++ 47 ∷ []) b a))

pub one_directory : (d e : Directory) → IsCanonical d → IsCanonical e → ((p : Path) → leaf_at d p ≡ leaf_at e p) → d ≡ e
one_directory End End a b h = refl
one_directory End (File m y s) a b h = absurd (let f : None ≡ Some y = h (m ∷ []) ∙ file_first m y s in cc)
one_directory End (Sub m j s) a b h =
    let leaf = some_leaf (Sub m j s) b (λ e. cc) in
    absurd (let f : None ≡ Some leaf.2 = h (leaf.0 ∷ leaf.1) ∙ leaf.3 in cc)
one_directory (File n x r) End a b h = absurd (let f : None ≡ Some x = sym (h (n ∷ [])) ∙ file_first n x r in cc)
one_directory (File n x r) (File m y s) a b h =
    let same : n ≡ m = one_name n m (later_file n m x y s b.1 (sym (h (n ∷ [])) ∙ file_first n x r)) (later_file m n y x r a.1 (h (m ∷ []) ∙ file_first m y s)) in
    let h' : (p : Path) → leaf_at (File n x r) p ≡ leaf_at (File n y s) p = subst (λ k. (p : Path) → leaf_at (File n x r) p ≡ leaf_at (File k y s) p) (sym same) h in
    let f' : Follow n n s = subst (λ k. Follow k k s) (sym same) b.1 in
    let leaves : Some x ≡ Some y = sym (file_first n x r) ∙ h' (n ∷ []) ∙ file_first n y s in
    let one : x ≡ y = cc in
    let rests : r ≡ s = one_directory r s a.2 b.2 (file_rests n x y r s a.1 f' h') in
    cc
one_directory (File n x r) (Sub m j s) a b h = absurd (no_mix n m x r j s a b h)
one_directory (Sub n i r) End a b h =
    let leaf = some_leaf (Sub n i r) a (λ e. cc) in
    absurd (let f : None ≡ Some leaf.2 = sym (h (leaf.0 ∷ leaf.1)) ∙ leaf.3 in cc)
one_directory (Sub n i r) (File m y s) a b h = absurd (no_mix m n y s i r b a (λ p. sym (h p)))
one_directory (Sub n i r) (Sub m j s) a b h =
    let left = some_leaf i a.2 a.1 in
    let right = some_leaf j b.2 b.1 in
    let at_left : leaf_at (Sub n i r) (n ∷ left.0 ∷ left.1) ≡ Some left.2 = rw (bytes_eq-of n n refl) left.3 in
    let at_right : leaf_at (Sub m j s) (m ∷ right.0 ∷ right.1) ≡ Some right.2 = rw (bytes_eq-of m m refl) right.3 in
    let same : n ≡ m = one_sub n m
    (later_sub m j s n (left.0 ∷ left.1) left.2 b.3 (sym (h (n ∷ left.0 ∷ left.1)) ∙ at_left))
    (later_sub n i r m (right.0 ∷ right.1) right.2 a.3 (h (m ∷ right.0 ∷ right.1) ∙ at_right)) in
    let h' : (p : Path) → leaf_at (Sub n i r) p ≡ leaf_at (Sub n j s) p = subst (λ k. (p : Path) → leaf_at (Sub n i r) p ≡ leaf_at (Sub k j s) p) (sym same) h in
    let f' : Follow n (n ++ 47 ∷ []) s = subst (λ k. Follow k (k ++ 47 ∷ []) s) (sym same) b.3 in
    let inners : i ≡ j = one_directory i j a.2 b.2 (sub_inners n i j r s h') in
    let rests : r ≡ s = one_directory r s a.4 b.4 (sub_rests n i j r s a.3 f' h') in
    cc
