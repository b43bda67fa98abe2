-- The leaves of a canonical directory stand in the order of their written paths.
use Rattle.std.proofs.Common.{◌≡◌, ℕ, ◌≢◌, ◌++◌, ◌⊎◌, inl, inr, ⊎_elim, List, [], ◌∷◌, map, refl, sym, ap, ◌∙◌, subst, append_assoc, Contains, arith}
use Rattle.std.specs.declared.cmp.Ordering.{Ordering}
use Rattle.std.specs.declared.cmp.Ordering.TheVariants.{Less, Equal, Greater}
use Rattle.std.specs.Ordering.{nat_cmp, ordering_then}
use Rattle.std.specs.Cmp.Lexicographic.{slice_cmp}
use Rattle.std.specs.Cmp.{tied_itself, nat_cmp_total, ranked}
use Rattle.std.specs.List.{AllByRecursion, join_with_byte}
use Rattle.std.proofs.lemmas.List.{map-append, append-nil}
use Rattle.std.proofs.lemmas.List.Elements.{Contains-append_left, Contains-append_right}
use Rattle.gx_edit.specs.Path.{Path, IsName}
use Rattle.gx_edit.specs.CanonicalTree.{Directory, IsCanonical, IsBelow, Follow}
use Rattle.gx_edit.specs.CanonicalTree.Directory.{End, File, Sub}
use Rattle.gx_edit.specs.Planning.{under, leaves_of}
use Rattle.gx_edit.specs.declared.leaf.Leaf.{Leaf}
use Rattle.gx_edit.proofs.DirectoryLemmas.{below-irrefl}
use Rattle.gx_edit.proofs.PlanLemmas.{HavePaths, leaves-have_paths}

-- a path as it is written
abbrev pub text_of : Path → List ℕ
text_of = join_with_byte 47

abbrev pub written : List (Path × Leaf) → List (List ℕ)
written = map (λ r. text_of r.0)

abbrev pub Rising : List (List ℕ) → Type 0
Rising [] = Unit {0}
Rising (x ∷ xs) = AllByRecursion (IsBelow x) xs × Rising xs

pub slash_first : (rest : List ℕ) → Contains (47 ∷ rest) 47
slash_first rest = (0, omega arith, refl)

pub head_in : (b : ℕ) (rest : List ℕ) → Contains (b ∷ rest) b
head_in b rest = (0, omega arith, refl)

-- a lower text is a front of the other, or stays lower whatever follows
lower : (a b : List ℕ) → IsBelow a b → ((s : List ℕ) × (b ≡ a ++ s)) ⊎ ((q r : List ℕ) → IsBelow (a ++ q) (b ++ r))
lower [] b h = inl (b, refl)
lower (x ∷ a) [] h = cc
lower (x ∷ a) (y ∷ b) h = go (nat_cmp x y) refl h (lower a b)
  where
    go : (o : Ordering) → nat_cmp x y ≡ o → ordering_then o (slice_cmp nat_cmp a b) ≡ Less → (IsBelow a b → ((s : List ℕ) × (b ≡ a ++ s)) ⊎ ((q r : List ℕ) → IsBelow (a ++ q) (b ++ r)))
        → ((s : List ℕ) × (y ∷ b ≡ x ∷ (a ++ s))) ⊎ ((q r : List ℕ) → IsBelow (x ∷ (a ++ q)) (y ∷ (b ++ r)))
    go Less e h ih = inr (λ q r. ap (λ o. ordering_then o (slice_cmp nat_cmp (a ++ q) (b ++ r))) e)
    go Equal e h ih = ⊎_elim (λ s. inl (s.0, (let head : x ≡ y = ranked x y Equal (sym e) in let tail : b ≡ a ++ s.0 = s.1 in cc))) (λ f. inr (λ q r. ap (λ o. ordering_then o (slice_cmp nat_cmp (a ++ q) (b ++ r))) e ∙ f q r)) (ih h)
    go Greater e h ih = cc

-- what follows the greater side makes no difference
below_more : (a b r : List ℕ) → IsBelow a b → IsBelow a (b ++ r)
below_more [] [] r h = cc
below_more [] (y ∷ b) r h = refl
below_more (x ∷ a) [] r h = cc
below_more (x ∷ a) (y ∷ b) r h = go (nat_cmp x y) h (below_more a b r)
  where
    go : (o : Ordering) → ordering_then o (slice_cmp nat_cmp a b) ≡ Less → (IsBelow a b → IsBelow a (b ++ r)) → ordering_then o (slice_cmp nat_cmp a (b ++ r)) ≡ Less
    go Less h ih = refl
    go Equal h ih = ih h
    go Greater h ih = h

below_front : (p a b : List ℕ) → IsBelow a b → IsBelow (p ++ a) (p ++ b)
below_front [] a b h = h
below_front (x ∷ p) a b h = ap (λ o. ordering_then o (slice_cmp nat_cmp (p ++ a) (p ++ b))) (tied_itself nat_cmp_total x) ∙ below_front p a b h

All-append : {A : Type 0} (P : A → Type 0) (xs ys : List A) → AllByRecursion P xs → AllByRecursion P ys → AllByRecursion P (xs ++ ys)
All-append P [] ys a b = b
All-append P (x ∷ xs) ys a b = (a.0, All-append P xs ys a.1 b)

Rising-append : (xs ys : List (List ℕ)) → Rising xs → Rising ys → AllByRecursion (λ x. AllByRecursion (IsBelow x) ys) xs → Rising (xs ++ ys)
Rising-append [] ys a b h = b
Rising-append (x ∷ xs) ys a b h = (All-append (IsBelow x) xs ys a.0 h.0, Rising-append xs ys a.1 b h.1)

-- the text of a path under a name
pub text-under : (n : List ℕ) (p : Path) → p ≢ [] → text_of (n ∷ p) ≡ n ++ 47 ∷ text_of p
text-under n [] some = absurd (some refl)
text-under n (c ∷ p) some = refl

slashed : (n q : List ℕ) → n ++ 47 ∷ q ≡ (n ++ 47 ∷ []) ++ q
slashed n q = sym (append_assoc n (47 ∷ []) q)

-- each row that follows is above the key
rows_above : (n k : List ℕ) (d : Directory) → Follow n k d → AllByRecursion (IsBelow k) (written (leaves_of d))
rows_above n k End f = tt
rows_above n k (File m leaf rest) f = (f.1, rows_above n k rest f.2)
rows_above n k (Sub m inner rest) f = subst (AllByRecursion (IsBelow k)) (sym (map-append (λ (r : Path × Leaf). text_of r.0) (map (under m) (leaves_of inner)) (leaves_of rest)))
    (All-append (IsBelow k) (written (map (under m) (leaves_of inner))) (written (leaves_of rest)) (go (leaves_of inner) (leaves-have_paths inner)) (rows_above n k rest f.2))
  where
    go : (rs : List (Path × Leaf)) → HavePaths rs → AllByRecursion (IsBelow k) (written (map (under m) rs))
    go [] h = tt
    go (r ∷ rs) h = (subst (IsBelow k) (sym (text-under m r.0 h.0 ∙ slashed m (text_of r.0))) (below_more k (m ++ 47 ∷ []) (text_of r.0) f.1), go rs h.1)

-- no name begins with another's name and a slash
no_slash_front : (n m s : List ℕ) → IsName m → m ≡ (n ++ 47 ∷ []) ++ s → ⊥
no_slash_front n m s name e = name.no_slash (subst (λ l. Contains l 47) (sym e) (Contains-append_left (n ++ 47 ∷ []) s 47 (Contains-append_right n (47 ∷ []) 47 (slash_first []))))

empty_cut : (n s : List ℕ) (x : ℕ) → [] ≡ (n ++ 47 ∷ []) ++ (x ∷ s) → x ∷ s ≡ []
empty_cut [] s x h = cc
empty_cut (b ∷ n) s x h = cc

last_cut : (n m s : List ℕ) → (Contains m 47 → ⊥) → m ++ 47 ∷ [] ≡ (n ++ 47 ∷ []) ++ s → s ≡ []
last_cut n m [] free e = refl
last_cut [] [] (x ∷ s) free e = cc
last_cut [] (b ∷ m) (x ∷ s) free e = absurd (free (let same : b ≡ 47 = cc in subst (Contains (b ∷ m)) same (head_in b m)))
last_cut (a ∷ n) [] (x ∷ s) free e = empty_cut n s x (let tail : [] ≡ (n ++ 47 ∷ []) ++ (x ∷ s) = cc in tail)
last_cut (a ∷ n) (b ∷ m) (x ∷ s) free e = last_cut n m (x ∷ s) (λ k. free (Contains-append_right (b ∷ []) m 47 k)) (let tail : m ++ 47 ∷ [] ≡ (n ++ 47 ∷ []) ++ (x ∷ s) = cc in tail)

-- each row below n/ is below each row that follows
rows_across : (n k : List ℕ) (d : Directory) (q : List ℕ) → k ≡ n ++ 47 ∷ [] → Follow n k d → IsCanonical d → AllByRecursion (IsBelow (k ++ q)) (written (leaves_of d))
rows_across n k End q is f ok = tt
rows_across n k (File m leaf rest) q is f ok =
    (⊎_elim (λ s. absurd (no_slash_front n m s.0 ok.0 (s.1 ∙ ap (λ t. t ++ s.0) is))) (λ g. subst (IsBelow (k ++ q)) (append-nil m) (g q [])) (lower k m f.1), rows_across n k rest q is f.2 ok.2)
rows_across n k (Sub m inner rest) q is f ok = subst (AllByRecursion (IsBelow (k ++ q))) (sym (map-append (λ (r : Path × Leaf). text_of r.0) (map (under m) (leaves_of inner)) (leaves_of rest)))
    (All-append (IsBelow (k ++ q)) (written (map (under m) (leaves_of inner))) (written (leaves_of rest)) (go (leaves_of inner) (leaves-have_paths inner)) (rows_across n k rest q is f.2 ok.4))
  where
    apart : (q r : List ℕ) → IsBelow (k ++ q) ((m ++ 47 ∷ []) ++ r)
    apart = ⊎_elim (λ s. absurd (below-irrefl k (subst (IsBelow k)
        (s.1 ∙ ap (λ t. k ++ t) (last_cut n m s.0 ok.0.no_slash (s.1 ∙ ap (λ t. t ++ s.0) is)) ∙ append-nil k) f.1))) (λ g. g) (lower k (m ++ 47 ∷ []) f.1)

    go : (rs : List (Path × Leaf)) → HavePaths rs → AllByRecursion (IsBelow (k ++ q)) (written (map (under m) rs))
    go [] h = tt
    go (r ∷ rs) h = (subst (IsBelow (k ++ q)) (sym (text-under m r.0 h.0 ∙ slashed m (text_of r.0))) (apart q (text_of r.0)), go rs h.1)

-- the leaves of a canonical directory rise by their written paths
pub leaves-rising : (d : Directory) → IsCanonical d → Rising (written (leaves_of d))
leaves-rising End ok = tt
leaves-rising (File n leaf rest) ok = (rows_above n n rest ok.1, leaves-rising rest ok.2)
leaves-rising (Sub n inner rest) ok = subst Rising (sym (map-append (λ (r : Path × Leaf). text_of r.0) (map (under n) (leaves_of inner)) (leaves_of rest)))
    (Rising-append (written (map (under n) (leaves_of inner))) (written (leaves_of rest)) (inside (leaves_of inner) (leaves-have_paths inner) (leaves-rising inner ok.2)) (leaves-rising rest ok.4) (across (leaves_of inner) (leaves-have_paths inner)))
  where
    each : (r : Path) (rs : List (Path × Leaf)) → r ≢ [] → HavePaths rs → AllByRecursion (IsBelow (text_of r)) (written rs) → AllByRecursion (IsBelow (text_of (n ∷ r))) (written (map (under n) rs))
    each r [] some h a = tt
    each r (s ∷ rs) some h a = (subst (λ t. IsBelow t (text_of (n ∷ s.0))) (sym (text-under n r some)) (subst (IsBelow (n ++ 47 ∷ text_of r)) (sym (text-under n s.0 h.0)) (below_front n (47 ∷ text_of r) (47 ∷ text_of s.0) (below_front (47 ∷ []) (text_of r) (text_of s.0) a.0))), each r rs some h.1 a.1)

    inside : (rs : List (Path × Leaf)) → HavePaths rs → Rising (written rs) → Rising (written (map (under n) rs))
    inside [] h a = tt
    inside (r ∷ rs) h a = (each r.0 rs h.0 h.1 a.0, inside rs h.1 a.1)

    across : (rs : List (Path × Leaf)) → HavePaths rs → AllByRecursion (λ x. AllByRecursion (IsBelow x) (written (leaves_of rest))) (written (map (under n) rs))
    across [] h = tt
    across (r ∷ rs) h = (subst (λ t. AllByRecursion (IsBelow t) (written (leaves_of rest))) (sym (text-under n r.0 h.0 ∙ slashed n (text_of r.0))) (rows_across n (n ++ 47 ∷ []) rest (text_of r.0) refl ok.3 ok.4), across rs h.1)
