-- The rows of a map are the leaves of the directory that stands for it.
use Rattle.std.proofs.Common.{◌≡◌, ℕ, Bool, true, false, ◌&&◌, ◌≢◌, ◌++◌, cond, T, List, [], ◌∷◌, map, Option, Some, None, refl, sym, ap, ap₂, ◌∙◌, subst, Contains, true≢false}
use Rattle.std.proofs.lemmas.Bool.{ne_eqb}
use Rattle.std.specs.Option.{option_or}
use Rattle.std.specs.Str.{bytes_eq}
use Rattle.std.specs.Ordering.{eq_by_cmp, is_lt}
use Rattle.std.specs.Cmp.Lexicographic.{nat_list_cmp_total, texts_ties}
use Rattle.std.specs.FinMap.{slice_cmp-IsAntisymmetric, nat_cmp-IsAntisymmetric}
use Rattle.std.specs.FinMap.Entries.{find, is_sorted, below_all, same_entries}
use Rattle.std.specs.List.{AllByRecursion}
use Rattle.std.specs.List.Sorted.{IsStrictlySortedBy}
use Rattle.std.proofs.lemmas.List.{map-append}
use Rattle.std.proofs.lemmas.List.Elements.{Contains-append_right}
use Rattle.gx_rules.specs.Name.{name_cmp}
use Rattle.gx_edit.specs.Path.{Path, components, at_front}
use Rattle.gx_edit.specs.PathList.{PathList, map_of, IsRising}
use Rattle.gx_edit.specs.PathTexts.{leaf_at_text}
use Rattle.gx_edit.specs.CanonicalTree.{Directory, leaf_at, IsCanonical, IsBelow, StandsFor}
use Rattle.gx_edit.specs.CanonicalTree.Directory.{End, File, Sub}
use Rattle.gx_edit.specs.Planning.{under, leaves_of, row_at, rows_at, texts_of}
use Rattle.gx_edit.specs.declared.leaf.Leaf.{Leaf}
use Rattle.gx_edit.specs.declared.writing.groups.Row.{Row}
use Rattle.gx_edit.proofs.PathLemmas.{bytes_eq-is, bytes_eq-of}
use Rattle.gx_edit.proofs.DirectoryLemmas.{Follow-none, leaf_at-root, bytes_eq-no}
use Rattle.gx_edit.proofs.ComponentLemmas.{components_some}
use Rattle.gx_edit.proofs.TextLemmas.{join_components, bytes_eq-turned, map_text}
use Rattle.gx_edit.proofs.KeptLemmas.{NoSlash, components_plain}
use Rattle.gx_edit.proofs.PlanLemmas.{HavePaths, leaves-have_paths}
use Rattle.gx_edit.proofs.OrderLemmas.{text_of, text-under, Rising, written, leaves-rising, slash_first, head_in}

-- a row by the text of its path
abbrev pub by_text : Path × Leaf → List ℕ × Leaf
by_text r = (text_of r.0, r.1)

both_ways : (s t : Bool) → (s ≡ true → t ≡ true) → (t ≡ true → s ≡ true) → s ≡ t
both_ways true t f g = sym (f refl)
both_ways false true f g = g refl
both_ways false false f g = refl

and_left : (a b : Bool) → (a && b) ≡ true → a ≡ true
and_left true b h = refl
and_left false b h = h

and_right : (a b : Bool) → (a && b) ≡ true → b ≡ true
and_right true b h = h
and_right false b h = absurd (true≢false (sym h))

tied : (a b : List ℕ) → eq_by_cmp name_cmp a b ≡ bytes_eq a b
tied a b = sym (texts_ties a b)

-- ---- texts parted at the first slash

cut_same : (a b x y : List ℕ) → NoSlash a → NoSlash b → a ++ 47 ∷ x ≡ b ++ 47 ∷ y → (a ≡ b) × (x ≡ y)
cut_same [] [] x y f g h = (refl, (let tail : x ≡ y = cc in tail))
cut_same [] (c ∷ b) x y f g h = absurd (g (let same : c ≡ 47 = cc in subst (Contains (c ∷ b)) same (head_in c b)))
cut_same (c ∷ a) [] x y f g h = absurd (f (let same : c ≡ 47 = cc in subst (Contains (c ∷ a)) same (head_in c a)))
cut_same (c ∷ a) (d ∷ b) x y f g h =
    let head : c ≡ d = cc in let tail : a ++ 47 ∷ x ≡ b ++ 47 ∷ y = cc in
    let r = cut_same a b x y (λ k. f (Contains-append_right (c ∷ []) a 47 k)) (λ k. g (Contains-append_right (d ∷ []) b 47 k)) tail in
    let same : a ≡ b = r.0 in (cc, r.1)

slash_in : (a x : List ℕ) → Contains (a ++ 47 ∷ x) 47
slash_in a x = Contains-append_right a (47 ∷ x) 47 (slash_first x)

cut_eq : (c n : List ℕ) (p q : Path) → p ≢ [] → q ≢ [] → NoSlash c → NoSlash n → bytes_eq (text_of (c ∷ p)) (text_of (n ∷ q)) ≡ (bytes_eq n c && bytes_eq (text_of p) (text_of q))
cut_eq c n p q np nq f g = both_ways (bytes_eq (text_of (c ∷ p)) (text_of (n ∷ q))) (bytes_eq n c && bytes_eq (text_of p) (text_of q))
    (λ h. let e = cut_same c n (text_of p) (text_of q) f g (sym (text-under c p np) ∙ bytes_eq-is (text_of (c ∷ p)) (text_of (n ∷ q)) h ∙ text-under n q nq) in
    ap₂ (λ s t. s && t) (bytes_eq-of n c (sym e.0)) (bytes_eq-of (text_of p) (text_of q) e.1))
    (λ h. bytes_eq-of (text_of (c ∷ p)) (text_of (n ∷ q)) (text-under c p np ∙ ap₂ (λ (a b : List ℕ). a ++ 47 ∷ b) (sym (bytes_eq-is n c (and_left (bytes_eq n c) (bytes_eq (text_of p) (text_of q)) h))) (bytes_eq-is (text_of p) (text_of q) (and_right (bytes_eq n c) (bytes_eq (text_of p) (text_of q)) h)) ∙ sym (text-under n q nq)))

-- ---- look-ups among written rows

find-or : (q : List ℕ) (xs ys : List (List ℕ × Leaf)) → find name_cmp q (xs ++ ys) ≡ option_or (find name_cmp q xs) (find name_cmp q ys)
find-or q [] ys = refl
find-or q (x ∷ xs) ys = go (eq_by_cmp name_cmp q x.0) (find-or q xs ys)
  where
    go : (t : Bool) → find name_cmp q (xs ++ ys) ≡ option_or (find name_cmp q xs) (find name_cmp q ys) → cond t (Some x.1) (find name_cmp q (xs ++ ys)) ≡ option_or (cond t (Some x.1) (find name_cmp q xs)) (find name_cmp q ys)
    go true h = refl
    go false h = h

or_none : (o : Option Leaf) → option_or o None ≡ o
or_none None = refl
or_none (Some x) = refl

-- rows below n, looked up at a path
find-below : (n c d : List ℕ) (p : Path) (rs : List (Path × Leaf)) → HavePaths rs → NoSlash c → NoSlash n
    → find name_cmp (text_of (c ∷ d ∷ p)) (map by_text (map (under n) rs)) ≡ cond (bytes_eq n c) (find name_cmp (text_of (d ∷ p)) (map by_text rs)) None
find-below n c d p [] h f g = both (bytes_eq n c)
  where
    both : (t : Bool) → None ≡ cond {A = Option Leaf} t None None
    both true = refl
    both false = refl
find-below n c d p (r ∷ rs) h f g =
    ap (λ t. cond t (Some r.1) (find name_cmp (text_of (c ∷ d ∷ p)) (map by_text (map (under n) rs)))) (tied (text_of (c ∷ d ∷ p)) (text_of (n ∷ r.0)) ∙ cut_eq c n (d ∷ p) r.0 (λ e. cc) h.0 f g)
    ∙ ap (cond (bytes_eq n c && bytes_eq (text_of (d ∷ p)) (text_of r.0)) (Some r.1)) (find-below n c d p rs h.1 f g)
    ∙ go (bytes_eq n c)
    ∙ ap (λ s. cond (bytes_eq n c) (cond s (Some r.1) (find name_cmp (text_of (d ∷ p)) (map by_text rs))) None) (sym (tied (text_of (d ∷ p)) (text_of r.0)))
  where
    go : (t : Bool) → cond (t && bytes_eq (text_of (d ∷ p)) (text_of r.0)) (Some r.1) (cond t (find name_cmp (text_of (d ∷ p)) (map by_text rs)) None) ≡ cond t (cond (bytes_eq (text_of (d ∷ p)) (text_of r.0)) (Some r.1) (find name_cmp (text_of (d ∷ p)) (map by_text rs))) None
    go true = refl
    go false = refl

find-not_below : (n c : List ℕ) (rs : List (Path × Leaf)) → HavePaths rs → NoSlash c → find name_cmp c (map by_text (map (under n) rs)) ≡ None
find-not_below n c [] h f = refl
find-not_below n c (r ∷ rs) h f =
    ap (λ t. cond t (Some r.1) (find name_cmp c (map by_text (map (under n) rs)))) (tied c (text_of (n ∷ r.0)) ∙ bytes_eq-no c (text_of (n ∷ r.0)) (λ e. f (subst (λ l. Contains l 47) (sym (e ∙ text-under n r.0 h.0)) (slash_in n (text_of r.0)))))
    ∙ find-not_below n c rs h.1 f

-- a look-up among the leaves by the written path
find-leaves : (d : Directory) (c : List ℕ) (p : Path) → IsCanonical d → AllByRecursion NoSlash (c ∷ p) → find name_cmp (text_of (c ∷ p)) (map by_text (leaves_of d)) ≡ leaf_at d (c ∷ p)
find-leaves End c p ok a = refl
find-leaves (File n x rest) c [] ok a = ap (λ t. cond t (Some x) (find name_cmp c (map by_text (leaves_of rest)))) (tied c n ∙ bytes_eq-turned c n) ∙ ap (cond (bytes_eq n c) (Some x)) (find-leaves rest c [] ok.2 a)
find-leaves (File n x rest) c (d ∷ p) ok a =
    ap (λ t. cond t (Some x) (find name_cmp (text_of (c ∷ d ∷ p)) (map by_text (leaves_of rest)))) (tied (text_of (c ∷ d ∷ p)) n ∙ bytes_eq-no (text_of (c ∷ d ∷ p)) n (λ e. ok.0.no_slash (subst (λ l. Contains l 47) e (slash_in c (text_of (d ∷ p))))))
    ∙ find-leaves rest c (d ∷ p) ok.2 a
find-leaves (Sub n inner rest) c [] ok a =
    ap (find name_cmp c) (map-append by_text (map (under n) (leaves_of inner)) (leaves_of rest)) ∙ find-or c (map by_text (map (under n) (leaves_of inner))) (map by_text (leaves_of rest))
    ∙ ap (λ t. option_or t (find name_cmp c (map by_text (leaves_of rest)))) (find-not_below n c (leaves_of inner) (leaves-have_paths inner) a.0) ∙ find-leaves rest c [] ok.4 a ∙ go (bytes_eq n c) refl
  where
    go : (t : Bool) → bytes_eq n c ≡ t → leaf_at rest (c ∷ []) ≡ cond t (leaf_at inner []) (leaf_at rest (c ∷ []))
    go true e = subst (λ c. leaf_at rest (c ∷ []) ≡ None) (bytes_eq-is n c e) (Follow-none n (n ++ 47 ∷ []) rest [] ok.3) ∙ sym (leaf_at-root inner)
    go false e = refl
find-leaves (Sub n inner rest) c (d ∷ p) ok a =
    ap (find name_cmp (text_of (c ∷ d ∷ p))) (map-append by_text (map (under n) (leaves_of inner)) (leaves_of rest)) ∙ find-or (text_of (c ∷ d ∷ p)) (map by_text (map (under n) (leaves_of inner))) (map by_text (leaves_of rest))
    ∙ ap₂ option_or (find-below n c d p (leaves_of inner) (leaves-have_paths inner) a.0 ok.0.no_slash ∙ ap (λ t. cond (bytes_eq n c) t None) (find-leaves inner d p ok.2 a.1)) (find-leaves rest c (d ∷ p) ok.4 a) ∙ go (bytes_eq n c) refl
  where
    go : (t : Bool) → bytes_eq n c ≡ t → option_or (cond t (leaf_at inner (d ∷ p)) None) (leaf_at rest (c ∷ d ∷ p)) ≡ cond t (leaf_at inner (d ∷ p)) (leaf_at rest (c ∷ d ∷ p))
    go true e = ap (option_or (leaf_at inner (d ∷ p))) (subst (λ c. leaf_at rest (c ∷ d ∷ p) ≡ None) (bytes_eq-is n c e) (Follow-none n (n ++ 47 ∷ []) rest (d ∷ p) ok.3)) ∙ or_none (leaf_at inner (d ∷ p))
    go false e = refl

-- ---- a rising list that answers as a directory does

below_all-from : (x : List ℕ) (es : List (List ℕ × Leaf)) → AllByRecursion (IsBelow x) (map (λ e. e.0) es) → T (below_all name_cmp x es)
below_all-from x [] h = tt
below_all-from x (e ∷ es) h = subst T (sym (ap (λ o. is_lt o && below_all name_cmp x es) h.0)) (below_all-from x es h.1)

pair : (a b : Bool) → T a → T b → T (a && b)
pair true b p q = q
pair false b p q = p

sorted-from : (es : List (List ℕ × Leaf)) → Rising (map (λ e. e.0) es) → T (is_sorted name_cmp es)
sorted-from [] h = tt
sorted-from (e ∷ es) h = pair (below_all name_cmp e.0 es) (is_sorted name_cmp es) (below_all-from e.0 es h.0) (sorted-from es h.1)

rising_is : (xs : List (List ℕ)) → IsStrictlySortedBy name_cmp xs → Rising xs
unfolding IsStrictlySortedBy
rising_is [] h = tt
rising_is (x ∷ xs) h = (h.0, rising_is xs h.1)

texts-by_text : (rs : List (Path × Leaf)) → map (λ e. e.0) (map by_text rs) ≡ written rs
texts-by_text [] = refl
texts-by_text (r ∷ rs) = ap (λ l. text_of r.0 ∷ l) (texts-by_text rs)

find-look : (q : List ℕ) (es : List (List ℕ × Leaf)) → find name_cmp q es ≡ leaf_at_text es q
find-look q [] = refl
find-look q (e ∷ es) = ap₂ (λ t o. cond t (Some e.1) o) (tied q e.0) (find-look q es)

-- the rows are the leaves, by their texts
same_rows : (d : Directory) (paths : PathList) → IsRising paths → StandsFor d (map_of paths) → paths ≡ map by_text (leaves_of d)
same_rows d paths rising stands = same_entries name_cmp nat_list_cmp_total (λ a b e. slice_cmp-IsAntisymmetric nat_cmp-IsAntisymmetric a b e) paths (map by_text (leaves_of d))
    (sorted-from paths (rising_is (map (λ e. e.0) paths) rising)) (sorted-from (map by_text (leaves_of d)) (subst Rising (sym (texts-by_text (leaves_of d))) (leaves-rising d stands.canonical)))
    (λ q. find-look q paths ∙ sym (map_text paths q) ∙ sym (stands.leaves (components q)) ∙ look q (components q) refl)
  where
    look : (q : List ℕ) (p : Path) → components q ≡ p → leaf_at d (components q) ≡ find name_cmp q (map by_text (leaves_of d))
    look q [] e = absurd (components_some q e)
    look q (c ∷ p) e = ap (leaf_at d) e ∙ sym (find-leaves d c p stands.canonical (subst (AllByRecursion NoSlash) e (components_plain q))) ∙ ap (λ x. find name_cmp x (map by_text (leaves_of d))) (ap text_of (sym e) ∙ join_components q)

-- ---- from texts to paths

front_text : (n rest : List ℕ) → NoSlash n → components (n ++ 47 ∷ rest) ≡ n ∷ components rest
front_text [] rest plain = refl
front_text (b ∷ n) rest plain =
    ap (λ t. cond t ([] ∷ components (n ++ 47 ∷ rest)) (at_front b (components (n ++ 47 ∷ rest)))) (ne_eqb b 47 (λ is. plain (subst (Contains (b ∷ n)) is (head_in b n))))
    ∙ ap (at_front b) (front_text n rest (λ k. plain (Contains-append_right (b ∷ []) n 47 k)))

one_name : (n : List ℕ) → NoSlash n → components n ≡ n ∷ []
one_name [] plain = refl
one_name (b ∷ n) plain =
    ap (λ t. cond t ([] ∷ components n) (at_front b (components n))) (ne_eqb b 47 (λ is. plain (subst (Contains (b ∷ n)) is (head_in b n))))
    ∙ ap (at_front b) (one_name n (λ k. plain (Contains-append_right (b ∷ []) n 47 k)))

-- a row, back from its text
abbrev pub from_text : List ℕ × Leaf → Path × Leaf
from_text e = (components e.0, e.1)

back-under : (n : List ℕ) (rs : List (Path × Leaf)) → NoSlash n → HavePaths rs → map from_text (map by_text rs) ≡ rs → map from_text (map by_text (map (under n) rs)) ≡ map (under n) rs
back-under n [] plain h e = refl
back-under n (r ∷ rs) plain h e =
    let first : from_text (by_text r) ≡ r = cc in
    let path : components (text_of r.0) ≡ r.0 = ap (λ (x : Path × Leaf). x.0) first in
    let more : map from_text (map by_text rs) ≡ rs = cc in
    ap₂ (λ (p : Path) (l : List (Path × Leaf)). (p, r.1) ∷ l) (ap components (text-under n r.0 h.0) ∙ front_text n (text_of r.0) plain ∙ ap (λ p. n ∷ p) path) (back-under n rs plain h.1 more)

back : (d : Directory) → IsCanonical d → map from_text (map by_text (leaves_of d)) ≡ leaves_of d
back End ok = refl
back (File n leaf rest) ok = ap₂ (λ (p : Path) (l : List (Path × Leaf)). (p, leaf) ∷ l) (one_name n ok.0.no_slash) (back rest ok.2)
back (Sub n inner rest) ok =
    ap (map from_text) (map-append by_text (map (under n) (leaves_of inner)) (leaves_of rest)) ∙ map-append from_text (map by_text (map (under n) (leaves_of inner))) (map by_text (leaves_of rest))
    ∙ ap₂ (λ (a b : List (Path × Leaf)). a ++ b) (back-under n (leaves_of inner) ok.0.no_slash (leaves-have_paths inner) (back inner ok.2)) (back rest ok.4)

rows_texts : (rs : List Row) → rows_at 0 rs ≡ map from_text (texts_of rs)
rows_texts [] = refl
rows_texts (r ∷ rs) = ap (λ l. row_at 0 r ∷ l) (rows_texts rs)

-- the rows of a map are the leaves of its directory
pub leaves_are_rows : (d : Directory) (paths : PathList) (rs : List Row) → texts_of rs ≡ paths → IsRising paths → StandsFor d (map_of paths) → leaves_of d ≡ rows_at 0 rs
leaves_are_rows d paths rs is rising stands = sym (back d stands.canonical) ∙ ap (map from_text) (sym (same_rows d paths rising stands)) ∙ ap (map from_text) (sym is) ∙ sym (rows_texts rs)
