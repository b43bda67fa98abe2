-- What a tree map from written paths to leaves has at the bytes of a path, and what that says of its paths.
use Rattle.std.proofs.Common.{◌≡◌, ℕ, ◌+◌, ◌<◌, Bool, true, false, not, ◌&&◌, ◌||◌, ◌==◌, cond, List, [], ◌∷◌, ◌++◌, map, filter, length, drop, get_or, append_assoc, Option, Some, None, is_some, refl, sym, ap, ap₂, ◌∙◌, subst, true≢false, arith, ne_eqb, add-one, drop-cons}
use Rattle.std.specs.declared.cmp.Ordering.{Ordering}
use Rattle.std.specs.declared.cmp.Ordering.TheVariants.{Less, Equal, Greater}
use Rattle.std.specs.Ordering.{is_eq, is_le, is_gt, nat_cmp, ordering_then}
use Rattle.std.specs.Cmp.{tied_itself, ranked}
use Rattle.std.specs.Cmp.Lexicographic.{slice_cmp, nat_list_cmp_total}
use Rattle.std.specs.FinMap.{slice_cmp-IsAntisymmetric, nat_cmp-IsAntisymmetric}
use Rattle.std.specs.List.{join_with_byte, list_any, AllByRecursion}
use Rattle.std.specs.List.Sorted.{IsStrictlySortedBy}
use Rattle.std.specs.declared.ops.Bound.TheVariants.{Included, Excluded}
use Rattle.gx_rules.specs.Name.{name_cmp}
use Rattle.std.specs.Str.{bytes_eq}
use Rattle.std.specs.Map.{lookup, KeepsOthers, keys_of}
use Rattle.std.specs.BTreeMap.{BTreeMap, UpdatesBy}
use Rattle.std.specs.BTreeMap.Range.{entries_between, range_contains}
use Rattle.std.specs.Global.{Vec}
use Rattle.std.proofs.lemmas.Bool.{eqb-true, eq-eqb}
use Rattle.gx_edit.specs.Path.{Path, components, at_front, path_eq}
use Rattle.gx_edit.specs.PathList.{PathList, map_of, IsRising}
use Rattle.gx_edit.specs.PathTexts.{rows_in, rows_of, leaf_at_text, is_below, without}
use Rattle.gx_edit.specs.declared.leaf.Leaf.{Leaf}
use Rattle.gx_edit.proofs.PathLemmas.{bytes_eq-is, bytes_eq-of, path_eq-is, path_eq-of}
use Rattle.gx_edit.proofs.ComponentLemmas.{components_some}

-- ---- a text is that of its components

join_slash : (p : Path) → (p ≡ [] → ⊥) → join_with_byte 47 ([] ∷ p) ≡ 47 ∷ join_with_byte 47 p
join_slash [] some = absurd (some refl)
join_slash (n ∷ p) some = refl

join_front : (b : ℕ) (p : Path) → (p ≡ [] → ⊥) → join_with_byte 47 (at_front b p) ≡ b ∷ join_with_byte 47 p
join_front b [] some = absurd (some refl)
join_front b (n ∷ []) some = refl
join_front b (n ∷ m ∷ p) some = refl

pub join_components : (bs : List ℕ) → join_with_byte 47 (components bs) ≡ bs
join_components [] = refl
join_components (b ∷ bs) = go (b == 47) refl (join_components bs)
  where
    go : (t : Bool) → (b == 47) ≡ t → join_with_byte 47 (components bs) ≡ bs → join_with_byte 47 (cond t ([] ∷ components bs) (at_front b (components bs))) ≡ b ∷ bs
    go true e ih = join_slash (components bs) (components_some bs) ∙ ap₂ (λ x xs. x ∷ xs) (sym (eqb-true b 47 e)) ih
    go false e ih = join_front b (components bs) (components_some bs) ∙ ap (λ xs. b ∷ xs) ih

pub one_text : (a b : List ℕ) → components a ≡ components b → a ≡ b
one_text a b e = sym (join_components a) ∙ ap (join_with_byte 47) e ∙ join_components b

same_bool : (s t : Bool) → (s ≡ true → t ≡ true) → (t ≡ true → s ≡ true) → s ≡ t
same_bool true true f g = refl
same_bool true false f g = sym (f refl)
same_bool false true f g = g refl
same_bool false false f g = refl

pub bytes_eq-turned : (a b : List ℕ) → bytes_eq a b ≡ bytes_eq b a
bytes_eq-turned a b = same_bool _ _ (λ e. bytes_eq-of b a (sym (bytes_eq-is a b e))) (λ e. bytes_eq-of a b (sym (bytes_eq-is b a e)))

pub same_text : (a b : List ℕ) → path_eq (components a) (components b) ≡ bytes_eq b a
same_text a b = same_bool _ _
    (λ e. bytes_eq-of b a (sym (one_text a b (path_eq-is (components a) (components b) e))))
    (λ e. path_eq-of (components a) (components b) (ap components (sym (bytes_eq-is b a e))))

-- the leaf at a written path
pub map_text : (rows : PathList) (k : List ℕ) → map_of rows (components k) ≡ leaf_at_text rows k
map_text [] k = refl
map_text (row ∷ rows) k = ap₂ (λ t r. cond t (Some row.1) r) (same_text row.0 k) (map_text rows k)

-- no leaf is at names that no text has
pub map_none : (rows : PathList) (q : Path) → ((k : List ℕ) → path_eq (components k) q ≡ false) → map_of rows q ≡ None
map_none [] q none = refl
map_none (row ∷ rows) q none = ap (λ t. cond t (Some row.1) (map_of rows q)) (none row.0) ∙ map_none rows q none

-- a path is that of a text, or of none
pub by_text : (P : Path → Type 0) → ((k : List ℕ) → P (components k)) → ((q : Path) → ((k : List ℕ) → path_eq (components k) q ≡ false) → P q) → (q : Path) → P q
by_text P written other q = go (path_eq (components (join_with_byte 47 q)) q) refl
  where
    go : (t : Bool) → path_eq (components (join_with_byte 47 q)) q ≡ t → P q
    go true e = subst P (path_eq-is (components (join_with_byte 47 q)) q e) (written (join_with_byte 47 q))
    go false e = other q (λ k. not_it k (path_eq (components k) q) refl)
      where
        not_it : (k : List ℕ) (s : Bool) → path_eq (components k) q ≡ s → s ≡ false
        not_it k false f = refl
        not_it k true f =
            let is : components k ≡ q = path_eq-is (components k) q f in
            let text : k ≡ join_with_byte 47 q = sym (join_components k) ∙ ap (join_with_byte 47) is in
            absurd (true≢false (sym (path_eq-of (components (join_with_byte 47 q)) q (ap components (sym text) ∙ is)) ∙ e))

-- ---- how a tree map is asked

test_is : (q k : List ℕ) → is_eq (slice_cmp nat_cmp q k) ≡ bytes_eq q k
test_is q k = go (slice_cmp nat_cmp q k) refl (bytes_eq q k) refl
  where
    differ : (o : Ordering) → slice_cmp nat_cmp q k ≡ o → bytes_eq q k ≡ true → o ≡ Equal
    differ o e f = sym e ∙ ap (slice_cmp nat_cmp q) (sym (bytes_eq-is q k f)) ∙ tied_itself nat_list_cmp_total q

    go : (o : Ordering) → slice_cmp nat_cmp q k ≡ o → (t : Bool) → bytes_eq q k ≡ t → is_eq o ≡ t
    go Equal e true f = refl
    go Equal e false f = sym (bytes_eq-of q k (slice_cmp-IsAntisymmetric nat_cmp-IsAntisymmetric q k e)) ∙ f
    go Less e false f = refl
    go Less e true f = ap is_eq (differ Less e f)
    go Greater e false f = refl
    go Greater e true f = ap is_eq (differ Greater e f)

-- whether a key is the text
abbrev pub asks : List ℕ → Vec ℕ → Bool
asks q k = is_eq (slice_cmp nat_cmp q k.items)

pub look_rows : (es : List (Vec ℕ × Leaf)) (q : List ℕ) → lookup (asks q) es ≡ leaf_at_text (rows_in es) q
look_rows [] q = refl
look_rows (e ∷ es) q = ap₂ (λ t r. cond t (Some e.1) r) (test_is q e.0.items) (look_rows es q)

pub found_leaf : (es : List (Vec ℕ × Leaf)) (q : List ℕ) → lookup (asks q) es ≡ map_of (rows_in es) (components q)
found_leaf es q = look_rows es q ∙ sym (map_text (rows_in es) q)

abbrev pub key_cmp : Vec ℕ → Vec ℕ → Ordering
key_cmp x y = slice_cmp nat_cmp x.items y.items

-- a map in which one key has another leaf, or none
pub updated : (m n : BTreeMap (Vec ℕ) Leaf) (p : List ℕ) (w : Option Leaf) → UpdatesBy key_cmp (λ k. slice_cmp nat_cmp p k.items) m n w → (q : List ℕ) → leaf_at_text (rows_of n) q ≡ cond (bytes_eq p q) w (leaf_at_text (rows_of m) q)
unfolding KeepsOthers
updated m n p w h q = go (bytes_eq p q) refl
  where
    same_key : (x y : Vec ℕ) → asks q x ≡ true → asks q y ≡ is_eq (key_cmp x y)
    same_key x y e = ap (λ l. is_eq (slice_cmp nat_cmp l y.items)) (bytes_eq-is q x.items (sym (test_is q x.items) ∙ e))

    other_key : bytes_eq p q ≡ false → (k : Vec ℕ) → asks p k ≡ true → asks q k ≡ false
    other_key apart k e = test_is q k.items ∙ not_it (bytes_eq q k.items) refl
      where
        not_it : (t : Bool) → bytes_eq q k.items ≡ t → t ≡ false
        not_it false f = refl
        not_it true f = absurd (true≢false (sym (bytes_eq-of p q (bytes_eq-is p k.items (sym (test_is p k.items) ∙ e) ∙ sym (bytes_eq-is q k.items f))) ∙ apart))

    go : (t : Bool) → bytes_eq p q ≡ t → leaf_at_text (rows_of n) q ≡ cond t w (leaf_at_text (rows_of m) q)
    go true e = subst (λ x. leaf_at_text (rows_of n) x ≡ w) (bytes_eq-is p q e) (sym (look_rows n.entries p) ∙ h.1)
    go false e = sym (look_rows n.entries q) ∙ h.3 (asks q) same_key (other_key e) ∙ look_rows m.entries q

-- a key put in
pub inserted : (m n : BTreeMap (Vec ℕ) Leaf) (key : Vec ℕ) (text : List ℕ) (leaf : Leaf) → key.items ≡ text → UpdatesBy key_cmp (key_cmp key) m n (Some leaf) → (q : List ℕ) → leaf_at_text (rows_of n) q ≡ cond (bytes_eq text q) (Some leaf) (leaf_at_text (rows_of m) q)
inserted m n key text leaf is h q = updated m n key.items (Some leaf) h q ∙ ap (λ t. cond (bytes_eq t q) (Some leaf) (leaf_at_text (rows_of m) q)) is

all_rising : (k : Vec ℕ) (es : List (Vec ℕ × Leaf)) → AllByRecursion (λ y. key_cmp k y ≡ Less) (keys_of es) → AllByRecursion (λ y. name_cmp k.items y ≡ Less) (map (λ row. row.0) (rows_in es))
all_rising k [] h = tt
all_rising k (e ∷ es) h = (h.0, all_rising k es h.1)

pub rising : (es : List (Vec ℕ × Leaf)) → IsStrictlySortedBy key_cmp (keys_of es) → IsRising (rows_in es)
unfolding IsStrictlySortedBy
rising [] h = tt
rising (e ∷ es) h = (all_rising e.0 es h.0, rising es h.1)

-- ---- texts below a text

-- the paths of entries
abbrev pub texts_in : List (Vec ℕ × Leaf) → List (List ℕ)
texts_in es = map (λ e. e.0.items) es

pub and_false : (b : Bool) → b && false ≡ false
and_false true = refl
and_false false = refl

-- what begins with a text and a slash lies from there on, and before the text with the byte after the slash
at_end : (k : List ℕ) → is_le (slice_cmp nat_cmp [] k) ≡ true
at_end [] = refl
at_end (b ∷ k) = refl

first_byte : (b : ℕ) (k : List ℕ) (r s : Ordering) → nat_cmp 47 b ≡ r → nat_cmp 48 b ≡ s → (is_le (ordering_then r (slice_cmp nat_cmp [] k)) && not (is_le (ordering_then s (slice_cmp nat_cmp [] k)))) ≡ (b == 47)
first_byte b k Greater s e f = let low : b < 47 = ranked 47 b Greater (sym e) in sym (ne_eqb b 47 (λ is. absurd (omega (arith, low, is))))
first_byte b k Equal Greater e f = let is : 47 ≡ b = ranked 47 b Equal (sym e) in ap (λ t. t && true) (at_end k) ∙ sym (subst (λ x. (x == 47) ≡ true) is refl)
first_byte b k Equal Equal e f = let is : 47 ≡ b = ranked 47 b Equal (sym e) in let other : 48 ≡ b = ranked 48 b Equal (sym f) in absurd (omega (arith, is, other))
first_byte b k Equal Less e f = let is : 47 ≡ b = ranked 47 b Equal (sym e) in let other : 48 < b = ranked 48 b Less (sym f) in absurd (omega (arith, is, other))
first_byte b k Less Greater e f = let low : 47 < b = ranked 47 b Less (sym e) in let high : b < 48 = ranked 48 b Greater (sym f) in absurd (omega (arith, low, high))
first_byte b k Less Equal e f = let low : 47 < b = ranked 47 b Less (sym e) in ap not (at_end k) ∙ sym (ne_eqb b 47 (λ is. absurd (omega (arith, low, is))))
first_byte b k Less Less e f = let low : 47 < b = ranked 47 b Less (sym e) in sym (ne_eqb b 47 (λ is. absurd (omega (arith, low, is))))

next_byte : (a b : ℕ) (r : Ordering) → nat_cmp a b ≡ r → (t u : Ordering) (below : Bool) → (is_le t && not (is_le u)) ≡ below → (is_le (ordering_then r t) && not (is_le (ordering_then r u))) ≡ (a == b && below)
next_byte a b Equal e t u below h = h ∙ sym (ap (λ s. s && below) (subst (λ x. (a == x) ≡ true) (ranked a b Equal (sym e)) (eq-eqb a a refl)))
next_byte a b Less e t u below h = let low : a < b = ranked a b Less (sym e) in sym (ap (λ s. s && below) (ne_eqb a b (λ is. absurd (omega (arith, low, is)))))
next_byte a b Greater e t u below h = let high : b < a = ranked a b Greater (sym e) in sym (ap (λ s. s && below) (ne_eqb a b (λ is. absurd (omega (arith, high, is)))))

pub between_is : (p k : List ℕ) → (is_le (slice_cmp nat_cmp (p ++ 47 ∷ []) k) && not (is_le (slice_cmp nat_cmp (p ++ 48 ∷ []) k))) ≡ is_below p k
between_is [] [] = refl
between_is [] (b ∷ k) = first_byte b k (nat_cmp 47 b) (nat_cmp 48 b) refl refl
between_is (a ∷ p) [] = refl
between_is (a ∷ p) (b ∷ k) = next_byte a b (nat_cmp a b) refl (slice_cmp nat_cmp (p ++ 47 ∷ []) k) (slice_cmp nat_cmp (p ++ 48 ∷ []) k) (is_below p k) (between_is p k)

forward_text : (p : List ℕ) → is_gt (slice_cmp nat_cmp (p ++ 47 ∷ []) (p ++ 48 ∷ [])) ≡ false
forward_text [] = refl
forward_text (a ∷ p) = ap (λ r. is_gt (ordering_then r (slice_cmp nat_cmp (p ++ 47 ∷ []) (p ++ 48 ∷ [])))) (nat_cmp_same a) ∙ forward_text p
  where
    nat_cmp_same : (x : ℕ) → nat_cmp x x ≡ Equal
    nat_cmp_same x = go (nat_cmp x x) refl
      where
        go : (r : Ordering) → nat_cmp x x ≡ r → r ≡ Equal
        go Equal e = refl
        go Less e = let low : x < x = ranked x x Less (sym e) in absurd (omega (arith, low))
        go Greater e = let low : x < x = ranked x x Greater (sym e) in absurd (omega (arith, low))

pub forward : (p : List ℕ) (from to : Vec ℕ) → from.items ≡ p ++ 47 ∷ [] → to.items ≡ p ++ 48 ∷ [] → is_gt (key_cmp from to) ≡ false
forward p from to e f = ap₂ (λ a b. is_gt (slice_cmp nat_cmp a b)) e f ∙ forward_text p

kept : (p : List ℕ) (r : Vec ℕ → Bool) → ((k : Vec ℕ) → r k ≡ is_below p k.items) → (es : List (Vec ℕ × Leaf)) (q : List ℕ) → list_any (bytes_eq q) (texts_in (filter (λ e. r e.0) es)) ≡ (is_below p q && is_some (leaf_at_text (rows_in es) q))
kept p r is [] q = sym (and_false (is_below p q))
kept p r is (e ∷ es) q = go (r e.0) refl (bytes_eq q e.0.items) refl (kept p r is es q)
  where
    rest : List (Vec ℕ × Leaf)
    rest = filter (λ e. r e.0) es

    here : (t : Bool) → r e.0 ≡ t → bytes_eq q e.0.items ≡ true → is_below p q ≡ t
    here t f g = ap (is_below p) (bytes_eq-is q e.0.items g) ∙ sym (is e.0) ∙ f

    go : (s : Bool) → r e.0 ≡ s → (t : Bool) → bytes_eq q e.0.items ≡ t → list_any (bytes_eq q) (texts_in rest) ≡ (is_below p q && is_some (leaf_at_text (rows_in es) q))
        → list_any (bytes_eq q) (texts_in (cond s (e ∷ rest) rest)) ≡ (is_below p q && is_some (cond t (Some e.1) (leaf_at_text (rows_in es) q)))
    go true f true g ih = ap (λ b. b || list_any (bytes_eq q) (texts_in rest)) g ∙ sym (ap (λ b. b && true) (here true f g))
    go true f false g ih = ap (λ b. b || list_any (bytes_eq q) (texts_in rest)) g ∙ ih
    go false f true g ih = ih ∙ ap (λ b. b && is_some (leaf_at_text (rows_in es) q)) (here false f g) ∙ sym (ap (λ b. b && true) (here false f g))
    go false f false g ih = ih

-- the texts of the range are those below
pub range_texts : (p : List ℕ) (es rs : List (Vec ℕ × Leaf)) (from to : Vec ℕ) → from.items ≡ p ++ 47 ∷ [] → to.items ≡ p ++ 48 ∷ [] → rs ≡ entries_between key_cmp (Included from) (Excluded to) es
    → (q : List ℕ) → list_any (bytes_eq q) (texts_in rs) ≡ (is_below p q && is_some (leaf_at_text (rows_in es) q))
range_texts p es rs from to e f is q =
    ap (λ xs. list_any (bytes_eq q) (texts_in xs)) is
    ∙ kept p (range_contains key_cmp (Included from) (Excluded to)) (λ k. ap₂ (λ a b. is_le (slice_cmp nat_cmp a k.items) && not (is_le (slice_cmp nat_cmp b k.items))) e f ∙ between_is p k.items) es q

-- one text more
pub texts_more : (all rest : List (Vec ℕ × Leaf)) (key : Vec ℕ) (leaf : Leaf) (copy : List ℕ) (done next : List (List ℕ)) → all ≡ (key, leaf) ∷ rest → copy ≡ key.items → next ≡ done ++ copy ∷ []
    → (q : List ℕ) → list_any (bytes_eq q) (next ++ texts_in rest) ≡ list_any (bytes_eq q) (done ++ texts_in all)
texts_more all rest key leaf copy done next is same more q =
    ap (λ xs. list_any (bytes_eq q) (xs ++ texts_in rest)) (more ∙ ap (λ x. done ++ x ∷ []) same)
    ∙ ap (list_any (bytes_eq q)) (append_assoc done (key.items ∷ []) (texts_in rest) ∙ ap (λ es. done ++ texts_in es) (sym is))

-- ---- texts taken out one by one

pub texts_step : (ts : List (List ℕ)) (i : ℕ) (t : List ℕ) (old new : PathList) (all : List ℕ → Option Leaf) → i < length ts → t ≡ get_or ts i t → ((q : List ℕ) → leaf_at_text new q ≡ cond (bytes_eq t q) None (leaf_at_text old q))
    → ((q : List ℕ) → without (drop i ts) (leaf_at_text old) q ≡ all q) → (q : List ℕ) → without (drop (i + 1) ts) (leaf_at_text new) q ≡ all q
texts_step ts i t old new all within is gone h q =
    ap (λ o. cond (list_any (bytes_eq q) (drop (i + 1) ts)) None o) (gone q ∙ ap (λ b. cond b None (leaf_at_text old q)) (bytes_eq-turned t q))
    ∙ join (bytes_eq q t) (list_any (bytes_eq q) (drop (i + 1) ts))
    ∙ ap (λ xs. cond (list_any (bytes_eq q) xs) None (leaf_at_text old q)) (ap (λ x. x ∷ drop (i + 1) ts) is ∙ ap (λ k. get_or ts i t ∷ drop k ts) (add-one i) ∙ sym (drop-cons ts i t within))
    ∙ h q
  where
    join : (a b : Bool) → cond b None (cond a None (leaf_at_text old q)) ≡ cond (a || b) None (leaf_at_text old q)
    join true true = refl
    join true false = refl
    join false b = refl
