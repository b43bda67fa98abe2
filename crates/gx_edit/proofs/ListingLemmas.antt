-- What the tests of a stored tree's entries say.
use Rattle.std.proofs.Common.{◌≡◌, ◌≢◌, ℕ, suc, ◌+◌, Bool, true, false, not, ◌&&◌, ◌==◌, List, [], ◌∷◌, map, drop, length, Option, Some, None, refl, sym, ap, ap₂, ◌∙◌, subst, true≢false, arith, add-one, Contains, get_or, ◌<◌, zero, ◌⊎◌, inl, IfSome}
use Rattle.std.proofs.lemmas.Bool.{eq-eqb, ne_eqb}
use Rattle.std.specs.declared.cmp.Ordering.{Ordering}
use Rattle.std.specs.declared.cmp.Ordering.TheVariants.{Less, Equal, Greater}
use Rattle.std.specs.Ordering.{is_lt, nat_cmp, ordering_then}
use Rattle.std.specs.Cmp.{ranked}
use Rattle.std.specs.List.{slice_get, list_all, AllByRecursion}
use Rattle.std.specs.List.Sorted.{IsStrictlySortedBy}
use Rattle.gx_hash.specs.declared.kind.HashKind.{HashKind}
use Rattle.gx_hash.specs.declared.oid.ObjectId.{ObjectId}
use Rattle.gx_hash.specs.ObjectId.{object_id}
use Rattle.gx_object.specs.declared.kind.Kind.TheVariants as kind
use Rattle.gx_object.specs.declared.tree.Entry.{Entry}
use Rattle.gx_object.specs.Kind.{kind_name}
use Rattle.gx_store.specs.Content.{Content, lookup}
use Rattle.gx_object.specs.Tree.{sort_key}
use Rattle.gx_object.specs.TreeSpelling.{SpellsTree}
use Rattle.gx_rules.specs.Name.{name_cmp}
use Rattle.gx_edit.specs.ReadMapCauses.{AreRising, SpellsCanonically}
use Rattle.gx_edit.specs.OpenTree.{IsOneOf}
use Rattle.gx_edit.specs.declared.stored_tree.open_tree.OpenTree.{OpenTree}
use Rattle.gx_edit.proofs.DirectoryLemmas.{below-chain}

-- ---- sort keys, byte by byte

-- how two lists compare by what stands in front and what the rests give
abbrev pub cmp_step : Option ℕ → Option ℕ → Ordering → Ordering
cmp_step None None o = Equal
cmp_step None (Some y) o = Less
cmp_step (Some x) None o = Greater
cmp_step (Some x) (Some y) o = ordering_then (nat_cmp x y) o

drop-none : (i : ℕ) → drop {A = ℕ} i [] ≡ []
drop-none zero = refl
drop-none (suc i) = refl

cmp_next : (xs ys : List ℕ) (i : ℕ) → name_cmp (drop i xs) (drop i ys) ≡ cmp_step (slice_get xs i) (slice_get ys i) (name_cmp (drop (suc i) xs) (drop (suc i) ys))
cmp_next [] [] i = ap₂ name_cmp (drop-none i) (drop-none i)
cmp_next [] (y ∷ ys) zero = refl
cmp_next [] (y ∷ ys) (suc i) = ap (λ l. name_cmp l (drop i ys)) (sym (drop-none i)) ∙ cmp_next [] ys i ∙ go (slice_get ys i)
  where
    go : (o : Option ℕ) → cmp_step None o (name_cmp (drop (suc i) []) (drop (suc i) ys)) ≡ cmp_step None o (name_cmp (drop (suc (suc i)) []) (drop (suc (suc i)) (y ∷ ys)))
    go None = refl
    go (Some x) = refl
cmp_next (x ∷ xs) [] zero = refl
cmp_next (x ∷ xs) [] (suc i) = ap (name_cmp (drop i xs)) (sym (drop-none i)) ∙ cmp_next xs [] i ∙ go (slice_get xs i)
  where
    go : (o : Option ℕ) → cmp_step o None (name_cmp (drop (suc i) xs) (drop (suc i) [])) ≡ cmp_step o None (name_cmp (drop (suc (suc i)) (x ∷ xs)) (drop (suc (suc i)) []))
    go None = refl
    go (Some y) = refl
cmp_next (x ∷ xs) (y ∷ ys) zero = refl
cmp_next (x ∷ xs) (y ∷ ys) (suc i) = cmp_next xs ys i

pub cmp_at : (xs ys : List ℕ) (i : ℕ) (a b : Option ℕ) → slice_get xs i ≡ a → slice_get ys i ≡ b → name_cmp (drop i xs) (drop i ys) ≡ name_cmp xs ys → cmp_step a b (name_cmp (drop (i + 1) xs) (drop (i + 1) ys)) ≡ name_cmp xs ys
cmp_at xs ys i a b e f so_far = ap₂ (λ p q. cmp_step p q (name_cmp (drop (i + 1) xs) (drop (i + 1) ys))) (sym e) (sym f) ∙ ap (λ k. cmp_step (slice_get xs i) (slice_get ys i) (name_cmp (drop k xs) (drop k ys))) (add-one i) ∙ sym (cmp_next xs ys i) ∙ so_far

pub then_apart : (x y : ℕ) (o : Ordering) → (x ≢ y) → ordering_then (nat_cmp x y) o ≡ nat_cmp x y
then_apart x y o ne = go (nat_cmp x y) refl
  where
    go : (r : Ordering) → nat_cmp x y ≡ r → ordering_then r o ≡ r
    go Less e = refl
    go Greater e = refl
    go Equal e = absurd (ne (ranked x y Equal (sym e)))

pub then_same : (x y : ℕ) (o : Ordering) → x ≡ y → ordering_then (nat_cmp x y) o ≡ o
then_same x y o e = go (nat_cmp x y) refl
  where
    go : (r : Ordering) → nat_cmp x y ≡ r → ordering_then r o ≡ o
    go Equal f = refl
    go Less f = absurd (let low : x < y = ranked x y Less (sym f) in omega (arith, low, e))
    go Greater f = absurd (let high : y < x = ranked x y Greater (sym f) in omega (arith, high, e))

-- ---- entries that rise

all_above : (e f : Entry) (es : List Entry) → name_cmp (sort_key e) (sort_key f) ≡ Less → AllByRecursion (λ y. name_cmp (sort_key f) y ≡ Less) (map sort_key es) → AllByRecursion (λ y. name_cmp (sort_key e) y ≡ Less) (map sort_key es)
all_above e f [] less h = tt
all_above e f (x ∷ es) less h = (below-chain (sort_key e) (sort_key f) (sort_key x) less h.0, all_above e f es less h.1)

less_is : (o : Ordering) → is_lt o ≡ true → o ≡ Less
less_is Less e = refl
less_is Equal e = cc
less_is Greater e = cc

pub rise_more : (rest others : List Entry) (first second : Entry) → rest ≡ first ∷ others → Some second ≡ slice_get others 0 → is_lt (name_cmp (sort_key first) (sort_key second)) ≡ true → AreRising others → AreRising rest
unfolding IsStrictlySortedBy
rise_more rest [] first second is get less h = cc
rise_more rest (x ∷ others) first second is get less h =
    let same : second ≡ x = cc in
    let first_less : name_cmp (sort_key first) (sort_key x) ≡ Less = ap (λ y. name_cmp (sort_key first) (sort_key y)) (sym same) ∙ less_is _ less in
    subst AreRising (sym is) ((first_less, all_above first x others first_less h.0), h)

pub rise_last : (rest others : List Entry) (first : Entry) → rest ≡ first ∷ others → None ≡ slice_get others 0 → AreRising others → AreRising rest
unfolding IsStrictlySortedBy
rise_last rest [] first is get h = subst AreRising (sym is) (tt, tt)
rise_last rest (x ∷ others) first is get h = cc

pub rise_less : (rest others : List Entry) (first : Entry) → rest ≡ first ∷ others → AreRising rest → AreRising others
unfolding IsStrictlySortedBy
rise_less rest others first is h = let k : AreRising (first ∷ others) = subst AreRising is h in k.1

pub rise_not : (rest others : List Entry) (first second : Entry) → rest ≡ first ∷ others → Some second ≡ slice_get others 0 → is_lt (name_cmp (sort_key first) (sort_key second)) ≡ false → AreRising rest → ⊥
unfolding IsStrictlySortedBy
rise_not rest [] first second is get more h = cc
rise_not rest (x ∷ others) first second is get more h =
    let same : second ≡ x = cc in
    let k : AreRising (first ∷ x ∷ others) = subst AreRising is h in
    true≢false (sym (ap is_lt k.0.0) ∙ ap (λ y. is_lt (name_cmp (sort_key first) (sort_key y))) (sym same) ∙ more)

pub rise_none : (rest : List Entry) → length rest ≡ 0 → AreRising rest
unfolding IsStrictlySortedBy
rise_none [] is = tt
rise_none (x ∷ rest) is = absurd (omega (arith, is))

-- ---- names

Contains-here : (x : ℕ) (xs : List ℕ) → Contains (x ∷ xs) x
Contains-here x xs = (0, omega arith, refl)

Contains-there : (x y : ℕ) (xs : List ℕ) → Contains xs y → Contains (x ∷ xs) y
Contains-there x y xs h = (suc h.0, (let less = h.1 in omega arith), h.2)

pub has_none : (y : ℕ) (xs : List ℕ) → list_all (λ b. not (b == y)) xs ≡ true → Contains xs y → ⊥
has_none y [] all h = absurd (omega (arith, h.1))
has_none y (x ∷ xs) all (zero, less, is) = true≢false (sym all ∙ ap (λ t. not t && list_all (λ b. not (b == y)) xs) (eq-eqb x y is))
has_none y (x ∷ xs) all (suc k, less, is) = has_none y xs (rest (not (x == y)) all) (k, omega (arith, less), is)
  where
    rest : (t : Bool) → (t && list_all (λ b. not (b == y)) xs) ≡ true → list_all (λ b. not (b == y)) xs ≡ true
    rest true h = h
    rest false h = cc

pub has_some : (y : ℕ) (xs : List ℕ) → (Contains xs y → ⊥) → list_all (λ b. not (b == y)) xs ≡ true
has_some y [] none = refl
has_some y (x ∷ xs) none =
    ap (λ t. not t && list_all (λ b. not (b == y)) xs) (ne_eqb x y (λ is. none (subst (Contains (x ∷ xs)) is (Contains-here x xs))))
    ∙ has_some y xs (λ h. none (Contains-there x y xs h))

-- ---- a spelling is of one list of entries

pub not_canonical : (hash : HashKind) (bytes : List ℕ) (found : List Entry) → ((entries : List Entry) → SpellsTree hash bytes entries → found ≡ entries) → (P : List Entry → Type 0) → (P found → ⊥)
    → ((entries : List Entry) → SpellsCanonically hash bytes entries → P entries) → (entries : List Entry) → SpellsCanonically hash bytes entries → ⊥
not_canonical hash bytes found only P bad has entries s = bad (subst P (sym (only entries s.spelled)) (has entries s))

-- ---- an id of a list of trees

pub one_at : (trees : List OpenTree) (i : ℕ) (tree : OpenTree) → i < length trees → tree ≡ get_or trees i tree → IsOneOf tree.id trees
one_at [] i tree h is = absurd (omega (arith, h))
one_at (x ∷ trees) zero tree h is = (0, omega arith, ap (λ (t : OpenTree). t.id) (sym is))
one_at (x ∷ trees) (suc i) tree h is = let there = one_at trees i tree (omega (arith, h)) is in (suc there.0, (let less = there.1 in omega arith), there.2)

-- ---- a tree that is not opened

pub misspelt : (told : Option Content) (hash : HashKind) (id : ObjectId) (bytes text : List ℕ) → text ≡ bytes → IfSome told (λ content. lookup content id ≡ Some (kind.Tree, bytes)) → ((entries : List Entry) → ¬ SpellsCanonically hash text entries)
    → IfSome told (λ content. (bytes : List ℕ) × (lookup content id ≡ Some (kind.Tree, bytes)) × (((entries : List Entry) → ¬ SpellsCanonically hash bytes entries) ⊎ (id ≢ object_id hash (kind_name kind.Tree) bytes)))
misspelt None hash id bytes text same found bad = tt
misspelt (Some content) hash id bytes text same found bad = (bytes, found, inl (subst (λ (b : List ℕ). (entries : List Entry) → ¬ SpellsCanonically hash b entries) same bad))
