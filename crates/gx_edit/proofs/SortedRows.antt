-- Entries that are gathered name by name and sorted are the list of what stands at the names.
use Rattle.std.proofs.Common.{◌≡◌, ◌<◌, ◌∙◌, sym, ap, refl, subst, cond, zero, suc, List, [], ◌∷◌, ℕ, Bool, true, false, true≢false, Option, Some, None, Contains, length, map, get_or, filter_map, arith}
use Rattle.std.specs.Str.{bytes_eq}
use Rattle.std.specs.List.{AllByRecursion, IsDistinct, cons_option}
use Rattle.std.specs.List.Sorted.{IsStrictlySortedBy, IsPermutation, IsSorted}
use Rattle.std.specs.Ordering.{is_eq, is_lt, ordering_then, ordering_reverse, eq_by_cmp}
use Rattle.std.specs.declared.cmp.Ordering.{Ordering}
use Rattle.std.specs.declared.cmp.Ordering.TheVariants.{Less, Equal, Greater}
use Rattle.std.specs.Cmp.Lexicographic.{nat_list_cmp_total}
use Rattle.std.specs.FinMap.{find, from_entries, get-from_entries, slice_cmp-IsAntisymmetric, nat_cmp-IsAntisymmetric}
use Rattle.std.proofs.lemmas.List.Sorted.{sorted_far, ranks_by, Contains-permutation, IsPermutation-sym}
use Rattle.std.proofs.lemmas.Map.Keys.{IsDistinct-IsPermutation, IsDistinct-cons, apart_from_distinct}
use Rattle.gx_hash.specs.declared.kind.HashKind.{HashKind}
use Rattle.gx_rules.specs.Name.{name_cmp}
use Rattle.gx_object.specs.declared.tree.Entry.{Entry}
use Rattle.gx_object.specs.Tree.{sort_key}
use Rattle.gx_edit.specs.View.{View}
use Rattle.gx_edit.specs.Written.{entry_cmp, entry_for, entry_in, IsListOf}
use Rattle.gx_edit.specs.declared.editor.item.Item.{Item}
use Rattle.gx_edit.proofs.PathLemmas.{bytes_eq-of}
use Rattle.gx_edit.proofs.DirectoryLemmas.{below-irrefl, bytes_eq-no}
use Rattle.gx_edit.proofs.TextLemmas.{bytes_eq-turned}
use Rattle.gx_edit.proofs.NamesLemmas.{one_name, ties_itself}
use Rattle.gx_edit.proofs.WrittenEntries.{loaded, filename_of}
use Rattle.gx_edit.proofs.WrittenLists.{entry_total, all_at, all_of, in_first, in_later}

abbrev same_name : Entry → Entry → Bool
same_name a b = bytes_eq a.filename b.filename

-- the entries that stand at names, none of them twice
record IsGathered (look : List ℕ → Option Entry) (entries : List Entry) : Type 0 where
  pub each : AllByRecursion (λ (e : Entry). look e.filename ≡ Some e) entries
  pub own : IsDistinct same_name entries
  pub all : (n : List ℕ) (e : Entry) → look n ≡ Some e → Contains entries e

-- ---- sorting

tied_names : (a b : Entry) (o : Ordering) → ordering_then o (name_cmp a.filename b.filename) ≡ Equal → a.filename ≡ b.filename
tied_names a b Less e = cc
tied_names a b Equal e = slice_cmp-IsAntisymmetric nat_cmp-IsAntisymmetric a.filename b.filename e
tied_names a b Greater e = cc

less_of : (a b : Entry) → is_lt (entry_cmp b a) ≡ false → same_name a b ≡ false → entry_cmp a b ≡ Less
less_of a b not_after apart = go (entry_cmp a b) refl
  where
    go : (o : Ordering) → entry_cmp a b ≡ o → entry_cmp a b ≡ Less
    go Less is = is
    go Equal is = absurd (true≢false (sym (bytes_eq-of a.filename b.filename (tied_names a b (name_cmp (sort_key a) (sort_key b)) is)) ∙ apart))
    go Greater is = absurd (true≢false (sym (ap is_lt (entry_total.antisymm b a ∙ ap ordering_reverse is)) ∙ not_after))

rise_from_pairs : (xs : List Entry) → ((i j : ℕ) (d : Entry) → i < j → j < length xs → entry_cmp (get_or xs i d) (get_or xs j d) ≡ Less) → IsStrictlySortedBy entry_cmp xs
unfolding IsStrictlySortedBy
rise_from_pairs [] pairs = tt
rise_from_pairs (x ∷ xs) pairs = (all_of (λ y. entry_cmp x y ≡ Less) xs first, rise_from_pairs xs (λ i j d less within. pairs (suc i) (suc j) d (omega (arith, less)) (omega (arith, within))))
  where
    first : (y : Entry) → Contains xs y → entry_cmp x y ≡ Less
    first y (k, less, is) = subst (λ z. entry_cmp x z ≡ Less) is (pairs zero (suc k) y (omega arith) (omega (arith, less)))

sorted_listed : (look : List ℕ → Option Entry) (gathered rows : List Entry) → IsGathered look gathered → IsPermutation gathered rows → IsSorted entry_cmp rows → IsListOf look rows
sorted_listed look gathered rows g moved sorted = record {
  rising = rise_from_pairs rows pairs;
  each = all_of (λ (e : Entry). look e.filename ≡ Some e) rows (λ e h. all_at (λ (x : Entry). look x.filename ≡ Some x) gathered e g.each (Contains-permutation rows gathered e (IsPermutation-sym gathered rows moved) h));
  all = λ n e is. Contains-permutation gathered rows e moved (g.all n e is);
}
  where
    own : IsDistinct same_name rows
    own = IsDistinct-IsPermutation same_name (λ x y. bytes_eq-turned x.filename y.filename) gathered rows moved g.own

    pairs : (i j : ℕ) (d : Entry) → i < j → j < length rows → entry_cmp (get_or rows i d) (get_or rows j d) ≡ Less
    pairs i j d less within =
        less_of (get_or rows i d) (get_or rows j d)
        (sorted_far (λ x y. is_lt (entry_cmp x y)) (ranks_by entry_total (λ x. x)) rows sorted i j d (omega (arith, less)) within)
        (apart_from_distinct same_name rows i j d own less within)

-- ---- gathering

module _ (entry : List ℕ → Item → Option Entry) (named : (n : List ℕ) (item : Item) (e : Entry) → entry n item ≡ Some e → e.filename ≡ n) where
  abbrev Rows : Type 0
  Rows = List (List ℕ × Item)

  abbrev gathered : Rows → List Entry
  gathered es = filter_map (λ x. entry x.0 x.1) es

  abbrev entry_at : List ℕ → Option Item → Option Entry
  entry_at n None = None
  entry_at n (Some item) = entry n item

  -- keys above a key, and names of entries above it
  abbrev KeysAbove : List ℕ → Rows → Type 0
  KeysAbove k es = AllByRecursion (λ y. name_cmp k y ≡ Less) (map (λ (e : List ℕ × Item). e.0) es)

  names_above : (k : List ℕ) (es : Rows) → KeysAbove k es → AllByRecursion (λ (e : Entry). name_cmp k e.filename ≡ Less) (gathered es)
  names_above k [] above = tt
  names_above k (x ∷ es) above = go (entry x.0 x.1) refl (names_above k es above.1)
    where
      go : (o : Option Entry) → entry x.0 x.1 ≡ o → AllByRecursion (λ (e : Entry). name_cmp k e.filename ≡ Less) (gathered es) → AllByRecursion (λ (e : Entry). name_cmp k e.filename ≡ Less) (cons_option o (gathered es))
      go None is rest = rest
      go (Some e) is rest = (subst (λ n. name_cmp k n ≡ Less) (sym (named x.0 x.1 e is)) above.0, rest)

  not_one : (k n : List ℕ) → name_cmp k n ≡ Less → bytes_eq k n ≡ false
  not_one k n less = bytes_eq-no k n (λ same. below-irrefl k (subst (λ x. name_cmp k x ≡ Less) (sym same) less))

  no_tie : (k n : List ℕ) → name_cmp k n ≡ Less → eq_by_cmp name_cmp n k ≡ false
  no_tie k n less = go (is_eq (name_cmp n k)) refl
    where
      go : (t : Bool) → is_eq (name_cmp n k) ≡ t → t ≡ false
      go true e = absurd (below-irrefl k (subst (λ x. name_cmp k x ≡ Less) (one_name n k e) less))
      go false e = refl

  -- the entries after an entry are found after it
  found_behind : (k : List ℕ) (item : Item) (es : Rows) (xs : List Entry) → AllByRecursion (λ (e : Entry). name_cmp k e.filename ≡ Less) xs → AllByRecursion (λ (e : Entry). entry_at e.filename (find name_cmp e.filename es) ≡ Some e) xs
      → AllByRecursion (λ (e : Entry). entry_at e.filename (find name_cmp e.filename ((k, item) ∷ es)) ≡ Some e) xs
  found_behind k item es [] above each = tt
  found_behind k item es (e ∷ xs) above each =
      (ap (λ t. entry_at e.filename (cond t (Some item) (find name_cmp e.filename es))) (no_tie k e.filename above.0) ∙ each.0, found_behind k item es xs above.1 each.1)

  each_found : (es : Rows) → IsStrictlySortedBy name_cmp (map (λ (e : List ℕ × Item). e.0) es) → AllByRecursion (λ (e : Entry). entry_at e.filename (find name_cmp e.filename es) ≡ Some e) (gathered es)
  unfolding IsStrictlySortedBy
  each_found [] sorted = tt
  each_found (x ∷ es) sorted = go (entry x.0 x.1) refl (found_behind x.0 x.1 es (gathered es) (names_above x.0 es sorted.0) (each_found es sorted.1))
    where
      go : (o : Option Entry) → entry x.0 x.1 ≡ o → AllByRecursion (λ (e : Entry). entry_at e.filename (find name_cmp e.filename (x ∷ es)) ≡ Some e) (gathered es) → AllByRecursion (λ (e : Entry). entry_at e.filename (find name_cmp e.filename (x ∷ es)) ≡ Some e) (cons_option o (gathered es))
      go None is rest = rest
      go (Some e) is rest =
          (subst (λ n. entry_at n (find name_cmp n (x ∷ es)) ≡ Some e) (sym (named x.0 x.1 e is)) (ap (λ t. entry_at x.0 (cond t (Some x.1) (find name_cmp x.0 es))) (ties_itself x.0) ∙ is), rest)

  all_other : (e : Entry) (k : List ℕ) (xs : List Entry) → e.filename ≡ k → AllByRecursion (λ (f : Entry). name_cmp k f.filename ≡ Less) xs → AllByRecursion (λ f. same_name e f ≡ false) xs
  all_other e k [] is above = tt
  all_other e k (f ∷ xs) is above = (ap (λ n. bytes_eq n f.filename) is ∙ not_one k f.filename above.0, all_other e k xs is above.1)

  own_names : (es : Rows) → IsStrictlySortedBy name_cmp (map (λ (e : List ℕ × Item). e.0) es) → IsDistinct same_name (gathered es)
  unfolding IsStrictlySortedBy IsDistinct
  own_names [] sorted = tt
  own_names (x ∷ es) sorted = go (entry x.0 x.1) refl (own_names es sorted.1)
    where
      go : (o : Option Entry) → entry x.0 x.1 ≡ o → IsDistinct same_name (gathered es) → IsDistinct same_name (cons_option o (gathered es))
      go None is rest = rest
      go (Some e) is rest = IsDistinct-cons same_name e (gathered es) (all_other e x.0 (gathered es) (named x.0 x.1 e is) (names_above x.0 es sorted.0)) rest

  all_found : (es : Rows) (n : List ℕ) (e : Entry) → entry_at n (find name_cmp n es) ≡ Some e → Contains (gathered es) e
  all_found [] n e is = cc
  all_found (x ∷ es) n e is = go (eq_by_cmp name_cmp n x.0) refl is (λ more. all_found es n e more)
    where
      put : (o : Option Entry) → o ≡ Some e → Contains (cons_option o (gathered es)) e
      put None here = cc
      put (Some f) here = let one : f ≡ e = cc in subst (Contains (f ∷ gathered es)) one (in_first f (gathered es))

      later : (o : Option Entry) → Contains (gathered es) e → Contains (cons_option o (gathered es)) e
      later None h = h
      later (Some f) h = in_later f e (gathered es) h

      go : (t : Bool) → eq_by_cmp name_cmp n x.0 ≡ t → entry_at n (cond t (Some x.1) (find name_cmp n es)) ≡ Some e → (entry_at n (find name_cmp n es) ≡ Some e → Contains (gathered es) e) → Contains (cons_option (entry x.0 x.1) (gathered es)) e
      go true tied is behind = put (entry x.0 x.1) (ap (λ m. entry m x.1) (sym (one_name n x.0 tied)) ∙ is)
      go false tied is behind = later (entry x.0 x.1) (behind is)

  gathers : (es : Rows) → IsStrictlySortedBy name_cmp (map (λ (e : List ℕ × Item). e.0) es) → IsGathered (λ n. entry_at n (find name_cmp n es)) (gathered es)
  gathers es sorted = record { each = each_found es sorted; own = own_names es sorted; all = all_found es }

-- ---- the entries of a view's root

at_get : (hash : HashKind) (v : View) (inner : List ℕ → List Entry) (es : List (List ℕ × Item)) (n : List ℕ)
    → entry_at (λ m item. entry_for hash m (Some item) (loaded (v (m ∷ [])) (inner m))) (λ m item e is. filename_of hash m (Some item) (loaded (v (m ∷ [])) (inner m)) e is) n (find name_cmp n es) ≡ entry_in hash v (from_entries es) inner n
at_get hash v inner es n = go (find name_cmp n es) ∙ ap (λ o. entry_for hash n o (loaded (v (n ∷ [])) (inner n))) (sym (get-from_entries nat_list_cmp_total es n))
  where
    go : (o : Option Item) → entry_at (λ m item. entry_for hash m (Some item) (loaded (v (m ∷ [])) (inner m))) (λ m item e is. filename_of hash m (Some item) (loaded (v (m ∷ [])) (inner m)) e is) n o ≡ entry_for hash n o (loaded (v (n ∷ [])) (inner n))
    go None = refl
    go (Some item) = refl

-- What is written of a view's root, once it is gathered from the names and sorted.
pub rows_listed : (hash : HashKind) (v : View) (inner : List ℕ → List Entry) (es : List (List ℕ × Item)) (rows : List Entry) → IsStrictlySortedBy name_cmp (map (λ (e : List ℕ × Item). e.0) es)
    → IsPermutation (filter_map (λ x. entry_for hash x.0 (Some x.1) (loaded (v (x.0 ∷ [])) (inner x.0))) es) rows → IsSorted entry_cmp rows → IsListOf (entry_in hash v (from_entries es) inner) rows
rows_listed hash v inner es rows sorted moved ordered =
    subst (λ look. IsListOf look rows) (λ i n. at_get hash v inner es n i)
    (sorted_listed (λ n. entry_at entry named n (find name_cmp n es)) (filter_map (λ x. entry x.0 x.1) es) rows (gathers entry named es sorted) moved ordered)
  where
    entry : List ℕ → Item → Option Entry
    entry m item = entry_for hash m (Some item) (loaded (v (m ∷ [])) (inner m))

    named : (n : List ℕ) (item : Item) (e : Entry) → entry n item ≡ Some e → e.filename ≡ n
    named m item e is = filename_of hash m (Some item) (loaded (v (m ∷ [])) (inner m)) e is
