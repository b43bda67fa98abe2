-- The names of a listing: those within a namespace, in order.
use Rattle.std.proofs.Common.{◌≡◌, ◌∙◌, sym, ap, refl, subst, ℕ, zero, suc, ◌+◌, ◌<◌, Bool, true, false, cond, ◌&&◌, ◌||◌, T, List, [], ◌∷◌, ◌++◌, map, length, take, drop, get_or, filter, nat_eq, eq-eqb, Option, Some, None, IfSome, IsSome, inl, inr, ◌⊎◌, Contains, arith, IsTrue, is_some}
use Rattle.std.specs.Cmp.{tied_itself}
use Rattle.std.specs.Cmp.Lexicographic.{texts_ties, nat_list_cmp_total}
use Rattle.std.specs.FinMap.{FinMap, get, keys, entries, entries_sorted, contains_key-keys}
use Rattle.std.specs.FinMap.Entries.{below_all, is_sorted}
use Rattle.std.specs.List.{starts_with, AllByRecursion, list_any}
use Rattle.std.specs.List.Sorted.{IsStrictlySortedBy}
use Rattle.std.specs.Ordering.{eq_by_cmp, is_lt, ordering_then, ordering_reverse}
use Rattle.std.specs.Str.{bytes_eq}
use Rattle.std.specs.declared.cmp.Ordering.{Ordering}
use Rattle.std.specs.declared.cmp.Ordering.TheVariants.{Less, Equal, Greater}
use Rattle.std.proofs.Math.Seq.{drop-append_seam}
use Rattle.std.proofs.lemmas.Cmp.{nat_cmp_total}
use Rattle.std.proofs.lemmas.List.{take_more}
use Rattle.std.proofs.lemmas.List.Kept.{IsStrictlySortedBy-filter}
use Rattle.gx_rules.specs.Name.{name_cmp, IsFullName}
use Rattle.gx_rules.specs.Namespace.{IsWithin}
use Rattle.gx_store.specs.Listing as store_listing
use Rattle.gx_store.specs.State.{RefState}
use Rattle.gx_store.specs.declared.target.Target.{Target}
use Rattle.gx_refs.specs.EditLaws.{ListsItsOwn}
use Rattle.gx_refs.specs.Finding.{IsListed, IsListing}
use Rattle.gx_refs.specs.Listed.{KeepsWithin}
use Rattle.gx_refs.proofs.NameLemmas.{same_name, own_name}

pub keep_more : (space : List ℕ) (ks names : List (List ℕ)) (k short : List ℕ) → KeepsWithin space ks names → IsWithin space k short → KeepsWithin space (ks ++ k ∷ []) (names ++ short ∷ [])
keep_more space [] names k short e w = inl (short, [], w, ap (λ xs. xs ++ short ∷ []) e, refl)
keep_more space (x ∷ ks) names k short (inl (s, rest, v, e, more)) w = inl (s, rest ++ short ∷ [], v, ap (λ xs. xs ++ short ∷ []) e, keep_more space ks rest k short more w)
keep_more space (x ∷ ks) names k short (inr (none, more)) w = inr (none, keep_more space ks names k short more w)

pub keep_same : (space : List ℕ) (ks names : List (List ℕ)) (k : List ℕ) → KeepsWithin space ks names → ((rest : List ℕ) → ¬ IsWithin space k rest) → KeepsWithin space (ks ++ k ∷ []) names
keep_same space [] names k e none = inr (none, e)
keep_same space (x ∷ ks) names k (inl (s, rest, v, e, more)) none = inl (s, rest, v, e, keep_same space ks rest k more none)
keep_same space (x ∷ ks) names k (inr (n, more)) none = inr (n, keep_same space ks names k more none)

pub one_name_more : (space : List ℕ) (ks names : List (List ℕ)) (i : ℕ) (k : List ℕ) → i < length ks → k ≡ get_or ks i k → KeepsWithin space (take i ks ++ k ∷ []) names → KeepsWithin space (take (i + 1) ks) names
one_name_more space ks names i k h is w = subst (λ xs. KeepsWithin space xs names) (sym (take_more ks i k h ∙ ap (λ x. take i ks ++ x ∷ []) (sym is))) w

-- ---- prefixes

unlike : (b : Bool) → b ≡ true → b ≡ false → ⊥
unlike b e f = let no : true ≡ false = sym e ∙ f in cc

-- a namespace's prefix before both
behind_space : (space prefix name : List ℕ) → starts_with nat_eq (space ++ name) (space ++ prefix) ≡ starts_with nat_eq name prefix
behind_space [] prefix name = refl
behind_space (x ∷ space) prefix name = ap (λ b. b && starts_with nat_eq (space ++ name) (space ++ prefix)) (eq-eqb x x refl) ∙ behind_space space prefix name

same_order : (space a b : List ℕ) → name_cmp (space ++ a) (space ++ b) ≡ name_cmp a b
same_order [] a b = refl
same_order (x ∷ space) a b = ap (λ o. ordering_then o (name_cmp (space ++ a) (space ++ b))) (tied_itself nat_cmp_total x) ∙ same_order space a b

-- ---- keys

is_less : (o : Ordering) → T (is_lt o) → o ≡ Less
is_less Less p = refl
is_less Equal p = absurd p
is_less Greater p = absurd p

one : (a b : Bool) → T (a && b) → T a
one true b p = tt
one false b p = p

other : (a b : Bool) → T (a && b) → T b
other true b p = p
other false b p = absurd p

rise_after : {X : Type 0} (k : List ℕ) (es : List (List ℕ × X)) → T (below_all name_cmp k es) → AllByRecursion (λ y. name_cmp k y ≡ Less) (map (λ e. e.0) es)
rise_after k [] h = tt
rise_after k (e ∷ es) h = (is_less (name_cmp k e.0) (one _ _ h), rise_after k es (other _ _ h))

rise : {X : Type 0} (es : List (List ℕ × X)) → T (is_sorted name_cmp es) → IsStrictlySortedBy name_cmp (map (λ e. e.0) es)
unfolding IsStrictlySortedBy
rise [] h = tt
rise (e ∷ es) h = (rise_after e.0 es (one _ _ h), rise es (other _ _ h))

keys_rise : {X : Type 0} (m : FinMap name_cmp X) → IsStrictlySortedBy name_cmp (keys m)
keys_rise m = rise (entries m) (entries_sorted m)

contains_later : (k x : List ℕ) (xs : List (List ℕ)) → Contains xs x → Contains (k ∷ xs) x
contains_later k x xs (i, less, is) = (suc i, omega (arith, less), is)

contains_parts : (k x : List ℕ) (xs : List (List ℕ)) → Contains (k ∷ xs) x → (k ≡ x) ⊎ Contains xs x
contains_parts k x xs (zero, less, is) = inl is
contains_parts k x xs (suc i, less, is) = inr (i, omega (arith, less), is)

any_there : (q : List ℕ) (ks : List (List ℕ)) → list_any (eq_by_cmp name_cmp q) ks ≡ true → Contains ks q
any_there q [] h = let no : false ≡ true = h in cc
any_there q (k ∷ ks) h = go (bytes_eq q k) refl (any_there q ks)
  where
    go : (t : Bool) → bytes_eq q k ≡ t → (list_any (eq_by_cmp name_cmp q) ks ≡ true → Contains ks q) → Contains (k ∷ ks) q
    go true e rest = (zero, omega arith, sym (same_name q k e))
    go false e rest = contains_later k q ks (rest (sym (ap (λ b. b || list_any (eq_by_cmp name_cmp q) ks) (sym (texts_ties q k) ∙ e)) ∙ h))

there_any : (q : List ℕ) (ks : List (List ℕ)) → Contains ks q → list_any (eq_by_cmp name_cmp q) ks ≡ true
there_any q [] (i, less, is) = absurd (omega (arith, less))
there_any q (k ∷ ks) at = go (contains_parts k q ks at) (there_any q ks)
  where
    right : (a b : Bool) → b ≡ true → (a || b) ≡ true
    right true b e = refl
    right false b e = e

    go : (k ≡ q) ⊎ Contains ks q → (Contains ks q → list_any (eq_by_cmp name_cmp q) ks ≡ true) → list_any (eq_by_cmp name_cmp q) (k ∷ ks) ≡ true
    go (inl e) later = ap (λ b. b || list_any (eq_by_cmp name_cmp q) ks) (sym (texts_ties q k) ∙ ap (bytes_eq q) e ∙ own_name q)
    go (inr c) later = right (eq_by_cmp name_cmp q k) _ (later c)

-- ---- filtered names

filter_from : (p : List ℕ → Bool) (ks : List (List ℕ)) (k : List ℕ) → Contains (filter p ks) k → Contains ks k × (p k ≡ true)
filter_from p [] k (i, less, is) = absurd (omega (arith, less))
filter_from p (x ∷ ks) k at = go (p x) refl (filter_from p ks k) at
  where
    first : p x ≡ true → (x ≡ k) ⊎ Contains (filter p ks) k → (Contains (filter p ks) k → Contains ks k × (p k ≡ true)) → Contains (x ∷ ks) k × (p k ≡ true)
    first e (inl same) later = ((zero, omega arith, same), ap p (sym same) ∙ e)
    first e (inr c) later = let r = later c in (contains_later x k ks r.0, r.1)

    go : (t : Bool) → p x ≡ t → (Contains (filter p ks) k → Contains ks k × (p k ≡ true)) → Contains (cond t (x ∷ filter p ks) (filter p ks)) k → Contains (x ∷ ks) k × (p k ≡ true)
    go true e later c = first e (contains_parts x k (filter p ks) c) later
    go false e later c = let r = later c in (contains_later x k ks r.0, r.1)

filter_to : (p : List ℕ → Bool) (ks : List (List ℕ)) (k : List ℕ) → Contains ks k → p k ≡ true → Contains (filter p ks) k
filter_to p [] k (i, less, is) e = absurd (omega (arith, less))
filter_to p (x ∷ ks) k at e = go (p x) refl (contains_parts x k ks at) (λ c. filter_to p ks k c e)
  where
    go : (t : Bool) → p x ≡ t → (x ≡ k) ⊎ Contains ks k → (Contains ks k → Contains (filter p ks) k) → Contains (cond t (x ∷ filter p ks) (filter p ks)) k
    go true h (inl same) later = (zero, omega arith, same)
    go true h (inr c) later = contains_later x k (filter p ks) (later c)
    go false h (inl same) later = absurd (unlike (p x) (ap p same ∙ e) h)
    go false h (inr c) later = later c

-- ---- kept names

kept_from : (space : List ℕ) (ks names : List (List ℕ)) (n : List ℕ) → KeepsWithin space ks names → Contains names n → (k : List ℕ) × Contains ks k × IsWithin space k n
kept_from space [] names n e at = let none : Contains [] n = subst (λ xs. Contains xs n) e at in absurd (omega (arith, none.1))
kept_from space (x ∷ ks) names n (inl (s, rest, w, e, more)) at = go (contains_parts s n rest (subst (λ xs. Contains xs n) e at)) (kept_from space ks rest n more)
  where
    go : (s ≡ n) ⊎ Contains rest n → (Contains rest n → (k : List ℕ) × Contains ks k × IsWithin space k n) → (k : List ℕ) × Contains (x ∷ ks) k × IsWithin space k n
    go (inl same) later = (x, (zero, omega arith, refl), subst (IsWithin space x) same w)
    go (inr c) later = let r = later c in (r.0, contains_later x r.0 ks r.1, r.2)
kept_from space (x ∷ ks) names n (inr (none, more)) at = let r = kept_from space ks names n more at in (r.0, contains_later x r.0 ks r.1, r.2)

pub one_rest : (space a b : List ℕ) → space ++ a ≡ space ++ b → a ≡ b
one_rest space a b e = sym (drop-append_seam space a) ∙ ap (drop (length space)) e ∙ drop-append_seam space b

kept_to : (space : List ℕ) (ks names : List (List ℕ)) (k n : List ℕ) → KeepsWithin space ks names → Contains ks k → IsWithin space k n → Contains names n
kept_to space [] names k n e (i, less, is) w = absurd (omega (arith, less))
kept_to space (x ∷ ks) names k n (inl (s, rest, v, e, more)) at w = subst (λ xs. Contains xs n) (sym e) (go (contains_parts x k ks at) (λ c. kept_to space ks rest k n more c w))
  where
    go : (x ≡ k) ⊎ Contains ks k → (Contains ks k → Contains rest n) → Contains (s ∷ rest) n
    go (inl same) later = (zero, omega arith, one_rest space s n (sym v.0 ∙ same ∙ w.0))
    go (inr c) later = contains_later s n rest (later c)
kept_to space (x ∷ ks) names k n (inr (none, more)) at w = go (contains_parts x k ks at) (λ c. kept_to space ks names k n more c w)
  where
    go : (x ≡ k) ⊎ Contains ks k → (Contains ks k → Contains names n) → Contains names n
    go (inl same) later = absurd (none n (subst (λ y. IsWithin space y n) (sym same) w))
    go (inr c) later = later c

kept_above : (space s : List ℕ) (ks names : List (List ℕ)) → AllByRecursion (λ y. name_cmp (space ++ s) y ≡ Less) ks → KeepsWithin space ks names → AllByRecursion (λ y. name_cmp s y ≡ Less) names
kept_above space s [] names a e = subst (AllByRecursion (λ y. name_cmp s y ≡ Less)) (sym e) tt
kept_above space s (x ∷ ks) names a (inl (t, rest, w, e, more)) =
    subst (AllByRecursion (λ y. name_cmp s y ≡ Less)) (sym e) (sym (same_order space s t) ∙ ap (name_cmp (space ++ s)) (sym w.0) ∙ a.0, kept_above space s ks rest a.1 more)
kept_above space s (x ∷ ks) names a (inr (none, more)) = kept_above space s ks names a.1 more

kept_rise : (space : List ℕ) (ks names : List (List ℕ)) → IsStrictlySortedBy name_cmp ks → KeepsWithin space ks names → IsStrictlySortedBy name_cmp names
unfolding IsStrictlySortedBy
kept_rise space [] names r e = subst (IsStrictlySortedBy name_cmp) (sym e) tt
kept_rise space (x ∷ ks) names r (inl (s, rest, w, e, more)) =
    subst (IsStrictlySortedBy name_cmp) (sym e) (kept_above space s ks rest (subst (λ y. AllByRecursion (λ z. name_cmp y z ≡ Less) ks) w.0 r.0) more, kept_rise space ks rest r.1 more)
kept_rise space (x ∷ ks) names r (inr (none, more)) = kept_rise space ks names r.1 more

pub lists : (space prefix from : List ℕ) (targets : FinMap name_cmp Target) (stored names : List (List ℕ)) → from ≡ space ++ prefix → stored ≡ filter (λ name. starts_with nat_eq name from) (keys targets) → KeepsWithin space stored names → IsListing space prefix targets names
lists space prefix from targets stored names f is kept = record {
  each = λ name. (listed name, names_it name);
  rising = kept_rise space stored names (subst (IsStrictlySortedBy name_cmp) (sym is) (IsStrictlySortedBy-filter name_cmp (λ name. starts_with nat_eq name from) (keys targets) (keys_rise targets))) kept;
}
  where
    listed : (name : List ℕ) → Contains names name → IsListed space prefix targets name
    listed name at =
        let r = kept_from space stored names name kept at in
        let q = filter_from (λ n. starts_with nat_eq n from) (keys targets) r.0 (subst (λ xs. Contains xs r.0) is r.1) in
        record {
          begins = sym (behind_space space prefix name) ∙ ap (λ n. starts_with nat_eq n (space ++ prefix)) (sym r.2.0) ∙ ap (starts_with nat_eq r.0) (sym f) ∙ q.1;
          full = r.2.1;
          there = subst (λ n. IsSome (get targets n)) r.2.0 (contains_key-keys targets r.0 ∙ there_any r.0 (keys targets) q.0);
        }

    names_it : (name : List ℕ) → IsListed space prefix targets name → Contains names name
    names_it name l =
        let k : List ℕ = space ++ name in
        let at : Contains (keys targets) k = any_there k (keys targets) (sym (contains_key-keys targets k) ∙ l.there) in
        let begins : starts_with nat_eq k from ≡ true = ap (starts_with nat_eq k) f ∙ behind_space space prefix name ∙ l.begins in
        kept_to space stored names k name kept (subst (λ xs. Contains xs k) (sym is) (filter_to (λ n. starts_with nat_eq n from) (keys targets) k at begins)) (refl, l.full)

kept_begin : (space prefix : List ℕ) (ks names : List (List ℕ)) → AllByRecursion (λ k. IsTrue (starts_with nat_eq k (space ++ prefix))) ks → KeepsWithin space ks names → AllByRecursion (λ n. IsTrue (starts_with nat_eq n prefix)) names
kept_begin space prefix [] names a e = subst (AllByRecursion (λ n. IsTrue (starts_with nat_eq n prefix))) (sym e) tt
kept_begin space prefix (x ∷ ks) names a (inl (s, rest, w, e, more)) =
    subst (AllByRecursion (λ n. IsTrue (starts_with nat_eq n prefix))) (sym e) (sym (behind_space space prefix s) ∙ ap (λ n. starts_with nat_eq n (space ++ prefix)) (sym w.0) ∙ a.0, kept_begin space prefix ks rest a.1 more)
kept_begin space prefix (x ∷ ks) names a (inr (none, more)) = kept_begin space prefix ks names a.1 more

-- the names that any store lists, cut
pub cut_listing : (space prefix from : List ℕ) (stored names : List (List ℕ)) → from ≡ space ++ prefix → store_listing.IsListing from stored → KeepsWithin space stored names → store_listing.IsListing prefix names
cut_listing space prefix from stored names f is kept = record {
  prefixed = kept_begin space prefix stored names (subst (λ p. AllByRecursion (λ k. IsTrue (starts_with nat_eq k p)) stored) f is.prefixed) kept;
  rising = kept_rise space stored names is.rising kept;
}

pub told_lists : (space prefix from : List ℕ) (told : Option RefState) (stored names : List (List ℕ)) → from ≡ space ++ prefix → IfSome told (λ refs. stored ≡ filter (λ name. starts_with nat_eq name from) (keys refs.targets)) → KeepsWithin space stored names → IfSome told (λ refs. IsListing space prefix refs.targets names)
told_lists space prefix from None stored names f is kept = tt
told_lists space prefix from (Some refs) stored names f is kept = lists space prefix from refs.targets stored names f is kept

-- ---- one listing

-- no name is less than another that is less than it
not_both : (x y : List ℕ) → name_cmp x y ≡ Less → name_cmp y x ≡ Less → ⊥
not_both x y a b =
    let clash : Less ≡ Greater = sym a ∙ nat_list_cmp_total.antisymm x y ∙ ap ordering_reverse b in
    cc

less_at : (x n : List ℕ) (xs : List (List ℕ)) → AllByRecursion (λ y. name_cmp x y ≡ Less) xs → Contains xs n → name_cmp x n ≡ Less
less_at x n [] a (i, less, is) = absurd (omega (arith, less))
less_at x n (y ∷ xs) a at = go (contains_parts y n xs at) (λ c. less_at x n xs a.1 c)
  where
    go : (y ≡ n) ⊎ Contains xs n → (Contains xs n → name_cmp x n ≡ Less) → name_cmp x n ≡ Less
    go (inl same) later = subst (λ z. name_cmp x z ≡ Less) same a.0
    go (inr c) later = later c

-- rising lists of the same names are one list
one_rising : (xs ys : List (List ℕ)) → IsStrictlySortedBy name_cmp xs → IsStrictlySortedBy name_cmp ys → ((n : List ℕ) → Contains xs n → Contains ys n) → ((n : List ℕ) → Contains ys n → Contains xs n) → xs ≡ ys
unfolding IsStrictlySortedBy
one_rising [] [] a b to back = refl
one_rising [] (y ∷ ys) a b to back = let r = back y (zero, omega arith, refl) in absurd (omega (arith, r.1))
one_rising (x ∷ xs) [] a b to back = let r = to x (zero, omega arith, refl) in absurd (omega (arith, r.1))
one_rising (x ∷ xs) (y ∷ ys) a b to back =
    ap (λ z. z ∷ xs) heads ∙ ap (λ zs. y ∷ zs) (one_rising xs ys a.1 b.1 (λ n c. later x y xs ys n heads a.0 c (to n (contains_later x n xs c))) (λ n c. later y x ys xs n (sym heads) b.0 c (back n (contains_later y n ys c))))
  where
    first : (y ≡ x) ⊎ Contains ys x → (x ≡ y) ⊎ Contains xs y → x ≡ y
    first (inl same) other = sym same
    first (inr c) (inl same) = same
    first (inr c) (inr d) = absurd (not_both x y (less_at x y xs a.0 d) (less_at y x ys b.0 c))

    heads : x ≡ y
    heads = first (contains_parts y x ys (to x (zero, omega arith, refl))) (contains_parts x y xs (back y (zero, omega arith, refl)))

    later : (u v : List ℕ) (us vs : List (List ℕ)) (n : List ℕ) → u ≡ v → AllByRecursion (λ z. name_cmp u z ≡ Less) us → Contains us n → Contains (v ∷ vs) n → Contains vs n
    later u v us vs n same above c d = go (contains_parts v n vs d)
      where
        go : (v ≡ n) ⊎ Contains vs n → Contains vs n
        go (inr e) = e
        go (inl e) =
            let less : name_cmp u n ≡ Less = less_at u n us above c in
            let own : name_cmp n n ≡ Less = subst (λ z. name_cmp z n ≡ Less) (same ∙ e) less in
            absurd (not_both n n own own)

pub lists_its_own : ListsItsOwn
lists_its_own space prefix one other names others same a b =
    one_rising names others a.rising b.rising
    (λ n c. (b.each n).1 (turn one other (λ name full. same name full) n ((a.each n).0 c)))
    (λ n c. (a.each n).1 (turn other one (λ name full. sym (same name full)) n ((b.each n).0 c)))
  where
    turn : (from to : FinMap name_cmp Target) → ((name : List ℕ) → IsFullName name → is_some (get from (space ++ name)) ≡ is_some (get to (space ++ name))) → (n : List ℕ) → IsListed space prefix from n → IsListed space prefix to n
    turn from to alike n l = record { begins = l.begins; full = l.full; there = sym (alike n l.full) ∙ l.there }
