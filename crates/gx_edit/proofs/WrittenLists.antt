-- Lists of entries that rise: one list has given entries.
use Rattle.std.proofs.Common.{◌≡◌, ◌∙◌, ◌⊎◌, inl, inr, sym, ap₂, refl, subst, zero, suc, List, [], ◌∷◌, ℕ, Option, Some, Contains, arith, Equal}
use Rattle.std.specs.List.{AllByRecursion}
use Rattle.std.specs.List.Sorted.{IsStrictlySortedBy}
use Rattle.std.specs.declared.cmp.Ordering.TheVariants.{Less}
use Rattle.std.specs.Cmp.{IsTotalOrder, tied_itself, then_total, on_total}
use Rattle.std.specs.Cmp.Lexicographic.{nat_list_cmp_total}
use Rattle.gx_object.specs.declared.tree.Entry.{Entry}
use Rattle.gx_object.specs.Tree.{sort_key}
use Rattle.gx_edit.specs.Written.{entry_cmp, IsListOf}

-- ---- elements of a list

pub first_or_later : {A : Type 0} (y x : A) (ys : List A) → Contains (y ∷ ys) x → (y ≡ x) ⊎ Contains ys x
first_or_later y x ys (zero, less, is) = inl is
first_or_later y x ys (suc k, less, is) = inr (k, omega (arith, less), is)

pub none_in : {A : Type 0} (x : A) → Contains [] x → ⊥
none_in x (k, less, is) = absurd (omega (arith, less))

pub in_first : {A : Type 0} (x : A) (xs : List A) → Contains (x ∷ xs) x
in_first x xs = (0, omega arith, refl)

pub in_later : {A : Type 0} (y x : A) (xs : List A) → Contains xs x → Contains (y ∷ xs) x
in_later y x xs h = (suc h.0, (let less = h.1 in omega (arith, less)), h.2)

pub all_at : {A : Type 0} (P : A → Type 0) (xs : List A) (x : A) → AllByRecursion P xs → Contains xs x → P x
all_at P [] x all h = absurd (none_in x h)
all_at P (y ∷ xs) x all h = go (first_or_later y x xs h) (λ later. all_at P xs x all.1 later)
  where
    go : (y ≡ x) ⊎ Contains xs x → (Contains xs x → P x) → P x
    go (inl is) more = subst P is all.0
    go (inr later) more = more later

pub all_of : {A : Type 0} (P : A → Type 0) (xs : List A) → ((x : A) → Contains xs x → P x) → AllByRecursion P xs
all_of P [] each = tt
all_of P (x ∷ xs) each = (each x (in_first x xs), all_of P xs (λ y h. each y (in_later x y xs h)))

-- ---- lists that rise

pub entry_total : IsTotalOrder entry_cmp
entry_total = then_total (on_total sort_key nat_list_cmp_total) (on_total (λ (e : Entry). e.filename) nat_list_cmp_total)

pub not_below_itself : (a : Entry) → entry_cmp a a ≡ Less → ⊥
not_below_itself a h = let e : entry_cmp a a ≡ Equal = tied_itself entry_total a in cc

below_chain : (a b c : Entry) → entry_cmp a b ≡ Less → entry_cmp b c ≡ Less → entry_cmp a c ≡ Less
below_chain a b c = entry_total.trans a b c

abbrev Rise : List Entry → Type 0
Rise = IsStrictlySortedBy entry_cmp

abbrev IsWithin : List Entry → List Entry → Type 0
IsWithin xs ys = (e : Entry) → Contains xs e → Contains ys e

-- the first entries of two lists with the same entries are one
one_first : (x y : Entry) (xs ys : List Entry) → AllByRecursion (λ z. entry_cmp x z ≡ Less) xs → AllByRecursion (λ z. entry_cmp y z ≡ Less) ys → Contains (y ∷ ys) x → Contains (x ∷ xs) y → x ≡ y
one_first x y xs ys above_x above_y a b = go (first_or_later y x ys a) (first_or_later x y xs b)
  where
    go : (y ≡ x) ⊎ Contains ys x → (x ≡ y) ⊎ Contains xs y → x ≡ y
    go (inl is) other = sym is
    go (inr later) (inl is) = is
    go (inr later) (inr after) = absurd (not_below_itself x (below_chain x y x (all_at _ xs y above_x after) (all_at _ ys x above_y later)))

-- and those after them are the same
rest_within : (x : Entry) (xs ys : List Entry) → AllByRecursion (λ z. entry_cmp x z ≡ Less) xs → IsWithin (x ∷ xs) (x ∷ ys) → IsWithin xs ys
rest_within x xs ys above within e h = go (first_or_later x e ys (within e (in_later x e xs h)))
  where
    go : (x ≡ e) ⊎ Contains ys e → Contains ys e
    go (inl is) = absurd (not_below_itself x (subst (λ z. entry_cmp x z ≡ Less) (sym is) (all_at _ xs e above h)))
    go (inr later) = later

pub same_lists : (xs ys : List Entry) → Rise xs → Rise ys → IsWithin xs ys → IsWithin ys xs → xs ≡ ys
unfolding IsStrictlySortedBy
same_lists [] [] a b f g = refl
same_lists [] (y ∷ ys) a b f g = absurd (none_in y (g y (in_first y ys)))
same_lists (x ∷ xs) [] a b f g = absurd (none_in x (f x (in_first x xs)))
same_lists (x ∷ xs) (y ∷ ys) a b f g =
    let is : x ≡ y = one_first x y xs ys a.0 b.0 (f x (in_first x xs)) (g y (in_first y ys)) in
    let above : AllByRecursion (λ z. entry_cmp x z ≡ Less) ys = subst (λ w. AllByRecursion (λ z. entry_cmp w z ≡ Less) ys) (sym is) b.0 in
    let forth : IsWithin (x ∷ xs) (x ∷ ys) = subst (λ w. IsWithin (x ∷ xs) (w ∷ ys)) (sym is) f in
    let back : IsWithin (x ∷ ys) (x ∷ xs) = subst (λ w. IsWithin (w ∷ ys) (x ∷ xs)) (sym is) g in
    ap₂ (λ (e : Entry) (es : List Entry). e ∷ es) is (same_lists xs ys a.1 b.1 (rest_within x xs ys a.0 forth) (rest_within x ys xs above back))

-- one list has the entries that stand at names
pub one_list : (f g : List ℕ → Option Entry) (xs ys : List Entry) → IsListOf f xs → IsListOf g ys → ((n : List ℕ) → f n ≡ g n) → xs ≡ ys
one_list f g xs ys a b same = same_lists xs ys a.rising b.rising
    (λ e h. b.all e.filename e (sym (same e.filename) ∙ all_at (λ (x : Entry). f x.filename ≡ Some x) xs e a.each h))
    (λ e h. a.all e.filename e (same e.filename ∙ all_at (λ (x : Entry). g x.filename ≡ Some x) ys e b.each h))
