-- Names that begin with a prefix stand next to each other, from the prefix on.
use Rattle.std.proofs.Common.{◌≡◌, ◌∙◌, sym, ap, refl, subst, Bool, true, false, cond, ◌&&◌, List, [], ◌∷◌, ◌++◌, ℕ, ◌<◌, Option, option_and_then, T, Some, None, is_some, map, filter, nat_eq, arith, append_assoc}
use Rattle.std.proofs.lemmas.List.{append-nil}
use Rattle.std.specs.declared.cmp.Ordering.{Ordering}
use Rattle.std.specs.declared.cmp.Ordering.TheVariants.{Less, Equal, Greater}
use Rattle.std.specs.declared.ops.Bound.TheVariants.{Included, Unbounded}
use Rattle.std.specs.Ordering.{is_le, is_eq, nat_cmp, ordering_then}
use Rattle.std.specs.Cmp.{IsTotalOrder, ranked}
use Rattle.std.specs.Cmp.Lexicographic.{nat_list_cmp_total}
use Rattle.std.specs.List.{starts_with, AllByRecursion}
use Rattle.std.specs.List.Sorted.{IsStrictlySortedBy}
use Rattle.std.specs.Map.{lookup, keys_of}
use Rattle.std.specs.BTreeMap.{is_at}
use Rattle.std.specs.BTreeMap.Range.{entries_between, range_contains}
use Rattle.std.specs.FinMap.{FinMap, IsAntisymmetric, get, put, keys, entries, entries-insert, len-entries, len-empty, empty}
use Rattle.std.proofs.lemmas.List.Kept.{IsStrictlySortedBy-filter}
use Rattle.gx_rules.specs.Name.{name_cmp}
use Rattle.gx_store.specs.Slots.{parts, with_at, target_in}
use Rattle.gx_store.specs.declared.slots.Slot.{Slot}
use Rattle.gx_store.proofs.Keys.{put_first, no_length}
use Rattle.gx_store.proofs.MapLemmas.{exact_names}
use Rattle.gx_store.proofs.SlotLemmas.{get_parts, with_at-same}

-- the keys that have a part
abbrev pub present : {K X Y : Type 0} → (X → Option Y) → List (K × X) → List K
present part [] = []
present part (e ∷ es) = cond (is_some (part e.1)) (e.0 ∷ present part es) (present part es)

-- the names with a target that begin with a prefix
abbrev pub wanted : List ℕ → List (List ℕ × Slot) → List (List ℕ)
wanted prefix es = filter (λ name. starts_with nat_eq name prefix) (present target_in es)

unfoldable pub begins : List ℕ → List ℕ → Bool
begins [] name = true
begins (p ∷ ps) [] = false
begins (p ∷ ps) (x ∷ xs) = nat_eq p x && begins ps xs

-- starts_with, byte by byte
pub starts_is : (prefix name : List ℕ) → starts_with nat_eq name prefix ≡ begins prefix name
unfolding begins
starts_is [] name = refl
starts_is (p ∷ ps) [] = refl
starts_is (p ∷ ps) (x ∷ xs) = ap (λ b. nat_eq p x && b) (starts_is ps xs)

pub both_left : (a b : Bool) → a && b ≡ true → a ≡ true
both_left true b e = refl
both_left false b e = cc

pub both_right : (a b : Bool) → a && b ≡ true → b ≡ true
both_right true b e = e
both_right false b e = cc

not_both : (a b : Bool) → (a ≡ true → b ≡ false) → a && b ≡ false
not_both true b h = h refl
not_both false b h = refl

pub same_number : (p x : ℕ) → nat_eq p x ≡ true → p ≡ x
same_number p x e = grind (arith)

apart_eq : (p x : ℕ) → x < p → nat_eq p x ≡ true → ⊥
apart_eq p x h e = let same : p ≡ x = same_number p x e in omega arith

-- a name that begins with the prefix is not below it
first_byte : (p x : ℕ) (t : Ordering) (r : Ordering) → nat_cmp p x ≡ r → nat_eq p x ≡ true → is_le t ≡ true → is_le (ordering_then r t) ≡ true
first_byte p x t Less f e h = refl
first_byte p x t Equal f e h = h
first_byte p x t Greater f e h = absurd (apart_eq p x (ranked p x Greater (sym f)) e)

begins_from : (prefix name : List ℕ) → begins prefix name ≡ true → is_le (name_cmp prefix name) ≡ true
unfolding begins
begins_from [] [] e = refl
begins_from [] (x ∷ xs) e = refl
begins_from (p ∷ ps) [] e = cc
begins_from (p ∷ ps) (x ∷ xs) e = first_byte p x (name_cmp ps xs) (nat_cmp p x) refl (both_left (nat_eq p x) _ e) (begins_from ps xs (both_right (nat_eq p x) _ e))

-- the next byte: where p is at most x and x at most y, and p is y, all are one
squeezed : (p x y : ℕ) → (r s : Ordering) → nat_cmp p x ≡ r → nat_cmp x y ≡ s → p ≡ y → (t u : Ordering) → is_le (ordering_then r t) ≡ true → ordering_then s u ≡ Less → (p ≡ x) × (is_le t ≡ true) × (u ≡ Less)
squeezed p x y Greater s e f g t u h k = cc
squeezed p x y Less Greater e f g t u h k = cc
squeezed p x y Equal Greater e f g t u h k = cc
squeezed p x y Less Less e f g t u h k = let a = ranked p x Less (sym e) in let b = ranked x y Less (sym f) in absurd (omega arith)
squeezed p x y Less Equal e f g t u h k = let a = ranked p x Less (sym e) in let b = ranked x y Equal (sym f) in absurd (omega arith)
squeezed p x y Equal Less e f g t u h k = let a = ranked p x Equal (sym e) in let b = ranked x y Less (sym f) in absurd (omega arith)
squeezed p x y Equal Equal e f g t u h k = (ranked p x Equal (sym e), h, k)

-- after a name that does not begin with the prefix, and is not below it, none does
begins_no_more : (prefix a b : List ℕ) → begins prefix a ≡ false → is_le (name_cmp prefix a) ≡ true → name_cmp a b ≡ Less → begins prefix b ≡ false
unfolding begins
begins_no_more [] a b e h k = cc
begins_no_more (p ∷ ps) [] b e h k = cc
begins_no_more (p ∷ ps) (x ∷ xs) [] e h k = refl
begins_no_more (p ∷ ps) (x ∷ xs) (y ∷ ys) e h k = not_both (nat_eq p y) (begins ps ys) (λ same.
    let s = squeezed p x y (nat_cmp p x) (nat_cmp x y) refl refl (same_number p y same) (name_cmp ps xs) (name_cmp xs ys) h k in
    begins_no_more ps xs ys (rest_fails (nat_eq p x) (begins ps xs) (equal_passes p x s.0) e) s.1 s.2)
  where
    rest_fails : (a b : Bool) → a ≡ true → a && b ≡ false → b ≡ false
    rest_fails true b f g = g
    rest_fails false b f g = cc

    equal_passes : (a b : ℕ) → a ≡ b → nat_eq a b ≡ true
    equal_passes a b f = grind (arith)

-- ---- the keys of a map of parts

given_at : {K Y : Type 0} → Option Y → K → List (K × Y) → List (K × Y)
given_at None k fs = fs
given_at (Some y) k fs = (k, y) ∷ fs

given : {K X Y : Type 0} → (X → Option Y) → List (K × X) → List (K × Y)
given part [] = []
given part (e ∷ es) = given_at (part e.1) e.0 (given part es)

all_given_at : {K Y : Type 0} (P : K → Type 0) (o : Option Y) (k : K) (fs : List (K × Y)) → P k → AllByRecursion P (map (λ e. e.0) fs) → AllByRecursion P (map (λ e. e.0) (given_at o k fs))
unfolding given_at
all_given_at P None k fs p h = h
all_given_at P (Some y) k fs p h = (p, h)

all_given : {K X Y : Type 0} (P : K → Type 0) (part : X → Option Y) (es : List (K × X)) → AllByRecursion P (keys_of es) → AllByRecursion P (map (λ e. e.0) (given part es))
unfolding given
all_given P part [] h = tt
all_given P part (e ∷ es) h = all_given_at P (part e.1) e.0 (given part es) h.0 (all_given P part es h.1)

not_found : {K X : Type 0} (R : K → K → Ordering) (k : K) (es : List (K × X)) → AllByRecursion (λ y. R k y ≡ Less) (keys_of es) → lookup (is_at (R k)) es ≡ None
not_found R k [] h = refl
not_found R k (e ∷ es) h = ap (λ r. cond (is_eq r) (Some e.1) (lookup (is_at (R k)) es)) h.0 ∙ not_found R k es h.1

one_given : {K Y : Type 0} {R : K → K → Ordering} → IsTotalOrder R → IsAntisymmetric R → (o : Option Y) (m : FinMap R Y) (k : K) (fs : List (K × Y)) → entries m ≡ fs → get m k ≡ None → AllByRecursion (λ y. R k y ≡ Less) (map (λ e. e.0) fs)
    → entries (with_at m k o) ≡ given_at o k fs
unfolding given_at
one_given total exact None m k fs e gone h = ap entries (ap (with_at m k) (sym gone) ∙ with_at-same total exact m k) ∙ e
one_given {R = R} total exact (Some y) m k fs e gone h = entries-insert total m k y ∙ ap (put R k y) e ∙ put_first R k y fs h

entries_parts : {K X Y : Type 0} {R : K → K → Ordering} → IsTotalOrder R → IsAntisymmetric R → (part : X → Option Y) (es : List (K × X)) → IsStrictlySortedBy R (keys_of es) → entries (parts {R = R} part es) ≡ given part es
unfolding IsStrictlySortedBy given
entries_parts {Y = Y} {R = R} total exact part [] h = no_length _ (sym (len-entries (empty {X = Y} {R = R})) ∙ len-empty R Y)
entries_parts {R = R} total exact part (e ∷ es) h = one_given total exact (part e.1) (parts part es) e.0 (given part es) (entries_parts total exact part es h.1)
    (get_parts total part es e.0 ∙ ap (option_and_then part) (not_found R e.0 es h.0)) (all_given (λ y. R e.0 y ≡ Less) part es h.0)

key_given : {K Y : Type 0} (o : Option Y) (k : K) (fs : List (K × Y)) (ks : List K) → map (λ e. e.0) fs ≡ ks → map (λ e. e.0) (given_at o k fs) ≡ cond (is_some o) (k ∷ ks) ks
unfolding given_at
key_given None k fs ks e = e
key_given (Some y) k fs ks e = ap (λ x. k ∷ x) e

keys_given : {K X Y : Type 0} (part : X → Option Y) (es : List (K × X)) → map (λ e. e.0) (given part es) ≡ present part es
unfolding given
keys_given part [] = refl
keys_given part (e ∷ es) = key_given (part e.1) e.0 (given part es) (present part es) (keys_given part es)

-- a map of parts has the keys that have a part
pub keys_parts : {K X Y : Type 0} {R : K → K → Ordering} → IsTotalOrder R → IsAntisymmetric R → (part : X → Option Y) (es : List (K × X)) → IsStrictlySortedBy R (keys_of es) → keys (parts {R = R} part es) ≡ present part es
keys_parts total exact part es h = ap (map (λ e. e.0)) (entries_parts total exact part es h) ∙ keys_given part es

-- the names that are listed are those that are wanted
pub listed_names : (prefix : List ℕ) (es : List (List ℕ × Slot)) → IsStrictlySortedBy name_cmp (keys_of es) → filter (λ name. starts_with nat_eq name prefix) (keys (parts {R = name_cmp} target_in es)) ≡ wanted prefix es
listed_names prefix es h = ap (filter (λ name. starts_with nat_eq name prefix)) (keys_parts nat_list_cmp_total exact_names target_in es h)

-- ---- what is wanted of a range

-- one entry more
wanted_bit : (s t : Bool) (name : List ℕ) (prefix : List ℕ) (names : List (List ℕ)) → starts_with nat_eq name prefix ≡ t
    → filter (λ name. starts_with nat_eq name prefix) (cond s (name ∷ names) names) ≡ cond (s && t) (name ∷ filter (λ name. starts_with nat_eq name prefix) names) (filter (λ name. starts_with nat_eq name prefix) names)
wanted_bit true t name prefix names e = ap (λ b. cond b (name ∷ filter (λ name. starts_with nat_eq name prefix) names) (filter (λ name. starts_with nat_eq name prefix) names)) e
wanted_bit false t name prefix names e = refl

pub wanted_more : (prefix : List ℕ) (e : List ℕ × Slot) (es : List (List ℕ × Slot)) → wanted prefix (e ∷ es) ≡ cond (is_some (target_in e.1) && starts_with nat_eq e.0 prefix) (e.0 ∷ wanted prefix es) (wanted prefix es)
wanted_more prefix e es = wanted_bit (is_some (target_in e.1)) _ e.0 prefix (present target_in es) refl

never : (s : Bool) → s && false ≡ false
never true = refl
never false = refl

wanted_less : (prefix : List ℕ) (e : List ℕ × Slot) (es : List (List ℕ × Slot)) → starts_with nat_eq e.0 prefix ≡ false → wanted prefix (e ∷ es) ≡ wanted prefix es
wanted_less prefix e es h = wanted_more prefix e es ∙ ap (λ b. cond (is_some (target_in e.1) && b) (e.0 ∷ wanted prefix es) (wanted prefix es)) h ∙ ap (λ b. cond b (e.0 ∷ wanted prefix es) (wanted prefix es)) (never (is_some (target_in e.1)))

-- a name after one that does not begin with the prefix
starts_no_more : (prefix a b : List ℕ) → starts_with nat_eq a prefix ≡ false → is_le (name_cmp prefix a) ≡ true → name_cmp a b ≡ Less → starts_with nat_eq b prefix ≡ false
starts_no_more prefix a b e h k = starts_is prefix b ∙ begins_no_more prefix a b (sym (starts_is prefix a) ∙ e) h k

none_behind : (prefix a : List ℕ) (es : List (List ℕ × Slot)) → starts_with nat_eq a prefix ≡ false → is_le (name_cmp prefix a) ≡ true → AllByRecursion (λ b. name_cmp a b ≡ Less) (keys_of es) → wanted prefix es ≡ []
none_behind prefix a [] e h k = refl
none_behind prefix a (x ∷ xs) e h k = wanted_less prefix x xs (starts_no_more prefix a x.0 e h k.0) ∙ none_behind prefix a xs e h k.1

-- the entries from the prefix on, in order
abbrev pub IsFrom : List ℕ → List (List ℕ × Slot) → Type 0
IsFrom prefix es = IsStrictlySortedBy name_cmp (keys_of es) × AllByRecursion (λ name. is_le (name_cmp prefix name) ≡ true) (keys_of es)

pub from_rest : (prefix : List ℕ) (e : List ℕ × Slot) (es : List (List ℕ × Slot)) → IsFrom prefix (e ∷ es) → IsFrom prefix es
unfolding IsStrictlySortedBy
from_rest prefix e es h = (h.0.1, h.1.1)

-- nothing more is wanted
pub wanted_end : (prefix : List ℕ) (e : List ℕ × Slot) (es : List (List ℕ × Slot)) → IsFrom prefix (e ∷ es) → starts_with nat_eq e.0 prefix ≡ false → wanted prefix (e ∷ es) ≡ []
unfolding IsStrictlySortedBy
wanted_end prefix e es h f = wanted_less prefix e es f ∙ none_behind prefix e.0 es f h.1.0 h.0.0

in_range : List ℕ → List ℕ × Slot → Bool
in_range prefix e = range_contains name_cmp (Included prefix) Unbounded e.0

all_in : (b : Bool) → b && true ≡ b
all_in true = refl
all_in false = refl

range_step : (prefix : List ℕ) (e : List ℕ × Slot) (es fs : List (List ℕ × Slot)) (b : Bool) → is_le (name_cmp prefix e.0) ≡ b → wanted prefix fs ≡ wanted prefix es → wanted prefix (cond b (e ∷ fs) fs) ≡ wanted prefix (e ∷ es)
range_step prefix e es fs true f h = wanted_more prefix e fs ∙ ap (λ names. cond (is_some (target_in e.1) && starts_with nat_eq e.0 prefix) (e.0 ∷ names) names) h ∙ sym (wanted_more prefix e es)
range_step prefix e es fs false f h = h ∙ sym (wanted_less prefix e es (no_start _ refl))
  where
    no_start : (t : Bool) → starts_with nat_eq e.0 prefix ≡ t → starts_with nat_eq e.0 prefix ≡ false
    no_start true g = absurd (subst T (sym (begins_from prefix e.0 (sym (starts_is prefix e.0) ∙ g)) ∙ f) tt)
    no_start false g = g

range_wanted : (prefix : List ℕ) (es : List (List ℕ × Slot)) → wanted prefix (entries_between name_cmp (Included prefix) Unbounded es) ≡ wanted prefix es
range_wanted prefix [] = refl
range_wanted prefix (e ∷ es) = ap (λ b. wanted prefix (cond b (e ∷ entries_between name_cmp (Included prefix) Unbounded es) (entries_between name_cmp (Included prefix) Unbounded es))) (all_in (is_le (name_cmp prefix e.0)))
    ∙ range_step prefix e es (entries_between name_cmp (Included prefix) Unbounded es) _ refl (range_wanted prefix es)

keys_range : (p : List ℕ → Bool) (es : List (List ℕ × Slot)) → keys_of (filter (λ e. p e.0) es) ≡ filter p (keys_of es)
keys_range p [] = refl
keys_range p (e ∷ es) = go (p e.0) ∙ ap (λ ks. cond (p e.0) (e.0 ∷ ks) ks) (keys_range p es)
  where
    go : (b : Bool) → keys_of (cond b (e ∷ filter (λ e. p e.0) es) (filter (λ e. p e.0) es)) ≡ cond b (e.0 ∷ keys_of (filter (λ e. p e.0) es)) (keys_of (filter (λ e. p e.0) es))
    go true = refl
    go false = refl

all_filter : (p : List ℕ → Bool) (names : List (List ℕ)) → AllByRecursion (λ name. p name ≡ true) (filter p names)
all_filter p [] = tt
all_filter p (x ∷ xs) = go (p x) refl (all_filter p xs)
  where
    go : (b : Bool) → p x ≡ b → AllByRecursion (λ name. p name ≡ true) (filter p xs) → AllByRecursion (λ name. p name ≡ true) (cond b (x ∷ filter p xs) (filter p xs))
    go true e h = (e, h)
    go false e h = h

all_le : (prefix : List ℕ) (names : List (List ℕ)) → AllByRecursion (λ name. range_contains name_cmp (Included prefix) Unbounded name ≡ true) names → AllByRecursion (λ name. is_le (name_cmp prefix name) ≡ true) names
all_le prefix [] h = tt
all_le prefix (x ∷ xs) h = (both_left _ true h.0, all_le prefix xs h.1)

-- a range begins at the prefix, and has all that is wanted
pub range_from : (prefix : List ℕ) (es rs : List (List ℕ × Slot)) → IsStrictlySortedBy name_cmp (keys_of es) → rs ≡ entries_between name_cmp (Included prefix) Unbounded es → IsFrom prefix rs × (wanted prefix rs ≡ wanted prefix es)
range_from prefix es rs h e = subst (λ xs. IsFrom prefix xs × (wanted prefix xs ≡ wanted prefix es)) (sym e) (
  (
    subst (IsStrictlySortedBy name_cmp) (sym (keys_range p es)) (IsStrictlySortedBy-filter name_cmp p (keys_of es) h),
    all_le prefix _ (subst (AllByRecursion (λ name. p name ≡ true)) (sym (keys_range p es)) (all_filter p (keys_of es))),
  ),
  range_wanted prefix es,
)
  where
    p : List ℕ → Bool
    p = range_contains name_cmp (Included prefix) Unbounded

-- ---- a loop over a range: done are the names so far, and whole are all that are wanted
module _ (prefix name : List ℕ) (slot : Slot) (all rest : List (List ℕ × Slot)) (done whole : List (List ℕ)) where
  left_after : (b : Bool) → all ≡ (name, slot) ∷ rest → IsFrom prefix all → done ++ wanted prefix all ≡ whole → is_some (target_in slot) && starts_with nat_eq name prefix ≡ b
      → IsFrom prefix rest × (done ++ cond b (name ∷ wanted prefix rest) (wanted prefix rest) ≡ whole)
  left_after b is from so e = (
    from_rest prefix (name, slot) rest (subst (IsFrom prefix) is from),
    ap (λ x. done ++ x) (sym (ap (λ xs. wanted prefix xs) is ∙ wanted_more prefix (name, slot) rest ∙ ap (λ t. cond t (name ∷ wanted prefix rest) (wanted prefix rest)) e)) ∙ so,
  )

  pub step_listed : all ≡ (name, slot) ∷ rest → IsFrom prefix all → done ++ wanted prefix all ≡ whole → starts_with nat_eq name prefix ≡ true → is_some (target_in slot) ≡ true
      → IsFrom prefix rest × ((done ++ name ∷ []) ++ wanted prefix rest ≡ whole)
  step_listed is from so e f =
      let left = left_after true is from so (ap (λ t. t && starts_with nat_eq name prefix) f ∙ e) in
      (left.0, append_assoc done (name ∷ []) (wanted prefix rest) ∙ left.1)

  pub step_past : all ≡ (name, slot) ∷ rest → IsFrom prefix all → done ++ wanted prefix all ≡ whole → is_some (target_in slot) ≡ false
      → IsFrom prefix rest × (done ++ wanted prefix rest ≡ whole)
  step_past is from so f = left_after false is from so (ap (λ t. t && starts_with nat_eq name prefix) f)

  pub step_end : all ≡ (name, slot) ∷ rest → IsFrom prefix all → done ++ wanted prefix all ≡ whole → starts_with nat_eq name prefix ≡ false → done ≡ whole
  step_end is from so e = sym (append-nil done) ∙ ap (λ x. done ++ x) (sym (ap (λ xs. wanted prefix xs) is ∙ wanted_end prefix (name, slot) rest (subst (IsFrom prefix) is from) e)) ∙ so
