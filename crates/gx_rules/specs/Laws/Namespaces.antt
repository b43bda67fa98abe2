-- A full name that follows the prefix of a namespace is a full name.
use Rattle.std.proofs.Common.{◌≡◌, ◌≢◌, ℕ, zero, suc, ◌+◌, ◌-◌, true, false, not, List, [], ◌∷◌, ◌++◌, length, drop, All, codes, refl, sym, ap, subst, ◌∙◌, arith, nat_eq, append_assoc}
use Rattle.std.proofs.lemmas.Bool.{and_parts, eqb-true}
use Rattle.std.proofs.lemmas.List.{length-append}
use Rattle.std.proofs.Math.Seq.{drop-append_seam}
use Rattle.std.proofs.lemmas.List.Elements.{All-head, All-tail, All-cons, All-append}
use Rattle.std.proofs.lemmas.Slice.Eq.{bytes_eq-Decides}
use Rattle.std.specs.Str.{bytes_eq}
use Rattle.std.specs.List.{join_with_byte, list_all, flat_map}
use Rattle.gx_rules.specs.Name.{StandsAt, ForbiddenAt, is_forbidden, Nowhere, IsFullName, IsPartialName}
use Rattle.gx_rules.specs.declared.name_error.NameError.TheVariants.{SomeLowercase}
use Rattle.gx_rules.specs.Namespace.{level, namespace_prefix}
use Rattle.gx_rules.specs.Path.{Path, components}
use Rattle.gx_rules.specs.RefFormat.{Ends, IsPart, IsWellFormed}
use Rattle.gx_rules.specs.Laws.Formats.{stands_parts, stands_place, all_none, begins_back, well_formed, partial_again}
use Rattle.gx_rules.specs.Laws.Paths.{components_joined, components_of_two, components_some}

-- The rules that the parts of a name keep, where a slash parts it: all but the two on the name as a whole.
record IsInner (text : List ℕ) : Type 0 where
  parts : All IsPart (components text)
  no_range : Nowhere (StandsAt (codes "..") text)
  allowed : Nowhere (ForbiddenAt text)
  no_log : Nowhere (StandsAt (codes "@{") text)

-- ---- two bytes, neither a slash

-- they stand nowhere in two texts with a slash between them, if nowhere in each
pair_joined : (s t : ℕ) → s ≢ 47 → t ≢ 47 → (one two : List ℕ) → Nowhere (StandsAt (s ∷ t ∷ []) one) → Nowhere (StandsAt (s ∷ t ∷ []) two) → Nowhere (StandsAt (s ∷ t ∷ []) (one ++ (47 ∷ two)))
pair_joined s t p q [] two none more zero h = p (eqb-true s 47 (and_parts _ _ h).0)
pair_joined s t p q [] two none more (suc at) h = more at h
pair_joined s t p q (x ∷ []) two none more zero h = q (eqb-true t 47 (and_parts _ _ (and_parts (nat_eq s x) _ h).1).0)
pair_joined s t p q (x ∷ y ∷ one) two none more zero h = none zero h
pair_joined s t p q (x ∷ one) two none more (suc at) h = pair_joined s t p q one two (λ k. none (suc k)) more at h

-- nor in a text without the first of them
pair_none : (s t : ℕ) (xs : List ℕ) → list_all (λ x. not (nat_eq s x)) xs ≡ true → Nowhere (StandsAt (s ∷ t ∷ []) xs)
pair_none s t [] h zero = λ e. cc
pair_none s t [] h (suc at) = λ e. cc
pair_none s t (x ∷ xs) h zero = λ e.
    let other : not (nat_eq s x) ≡ true = (and_parts _ _ h).0 in
    let same : nat_eq s x ≡ true = (and_parts _ _ e).0 in
    cc
pair_none s t (x ∷ xs) h (suc at) = pair_none s t xs (and_parts _ _ h).1 at

-- what stands in the first of two texts stands in both
stands_before : (t : ℕ) (text one more : List ℕ) (at : ℕ) → StandsAt (t ∷ text) one at → StandsAt (t ∷ text) (one ++ more) at
stands_before t text one more at h =
    let parts = stands_parts t text one at h in
    let rest : List ℕ = parts.1 ++ more in
    let whole : one ++ more ≡ parts.0 ++ ((t ∷ text) ++ rest) =
    ap (λ (xs : List ℕ). xs ++ more) parts.2 ∙ append_assoc parts.0 ((t ∷ text) ++ parts.1) more ∙ ap (λ (xs : List ℕ). parts.0 ++ xs) (append_assoc (t ∷ text) parts.1 more) in
    subst (λ (xs : List ℕ). StandsAt (t ∷ text) xs at) (sym whole) (stands_place parts.0 ((t ∷ text) ++ rest) (t ∷ text) at 0 (omega (arith, parts.3)) (begins_back (t ∷ text) rest))

-- ---- forbidden bytes

allowed_joined : (one two : List ℕ) → Nowhere (ForbiddenAt one) → Nowhere (ForbiddenAt two) → Nowhere (ForbiddenAt (one ++ (47 ∷ two)))
allowed_joined [] two none more zero = λ e. cc
allowed_joined [] two none more (suc at) = more at
allowed_joined (x ∷ one) two none more zero = none zero
allowed_joined (x ∷ one) two none more (suc at) = allowed_joined one two (λ k. none (suc k)) more at

allowed_first : (one more : List ℕ) → Nowhere (ForbiddenAt (one ++ more)) → Nowhere (ForbiddenAt one)
allowed_first [] more none at = λ e. e
allowed_first (x ∷ one) more none zero = none zero
allowed_first (x ∷ one) more none (suc at) = allowed_first one more (λ k. none (suc k)) at

allowed_last : (one more : List ℕ) → Nowhere (ForbiddenAt (one ++ more)) → Nowhere (ForbiddenAt more)
allowed_last [] more none = none
allowed_last (x ∷ one) more none = allowed_last one more (λ k. none (suc k))

allowed_all : (xs : List ℕ) → list_all (λ x. not (is_forbidden x)) xs ≡ true → Nowhere (ForbiddenAt xs)
allowed_all [] h at = λ e. e
allowed_all (x ∷ xs) h zero = λ e. let other : not (is_forbidden x) ≡ true = (and_parts _ _ h).0 in cc
allowed_all (x ∷ xs) h (suc at) = allowed_all xs (and_parts _ _ h).1 at

-- ---- a name is parted

all_first : (P : List ℕ → Type 0) (one two : Path) → All P (one ++ two) → All P one
all_first P [] two all = all_none P
all_first P (name ∷ one) two all = All-cons P name one (All-head P name (one ++ two) all) (all_first P one two (All-tail P name (one ++ two) all))

all_last : (P : List ℕ → Type 0) (one two : Path) → All P (one ++ two) → All P two
all_last P [] two all = all
all_last P (name ∷ one) two all = all_last P one two (All-tail P name (one ++ two) all)

inner_first : (one two : List ℕ) → IsInner (one ++ (47 ∷ two)) → IsInner one
inner_first one two inner = record {
  parts = all_first IsPart (components one) (components two) (subst (All IsPart) (components_of_two one two) inner.parts);
  no_range = λ at h. inner.no_range at (stands_before 46 (codes ".") one (47 ∷ two) at h);
  allowed = allowed_first one (47 ∷ two) inner.allowed;
  no_log = λ at h. inner.no_log at (stands_before 64 (codes "{") one (47 ∷ two) at h);
}

inner_last : (one two : List ℕ) → IsInner (one ++ (47 ∷ two)) → IsInner two
inner_last one two inner = record {
  parts = all_last IsPart (components one) (components two) (subst (All IsPart) (components_of_two one two) inner.parts);
  no_range = λ at h. inner.no_range (length one + suc at) (stands_place one (47 ∷ two) (codes "..") (length one + suc at) (suc at) refl h);
  allowed = λ at. allowed_last one (47 ∷ two) inner.allowed (suc at);
  no_log = λ at h. inner.no_log (length one + suc at) (stands_place one (47 ∷ two) (codes "@{") (length one + suc at) (suc at) refl h);
}

inner_parts : (path : Path) → IsInner (join_with_byte 47 path) → All IsInner path
inner_parts [] inner = all_none IsInner
inner_parts (name ∷ []) inner = All-cons IsInner name [] inner (all_none IsInner)
inner_parts (name ∷ next ∷ path) inner = All-cons IsInner name (next ∷ path) (inner_first name (join_with_byte 47 (next ∷ path)) inner) (inner_parts (next ∷ path) (inner_last name (join_with_byte 47 (next ∷ path)) inner))

inner_components : (name : List ℕ) → IsWellFormed name → All IsInner (components name)
inner_components name formed = inner_parts (components name) (subst IsInner (sym (components_joined name)) (record { parts = formed.parts; no_range = formed.no_range; allowed = formed.allowed; no_log = formed.no_log }))

-- ---- names are joined

-- a text after a slash ends as it ends by itself
ends_after : (c : ℕ) (one two front : List ℕ) → c ≢ 47 → one ++ (47 ∷ two) ≡ front ++ (c ∷ []) → Ends (c ∷ []) two
ends_after c [] two [] other e = let slash : 47 ≡ c = cc in absurd (other (sym slash))
ends_after c [] two (b ∷ front) other e = (front, (let rest : two ≡ front ++ (c ∷ []) = cc in rest))
ends_after c (x ∷ one) two [] other e = absurd (joined_some one two (let none : one ++ (47 ∷ two) ≡ [] = cc in none))
  where
    joined_some : (xs more : List ℕ) → xs ++ (47 ∷ more) ≡ [] → ⊥
    joined_some [] more e = cc
    joined_some (x ∷ xs) more e = cc
ends_after c (x ∷ one) two (b ∷ front) other e = ends_after c one two front other (let rest : one ++ (47 ∷ two) ≡ front ++ (c ∷ []) = cc in rest)

some_joined : (x : ℕ) (one two : List ℕ) → one ++ (47 ∷ two) ≡ x ∷ [] → x ≢ 47 → ⊥
some_joined x [] two e other = let slash : 47 ≡ x = cc in other (sym slash)
some_joined x (b ∷ []) two e other = cc
some_joined x (b ∷ d ∷ one) two e other = cc

joined : (one two : List ℕ) → IsInner one → IsWellFormed two → IsWellFormed (one ++ (47 ∷ two))
joined one two inner formed = record {
  parts = subst (All IsPart) (sym (components_of_two one two)) (All-append IsPart (components one) (components two) inner.parts formed.parts);
  no_range = pair_joined 46 46 (λ e. cc) (λ e. cc) one two inner.no_range formed.no_range;
  allowed = allowed_joined one two inner.allowed formed.allowed;
  no_end = λ w. formed.no_end (ends_after 46 one two w.0 (λ e. cc) w.1);
  no_log = pair_joined 64 123 (λ e. cc) (λ e. cc) one two inner.no_log formed.no_log;
  not_at = λ e. some_joined 64 one two e (λ same. cc);
}

-- ---- the words of a level

no_lock : (word front : List ℕ) → bytes_eq (drop (length word - 5) word) (codes ".lock") ≡ false → word ≡ front ++ codes ".lock" → ⊥
no_lock word front other e =
    let size : length word ≡ length front + 5 = ap length e ∙ length-append front (codes ".lock") in
    let start : length word - 5 ≡ length front = omega (arith, size) in
    let end : drop (length word - 5) word ≡ codes ".lock" = ap (λ (n : ℕ). drop n word) start ∙ ap (drop (length front)) e ∙ drop-append_seam front (codes ".lock") in
    let clash : true ≡ false = sym ((bytes_eq-Decides _ _).1 end) ∙ other in
    cc

is_part : (x : ℕ) (word : List ℕ) → x ≢ 46 → bytes_eq (drop (length (x ∷ word) - 5) (x ∷ word)) (codes ".lock") ≡ false → IsPart (x ∷ word)
is_part x word other unlocked = record {
  some = λ e. cc;
  shown = λ w. let first : x ∷ word ≡ 46 ∷ w.0 = w.1 in other cc;
  unlocked = λ w. no_lock (x ∷ word) w.0 unlocked w.1;
}

one_part : (part : List ℕ) → IsPart part → All IsPart (part ∷ [])
one_part part is = All-cons IsPart part [] is (all_none IsPart)

refs_inner : IsInner (codes "refs")
refs_inner = record {
  parts = one_part (codes "refs") (is_part 114 (codes "efs") (λ e. cc) refl);
  no_range = pair_none 46 46 (codes "refs") refl;
  allowed = allowed_all (codes "refs") refl;
  no_log = pair_none 64 123 (codes "refs") refl;
}

namespaces_inner : IsInner (codes "namespaces")
namespaces_inner = record {
  parts = one_part (codes "namespaces") (is_part 110 (codes "amespaces") (λ e. cc) refl);
  no_range = pair_none 46 46 (codes "namespaces") refl;
  allowed = allowed_all (codes "namespaces") refl;
  no_log = pair_none 64 123 (codes "namespaces") refl;
}

-- ---- the prefix of a namespace

after_level : (part rest : List ℕ) → IsInner part → IsWellFormed rest → IsWellFormed (level part ++ rest)
after_level part rest inner formed =
    let front : IsWellFormed (part ++ (47 ∷ rest)) = joined part rest inner formed in
    let whole : IsWellFormed (codes "refs/namespaces/" ++ (part ++ (47 ∷ rest))) = joined (codes "refs") (codes "namespaces/" ++ (part ++ (47 ∷ rest))) refs_inner (joined (codes "namespaces") (part ++ (47 ∷ rest)) namespaces_inner front) in
    subst (λ (xs : List ℕ). IsWellFormed (codes "refs/namespaces/" ++ xs)) (sym (append_assoc part (codes "/") rest)) whole

after_levels : (path : Path) (rest : List ℕ) → All IsInner path → IsWellFormed rest → IsWellFormed (flat_map level path ++ rest)
after_levels [] rest inner formed = formed
after_levels (part ∷ path) rest inner formed =
    subst IsWellFormed (sym (append_assoc (level part) (flat_map level path) rest)) (after_level part (flat_map level path ++ rest) (All-head IsInner part path inner) (after_levels path rest (All-tail IsInner part path inner) formed))

slash_there : (path : Path) (rest : List ℕ) → path ≢ [] → StandsAt (codes "/") (flat_map level path ++ rest) 4
slash_there [] rest some = absurd (some refl)
slash_there (part ∷ path) rest some = refl

pub full_after_prefix : (name full : List ℕ) → IsPartialName name → IsFullName full → IsFullName (namespace_prefix name ++ full)
full_after_prefix name full partial whole SomeLowercase = λ low. low.0 4 (slash_there (components name) full (components_some name))
full_after_prefix name full partial whole error = partial_again (namespace_prefix name ++ full) (after_levels (components name) full (inner_components name (well_formed name partial)) (well_formed full (λ e other. whole e))) error (λ same. cc)
