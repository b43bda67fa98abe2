-- The names on the generator's paths may be checked out anywhere.
use Rattle.std.proofs.Common.{◌≡◌, ap, refl, subst, arith, ℕ, zero, suc, ◌<◌, ◌≤◌, Bool, true, false, not, ◌&&◌, ◌||◌, ◌==◌, eq-eqb, inl, inr, List, [], ◌∷◌, codes, decimal, bytes_eq, Contains, IsTrue, if◌then◌else◌}
use Rattle.std.specs.List.{list_any}
use Rattle.std.specs.Fmt.{digits}
use Rattle.std.proofs.lemmas.Bool.{and_parts, cases_lt}
use Rattle.gx_rules.specs.Component.{IsComponent, ends_loosely, is_device, is_dot_git, is_illegal, is_one_of, without_ignorable}
use Rattle.gx_rules.specs.declared.component_error.ComponentError.TheVariants as rule
use Rattle.gx_rules.specs.declared.component_rules.Protect.{Protect}

-- the name may be checked out, and holds no zero byte
abbrev pub IsFit : Protect → List ℕ → Type 0
IsFit protect name = IsComponent name false protect × (Contains name 0 → ⊥)

-- the same as a test, with all protections
fits : List ℕ → Bool
fits name =
    not (bytes_eq name []) && (not (is_one_of name 47) && (not (is_one_of name 0) && (not (bytes_eq name (codes ".")) && (not (bytes_eq name (codes ".."))
    && (not (is_dot_git true name) && (not (is_dot_git true (without_ignorable name)) && (not (list_any is_illegal name || ends_loosely name) && not (is_device name))))))))

-- ---- tests

none : (t : Bool) → not t ≡ true → t ≡ true → ⊥
none true h e = cc
none false h e = cc

bytes_same : (name : List ℕ) → bytes_eq name name ≡ true
bytes_same [] = refl
bytes_same (b ∷ name) = both (b == b) (bytes_eq name name) (eq-eqb b b refl) (bytes_same name)
  where
    both : (s t : Bool) → s ≡ true → t ≡ true → (s && t) ≡ true
    both true t h e = e
    both false t h e = absurd cc

or_right : (s t : Bool) → t ≡ true → (s || t) ≡ true
or_right true t h = refl
or_right false t h = h

or_left : (s t : Bool) → s ≡ true → (s || t) ≡ true
or_left true t h = refl
or_left false t h = absurd cc

has_byte : (name : List ℕ) (byte : ℕ) → Contains name byte → is_one_of name byte ≡ true
has_byte [] byte (k, less, at) = absurd (omega (arith, less))
has_byte (b ∷ name) byte (zero, less, at) = or_left (b == byte) (is_one_of name byte) (eq-eqb b byte at)
has_byte (b ∷ name) byte (suc k, less, at) = or_right (b == byte) (is_one_of name byte) (has_byte name byte (k, omega (arith, less), at))

is_true : (t : Bool) → IsTrue t → t ≡ true
is_true true h = refl
is_true false h = absurd cc

-- what is `.git` without the spellings of NTFS is so with them
more_dot_git : (ntfs : Bool) (name : List ℕ) → is_dot_git ntfs name ≡ true → is_dot_git true name ≡ true
more_dot_git true name h = h
more_dot_git false name h = go _ _ h
  where
    go : (s t : Bool) → (s || (false && t)) ≡ true → (s || (true && t)) ≡ true
    go true t h = refl
    go false t h = absurd cc

windows : (w t : Bool) → not t ≡ true → IsTrue (w && t) → ⊥
windows true t e h = none t e (is_true t h)
windows false t e h = absurd cc

module _ (name : List ℕ) (some : not (bytes_eq name []) ≡ true) (slash : not (is_one_of name 47) ≡ true) (dot : not (bytes_eq name (codes ".")) ≡ true) (dots : not (bytes_eq name (codes "..")) ≡ true)
    (plain : not (is_dot_git true name) ≡ true) (hidden : not (is_dot_git true (without_ignorable name)) ≡ true) (legal : not (list_any is_illegal name || ends_loosely name) ≡ true) (device : not (is_device name) ≡ true) where
  seen_fits : (hfs ntfs : Bool) → IsTrue (is_dot_git ntfs (if hfs then without_ignorable name else name)) → ⊥
  seen_fits true ntfs h = none _ hidden (more_dot_git ntfs (without_ignorable name) (is_true _ h))
  seen_fits false ntfs h = none _ plain (more_dot_git ntfs name (is_true _ h))

  keeps : (protect : Protect) → IsComponent name false protect
  keeps protect rule.Empty = λ e. none (bytes_eq name []) some (ap (λ n. bytes_eq n []) e)
  keeps protect rule.PathSeparator = λ c. none (is_one_of name 47) slash (has_byte name 47 c)
  keeps protect rule.Relative = λ h. elim h [
    | inl e ↦ none (bytes_eq name (codes ".")) dot (ap (λ n. bytes_eq n (codes ".")) e)
    | inr e ↦ none (bytes_eq name (codes "..")) dots (ap (λ n. bytes_eq n (codes "..")) e)
  ]
  keeps protect rule.DotGitDir = λ h. seen_fits protect.hfs protect.ntfs h
  keeps protect rule.SymlinkedGitModules = λ h. absurd cc
  keeps protect rule.WindowsIllegal = λ h. windows protect.windows _ legal h
  keeps protect rule.WindowsReserved = λ h. windows protect.windows _ device h

fit : (protect : Protect) (name : List ℕ) → fits name ≡ true → IsFit protect name
unfolding fits
fit protect name h =
    let p1 = and_parts _ _ h in
    let p2 = and_parts _ _ p1.1 in
    let p3 = and_parts _ _ p2.1 in
    let p4 = and_parts _ _ p3.1 in
    let p5 = and_parts _ _ p4.1 in
    let p6 = and_parts _ _ p5.1 in
    let p7 = and_parts _ _ p6.1 in
    let p8 = and_parts _ _ p7.1 in
    (keeps name p1.0 p2.0 p4.0 p5.0 p6.0 p7.0 p8.0 p8.1 protect, λ c. none (is_one_of name 0) p3.0 (has_byte name 0 c))

-- ---- each of the numbers below a limit

holds_below : (ℕ → Bool) → ℕ → Bool
holds_below test zero = true
holds_below test (suc n) = test n && holds_below test n

last : (k n : ℕ) → k < suc n → n ≤ k → n ≡ k
last k n less above = omega (arith, less, above)

each : (test : ℕ → Bool) (n : ℕ) → holds_below test n ≡ true → (k : ℕ) → k < n → test k ≡ true
unfolding holds_below
each test zero h k less = absurd (omega (arith, less))
each test (suc n) h k less =
    let both = and_parts (test n) (holds_below test n) h in
    elim (cases_lt k n) [
      | inl below ↦ each test n both.1 k below
      | inr above ↦ subst (λ (m : ℕ). test m ≡ true) (last k n less above) both.0
    ]

-- ---- the names

top_test : holds_below (λ n. fits (100 ∷ decimal n)) 10 ≡ true
unfolding holds_below fits digits
top_test = refl

inner_test : holds_below (λ n. fits (101 ∷ decimal n)) 10 ≡ true
unfolding holds_below fits digits
inner_test = refl

file_test : holds_below (λ n. fits (102 ∷ decimal n)) 100 ≡ true
unfolding holds_below fits digits
file_test = refl

pub top_fits : (protect : Protect) (n : ℕ) → n < 10 → IsFit protect (100 ∷ decimal n)
top_fits protect n less = fit protect (100 ∷ decimal n) (each (λ n. fits (100 ∷ decimal n)) 10 top_test n less)

pub inner_fits : (protect : Protect) (n : ℕ) → n < 10 → IsFit protect (101 ∷ decimal n)
inner_fits protect n less = fit protect (101 ∷ decimal n) (each (λ n. fits (101 ∷ decimal n)) 10 inner_test n less)

pub file_fits : (protect : Protect) (n : ℕ) → n < 100 → IsFit protect (102 ∷ decimal n)
file_fits protect n less = fit protect (102 ∷ decimal n) (each (λ n. fits (102 ∷ decimal n)) 100 file_test n less)
