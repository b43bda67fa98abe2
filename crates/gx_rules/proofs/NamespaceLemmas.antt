-- The prefix of a namespace: how it is made, and names with it and without it.
use Rattle.std.proofs.Common.{◌≡◌, ◌≢◌, ◌∙◌, sym, ap, refl, subst, ℕ, true, false, List, ◌++◌, length, take, drop}
use Rattle.std.specs.Str.{bytes_eq}
use Rattle.std.proofs.lemmas.Slice.Eq.{bytes_eq-Decides}
use Rattle.std.proofs.lemmas.List.{append_assoc, take-append-drop}
use Rattle.std.proofs.Math.Seq.{take-append_seam, drop-append_seam}
use Rattle.gx_rules.specs.Laws.Namespaces.{full_after_prefix}
use Rattle.gx_rules.specs.Name.{IsFullName, IsFirstBroken}
use Rattle.gx_rules.specs.Namespace.{IsNamespacePrefix, IsWithin}
use Rattle.gx_rules.specs.declared.name_error.NameError.{NameError}

pub level_pushed : (old head component tail one two new : List ℕ) → one ≡ old ++ head → two ≡ one ++ component → new ≡ two ++ tail → new ≡ old ++ (head ++ (component ++ tail))
level_pushed old head component tail one two new e f g = rw (g, f, e, append_assoc, append_assoc)

-- a full name behind the prefix of a namespace is a full name
pub stored_is_full : (prefix name bytes : List ℕ) → IsNamespacePrefix prefix → IsFullName name → bytes ≡ prefix ++ name → IsFullName bytes
stored_is_full prefix name bytes space full is =
    subst IsFullName (sym (is ∙ ap (λ (xs : List ℕ). xs ++ name) space.expands)) (full_after_prefix space.name name space.partial full)

same_name : (a b : List ℕ) → bytes_eq a b ≡ true → a ≡ b
same_name a b = (bytes_eq-Decides a b).0

own_name : (a : List ℕ) → bytes_eq a a ≡ true
own_name a = (bytes_eq-Decides a a).1 refl

-- a name that begins with the prefix
cut : (prefix name : List ℕ) → bytes_eq (take (length prefix) name) prefix ≡ true → name ≡ prefix ++ drop (length prefix) name
cut prefix name e =
    sym (take-append-drop (length prefix) name) ∙ ap (λ front. front ++ drop (length prefix) name) (same_name (take (length prefix) name) prefix e)

-- a name that does not
apart : (prefix name rest : List ℕ) → bytes_eq (take (length prefix) name) prefix ≡ false → name ≢ prefix ++ rest
apart prefix name rest e is =
    let front : take (length prefix) name ≡ prefix = ap (take (length prefix)) is ∙ take-append_seam prefix rest in
    let clash : true ≡ false = sym (ap (λ xs. bytes_eq xs prefix) front ∙ own_name prefix) ∙ e in
    cc

pub within_here : (prefix stored rest name : List ℕ) → bytes_eq (take (length prefix) stored) prefix ≡ true → rest ≡ drop (length prefix) stored → name ≡ rest → IsFullName rest → IsWithin prefix stored name
within_here prefix stored rest name e is s full =
    (cut prefix stored e ∙ ap (λ xs. prefix ++ xs) (sym is ∙ sym s), subst IsFullName (sym s) full)

pub never_apart : (prefix stored : List ℕ) → bytes_eq (take (length prefix) stored) prefix ≡ false → (rest : List ℕ) → ¬ IsWithin prefix stored rest
never_apart prefix stored e rest w = apart prefix stored rest e w.0

pub never_broken : (prefix stored rest : List ℕ) (error : NameError) → rest ≡ drop (length prefix) stored → IsFirstBroken rest error → (other : List ℕ) → ¬ IsWithin prefix stored other
never_broken prefix stored rest error is broken other w =
    let same : other ≡ rest = sym (drop-append_seam prefix other) ∙ ap (drop (length prefix)) (sym w.0) ∙ sym is in
    subst IsFullName same w.1 error broken.broken

pub ruleset stripping = (within_here, never_apart, never_broken)
