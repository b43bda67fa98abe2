-- A name is in the directory of its category, and is the prefix that the category's names share and its short name.
use Rattle.std.proofs.Common.{◌≡◌, ℕ, zero, suc, Bool, true, false, cond, ◌||◌, ◌==◌, List, [], ◌∷◌, ◌++◌, length, drop, Contains, nat_eq, codes, arith, refl, sym, subst, eq-eqb, Some, None, Option}
use Rattle.std.specs.List.{starts_with, list_any}
use Rattle.std.proofs.lemmas.Bool.{eqb-true}
use Rattle.gx_rules.specs.Category.{category_of, shared_prefix, short_name, IsIn, IsInDirectoryOf}
use Rattle.gx_rules.specs.declared.category.Category.{Category}
use Rattle.gx_rules.specs.declared.category.Category.TheVariants.{Tag, LocalBranch, RemoteBranch, Note, PseudoRef}
use Rattle.gx_rules.specs.Laws.Formats.{begins_parts, begins_back}

has_slash : (name : List ℕ) → list_any (λ b. b == 47) name ≡ true → Contains name 47
has_slash [] h = absurd cc
has_slash (b ∷ bs) h = go (b == 47) refl h (has_slash bs)
  where
    go : (t : Bool) → (b == 47) ≡ t → (t || list_any (λ x. x == 47) bs) ≡ true → (list_any (λ x. x == 47) bs ≡ true → Contains bs 47) → Contains (b ∷ bs) 47
    go true e f later = (0, omega arith, eqb-true b 47 e)
    go false e f later = let c = later f in (suc c.0, omega (arith, c.1), c.2)

later_none : (t u : Bool) → (t || u) ≡ false → u ≡ false
later_none true u h = absurd cc
later_none false u h = h

first_none : (t u : Bool) → (t || u) ≡ false → t ≡ true → ⊥
first_none true u h e = cc
first_none false u h e = cc

no_slash : (name : List ℕ) → list_any (λ b. b == 47) name ≡ false → Contains name 47 → ⊥
no_slash [] h (k, less, at) = omega (arith, less)
no_slash (b ∷ bs) h (zero, less, at) = first_none (b == 47) (list_any (λ x. x == 47) bs) h (eq-eqb b 47 at)
no_slash (b ∷ bs) h (suc k, less, at) = no_slash bs (later_none (b == 47) (list_any (λ x. x == 47) bs) h) (k, omega (arith, less), at)

-- what is said of a name of the category
abbrev Fits : List ℕ → Option Category → Type 0
Fits name c = (name ≡ shared_prefix c ++ drop (length (shared_prefix c)) name) × IsInDirectoryOf c name

begins : (text name : List ℕ) → starts_with nat_eq name text ≡ true → IsIn text name
begins text name h = (drop (length text) name, begins_parts text name h)

-- a name that begins with two texts begins with the first
begins_first : (one two name : List ℕ) → starts_with nat_eq name (one ++ two) ≡ true → (rest : List ℕ) → name ≡ one ++ (two ++ rest) → starts_with nat_eq name one ≡ true
begins_first one two name h rest e = subst (λ (xs : List ℕ). starts_with nat_eq xs one ≡ true) (sym e) (begins_back one (two ++ rest))

note_fits : (name : List ℕ) → starts_with nat_eq name (codes "refs/notes/") ≡ true → Fits name (Some Note)
note_fits name h =
    let parts = begins (codes "refs/notes/") name h in
    (begins_parts (codes "refs/") name (begins_first (codes "refs/") (codes "notes/") name h parts.0 parts.1), parts)

other_fits : (name : List ℕ) (t : Bool) → list_any (λ b. b == 47) name ≡ t → Fits name (cond t None (Some PseudoRef))
other_fits name true e = (refl, has_slash name e)
other_fits name false e = (refl, no_slash name e)

notes_fit : (name : List ℕ) (t u : Bool) → starts_with nat_eq name (codes "refs/notes/") ≡ t → list_any (λ b. b == 47) name ≡ u → Fits name (cond t (Some Note) (cond u None (Some PseudoRef)))
notes_fit name true u e f = note_fits name e
notes_fit name false u e f = other_fits name u f

remotes_fit : (name : List ℕ) (s t u : Bool) → starts_with nat_eq name (codes "refs/remotes/") ≡ s → starts_with nat_eq name (codes "refs/notes/") ≡ t → list_any (λ b. b == 47) name ≡ u → Fits name (cond s (Some RemoteBranch) (cond t (Some Note) (cond u None (Some PseudoRef))))
remotes_fit name true t u d e f = (begins_parts (codes "refs/remotes/") name d, begins (codes "refs/remotes/") name d)
remotes_fit name false t u d e f = notes_fit name t u e f

heads_fit : (name : List ℕ) (r s t u : Bool) → starts_with nat_eq name (codes "refs/heads/") ≡ r → starts_with nat_eq name (codes "refs/remotes/") ≡ s → starts_with nat_eq name (codes "refs/notes/") ≡ t → list_any (λ b. b == 47) name ≡ u → Fits name (cond r (Some LocalBranch) (cond s (Some RemoteBranch) (cond t (Some Note) (cond u None (Some PseudoRef)))))
heads_fit name true s t u c d e f = (begins_parts (codes "refs/heads/") name c, begins (codes "refs/heads/") name c)
heads_fit name false s t u c d e f = remotes_fit name s t u d e f

tags_fit : (name : List ℕ) (q r s t u : Bool) → starts_with nat_eq name (codes "refs/tags/") ≡ q → starts_with nat_eq name (codes "refs/heads/") ≡ r → starts_with nat_eq name (codes "refs/remotes/") ≡ s → starts_with nat_eq name (codes "refs/notes/") ≡ t → list_any (λ b. b == 47) name ≡ u → Fits name (cond q (Some Tag) (cond r (Some LocalBranch) (cond s (Some RemoteBranch) (cond t (Some Note) (cond u None (Some PseudoRef))))))
tags_fit name true r s t u b c d e f = (begins_parts (codes "refs/tags/") name b, begins (codes "refs/tags/") name b)
tags_fit name false r s t u b c d e f = heads_fit name r s t u c d e f

fits : (name : List ℕ) → Fits name (category_of name)
fits name = tags_fit name _ _ _ _ _ refl refl refl refl refl

pub prefix_and_short_name : (name : List ℕ) → name ≡ shared_prefix (category_of name) ++ short_name name
prefix_and_short_name name = (fits name).0

pub in_directory : (name : List ℕ) → IsInDirectoryOf (category_of name) name
in_directory name = (fits name).1
