-- For the private functions alone: which of stored names are kept in a listing.
use Rattle.std.specs.Prelude.{◌≡◌, ◌⊎◌, ℕ, List, [], ◌∷◌}
use Rattle.gx_rules.specs.Namespace.{IsWithin}

-- Of stored names in order those within the namespace are kept, as they are shown.
abbrev pub KeepsWithin : List ℕ → List (List ℕ) → List (List ℕ) → Type 0
KeepsWithin space [] names = names ≡ []
KeepsWithin space (stored ∷ more) names =
    ((short : List ℕ) × (rest : List (List ℕ)) × IsWithin space stored short × (names ≡ short ∷ rest)
    × KeepsWithin space more rest)
    ⊎ (((short : List ℕ) → ¬ IsWithin space stored short) × KeepsWithin space more names)
