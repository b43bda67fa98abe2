-- What a program reads from and writes to: bytes that are left or were written, where this is told.
use Rattle.std.specs.Prelude.{◌≡◌, ℕ, List, ◌++◌, [], Option, Some, None}

-- The bytes were taken from the front of what was left. A source tells what is left before and after, or at no time.
abbrev pub Takes : Option (List ℕ) → Option (List ℕ) → List ℕ → Type 0
Takes None None bytes = Unit {0}
Takes None (Some new) bytes = ⊥
Takes (Some old) None bytes = ⊥
Takes (Some old) (Some new) bytes = old ≡ bytes ++ new

-- Nothing is left, where it is told.
abbrev pub IsEnd : Option (List ℕ) → Type 0
IsEnd None = Unit {0}
IsEnd (Some left) = left ≡ []

-- The bytes were written after what was written before. A sink tells what was written before and after, or at no time.
abbrev pub Writes : Option (List ℕ) → Option (List ℕ) → List ℕ → Type 0
Writes None None bytes = Unit {0}
Writes None (Some new) bytes = ⊥
Writes (Some old) None bytes = ⊥
Writes (Some old) (Some new) bytes = new ≡ old ++ bytes
