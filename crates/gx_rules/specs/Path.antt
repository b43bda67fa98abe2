-- Paths of a directory tree.
use Rattle.std.specs.Prelude.{◌≡◌, ◌≢◌, All, Contains, ℕ, ◌==◌, if◌then◌else◌, List, [], ◌∷◌, Option, None, Some}
use Rattle.std.specs.Borrow.{Bor}
use Rattle.std.specs.List.{join_with_byte}

-- A path is the names that lead from the root down.
abbrev pub Path : Type 0
Path = List (List ℕ)

-- a byte more in front of the first name
abbrev pub at_front : ℕ → Path → Path
at_front b [] = (b ∷ []) ∷ []
at_front b (name ∷ path) = (b ∷ name) ∷ path

-- A path is written with a slash between its names, so a text is split at each slash.
-- (git-fast-import(1), "filemodify")
abbrev pub components : List ℕ → Path
components [] = [] ∷ []
components (b ∷ bytes) = if b == 47 then [] ∷ components bytes else at_front b (components bytes)

-- the components of a text, if there is one
abbrev pub components_in : Option (Bor (List ℕ)) → Path
components_in None = []
components_in (Some text) = components text.now

-- No name contains a slash, and joined by slashes they are the path.
pub record IsParted (path : List ℕ) (names : Path) : Type 0 where
  pub some : names ≢ []
  pub plain : All (λ name. ¬ Contains name 47) names
  pub joined : join_with_byte 47 names ≡ path
