-- How references are named, as git-check-ref-format(1) says it: by the components of a name.
use Rattle.std.specs.Prelude.{◌≡◌, ◌≢◌, ℕ, List, [], ◌++◌, codes, All}
use Rattle.gx_rules.specs.Name.{StandsAt, ForbiddenAt, Nowhere}
use Rattle.gx_rules.specs.Path.{components}

-- the name begins with the text
abbrev pub Begins : List ℕ → List ℕ → Type 0
Begins text name = (rest : List ℕ) × (name ≡ text ++ rest)

-- the name ends with the text
abbrev pub Ends : List ℕ → List ℕ → Type 0
Ends text name = (front : List ℕ) × (name ≡ front ++ text)

-- A component is not empty (6), and neither begins with a dot nor ends with `.lock` (1).
pub record IsPart (part : List ℕ) : Type 0 where
  pub some : part ≢ []
  pub shown : ¬ Begins (codes ".") part
  pub unlocked : ¬ Ends (codes ".lock") part

-- The rules of that page, by their numbers there, but for the second, that there are two components.
pub record IsWellFormed (name : List ℕ) : Type 0 where
  pub parts : All IsPart (components name)
  pub no_range : Nowhere (StandsAt (codes "..") name)  -- 3
  pub allowed : Nowhere (ForbiddenAt name)  -- 4, 5, 10
  pub no_end : ¬ Ends (codes ".") name  -- 7
  pub no_log : Nowhere (StandsAt (codes "@{") name)  -- 8
  pub not_at : name ≢ codes "@"  -- 9
