-- Paths of a directory tree.
use Rattle.std.specs.Prelude.{◌≢◌, ℕ, Bool, true, false, ◌&&◌, List, [], ◌∷◌, Contains, bytes_eq}
use Rattle.std.specs.Cmp.Lexicographic.{pointwise}
pub use Rattle.gx_rules.specs.Path.{Path, at_front, components}

-- A name in a tree is not empty and holds neither a slash nor a zero byte, which ends a name there. (git-fsck(1),
-- "emptyName", "fullPathname"; Git, "Git Internals - Git Objects", "Tree Objects")
pub record IsName (name : List ℕ) : Type 0 where
  pub not_empty : name ≢ []
  pub no_slash : Contains name 47 → ⊥
  pub no_zero : Contains name 0 → ⊥

-- two paths are one
abbrev pub path_eq : Path → Path → Bool
path_eq = pointwise bytes_eq

-- the second path is the first, or lies below it
abbrev pub leads_to : Path → Path → Bool
leads_to [] q = true
leads_to (n ∷ p) [] = false
leads_to (n ∷ p) (m ∷ q) = bytes_eq n m && leads_to p q
