-- How many digits ids are abbreviated to, by how many objects there are.
use Rattle.std.specs.Prelude.{◌≡◌, ℕ, ◌+◌, ◌/◌, ◌^◌, ◌<◌, ◌≤◌, max}

-- A number has as many binary digits as it needs.
pub record HasBits (n bits : ℕ) : Type 0 where
  pub enough : n < 2 ^ bits
  pub least : (fewer : ℕ) → n < 2 ^ fewer → bits ≤ fewer

-- An id is abbreviated to half as many digits as the number of objects has binary digits, rounded up, and to 7 at
-- least. (git-config(1), "core.abbrev"; Git, object-name.c, "repo_find_unique_abbrev_r")
abbrev pub IsAutoHexLen : ℕ → ℕ → Type 0
IsAutoHexLen n len = (bits : ℕ) × HasBits n bits × (len ≡ max 7 ((bits + 1) / 2))
