-- How far ids begin alike.
use Rattle.std.specs.Prelude.{◌≡◌, ◌≢◌, ◌≤◌, ◌<◌, ℕ, IsSome, nat_eq}
use Rattle.std.specs.List.{common_prefix_len}
use Rattle.std.specs.FinMap.{get}
use Rattle.std.specs.declared.cmp.Ordering.TheVariants.{Less}
use Rattle.gx_hash.specs.HashKind.{kind_of}
use Rattle.gx_hash.specs.IdDigits.{HasOwnDigits}
use Rattle.gx_hash.specs.ObjectId.{hex_of, id_cmp}
use Rattle.gx_hash.specs.declared.oid.ObjectId.{ObjectId}
use Rattle.gx_store.specs.Content.{Content}

-- how many first hex digits two ids share
abbrev pub shared_digits : ObjectId → ObjectId → ℕ
shared_digits a b = common_prefix_len nat_eq (hex_of a) (hex_of b)

-- The number is the greatest of the numbers of first digits that the id shares with one of these, and 0 without one.
pub record IsMostShared (IsOne : ObjectId → Type 0) (id : ObjectId) (count : ℕ) : Type 0 where
  pub most : (other : ObjectId) → IsOne other → shared_digits id other ≤ count
  pub reached : 0 < count → (other : ObjectId) × IsOne other × (shared_digits id other ≡ count)

-- another id of the content; all ids of a store are of one kind, with as many digits
pub record IsAnother (content : Content) (id other : ObjectId) : Type 0 where
  pub found : IsSome (get content other)
  pub kind : kind_of other ≡ kind_of id
  pub digits : HasOwnDigits other
  pub apart : other ≢ id

-- The number is the greatest number of first hex digits that the id shares with another id of the content. An
-- abbreviation of the id has to be longer. (git-rev-parse(1), "--short")
abbrev pub IsLongestShared : Content → ObjectId → ℕ → Type 0
IsLongestShared content id count = IsMostShared (IsAnother content id) id count

-- an id of the content that comes before another one
abbrev pub IsBefore : Content → ObjectId → ObjectId → Type 0
IsBefore content id other = IsSome (get content other) × (kind_of other ≡ kind_of id) × HasOwnDigits other
    × (id_cmp other id ≡ Less)

-- an id of the content that comes after another one
abbrev pub IsAfter : Content → ObjectId → ObjectId → Type 0
IsAfter content id other = IsSome (get content other) × (kind_of other ≡ kind_of id) × HasOwnDigits other
    × (id_cmp id other ≡ Less)
