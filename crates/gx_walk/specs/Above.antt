-- The ids of the trees that contain what is visited.
use Rattle.std.specs.Prelude.{◌≡◌, false, List, [], ◌∷◌}
use Rattle.std.specs.List.{list_any}
use Rattle.std.specs.BTreeMap.{is_at}
use Rattle.gx_hash.specs.declared.oid.ObjectId.{ObjectId}
use Rattle.gx_hash.specs.ObjectIds.{derived_cmp, has_id}

-- no id comes twice
abbrev pub IsApart : List ObjectId → Type 0
IsApart [] = Unit {0}
IsApart (id ∷ ids) = (has_id ids id ≡ false) × IsApart ids

-- The keys of a set are these ids, and no id comes twice.
pub record IsSetOf (ids keys : List ObjectId) : Type 0 where
  pub apart : IsApart ids
  pub same : (one : ObjectId) → list_any (is_at (derived_cmp one)) keys ≡ has_id ids one
