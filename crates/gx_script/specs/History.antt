-- The forms that ask about trees and history. (Ours; docs/SCRIPT.md.)
use Rattle.std.specs.Prelude.{◌≢◌, ℕ, ◌+◌, ◌≤◌, ◌<◌, ◌^◌, List, [], ◌∷◌, ◌++◌, length, codes, map}
use Rattle.std.specs.Fmt.{decimal}
use Rattle.std.specs.List.{AllByRecursion}
use Rattle.gx_hash.specs.ObjectId.{hex_of}
use Rattle.gx_hash.specs.declared.kind.HashKind.{HashKind}
use Rattle.gx_hash.specs.declared.oid.ObjectId.{ObjectId}
use Rattle.gx_script.specs.declared.lists.WalkId.{WalkId}
use Rattle.gx_script.specs.declared.request.NameSet.{NameSet}
use Rattle.gx_script.specs.declared.request.Order.{Order}
use Rattle.gx_script.specs.Fields.{IsId, order_text, IsOrder, set_text, walk_id_text}
use Rattle.gx_script.specs.Items.{spaced, id_limit}

-- The paths of the tree that the object leads to.
abbrev pub paths_line : ObjectId → List ℕ
paths_line id = codes "paths " ++ hex_of id

-- A walk says its order, and then its ids.
abbrev pub walk_line : Order → List WalkId → List ℕ
walk_line order ids = codes "walk " ++ (order_text order ++ spaced (map walk_id_text ids))

-- A walk has one or more ids. The limit counts the hidden ones too.
pub record IsWalk (hash : HashKind) (order : Order) (ids : List WalkId) : Type 0 where
  pub order_fits : IsOrder order
  pub some : ids ≢ []
  pub kind : AllByRecursion (λ (walked : WalkId). IsId hash walked.id) ids
  pub few : length ids ≤ id_limit

-- The best common ancestors of the first id and the others.
abbrev pub bases_line : ObjectId → List ObjectId → List ℕ
bases_line first others = codes "bases " ++ (hex_of first ++ spaced (map hex_of others))

-- The limit counts the first id too.
pub record IsBases (hash : HashKind) (first : ObjectId) (others : List ObjectId) : Type 0 where
  pub first_kind : IsId hash first
  pub kind : AllByRecursion (IsId hash) others
  pub few : 1 + length others ≤ id_limit

-- The best common ancestor of all ids, of which there may be none.
abbrev pub octopus_line : List ObjectId → List ℕ
octopus_line ids = codes "octopus" ++ spaced (map hex_of ids)

-- The ids are of the kind, and within the limit.
pub record IsOctopus (hash : HashKind) (ids : List ObjectId) : Type 0 where
  pub kind : AllByRecursion (IsId hash) ids
  pub few : length ids ≤ id_limit

-- A description says which names it may use, how many commits with a name are looked at, and the id.
abbrev pub describe_line : NameSet → ℕ → ObjectId → List ℕ
describe_line names max id = codes "describe " ++ (set_text names ++ 32 ∷ (decimal max ++ 32 ∷ hex_of id))

-- The number fits a u64.
abbrev pub IsDescribe : HashKind → ℕ → ObjectId → Type 0
IsDescribe hash max id = (max < 2 ^ 64) × IsId hash id
