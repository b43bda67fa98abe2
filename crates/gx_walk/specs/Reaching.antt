-- How the commits that ids reach are found.
use Rattle.std.specs.Prelude.{◌≡◌, ◌⊎◌, ℕ, ◌+◌, ◌-◌, ◌*◌, ◌^◌, ◌<◌, true, List, length, IsSome}
use Rattle.gx_hash.specs.declared.oid.ObjectId.{ObjectId}
use Rattle.gx_walk.specs.History.{History, Reaches}
use Rattle.gx_walk.specs.Graph.{history_in}
use Rattle.gx_walk.specs.declared.commit.reach.Found.{Found}
use Rattle.gx_walk.specs.declared.graph.Graph.{Graph}
use Rattle.gx_hash.specs.ObjectIds.{has_id}

-- what was found and read, and what is still to be read
pub record IsReaching (history : History) (follow : ObjectId → List ObjectId) (ids found pending : List ObjectId)
    : Type 0 where
  pub sound : (x : ObjectId) → (has_id found x ≡ true) ⊎ (has_id pending x ≡ true) → Reaches follow ids x
  pub starts : (x : ObjectId) → has_id ids x ≡ true → (has_id found x ≡ true) ⊎ (has_id pending x ≡ true)
  pub steps : (x y : ObjectId) → has_id found x ≡ true → has_id (follow x) y ≡ true
      → (has_id found y ≡ true) ⊎ (has_id pending y ≡ true)
  pub read : (x : ObjectId) → has_id found x ≡ true → IsSome (history x)

-- how much there may be to do: ids that may still be found, and those that are pending
abbrev pub left_to_do : List ObjectId → List ObjectId → ℕ
left_to_do found pending = (2 ^ 64 - length found) * 2 ^ 64 + length pending

-- less is left than before the id was taken from what is pending
abbrev pub Nears : List ObjectId → List ObjectId → List ObjectId → List ObjectId → Type 0
Nears found rest more pending = left_to_do more pending < left_to_do found rest + 1

-- the list has the ids of the set
abbrev pub AreListed : Found → Type 0
AreListed found = (x : ObjectId) → has_id found.list.items x ≡ has_id found.set x

-- each commit that was found is in the graph
abbrev pub AreRead : {T : Type 0} → Graph T → List ObjectId → Type 0
AreRead graph found = (x : ObjectId) → has_id found x ≡ true → IsSome (history_in graph x)
