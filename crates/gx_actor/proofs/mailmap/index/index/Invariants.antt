use Rattle.std.proofs.Common.{◌≡◌, None, drop}
use Rattle.std.specs.BTreeMap.{get}
use Rattle.gx_actor.specs.Index.{Key, key_cmp, places_from}
use Rattle.gx_actor.proofs.mailmap.index.index.Given as goal

-- the places of the entries so far, and then of the others, are those of all
abbrev pub invariant-loop-place : goal.invariant-loop-place
invariant-loop-place l = (key : Key) → places_from key l.place (drop l.place l.entries) (get key_cmp l.index key) ≡ places_from key 0 l.entries None
