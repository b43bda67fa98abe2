use Rattle.std.proofs.Common.{take}
use Rattle.gx_refs.specs.Plan.{ArePlaces}
use Rattle.gx_refs.proofs.plan.places_along.Given as goal

-- the places of the first names
abbrev pub invariant-loop-name : goal.invariant-loop-name
invariant-loop-name l = ArePlaces l.space (take l.name-index l.names) l.places.items
