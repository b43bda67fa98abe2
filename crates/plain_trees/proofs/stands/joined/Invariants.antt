use Rattle.std.proofs.Common.{◌≡◌, take}
use Rattle.plain_trees.proofs.stands.joined.Given as goal

-- the first names are copied
abbrev pub invariant-loop-name : goal.invariant-loop-name
invariant-loop-name l = l.path.items ≡ take l.name-index l.above
