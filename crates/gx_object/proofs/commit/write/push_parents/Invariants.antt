use Rattle.std.proofs.Common.{◌≡◌, ◌++◌, drop, codes}
use Rattle.std.specs.Io.{StartsWith}
use Rattle.std.specs.List.{flat_map}
use Rattle.gx_object.specs.Commit.{id_line}
use Rattle.gx_object.proofs.commit.write.push_parents.Given as goal

-- what is written and what is left to write are the whole, and what was there is in front
abbrev pub invariant-loop-id : goal.invariant-loop-id
invariant-loop-id l =
    (l.out.items ++ flat_map (id_line (codes "parent ")) (drop l.id-index l.parents)
    ≡ l.fn.out.items ++ flat_map (id_line (codes "parent ")) l.parents)
    × StartsWith l.out.items l.fn.out.items
