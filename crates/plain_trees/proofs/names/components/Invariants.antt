use Rattle.std.proofs.Common.{◌≡◌, ◌++◌}
use Rattle.gx_edit.specs.Path.{components}
use Rattle.plain_trees.proofs.names.components.Given as goal

-- the names found, and those that are left
abbrev pub invariant-loop-name : goal.invariant-loop-name
invariant-loop-name l = goal.iterator-loop-name.can_next l.name-iterator × goal.iterator-loop-name.is_finite l.name-iterator × (l.names.items ++ l.name-iterator ≡ components l.path)
