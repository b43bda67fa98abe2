use Rattle.std.proofs.Common.{◌≡◌, ◌-◌, ◌≤◌, ◌+◌, length, drop}
use Rattle.gx_object.specs.Tree.{sort_key}
use Rattle.gx_rules.specs.Name.{name_cmp}
use Rattle.gx_edit.proofs.stored_tree.sort_key.compare_keys.Given as goal

-- so far the keys are one
abbrev pub invariant-loop-x : goal.invariant-loop-x
invariant-loop-x l = (l.at ≤ length (sort_key l.a)) × (name_cmp (drop l.at (sort_key l.a)) (drop l.at (sort_key l.b)) ≡ name_cmp (sort_key l.a) (sort_key l.b))

abbrev pub decreases-loop-x : goal.decreases-loop-x
decreases-loop-x l = length (sort_key l.a) + 1 - l.at
