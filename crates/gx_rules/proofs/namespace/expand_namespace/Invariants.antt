use Rattle.std.proofs.Common.{◌≡◌, ◌++◌}
use Rattle.std.specs.List.{flat_map}
use Rattle.gx_rules.specs.Namespace.{level, namespace_prefix}
use Rattle.gx_rules.proofs.namespace.expand_namespace.Given as goal

abbrev pub invariant-loop-component : goal.invariant-loop-component
invariant-loop-component l = goal.iterator-loop-component.can_next l.component-iterator × goal.iterator-loop-component.is_finite l.component-iterator × (l.prefix.items ++ flat_map level l.component-iterator ≡ namespace_prefix l.name)
