use Rattle.std.proofs.Common.{◌≡◌, ◌++◌, drop, filter, nat_eq}
use Rattle.std.specs.List.{starts_with}
use Rattle.gx_folder.proofs.listing.with_prefix.Given as goal

-- the names so far, and those that are left
abbrev pub invariant-loop-name : goal.invariant-loop-name
invariant-loop-name l =
    l.kept.items ++ filter (λ name. starts_with nat_eq name l.prefix) (drop l.name-index l.names)
    ≡ filter (λ name. starts_with nat_eq name l.prefix) l.names
