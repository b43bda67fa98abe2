use Rattle.std.proofs.Common.{◌≡◌, ◌++◌, drop}
use Rattle.gx_store.proofs.names.Names.try_clone.Given as goal

-- the copies so far, and the names that are left
abbrev pub invariant-loop-name : goal.invariant-loop-name
invariant-loop-name l = l.copies.items ++ drop l.name-index l.self ≡ l.self
