use Rattle.std.proofs.Common.{◌≡◌, ◌+◌, ◌*◌, drop}
use Rattle.gx_store.specs.Sharing.{shared_digits}
use Rattle.gx_store.proofs.SharedLemmas.{alike}
use Rattle.gx_store.proofs.sharing.shared_digits.Given as goal

-- both begin with as many equal bytes
abbrev pub invariant-loop-at : goal.invariant-loop-at
invariant-loop-at l = 2 * l.at + alike (drop l.at l.a) (drop l.at l.b) ≡ shared_digits l.id l.other
