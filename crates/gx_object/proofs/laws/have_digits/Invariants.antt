use Rattle.std.proofs.Common.{take}
use Rattle.std.specs.List.{AllByRecursion}
use Rattle.gx_hash.specs.IdDigits.{HasOwnDigits}
use Rattle.gx_object.proofs.laws.have_digits.Given as goal

abbrev pub invariant-loop-id : goal.invariant-loop-id
invariant-loop-id l = AllByRecursion HasOwnDigits (take l.id-index l.ids)
