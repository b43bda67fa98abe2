use Rattle.std.proofs.Common.{◌≡◌, arith, rules, to_z, of_z, w32}
use Rattle.std.proofs.lemmas.Int.{ints, to_z-of_z}
use Rattle.gx_actor.proofs.DateLemmas.{at_offset}
use Rattle.gx_actor.proofs.date.civil.time_at.Goals as goal

pub returns-in_err-offset : goal.returns-in_err-offset
returns-in_err-offset c = rw c.from_residual.ensures (λ time at. c.in_err-offset.ensures time.offset at.offset)

pub returns : goal.returns
returns c =
    let same : to_z w32 (of_z w32 c.in_ok-offset.offset) ≡ c.in_ok-offset.offset = first_of (search rules, omega (arith, ints), omega (arith, ints, to_z-of_z), grind (arith, ints, to_z-of_z)) in
    at_offset c.args.civil c.args.offset.now c.in_ok-offset.offset _ c.moment.result same c.in_ok-offset.ensures c.moment.ensures
