use Rattle.gx_object.proofs.Dates.{no_seconds, no_offset}
use Rattle.gx_object.proofs.signature.date.read_time.Goals as goal

pub returns-in_err-read_seconds : goal.returns-in_err-read_seconds
returns-in_err-read_seconds c =
    let cut = c.in_ok-seconds.ensures in
    rw c.from_residual-in_err-read_seconds.ensures (no_seconds _ _ _ cut.0 cut.1 c.in_err-read_seconds.ensures)

pub returns-in_err-read_offset : goal.returns-in_err-read_offset
returns-in_err-read_offset c =
    let cut = c.in_ok-seconds.ensures in
    rw c.from_residual-in_err-read_offset.ensures (no_offset _ _ _ cut.0 cut.1 c.in_err-read_offset.ensures)
