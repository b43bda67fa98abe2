use Rattle.std.proofs.Common.{sym}
use Rattle.gx_actor.proofs.DateLemmas.{iso_read}
use Rattle.gx_actor.proofs.date.iso.read_time.Goals as goal

pub returns : goal.returns
returns c = iso_read c.args.text.now c.time_at.result (sym c.if-not-is_time.ensures.value) (rw (c.time.ensures, c.after.ensures) at c.time_at.ensures)
