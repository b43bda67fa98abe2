use Rattle.std.proofs.Common.{sym}
use Rattle.gx_actor.proofs.DateLemmas.{mail_read}
use Rattle.gx_actor.proofs.date.mail.read_around.Goals as goal

pub returns : goal.returns
returns c = mail_read c.args.text.now c.args.day c.args.place c.in_ok-month.month c.time_at.result (rw c.split_at.ensures.front at (sym c.if-not-is_weekday.ensures)) (rw (c.split_at-2.ensures.front, c.after.ensures) at (sym c.in_ok-month.ensures)) (rw (c.civil.ensures, c.after-2.ensures) at c.time_at.ensures)
