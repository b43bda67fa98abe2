use Rattle.std.proofs.Common.{sym}
use Rattle.gx_actor.proofs.DateLemmas.{formed}
use Rattle.gx_actor.proofs.date.mail.read_one_digit.Goals as goal

pub returns : goal.returns
returns c = formed _ _ c.read_around.result (sym c.if-not-begins_in_form.ensures.value) (rw c.digit_at.ensures.value at c.read_around.ensures)
