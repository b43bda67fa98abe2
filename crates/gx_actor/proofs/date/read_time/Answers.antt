use Rattle.std.proofs.Common.{◌∙◌}
use Rattle.gx_actor.proofs.DateLemmas.{last_form}
use Rattle.gx_actor.proofs.date.read_time.Goals as goal

pub returns : goal.returns
returns c = rw c.ok_or.ensures.value (last_form c.args.now c.args.text.now c.read_time-2.result _ (λ word. let e = c.if-is_now.ensures ∙ word in cc) c.in_default.ensures c.in_default-read_day.ensures c.in_default-read_time.ensures c.read_time-2.ensures)
