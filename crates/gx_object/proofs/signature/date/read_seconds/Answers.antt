use Rattle.gx_object.proofs.Dates.{seconds_utf8, not_utf8}
use Rattle.gx_object.proofs.signature.date.read_seconds.Goals as goal

pub returns-in_err-ok : goal.returns-in_err-ok
returns-in_err-ok c = rw c.from_residual.ensures (λ seconds spelled. not_utf8 _ _ c.args.text.now c.from_utf8.result c.in_err-ok.ensures.value c.from_utf8.ensures.cases (seconds_utf8 _ seconds spelled))
