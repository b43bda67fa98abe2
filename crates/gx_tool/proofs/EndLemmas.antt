-- How a run that ended answers.
use Rattle.std.proofs.Common.{refl, ℕ}
use Rattle.gx_tool.specs.declared.status.Status.{Status}
use Rattle.gx_tool.specs.Course.{Moment, Answers, Served, code}

pub answers_of : (limit : ℕ) (start now : Moment) (status : Status) → Served limit start now status → Answers limit start now (code status)
answers_of limit start now status s = record { status = status; is = refl; served = s }
