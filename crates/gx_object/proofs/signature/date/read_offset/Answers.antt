use Rattle.std.proofs.Common.{inl, inr}
use Rattle.gx_object.proofs.Dates.{offset_text, no_hours, no_minutes, offset_by, ahead_value, behind_value}
use Rattle.gx_object.proofs.signature.date.read_offset.Goals as goal

pub returns-in_err-two_digits : goal.returns-in_err-two_digits
returns-in_err-two_digits c =
    let split = c.in_ok-hours.ensures.cases in
    let whole = offset_text _ _ _ _ _ c.in_ok-sign.ensures.cases.0 split in
    rw c.from_residual-in_err-two_digits.ensures (no_hours _ _ _ _ whole split.3 c.in_err-two_digits.ensures)

pub returns-in_err-seconds : goal.returns-in_err-seconds
returns-in_err-seconds c =
    let split = c.in_ok-hours.ensures.cases in
    let whole = offset_text _ _ _ _ _ c.in_ok-sign.ensures.cases.0 split in
    rw c.from_residual-in_err-seconds.ensures (no_minutes _ _ _ _ whole split.3 c.in_err-seconds.ensures)

pub returns-in-43 : goal.returns-in-43
returns-in-43 c =
    let whole = offset_text _ _ _ _ _ c.in_ok-sign.ensures.cases.0 c.in_ok-hours.ensures.cases in
    let hours = c.in_ok-two_digits.ensures in
    let minutes = c.in_ok-seconds.ensures in
    offset_by _ _ _ _ _ _ _ whole hours.0 minutes.0 (inl (c.in-43.is, ahead_value _ _ hours.1 minutes.1))

pub returns-in-45 : goal.returns-in-45
returns-in-45 c =
    let whole = offset_text _ _ _ _ _ c.in_ok-sign.ensures.cases.0 c.in_ok-hours.ensures.cases in
    let hours = c.in_ok-two_digits.ensures in
    let minutes = c.in_ok-seconds.ensures in
    offset_by _ _ _ _ _ _ _ whole hours.0 minutes.0 (inr (c.in-45.is, behind_value _ _ hours.1 minutes.1))
