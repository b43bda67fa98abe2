use Rattle.std.proofs.Common.{sym, arith}
use Rattle.gx_object.proofs.TitleLines.{joined_found, joined_missed}
use Rattle.gx_object.proofs.message.split_joined.Goals as goal

pub returns-in-Some : goal.returns-in-Some
returns-in-Some c =
    (rw (c.split_at.ensures.front, c.split_at-in-Some.ensures.back) (joined_found c.args.text.now c.in-Some.at (sym c.in-Some.ensures.at)), omega (arith, c.split_at-in-Some.ensures.back_len))

pub returns-in-None : goal.returns-in-None
returns-in-None c = joined_missed c.args.text.now (sym c.in-None.ensures.at)
