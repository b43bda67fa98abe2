use Rattle.gx_script.proofs.SplitLemmas.{cuts_at, cuts_all}
use Rattle.gx_script.proofs.split.next_field.Goals as goal

pub returns-in-Some : goal.returns-in-Some
returns-in-Some c = rw (c.split_at.ensures.front, c.split_at.ensures.back) (cuts_at c.args.bytes.now c.in_ok-rest.rest.now c.in-Some.at c.in_ok-rest.ensures (rw c.in-Some.is at c.memchr.ensures))

pub returns-in-None : goal.returns-in-None
returns-in-None c = cuts_all c.args.bytes.now c.in_ok-rest.rest.now c.in_ok-rest.ensures (rw c.in-None.is at c.memchr.ensures)
