use Rattle.gx_script.proofs.OpeningLemmas.{no_opening}
use Rattle.gx_script.proofs.opening.read_opening.Goals as goal

pub returns-in-None : goal.returns-in-None
returns-in-None c = no_opening c.args.hash c.args.line.now (rw c.in_default.is at c.in_ok-opening.ensures) (rw c.in_default-2.is at c.in_ok-opening-2.ensures) (rw c.in_default-3.is at c.in_ok-opening-3.ensures) (rw c.in_default-4.is at c.in_ok-opening-4.ensures) (rw c.in-None.is at c.in_ok-request.ensures)
