use Rattle.std.proofs.Common.{refl}
use Rattle.gx_script.proofs.ReaderLemmas.{line_wrong, gives_line}
use Rattle.gx_script.proofs.lines.message_line.Goals as goal

pub returns-in_default-clause-line : goal.returns-in_default-clause-line
returns-in_default-clause-line g c =
    let found = c.in_ok-size.ensures.found in
    rw c.malformed.ensures (line_wrong _ _ _ _ _ _ c.in_ok-size.size _ found.0 found.1 found.2 (rw c.held.ensures at c.in_default.ensures) refl)

pub returns-clause-line : goal.returns-clause-line
returns-clause-line g c =
    let found = c.in_ok-size.ensures.found in
    gives_line _ _ _ _ _ _ c.in_ok-size.size found.0 found.1 found.2 c.give.ensures (rw c.held.ensures at c.in-Some.ensures)
