use Rattle.std.proofs.Common.{refl}
use Rattle.gx_script.proofs.ReaderLemmas.{line_wrong, gives_line}
use Rattle.gx_script.proofs.lines.end_line.Goals as goal

pub returns-then-not-is_end-clause-line : goal.returns-then-not-is_end-clause-line
returns-then-not-is_end-clause-line g c =
    let found = c.in_ok-size.ensures.found in
    rw c.malformed.ensures (line_wrong _ _ _ _ _ _ c.in_ok-size.size _ found.0 found.1 found.2 (rw c.held.ensures at c.if-not-is_end.ensures) refl)

pub returns-clause-line : goal.returns-clause-line
returns-clause-line g c =
    let found = c.in_ok-size.ensures.found in
    gives_line _ _ _ _ _ _ c.in_ok-size.size found.0 found.1 found.2 c.give.ensures (rw c.held.ensures at c.if-not-is_end.ensures)
