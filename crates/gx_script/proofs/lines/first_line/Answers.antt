use Rattle.std.proofs.Common.{◌≡◌, ◌∙◌, ap, refl, length, arith}
use Rattle.gx_script.proofs.ReaderLemmas.{line_ends, line_wrong, gives_line}
use Rattle.gx_script.proofs.lines.first_line.Goals as goal

pub returns-in_default-clause-line : goal.returns-in_default-clause-line
returns-in_default-clause-line g c =
    let found = rw c.in_default.is at c.in_ok-size.ensures.found in
    rw c.malformed.ensures (line_ends _ _ _ _ _ _ _ found.0 found.1 (found.2, (λ none. let long : length c.held.result.now ≡ 0 = ap length (c.held.ensures ∙ none) in absurd (grind (arith, c.is_empty.ensures, c.if-is_empty.false)))) refl)

pub returns-in_default-2-clause-line : goal.returns-in_default-2-clause-line
returns-in_default-2-clause-line g c =
    let found = rw c.in-Some.is at c.in_ok-size.ensures.found in
    rw c.malformed-in_default-2.ensures (line_wrong _ _ _ _ _ _ c.in-Some.size _ found.0 found.1 found.2 (rw (c.in_default-2.is, c.held-2.ensures, c.hash.ensures, found.0.hash) at c.in_ok-opening.ensures) refl)

pub returns-clause-line : goal.returns-clause-line
returns-clause-line g c =
    let found = rw c.in-Some.is at c.in_ok-size.ensures.found in
    gives_line _ _ _ _ _ _ c.in-Some.size found.0 found.1 found.2 c.give.ensures (rw (c.in-Some-2.is, c.held-2.ensures, c.hash.ensures, found.0.hash) at c.in_ok-opening.ensures)
