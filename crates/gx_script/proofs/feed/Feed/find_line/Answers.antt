use Rattle.std.proofs.Common.{arith, ap, subst, sym, refl, length, ◌∙◌, drop}
use Rattle.std.proofs.lemmas.List.{take_rest}
use Rattle.std.proofs.lemmas.Result.{err_from_is_err_and}
use Rattle.gx_script.specs.Script.{IsPartialLine}
use Rattle.gx_script.proofs.ReaderLemmas.{fails_after, found_line, found_none, long_now, long_line, long_open, scanned_open, moves_then, partial_line}
use Rattle.gx_script.proofs.feed.Feed.find_line.Goals as goal

pub returns-then-scanned-count-le-LINE_LIMIT-clause-found : goal.returns-then-scanned-count-le-LINE_LIMIT-clause-found
returns-then-scanned-count-le-LINE_LIMIT-clause-found g c = (c.fills.invariant.moved, found_line _ _ _ _ (take_rest c.held.result.now c.fills.scanned ∙ ap (drop c.fills.scanned) c.held.ensures) (omega arith) c.fills.invariant.open_line c.in-Some.ensures, omega arith)

pub returns-in-Some-clause-found : goal.returns-in-Some-clause-found
returns-in-Some-clause-found g c = rw c.malformed.ensures (long_now _ _ _ _ _ _ _ c.fills.invariant.moved (long_line _ _ (found_line _ _ _ _ (take_rest c.held.result.now c.fills.scanned ∙ ap (drop c.fills.scanned) c.held.ensures) (omega arith) c.fills.invariant.open_line c.in-Some.ensures) (omega arith)) refl)

pub returns-then-scanned-gt-LINE_LIMIT-clause-found : goal.returns-then-scanned-gt-LINE_LIMIT-clause-found
returns-then-scanned-gt-LINE_LIMIT-clause-found g c = rw c.malformed-then-scanned-gt-LINE_LIMIT.ensures (long_now _ _ _ _ _ _ _ c.fills.invariant.moved (long_open _ (found_none _ _ _ (take_rest c.held.result.now c.fills.scanned ∙ ap (drop c.fills.scanned) c.held.ensures) c.fills.invariant.open_line c.in_default.ensures) (omega (arith, ap length c.held-scanned.ensures))) refl)

pub fills-preserved : goal.fills-preserved
fills-preserved g c =
    let none = found_none _ _ _ (take_rest c.held.result.now c.fills.scanned ∙ ap (drop c.fills.scanned) c.held.ensures) c.fills.invariant.open_line c.in_default.ensures in
    let filled = rw c.if-not-branch.false at c.in_ok-fill.ensures.filled in
    record {
      moved = moves_then _ _ _ _ _ _ _ _ c.fills.invariant.moved filled.0;
      within = omega (arith, ap length c.held-scanned.ensures, filled.1);
      short = omega arith;
      open_line = scanned_open _ _ _ _ _ c.held-scanned.ensures filled.0 none;
      later = omega (arith, c.in_ok-fill.ensures.later);
      kind = c.in_ok-fill.ensures.kind ∙ c.fills.invariant.kind;
    }

pub returns-then-not-branch-clause-found : goal.returns-then-not-branch-clause-found
returns-then-not-branch-clause-found g c =
    let none = found_none _ _ _ (take_rest c.held.result.now c.fills.scanned ∙ ap (drop c.fills.scanned) c.held.ensures) c.fills.invariant.open_line c.in_default.ensures in
    let filled = rw c.if-not-branch.true at c.in_ok-fill.ensures.filled in
    (moves_then _ _ _ _ _ _ _ _ c.fills.invariant.moved filled.0, subst IsPartialLine (sym filled.1) (partial_line _ _ c.held-scanned.ensures none (omega arith)), filled.2)

pub returns-in_err-fill-clause-found : goal.returns-in_err-fill-clause-found
returns-in_err-fill-clause-found g c =
    let none = found_none _ _ _ (take_rest c.held.result.now c.fills.scanned ∙ ap (drop c.fills.scanned) c.held.ensures) c.fills.invariant.open_line c.in_default.ensures in
    let p = err_from_is_err_and c.from_residual.result c.from_residual.ensures.1 in
    rw (p.1, p.2) (fails_after _ _ _ _ _ _ _ _ _ _ _ _ _ _ c.fills.invariant.moved (λ bytes e. subst IsPartialLine (sym e) (partial_line _ _ c.held-scanned.ensures none (omega arith))) (λ line bytes never. absurd never) c.fills.invariant.later c.in_err-fill.ensures.filled)
