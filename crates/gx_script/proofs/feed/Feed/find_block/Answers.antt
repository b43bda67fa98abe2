use Rattle.std.proofs.Common.{arith, ap, subst, sym, length, ◌≤◌, List, ℕ}
use Rattle.std.proofs.lemmas.Result.{err_from_is_err_and}
use Rattle.gx_script.proofs.ReaderLemmas.{fails_after}
use Rattle.gx_script.proofs.feed.Feed.find_block.Goals as goal

pub returns-in_err-fill-clause-found : goal.returns-in_err-fill-clause-found
returns-in_err-fill-clause-found g c =
    let p = err_from_is_err_and c.from_residual.result c.from_residual.ensures.1 in
    rw (p.1, p.2) (fails_after _ _ _ _ _ _ _ _ _ _ _ _ _ _ c.fills.invariant.moved (λ bytes e. subst (λ (b : List ℕ). length b ≤ c.args.count) (sym e) (omega (arith, ap length c.held.ensures))) (λ line bytes never. never) c.fills.invariant.later c.in_err-fill.ensures.filled)
