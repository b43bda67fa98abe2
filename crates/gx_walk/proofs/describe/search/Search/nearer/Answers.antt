use Rattle.std.proofs.Common.{◌∙◌, ◌<◌, sym, arith}
use Rattle.gx_walk.specs.Search.{IsMeasured}
use Rattle.gx_walk.proofs.CandidateLemmas.{nearest_reaches, nearest_moves, nearest_keeps}
use Rattle.gx_walk.proofs.IdLemmas.{has_self}
use Rattle.gx_walk.proofs.TellLemmas.{told_all, told_then}
use Rattle.gx_walk.proofs.describe.search.Search.nearer.Goals as goal

pub returns-then-not-contains-clause-ok : goal.returns-then-not-contains-clause-ok
returns-then-not-contains-clause-ok g c = told_all (g.S.Meanings.state c.args.store.now) _ (λ h reached before it.
    nearest_reaches h c.args.self.now before c.args.nearest c.args.other it (reached c.args.other (has_self c.args.other)) (sym c.contains.ensures ∙ c.if-not-contains.true))

pub returns-then-next-nearest-clause-ok : goal.returns-then-next-nearest-clause-ok
returns-then-next-nearest-clause-ok g c =
    let less : c.in_ok-next.next.depth < c.args.nearest.depth = omega arith in
    told_then (g.S.Meanings.state c.args.store.now) (λ h. IsMeasured h c.args.self.now c.in_ok-next.next) _ (λ h m reached before it.
    nearest_moves h c.args.self.now before c.args.nearest c.args.other it c.in_ok-next.next c.in_ok-next.ensures.id m less) c.in_ok-next.ensures.ok

pub returns-clause-ok : goal.returns-clause-ok
returns-clause-ok g c =
    told_then (g.S.Meanings.state c.args.store.now) (λ h. IsMeasured h c.args.self.now c.in_ok-next.next) _ (λ h m reached before it.
    nearest_keeps h c.args.self.now before c.args.nearest c.args.other it c.in_ok-next.next c.in_ok-next.ensures.id m
    (λ (less : c.in_ok-next.next.depth < c.args.nearest.depth). absurd (omega arith))) c.in_ok-next.ensures.ok
