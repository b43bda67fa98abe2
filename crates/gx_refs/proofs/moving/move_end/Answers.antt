use Rattle.std.proofs.lemmas.Result.{IfOk-weaker}
use Rattle.gx_refs.proofs.MovingLemmas.{distinct_along, kinds_along, line_of_kind}
use Rattle.gx_refs.proofs.moving.move_end.Goals as goal

pub returns-clause-names : goal.returns-clause-names
returns-clause-names g c = IfOk-weaker c.changes_along.result _ _ (λ changes m d. distinct_along c.args.mode c.as_slice.result.now c.args.id c.in_ok-line.line changes.items m (rw c.as_slice.ensures d)) c.changes_along.ensures.along

pub returns-clause-kinds : goal.returns-clause-kinds
returns-clause-kinds g c =
    let of_kind = line_of_kind (g.S.Meanings.state c.args.store.now).hash c.kind.result c.args.id c.previous_id-previous.result c.args.chain.now.target c.args.signature.now c.args.message.now c.in_ok-line.line c.in_ok-line.ensures c.previous_id-previous.ensures c.kind.ensures c.requires.id c.requires.target in
    IfOk-weaker c.changes_along.result _ _ (λ changes m. kinds_along c.args.mode _ c.as_slice.result.now c.args.id c.in_ok-line.line changes.items c.requires.id of_kind m) c.changes_along.ensures.along
