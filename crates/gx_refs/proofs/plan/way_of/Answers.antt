use Rattle.std.proofs.Common.{◌≡◌}
use Rattle.gx_refs.specs.Plan.{names_of}
use Rattle.gx_refs.proofs.PlanLemmas.{follows_chain}
use Rattle.gx_refs.proofs.plan.way_of.Goals as goal

pub returns-then-deref-clause-way : goal.returns-then-deref-clause-way
returns-then-deref-clause-way g c =
    let chain = c.in_ok-names.field-0 in
    let way = c.in_ok-way.way in
    let along = c.in_ok-way.ensures.way in
    let slice = c.as_slice.ensures in
    let names = c.in_ok-names.names-is in
    let target = c.in_ok-names.target-is in
    let same : names_of way ≡ chain.names = cc in
    let found : way.found ≡ chain.target = cc in
    rw c.if-deref.true (follows_chain (g.S.Meanings.state c.args.store.now).references c.args.name.now chain.names chain.target way c.in_ok-names.ensures.ends c.in_ok-names.ensures.names c.in_ok-names.ensures.end (same, found))
