use Rattle.std.proofs.Common.{subst, sym}
use Rattle.gx_store.specs.Kinds.{AreChangesOfKind}
use Rattle.gx_refs.proofs.ChangeLemmas.{kinds_more}
use Rattle.gx_refs.proofs.changes.changes_of.Goals as goal

pub returns-clause-kind : goal.returns-clause-kind
returns-clause-kind g c = λ hash k.
    subst (AreChangesOfKind hash) (sym c.in_ok-push.ensures.items)
    (kinds_more hash c.in_ok-changes.changes.items c.in_ok-last.last (c.in_ok-changes.ensures.kind hash k) (c.in_ok-last.ensures.kind hash k))
