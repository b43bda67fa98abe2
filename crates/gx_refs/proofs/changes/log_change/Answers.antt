use Rattle.std.proofs.Common.{subst}
use Rattle.gx_refs.specs.Prepared.{SetsKind}
use Rattle.gx_refs.proofs.ChangeLemmas.{delete_removes, delete_signed}
use Rattle.gx_refs.proofs.changes.log_change.Goals as goal

pub returns-in-Delete-clause-ok : goal.returns-in-Delete-clause-ok
returns-in-Delete-clause-ok g c =
    delete_removes (g.S.Meanings.state c.args.store.now).references c.args.terms.now c.args.plan.now.way.found
    c.args.place.now c.args.plan.now.edit.change c.in-Delete.expected c.in-Delete.log c.in-Delete.is

pub returns-in-Delete-clause-signed : goal.returns-in-Delete-clause-signed
returns-in-Delete-clause-signed g c =
    delete_signed (g.S.Meanings.state c.args.store.now).references c.args.terms.now c.args.place.now
    c.args.plan.now.edit.change c.in-Delete.expected c.in-Delete.log c.in-Delete.is

pub returns-in-Update-clause-causes : goal.returns-in-Update-clause-causes
returns-in-Update-clause-causes g c = rw c.in-Update.is (c.update_log.ensures.causes c.in-Update.expected)

pub returns-in-Update-clause-kind : goal.returns-in-Update-clause-kind
returns-in-Update-clause-kind g c = λ hash k.
    c.update_log.ensures.kind hash (subst (SetsKind hash) c.in-Update.is k.0) k.1
