use Rattle.gx_refs.proofs.ChangeLemmas.{symbolic_keeps}
use Rattle.gx_refs.proofs.changes.update_log.Goals as goal

pub returns-in_default-clause-ok : goal.returns-in_default-clause-ok
returns-in_default-clause-ok g c = λ expected.
    symbolic_keeps (g.S.Meanings.state c.args.store.now).references c.args.terms.now c.args.found.now
    c.args.place.now c.args.log.now c.args.new.now c.in_default.not-Object expected

pub returns-clause-causes : goal.returns-clause-causes
returns-clause-causes g c = λ expected. rw c.in-Object.is (c.line_at.ensures.causes expected)
