use Rattle.std.proofs.Common.{◌∙◌}
use Rattle.gx_refs.proofs.PreparedLemmas.{readies}
use Rattle.gx_refs.proofs.preparing.make_ready.Goals as goal

pub returns-clause-ok : goal.returns-clause-ok
returns-clause-ok g c =
    readies c.args.terms.now (g.S.Meanings.state c.args.store.now).references c.args.plans.now c.in_ok-changes.changes.items c.from_vec-answer.result
    c.in_ok-check_all_expected.ensures.met c.in_ok-check_shared.ensures.apart c.in_ok-check_shared.ensures.distinct c.in_ok-check_room.ensures.room
    c.in_ok-changes.ensures.ok c.in_ok-changes.ensures.signed (c.from_vec-answer.ensures ∙ c.in_ok-answers.ensures)

pub returns-clause-kinds : goal.returns-clause-kinds
returns-clause-kinds g c = c.in_ok-changes.ensures.kind (g.S.Meanings.state c.args.store.now).hash c.requires.ways.kind
