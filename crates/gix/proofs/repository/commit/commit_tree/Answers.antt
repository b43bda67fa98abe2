use Rattle.std.proofs.Common.{◌∙◌}
use Rattle.std.proofs.lemmas.Result.{err_from_is_err_and}
use Rattle.gix.specs.CommitRequest.{asked}
use Rattle.gix.proofs.CommitAsLemmas.{committed, own_id, prepared_over, torn_leaves, written_commit}
use Rattle.gix.proofs.repository.commit.commit_tree.Goals as goal

pub returns-in_err-commit-clause-leaves : goal.returns-in_err-commit-clause-leaves
returns-in_err-commit-clause-leaves g c =
    let settings = c.args.settings.now in
    let r = asked c.args.request.now in
    let s = g.S.Meanings.state c.args.store.now in
    let own = own_id c.args.tree r _ (c.as_slice.ensures ∙ c.in_ok-bytes.ensures) _ s.hash _ _ c.hash_kind.ensures c.as_bytes.ensures c.object_id-id.ensures.id in
    let p = err_from_is_err_and c.from_residual-in_err-commit.result c.from_residual-in_err-commit.ensures.1 in
    rw (p.1, p.2) (torn_leaves settings c.args.tree r s (g.S.Meanings.state c.write.new.self) _ c.in_ok-prepared.prepared c.in_default.ensures.none (prepared_over settings c.args.tree r s _ _ own c.in_ok-prepared.ensures.ok)
    (written_commit c.args.tree r _ (c.as_slice-2.ensures ∙ c.in_ok-bytes.ensures) s _ _ own c.in_ok-write.ensures.ok) c.in_err-commit.field-0.0 c.in_err-commit.ensures.causes)

pub returns-clause-ok : goal.returns-clause-ok
returns-clause-ok g c =
    let settings = c.args.settings.now in
    let r = asked c.args.request.now in
    let s = g.S.Meanings.state c.args.store.now in
    let own = own_id c.args.tree r _ (c.as_slice.ensures ∙ c.in_ok-bytes.ensures) _ s.hash _ _ c.hash_kind.ensures c.as_bytes.ensures c.object_id-id.ensures.id in
    committed settings c.args.tree r s (g.S.Meanings.state c.write.new.self) _ c.in_ok-prepared.prepared c.in_default.ensures.none (prepared_over settings c.args.tree r s _ _ own c.in_ok-prepared.ensures.ok)
    (written_commit c.args.tree r _ (c.as_slice-2.ensures ∙ c.in_ok-bytes.ensures) s _ _ own c.in_ok-write.ensures.ok) _ own c.in_ok-commit.ensures.ok.1
