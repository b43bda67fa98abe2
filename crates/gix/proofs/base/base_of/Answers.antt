use Rattle.std.proofs.Common.{◌∙◌, rules}
use Rattle.std.proofs.lemmas.Result.{err_from_is_err_and}
use Rattle.gix.specs.CommitRequest.{CommitRequest, asked}
use Rattle.gix.proofs.BaseLemmas.{first_is, parent_refused, root_refused, root_found, no_parent, has_place}
use Rattle.gix.proofs.base.base_of.Goals as goal

pub returns-in_err-tree-clause-err : goal.returns-in_err-tree-clause-err
returns-in_err-tree-clause-err g c = λ settings.
    let s = g.S.Meanings.state c.args.store.now in
    let r : CommitRequest = asked c.args.request.now in
    let p = err_from_is_err_and c.from_residual-in_err-tree.result c.from_residual-in_err-tree.ensures.1 in
    rw (p.1, p.2) (parent_refused settings r s c.in-Some.parent.now (first_is r.parents c.in-Some.parent.now c.in-Some.ensures.value) _ c.in_err-tree.ensures.err)

pub returns-in_default-clause-ok : goal.returns-in_default-clause-ok
returns-in_default-clause-ok g c =
    let s = g.S.Meanings.state c.args.store.now in
    let r : CommitRequest = asked c.args.request.now in
    record {
      hash = c.in_ok-new.ensures.kind ∙ c.hash_kind.ensures;
      entries = c.new-entries.result;
      is_base = no_parent s r.parents c.new-entries.result (search rules) c.new-entries.ensures;
      fresh = c.in_ok-new.ensures.view;
    }

pub returns-in-Ok-clause-ok : goal.returns-in-Ok-clause-ok
returns-in-Ok-clause-ok g c =
    let s = g.S.Meanings.state c.args.store.now in
    let r : CommitRequest = asked c.args.request.now in
    let v = c.in-Ok.ensures.ok in
    record {
      hash = c.in-Ok.ensures.kind;
      entries = v.entries;
      is_base = root_found r s c.in-Some.parent.now c.in_ok-tree.tree v.entries (first_is r.parents c.in-Some.parent.now c.in-Some.ensures.value) c.in_ok-tree.ensures.ok v.has;
      fresh = v.fresh;
    }

pub lifted-requires : goal.lifted-requires
lifted-requires g c = has_place (g.S.Meanings.state c.args.store.now) c.in_ok-tree.tree c.in-Err.refusal c.in-Err.ensures.causes

pub returns-in-Err-clause-err : goal.returns-in-Err-clause-err
returns-in-Err-clause-err g c = λ settings.
    let s = g.S.Meanings.state c.args.store.now in
    let r : CommitRequest = asked c.args.request.now in
    rw c.lifted.ensures (root_refused settings r s c.in-Some.parent.now (first_is r.parents c.in-Some.parent.now c.in-Some.ensures.value) c.in_ok-tree.tree c.in_ok-tree.ensures.ok c.in-Err.refusal c.in-Err.ensures.causes)
