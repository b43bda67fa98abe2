use Rattle.std.proofs.Common.{◌≡◌, ◌∙◌, length, arith, refl}
use Rattle.std.proofs.lemmas.Result.{err_from_is_err_and}
use Rattle.gx_script.proofs.CommitLemmas.{parents_first, parents_wrong, parents_next, parents_stay, parents_done, line_smaller}
use Rattle.gx_script.proofs.commit.parents.Goals as goal

pub parents-init : goal.parents-init
parents-init g c = record { read = rw c.new-ids.ensures.items (parents_first _ _); later = omega arith; kind = refl }

pub returns-in_err-id-clause-parents : goal.returns-in_err-id-clause-parents
returns-in_err-id-clause-parents g c =
    let count : c.len.result ≡ length c.parents.ids.items = omega (arith, c.len.ensures, c.parents.ids.ok) in
    let p = err_from_is_err_and c.from_residual.result c.from_residual.ensures.1 in
    rw (p.1, p.2) (parents_wrong _ _ _ _ _ _ _ _ _ _ c.len.result c.parents.invariant.read count c.parents.invariant.later c.in_err-id.ensures.line)

pub returns-in_err-push-in-Parent-clause-parents : goal.returns-in_err-push-in-Parent-clause-parents
returns-in_err-push-in-Parent-clause-parents g c =
    let count : c.len.result ≡ length c.parents.ids.items = omega (arith, c.len.ensures, c.parents.ids.ok) in
    let p = err_from_is_err_and c.from_residual-in_err-push-in-Parent.result c.from_residual-in_err-push-in-Parent.ensures.1 in
    rw (p.1, p.2) (parents_stay _ _ _ _ _ _ _ c.in-Parent.id c.len.result c.parents.invariant.read count (rw c.in-Parent.is at c.in_ok-id.ensures.line))

pub parents-preserved : goal.parents-preserved
parents-preserved g c =
    let count : c.len.result ≡ length c.parents.ids.items = omega (arith, c.len.ensures, c.parents.ids.ok) in
    record {
      read = rw c.in_ok-push-in-Parent.ensures.items (parents_next _ _ _ _ _ _ _ c.in-Parent.id c.len.result c.parents.invariant.read count (rw c.in-Parent.is at c.in_ok-id.ensures.line));
      later = omega (arith, c.parents.invariant.later, c.in_ok-id.ensures.later);
      kind = c.in_ok-id.ensures.kind ∙ c.parents.invariant.kind;
    }

pub parents-smaller : goal.parents-smaller
parents-smaller g c = line_smaller _ _ _ _ _ (rw c.in-Parent.is at c.in_ok-id.ensures.line)

pub returns-in-Message-clause-parents : goal.returns-in-Message-clause-parents
returns-in-Message-clause-parents g c =
    let count : c.len.result ≡ length c.parents.ids.items = omega (arith, c.len.ensures, c.parents.ids.ok) in
    rw c.from_vec.ensures (parents_done _ _ _ _ _ _ _ c.in-Message.size c.len.result c.parents.invariant.read count (rw c.in-Message.is at c.in_ok-id.ensures.line))
