use Rattle.std.proofs.Common.{◌≡◌, ◌∙◌, length, arith, refl}
use Rattle.std.proofs.lemmas.Result.{err_from_is_err_and}
use Rattle.gx_script.proofs.CommitLemmas.{edits_first, edits_fail, edits_more, edits_stay, edits_done, edit_smaller}
use Rattle.gx_script.proofs.commit.edits.Goals as goal

pub edits-init : goal.edits-init
edits-init g c = record { read = rw c.new-edits.ensures.items (edits_first _ _ _); later = omega arith; kind = refl }

pub returns-in_err-edit-clause-edits : goal.returns-in_err-edit-clause-edits
returns-in_err-edit-clause-edits g c =
    let count : c.len.result ≡ length c.edits.edits.items = omega (arith, c.len.ensures, c.edits.edits.ok) in
    let p = err_from_is_err_and c.from_residual.result c.from_residual.ensures.1 in
    rw (p.1, p.2) (edits_fail _ _ _ _ _ _ _ _ _ _ _ _ c.len.result c.edits.invariant.read count c.edits.invariant.later c.in_err-edit.ensures.edit)

pub returns-in_default-clause-edits : goal.returns-in_default-clause-edits
returns-in_default-clause-edits g c =
    let count : c.len.result ≡ length c.edits.edits.items = omega (arith, c.len.ensures, c.edits.edits.ok) in
    rw c.from_vec.ensures (edits_done _ _ _ _ _ _ _ _ _ c.len.result c.edits.invariant.read count (rw c.in_default.is at c.in_ok-edit.ensures.edit))

pub returns-in_err-push-clause-edits : goal.returns-in_err-push-clause-edits
returns-in_err-push-clause-edits g c =
    let count : c.len.result ≡ length c.edits.edits.items = omega (arith, c.len.ensures, c.edits.edits.ok) in
    let p = err_from_is_err_and c.from_residual-in_err-push.result c.from_residual-in_err-push.ensures.1 in
    rw (p.1, p.2) (edits_stay _ _ _ _ _ _ _ _ c.in-Some.edit _ _ c.len.result c.edits.invariant.read count (rw c.in-Some.is at c.in_ok-edit.ensures.edit))

pub edits-preserved : goal.edits-preserved
edits-preserved g c =
    let count : c.len.result ≡ length c.edits.edits.items = omega (arith, c.len.ensures, c.edits.edits.ok) in
    record {
      read = rw c.in_ok-push.ensures.items (edits_more _ _ _ _ _ _ _ _ c.in-Some.edit _ _ c.len.result c.edits.invariant.read count (rw c.in-Some.is at c.in_ok-edit.ensures.edit));
      later = omega (arith, c.edits.invariant.later, c.in_ok-edit.ensures.later);
      kind = c.in_ok-edit.ensures.kind ∙ c.edits.invariant.kind;
    }

pub edits-smaller : goal.edits-smaller
edits-smaller g c = let found = rw c.in-Some.is at c.in_ok-edit.ensures.edit in edit_smaller _ _ _ _ c.in-Some.edit found.2
