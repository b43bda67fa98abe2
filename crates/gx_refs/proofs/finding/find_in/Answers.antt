use Rattle.std.proofs.lemmas.Result.{err_from_is_err_and}
use Rattle.std.proofs.Common.{◌≡◌, ◌∙◌, sym, ap, Some, slice_get, add-one}
use Rattle.gx_refs.specs.Finding.{candidates}
use Rattle.gx_refs.proofs.FindLemmas.{found_at, nothing_more, candidate_refused}
use Rattle.gx_refs.proofs.finding.find_in.Goals as goal

pub returns-in-Some-clause-ok : goal.returns-in-Some-clause-ok
returns-in-Some-clause-ok g c =
    let told = (g.S.Meanings.state c.args.store.now).references in
    let meant = rw c.in-Some.is at c.in_ok-found.ensures.some in
    let here : slice_get (candidates c.args.name.now) c.loop-at.at ≡ Some c.as_slice.result.now = c.in_ok-text.ensures ∙ ap Some (sym c.as_slice.ensures) in
    found_at c.args.space.now told c.args.name.now c.loop-at.at c.as_slice.result.now here c.in-Some.found meant.0 meant.1 c.loop-at.invariant

pub returns-in_err-found-clause-causes : goal.returns-in_err-found-clause-causes
returns-in_err-found-clause-causes g c =
    let state = g.S.Meanings.state c.args.store.now in
    let here : slice_get (candidates c.args.name.now) c.loop-at.at ≡ Some c.as_slice.result.now = c.in_ok-text.ensures ∙ ap Some (sym c.as_slice.ensures) in
    let p = err_from_is_err_and c.from_residual-in_err-found.result c.from_residual-in_err-found.ensures.1 in
    rw (p.1, p.2) (candidate_refused c.args.space.now state c.args.name.now c.loop-at.at c.as_slice.result.now c.in_err-found.field-0.0 here c.loop-at.invariant c.in_err-found.ensures.causes)

pub loop-at-preserved : goal.loop-at-preserved
loop-at-preserved g c =
    let told = (g.S.Meanings.state c.args.store.now).references in
    let here : slice_get (candidates c.args.name.now) c.loop-at.at ≡ Some c.as_slice.result.now = c.in_ok-text.ensures ∙ ap Some (sym c.as_slice.ensures) in
    rw add-one (nothing_more c.args.space.now told c.args.name.now c.loop-at.at c.as_slice.result.now here (rw c.in_default.is at c.in_ok-found.ensures.none) c.loop-at.invariant)
