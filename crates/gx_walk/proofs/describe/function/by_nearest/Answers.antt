use Rattle.std.proofs.Common.{subst, List}
use Rattle.std.proofs.lemmas.Result.{err_from_is_err_and}
use Rattle.gx_hash.specs.declared.oid.ObjectId.{ObjectId}
use Rattle.gx_walk.specs.Causes.{CommitCauses}
use Rattle.gx_walk.specs.History.{Told}
use Rattle.gx_walk.specs.Search.{IfReached, IsFound, IsReached}
use Rattle.gx_walk.proofs.DescribeLemmas.{asked_causes, found_some, found_none, found_causes, none_asked}
use Rattle.gx_walk.proofs.describe.function.by_nearest.Goals as goal

pub returns-then-options-eq0-clause-ok : goal.returns-then-options-eq0-clause-ok
returns-then-options-eq0-clause-ok g c = none_asked (g.S.Meanings.state c.args.store.now) c.args.search.now c.args.options.now _ c.if-options-eq0.true c.bare.ensures

pub returns-in_err-candidates-clause-causes : goal.returns-in_err-candidates-clause-causes
returns-in_err-candidates-clause-causes g c =
    let p = err_from_is_err_and c.from_residual.result c.from_residual.ensures.1 in
    let s = g.S.Meanings.state c.args.store.now in
    rw (p.1, p.2) (asked_causes s (λ one. Told s (λ h. IsReached h c.args.search.now one)) c.args.options.now.max_candidates c.in_err-candidates.field-0.0 c.if-options-eq0.false c.in_err-candidates.ensures.causes)

pub returns-in_err-nearest-clause-causes : goal.returns-in_err-nearest-clause-causes
returns-in_err-nearest-clause-causes g c =
    let p = err_from_is_err_and c.from_residual-in_err-nearest.result c.from_residual-in_err-nearest.ensures.1 in
    let s = g.S.Meanings.state c.args.store.now in
    rw (p.1, p.2) (asked_causes s (λ one. Told s (λ h. IsReached h c.args.search.now one)) c.args.options.now.max_candidates c.in_err-nearest.field-0.0 c.if-options-eq0.false
    (found_causes s c.args.search.now c.args.options.now c.in_ok-candidates.candidates.items c.in_ok-candidates.ensures.ok c.in_ok-candidates.ensures.reached c.in_err-nearest.field-0.0
    (subst (λ (l : List ObjectId). CommitCauses s (λ one. IfReached s c.args.search.now l (λ h. IsReached h c.args.search.now one)) c.in_err-nearest.field-0.0) c.deref.ensures.value c.in_err-nearest.ensures.causes)))

pub returns-in-Some-clause-ok : goal.returns-in-Some-clause-ok
returns-in-Some-clause-ok g c =
    let s = g.S.Meanings.state c.args.store.now in
    found_some s c.args.search.now c.args.options.now c.in_ok-candidates.candidates.items c.in_ok-candidates.ensures.ok c.in_ok-candidates.ensures.reached
    c.in_ok-nearest.field-0 c.in-Some.nearest c.in_ok-name-in-Some.field-0 c.in-Some.is c.in_ok-name-in-Some.ensures
    (subst (λ (l : List ObjectId). IfReached s c.args.search.now l (λ h. IsFound h c.args.search.now l c.in_ok-nearest.field-0)) c.deref.ensures.value c.in_ok-nearest.ensures.ok)

pub returns-clause-ok : goal.returns-clause-ok
returns-clause-ok g c =
    let s = g.S.Meanings.state c.args.store.now in
    found_none s c.args.search.now c.args.options.now c.in_ok-candidates.candidates.items c.in_ok-candidates.ensures.ok c.in_ok-candidates.ensures.reached
    c.in_ok-nearest.field-0 c.bare-in-None.result c.in-None.is c.bare-in-None.ensures
    (subst (λ (l : List ObjectId). IfReached s c.args.search.now l (λ h. IsFound h c.args.search.now l c.in_ok-nearest.field-0)) c.deref.ensures.value c.in_ok-nearest.ensures.ok)
