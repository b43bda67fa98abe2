use Rattle.std.proofs.Common.{◌≡◌, ◌∙◌, ◌↔◌, true, ap, subst}
use Rattle.std.specs.Prelude.{MatchBool}
use Rattle.std.proofs.lemmas.Result.{err_from_is_err_and}
use Rattle.gx_walk.specs.Course.{IsFresh, IsUnderWay}
use Rattle.gx_walk.specs.History.{Told, Reaches, followed}
use Rattle.gx_hash.specs.ObjectIds.{has_id}
use Rattle.gx_walk.specs.Simple.{IsHidden}
use Rattle.gx_walk.proofs.CourseLemmas.{under_way_start}
use Rattle.gx_walk.proofs.StepLemmas.{hidden_from, sets_from}
use Rattle.gx_walk.proofs.TellLemmas.{told_then, told_both, causes_then}
use Rattle.gx_walk.proofs.commit.course.begin.Goals as goal

pub returns-in_err-hidden-clause-causes : goal.returns-in_err-hidden-clause-causes
returns-in_err-hidden-clause-causes g c =
    let p = err_from_is_err_and c.from_residual-in_err-hidden.result c.from_residual-in_err-hidden.ensures.1 in
    let s = g.S.Meanings.state c.args.store.now in
    rw (p.1, p.2) (causes_then s _ (λ id. Told s (λ history. IsHidden history c.args.options.now id)) _
    (λ id told. told_then s _ _ (λ history reached. hidden_from history c.args.options.now c.in_ok-course.field-0 (λ one. c.in_ok-course.ensures one ∙ ap (λ w. has_id w one) c.as_slice.ensures) id
    (subst (λ w. Reaches (followed history c.args.options.now.parents (has_id c.in_ok-course.field-0)) w id) c.as_slice-3.ensures reached)) told) c.in_err-hidden.ensures.causes)

pub returns-clause-begun : goal.returns-clause-begun
returns-clause-begun g c =
    told_both (g.S.Meanings.state c.args.store.now) _ _ _ (λ h exact commits at.
    let fresh : IsFresh c.args.course.now = subst (λ b. MatchBool b (IsUnderWay h c.args.options.now c.args.course.now) (IsFresh c.args.course.now)) c.if-course.false at in
    under_way_start h c.args.options.now _
    (sets_from h c.args.options.now (record { shallow = c.in_ok-course.field-0; boundary = c.in_ok-course-2.field-0; hidden = c.in_ok-hidden.hidden.set })
    (λ one. c.in_ok-course.ensures one ∙ ap (λ w. has_id w one) c.as_slice.ensures) (λ one. c.in_ok-course-2.ensures one ∙ ap (λ w. has_id w one) c.as_slice-2.ensures)
    (λ id. subst (λ w. (has_id c.in_ok-hidden.hidden.set id ≡ true) ↔ Reaches (followed h c.args.options.now.parents (has_id c.in_ok-course.field-0)) w id) c.as_slice-3.ensures (exact id)) commits)
    fresh.frontier fresh.listed c.in_ok-course-3.ensures) c.in_ok-hidden.ensures.exact c.in_ok-hidden.ensures.commits
