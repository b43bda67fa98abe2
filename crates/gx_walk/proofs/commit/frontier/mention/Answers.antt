use Rattle.std.proofs.Common.{◌≡◌, ◌∙◌, ◌∷◌, [], sym, ap, subst}
use Rattle.std.proofs.lemmas.Result.{err_from_is_err_and}
use Rattle.gx_walk.specs.Frontier.{is_excluded, Enqueues, IsAdmittedOf, IsAnswered, IsAskedBy, Mentions}
use Rattle.gx_walk.specs.declared.commit.frontier.Frontier.{Frontier}
use Rattle.gx_walk.proofs.AskedLemmas.{asks_same}
use Rattle.gx_walk.proofs.MentionLemmas.{mentions_excluded, mentions_refused, mentions_enqueued, admitted_alone}
use Rattle.gx_walk.proofs.TellLemmas.{told_all, told_then, causes_then}
use Rattle.gx_walk.proofs.commit.frontier.mention.Goals as goal

pub returns-in_err-place-clause-asks : goal.returns-in_err-place-clause-asks
returns-in_err-place-clause-asks g c = asks_same g.F.Filter.admit_gives c.args.frontier.now.asked.items c.next_place.new.self.asked.items c.args.filter.now c.requires.asked.once (ap (λ (w : Frontier). w.asked.items) c.in_err-place.ensures.err)

pub returns-in_err-place-clause-asked : goal.returns-in_err-place-clause-asked
returns-in_err-place-clause-asked g c = subst IsAskedBy (sym c.in_err-place.ensures.err) c.requires.asked

pub returns-then-exclude-clause-asks : goal.returns-then-exclude-clause-asks
returns-then-exclude-clause-asks g c = asks_same g.F.Filter.admit_gives c.args.frontier.now.asked.items c.next_place.new.self.asked.items c.args.filter.now c.requires.asked.once (ap (λ (w : Frontier). w.asked.items) c.in_ok-place.ensures.ok)

pub returns-then-exclude-clause-asked : goal.returns-then-exclude-clause-asked
returns-then-exclude-clause-asked g c =
    let counted : IsAskedBy (record c.args.frontier.now { count = _ }) = record { once = c.requires.asked.once; within = c.requires.asked.within } in
    subst IsAskedBy (sym c.in_ok-place.ensures.ok) counted

pub returns-then-exclude-clause-kept : goal.returns-then-exclude-clause-kept
returns-then-exclude-clause-kept g c =
    told_all (g.S.Meanings.state c.args.store.now) (λ h. Mentions h c.args.sorting (is_excluded c.args.sets.now) (c.args.id ∷ []) c.args.frontier.now c.next_place.new.self)
    (λ h. mentions_excluded h c.args.sorting (is_excluded c.args.sets.now) c.args.frontier.now c.next_place.new.self c.args.id c.in_ok-place.ensures.ok (sym c.exclude.ensures ∙ c.if-exclude.true))

pub returns-then-not-branch-clause-kept : goal.returns-then-not-branch-clause-kept
returns-then-not-branch-clause-kept g c =
    told_all (g.S.Meanings.state c.args.store.now) (λ h. Mentions h c.args.sorting (is_excluded c.args.sets.now) (c.args.id ∷ []) c.args.frontier.now c.ask.new.frontier)
    (λ h. mentions_refused h c.args.sorting (is_excluded c.args.sets.now) c.args.frontier.now c.next_place.new.self c.args.id c.in_ok-place.ensures.ok c.ask.new.frontier (sym c.exclude.ensures ∙ c.if-exclude.false)
    (subst (IsAnswered c.next_place.new.self c.ask.new.frontier c.args.id) c.if-not-branch.true c.in_ok-ask.ensures.answered))

pub returns-clause-kept : goal.returns-clause-kept
returns-clause-kept g c =
    told_then (g.S.Meanings.state c.args.store.now) (λ h. Enqueues h c.args.sorting c.in_ok-place.place c.args.id c.ask.new.frontier c.enqueue.new.frontier)
    (λ h. Mentions h c.args.sorting (is_excluded c.args.sets.now) (c.args.id ∷ []) c.args.frontier.now c.enqueue.new.frontier)
    (λ h e. mentions_enqueued h c.args.sorting (is_excluded c.args.sets.now) c.args.frontier.now c.next_place.new.self c.args.id c.in_ok-place.ensures.ok c.ask.new.frontier c.enqueue.new.frontier c.in_ok-place.place c.in_ok-place.ensures.place
    (sym c.exclude.ensures ∙ c.if-exclude.false)
    (subst (IsAnswered c.next_place.new.self c.ask.new.frontier c.args.id) c.if-not-branch.false c.in_ok-ask.ensures.answered) c.enqueue.ensures.kept e) c.in_ok-enqueue.ensures.queued

pub returns-in_err-enqueue-clause-causes : goal.returns-in_err-enqueue-clause-causes
returns-in_err-enqueue-clause-causes g c =
    let p = err_from_is_err_and c.from_residual-in_err-enqueue.result c.from_residual-in_err-enqueue.ensures.1 in
    let counted : IsAskedBy (record c.args.frontier.now { count = _ }) = record { once = c.requires.asked.once; within = c.requires.asked.within } in
    let asked : IsAskedBy c.next_place.new.self = subst IsAskedBy (sym c.in_ok-place.ensures.ok) counted in
    rw (p.1, p.2) (causes_then (g.S.Meanings.state c.args.store.now) (λ one. one ≡ c.args.id) (IsAdmittedOf c.args.sets.now c.enqueue.new.frontier.asked.items (c.args.id ∷ [])) _
    (λ one is. subst (IsAdmittedOf c.args.sets.now c.enqueue.new.frontier.asked.items (c.args.id ∷ [])) (sym is)
    (admitted_alone c.args.sets.now c.next_place.new.self c.ask.new.frontier c.enqueue.new.frontier c.args.id (sym c.exclude.ensures ∙ c.if-exclude.false) asked
    (subst (IsAnswered c.next_place.new.self c.ask.new.frontier c.args.id) c.if-not-branch.false c.in_ok-ask.ensures.answered) c.enqueue.ensures.kept)) c.in_err-enqueue.ensures.causes)
