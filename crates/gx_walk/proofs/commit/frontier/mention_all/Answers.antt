use Rattle.std.proofs.Common.{◌+◌, [], ◌∷◌, take, sym, subst, rules}
use Rattle.std.proofs.lemmas.List.{take_all}
use Rattle.std.proofs.lemmas.Result.{err_from_is_err_and}
use Rattle.gx_walk.specs.Frontier.{is_excluded, IsAdmittedOf, Mentions}
use Rattle.gx_walk.proofs.AskedLemmas.{asks_none, asks_on}
use Rattle.gx_walk.proofs.IdLemmas.{next_taken}
use Rattle.gx_walk.proofs.MentionLemmas.{mentions_none, mentions_on, among_taken}
use Rattle.gx_walk.proofs.TellLemmas.{told_all, told_then, told_both, causes_then}
use Rattle.gx_walk.proofs.commit.frontier.mention_all.Goals as goal

pub loop-id-init : goal.loop-id-init
loop-id-init g c = (
  c.requires.ready,
  c.requires.asked,
  asks_none g.F.Filter.admit_gives c.args.frontier.now.asked.items c.args.filter.now c.requires.asked.once,
  told_all (g.S.Meanings.state c.args.store.now) (λ h. Mentions h c.args.sorting (is_excluded c.args.sets.now) [] c.args.frontier.now c.args.frontier.now)
      (λ h. mentions_none h c.args.sorting (is_excluded c.args.sets.now) c.args.frontier.now),
)

pub loop-id-preserved : goal.loop-id-preserved
loop-id-preserved g c =
    let before = c.loop-id.invariant in
    let ids = c.args.ids.now in
    let taken = next_taken ids c.loop-id.id-index _ c.loop-id-test.true (search rules) in (
      c.mention.ensures.ready,
      c.mention.ensures.asked,
      asks_on g.F.Filter.admit_gives _ _ _ _ _ _ before.2 c.mention.ensures.asks,
      told_both (g.S.Meanings.state c.args.store.now) (λ h. Mentions h c.args.sorting (is_excluded c.args.sets.now) (take c.loop-id.id-index ids) c.args.frontier.now c.loop-id.frontier)
          (λ h. Mentions h c.args.sorting (is_excluded c.args.sets.now) (_ ∷ []) c.loop-id.frontier c.mention.new.frontier)
          (λ h. Mentions h c.args.sorting (is_excluded c.args.sets.now) (take (c.loop-id.id-index + 1) ids) c.args.frontier.now c.mention.new.frontier)
          (λ h first second. subst (λ w. Mentions h c.args.sorting (is_excluded c.args.sets.now) w c.args.frontier.now c.mention.new.frontier) (sym taken)
          (mentions_on h c.args.sorting (is_excluded c.args.sets.now) _ _ _ _ _ first second)) before.3 c.in_ok-mention.ensures.kept,
    )

pub returns-in_err-mention-clause-asks : goal.returns-in_err-mention-clause-asks
returns-in_err-mention-clause-asks g c = asks_on g.F.Filter.admit_gives _ _ _ _ _ _ c.loop-id.invariant.2 c.mention.ensures.asks

pub returns-in_err-mention-clause-causes : goal.returns-in_err-mention-clause-causes
returns-in_err-mention-clause-causes g c =
    let p = err_from_is_err_and c.from_residual.result c.from_residual.ensures.1 in
    rw (p.1, p.2) (causes_then (g.S.Meanings.state c.args.store.now) (IsAdmittedOf c.args.sets.now c.mention.new.frontier.asked.items (_ ∷ []))
    (IsAdmittedOf c.args.sets.now c.mention.new.frontier.asked.items c.args.ids.now) _
    (λ one a. among_taken c.args.sets.now _ c.args.ids.now c.loop-id.id-index _ one c.loop-id-test.true (search rules) a) c.in_err-mention.ensures.causes)

pub returns-clause-asks : goal.returns-clause-asks
returns-clause-asks g c = c.loop-id.invariant.2

pub returns-clause-kept : goal.returns-clause-kept
returns-clause-kept g c =
    let past = c.loop-id-test.false in
    told_then (g.S.Meanings.state c.args.store.now) _ _ (λ h m. subst (λ w. Mentions h c.args.sorting (is_excluded c.args.sets.now) w c.args.frontier.now c.loop-id.frontier) (take_all c.loop-id.id-index c.args.ids.now past) m) c.loop-id.invariant.3
