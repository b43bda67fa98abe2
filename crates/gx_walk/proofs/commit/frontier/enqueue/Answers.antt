use Rattle.std.proofs.Common.{◌≡◌, Some, refl, inl, inr, subst, rules}
use Rattle.std.specs.BTreeMap as map
use Rattle.gx_walk.specs.History.{time_of}
use Rattle.gx_walk.specs.Rank.{rank_of}
use Rattle.gx_walk.specs.Walk.{IsInTime}
use Rattle.gx_walk.specs.Frontier.{key_cmp, Enqueues, IsReadFor}
use Rattle.gx_walk.proofs.TellLemmas.{told_both}
use Rattle.gx_walk.proofs.commit.frontier.enqueue.Goals as goal

pub returns-in_default-clause-queued : goal.returns-in_default-clause-queued
returns-in_default-clause-queued g c =
    told_both (g.S.Meanings.state c.args.store.now) (λ h. ¬ IsInTime c.args.sorting (time_of h c.args.id)) (λ h. IsReadFor c.args.sorting h c.args.id)
    (λ h. Enqueues h c.args.sorting c.args.place c.args.id c.args.frontier.now c.args.frontier.now)
    (λ h older read. record { read = read; queue = inr (older, refl) }) (rw c.in_default.is at c.in_ok-rank.ensures.older) c.in_ok-rank.ensures.read

pub returns-clause-queued : goal.returns-clause-queued
returns-clause-queued g c =
    told_both (g.S.Meanings.state c.args.store.now)
    (λ h. (c.in-Some.rank ≡ rank_of c.args.sorting (time_of h c.args.id)) × IsInTime c.args.sorting (time_of h c.args.id)) (λ h. IsReadFor c.args.sorting h c.args.id)
    (λ h. Enqueues h c.args.sorting c.args.place c.args.id c.args.frontier.now (record { queue = c.insert.new.self; seen = c.args.frontier.now.seen; asked = c.args.frontier.now.asked; count = c.args.frontier.now.count }))
    (λ h ranked read. record {
      read = read;
      queue = inl (ranked.1, subst (λ r. map.Updates key_cmp c.args.frontier.now.queue c.insert.new.self (r, c.args.place) (Some c.args.id)) ranked.0 (search rules));
    }) (rw c.in-Some.is at c.in_ok-rank.ensures.rank) c.in_ok-rank.ensures.read
