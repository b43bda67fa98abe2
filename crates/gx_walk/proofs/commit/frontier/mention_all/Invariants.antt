use Rattle.std.proofs.Common.{take}
use Rattle.gx_walk.specs.History.{Told}
use Rattle.gx_walk.specs.Simple.{Asks}
use Rattle.gx_walk.specs.Frontier.{is_excluded, IsAskedBy, Mentions}
use Rattle.gx_walk.proofs.commit.frontier.mention_all.Given as goal

abbrev pub invariant-loop-id : goal.invariant-loop-id
invariant-loop-id g l = g.F.Filter.can_admit l.filter
    × IsAskedBy l.frontier
    × Asks g.F.Filter.admit_gives l.initial.frontier.asked.items l.frontier.asked.items l.initial.filter l.filter
    × Told (g.S.Meanings.state l.store) (λ history.
    Mentions history l.sorting (is_excluded l.sets) (take l.id-index l.ids) l.initial.frontier l.frontier)
