use Rattle.gx_walk.specs.Graph.{Extends, IsGraphIn}
use Rattle.gx_hash.specs.ObjectIds.{has_id}
use Rattle.gx_walk.specs.History.{Told, followed}
use Rattle.gx_walk.specs.Reaching.{AreListed, AreRead, IsReaching, left_to_do}
use Rattle.gx_walk.proofs.commit.reach.reached.Given as goal

abbrev pub invariant-loop-id : goal.invariant-loop-id
invariant-loop-id g l = Told (g.S.Meanings.state l.store) (λ history.
    IsReaching history (followed history l.parents (has_id l.shallow)) l.ids l.found.set l.pending.items)
    × AreListed l.found × AreRead l.graph l.found.set
    × IsGraphIn (g.S.Meanings.state l.store) l.graph × Extends l.initial.graph l.graph

abbrev pub decreases-loop-id : goal.decreases-loop-id
decreases-loop-id g l = left_to_do l.found.set l.pending.items
