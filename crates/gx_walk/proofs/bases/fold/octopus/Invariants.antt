use Rattle.std.proofs.Common.{drop, ◌∷◌, [], Option}
use Rattle.gx_hash.specs.declared.oid.ObjectId.{ObjectId}
use Rattle.gx_walk.specs.Graph.{Extends, IsGraphIn}
use Rattle.gx_walk.specs.History.{Told, Reaches}
use Rattle.gx_walk.specs.MergeBase.{IsOctopus, shown_parents}
use Rattle.gx_walk.proofs.FoldLemmas.{IsOwnOr}
use Rattle.gx_walk.proofs.bases.fold.octopus.Given as goal

abbrev pub invariant-loop-other : goal.invariant-loop-other
invariant-loop-other g l = Told (g.S.Meanings.state l.store) (λ history. (found : Option ObjectId)
    → IsOctopus history l.shallow l.base (drop l.other-index l.others) found → IsOctopus history l.shallow l.fn.one l.others found)
    × Told (g.S.Meanings.state l.store) (λ history. Reaches (shown_parents history l.shallow) (l.fn.one ∷ []) l.base)
    × IsOwnOr l.fn.one l.others l.base
    × IsGraphIn (g.S.Meanings.state l.store) l.graph × Extends l.initial.graph l.graph
