use Rattle.std.proofs.Common.{take, IfSome}
use Rattle.std.specs.List.{AllByRecursion}
use Rattle.gx_refs.specs.Finding.{candidates, MeansNothing}
use Rattle.gx_refs.proofs.finding.find_in.Given as goal

-- the candidates so far mean nothing
abbrev pub invariant-loop-at : goal.invariant-loop-at
invariant-loop-at g l = IfSome (g.S.Meanings.state l.store).references (λ refs. AllByRecursion (MeansNothing l.space refs.targets) (take l.at (candidates l.name)))
