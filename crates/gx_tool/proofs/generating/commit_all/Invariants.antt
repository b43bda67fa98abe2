use Rattle.std.proofs.Common.{◌-◌}
use Rattle.gix.specs.Repository.{held_by}
use Rattle.gx_tool.proofs.GeneratingLemmas.{SoFar}
use Rattle.gx_tool.proofs.generating.commit_all.Given as goal

-- the commits so far were made
abbrev pub invariant-commits : goal.invariant-commits
invariant-commits g l = SoFar l.count (held_by g.S.Meanings.state l.fn.repo) (held_by g.S.Meanings.state l.repo) l.progress l.number

abbrev pub decreases-commits : goal.decreases-commits
decreases-commits g l = l.count - l.progress.count
