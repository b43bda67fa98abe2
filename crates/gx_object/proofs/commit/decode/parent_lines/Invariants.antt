use Rattle.std.proofs.Common.{length, map}
use Rattle.bstr.specs.BStr.{bstr_bytes}
use Rattle.gx_object.specs.CommitLines.{AddsParents}
use Rattle.gx_object.proofs.commit.decode.parent_lines.Given as goal

-- the parents so far stand in front
abbrev pub invariant-loop-parent : goal.invariant-loop-parent
invariant-loop-parent l = AddsParents l.hash l.bytes (map bstr_bytes l.parents.items) l.rest

abbrev pub decreases-loop-parent : goal.decreases-loop-parent
decreases-loop-parent l = length l.rest
