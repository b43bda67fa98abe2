use Rattle.std.proofs.Common.{length}
use Rattle.std.specs.Option.{option_map}
use Rattle.gx_object.specs.TagLines.{ReadsSignature}
use Rattle.gx_object.proofs.tag.lines.last_signature.Given as goal

-- the last signature in the lines so far
abbrev pub invariant-loop-behind : goal.invariant-loop-behind
invariant-loop-behind l = ReadsSignature l.text l.rest (option_map (λ s. s.now) l.last)

abbrev pub decreases-loop-behind : goal.decreases-loop-behind
decreases-loop-behind l = length l.rest
