use Rattle.std.proofs.Common.{length, map}
use Rattle.gx_object.specs.CommitSpelling.{header_text}
use Rattle.gx_object.specs.CommitLines.{AddsHeaders}
use Rattle.gx_object.proofs.commit.decode.push_headers.Given as goal

-- the headers that were added stand in front
abbrev pub invariant-loop-header : goal.invariant-loop-header
invariant-loop-header l = AddsHeaders l.bytes (map header_text l.fn.headers.items) (map header_text l.headers.items) l.rest

abbrev pub decreases-loop-header : goal.decreases-loop-header
decreases-loop-header l = length l.rest
