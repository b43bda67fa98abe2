use Rattle.std.proofs.Common.{◌+◌, length}
use Rattle.gx_tool.specs.Course.{moment_of}
use Rattle.gx_tool.proofs.CourseLemmas.{SoFar}
use Rattle.gx_tool.proofs.running.serve.Given as goal

-- the requests so far were run
abbrev pub invariant-requests : goal.invariant-requests
invariant-requests g l =
    SoFar l.limit (moment_of g.S.Meanings.state g.I.Source.left g.I.Source.faults g.O.Sink.written g.O.Sink.faults l.fn.repo l.fn.input l.fn.output)
    (moment_of g.S.Meanings.state g.I.Source.left g.I.Source.faults g.O.Sink.written g.O.Sink.faults l.repo l.input l.output) l.reader l.accepted

abbrev pub decreases-requests : goal.decreases-requests
decreases-requests g l = length l.reader.held + l.reader.room
