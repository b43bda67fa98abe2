use Rattle.std.proofs.Common.{◌≤◌, length}
use Rattle.gx_tool.specs.Course.{WritesUpTo}
use Rattle.gx_tool.proofs.running.write_all.Given as goal

abbrev pub invariant-loop-rest : goal.invariant-loop-rest
invariant-loop-rest g l = record {
  written : WritesUpTo (g.O.Sink.written l.fn.output) (g.O.Sink.written l.output) l.bytes l.rest;
  later : g.O.Sink.faults l.fn.output ≤ g.O.Sink.faults l.output;
}

abbrev pub decreases-loop-rest : goal.decreases-loop-rest
decreases-loop-rest g l = length l.rest
