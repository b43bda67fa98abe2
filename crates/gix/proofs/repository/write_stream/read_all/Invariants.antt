use Rattle.std.proofs.Common.{◌≤◌, ◌-◌, length}
use Rattle.gx_store.specs.Outside.{Takes}
use Rattle.gix.specs.Streams.{stream_limit}
use Rattle.gix.proofs.repository.write_stream.read_all.Given as goal

abbrev pub invariant-reads : goal.invariant-reads
invariant-reads g l = record {
  takes : Takes (g.I.Source.left l.fn.from) (g.I.Source.left l.from) l.bytes.items;
  few : length l.bytes.items ≤ stream_limit;
  later : g.I.Source.faults l.fn.from ≤ g.I.Source.faults l.from;
}

abbrev pub decreases-reads : goal.decreases-reads
decreases-reads g l = stream_limit - length l.bytes.items
