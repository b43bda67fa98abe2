use Rattle.std.proofs.Common.{◌≡◌, ◌+◌, ◌≤◌, length}
use Rattle.gx_script.proofs.CommitLemmas.{ParentsRead}
use Rattle.gx_script.proofs.commit.parents.Given as goal

abbrev pub invariant-parents : goal.invariant-parents
invariant-parents g l = record {
  read : ParentsRead l.fn.feed l.feed (g.I.Source.left l.fn.input) (g.I.Source.left l.input) l.ids.items;
  later : g.I.Source.faults l.fn.input ≤ g.I.Source.faults l.input;
  kind : l.feed.hash ≡ l.fn.feed.hash;
}

abbrev pub decreases-parents : goal.decreases-parents
decreases-parents g l = length l.feed.held + l.feed.room
