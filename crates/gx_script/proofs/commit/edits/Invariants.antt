use Rattle.std.proofs.Common.{◌≡◌, ◌+◌, ◌≤◌, length}
use Rattle.gx_script.proofs.CommitLemmas.{EditsRead}
use Rattle.gx_script.proofs.commit.edits.Given as goal

abbrev pub invariant-edits : goal.invariant-edits
invariant-edits g l = record {
  read : EditsRead l.most l.fn.feed l.feed (g.I.Source.left l.fn.input) (g.I.Source.left l.input) l.edits.items l.room;
  later : g.I.Source.faults l.fn.input ≤ g.I.Source.faults l.input;
  kind : l.feed.hash ≡ l.fn.feed.hash;
}

abbrev pub decreases-edits : goal.decreases-edits
decreases-edits g l = length l.feed.held + l.feed.room
