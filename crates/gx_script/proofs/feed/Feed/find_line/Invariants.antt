use Rattle.std.proofs.Common.{◌≡◌, ◌≤◌, [], length, take}
use Rattle.gx_script.specs.Items.{NoNewline, line_limit}
use Rattle.gx_script.specs.Reading.{Moves}
use Rattle.gx_script.proofs.feed.Feed.find_line.Given as goal

abbrev pub invariant-fills : goal.invariant-fills
invariant-fills g l = record {
  moved : Moves l.fn.self l.self (g.I.Source.left l.fn.input) (g.I.Source.left l.input) [];
  within : l.scanned ≤ length l.self.held;
  short : l.scanned ≤ line_limit;
  open_line : NoNewline (take l.scanned l.self.held);
  later : g.I.Source.faults l.fn.input ≤ g.I.Source.faults l.input;
  kind : l.self.hash ≡ l.fn.self.hash;
}

abbrev pub decreases-fills : goal.decreases-fills
decreases-fills g l = l.self.room
