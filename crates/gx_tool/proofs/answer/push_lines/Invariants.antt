use Rattle.std.proofs.Common.{◌≡◌, ◌++◌, drop}
use Rattle.std.specs.List.{flat_map}
use Rattle.gx_tool.specs.Reply.{log_line_text}
use Rattle.gx_tool.proofs.answer.push_lines.Given as goal

abbrev pub invariant-loop-line : goal.invariant-loop-line
invariant-loop-line l = l.out.items ++ flat_map log_line_text (drop l.line-index l.lines) ≡ l.fn.out.items ++ flat_map log_line_text l.lines
