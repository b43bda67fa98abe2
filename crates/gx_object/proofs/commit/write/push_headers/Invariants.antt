use Rattle.std.proofs.Common.{◌≡◌, ◌++◌, drop}
use Rattle.std.specs.List.{flat_map}
use Rattle.gx_object.specs.Commit.{header_line}
use Rattle.gx_object.proofs.commit.write.push_headers.Given as goal

-- what is written and what is left to write are the whole
abbrev pub invariant-loop-header : goal.invariant-loop-header
invariant-loop-header l = l.out.items ++ flat_map header_line (drop l.header-index l.headers) ≡ l.fn.out.items ++ flat_map header_line l.headers
