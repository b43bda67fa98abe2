use Rattle.std.proofs.Common.{◌≡◌, ◌++◌, drop}
use Rattle.gx_object.specs.CommitSpelling.{unfolded, unfolded_behind}
use Rattle.gx_object.proofs.commit.decode.push_unfolded.Given as goal

-- what is written and what is left to write are the whole
abbrev pub invariant-loop-byte : goal.invariant-loop-byte
invariant-loop-byte l = l.out.items ++ unfolded_behind l.behind_newline (drop l.byte-index l.raw) ≡ l.fn.out.items ++ unfolded l.raw
