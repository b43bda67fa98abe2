use Rattle.std.proofs.Common.{◌≡◌, ◌++◌, drop}
use Rattle.std.specs.List.{flat_map}
use Rattle.gx_object.specs.Commit.{folded_byte}
use Rattle.gx_object.proofs.commit.write.push_folded.Given as goal

-- what is written and what is left to write are the whole
abbrev pub invariant-loop-byte : goal.invariant-loop-byte
invariant-loop-byte l = l.out.items ++ flat_map folded_byte (drop l.byte-index l.value) ≡ l.fn.out.items ++ flat_map folded_byte l.value
