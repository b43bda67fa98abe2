use Rattle.std.proofs.Common.{◌≡◌, ◌++◌, drop}
use Rattle.std.specs.List.{flat_map}
use Rattle.gx_tool.specs.Reply.{reference_text}
use Rattle.gx_tool.proofs.answer.push_references.Given as goal

abbrev pub invariant-loop-reference : goal.invariant-loop-reference
invariant-loop-reference l = l.out.items ++ flat_map reference_text (drop l.reference-index l.references) ≡ l.fn.out.items ++ flat_map reference_text l.references
