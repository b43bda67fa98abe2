use Rattle.gx_refs.specs.Prepared.{AreEditsOfKind}
use Rattle.store_probe.proofs.reference_edits.edits_in.Given as goal

-- the edits so far are of the kind
abbrev pub invariant-loop-words : goal.invariant-loop-words
invariant-loop-words l = AreEditsOfKind l.hash l.edits.items
