use Rattle.std.proofs.Common.{length, List, ℕ}
use Rattle.gx_script.specs.Items.{IsField}
use Rattle.gx_script.proofs.SpacedLemmas.{ReadsSpaced}
use Rattle.gx_script.proofs.spaced.patterns.Given as goal

abbrev pub invariant-fields : goal.invariant-fields
invariant-fields l = record {
  reads : ReadsSpaced (λ (field : List ℕ). field) IsField (length l.bytes) l.bytes l.fields.items l.rest;
}

abbrev pub decreases-fields : goal.decreases-fields
decreases-fields l = length l.rest
