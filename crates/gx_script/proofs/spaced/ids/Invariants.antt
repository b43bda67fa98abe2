use Rattle.std.proofs.Common.{length}
use Rattle.gx_hash.specs.ObjectId.{hex_of}
use Rattle.gx_script.specs.Fields.{IsId}
use Rattle.gx_script.proofs.SpacedLemmas.{ReadsSpaced}
use Rattle.gx_script.proofs.spaced.ids.Given as goal

abbrev pub invariant-fields : goal.invariant-fields
invariant-fields l = record {
  reads : ReadsSpaced hex_of (IsId l.hash) l.most l.bytes l.ids.items l.rest;
}

abbrev pub decreases-fields : goal.decreases-fields
decreases-fields l = length l.rest
