use Rattle.std.proofs.Common.{length}
use Rattle.gx_script.specs.declared.lists.WalkId.{WalkId}
use Rattle.gx_script.specs.Fields.{IsId, walk_id_text}
use Rattle.gx_script.proofs.SpacedLemmas.{ReadsSpaced}
use Rattle.gx_script.proofs.spaced.walk_ids.Given as goal

abbrev pub invariant-fields : goal.invariant-fields
invariant-fields l = record {
  reads : ReadsSpaced walk_id_text (λ (walked : WalkId). IsId l.hash walked.id) l.most l.bytes l.ids.items l.rest;
}

abbrev pub decreases-fields : goal.decreases-fields
decreases-fields l = length l.rest
