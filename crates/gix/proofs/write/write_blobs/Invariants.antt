use Rattle.std.proofs.Common.{◌≡◌, take, drop}
use Rattle.gx_store.specs.State.{Becomes, all_stored}
use Rattle.gx_edit.specs.PathMap.{blobs_of}
use Rattle.gix.specs.Stages.{blob_ids}
use Rattle.gix.proofs.write.write_blobs.Given as goal

-- the first blobs are stored, and the ids of the others are left
abbrev pub invariant-loop-edit : goal.invariant-loop-edit
invariant-loop-edit g l = record {
  left : l.rest ≡ blob_ids (g.S.Meanings.state l.fn.store).hash (drop l.edit-index l.edits);
  stored : Becomes (all_stored (blobs_of (take l.edit-index l.edits)) (g.S.Meanings.state l.fn.store)) (g.S.Meanings.state l.store);
}
