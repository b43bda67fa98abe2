use Rattle.std.proofs.Common.{refl}
use Rattle.gix.specs.Repository.{held_by}
use Rattle.gix.specs.Writes.{buffer_writing}
use Rattle.gix.proofs.WritingLemmas.{stores_known, wrote}
use Rattle.gix.proofs.repository.Repository.write_buf_with_known_id.Goals as goal

pub returns : goal.returns
returns g c = wrote (buffer_writing c.args.kind c.args.from.now) c.written_object_is_stored.ensures (held_by g.S.Meanings.state c.args.self.now) _ _ refl tt
    (stores_known (c.args.kind, c.args.from.now) _ _ _ c.requires c.in_ok-write.ensures.ok)
