use Rattle.std.proofs.Common.{refl}
use Rattle.gix.specs.Repository.{held_by}
use Rattle.gix.specs.Writes.{buffer_writing}
use Rattle.gix.proofs.WritingLemmas.{wrote}
use Rattle.gix.proofs.repository.Repository.write_buf.Goals as goal

pub returns : goal.returns
returns g c = wrote (buffer_writing c.args.kind c.args.from.now) c.written_object_is_stored.ensures (held_by g.S.Meanings.state c.args.self.now) _ _ refl tt
    (record { is_id = c.in_ok-write_object.ensures.id; kind = c.in_ok-write_object.ensures.kind; becomes = c.in_ok-write_object.ensures.ok })
