use Rattle.std.proofs.Common.{Some, None, refl}
use Rattle.gix.specs.Repository.{held_by}
use Rattle.gix.proofs.StreamLemmas.{stream_means}
use Rattle.gix.proofs.repository.Repository.write_stream.Goals as goal

pub returns : goal.returns
returns g c = stream_means c.written_object_is_stored.ensures (record { kind = c.args.kind; size = Some c.args.size; id = None }) _ _ (held_by g.S.Meanings.state c.args.self.now) _ _ refl c.write_from.ensures.later c.write_from.ensures.ok c.write_from.ensures.err
