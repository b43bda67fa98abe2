use Rattle.std.proofs.Common.{None, refl}
use Rattle.gx_object.specs.declared.kind.Kind.TheVariants as object_kind
use Rattle.gix.specs.Repository.{held_by}
use Rattle.gix.proofs.StreamLemmas.{stream_means}
use Rattle.gix.proofs.repository.Repository.write_blob_stream.Goals as goal

pub returns : goal.returns
returns g c = stream_means c.written_object_is_stored.ensures (record { kind = object_kind.Blob; size = None; id = None }) _ _ (held_by g.S.Meanings.state c.args.self.now) _ _ refl c.write_from.ensures.later c.write_from.ensures.ok c.write_from.ensures.err
