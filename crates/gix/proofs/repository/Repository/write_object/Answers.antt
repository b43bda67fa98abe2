use Rattle.std.proofs.Common.{refl, ◌∙◌}
use Rattle.std.proofs.lemmas.Result.{err_from_is_err_and}
use Rattle.gix.specs.Repository.{held_by}
use Rattle.gix.specs.Writes.{object_writing}
use Rattle.gix.proofs.WritingLemmas.{spelling_failed, stores_parts, wrote}
use Rattle.gix.proofs.repository.Repository.write_object.Goals as goal

pub returns-in_err-bytes : goal.returns-in_err-bytes
returns-in_err-bytes g c =
    let p = err_from_is_err_and c.from_residual.result c.from_residual.ensures.1 in
    rw (p.1, p.2) (spelling_failed _ _ _ _ (held_by g.S.Meanings.state c.args.self.now) _ c.in_err-bytes.ensures.causes)

pub returns : goal.returns
returns g c =
    let object = c.args.object.now in
    wrote (object_writing (g.O.WriteTo.object_kind object) (g.O.WriteTo.spelling object) (g.O.WriteTo.is_writable object)) c.written_object_is_stored.ensures (held_by g.S.Meanings.state c.args.self.now) _ _ refl c.in_ok-bytes.ensures.writable
    (stores_parts _ _ _ _ _ _ _ c.kind.ensures (c.as_slice.ensures ∙ c.in_ok-bytes.ensures.ok) c.in_ok-write_object.ensures.id c.in_ok-write_object.ensures.kind c.in_ok-write_object.ensures.ok)
