use Rattle.std.proofs.Common.{◌≡◌, ◌∙◌, ◌||◌, not, ap, subst}
use Rattle.gx_hash.specs.declared.oid.ObjectId.{ObjectId}
use Rattle.gx_hash.specs.ObjectIds.{id_eq, has_id}
use Rattle.gx_hash.proofs.IdSetLemmas.{found_is, inserted_id}
use Rattle.gx_hash.proofs.object_ids.ObjectIds.insert.Goals as goal

pub returns-clause-new : goal.returns-clause-new
returns-clause-new c =
    c.in_ok-new.ensures.added ∙ ap not (found_is c.self.inside.set.keys c.args.id ∙ ap (λ ids. has_id ids c.args.id) c.self.view_is)

pub returns-clause-ok : goal.returns-clause-ok
returns-clause-ok c =
    subst (λ ids. (one : ObjectId) → has_id c.insert.new.self.keys one ≡ (id_eq c.args.id one || has_id ids one)) c.self.view_is
    (inserted_id c.self.inside.set.keys c.insert.new.self.keys c.args.id c.in_ok-new.ensures.updates.0)
