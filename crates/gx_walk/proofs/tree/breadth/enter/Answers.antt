use Rattle.std.proofs.Common.{Contains, List, refl, subst, sym}
use Rattle.std.proofs.lemmas.Bool.{both_ways}
use Rattle.gx_hash.specs.declared.oid.ObjectId.{ObjectId}
use Rattle.gx_walk.proofs.tree.breadth.enter.Goals as goal

pub returns-clause-ok : goal.returns-clause-ok
returns-clause-ok g c = record {
  apart = λ among. both_ways _ c.if-is_above.false (c.is_above.ensures.1 (subst (λ (ids : List ObjectId). Contains ids c.args.tree.id) (sym c.deref.ensures.value) among));
  stored = c.in_ok-opened.ensures.opened;
  above_is = c.in_ok-push.ensures.items;
  path_is = refl;
  place_is = refl;
}
