use Rattle.std.proofs.Common.{refl}
use Rattle.gx_refs.proofs.PlanLemmas.{places_to}
use Rattle.gx_refs.proofs.plan.way_along.Goals as goal

pub returns-clause-way : goal.returns-clause-way
returns-clause-way c = ((places_to c.args.space.now c.args.names.now c.end-item.result c.in_ok-places_along.field-0 c.in_ok-place_of.field-0 c.in-len1-up.len_at_least c.end-item.is c.in_ok-places_along.ensures c.in_ok-place_of.ensures.name c.in_ok-place_of.ensures.shown).0, refl)

pub returns-clause-shown : goal.returns-clause-shown
returns-clause-shown c = record {
  places = (places_to c.args.space.now c.args.names.now c.end-item.result c.in_ok-places_along.field-0 c.in_ok-place_of.field-0 c.in-len1-up.len_at_least c.end-item.is c.in_ok-places_along.ensures c.in_ok-place_of.ensures.name c.in_ok-place_of.ensures.shown).1;
  target = c.in_ok-shown_found.ensures;
}
