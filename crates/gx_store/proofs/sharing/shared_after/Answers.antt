use Rattle.std.proofs.Common.{rules, ◌≡◌, ◌∙◌, ap, subst}
use Rattle.hex.specs.Hex.{IsBytes}
use Rattle.gx_store.proofs.NearestLemmas.{after_none, after_some}
use Rattle.gx_store.proofs.sharing.shared_after.Goals as goal

pub returns-in-None : goal.returns-in-None
returns-in-None c = after_none c.args.map.now c.args.id.now c.range.result (c.range.ensures.in_range tt) c.in-None.ensures.steps.0

pub returns-in-Some : goal.returns-in-Some
returns-in-Some c = after_some c.args.map.now c.args.id.now c.range.result c.in-Some.nearest.now c.in-Some.field-0-1.now c.next.new.self _ (subst IsBytes c.as_bytes.ensures.bytes c.are_bytes.ensures) c.id_has_digits.ensures.held (c.range.ensures.in_range tt) c.in-Some.ensures.steps c.shared_with.ensures.same c.shared_with.ensures.apart
