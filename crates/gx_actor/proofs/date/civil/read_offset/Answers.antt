use Rattle.std.proofs.Common.{◌≡◌, ◌∙◌, ℤ, sym, subst, arith, rules, to_z, of_z, w32}
use Rattle.std.proofs.lemmas.Int.{ints, to_z-of_z}
use Rattle.gx_object.specs.TimeSpelling.{SpellsOffset}
use Rattle.gx_actor.proofs.OffsetLemmas.{offset_read, offset_unread}
use Rattle.gx_actor.proofs.date.civil.read_offset.Goals as goal

pub returns-then-is_offset : goal.returns-then-is_offset
returns-then-is_offset c =
    let same : to_z w32 (of_z w32 c.offset_of.result) ≡ c.offset_of.result = first_of (search rules, omega (arith, ints), omega (arith, ints, to_z-of_z), grind (arith, ints, to_z-of_z)) in
    subst (λ (z : ℤ). SpellsOffset c.args.text.now z) (sym (same ∙ c.offset_of.ensures)) (offset_read c.args.text.now (sym c.if-is_offset.ensures.value))

pub returns-else-is_offset : goal.returns-else-is_offset
returns-else-is_offset c = offset_unread c.args.text.now (sym c.if-is_offset.ensures.value)
