use Rattle.std.proofs.Common.{◌+◌, ◌-◌, ◌/◌, ℕ, length, sym, refl, arith}
use Rattle.std.proofs.lemmas.Option.{slice_get_read}
use Rattle.gx_actor.specs.Index.{key_of}
use Rattle.gx_actor.proofs.SearchLemmas.{after_less, before_greater, look_at, look_none}
use Rattle.gx_actor.proofs.mailmap.index.places_of.Goals as goal

pub loop-low-preserved-in-Less : goal.loop-low-preserved-in-Less
loop-low-preserved-in-Less c =
    let middle : ℕ = c.loop-low.low + (c.loop-low.high - c.loop-low.low) / 2 in
    let here = slice_get_read c.args.slots.now (length c.args.slots.now) middle c.index-slots-middle.result refl (omega arith) c.index-slots-middle.is in
    record {
      within = c.loop-low.invariant.within;
      between = λ k slot at equal. (omega (arith, after_less c.args.slots.now (key_of c.args.email.now c.args.name.now) k middle slot c.index-slots-middle.result c.requires at here (sym c.in-Less.ensures) equal), (c.loop-low.invariant.between k slot at equal).1);
    }

pub returns-in-Equal : goal.returns-in-Equal
returns-in-Equal c =
    let middle : ℕ = c.loop-low.low + (c.loop-low.high - c.loop-low.low) / 2 in
    let here = slice_get_read c.args.slots.now (length c.args.slots.now) middle c.index-slots-middle.result refl (omega arith) c.index-slots-middle.is in
    sym (look_at c.args.slots.now (key_of c.args.email.now c.args.name.now) middle c.index-slots-middle.result c.requires here (sym c.in-Equal.ensures))

pub loop-low-preserved : goal.loop-low-preserved
loop-low-preserved c =
    let middle : ℕ = c.loop-low.low + (c.loop-low.high - c.loop-low.low) / 2 in
    let here = slice_get_read c.args.slots.now (length c.args.slots.now) middle c.index-slots-middle.result refl (omega arith) c.index-slots-middle.is in
    record {
      within = omega arith;
      between = λ k slot at equal. ((c.loop-low.invariant.between k slot at equal).0, before_greater c.args.slots.now (key_of c.args.email.now c.args.name.now) k middle slot c.index-slots-middle.result c.requires at here (sym c.in-Greater.ensures) equal);
    }

pub returns : goal.returns
returns c = sym (look_none c.args.slots.now (key_of c.args.email.now c.args.name.now) (λ k slot at equal. omega (arith, c.loop-low.invariant.between k slot at equal)))
