use Rattle.std.proofs.Common.{Some, None, sym, ◌∙◌, arith}
use Rattle.gx_object.specs.Tree.{sort_key}
use Rattle.gx_edit.proofs.ListingLemmas.{cmp_at, then_apart, then_same}
use Rattle.std.proofs.lemmas.Option.{slice_get_within}
use Rattle.gx_edit.proofs.stored_tree.sort_key.compare_keys.Goals as goal

pub returns-in-None-None : goal.returns-in-None-None
returns-in-None-None c = cmp_at (sort_key c.args.a.now) (sort_key c.args.b.now) c.loop-x.at None None (sym c.key_byte.ensures.value ∙ c.in-None-None.is-0) (sym c.key_byte-in-loop-x.ensures.value ∙ c.in-None-None.is-1) c.loop-x.invariant.1

pub returns-in-None-Some : goal.returns-in-None-Some
returns-in-None-Some c = cmp_at (sort_key c.args.a.now) (sort_key c.args.b.now) c.loop-x.at None (Some c.in-None-Some.field-0-1) (sym c.key_byte.ensures.value ∙ c.in-None-Some.is-0) (sym c.key_byte-in-loop-x.ensures.value ∙ c.in-None-Some.is-1) c.loop-x.invariant.1

pub returns-in-Some-None : goal.returns-in-Some-None
returns-in-Some-None c = cmp_at (sort_key c.args.a.now) (sort_key c.args.b.now) c.loop-x.at (Some c.in-Some-None.field-0-0) None (sym c.key_byte.ensures.value ∙ c.in-Some-None.is-0) (sym c.key_byte-in-loop-x.ensures.value ∙ c.in-Some-None.is-1) c.loop-x.invariant.1

pub returns-then-x-y : goal.returns-then-x-y
returns-then-x-y c = c.cmp.ensures ∙ sym (then_apart c.in-Some-Some.x c.in-Some-Some.y _ c.if-x-y.true)
    ∙ cmp_at (sort_key c.args.a.now) (sort_key c.args.b.now) c.loop-x.at (Some c.in-Some-Some.x) (Some c.in-Some-Some.y) (sym c.key_byte.ensures.value ∙ c.in-Some-Some.is-0) (sym c.key_byte-in-loop-x.ensures.value ∙ c.in-Some-Some.is-1) c.loop-x.invariant.1

pub loop-x-preserved : goal.loop-x-preserved
loop-x-preserved c =
    let within = slice_get_within (sort_key c.args.a.now) c.loop-x.at c.in-Some-Some.x (sym c.key_byte.ensures.value ∙ c.in-Some-Some.is-0) in (
      omega (arith, within),
      sym (then_same c.in-Some-Some.x c.in-Some-Some.y _ c.if-x-y.false)
          ∙ cmp_at (sort_key c.args.a.now) (sort_key c.args.b.now) c.loop-x.at (Some c.in-Some-Some.x) (Some c.in-Some-Some.y) (sym c.key_byte.ensures.value ∙ c.in-Some-Some.is-0) (sym c.key_byte-in-loop-x.ensures.value ∙ c.in-Some-Some.is-1) c.loop-x.invariant.1,
    )
