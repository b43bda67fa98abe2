use Rattle.std.proofs.Common.{rules, ◌≡◌, ◌∙◌, sym, ap, ◌++◌, ◌∷◌, [], arith}
use Rattle.std.specs.declared.ops.Bound.TheVariants.{Included, Unbounded}
use Rattle.std.specs.BTreeMap.Range.{entries_between}
use Rattle.std.proofs.lemmas.Grind.{common_steps}
use Rattle.gx_rules.specs.Name.{name_cmp}
use Rattle.gx_store.proofs.Prefixes.{wanted, range_from, listed_names, step_listed, step_past, step_end}
use Rattle.gx_store.proofs.slots.names_of.Goals as goal

pub loop-name-init : goal.loop-name-init
loop-name-init c =
    let start = range_from c.args.prefix.now c.args.map.now.entries c.into_iter-name-iterator.result c.range-name-items.ensures.ordered
    (c.into_iter-name-iterator.ensures.into_iter_gives ∙ c.range-name-items.ensures.between tt
    ∙ ap (λ p. entries_between name_cmp (Included p) Unbounded c.args.map.now.entries) c.in_ok-from.ensures) in
    (tt, tt, start.0, ap (λ x. x ++ wanted c.args.prefix.now c.into_iter-name-iterator.result) c.new-names.ensures.items ∙ start.1)

pub returns-then-not-starts_with : goal.returns-then-not-starts_with
returns-then-not-starts_with c =
    let i = c.loop-name.invariant in
    c.from_vec.ensures ∙ step_end c.args.prefix.now c.in-Some.name.now c.in-Some.slot.now _ c.next.new.self _ _ c.in-Some.ensures.steps i.2 i.3 (search rules) ∙ sym (listed_names c.args.prefix.now c.args.map.now.entries c.range-name-items.ensures.ordered)

pub loop-name-preserved-in_ok-push : goal.loop-name-preserved-in_ok-push
loop-name-preserved-in_ok-push c =
    let i = c.loop-name.invariant in
    let added : c.push.new.self.items ≡ c.loop-name.names.items ++ c.in_ok-name_of.field-0 ∷ [] = search rules in
    let same : c.in_ok-name_of.field-0 ≡ c.in-Some.name.now = search rules in
    let step = step_listed c.args.prefix.now c.in-Some.name.now c.in-Some.slot.now _ c.next.new.self c.loop-name.names.items _ c.in-Some.ensures.steps i.2 i.3 (search rules) (search rules) in
    (tt, tt, step.0, ap (λ x. x ++ wanted c.args.prefix.now c.next.new.self) (added ∙ ap (λ name. c.loop-name.names.items ++ name ∷ []) same) ∙ step.1)

pub loop-name-preserved : goal.loop-name-preserved
loop-name-preserved c =
    let i = c.loop-name.invariant in
    let step = step_past c.args.prefix.now c.in-Some.name.now c.in-Some.slot.now _ c.next.new.self c.loop-name.names.items _ c.in-Some.ensures.steps i.2 i.3 (search rules) in
    (tt, tt, step.0, step.1)

pub returns : goal.returns
returns c =
    let i = c.loop-name.invariant in
    c.from_vec-2.ensures ∙ grind (arith, common_steps, i.3, c.in-None.ensures.steps) ∙ sym (listed_names c.args.prefix.now c.args.map.now.entries c.range-name-items.ensures.ordered)
