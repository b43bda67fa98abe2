use Rattle.std.proofs.Common.{◌≡◌, length, arith}
use Rattle.gx_script.proofs.SpacedForms.{no_walk_order, no_walk_ids, no_walk_empty}
use Rattle.gx_script.proofs.history_forms.walk_form.Goals as goal

pub returns-in_default-order : goal.returns-in_default-order
returns-in_default-order c = no_walk_order c.args.hash c.args.line.now c.in-Some.fields.now c.in-Some-next_field.name.now c.in-Some-next_field.rest.now c.in-Some.ensures c.in-Some-next_field.ensures c.in_default-order.ensures

pub returns-in_default-2 : goal.returns-in_default-2
returns-in_default-2 c = no_walk_ids c.args.hash c.args.line.now c.in-Some.fields.now c.in-Some-next_field.name.now c.in-Some-next_field.rest.now c.in-Some.ensures c.in-Some-next_field.ensures (rw c.in_default-2.is at c.in_ok-ids.ensures)

pub returns-then-is_empty : goal.returns-then-is_empty
returns-then-is_empty c =
    let none : length c.in-Some-2.ids.items ≡ 0 = grind (arith, c.is_empty.ensures, c.if-is_empty.true, c.in-Some-2.ids.ok) in
    no_walk_empty c.args.hash c.args.line.now c.in-Some.fields.now c.in-Some-next_field.name.now c.in-Some-next_field.rest.now c.in-Some-2.ids.items c.in-Some.ensures c.in-Some-next_field.ensures (rw c.in-Some-2.is at c.in_ok-ids.ensures) none
