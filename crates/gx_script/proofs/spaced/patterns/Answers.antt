use Rattle.std.proofs.Common.{◌≡◌, ◌<◌, length, List, ℕ, arith, refl}
use Rattle.gx_script.specs.Items.{IsField}
use Rattle.gx_script.proofs.SpacedLemmas.{spaced_first, spaced_next, spaced_stops, spaced_ends, field_is, more_fields, some_bytes, no_bytes, cut_smaller}
use Rattle.gx_script.proofs.spaced.patterns.Goals as goal

pub fields-init : goal.fields-init
fields-init c = record { reads = rw c.new-fields.ensures.items (spaced_first (λ (field : List ℕ). field) IsField (length c.args.bytes.now) c.args.bytes.now) }

pub returns-in_default : goal.returns-in_default
returns-in_default c =
    let some : 0 < length c.fields.rest.now = grind (arith, c.fields-test.ensures, c.fields-test.true) in
    spaced_stops (λ (field : List ℕ). field) IsField (length c.args.bytes.now) c.args.bytes.now c.fields.fields.items c.fields.rest.now c.fields.invariant.reads (some_bytes c.fields.rest.now some) c.in_default.ensures

pub fields-preserved : goal.fields-preserved
fields-preserved c =
    let field : IsField c.in-Some.field.now = field_is c.args.bytes.now c.fields.fields.items c.fields.rest.now c.in-Some.field.now c.in-Some.more.now c.requires c.fields.invariant.reads.is c.in-Some.ensures in
    let count : length c.fields.fields.items < length c.args.bytes.now = more_fields c.args.bytes.now c.fields.fields.items c.fields.rest.now c.in-Some.field.now c.in-Some.more.now c.fields.invariant.reads.is c.in-Some.ensures in
    record {
      reads = rw (c.in_ok-push.ensures.items, c.in_ok-from_slice.ensures) (spaced_next (λ (field : List ℕ). field) IsField (length c.args.bytes.now) c.args.bytes.now c.fields.fields.items c.in-Some.field.now c.fields.rest.now c.in-Some.field.now c.in-Some.more.now (λ field h. h.whole) c.fields.invariant.reads c.in-Some.ensures refl field count);
    }

pub fields-smaller : goal.fields-smaller
fields-smaller c = cut_smaller c.fields.rest.now c.in-Some.field.now c.in-Some.more.now c.in-Some.ensures

pub returns : goal.returns
returns c =
    let none : length c.fields.rest.now ≡ 0 = grind (arith, c.fields-test.ensures, c.fields-test.false) in
    spaced_ends (λ (field : List ℕ). field) IsField (length c.args.bytes.now) c.args.bytes.now c.fields.fields.items c.fields.rest.now c.fields.invariant.reads (no_bytes c.fields.rest.now none)
