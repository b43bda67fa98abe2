use Rattle.std.proofs.Common.{◌≡◌, ◌<◌, length, arith}
use Rattle.gx_script.specs.declared.lists.WalkId.{WalkId}
use Rattle.gx_script.specs.Fields.{IsId, walk_id_text}
use Rattle.gx_script.proofs.FieldLemmas.{walk_id_space}
use Rattle.gx_script.proofs.SpacedLemmas.{spaced_first, spaced_next, spaced_stops, spaced_wrong, spaced_full, spaced_ends, some_bytes, no_bytes, cut_smaller}
use Rattle.gx_script.proofs.spaced.walk_ids.Goals as goal

pub fields-init : goal.fields-init
fields-init c = record { reads = rw c.new-ids.ensures.items (spaced_first walk_id_text (λ (walked : WalkId). IsId c.args.hash walked.id) c.args.most c.args.bytes.now) }

pub returns-in_default : goal.returns-in_default
returns-in_default c =
    let some : 0 < length c.fields.rest.now = grind (arith, c.fields-test.ensures, c.fields-test.true) in
    spaced_stops walk_id_text (λ (walked : WalkId). IsId c.args.hash walked.id) c.args.most c.args.bytes.now c.fields.ids.items c.fields.rest.now c.fields.invariant.reads (some_bytes c.fields.rest.now some) c.in_default.ensures

pub returns-in_default-walk_id : goal.returns-in_default-walk_id
returns-in_default-walk_id c = spaced_wrong walk_id_text (λ (walked : WalkId). IsId c.args.hash walked.id) c.args.most c.args.bytes.now c.fields.ids.items c.fields.rest.now c.in-Some.field.now c.in-Some.more.now (walk_id_space c.args.hash) c.fields.invariant.reads c.in-Some.ensures c.in_default-walk_id.ensures

pub returns-then-len-most : goal.returns-then-len-most
returns-then-len-most c =
    let some : 0 < length c.fields.rest.now = grind (arith, c.fields-test.ensures, c.fields-test.true) in
    spaced_full walk_id_text (λ (walked : WalkId). IsId c.args.hash walked.id) c.args.most c.args.bytes.now c.fields.ids.items c.fields.rest.now c.fields.invariant.reads (some_bytes c.fields.rest.now some) (omega arith)

pub fields-preserved : goal.fields-preserved
fields-preserved c = record {
  reads = rw c.in_ok-push.ensures.items (spaced_next walk_id_text (λ (walked : WalkId). IsId c.args.hash walked.id) c.args.most c.args.bytes.now c.fields.ids.items c.in-Some-walk_id.id c.fields.rest.now c.in-Some.field.now c.in-Some.more.now (walk_id_space c.args.hash) c.fields.invariant.reads c.in-Some.ensures c.in-Some-walk_id.ensures.1 c.in-Some-walk_id.ensures.0 (omega arith));
}

pub fields-smaller : goal.fields-smaller
fields-smaller c = cut_smaller c.fields.rest.now c.in-Some.field.now c.in-Some.more.now c.in-Some.ensures

pub returns : goal.returns
returns c =
    let none : length c.fields.rest.now ≡ 0 = grind (arith, c.fields-test.ensures, c.fields-test.false) in
    spaced_ends walk_id_text (λ (walked : WalkId). IsId c.args.hash walked.id) c.args.most c.args.bytes.now c.fields.ids.items c.fields.rest.now c.fields.invariant.reads (no_bytes c.fields.rest.now none)
