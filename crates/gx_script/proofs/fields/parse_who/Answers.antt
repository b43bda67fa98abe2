use Rattle.std.proofs.Common.{rules, FitsSigned}
use Rattle.std.specs.Int.{w32, w64}
use Rattle.std.proofs.lemmas.Int.{to_z-of_z}
use Rattle.gx_script.proofs.LineLemmas.{no_seconds, no_offset, no_name, no_email, bad_seconds, bad_offset, is_who}
use Rattle.gx_script.proofs.fields.parse_who.Goals as goal

pub returns-in_err-seconds : goal.returns-in_err-seconds
returns-in_err-seconds c = rw c.from_residual.ensures (no_seconds c.args.bytes.now c.in_err-seconds.ensures)

pub returns-in_err-offset : goal.returns-in_err-offset
returns-in_err-offset c = rw c.from_residual-in_err-offset.ensures (no_offset c.args.bytes.now c.in_ok-seconds.seconds.now c.in_ok-seconds.rest.now c.in_ok-seconds.ensures c.in_err-offset.ensures)

pub returns-in_err-name : goal.returns-in_err-name
returns-in_err-name c = rw c.from_residual-in_err-name.ensures (no_name c.args.bytes.now c.in_ok-seconds.seconds.now c.in_ok-seconds.rest.now c.in_ok-offset.offset.now c.in_ok-offset.rest.now c.in_ok-seconds.ensures c.in_ok-offset.ensures c.in_err-name.ensures)

pub returns-then-not-is_without : goal.returns-then-not-is_without
returns-then-not-is_without c = no_email c.args.bytes.now c.in_ok-seconds.seconds.now c.in_ok-seconds.rest.now c.in_ok-offset.offset.now c.in_ok-offset.rest.now c.in_ok-name.name.now c.in_ok-name.email.now c.in_ok-seconds.ensures c.in_ok-offset.ensures c.in_ok-name.ensures c.if-not-is_without.ensures

pub returns-in_err-signed : goal.returns-in_err-signed
returns-in_err-signed c = rw c.from_residual-in_err-signed.ensures (bad_seconds c.args.bytes.now c.in_ok-seconds.seconds.now c.in_ok-seconds.rest.now c.in_ok-seconds.ensures c.in_err-signed.ensures)

pub returns-in_err-signed_32 : goal.returns-in_err-signed_32
returns-in_err-signed_32 c = rw c.from_residual-in_err-signed_32.ensures (bad_offset c.args.bytes.now c.in_ok-seconds.seconds.now c.in_ok-seconds.rest.now c.in_ok-offset.offset.now c.in_ok-offset.rest.now c.in_ok-seconds.ensures c.in_ok-offset.ensures c.in_err-signed_32.ensures)

pub returns : goal.returns
returns c =
    let seconds : FitsSigned w64 c.in_ok-signed.field-0 = search rules in
    let offset : FitsSigned w32 c.in_ok-signed_32.field-0 = search rules in
    simp to_z-of_z (is_who c.args.bytes.now c.in_ok-seconds.seconds.now c.in_ok-seconds.rest.now c.in_ok-offset.offset.now c.in_ok-offset.rest.now c.in_ok-name.name.now c.in_ok-name.email.now record { seconds = c.in_ok-signed.field-0; offset = c.in_ok-signed_32.field-0 }
    c.requires c.in_ok-seconds.ensures c.in_ok-offset.ensures c.in_ok-name.ensures c.if-not-is_without.ensures seconds offset c.in_ok-signed.ensures c.in_ok-signed_32.ensures)
