use Rattle.std.proofs.Common.{sym, ◌∙◌}
use Rattle.gx_hash.specs.ObjectId.{hex_of}
use Rattle.gx_store.proofs.LogLemmas.{no_new_id, no_identity, no_newline, has_parts}
use Rattle.gx_store.proofs.log_line.decode.split_line.Goals as goal

pub returns-in_err-new : goal.returns-in_err-new
returns-in_err-new c =
    let old = c.in_ok-previous.ensures in
    rw c.from_residual-in_err-new.ensures (no_new_id c.args.hash c.args.line.now (hex_of c.in_ok-previous.previous) c.in_ok-previous.rest.now old.0 old.2 c.in_err-new.ensures)

pub returns-in_err-identity : goal.returns-in_err-identity
returns-in_err-identity c =
    let old = c.in_ok-previous.ensures in
    let new = c.in_ok-new.ensures in
    rw c.from_residual-in_err-identity.ensures (no_identity c.args.hash c.args.line.now (hex_of c.in_ok-previous.previous) (hex_of c.in_ok-new.new) c.in_ok-previous.rest.now c.in_ok-new.rest.now old.0 old.2 new.0 new.2 c.in_err-identity.ensures)

pub returns-then-not-is_one_line : goal.returns-then-not-is_one_line
returns-then-not-is_one_line c =
    let old = c.in_ok-previous.ensures in
    let new = c.in_ok-new.ensures in
    let parts = c.in_ok-identity.ensures in
    no_newline c.args.hash c.args.line.now (hex_of c.in_ok-previous.previous) (hex_of c.in_ok-new.new) c.in_ok-previous.rest.now c.in_ok-new.rest.now c.in_ok-identity.identity.now c.in_ok-identity.message.now old.0 old.2 new.0 new.2 parts.0 parts.1 (sym c.is_one_line.ensures ∙ c.if-not-is_one_line.true)

pub returns : goal.returns
returns c =
    let old = c.in_ok-previous.ensures in
    let new = c.in_ok-new.ensures in
    let parts = c.in_ok-identity.ensures in
    (has_parts c.args.hash c.args.line.now (hex_of c.in_ok-previous.previous) (hex_of c.in_ok-new.new) c.in_ok-previous.rest.now c.in_ok-new.rest.now c.in_ok-identity.identity.now c.in_ok-identity.message.now old.0 old.2 new.0 new.2 parts.0 parts.1 (sym c.is_one_line.ensures ∙ c.if-not-is_one_line.false), old.1, new.1)
