use Rattle.std.proofs.lemmas.Result.{err_from_is_err_and}
use Rattle.bstr.specs.BStr.{bstr_bytes}
use Rattle.gx_object.specs.IdentitySpelling.{identity_text}
use Rattle.gx_object.proofs.MessageField.{message_found, message_wrong, wrong_none}
use Rattle.gx_object.specs.PartsRead.{object_text}
use Rattle.gx_object.proofs.commit.fields.read_message.Goals as goal

pub returns-in_err-rest : goal.returns-in_err-rest
returns-in_err-rest c = let p = err_from_is_err_and c.from_residual.result c.from_residual.ensures.1 in rw (p.1, p.2) (wrong_none (object_text c.args.hash c.args.bytes.now) c.in_err-rest.field-0.0 c.in_err-rest.ensures)

pub returns-in_default : goal.returns-in_default
returns-in_default c = message_wrong (object_text c.args.hash c.args.bytes.now) (identity_text c.in_ok-rest.field-0-0) c.in_ok-rest.rest.now c.skip_headers-rest.result.now c.bad_line.result c.in_ok-rest.ensures c.skip_headers-rest.ensures c.in_default.ensures c.bad_line.ensures

pub returns : goal.returns
returns c = message_found (object_text c.args.hash c.args.bytes.now) (identity_text c.in_ok-rest.field-0-0) c.in_ok-rest.rest.now c.skip_headers-rest.result.now (bstr_bytes c.in-Some.text) c.in_ok-rest.ensures c.skip_headers-rest.ensures c.in-Some.ensures
