use Rattle.std.proofs.lemmas.Result.{err_from_is_err_and}
use Rattle.bstr.specs.BStr.{bstr_bytes}
use Rattle.gx_object.specs.IdentitySpelling.{identity_text}
use Rattle.std.proofs.Common.{refl}
use Rattle.gx_object.specs.PartsRead.{object_text}
use Rattle.gx_object.specs.CommitSpelling.{header_text}
use Rattle.gx_object.proofs.MessageField.{wrong_none}
use Rattle.gx_object.proofs.CommitSignatures.{none_refused, no_signature, a_signature}
use Rattle.gx_object.proofs.commit.signed_data.find_signature.Goals as goal

pub returns-in_err-headers-clause-causes : goal.returns-in_err-headers-clause-causes
returns-in_err-headers-clause-causes c =
    let p = err_from_is_err_and c.from_residual-in_err-headers.result c.from_residual-in_err-headers.ensures.1 in
    rw (p.1, p.2) (none_refused (object_text c.args.hash c.args.bytes.now) c.args.hash c.args.bytes.now c.in_err-headers.field-0.0 (refl, refl) (wrong_none (object_text c.args.hash c.args.bytes.now) c.in_err-headers.field-0.0 c.in_err-headers.ensures))

pub returns-in_default-clause-ok : goal.returns-in_default-clause-ok
returns-in_default-clause-ok c = no_signature (object_text c.args.hash c.args.bytes.now) c.args.hash c.args.bytes.now (identity_text c.in_ok-headers.field-0-0) c.in_ok-headers.headers.now (bstr_bytes c.in_ok-read_message.field-0) (refl, refl) c.in_ok-read_message.ensures c.in_ok-headers.ensures (rw c.name_of_signature.ensures at c.in_default.ensures)

pub returns-clause-ok : goal.returns-clause-ok
returns-clause-ok c =
    a_signature (object_text c.args.hash c.args.bytes.now) c.args.hash c.args.bytes.now (identity_text c.in_ok-headers.field-0-0) c.in_ok-headers.headers.now (bstr_bytes c.in_ok-read_message.field-0) (header_text c.in-Some.header) c.in-Some.lines.now c.in-Some.rest.now c.without_header.result
    (refl, refl) c.in_ok-read_message.ensures c.in_ok-headers.ensures (rw c.name_of_signature.ensures at c.in-Some.ensures) c.without_header.ensures
