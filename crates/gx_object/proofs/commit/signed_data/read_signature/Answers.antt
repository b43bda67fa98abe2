use Rattle.std.proofs.lemmas.Result.{err_from_is_err_and}
use Rattle.gx_object.specs.CommitSpelling.{header_text}
use Rattle.gx_object.proofs.CommitSignatures.{memory_missed, signed_by_value}
use Rattle.gx_object.proofs.commit.signed_data.read_signature.Goals as goal

pub returns-in_err-value-clause-causes : goal.returns-in_err-value-clause-causes
returns-in_err-value-clause-causes c =
    let p = err_from_is_err_and c.from_residual-in_err-value.result c.from_residual-in_err-value.ensures.1 in
    rw (p.1, p.2) (memory_missed c.args.hash c.args.bytes.now (header_text c.in-Some.header) c.in-Some.signed (rw c.in-Some.is at c.in_ok-header.ensures.ok))

pub returns-clause-ok : goal.returns-clause-ok
returns-clause-ok c = signed_by_value c.args.hash c.args.bytes.now (header_text c.in-Some.header) c.in_ok-value.value c.in-Some.signed (rw c.in-Some.is at c.in_ok-header.ensures.ok) c.in_ok-value.ensures.folded
