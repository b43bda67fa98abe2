use Rattle.std.proofs.Common.{◌≡◌, ap, Err}
use Rattle.std.proofs.lemmas.Result.{err_from_is_err_and}
use Rattle.gx_store.specs.declared.log_line.decode.LineError.TheVariants.{BadLine as bad_line}
use Rattle.gx_store.proofs.LogLemmas.{no_signature, only_signature}
use Rattle.gx_store.proofs.log_line.LogLine.from_bytes.Goals as goal

pub returns-in-Err-clause-causes : goal.returns-in-Err-clause-causes
returns-in-Err-clause-causes c =
    let parts = c.in-Some.ensures in
    let causes = c.in-Err.ensures.causes in (
      λ is. let same : c.in-Err.error ≡ bad_line = cc in no_signature c.args.hash c.args.line.now _ _ _ _ parts.0 (causes.0 (ap Err same)),
      λ none. let same : c.in-Err.error ≡ bad_line = cc (causes.1 (only_signature c.args.hash c.args.line.now c.in-Some.parts.previous c.in-Some.parts.new _ _ parts.0 parts.1 parts.2 none)) in ap Err same,
    )

pub returns-in_err-from_slice-clause-causes : goal.returns-in_err-from_slice-clause-causes
returns-in_err-from_slice-clause-causes c =
    let parts = c.in-Some.ensures in
    let p = err_from_is_err_and c.from_residual.result c.from_residual.ensures.1 in
    rw (p.1, p.2) (λ is. absurd cc, λ none. absurd (only_signature c.args.hash c.args.line.now c.in-Some.parts.previous c.in-Some.parts.new _ _ parts.0 parts.1 parts.2 none c.in-Ok.signature c.in-Ok.ensures.ok))

pub returns-clause-causes : goal.returns-clause-causes
returns-clause-causes c =
    let parts = c.in-Some.ensures in
    (λ is. absurd cc, λ none. absurd (only_signature c.args.hash c.args.line.now c.in-Some.parts.previous c.in-Some.parts.new _ _ parts.0 parts.1 parts.2 none c.in-Ok.signature c.in-Ok.ensures.ok))
