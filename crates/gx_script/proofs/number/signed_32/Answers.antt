use Rattle.std.proofs.Common.{rules, FitsSigned}
use Rattle.std.specs.Int.{w64}
use Rattle.std.proofs.lemmas.Int.{to_z-of_z}
use Rattle.gx_script.proofs.NumberLemmas.{no_narrow, is_narrow}
use Rattle.gx_script.proofs.number.signed_32.Goals as goal

pub returns-in_err-signed : goal.returns-in_err-signed
returns-in_err-signed c = rw c.from_residual.ensures (no_narrow c.args.bytes.now c.in_err-signed.ensures)

pub returns : goal.returns
returns c =
    let fits : FitsSigned w64 c.in_ok-signed.field-0 = search rules in
    is_narrow c.args.bytes.now c.in_ok-signed.field-0 c.narrow.result fits c.in_ok-signed.ensures (simp to_z-of_z at c.narrow.ensures)
