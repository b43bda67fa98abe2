use Rattle.std.proofs.Common.{subst}
use Rattle.hex.specs.Hex.{IsBytes}
use Rattle.gx_hash.specs.Laws.Digits.{id_digits, computed_digits}
use Rattle.gx_hash.proofs.laws.id_has_digits.Goals as goal

pub returns-clause-held : goal.returns-clause-held
returns-clause-held c =
    let bytes = c.as_bytes.ensures in
    id_digits c.args.id.now (rw bytes.bytes at bytes.len) (subst IsBytes bytes.bytes c.are_bytes.ensures)

pub returns-clause-computed : goal.returns-clause-computed
returns-clause-computed c = computed_digits
