use Rattle.std.proofs.Common.{subst}
use Rattle.hex.specs.Hex.{IsBytes}
use Rattle.gx_hash.specs.Laws.IdOrder.{id_from_hex-hex_of}
use Rattle.gx_hash.proofs.laws.spellings_read_back.Goals as goal

pub returns-clause-digits : goal.returns-clause-digits
returns-clause-digits c =
    let bytes = c.as_bytes.ensures in
    id_from_hex-hex_of c.args.id.now (rw bytes.bytes at bytes.len) (subst IsBytes bytes.bytes c.are_bytes.ensures)
