use Rattle.std.proofs.Common.{◌≡◌, ◌∙◌, ◌*◌, ap, length, rules}
use Rattle.hex.specs.Hex.{lower_digits}
use Rattle.hex.proofs.HexLemmas.{length-encode_with}
use Rattle.gx_hash.proofs.PrefixLemmas.{kept_even, kept_odd, kept_id}
use Rattle.gx_hash.proofs.oid.keep_digits.Goals as goal

pub returns-then-hex_len-eq1-clause-kept : goal.returns-then-hex_len-eq1-clause-kept
returns-then-hex_len-eq1-clause-kept g c =
    kept_id _ c.args.bytes.now c.args.hex_len g.row.N (Prim.search rules)
    (kept_odd c.args.bytes.now c.copy_from_slice.new.self c.args.hex_len g.row.N (Prim.search rules) (Prim.search rules) (Prim.search rules) (Prim.search rules))

pub returns-else-hex_len-eq1-clause-kept : goal.returns-else-hex_len-eq1-clause-kept
returns-else-hex_len-eq1-clause-kept g c =
    kept_id _ c.args.bytes.now c.args.hex_len g.row.N (Prim.search rules)
    (kept_even c.args.bytes.now c.copy_from_slice.new.self c.args.hex_len g.row.N (Prim.search rules) (Prim.search rules) (Prim.search rules) (Prim.search rules))

pub returns-then-hex_len-eq1-clause-size : goal.returns-then-hex_len-eq1-clause-size
returns-then-hex_len-eq1-clause-size g c =
    let len : length c.args.bytes.now ≡ g.row.N = Prim.search rules in
    length-encode_with lower_digits c.args.bytes.now ∙ ap (λ n. 2 * n) len

pub returns-else-hex_len-eq1-clause-size : goal.returns-else-hex_len-eq1-clause-size
returns-else-hex_len-eq1-clause-size g c =
    let len : length c.args.bytes.now ≡ g.row.N = Prim.search rules in
    length-encode_with lower_digits c.args.bytes.now ∙ ap (λ n. 2 * n) len
