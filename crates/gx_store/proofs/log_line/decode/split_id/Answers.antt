use Rattle.std.proofs.Common.{subst, sym, ◌∙◌}
use Rattle.gx_hash.specs.IdDigits.{IsHexId}
use Rattle.gx_store.proofs.LogLemmas.{one_cut, id_spaceless}
use Rattle.gx_store.proofs.log_line.decode.split_id.Goals as goal

pub returns-then-not-is_hex_id : goal.returns-then-not-is_hex_id
returns-then-not-is_hex_id c digits rest id same =
    let cut = c.in_ok-digits.ensures in
    let one = one_cut 32 digits c.in_ok-digits.digits.now rest c.in_ok-digits.rest.now (id_spaceless c.args.hash digits id) cut.0 (sym same ∙ cut.1) in
    c.if-not-is_hex_id.ensures (subst (IsHexId c.args.hash) one.0 id)
