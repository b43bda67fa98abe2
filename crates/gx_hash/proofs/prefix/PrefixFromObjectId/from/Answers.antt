use Rattle.std.proofs.Common.{◌≤◌, ◌∙◌, length, arith}
use Rattle.std.proofs.lemmas.List.{take_all}
use Rattle.gx_hash.specs.ObjectId.{hex_of}
use Rattle.gx_hash.proofs.prefix.PrefixFromObjectId.from.Goals as goal

pub returns : goal.returns
returns c =
    let all : length (hex_of c.args.id) ≤ c.len_in_hex.result = rw (c.len_in_hex.ensures, c.kind.ensures) (omega (arith, c.first_of.ensures.size)) in
    (c.first_of.ensures.prefix.kind, c.first_of.ensures.prefix.digits ∙ take_all c.len_in_hex.result (hex_of c.args.id) all)
