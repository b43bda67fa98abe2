use Rattle.std.proofs.lemmas.Bool.{and_parts}
use Rattle.gx_store.proofs.WrittenLines.{written}
use Rattle.gx_store.proofs.laws.written_line_is_read.Goals as goal

pub returns : goal.returns
returns c hash can =
    let line = c.args.line.now in
    let fields = and_parts _ _ can.who.fields in
    let texts = and_parts _ _ fields.0 in
    let identity = c.written_identity_is_read.ensures in
    let offset = fields.1 in
    written hash line c.id_has_digits.ensures.held c.id_has_digits-2.ensures.held (identity.spelled line.signature can.who) (identity.time line.signature.time can.who.seconds offset can.minutes) texts.0 texts.1 can
