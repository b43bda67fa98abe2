use Rattle.gx_object.specs.Laws.LineLemmas.{not_behind, no_id}
use Rattle.gx_object.proofs.commit.lines.id_line.Goals as goal

pub returns-in_err-text : goal.returns-in_err-text
returns-in_err-text c = rw c.from_residual-in_err-text.ensures (λ text rest id has. not_behind c.args.bytes.now c.in_ok-line.line.now c.in_ok-line.rest.now c.args.word.now c.in_ok-line.ensures c.in_err-text.ensures text rest has)

pub returns-else-is_hex_id : goal.returns-else-is_hex_id
returns-else-is_hex_id c = no_id c.args.hash c.args.bytes.now c.in_ok-line.line.now c.in_ok-line.rest.now c.args.word.now c.in_ok-text.text.now c.in_ok-line.ensures c.in_ok-text.ensures c.if-is_hex_id.ensures
