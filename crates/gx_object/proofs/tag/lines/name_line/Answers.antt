use Rattle.std.proofs.Common.{◌≡◌, length, arith}
use Rattle.gx_object.proofs.TagLineLemmas.{no_name_line, no_name_word, no_empty_name}
use Rattle.gx_object.proofs.tag.lines.name_line.Goals as goal

pub returns-in_err-line : goal.returns-in_err-line
returns-in_err-line c = rw c.from_residual.ensures (no_name_line c.args.bytes.now c.in_err-line.ensures)

pub returns-in_err-name : goal.returns-in_err-name
returns-in_err-name c = rw c.from_residual-in_err-name.ensures (no_name_word c.args.bytes.now c.in_ok-line.line.now c.in_ok-line.rest.now c.in_ok-line.ensures c.in_err-name.ensures)

pub returns-then-is_empty : goal.returns-then-is_empty
returns-then-is_empty c =
    let none : length c.in_ok-name.name.now ≡ 0 = grind (arith, c.if-is_empty.ensures, c.if-is_empty.true) in
    no_empty_name c.args.bytes.now c.in_ok-line.line.now c.in_ok-line.rest.now c.in_ok-name.name.now c.in_ok-line.ensures c.in_ok-name.ensures none
