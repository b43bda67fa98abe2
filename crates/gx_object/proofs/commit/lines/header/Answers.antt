use Rattle.bstr.specs.BStr.{bstr_bytes}
use Rattle.gx_object.specs.Laws.LineLemmas.{no_header, header_at}
use Rattle.gx_object.proofs.commit.lines.header.Goals as goal

pub returns-in_err-name : goal.returns-in_err-name
returns-in_err-name c = rw c.from_residual-in_err-name.ensures (no_header c.args.bytes.now c.in_ok-line.line.now c.in_ok-line.behind.now c.in_ok-line.ensures c.in_err-name.ensures)

pub returns : goal.returns
returns c = rw c.new.ensures (header_at c.args.bytes.now c.in_ok-line.line.now c.in_ok-line.behind.now c.in_ok-name.name.now c.in_ok-name.field-0-1.now c.skip_folds-rest.result.now (bstr_bytes c.new-2.result) c.in_ok-line.ensures c.in_ok-name.ensures c.skip_folds-rest.ensures c.new-2.ensures)
