use Rattle.std.proofs.lemmas.Result.{err_from_is_err_and}
use Rattle.gx_script.proofs.BodyLemmas.{text_fails, end_fails, text_reads}
use Rattle.gx_script.proofs.message.text.Goals as goal

pub returns-in_err-message-clause-text : goal.returns-in_err-message-clause-text
returns-in_err-message-clause-text g c =
    let p = err_from_is_err_and c.from_residual.result c.from_residual.ensures.1 in
    rw (p.1, p.2) (text_fails _ _ _ _ _ _ _ c.requires c.in_err-message.ensures.block)

pub returns-in_err-end_line-clause-text : goal.returns-in_err-end_line-clause-text
returns-in_err-end_line-clause-text g c =
    let p = err_from_is_err_and c.from_residual-in_err-end_line.result c.from_residual-in_err-end_line.ensures.1 in
    rw (p.1, p.2) (end_fails _ _ _ _ _ _ _ _ _ _ _ c.requires c.in_ok-message.ensures.block.0 c.in_ok-message.ensures.block.1 c.in_ok-message.ensures.later c.in_err-end_line.ensures.line)

pub returns-clause-text : goal.returns-clause-text
returns-clause-text g c = text_reads _ _ _ _ _ _ _ _ c.requires c.in_ok-message.ensures.block.0 c.in_ok-message.ensures.block.1 c.in_ok-end_line.ensures.line
