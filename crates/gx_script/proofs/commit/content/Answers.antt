use Rattle.std.proofs.Common.{refl}
use Rattle.std.proofs.lemmas.Result.{err_from_is_err_and}
use Rattle.gx_script.proofs.CommitLemmas.{content_cut, content_fails, content_done}
use Rattle.gx_script.proofs.commit.content.Goals as goal

pub returns-in_err-message-clause-content : goal.returns-in_err-message-clause-content
returns-in_err-message-clause-content g c =
    let p = err_from_is_err_and c.from_residual.result c.from_residual.ensures.1 in
    rw (p.1, p.2) (content_cut _ _ _ _ _ _ _ c.requires c.in_err-message.ensures.block)

pub returns-in_err-edits-clause-content : goal.returns-in_err-edits-clause-content
returns-in_err-edits-clause-content g c =
    let p = err_from_is_err_and c.from_residual-in_err-edits.result c.from_residual-in_err-edits.ensures.1 in
    rw (p.1, p.2) (content_fails _ _ _ _ _ _ _ _ _ _ _ _ c.requires refl c.in_ok-message.ensures.block c.in_ok-message.ensures.later c.in_err-edits.ensures.edits)

pub returns-clause-content : goal.returns-clause-content
returns-clause-content g c = content_done _ _ _ _ _ _ _ _ _ _ c.requires refl c.in_ok-message.ensures.block c.in_ok-edits.ensures.edits
