use Rattle.std.proofs.Common.{arith}
use Rattle.std.proofs.lemmas.Result.{err_from_is_err_and}
use Rattle.gx_script.proofs.BodyLemmas.{person_fails, message_fails, step_who, step_nobody, step_message, step_then, step_fails, described_who, described_nobody}
use Rattle.gx_script.proofs.message.described.Goals as goal

pub returns-in_err-who-clause-described : goal.returns-in_err-who-clause-described
returns-in_err-who-clause-described g c =
    let p = err_from_is_err_and c.from_residual.result c.from_residual.ensures.1 in
    rw (p.1, p.2) (person_fails _ _ _ _ _ _ _ c.requires c.in_err-who.ensures.line)

pub returns-in_err-size-in-Who-clause-described : goal.returns-in_err-size-in-Who-clause-described
returns-in_err-size-in-Who-clause-described g c =
    let p = err_from_is_err_and c.from_residual-in_err-size-in-Who.result c.from_residual-in_err-size-in-Who.ensures.1 in
    rw (p.1, p.2) (step_fails _ _ _ _ _ _ _ _ _ _ _ _ (step_who _ c.in-Who.who _ _ _ _ c.requires (rw c.in-Who.is at c.in_ok-who.ensures.line)) c.in_ok-who.ensures.later (message_fails _ _ _ _ _ _ c.in_err-size-in-Who.ensures.line))

pub returns-in_err-message-in-Who-clause-described : goal.returns-in_err-message-in-Who-clause-described
returns-in_err-message-in-Who-clause-described g c =
    let p = err_from_is_err_and c.from_residual-in_err-message-in-Who.result c.from_residual-in_err-message-in-Who.ensures.1 in
    rw (p.1, p.2) (step_fails _ _ _ _ _ _ _ _ _ _ _ _ (step_then _ _ _ _ _ _ _ _ _ _ _ (step_who _ c.in-Who.who _ _ _ _ c.requires (rw c.in-Who.is at c.in_ok-who.ensures.line)) (step_message _ _ _ _ _ c.in_ok-size-in-Who.ensures.line)) (omega (arith, c.in_ok-who.ensures.later, c.in_ok-size-in-Who.ensures.later)) c.in_err-message-in-Who.ensures.text)

pub returns-in_err-message-in-Message-clause-described : goal.returns-in_err-message-in-Message-clause-described
returns-in_err-message-in-Message-clause-described g c =
    let p = err_from_is_err_and c.from_residual-in_err-message-in-Message.result c.from_residual-in_err-message-in-Message.ensures.1 in
    rw (p.1, p.2) (step_fails _ _ _ _ _ _ _ _ _ _ _ _ (step_nobody _ c.in-Message.size _ _ _ _ c.requires (rw c.in-Message.is at c.in_ok-who.ensures.line)) c.in_ok-who.ensures.later c.in_err-message-in-Message.ensures.text)

pub returns-in_ok-message-in-Who-clause-described : goal.returns-in_ok-message-in-Who-clause-described
returns-in_ok-message-in-Who-clause-described g c = described_who _ c.in-Who.who _ _ _ _ _ _ _ _ _ _ c.requires (rw c.in-Who.is at c.in_ok-who.ensures.line) c.in_ok-size-in-Who.ensures.line c.in_ok-message-in-Who.ensures.text

pub returns-in_ok-message-in-Message-clause-described : goal.returns-in_ok-message-in-Message-clause-described
returns-in_ok-message-in-Message-clause-described g c = described_nobody _ c.in-Message.size _ _ _ _ _ _ _ c.requires (rw c.in-Message.is at c.in_ok-who.ensures.line) c.in_ok-message-in-Message.ensures.text
