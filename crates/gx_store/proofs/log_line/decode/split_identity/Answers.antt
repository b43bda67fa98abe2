use Rattle.std.proofs.Common.{rules, ◌≡◌, ◌++◌, ◌∷◌, ◌+◌, ◌∙◌, ap, sym, length, take, arith, append_assoc}
use Rattle.std.proofs.lemmas.List.{take_at, length-append}
use Rattle.gx_store.proofs.LogLemmas.{no_close, no_tab, regroup}
use Rattle.gx_store.proofs.log_line.decode.split_identity.Goals as goal

pub returns-in_err-behind : goal.returns-in_err-behind
returns-in_err-behind c =
    let close = c.in_ok-front.ensures in
    rw c.from_residual-in_err-behind.ensures (λ identity message ends same. no_tab c.args.text.now c.in_ok-front.front.now c.in_ok-front.rest.now identity message close.1 close.0 c.in_err-behind.ensures ends same)

pub returns : goal.returns
returns c =
    let close = c.in_ok-front.ensures in
    let tab = c.in_ok-behind.ensures in
    let front = c.in_ok-front.front.now in
    let behind = c.in_ok-behind.behind.now in
    let whole : c.args.text.now ≡ (front ++ 62 ∷ behind) ++ 9 ∷ c.in_ok-behind.message.now =
    close.1 ∙ ap (λ rest. front ++ 62 ∷ rest) tab.1 ∙ sym (regroup front behind c.in_ok-behind.message.now) in
    let long = length-append front (62 ∷ behind) in
    let cut : c.split_at.result.0.now ≡ front ++ 62 ∷ behind =
    c.split_at.ensures.front ∙ ap (take (length front + 1 + length behind)) whole ∙ take_at (front ++ 62 ∷ behind) (9 ∷ c.in_ok-behind.message.now) (length front + 1 + length behind) (omega arith) in
    ((front, behind, cut, close.0, tab.0), whole ∙ ap (λ x. x ++ 9 ∷ c.in_ok-behind.message.now) (sym cut))
