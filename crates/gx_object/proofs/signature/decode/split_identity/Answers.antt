use Rattle.std.proofs.Common.{◌∙◌, ◌-◌, take, drop, ap}
use Rattle.gx_object.proofs.Identities.{nowhere_contains, has_close, has_open, identity_by}
use Rattle.gx_object.proofs.signature.decode.split_identity.Goals as goal

pub returns-in_err-close : goal.returns-in_err-close
returns-in_err-close c = rw c.from_residual.ensures (λ who spelled. nowhere_contains 62 c.args.line.now c.in_err-close.ensures (has_close _ who spelled))

pub returns-in_err-open : goal.returns-in_err-open
returns-in_err-open c =
    let close = c.in_ok-close.ensures in
    rw c.from_residual-in_err-open.ensures (λ who spelled. nowhere_contains 60 c.split_at.result.0.now c.in_err-open.ensures (rw c.split_at.ensures.front (has_open c.args.line.now who c.in_ok-close.close spelled close.0 close.1)))

pub returns : goal.returns
returns c =
    let line = c.args.line.now in
    let at = c.in_ok-open.open in
    let close = c.in_ok-close.ensures in
    let front = c.split_at.ensures.front in
    let first = rw front at c.in_ok-open.ensures.0 in
    let there = rw front at c.in_ok-open.ensures.1 in
    let between = c.new-2.ensures ∙ c.split_at-4.ensures.back ∙ ap (drop 1) (c.split_at-3.ensures.front ∙ ap (take (c.in_ok-close.close - at)) c.split_at-2.ensures.back) in
    let name = rw (c.split_at-2.ensures.front, ← c.new.ensures) at c.without_space_behind.ensures in
    let time = rw (c.split_at-5.ensures.back, ← c.new-3.ensures) at c.without_space_in_front.ensures in
    identity_by line _ _ _ at c.in_ok-close.close close.0 close.1 first there between name time
