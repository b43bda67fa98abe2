use Rattle.std.proofs.Common.{◌∙◌, ap}
use Rattle.gx_actor.specs.Index.{placed}
use Rattle.gx_actor.proofs.IndexLemmas.{added}
use Rattle.gx_actor.proofs.mailmap.index.add.Goals as goal

pub returns : goal.returns
returns c =
    let value = c.placed-places.ensures ∙ ap (λ b. placed b c.args.place c.args.entry.now) (c.copied.ensures ∙ c.get.ensures.value) in
    added c.args.index.now c.insert.new.self c.in_ok-key.key c.args.place c.args.entry.now c.placed-places.result c.in_ok-key.ensures value c.in_ok-insert.ensures.updates.0
