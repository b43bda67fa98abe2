use Rattle.std.proofs.Common.{◌∙◌, ◌++◌, ap}
use Rattle.std.specs.List.{list_any}
use Rattle.std.specs.Str.{bytes_eq}
use Rattle.gx_edit.proofs.TextLemmas.{forward, range_texts, texts_in}
use Rattle.gx_edit.proofs.path_map.texts.texts_below.Goals as goal

pub range-text-items-requires : goal.range-text-items-requires
range-text-items-requires c = forward c.args.path.now c.in_ok-from.from c.in_ok-to.to c.in_ok-from.ensures c.in_ok-to.ensures

pub loop-text-init : goal.loop-text-init
loop-text-init c = (
  tt,
  tt,
  λ q. ap (λ xs. list_any (bytes_eq q) (xs ++ texts_in c.into_iter-text-iterator.result)) c.new-texts.ensures.items
      ∙ range_texts c.args.path.now c.args.map.now.entries c.into_iter-text-iterator.result c.in_ok-from.from c.in_ok-to.to c.in_ok-from.ensures c.in_ok-to.ensures (c.into_iter-text-iterator.ensures.into_iter_gives ∙ c.range-text-items.ensures.between tt) q,
)
