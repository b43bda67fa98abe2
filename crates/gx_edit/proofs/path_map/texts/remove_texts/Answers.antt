use Rattle.std.proofs.Common.{◌≡◌, get_or, subst, sym}
use Rattle.gx_edit.specs.PathTexts.{rows_of, leaf_at_text, without}
use Rattle.gx_edit.proofs.TextLemmas.{texts_step}
use Rattle.gx_edit.proofs.path_map.texts.remove_texts.Goals as goal

pub loop-text-preserved : goal.loop-text-preserved
loop-text-preserved c =
    texts_step c.args.texts.now c.loop-text.text-index c.as_slice.result.now (rows_of c.loop-text.map) (rows_of c.remove_text.new.map) (without c.args.texts.now (leaf_at_text (rows_of c.args.map.now)))
    c.loop-text-test.true (subst (λ x. x ≡ get_or c.args.texts.now c.loop-text.text-index x) (sym c.as_slice.ensures) c.text-item.is) c.remove_text.ensures c.loop-text.invariant
