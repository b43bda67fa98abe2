use Rattle.std.proofs.Common.{◌∙◌, ap, sym, List, ℕ, Some, option_map}
use Rattle.gx_edit.specs.Editor.{entry_named}
use Rattle.gx_edit.proofs.FinMapLemmas.{exact_names, get_keyed}
use Rattle.gx_edit.proofs.editor.nodes.named_in.Goals as goal

pub returns-in_err-key : goal.returns-in_err-key
returns-in_err-key c = rw c.from_residual.ensures (ap (option_map (entry_named c.args.name.now)) (c.in_err-key.ensures.value ∙ sym (get_keyed c.args.name.now c.args.names.now.entries)))

pub returns : goal.returns
returns c =
    ap (λ (n : List ℕ). Some (entry_named n c.in_ok-key.item.now)) (c.new.ensures ∙ c.as_slice.ensures.value ∙ sym (exact_names c.args.name.now c.in_ok-key.key.now.items c.in_ok-key.ensures.same_key))
    ∙ ap (option_map (entry_named c.args.name.now)) (c.in_ok-key.ensures.value ∙ sym (get_keyed c.args.name.now c.args.names.now.entries))
