use Rattle.std.proofs.Common.{◌∙◌, ap, arith}
use Rattle.gx_edit.specs.Nodes.{place_of, taken}
use Rattle.gx_edit.specs.declared.editor.nodes.Node.{Node}
use Rattle.gx_edit.proofs.PlaceLemmas.{changed_at}
use Rattle.gx_edit.proofs.editor.changes.take_at.Goals as goal

pub returns : goal.returns
returns c = changed_at c.args.nodes.now.items c.args.at c.take.new.self c.index_mut.result.now (taken c.args.name.now) (let w = c.requires in let o = c.args.nodes.now.ok.0 in omega (arith, w, o))
    (c.take.ensures ∙ ap (λ (n : Node). taken c.args.name.now (place_of n)) c.index_mut.ensures.value)
