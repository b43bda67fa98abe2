use Rattle.std.proofs.Common.{◌∙◌, ap, List, [], ◌∷◌, ◌++◌}
use Rattle.gx_edit.specs.View.{names_of}
use Rattle.gx_edit.specs.declared.editor.nodes.Node.{Node}
use Rattle.gx_edit.proofs.PlaceLemmas.{lone_linked, lone_view}
use Rattle.gx_edit.proofs.editor.Editor.new.Goals as goal

pub invariant_of-result : goal.invariant_of-result
invariant_of-result c = record { links = lone_linked c.push.new.self.items c.in_ok-node_of.field-0 (names_of c.args.root.entries) (c.in_ok-push.ensures.items ∙ ap (λ (l : List Node). l ++ c.in_ok-node_of.field-0 ∷ []) c.new-nodes.ensures.items) c.in_ok-node_of.ensures }

pub returns-clause-view : goal.returns-clause-view
returns-clause-view c = lone_view c.push.new.self.items c.in_ok-node_of.field-0 (names_of c.args.root.entries) (c.in_ok-push.ensures.items ∙ ap (λ (l : List Node). l ++ c.in_ok-node_of.field-0 ∷ []) c.new-nodes.ensures.items) c.in_ok-node_of.ensures
