use Rattle.std.proofs.Common.{◌∙◌, ap, List, [], ◌∷◌, ◌++◌}
use Rattle.gx_edit.specs.View.{names_of}
use Rattle.gx_edit.specs.declared.editor.nodes.Node.{Node}
use Rattle.gx_edit.proofs.PlaceLemmas.{lone_linked, lone_view}
use Rattle.gx_edit.proofs.editor.Editor.set_root.Goals as goal

pub invariant_of-self : goal.invariant_of-self
invariant_of-self c = record { links = lone_linked c.push.new.self.items c.in_ok-node.node (names_of c.args.root.entries) (c.in_ok-push.ensures.items ∙ ap (λ (l : List Node). l ++ c.in_ok-node.node ∷ []) c.in_ok-nodes.ensures.items) c.in_ok-node.ensures }

pub returns-clause-ok : goal.returns-clause-ok
returns-clause-ok c = lone_view c.push.new.self.items c.in_ok-node.node (names_of c.args.root.entries) (c.in_ok-push.ensures.items ∙ ap (λ (l : List Node). l ++ c.in_ok-node.node ∷ []) c.in_ok-nodes.ensures.items) c.in_ok-node.ensures
