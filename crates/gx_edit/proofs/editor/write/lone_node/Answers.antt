use Rattle.std.proofs.Common.{◌∙◌, ap, List, [], ◌∷◌, ◌++◌}
use Rattle.gx_edit.specs.View.{names_of}
use Rattle.gx_edit.specs.declared.editor.nodes.Node.{Node}
use Rattle.gx_edit.proofs.PlaceLemmas.{lone_linked, lone_view}
use Rattle.gx_edit.proofs.editor.write.lone_node.Goals as goal

pub returns-clause-links : goal.returns-clause-links
returns-clause-links c = lone_linked c.push.new.self.items c.in_ok-node.node (names_of c.args.rows.now) (c.in_ok-push.ensures.items ∙ ap (λ (l : List Node). l ++ c.in_ok-node.node ∷ []) c.in_ok-nodes.ensures.items) c.in_ok-node.ensures

pub returns-clause-view : goal.returns-clause-view
returns-clause-view c = lone_view c.push.new.self.items c.in_ok-node.node (names_of c.args.rows.now) (c.in_ok-push.ensures.items ∙ ap (λ (l : List Node). l ++ c.in_ok-node.node ∷ []) c.in_ok-nodes.ensures.items) c.in_ok-node.ensures
