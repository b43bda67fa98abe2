use Rattle.gx_object.specs.PartsRead.{object_text}
use Rattle.gx_object.proofs.ParentLemmas.{after_tree, without_tree}
use Rattle.gx_object.proofs.commit.parent_ids.after_tree.Goals as goal

pub returns-in-Some : goal.returns-in-Some
returns-in-Some c = after_tree (object_text c.args.hash c.args.bytes.now) c.in-Some.rest.now _ c.in-Some.ensures

pub returns-in-None : goal.returns-in-None
returns-in-None c = without_tree (object_text c.args.hash c.args.bytes.now) c.in-None.ensures
