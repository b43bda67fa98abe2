use Rattle.std.proofs.Common.{◌≡◌, Option, Some, None, is_some, Bor, refl, ap, ◌∙◌}
use Rattle.std.specs.Option.{option_copied}
use Rattle.gx_edit.specs.declared.leaf.Leaf.{Leaf}
use Rattle.gx_edit.proofs.TextLemmas.{found_leaf}
use Rattle.gx_edit.proofs.stored_tree.leaves.has_leaf.Goals as goal

some_copied : (o : Option (Bor Leaf)) → is_some o ≡ is_some (option_copied o)
some_copied None = refl
some_copied (Some x) = refl

pub returns : goal.returns
returns c = c.is_some.ensures ∙ some_copied c.get.result ∙ ap is_some (c.get.ensures.value ∙ found_leaf c.args.leaves.now.entries c.args.path.now)
