use Rattle.std.proofs.Common.{◌≡◌, ◌∙◌, false, rules, sym, [], ◌∷◌}
use Rattle.gx_edit.specs.Path.{path_eq}
use Rattle.gx_edit.specs.CanonicalTree.{leaf_at}
use Rattle.gx_edit.specs.CanonicalTree.Directory.{File}
use Rattle.plain_trees.proofs.PlainLemmas.{behind_file}
use Rattle.plain_trees.proofs.listing.Listing.+leaf_at.Goals as goal

pub returns-else-is_only : goal.returns-else-is_only
returns-else-is_only t c =
    let is : c.args.self.now ≡ File c.in-File.name c.in-File.leaf c.in-File.rest.value = sym (rw c.in-File.is at c.self.view_is) in
    let same : c.is_only.result ≡ path_eq (c.in-File.name ∷ []) c.args.path.now = search rules in
    let other : c.is_only.result ≡ false = search rules in
    let below : c.leaf_at.result ≡ leaf_at c.in-File.rest.value c.args.path.now = search rules in
    below ∙ behind_file c.args.self.now c.in-File.name c.in-File.leaf c.in-File.rest.value c.args.path.now c.is_only.result is same other
