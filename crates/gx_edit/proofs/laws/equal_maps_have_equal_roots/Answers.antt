use Rattle.std.proofs.Common.{ap, sym, ◌∙◌}
use Rattle.gx_edit.specs.CanonicalTree.{root_of}
use Rattle.gx_edit.proofs.DirectoryLemmas.{one_directory}
use Rattle.gx_edit.proofs.laws.equal_maps_have_equal_roots.Goals as goal

pub returns : goal.returns
returns c = λ hash d e m n f g same. ap (root_of hash) (one_directory d e f.canonical g.canonical (λ p. f.leaves p ∙ same p ∙ sym (g.leaves p)))
