use Rattle.std.proofs.Common.{ap, sym, ◌∙◌}
use Rattle.gx_edit.specs.CanonicalTree.{root_of}
use Rattle.gx_edit.proofs.DirectoryLemmas.{one_directory}
use Rattle.gx_edit.proofs.laws.root_is_unique.Goals as goal

pub returns : goal.returns
returns c = λ hash content other tree twin m r s.
    r.is_root ∙ ap (root_of hash) (one_directory r.directory s.directory r.stands.canonical s.stands.canonical (λ p. r.stands.leaves p ∙ sym (s.stands.leaves p))) ∙ sym s.is_root
