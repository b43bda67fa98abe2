use Rattle.std.proofs.Common.{sym, ◌∙◌}
use Rattle.gx_edit.proofs.DirectoryLemmas.{one_directory}
use Rattle.gx_edit.proofs.laws.directory_is_unique.Goals as goal

pub returns : goal.returns
returns c = λ d e m f g. one_directory d e f.canonical g.canonical (λ p. f.leaves p ∙ sym (g.leaves p))
