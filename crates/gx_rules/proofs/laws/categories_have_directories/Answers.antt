use Rattle.gx_rules.specs.Laws.Categories.{in_directory}
use Rattle.gx_rules.proofs.laws.categories_have_directories.Goals as goal

pub returns : goal.returns
returns c = in_directory
