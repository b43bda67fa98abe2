use Rattle.gx_tool.proofs.ValidCommits.{valid_commits}
use Rattle.gx_tool.proofs.laws.valid_commits_are_generated.Goals as goal

pub returns : goal.returns
returns c = valid_commits c.call_laws.ensures
