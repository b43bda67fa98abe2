use Rattle.gx_tool.proofs.NewCommits.{new_commits}
use Rattle.gx_tool.proofs.ValidCommits.{valid_commits}
use Rattle.gx_tool.proofs.laws.commits_on_an_unborn_head_are_generated.Goals as goal

pub returns : goal.returns
returns c = λ count start now number state generated faultless told small new own.
    valid_commits c.call_laws.ensures count start now number state generated faultless told
    (new_commits c.found_stays.ensures c.an_edit_has_one_plan.ensures c.map_of_first_parent_line.ensures.every count (record { settings = start.held.settings; state = state }) small new own)
