use Rattle.std.proofs.Common.{◌∙◌}
use Rattle.gx_object.specs.Message.{is_no_space}
use Rattle.gx_object.proofs.TitleLines.{position_or_end}
use Rattle.gx_object.proofs.message.leading_spaces.Goals as goal

pub returns-clause-count : goal.returns-clause-count
returns-clause-count c = c.unwrap_or.ensures ∙ rw c.first_text.ensures.at (position_or_end is_no_space c.args.text.now)
