use Rattle.std.proofs.Common.{◌∙◌, reverse}
use Rattle.std.proofs.lemmas.List.{length-reverse}
use Rattle.gx_object.specs.Message.{is_no_space}
use Rattle.gx_object.proofs.TitleLines.{position_or_end}
use Rattle.gx_object.proofs.message.trailing_spaces.Goals as goal

pub returns-clause-count : goal.returns-clause-count
returns-clause-count c = c.unwrap_or.ensures ∙ rw (c.last_text.ensures.at, ← length-reverse c.args.text.now) (position_or_end is_no_space (reverse c.args.text.now))
