use Rattle.gx_actor.proofs.LineForms.{blank_line}
use Rattle.gx_actor.proofs.laws.comments_and_blank_lines_have_no_entry.Goals as goal

pub returns : goal.returns
returns c = record { comment = λ line entry comment is. is.no_comment comment; blank = blank_line }
