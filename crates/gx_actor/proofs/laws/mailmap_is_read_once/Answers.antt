use Rattle.gx_actor.proofs.LineForms.{line_once, mailmap_once}
use Rattle.gx_actor.proofs.laws.mailmap_is_read_once.Goals as goal

pub returns : goal.returns
returns c = record { line = line_once; text = mailmap_once }
