use Rattle.std.proofs.Common.{◌∙◌}
use Rattle.gx_actor.proofs.LineForms.{mailmap_read}
use Rattle.gx_actor.proofs.mailmap.parse.parse_ignore_errors.Goals as goal

pub returns : goal.returns
returns c = mailmap_read c.args.text.now c.from_vec.result (c.from_vec.ensures ∙ c.in_ok-read_lines.ensures)
