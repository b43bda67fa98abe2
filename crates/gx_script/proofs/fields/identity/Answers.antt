use Rattle.std.proofs.Common.{subst}
use Rattle.gx_script.specs.Items.{NoNewline}
use Rattle.gx_script.proofs.LineLemmas.{no_who, without_back}
use Rattle.gx_script.proofs.fields.identity.Goals as goal

pub parse_who-requires : goal.parse_who-requires
parse_who-requires c = without_back 10 c.args.word.now c.in-Some.rest.now (subst NoNewline c.in-Some.ensures c.requires)

pub returns-in_default-parse_who : goal.returns-in_default-parse_who
returns-in_default-parse_who c = no_who c.args.word.now c.args.line.now c.in-Some.rest.now c.in-Some.ensures c.in_default-parse_who.ensures
