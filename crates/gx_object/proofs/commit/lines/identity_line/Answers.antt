use Rattle.gx_object.specs.IdentitySpelling.{identity_text}
use Rattle.gx_object.specs.Laws.LineLemmas.{not_behind, no_identity, identity_at}
use Rattle.gx_object.proofs.commit.lines.identity_line.Goals as goal

pub returns-in_err-after : goal.returns-in_err-after
returns-in_err-after c = rw c.from_residual-in_err-after.ensures (λ line rest who spells has. not_behind c.args.bytes.now c.in_ok-line.line.now c.in_ok-line.rest.now c.args.word.now c.in_ok-line.ensures c.in_err-after.ensures line rest has)

pub returns-in_err-who : goal.returns-in_err-who
returns-in_err-who c = rw c.from_residual-in_err-who.ensures (no_identity c.args.bytes.now c.in_ok-line.line.now c.in_ok-line.rest.now c.args.word.now c.in_ok-after.field-0.now c.in_ok-line.ensures c.in_ok-after.ensures c.in_err-who.ensures)

pub returns : goal.returns
returns c = identity_at c.args.bytes.now c.in_ok-line.line.now c.in_ok-line.rest.now c.args.word.now c.in_ok-after.field-0.now (identity_text c.in_ok-who.who) c.in_ok-line.ensures c.in_ok-after.ensures c.in_ok-who.ensures
