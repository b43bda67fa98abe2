use Rattle.std.proofs.Common.{sym, subst, arith, List, ℕ}
use Rattle.gx_script.specs.declared.change.Change.TheVariants.{Put}
use Rattle.gx_script.specs.Grammar.{SaysChange}
use Rattle.gx_script.proofs.ChangeLemmas.{no_put_room, put_says}
use Rattle.gx_script.proofs.change.edit.Goals as goal

pub returns-then-size-room : goal.returns-then-size-room
returns-then-size-room c = no_put_room c.args.hash c.args.room c.args.line.now c.in-Some.kind c.in-Some.size c.in-Some.path.now c.in-Some.ensures.1 c.in-Some.ensures.0 c.if-size-room.true

pub returns-in-Some : goal.returns-in-Some
returns-in-Some c = subst (λ (p : List ℕ). SaysChange c.args.hash 0 c.args.room (Put c.in-Some.kind c.in-Some.size p) c.args.line.now) (sym c.in_ok-path.ensures) (put_says c.args.hash c.args.room c.args.line.now c.in-Some.kind c.in-Some.size c.in-Some.path.now c.requires c.in-Some.ensures.1 c.in-Some.ensures.0 (omega arith))
