use Rattle.gx_script.proofs.FieldLemmas.{no_ref, no_ref_name, no_ref_target, no_ref_expect}
use Rattle.gx_script.proofs.opening.ref_opening.Goals as goal

pub returns-in_default : goal.returns-in_default
returns-in_default c = no_ref c.args.hash c.args.line.now c.in_default.ensures

pub returns-in_default-2 : goal.returns-in_default-2
returns-in_default-2 c = no_ref_name c.args.hash c.args.line.now c.in-Some.name.now c.in-Some.aim.now c.in-Some.wanted.now c.in-Some.ensures (rw c.in_default-2.is at c.in_ok-name.ensures)

pub returns-in_default-3 : goal.returns-in_default-3
returns-in_default-3 c = no_ref_target c.args.hash c.args.line.now c.in-Some.name.now c.in-Some.aim.now c.in-Some.wanted.now c.in-Some.ensures (rw c.in_default-3.is at c.in_ok-target.ensures)

pub returns-in_default-4 : goal.returns-in_default-4
returns-in_default-4 c = no_ref_expect c.args.hash c.args.line.now c.in-Some.name.now c.in-Some.aim.now c.in-Some.wanted.now c.in-Some.ensures (rw c.in_default-4.is at c.in_ok-expect.ensures)
