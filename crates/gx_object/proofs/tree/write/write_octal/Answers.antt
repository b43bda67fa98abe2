use Rattle.std.proofs.Common.{◌∙◌, ◌/◌, ◌-◌, arith}
use Rattle.gx_object.specs.Laws.Octal.{octal_start, octal_step, octal_fits, octal_left}
use Rattle.gx_object.proofs.tree.write.write_octal.Goals as goal

pub loop-rest-init : goal.loop-rest-init
loop-rest-init c = record {
  some_left = omega arith;
  six = omega arith;
  fits = omega arith;
  written = octal_start c.args.mode c.args.digits.now c.told-digits;
}

pub loop-rest-preserved : goal.loop-rest-preserved
loop-rest-preserved c =
    let l = c.loop-rest in
    let before = l.invariant in
    let fits = octal_fits l.rest l.at before.some_left before.fits in record {
      some_left = octal_left (l.rest / 8) (l.at - 1) fits c.if-rest-eq0.false;
      six = omega arith;
      fits = fits;
      written = octal_step l.rest l.at l.digits (omega arith) before.some_left before.six c.if-rest-eq0.false ∙ before.written;
    }
