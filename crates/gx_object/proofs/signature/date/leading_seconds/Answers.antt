use Rattle.gx_object.proofs.Dates.{seconds_cut, seconds_whole, front_seconds}
use Rattle.gx_object.proofs.signature.date.leading_seconds.Goals as goal

pub returns-in-Some : goal.returns-in-Some
returns-in-Some c =
    let cut = c.in-Some.ensures in
    front_seconds c.args.text.now c.in-Some.seconds.now _ (seconds_cut _ _ _ cut.0 cut.1) c.read_seconds.ensures

pub returns-in-None : goal.returns-in-None
returns-in-None c = front_seconds c.args.text.now c.args.text.now _ (seconds_whole _ c.in-None.ensures) c.read_seconds-in-None.ensures
