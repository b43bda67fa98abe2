use Rattle.gx_actor.proofs.PersonaLemmas.{time_or_now}
use Rattle.gx_actor.proofs.persona.time.Goals as goal

pub returns-in-Some : goal.returns-in-Some
returns-in-Some c = rw (c.in-Some.is, c.unwrap_or.ensures) (time_or_now _ c.args.now c.read_time.result (rw c.as_slice.ensures at c.read_time.ensures))
