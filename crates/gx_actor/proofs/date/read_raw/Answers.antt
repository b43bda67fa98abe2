use Rattle.gx_actor.proofs.DateLemmas.{raw_read}
use Rattle.gx_actor.proofs.date.read_raw.Goals as goal

pub returns : goal.returns
returns c = rw c.ok.ensures.value (raw_read c.args.text.now c.time.result (rw c.new-3.ensures at c.time.ensures))
