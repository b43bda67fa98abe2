use Rattle.gx_script.proofs.ReaderLemmas.{newline_first}
use Rattle.gx_script.proofs.feed.newline_at.Goals as goal

pub returns : goal.returns
returns c = newline_first c.args.bytes.now c.memchr.result c.memchr.ensures
