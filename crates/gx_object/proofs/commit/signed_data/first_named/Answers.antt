use Rattle.std.proofs.Common.{rules}
use Rattle.gx_object.proofs.CommitSignatures.{passes_more, finds_first, finds_none}
use Rattle.gx_object.specs.CommitSpelling.{header_text}
use Rattle.gx_object.proofs.commit.signed_data.first_named.Goals as goal

pub returns-then-eq : goal.returns-then-eq
returns-then-eq c headers message each e = finds_first c.args.name.now headers message c.loop-found.rest.now (header_text c.in-Some.found) c.in-Some.more.now each (c.loop-found.invariant headers message each e) c.in-Some.ensures (search rules)

pub loop-found-preserved : goal.loop-found-preserved
loop-found-preserved c headers message each e = passes_more c.args.name.now headers message c.loop-found.rest.now (header_text c.in-Some.found) c.in-Some.more.now each (c.loop-found.invariant headers message each e) c.in-Some.ensures (search rules)

pub returns : goal.returns
returns c headers message each e = finds_none c.args.name.now headers message c.loop-found.rest.now each (c.loop-found.invariant headers message each e) c.in_default.ensures
