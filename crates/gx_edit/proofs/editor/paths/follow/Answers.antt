use Rattle.std.proofs.Common.{sym}
use Rattle.gx_edit.specs.Path.{components}
use Rattle.gx_edit.specs.Nodes.{places_of}
use Rattle.gx_edit.proofs.UpsertLemmas.{goes_on}
use Rattle.gx_edit.proofs.editor.paths.follow.Goals as goal

pub loop-name-preserved : goal.loop-name-preserved
loop-name-preserved c = goes_on (places_of c.args.nodes.now) c.requires (components c.args.path.now) c.loop-name.at c.in-Some-inner_at.inner c.in-Some.name.now (components c.loop-name.rest.now) (components c.in-Some.below.now) c.loop-name.invariant c.in-Some.ensures.parts (sym c.in-Some-inner_at.ensures)
