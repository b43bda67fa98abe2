use Rattle.gx_object.specs.CommitSpelling.{CommitText, SpellsCommit}
use Rattle.gx_walk.proofs.ParentLemmas.{AreRead}
use Rattle.gx_walk.proofs.commit.read.parent_ids.Given as goal

abbrev pub invariant-loop-id : goal.invariant-loop-id
invariant-loop-id l = (c : CommitText) → SpellsCommit l.commit.text.hash l.commit.text.bytes c
    → AreRead l.commit.text l.id-iterator c.parents l.parents.items
