use Rattle.std.proofs.Common.{sym, subst}
use Rattle.gx_object.specs.CommitSpelling.{SpellsCommit}
use Rattle.gx_object.specs.PartsRead.{PartsRead}
use Rattle.gix.proofs.types.Commit.tree_id.Goals as goal

pub returns-in-Ok-clause-commit : goal.returns-in-Ok-clause-commit
returns-in-Ok-clause-commit g c commit spells = c.in-Ok.ensures.commit commit
    (subst (λ (read : PartsRead). SpellsCommit read.text.hash read.text.bytes commit) (sym c.iter.ensures) spells)

pub returns-in-Err-clause-commit : goal.returns-in-Err-clause-commit
returns-in-Err-clause-commit g c commit spells = c.in-Err.ensures.commit commit
    (subst (λ (read : PartsRead). SpellsCommit read.text.hash read.text.bytes commit) (sym c.iter.ensures) spells)
