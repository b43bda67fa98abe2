use Rattle.std.proofs.Common.{sym, subst}
use Rattle.gx_object.specs.CommitSpelling.{SpellsCommit}
use Rattle.gx_object.specs.PartsRead.{PartsRead, object_text}
use Rattle.gx_object.proofs.MessageField.{message_of}
use Rattle.gx_object.proofs.commit.iter.CommitRefIter.message.Goals as goal

pub returns-clause-commit : goal.returns-clause-commit
returns-clause-commit c c' s =
    message_of (object_text c.self.inside.hash c.self.inside.bytes.now) c.read_message.result c.read_message.ensures c'
    (subst (λ (v : PartsRead). SpellsCommit v.text.hash v.text.bytes c') (sym c.self.view_is) s)
