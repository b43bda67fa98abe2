use Rattle.std.proofs.Common.{sym, subst}
use Rattle.gx_object.specs.IdentitySpelling.{identity_text}
use Rattle.gx_object.specs.CommitItems.{AuthorIs, StandsInFront}
use Rattle.gx_object.specs.CommitSpelling.{SpellsCommit}
use Rattle.gx_object.specs.PartsRead.{PartsRead, object_text}
use Rattle.gx_object.proofs.FieldLemmas.{author_found, author_of, no_author_wrong}
use Rattle.gx_object.proofs.commit.iter.CommitRefIter.author.Goals as goal

pub returns-in_err-signature-clause-commit : goal.returns-in_err-signature-clause-commit
returns-in_err-signature-clause-commit c c' s =
    absurd (no_author_wrong (object_text c.self.inside.hash c.self.inside.bytes.now) c.in_err-signature.field-0.0 c' c.in_err-signature.ensures
    (subst (λ (v : PartsRead). SpellsCommit v.text.hash v.text.bytes c') (sym c.self.view_is) s))

pub returns-clause-commit : goal.returns-clause-commit
returns-clause-commit c c' s =
    author_of (object_text c.self.inside.hash c.self.inside.bytes.now) (identity_text c.in_ok-signature.signature) c.in_ok-signature.field-0-1.now c.in_ok-signature.ensures c'
    (subst (λ (v : PartsRead). SpellsCommit v.text.hash v.text.bytes c') (sym c.self.view_is) s)

pub returns-clause-ok : goal.returns-clause-ok
returns-clause-ok c =
    subst (λ (v : PartsRead). StandsInFront v.text (AuthorIs (identity_text c.in_ok-signature.signature))) c.self.view_is
    (author_found (object_text c.self.inside.hash c.self.inside.bytes.now) (identity_text c.in_ok-signature.signature) c.in_ok-signature.field-0-1.now c.in_ok-signature.ensures)
