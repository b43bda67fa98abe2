use Rattle.std.proofs.Common.{sym, subst}
use Rattle.gx_object.specs.PartsRead.{PartsRead}
use Rattle.gx_object.specs.TagSpelling.{SpellsTag}
use Rattle.gix.proofs.types.Tag.target_id.Goals as goal

pub returns-in-Ok-clause-tag : goal.returns-in-Ok-clause-tag
returns-in-Ok-clause-tag g c tag spells = c.in-Ok.ensures.tag tag
    (subst (λ (read : PartsRead). SpellsTag read.text.hash read.text.bytes tag) (sym c.parts.ensures) spells)

pub returns-in-Err-clause-tag : goal.returns-in-Err-clause-tag
returns-in-Err-clause-tag g c tag spells = c.in-Err.ensures.tag tag
    (subst (λ (read : PartsRead). SpellsTag read.text.hash read.text.bytes tag) (sym c.parts.ensures) spells)
