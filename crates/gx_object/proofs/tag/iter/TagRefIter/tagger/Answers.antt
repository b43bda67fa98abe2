use Rattle.std.proofs.Common.{sym, subst, IfOk}
use Rattle.std.specs.Option.{option_map}
use Rattle.gx_object.specs.IdentitySpelling.{identity_text}
use Rattle.gx_object.specs.PartsRead.{PartsRead}
use Rattle.gx_object.specs.TagItems.{TellsTagger}
use Rattle.gx_object.specs.TagSpelling.{SpellsTag}
use Rattle.gx_object.proofs.TagSteps.{tagger_of_tag, tagger_told}
use Rattle.gx_object.proofs.tag.iter.TagRefIter.tagger.Goals as goal

pub returns-clause-tag : goal.returns-clause-tag
returns-clause-tag c t s =
    let it = c.self.inside in
    tagger_of_tag it.hash it.bytes.now c.read_tagger.result c.read_tagger.ensures t (subst (λ (v : PartsRead). SpellsTag v.text.hash v.text.bytes t) (sym c.self.view_is) s)

pub returns-clause-ok : goal.returns-clause-ok
returns-clause-ok c =
    let it = c.self.inside in
    subst (λ (v : PartsRead). IfOk c.read_tagger.result (λ who. TellsTagger v.text.hash v.text.bytes (option_map identity_text who))) c.self.view_is (tagger_told it.hash it.bytes.now c.read_tagger.result c.read_tagger.ensures)
