use Rattle.std.proofs.Common.{◌∙◌, sym, subst}
use Rattle.bstr.specs.BStr.{bstr_bytes}
use Rattle.gx_hash.specs.ObjectId.{hex_of}
use Rattle.gx_hash.specs.HashKind.{IsOfKind}
use Rattle.gx_object.specs.PartsRead.{PartsRead}
use Rattle.gx_object.specs.TagItems.{GoesWrong, StandsInFront, TargetIs}
use Rattle.gx_object.specs.TagSpelling.{SpellsTag}
use Rattle.gx_object.proofs.TagSteps.{target_found, target_is, wrong_target}
use Rattle.gx_object.proofs.tag.iter.TagRefIter.target_id.Goals as goal

pub returns-in_default-clause-tag : goal.returns-in_default-clause-tag
returns-in_default-clause-tag c t s =
    let it = c.self.inside in
    (wrong_target it.hash it.bytes.now c.bad_line.result c.in_default.ensures c.bad_line.ensures).none.none t
    (subst (λ (v : PartsRead). SpellsTag v.text.hash v.text.bytes t) (sym c.self.view_is) s)

pub returns-in_default-clause-causes : goal.returns-in_default-clause-causes
returns-in_default-clause-causes c =
    let it = c.self.inside in
    subst (λ (v : PartsRead). GoesWrong v.text.hash v.text.bytes 0 c.bad_line.result) c.self.view_is (wrong_target it.hash it.bytes.now c.bad_line.result c.in_default.ensures c.bad_line.ensures)

pub returns-clause-tag : goal.returns-clause-tag
returns-clause-tag c t s =
    let it = c.self.inside in
    target_is it.hash it.bytes.now (bstr_bytes c.in-Some.text) c.in-Some.field-0-1.now (hex_of c.id_of.result) c.in-Some.ensures (c.id_of.ensures.digits ∙ c.as_bytes.ensures) t
    (subst (λ (v : PartsRead). SpellsTag v.text.hash v.text.bytes t) (sym c.self.view_is) s)

pub returns-clause-ok : goal.returns-clause-ok
returns-clause-ok c =
    let it = c.self.inside in
    subst (λ (v : PartsRead). StandsInFront v.text.hash v.text.bytes 0 (TargetIs (hex_of c.id_of.result))) c.self.view_is
    (target_found it.hash it.bytes.now (bstr_bytes c.in-Some.text) c.in-Some.field-0-1.now (hex_of c.id_of.result) c.in-Some.ensures (c.id_of.ensures.digits ∙ c.as_bytes.ensures))

pub returns-clause-kind : goal.returns-clause-kind
returns-clause-kind c = subst (λ (v : PartsRead). IsOfKind v.text.hash c.id_of.result) c.self.view_is c.id_of.ensures.kind
