use Rattle.std.proofs.Common.{◌∙◌, sym, subst}
use Rattle.bstr.specs.BStr.{bstr_bytes}
use Rattle.gx_hash.specs.ObjectId.{hex_of}
use Rattle.gx_hash.specs.HashKind.{IsOfKind}
use Rattle.gx_object.specs.CommitNext.{Tree}
use Rattle.gx_object.specs.CommitItems.{TreeId, StandsInFront, GoesWrong}
use Rattle.gx_object.specs.CommitSpelling.{SpellsCommit}
use Rattle.gx_object.specs.PartsRead.{PartsRead, object_text}
use Rattle.gx_object.proofs.FieldLemmas.{tree_wrong, tree_found, tree_of, wrong_is_none}
use Rattle.gx_object.proofs.commit.iter.CommitRefIter.tree_id.Goals as goal

pub returns-in_default-clause-commit : goal.returns-in_default-clause-commit
returns-in_default-clause-commit c c' s =
    let text = object_text c.self.inside.hash c.self.inside.bytes.now in
    wrong_is_none text Tree c.bad_line.result c' (tree_wrong text c.bad_line.result c.in_default.ensures c.bad_line.ensures)
    (subst (λ (v : PartsRead). SpellsCommit v.text.hash v.text.bytes c') (sym c.self.view_is) s)

pub returns-in_default-clause-causes : goal.returns-in_default-clause-causes
returns-in_default-clause-causes c =
    let text = object_text c.self.inside.hash c.self.inside.bytes.now in
    subst (λ (v : PartsRead). GoesWrong v.text Tree c.bad_line.result) c.self.view_is (tree_wrong text c.bad_line.result c.in_default.ensures c.bad_line.ensures)

pub returns-clause-commit : goal.returns-clause-commit
returns-clause-commit c c' s =
    let text = object_text c.self.inside.hash c.self.inside.bytes.now in
    tree_of text (bstr_bytes c.in-Some.text) c.in-Some.field-0-1.now (hex_of c.id_of.result) c.in-Some.ensures (c.id_of.ensures.digits ∙ c.as_bytes.ensures) c'
    (subst (λ (v : PartsRead). SpellsCommit v.text.hash v.text.bytes c') (sym c.self.view_is) s)

pub returns-clause-ok : goal.returns-clause-ok
returns-clause-ok c =
    let text = object_text c.self.inside.hash c.self.inside.bytes.now in
    subst (λ (v : PartsRead). StandsInFront v.text (TreeId (hex_of c.id_of.result))) c.self.view_is
    (tree_found text (bstr_bytes c.in-Some.text) c.in-Some.field-0-1.now (hex_of c.id_of.result) c.in-Some.ensures (c.id_of.ensures.digits ∙ c.as_bytes.ensures))

pub returns-clause-kind : goal.returns-clause-kind
returns-clause-kind c = subst (λ (v : PartsRead). IsOfKind v.text.hash c.id_of.result) c.self.view_is c.id_of.ensures.kind
