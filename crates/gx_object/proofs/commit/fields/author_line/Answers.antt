use Rattle.std.proofs.Common.{inl, inr}
use Rattle.gx_object.specs.IdentitySpelling.{identity_text}
use Rattle.gx_object.proofs.FieldLemmas.{tree_wrong, author_wrong, author_has}
use Rattle.gx_object.specs.PartsRead.{object_text}
use Rattle.gx_object.proofs.commit.fields.author_line.Goals as goal

pub returns-in_default : goal.returns-in_default
returns-in_default c = inl (tree_wrong (object_text c.args.hash c.args.bytes.now) c.bad_line.result c.in_default.ensures c.bad_line.ensures)

pub returns-in_default-identity_line : goal.returns-in_default-identity_line
returns-in_default-identity_line c = inr (author_wrong (object_text c.args.hash c.args.bytes.now) _ c.in-Some.rest.now c.skip_parents-rest.result.now c.bad_line-in_default-identity_line.result c.in-Some.ensures c.skip_parents-rest.ensures c.in_default-identity_line.ensures c.bad_line-in_default-identity_line.ensures)

pub returns : goal.returns
returns c = author_has (object_text c.args.hash c.args.bytes.now) _ c.in-Some.rest.now c.skip_parents-rest.result.now c.in-Some-identity_line.behind.now (identity_text c.in-Some-identity_line.signature) c.in-Some.ensures c.skip_parents-rest.ensures c.in-Some-identity_line.ensures
