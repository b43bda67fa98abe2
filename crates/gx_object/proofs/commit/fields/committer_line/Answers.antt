use Rattle.std.proofs.Common.{inr}
use Rattle.gx_object.specs.IdentitySpelling.{identity_text}
use Rattle.gx_object.proofs.FieldLemmas.{committer_wrong, committer_has}
use Rattle.gx_object.specs.PartsRead.{object_text}
use Rattle.gx_object.proofs.commit.fields.committer_line.Goals as goal

pub returns-in_default : goal.returns-in_default
returns-in_default c = inr (committer_wrong (object_text c.args.hash c.args.bytes.now) (identity_text c.in_ok-rest.field-0-0) c.in_ok-rest.rest.now c.bad_line.result c.in_ok-rest.ensures c.in_default.ensures c.bad_line.ensures)

pub returns : goal.returns
returns c = committer_has (object_text c.args.hash c.args.bytes.now) (identity_text c.in_ok-rest.field-0-0) (identity_text c.in-Some.signature) c.in_ok-rest.rest.now c.in-Some.behind.now c.in_ok-rest.ensures c.in-Some.ensures
