use Rattle.std.proofs.Common.{◌+◌, ◌∙◌, Some, None, subst}
use Rattle.bstr.specs.BStr.{bstr_bytes}
use Rattle.gx_object.specs.PartsRead.{ObjectText, PartsRead, object_text}
use Rattle.gx_object.specs.ParentIds.{GivesParent}
use Rattle.gx_object.specs.ParentReach.{read_at}
use Rattle.gx_object.proofs.ParentLemmas.{goes_on, gives_some, gives_none}
use Rattle.gx_object.proofs.commit.parent_ids.ParentIdsIterator.next.Goals as goal

pub returns-in_err-text-clause-steps : goal.returns-in_err-text-clause-steps
returns-in_err-text-clause-steps c =
    let it = c.self.inside in
    let end = gives_none (object_text it.hash it.bytes.now) it.rest.now it.given c.self.invariant c.in_err-text.ensures in
    rw c.from_residual.ensures (subst (λ (v : PartsRead). GivesParent v None v) c.self.view_is end)

pub invariant_of-self : goal.invariant_of-self
invariant_of-self c =
    let it = c.self.inside in
    goes_on (object_text it.hash it.bytes.now) it.rest.now c.in_ok-text.rest.now (bstr_bytes c.in_ok-text.text) it.given c.self.invariant c.in_ok-text.ensures

pub returns-clause-steps : goal.returns-clause-steps
returns-clause-steps c =
    let it = c.self.inside in
    let text : ObjectText = object_text it.hash it.bytes.now in
    let digits = c.id_of.ensures.digits ∙ c.as_bytes.ensures in
    let given = gives_some text it.rest.now c.in_ok-text.rest.now (bstr_bytes c.in_ok-text.text) it.given c.id_of.result c.self.invariant c.in_ok-text.ensures digits c.id_of.ensures.kind in
    subst (λ (v : PartsRead). GivesParent v (Some c.id_of.result) (read_at text (it.given + 1))) c.self.view_is given
