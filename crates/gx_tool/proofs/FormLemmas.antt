-- All forms: each that is served is one case of each lemma.
use Rattle.std.proofs.Common.{◌≡◌, refl, ℕ, List, Option}
use Rattle.gx_hash.specs.declared.kind.HashKind.{HashKind}
use Rattle.gx_script.specs.declared.request.CommitRequest.{CommitRequest as Asked}
use Rattle.gx_script.specs.declared.request.Expect.{Expect}
use Rattle.gx_script.specs.declared.request.RefRequest.{RefRequest}
use Rattle.gx_script.specs.declared.request.Request.{Request}
use Rattle.gx_script.specs.declared.request.Request.TheVariants as form
use Rattle.gx_script.specs.Script.{IsRequest}
use Rattle.gx_tool.specs.CallLaws.{CallLaws}
use Rattle.gx_tool.specs.Serving.{call_of}
use Rattle.gx_tool.specs.UnservedForm.{unserved_call}
use Rattle.gx_tool.proofs.CallLemmas.{Allowed, Lawful}
use Rattle.gx_tool.proofs.CommitForm.{commit_allowed, commit_lawful, have_module_ids}
use Rattle.gx_tool.proofs.LogForm.{log_allowed, log_lawful}
use Rattle.gx_tool.proofs.ReferenceForms.{delete_allowed, delete_lawful, ref_allowed, ref_lawful, ref_needs}
use Rattle.gx_tool.proofs.RefsForm.{refs_allowed, refs_lawful}
use Rattle.gx_tool.proofs.UnservedForm.{unserved_allowed, unserved_lawful}

pub lawful : CallLaws → (request : Request) → Lawful (call_of request)
unfolding call_of
lawful laws (form.Commit asked) = commit_lawful laws asked
lawful laws (form.Log name) = log_lawful laws name
lawful laws (form.Refs prefix) = refs_lawful laws prefix
lawful laws (form.Ref asked) = ref_lawful laws asked
lawful laws (form.Delete name expect) = delete_lawful laws name expect
lawful laws request = unserved_lawful

pub allowed : CallLaws → (request : Request) → Allowed (call_of request)
unfolding call_of
allowed laws (form.Commit asked) = commit_allowed laws asked
allowed laws (form.Log name) = log_allowed name
allowed laws (form.Refs prefix) = refs_allowed laws prefix
allowed laws (form.Ref asked) = ref_allowed laws asked
allowed laws (form.Delete name expect) = delete_allowed laws name expect
allowed laws request = unserved_allowed

-- the requests of a script meet what their calls need
pub needs_met : (hash : HashKind) (request : Request) → IsRequest hash request → (call_of request).needs hash
unfolding call_of
needs_met hash (form.Commit asked) fits = have_module_ids hash asked.edits fits.form.edits
needs_met hash (form.Ref asked) fits = ref_needs hash asked fits.form.target
needs_met hash (form.Delete name expect) fits = (tt, tt)
needs_met hash request fits = tt

-- any other form is not served
pub not_served : (request : Request) → ((asked : Asked) → request ≡ form.Commit asked → ⊥) → ((name : List ℕ) → request ≡ form.Log name → ⊥) → ((prefix : Option (List ℕ)) → request ≡ form.Refs prefix → ⊥) → ((asked : RefRequest) → request ≡ form.Ref asked → ⊥) → ((name : List ℕ) (expect : Expect) → request ≡ form.Delete name expect → ⊥) → call_of request ≡ unserved_call
unfolding call_of
not_served (form.Commit asked) commit log refs set delete = absurd (commit asked refl)
not_served (form.Log name) commit log refs set delete = absurd (log name refl)
not_served (form.Refs prefix) commit log refs set delete = absurd (refs prefix refl)
not_served (form.Ref asked) commit log refs set delete = absurd (set asked refl)
not_served (form.Delete name expect) commit log refs set delete = absurd (delete name expect refl)
not_served request commit log refs set delete = refl
