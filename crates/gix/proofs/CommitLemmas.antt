-- What a commit of edits leaves.
use Rattle.std.proofs.Common.{◌∙◌, sym, ap, subst, List, [], arith, inl, inr}
use Rattle.std.proofs.lemmas.List.{append-nil}
use Rattle.gx_store.specs.declared.change.RefChange.{RefChange}
use Rattle.gx_store.specs.declared.error.StoreError.{StoreError}
use Rattle.gx_store.specs.declared.error.StoreError.TheVariants as store_error
use Rattle.gx_store.specs.State.{StoreState, Becomes, HasCause, OfFault, all_stored}
use Rattle.gx_store.specs.Change.{applied, AfterFault}
use Rattle.gx_store.specs.Faults.{Rose}
use Rattle.gx_refs.specs.Prepared.{CommitCauses, Prepares}
use Rattle.gx_refs.specs.declared.error.RefError.{RefError}
use Rattle.gx_refs.specs.declared.error.RefError.TheVariants as refusal
use Rattle.gix.specs.declared.settings.Settings.{Settings}
use Rattle.gix.specs.declared.plan.Plan.{Plan}
use Rattle.gix.specs.CommitRequest.{CommitRequest}
use Rattle.gix.specs.Reference.{commit_terms, edits_of}
use Rattle.gix.specs.CommitEdits.{Commits, Grows, HasBegun, IsTornBy, Leaves, LeavesFault, written_objects}
use Rattle.gix.specs.Causes.{CommitEditsCauses, HasFault, handed_on}
use Rattle.gix.specs.Lifting.{of_reference, IsOfOne}
use Rattle.gix.specs.Stages.{IsPlan}
use Rattle.gix.proofs.Growth.{becomes_then}

applied_then : (changes : List RefChange) (w t u : StoreState) → Becomes w t → Becomes (applied changes t) u → Becomes (applied changes w) u
applied_then changes w t u before after = record {
  same = after.same ∙ ap {A = StoreState} {B = StoreState} (λ v. record (applied changes v) { faults = u.faults }) before.same;
  later = omega (arith, before.later, after.later);
}

-- what a write of objects that failed leaves
pub leaves_begun : (settings : Settings) (r : CommitRequest) (s t : StoreState) (plan : Plan) → IsPlan settings r s plan → (e : StoreError) → Grows (written_objects r plan.objects.trees) s t → OfFault e (HasCause s t) → Leaves settings r s t (handed_on e)
leaves_begun settings r s t plan p store_error.NoMemory grows f = inr (record { output = plan.objects.trees; admitted = p.admitted; grows = grows })
leaves_begun settings r s t plan p (store_error.Fault fault) grows f = subst (LeavesFault settings r s t) (sym f.0) (inl (record { output = plan.objects.trees; admitted = p.admitted; grows = grows }))

module _ (settings : Settings) (r : CommitRequest) (s t u : StoreState) (plan : Plan) (p : IsPlan settings r s plan) (written : Becomes (all_stored (written_objects r plan.objects.trees) s) t) where
  -- its changes were not made
  pub made_as_one : (e : RefError) → CommitCauses plan.prepared.changes t u e → IsOfOne e
  made_as_one refusal.NoMemory c = tt
  made_as_one (refusal.Store fault) c = tt
  made_as_one (refusal.Cycle name) c = tt
  made_as_one (refusal.DepthLimitExceeded name) c = tt
  made_as_one (refusal.MustExist name) c = tt
  made_as_one (refusal.MustNotExist name actual) c = tt
  made_as_one (refusal.ReferenceOutOfDate name expected actual) c = tt
  made_as_one (refusal.NameConflict name with) c = tt
  made_as_one (refusal.DuplicateEdit name) c = absurd c
  made_as_one refusal.MissingCommitter c = absurd c
  made_as_one (refusal.Unwritable field) c = absurd c
  made_as_one (refusal.NameValidation kept) c = absurd c

  begun : Becomes t u → HasBegun settings r s u
  begun b = record {
    output = plan.objects.trees;
    admitted = p.admitted;
    grows = record {
      first = written_objects r plan.objects.trees;
      rest = [];
      split = sym (append-nil (written_objects r plan.objects.trees));
      becomes = becomes_then (all_stored (written_objects r plan.objects.trees) s) t u written b;
    };
  }

  torn : AfterFault plan.prepared.changes t u → IsTornBy settings r s u
  torn after = record {
    output = plan.objects.trees;
    admitted = p.admitted;
    ready = plan.prepared;
    prepared = subst (λ id. Prepares (commit_terms settings r) s.references (edits_of r id) plan.prepared) p.objects.is_id p.ready;
    stored = t;
    becomes = written;
    torn = after;
  }

  -- what an `apply` that failed leaves
  pub leaves_torn : (e : RefError) → CommitCauses plan.prepared.changes t u e → Leaves settings r s u (of_reference e)
  leaves_torn refusal.NoMemory c = inr (begun c)
  leaves_torn (refusal.Store fault) c = subst (LeavesFault settings r s u) (sym c.0.0) (inr (torn c.1))
  leaves_torn (refusal.Cycle name) c = absurd c
  leaves_torn (refusal.DepthLimitExceeded name) c = absurd c
  leaves_torn (refusal.MustExist name) c = absurd c
  leaves_torn (refusal.MustNotExist name actual) c = absurd c
  leaves_torn (refusal.ReferenceOutOfDate name expected actual) c = absurd c
  leaves_torn (refusal.NameConflict name with) c = absurd c
  leaves_torn (refusal.DuplicateEdit name) c = absurd c
  leaves_torn refusal.MissingCommitter c = absurd c
  leaves_torn (refusal.Unwritable field) c = absurd c
  leaves_torn (refusal.NameValidation kept) c = absurd c

  rose_since : Rose t.faults u.faults → Rose s.faults u.faults
  rose_since rose = let later = written.later in omega (arith, rose, later)

  -- and why it failed: a fault of writing is counted
  pub causes_torn : (e : RefError) → CommitCauses plan.prepared.changes t u e → CommitEditsCauses settings r s u (of_reference e)
  causes_torn refusal.NoMemory c = tt
  causes_torn (refusal.Store fault) c = subst (HasFault settings r s u) (sym c.0.0) (rose_since c.0.1)
  causes_torn (refusal.Cycle name) c = absurd c
  causes_torn (refusal.DepthLimitExceeded name) c = absurd c
  causes_torn (refusal.MustExist name) c = absurd c
  causes_torn (refusal.MustNotExist name actual) c = absurd c
  causes_torn (refusal.ReferenceOutOfDate name expected actual) c = absurd c
  causes_torn (refusal.NameConflict name with) c = absurd c
  causes_torn (refusal.DuplicateEdit name) c = absurd c
  causes_torn refusal.MissingCommitter c = absurd c
  causes_torn (refusal.Unwritable field) c = absurd c
  causes_torn (refusal.NameValidation kept) c = absurd c

  pub commits : Becomes (applied plan.prepared.changes t) u → Commits settings r s plan.objects.id u
  commits b = record {
    output = plan.objects.trees;
    admitted = p.admitted;
    is_id = p.objects.is_id;
    ready = plan.prepared;
    prepared = p.ready;
    becomes = applied_then plan.prepared.changes (all_stored (written_objects r plan.objects.trees) s) t u written b;
  }
