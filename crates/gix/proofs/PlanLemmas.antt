-- What is planned of a commit, and why its reference is not.
use Rattle.std.proofs.Common.{sym, refl, subst, List, ℕ, Bool, true, false, inl, inr, ◌⊎◌}
use Rattle.gx_hash.specs.declared.kind.HashKind.{HashKind}
use Rattle.gx_hash.specs.declared.kind.HashKind.TheVariants.{Sha1, Sha256}
use Rattle.gx_hash.specs.HashKind.{IsOfKind}
use Rattle.gx_hash.specs.ObjectId.{object_id}
use Rattle.gx_store.specs.Kinds.{AreChangesOfKind}
use Rattle.gx_store.specs.State.{StoreState}
use Rattle.gx_store.specs.declared.error.What.{What}
use Rattle.gx_store.specs.declared.error.What.TheVariants as what
use Rattle.gx_refs.specs.Chain.{IsChainFault}
use Rattle.gx_refs.specs.EditCauses.{EditCauses, EditWayCauses, ChangeCauses, IsEditFault, MayBeMade, OfEdit, OfPlan, WayCauses}
use Rattle.gx_refs.specs.EditLaws.{OneMeetsNone, SignerSigns}
use Rattle.gx_refs.specs.Prepared.{Prepares}
use Rattle.gx_refs.specs.declared.edit.RefEdit.{RefEdit}
use Rattle.gx_refs.specs.declared.error.RefError.{RefError}
use Rattle.gx_refs.specs.declared.error.RefError.TheVariants as refusal
use Rattle.gx_refs.specs.declared.terms.Terms.{Terms}
use Rattle.gix.specs.declared.settings.Settings.{Settings}
use Rattle.gix.specs.declared.error.CommitEditsError.TheVariants as error
use Rattle.gix.specs.declared.plan.NewObjects.{NewObjects}
use Rattle.gix.specs.declared.plan.Plan.{Plan}
use Rattle.gix.specs.CommitRequest.{CommitRequest}
use Rattle.gix.specs.Lifting.{of_reference, IsOfOne}
use Rattle.gix.specs.NewCommit.{commit_id}
use Rattle.gix.specs.Reference.{commit_terms, edit_of, edits_of}
use Rattle.gix.specs.Stages.{StageCauses, AreObjects, AreStorable, IsPlan}
use Rattle.gix.proofs.EditingLemmas.{fault_unreadable}

object_id_of_kind : (hash : HashKind) (kind_name bytes : List ℕ) → IsOfKind hash (object_id hash kind_name bytes)
unfolding object_id
object_id_of_kind Sha1 kind_name bytes = refl
object_id_of_kind Sha256 kind_name bytes = refl

pub id_of_kind : (hash : HashKind) (r : CommitRequest) (objects : NewObjects) → AreObjects hash r objects → IsOfKind hash objects.id
id_of_kind hash r objects a = subst (IsOfKind hash) (sym a.is_id) (object_id_of_kind hash _ _)

-- ---- faults

-- it names a reference, or the listing
abbrev IsOfNames : What → Type 0
IsOfNames (what.Name name) = Unit {0}
IsOfNames what.Listing = Unit {0}
IsOfNames (what.Object id) = ⊥
IsOfNames what.Index = ⊥
IsOfNames what.Write = ⊥

chain_of_names : (state : StoreState) (name : List ℕ) (fault : What) → IsChainFault state name fault → IsOfNames fault
chain_of_names state name (what.Name reached) h = tt
chain_of_names state name (what.Object id) h = absurd h
chain_of_names state name what.Index h = absurd h
chain_of_names state name what.Listing h = absurd h
chain_of_names state name what.Write h = absurd h

way_of_names : (state : StoreState) (deref : Bool) (name : List ℕ) (fault : What) → WayCauses state deref name (refusal.Store fault) → IsOfNames fault
way_of_names state true name fault h = chain_of_names state name fault h
way_of_names state false name fault h = subst IsOfNames (sym h.0) tt

read_of_names : (terms : Terms) (state : StoreState) (edits : List RefEdit) (fault : What) → OfEdit edits (λ edit. EditWayCauses terms.space state edit (refusal.Store fault)) ⊎ OfPlan terms state.references edits (λ plan. ChangeCauses terms state plan (refusal.Store fault)) → IsOfNames fault
read_of_names terms state edits fault (inl way) = way_of_names state way.edit.deref _ fault way.holds
read_of_names terms state edits fault (inr line) = subst IsOfNames (sym line.holds.2.unreadable.0) tt

-- ---- refusals

module _ (alone : OneMeetsNone) (signs : SignerSigns) (settings : Settings) (r : CommitRequest) (s : StoreState) (objects : NewObjects) (o : AreStorable settings r s objects) where
  abbrev terms : Terms
  terms = commit_terms settings r

  abbrev edits : List RefEdit
  edits = edits_of r objects.id

  pub refused_as_one : (e : RefError) → EditCauses terms s edits e → IsOfOne e
  refused_as_one (refusal.DuplicateEdit name) c = absurd (alone terms s.references (edit_of r objects.id) name c)
  refused_as_one refusal.MissingCommitter c = absurd ((signs terms s.references edits o.may.identities.1).0 c)
  refused_as_one (refusal.Unwritable field) c = absurd ((signs terms s.references edits o.may.identities.1).1 field c)
  refused_as_one (refusal.NameValidation kept) c = absurd c
  refused_as_one (refusal.Cycle name) c = tt
  refused_as_one (refusal.DepthLimitExceeded name) c = tt
  refused_as_one (refusal.MustExist name) c = tt
  refused_as_one (refusal.MustNotExist name actual) c = tt
  refused_as_one (refusal.ReferenceOutOfDate name expected actual) c = tt
  refused_as_one (refusal.NameConflict name with) c = tt
  refused_as_one (refusal.Store fault) c = tt
  refused_as_one refusal.NoMemory c = tt

  -- the id is that of the commit over the trees
  refused_here : (e : RefError) → EditCauses terms s edits e → EditCauses terms s (edits_of r (commit_id s.hash r objects.trees)) e
  refused_here e c = subst (λ id. EditCauses terms s (edits_of r id) e) o.are.is_id c

  fault_here : (fault : What) → IsEditFault terms s edits fault → StageCauses settings r s (error.Store fault)
  fault_here (what.Name name) c = (fault_unreadable terms s edits (what.Name name) c, record { output = objects.trees; may = o.may; unread = refused_here (refusal.Store (what.Name name)) c })
  fault_here what.Listing c = (fault_unreadable terms s edits what.Listing c, record { output = objects.trees; may = o.may; unread = refused_here (refusal.Store what.Listing) c })
  fault_here (what.Object id) c = absurd (read_of_names terms s edits (what.Object id) c)
  fault_here what.Index c = absurd (read_of_names terms s edits what.Index c)
  fault_here what.Write c = absurd (read_of_names terms s edits what.Write c)

  pub move_refused : (e : RefError) → EditCauses terms s edits e → StageCauses settings r s (of_reference e)
  move_refused (refusal.DuplicateEdit name) c = tt
  move_refused refusal.MissingCommitter c = tt
  move_refused (refusal.Unwritable field) c = tt
  move_refused (refusal.NameValidation kept) c = tt
  move_refused (refusal.Cycle name) c = record { output = objects.trees; may = o.may; refused = refused_here (refusal.Cycle name) c }
  move_refused (refusal.DepthLimitExceeded name) c = record { output = objects.trees; may = o.may; refused = refused_here (refusal.DepthLimitExceeded name) c }
  move_refused (refusal.MustExist name) c = record { output = objects.trees; may = o.may; refused = refused_here (refusal.MustExist name) c }
  move_refused (refusal.MustNotExist name actual) c = record { output = objects.trees; may = o.may; refused = refused_here (refusal.MustNotExist name actual) c }
  move_refused (refusal.ReferenceOutOfDate name expected actual) c = record { output = objects.trees; may = o.may; refused = refused_here (refusal.ReferenceOutOfDate name expected actual) c }
  move_refused (refusal.NameConflict name with) c = record { output = objects.trees; may = o.may; refused = refused_here (refusal.NameConflict name with) c }
  move_refused (refusal.Store fault) c = fault_here fault c
  move_refused refusal.NoMemory c = tt

-- ---- the plan

pub planned : (settings : Settings) (r : CommitRequest) (s : StoreState) (plan : Plan) → AreStorable settings r s plan.objects → Prepares (commit_terms settings r) s.references (edits_of r plan.objects.id) plan.prepared → AreChangesOfKind s.hash plan.prepared.changes → IsPlan settings r s plan
planned settings r s plan o p kinds = record {
  admitted = record {
    objects = o.may;
    reference = subst (λ id. MayBeMade (commit_terms settings r) s.references (edits_of r id)) o.are.is_id (record { plans = p.plans; ways = p.ways; accepted = p.accepted });
  };
  objects = o.are;
  ready = p;
  kinds = kinds;
}
