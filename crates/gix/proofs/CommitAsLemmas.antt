-- A commit of a tree that is there, and its reference.
use Rattle.std.proofs.Common.{◌≡◌, ◌≤◌, ◌∙◌, refl, sym, ap, subst, arith, ℕ, Bool, true, false, true≢false, List, [], ◌∷◌, Option, Some, None, option_map, Result, Ok, Err, IfOk, IfErr, IfSome, IsTrue, inl, inr, ◌⊎◌}
use Rattle.gx_hash.specs.declared.kind.HashKind.{HashKind}
use Rattle.gx_hash.specs.ObjectId.{object_id}
use Rattle.gx_hash.specs.declared.oid.ObjectId.{ObjectId}
use Rattle.gx_object.specs.Commit.{plain_commit_bytes}
use Rattle.gx_object.specs.Field.{first_unwritable}
use Rattle.gx_object.specs.Kind.{kind_name}
use Rattle.gx_object.specs.declared.encode.Field.{Field}
use Rattle.gx_object.specs.declared.kind.Kind.TheVariants as kind
use Rattle.gx_refs.specs.EditCauses.{EditCauses, EditRefusal, IsEditFault}
use Rattle.gx_refs.specs.Prepared.{CommitCauses as MoveCauses, Prepares, Ready}
use Rattle.gx_refs.specs.declared.error.RefError.{RefError}
use Rattle.gx_refs.specs.declared.error.RefError.TheVariants as refusal
use Rattle.gx_store.specs.Change.{AfterFault, applied, refs_after}
use Rattle.gx_store.specs.Content.{Content, id_of, with_objects}
use Rattle.gx_store.specs.Faults.{Rose}
use Rattle.gx_store.specs.State.{RefState, StoreState, Becomes, HasCause, OfFault, all_stored, stored}
use Rattle.gx_store.specs.declared.change.RefChange.{RefChange}
use Rattle.gx_store.specs.declared.error.StoreError.{StoreError}
use Rattle.gx_store.specs.declared.error.StoreError.TheVariants as failure
use Rattle.gx_store.specs.declared.error.What.{What}
use Rattle.gix.specs.declared.commit.CommitError.{CommitError}
use Rattle.gix.specs.declared.commit.CommitError.TheVariants.{Unwritable, ReferenceEdit, Store, NoMemory}
use Rattle.gix.specs.declared.settings.Settings.{Settings}
use Rattle.gix.specs.CommitAs.{AcceptsCommit, CommitCauses, CommitRefusal, CommitsTree, HasWritable, IsNotMoved, IsPrepared, IsTornAt, LeavesCommit, commit_as_meaning, commit_part, id_over, not_moved, not_stored, with_commit}
use Rattle.gix.specs.CommitOverTree.{commit_over, is_writable_in}
use Rattle.gix.specs.CommitRequest.{CommitRequest}
use Rattle.gix.specs.Held.{Held, BothTold, WhereTold, state_of, state_told}
use Rattle.gix.specs.Meaning.{Means, Stays, IsLawful}
use Rattle.gix.specs.Reference.{commit_terms, edits_of}
use Rattle.gix.specs.View.{State}
use Rattle.gix.proofs.AskingLemmas.{told_still}
use Rattle.gix.proofs.EditingLemmas.{fault_unreadable}
use Rattle.gix.proofs.Growth.{becomes_itself, becomes_then, rose_since}

-- ---- the edit of the reference, which is not prepared

module _ (settings : Settings) (tree : ObjectId) (r : CommitRequest) (s : StoreState) (writable : HasWritable r) where
  pub unprepared_causes : (e : RefError) → EditCauses (commit_terms settings r) s (edits_of r (id_over s.hash tree r)) e → CommitCauses settings tree r s s (not_moved e)
  unprepared_causes (refusal.Store fault) c = inl c
  unprepared_causes refusal.NoMemory c = tt
  unprepared_causes (refusal.Cycle name) c = (writable, c)
  unprepared_causes (refusal.DepthLimitExceeded name) c = (writable, c)
  unprepared_causes (refusal.MustExist name) c = (writable, c)
  unprepared_causes (refusal.MustNotExist name actual) c = (writable, c)
  unprepared_causes (refusal.ReferenceOutOfDate name expected actual) c = (writable, c)
  unprepared_causes (refusal.NameConflict name with) c = (writable, c)
  unprepared_causes (refusal.DuplicateEdit name) c = (writable, c)
  unprepared_causes refusal.MissingCommitter c = (writable, c)
  unprepared_causes (refusal.Unwritable field) c = (writable, c)
  unprepared_causes (refusal.NameValidation kept) c = absurd c

pub unmoved_leaves : (settings : Settings) (tree : ObjectId) (r : CommitRequest) (s : StoreState) (e : RefError) → LeavesCommit settings tree r s s (not_moved e)
unmoved_leaves settings tree r s (refusal.Store fault) = inl (becomes_itself s)
unmoved_leaves settings tree r s refusal.NoMemory = inl (becomes_itself s)
unmoved_leaves settings tree r s (refusal.Cycle name) = refl
unmoved_leaves settings tree r s (refusal.DepthLimitExceeded name) = refl
unmoved_leaves settings tree r s (refusal.MustExist name) = refl
unmoved_leaves settings tree r s (refusal.MustNotExist name actual) = refl
unmoved_leaves settings tree r s (refusal.ReferenceOutOfDate name expected actual) = refl
unmoved_leaves settings tree r s (refusal.NameConflict name with) = refl
unmoved_leaves settings tree r s (refusal.DuplicateEdit name) = refl
unmoved_leaves settings tree r s refusal.MissingCommitter = refl
unmoved_leaves settings tree r s (refusal.Unwritable field) = refl
unmoved_leaves settings tree r s (refusal.NameValidation kept) = refl

-- ---- the commit, which is not stored

pub unstored_leaves : (settings : Settings) (tree : ObjectId) (r : CommitRequest) (s t : StoreState) (e : StoreError) → Becomes s t → LeavesCommit settings tree r s t (not_stored e)
unstored_leaves settings tree r s t failure.NoMemory b = inl b
unstored_leaves settings tree r s t (failure.Fault fault) b = inl b

pub unstored_causes : (settings : Settings) (tree : ObjectId) (r : CommitRequest) (s t : StoreState) (e : StoreError) → OfFault e (HasCause s t) → CommitCauses settings tree r s t (not_stored e)
unstored_causes settings tree r s t failure.NoMemory c = tt
unstored_causes settings tree r s t (failure.Fault fault) c = inr c

-- ---- the commit, which is stored

module _ (tree : ObjectId) (r : CommitRequest) (bytes : List ℕ) (spelled : bytes ≡ plain_commit_bytes tree r.parents r.author r.committer r.message) where
  pub own_id : (hash hash' : HashKind) (name : List ℕ) (id : ObjectId) → hash ≡ hash' → name ≡ kind_name kind.Commit → id ≡ object_id hash name bytes → id ≡ id_over hash' tree r
  own_id hash hash' name id kept named of = of ∙ ap (λ h. object_id h name bytes) kept ∙ ap (λ n. object_id hash' n bytes) named ∙ ap (λ x. id_of hash' (kind.Commit, x)) spelled

  pub written_commit : (s t : StoreState) (id : ObjectId) → id ≡ id_over s.hash tree r → Becomes (stored id (kind.Commit, bytes) s) t → Becomes (with_commit tree r s) t
  written_commit s t id own b = subst (λ i. Becomes (stored i (commit_over tree r) s) t) own (subst (λ x. Becomes (stored id (kind.Commit, x) s) t) spelled b)

pub prepared_over : (settings : Settings) (tree : ObjectId) (r : CommitRequest) (s : StoreState) (id : ObjectId) (ready : Ready) → id ≡ id_over s.hash tree r → Prepares (commit_terms settings r) s.references (edits_of r id) ready → IsPrepared settings tree r s ready
prepared_over settings tree r s id ready own p = subst (λ i. Prepares (commit_terms settings r) s.references (edits_of r i) ready) own p

-- ---- the reference, which is not moved

applied_then : (changes : List RefChange) (w t u : StoreState) → Becomes w t → Becomes (applied changes t) u → Becomes (applied changes w) u
applied_then changes w t u before after = record {
  same = after.same ∙ ap {A = StoreState} {B = StoreState} (λ v. record (applied changes v) { faults = u.faults }) before.same;
  later = omega (arith, before.later, after.later);
}

module _ (settings : Settings) (tree : ObjectId) (r : CommitRequest) (s t u : StoreState) (ready : Ready) (writable : HasWritable r) (prepared : IsPrepared settings tree r s ready) (written : Becomes (with_commit tree r s) t) where
  not_moved_yet : Becomes t u → IsNotMoved settings tree r s u
  not_moved_yet b = record { writable = writable; ready = ready; prepared = prepared; becomes = becomes_then (with_commit tree r s) t u written b }

  torn : AfterFault ready.changes t u → IsTornAt settings tree r s u
  torn after = record { writable = writable; ready = ready; prepared = prepared; stored = t; becomes = written; torn = after }

  pub torn_leaves : (e : RefError) → MoveCauses ready.changes t u e → LeavesCommit settings tree r s u (not_moved e)
  torn_leaves refusal.NoMemory c = inr (not_moved_yet c)
  torn_leaves (refusal.Store fault) c = inr (torn c.1)
  torn_leaves (refusal.Cycle name) c = absurd c
  torn_leaves (refusal.DepthLimitExceeded name) c = absurd c
  torn_leaves (refusal.MustExist name) c = absurd c
  torn_leaves (refusal.MustNotExist name actual) c = absurd c
  torn_leaves (refusal.ReferenceOutOfDate name expected actual) c = absurd c
  torn_leaves (refusal.NameConflict name with) c = absurd c
  torn_leaves (refusal.DuplicateEdit name) c = absurd c
  torn_leaves refusal.MissingCommitter c = absurd c
  torn_leaves (refusal.Unwritable field) c = absurd c
  torn_leaves (refusal.NameValidation kept) c = absurd c

  pub torn_causes : (e : RefError) → MoveCauses ready.changes t u e → CommitCauses settings tree r s u (not_moved e)
  torn_causes refusal.NoMemory c = tt
  torn_causes (refusal.Store fault) c = inr (c.0.0, rose_since s.faults t.faults u.faults written.later c.0.1)
  torn_causes (refusal.Cycle name) c = absurd c
  torn_causes (refusal.DepthLimitExceeded name) c = absurd c
  torn_causes (refusal.MustExist name) c = absurd c
  torn_causes (refusal.MustNotExist name actual) c = absurd c
  torn_causes (refusal.ReferenceOutOfDate name expected actual) c = absurd c
  torn_causes (refusal.NameConflict name with) c = absurd c
  torn_causes (refusal.DuplicateEdit name) c = absurd c
  torn_causes refusal.MissingCommitter c = absurd c
  torn_causes (refusal.Unwritable field) c = absurd c
  torn_causes (refusal.NameValidation kept) c = absurd c

  pub committed : (id : ObjectId) → id ≡ id_over s.hash tree r → Becomes (applied ready.changes t) u → CommitsTree settings tree r s id u
  committed id is b = record { writable = writable; is_id = is; ready = ready; prepared = prepared; becomes = applied_then ready.changes (with_commit tree r s) t u written b }

-- ---- what the call means

accepted_told : (settings : Settings) (tree : ObjectId) (r : CommitRequest) (hash : HashKind) (content : Option Content) (references : Option RefState) (id : ObjectId) (ready : Ready) → HasWritable r → id ≡ id_over hash tree r
    → Prepares (commit_terms settings r) references (edits_of r (id_over hash tree r)) ready
    → BothTold (λ o n. AcceptsCommit settings tree r o id n) (state_told hash content references) (state_told hash (option_map (with_objects hash (commit_over tree r ∷ [])) content) (option_map (refs_after ready.changes) references))
accepted_told settings tree r hash None references id ready writable is p = tt
accepted_told settings tree r hash (Some content) None id ready writable is p = tt
accepted_told settings tree r hash (Some content) (Some refs) id ready writable is p =
    let before : State = record { hash = hash; content = content; references = refs } in
    let after : State = record { hash = hash; content = with_objects hash (commit_over tree r ∷ []) content; references = refs_after ready.changes refs } in
    subst (λ i. AcceptsCommit settings tree r before i after) (sym is) (record {
      writable = writable;
      is_id = refl;
      references = record { plans = p.plans; ways = p.ways; accepted = p.accepted; makes = p.makes };
      same = refl;
    })

accepted : (settings : Settings) (tree : ObjectId) (r : CommitRequest) (old new : StoreState) (id : ObjectId) → CommitsTree settings tree r old id new → WhereTold (λ before after. AcceptsCommit settings tree r before id after) old new
accepted settings tree r old new id c =
    subst (λ (s : StoreState). BothTold (λ o n. AcceptsCommit settings tree r o id n) (state_of old) (state_of s)) (sym c.becomes.same) (accepted_told settings tree r old.hash old.content old.references id c.ready c.writable c.is_id c.prepared)

left_same : (settings : Settings) (tree : ObjectId) (r : CommitRequest) (old new : StoreState) (e : CommitError) → commit_part e ≡ None → LeavesCommit settings tree r old new e → new ≡ old
left_same settings tree r old new (Store fault) none left = cc
left_same settings tree r old new NoMemory none left = cc
left_same settings tree r old new e none left = left

refusal_of : (settings : Settings) (tree : ObjectId) (r : CommitRequest) (old new : StoreState) (e : CommitError) → commit_part e ≡ None → CommitCauses settings tree r old new e → CommitRefusal settings tree r old.hash old.references e
refusal_of settings tree r old new (Store fault) none causes = cc
refusal_of settings tree r old new NoMemory none causes = cc
refusal_of settings tree r old new e none causes = causes

pub commit_as_means : (tree : ObjectId) (r : CommitRequest) (old new : Held) (outcome : Result ObjectId CommitError) → new.settings ≡ old.settings
    → IfOk outcome (λ id. CommitsTree old.settings tree r old.store id new.store)
    → IfErr outcome (LeavesCommit old.settings tree r old.store new.store)
    → IfErr outcome (CommitCauses old.settings tree r old.store new.store)
    → Means (commit_as_meaning tree r) old outcome new
commit_as_means tree r old new (Ok id) settings made left causes = record {
  ok = made;
  settles = settings;
  leaves = tt;
  causes = tt;
  settings = tt;
  accepts = accepted old.settings tree r old.store new.store id made;
  refuses = tt;
}
commit_as_means tree r old new (Err e) settings made left causes = record {
  ok = tt;
  settles = tt;
  leaves = left;
  causes = causes;
  settings = settings;
  accepts = tt;
  refuses = λ none. subst (λ s. WhereTold (λ before after. (after ≡ before) × CommitRefusal old.settings tree r before.hash (Some before.references) e) old.store s)
      (sym (left_same old.settings tree r old.store new.store e none left))
      (told_still (λ view. CommitRefusal old.settings tree r view.hash view.references e) old.store (refusal_of old.settings tree r old.store new.store e none causes));
}

-- ---- its laws

counted : (settings : Settings) (tree : ObjectId) (r : CommitRequest) (old new : StoreState) (fault : What) → ((part : What) → old.unreadable part ≡ false)
    → IsEditFault (commit_terms settings r) old (edits_of r (id_over old.hash tree r)) fault ⊎ HasCause old new fault → Rose old.faults new.faults
counted settings tree r old new fault readable (inl read) = absurd (true≢false (sym (fault_unreadable (commit_terms settings r) old (edits_of r (id_over old.hash tree r)) fault read) ∙ readable fault))
counted settings tree r old new fault readable (inr write) = write.1

rises : (settings : Settings) (tree : ObjectId) (r : CommitRequest) (old new : StoreState) (e : CommitError) (fault : What) → ((part : What) → old.unreadable part ≡ false) → commit_part e ≡ Some (failure.Fault fault) → CommitCauses settings tree r old new e → Rose old.faults new.faults
rises settings tree r old new (Store other) fault readable is causes = counted settings tree r old new other readable causes
rises settings tree r old new e fault readable is causes = cc

pub commit_as_lawful : (tree : ObjectId) (r : CommitRequest) → IsLawful (commit_as_meaning tree r)
commit_as_lawful tree r = record {
  same = λ settings old new e none left. left_same settings tree r old new e none left;
  stays = λ settings old new id made. record { kind = ap (λ (s : StoreState). s.hash) made.becomes.same; parts = ap (λ (s : StoreState). s.unreadable) made.becomes.same; later = made.becomes.later };
  rises = λ settings old new e fault readable is causes. rises settings tree r old new e fault readable is causes;
}
