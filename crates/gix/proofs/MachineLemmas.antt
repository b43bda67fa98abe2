-- What a commit of edits is to the repository machine.
use Rattle.std.proofs.Common.{◌≡◌, ◌∙◌, sym, ap, refl, subst, arith, false, true≢false, IsTrue, List, [], ◌∷◌, ℕ, Option, Some, None, IfSome, Result, Ok, Err, IfOk, IfErr}
use Rattle.std.specs.Prelude.{option_map}
use Rattle.gx_hash.specs.declared.kind.HashKind.{HashKind}
use Rattle.gx_hash.specs.declared.oid.ObjectId.{ObjectId}
use Rattle.gx_object.specs.declared.kind.Kind.{Kind}
use Rattle.gx_object.specs.declared.kind.Kind.TheVariants as kind
use Rattle.gx_store.specs.Content.{Content, lookup, id_of, with_objects, HoldsAll, Adds, AreApart}
use Rattle.gx_store.specs.Change.{refs_after}
use Rattle.gx_store.specs.Faults.{Rose}
use Rattle.gx_store.specs.State.{RefState, StoreState, Becomes}
use Rattle.gx_store.specs.declared.error.StoreError.TheVariants as store_error
use Rattle.gx_store.specs.declared.error.What.{What}
use Rattle.gx_store.specs.declared.error.What.TheVariants as what
use Rattle.gx_edit.specs.PathMap.{PathMap, edited, blobs_of}
use Rattle.gx_edit.specs.CanonicalTree.{Directory, StandsFor, Represents}
use Rattle.gx_edit.specs.Output.{Output}
use Rattle.gx_edit.specs.StandsForMap.{StandsForMap}
use Rattle.gix.specs.declared.settings.Settings.{Settings}
use Rattle.gix.specs.declared.error.CommitEditsError.{CommitEditsError}
use Rattle.gix.specs.declared.error.CommitEditsError.TheVariants as error
use Rattle.gix.specs.CommitRequest.{CommitRequest}
use Rattle.gix.specs.View.{View, State, whole}
use Rattle.gix.specs.Base.{IsBase}
use Rattle.gix.specs.Trees.{MayWrite, brought}
use Rattle.gix.specs.LawsBelow.{LawsBelow}
use Rattle.gx_refs.specs.Prepared.{Prepares, Ready}
use Rattle.gix.specs.Reference.{commit_terms, edits_of}
use Rattle.gix.specs.Admission.{IsAdmitted}
use Rattle.gix.specs.Causes.{Cause, CommitEditsCauses, HasFault, store_part}
use Rattle.gix.specs.CommitEdits.{Commits, Leaves, written_objects}
use Rattle.gix.specs.NewCommit.{commit_id, commit_text}
use Rattle.gix.specs.Held.{Held, state_of, state_told, BothTold, WhereTold}
use Rattle.gix.specs.Meaning.{Means, Stays, IsLawful}
use Rattle.gix.specs.Machine.{IsWrittenOf, Accepts, Refuses, commit_edits_meaning}
use Rattle.gix.proofs.Lists.{all_before, all_behind}
use Rattle.gix.proofs.StandingLemmas.{end_stands, end_directory}

-- of all written objects the trees
trees_held : (hash : HashKind) (r : CommitRequest) (output : Output) (content : Content) → HoldsAll hash (written_objects r output) content → HoldsAll hash output.trees content
trees_held hash r output content h =
    let IsHeld : Kind × List ℕ → Type 0 = λ object. lookup content (id_of hash object) ≡ Some object in
    all_behind IsHeld (blobs_of r.edits) output.trees (all_before IsHeld (brought r output) ((kind.Commit, commit_text r output) ∷ []) h)

of_some : {X : Type 0} (P : X → Type 0) (o : Option X) (x : X) → IfSome o P → o ≡ Some x → P x
of_some P o x h is = subst (λ o. IfSome o P) is h

abbrev view : HashKind → Option Content → Option RefState → View
view hash content references = record { hash = hash; content = content; references = references }

-- what was written of a base that has a map
module _ (laws : LawsBelow) (settings : Settings) (r : CommitRequest) (old : State) (output : Output) (w : MayWrite settings r (whole old) output) (base : PathMap) (is : IsBase (whole old) r.parents base) where
  abbrev new_paths : PathMap
  new_paths = edited old.hash base r.edits

  stands : StandsForMap old.hash old.content w.makes.end new_paths
  stands = end_stands laws r old base w.makes.end is w.makes.edits

  directory : (directory : Directory) × StandsFor directory new_paths
  directory = end_directory laws r old base settings output is w

  written_of : IsWrittenOf old.hash output new_paths
  written_of =
      let root = laws.root old.hash old.content w.makes.end new_paths output directory.0 stands w.makes.written directory.1 in
      record { directory = directory.0; stands = directory.1; is_root = root.0; trees = root.1 }

  represented : (new : Content) → Adds old.hash (written_objects r output) old.content new → AreApart old.hash old.content (written_objects r output) → Represents old.hash new output.root new_paths
  represented new adds apart =
      let objects : List (Kind × List ℕ) = written_objects r output in
      laws.represents old.hash old.content new w.makes.end new_paths output directory.0 stands w.makes.written directory.1
      (λ id object found. of_some (λ object. lookup new id ≡ Some object) (lookup old.content id) object (laws.found old.hash objects old.content new apart adds id) found)
      (trees_held old.hash r output new (laws.added old.hash objects old.content new apart adds))

accepted : (laws : LawsBelow) (settings : Settings) (r : CommitRequest) (hash : HashKind) (content : Content) (refs : RefState) (id : ObjectId) (output : Output) (ready : Ready) → IsAdmitted settings r (view hash (Some content) (Some refs)) output
    → id ≡ commit_id hash r output → Prepares (commit_terms settings r) (Some refs) (edits_of r id) ready
    → Accepts settings r (record { hash = hash; content = content; references = refs }) id (record { hash = hash; content = with_objects hash (written_objects r output) content; references = refs_after ready.changes refs })
accepted laws settings r hash content refs id output ready admitted is_id prepared =
    let objects : List (Kind × List ℕ) = written_objects r output in
    let old : State = record { hash = hash; content = content; references = refs } in
    let adds : Adds hash objects content (with_objects hash objects content) = laws.writing hash objects content in
    record {
      output = output;
      admitted = admitted;
      is_id = is_id;
      hash = refl;
      adds = adds;
      stored = λ apart. laws.added hash objects content (with_objects hash objects content) apart adds;
      written = λ base is. written_of laws settings r old output admitted.objects.trees base is;
      represents = λ base is apart. represented laws settings r old output admitted.objects.trees base is (with_objects hash objects content) adds apart;
      references = record { plans = prepared.plans; ways = prepared.ways; accepted = prepared.accepted; makes = prepared.makes };
    }

-- where the state is told
accepted_told : (laws : LawsBelow) (settings : Settings) (r : CommitRequest) (hash : HashKind) (content : Option Content) (references : Option RefState) (id : ObjectId) (output : Output) (ready : Ready) → IsAdmitted settings r (view hash content references) output
    → id ≡ commit_id hash r output → Prepares (commit_terms settings r) references (edits_of r id) ready
    → BothTold (λ old new. Accepts settings r old id new) (state_told hash content references) (state_told hash (option_map (with_objects hash (written_objects r output)) content) (option_map (refs_after ready.changes) references))
accepted_told laws settings r hash None references id output ready admitted is_id prepared = tt
accepted_told laws settings r hash (Some content) None id output ready admitted is_id prepared = tt
accepted_told laws settings r hash (Some content) (Some refs) id output ready admitted is_id prepared = accepted laws settings r hash content refs id output ready admitted is_id prepared

-- A commit that was made is accepted.
pub accepts_of : (laws : LawsBelow) (settings : Settings) (r : CommitRequest) (old new : StoreState) (id : ObjectId) → Commits settings r old id new → WhereTold (λ before after. Accepts settings r before id after) old new
accepts_of laws settings r old new id c = subst (λ (s : StoreState). BothTold (λ before after. Accepts settings r before id after) (state_of old) (state_of s)) (sym c.becomes.same)
    (accepted_told laws settings r old.hash old.content old.references id c.output c.ready c.admitted c.is_id c.prepared)

refused_told : (settings : Settings) (r : CommitRequest) (hash : HashKind) (content : Option Content) (references : Option RefState) (e : CommitEditsError) → Cause settings r (view hash content references) e
    → BothTold (λ old new. Refuses settings r old e new) (state_told hash content references) (state_told hash content references)
refused_told settings r hash None references e c = tt
refused_told settings r hash (Some content) None e c = tt
refused_told settings r hash (Some content) (Some refs) e c = record { cause = c; same = refl }

-- a refusal that changes nothing and has its cause is the machine's
refuses_told : (settings : Settings) (r : CommitRequest) (old new : StoreState) (e : CommitEditsError) → Cause settings r (view old.hash old.content old.references) e → new ≡ old → WhereTold (λ before after. Refuses settings r before e after) old new
refuses_told settings r old new e c same = subst (λ (s : StoreState). BothTold (λ before after. Refuses settings r before e after) (state_of old) (state_of s)) (sym same)
    (refused_told settings r old.hash old.content old.references e c)

refuses_of : (e : CommitEditsError) (settings : Settings) (r : CommitRequest) (old new : StoreState) → CommitEditsCauses settings r old new e → Leaves settings r old new e → store_part e ≡ None → WhereTold (λ before after. Refuses settings r before e after) old new
refuses_of (error.Store fault) settings r old new c l h = cc
refuses_of error.NoMemory settings r old new c l h = cc
refuses_of e settings r old new c l h = refuses_told settings r old new e c l

-- ---- of an answer

-- what is proved of a call is all that it means
pub commit_means : (outcome : Result ObjectId CommitEditsError) (r : CommitRequest) (old new : Held)
    → ((settings : Settings) (r : CommitRequest) (old new : StoreState) (id : ObjectId) → Commits settings r old id new → WhereTold (λ before after. Accepts settings r before id after) old new)
    → IfOk outcome (λ id. Commits old.settings r old.store id new.store) → IfErr outcome (Leaves old.settings r old.store new.store) → IfErr outcome (CommitEditsCauses old.settings r old.store new.store)
    → new.settings ≡ old.settings → Means (commit_edits_meaning r) old outcome new
commit_means (Ok id) r old new law ok leaves causes same = record {
  ok = ok;
  settles = same;
  leaves = tt;
  causes = tt;
  settings = tt;
  accepts = law old.settings r old.store new.store id ok;
  refuses = tt;
}
commit_means (Err e) r old new law ok leaves causes same = record {
  ok = tt;
  settles = tt;
  leaves = leaves;
  causes = causes;
  settings = same;
  accepts = tt;
  refuses = refuses_of e old.settings r old.store new.store causes leaves;
}

-- ---- what holds of every call

told_same : (e : CommitEditsError) (settings : Settings) (r : CommitRequest) (old new : StoreState) → store_part e ≡ None → Leaves settings r old new e → new ≡ old
told_same (error.Store fault) settings r old new none left = cc
told_same error.NoMemory settings r old new none left = cc
told_same e settings r old new none left = left

untrue : (part : What) (old : StoreState) → ((part : What) → old.unreadable part ≡ false) → IsTrue (old.unreadable part) → ⊥
untrue part old readable h = true≢false (sym h ∙ readable part)

-- a store of which all can be read faults only where its count rises
fault_rises : (fault : What) (settings : Settings) (r : CommitRequest) (old new : StoreState) → ((part : What) → old.unreadable part ≡ false) → HasFault settings r old new fault → Rose old.faults new.faults
fault_rises what.Write settings r old new readable h = h
fault_rises what.Index settings r old new readable h = absurd h
fault_rises part settings r old new readable h = absurd (untrue part old readable h.0)

cause_rises : (e : CommitEditsError) (settings : Settings) (r : CommitRequest) (old new : StoreState) (fault : What) → ((part : What) → old.unreadable part ≡ false) → store_part e ≡ Some (store_error.Fault fault) → CommitEditsCauses settings r old new e → Rose old.faults new.faults
cause_rises (error.Store of) settings r old new fault readable is c = fault_rises of settings r old new readable c
cause_rises e settings r old new fault readable is c = cc

stays_becoming : (old wanted new : StoreState) → wanted.hash ≡ old.hash → wanted.unreadable ≡ old.unreadable → wanted.faults ≡ old.faults → Becomes wanted new → Stays old new
stays_becoming old wanted new kind parts faults b = record { kind = ap (λ (s : StoreState). s.hash) b.same ∙ kind; parts = ap (λ (s : StoreState). s.unreadable) b.same ∙ parts; later = omega (arith, b.later, faults) }

pub commit_lawful : (r : CommitRequest) → IsLawful (commit_edits_meaning r)
commit_lawful r = record {
  same = λ settings old new e none left. told_same e settings r old new none left;
  stays = λ settings old new id made. stays_becoming old _ new refl refl refl made.becomes;
  rises = λ settings old new e fault readable is c. cause_rises e settings r old new fault readable is c;
}
