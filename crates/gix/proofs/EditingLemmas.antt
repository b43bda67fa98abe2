-- What edits of references mean.
use Rattle.std.proofs.Common.{◌≡◌, ◌∙◌, refl, sym, ap, subst, List, Option, Some, None, option_map, Result, Ok, Err, IfOk, IfErr, IsTrue, Bool, true, false, true≢false, inl, inr, ◌⊎◌, ℕ}
use Rattle.gx_hash.specs.declared.kind.HashKind.{HashKind}
use Rattle.gx_object.specs.declared.signature.Signature.{Signature}
use Rattle.gx_store.specs.Change.{refs_after}
use Rattle.gx_store.specs.Content.{Content}
use Rattle.gx_store.specs.Faults.{Rose}
use Rattle.gx_store.specs.State.{RefState, StoreState, IsUnreadable}
use Rattle.gx_store.specs.declared.error.StoreError.TheVariants.{Fault}
use Rattle.gx_store.specs.declared.error.What.{What}
use Rattle.gx_store.specs.declared.error.What.TheVariants as what
use Rattle.gx_refs.specs.Chain.{IsChainFault}
use Rattle.gx_refs.specs.EditCauses.{EditRefusal, EditWayCauses, ChangeCauses, IsEditFault, OfEdit, OfPlan, WayCauses}
use Rattle.gx_refs.specs.Prepared.{Prepares, Ready}
use Rattle.gx_refs.specs.declared.edit.RefEdit.{RefEdit}
use Rattle.gx_refs.specs.declared.error.RefError.{RefError}
use Rattle.gx_refs.specs.declared.error.RefError.TheVariants.{Store, NoMemory}
use Rattle.gx_refs.specs.declared.terms.Terms.{Terms}
use Rattle.gix.specs.EditReferences.{AcceptsEdits, EditFaultCauses, LeavesEdits, MakeCauses, MakesEdits, edit_part, edit_references_meaning, terms_in}
use Rattle.gix.specs.Held.{Held, BothTold, WhereTold, state_of, state_told}
use Rattle.gix.specs.Meaning.{Means, Stays, IsLawful}
use Rattle.gix.proofs.AskingLemmas.{told_still}

-- ---- faults

chain_unreadable : (state : StoreState) (name : List ℕ) (fault : What) → IsChainFault state name fault → IsTrue (state.unreadable fault)
chain_unreadable state name (what.Name reached) h = h.0
chain_unreadable state name (what.Object id) h = absurd h
chain_unreadable state name what.Index h = absurd h
chain_unreadable state name what.Listing h = absurd h
chain_unreadable state name what.Write h = absurd h

way_unreadable : (state : StoreState) (deref : Bool) (name : List ℕ) (fault : What) → WayCauses state deref name (Store fault) → IsTrue (state.unreadable fault)
way_unreadable state true name fault h = chain_unreadable state name fault h
way_unreadable state false name fault h = h.1

part_unreadable : (state : StoreState) (part fault : What) → IsUnreadable state part fault → IsTrue (state.unreadable fault)
part_unreadable state part fault h = subst (λ p. IsTrue (state.unreadable p)) (sym h.0) h.1

read_unreadable : (terms : Terms) (state : StoreState) (edits : List RefEdit) (fault : What) → OfEdit edits (λ edit. EditWayCauses terms.space state edit (Store fault)) ⊎ OfPlan terms state.references edits (λ plan. ChangeCauses terms state plan (Store fault)) → IsTrue (state.unreadable fault)
read_unreadable terms state edits fault (inl way) = way_unreadable state way.edit.deref _ fault way.holds
read_unreadable terms state edits fault (inr line) = part_unreadable state _ fault line.holds.2.unreadable

pub fault_unreadable : (terms : Terms) (state : StoreState) (edits : List RefEdit) (fault : What) → IsEditFault terms state edits fault → IsTrue (state.unreadable fault)
fault_unreadable terms state edits what.Listing h = h.0
fault_unreadable terms state edits (what.Name name) h = read_unreadable terms state edits (what.Name name) h
fault_unreadable terms state edits (what.Object id) h = read_unreadable terms state edits (what.Object id) h
fault_unreadable terms state edits what.Index h = read_unreadable terms state edits what.Index h
fault_unreadable terms state edits what.Write h = read_unreadable terms state edits what.Write h

-- ---- the laws of the call

left_same : (terms : Terms) (edits : List RefEdit) (old new : StoreState) (e : RefError) → edit_part e ≡ None → LeavesEdits terms edits old new e → new ≡ old
left_same terms edits old new (Store fault) none left = cc
left_same terms edits old new NoMemory none left = cc
left_same terms edits old new e none left = left

made_stays : (terms : Terms) (edits answer : List RefEdit) (old new : StoreState) → MakesEdits terms edits old answer new → Stays old new
made_stays terms edits answer old new made = record { kind = ap (λ (s : StoreState). s.hash) made.becomes.same; parts = ap (λ (s : StoreState). s.unreadable) made.becomes.same; later = made.becomes.later }

no_read : (terms : Terms) (edits : List RefEdit) (old : StoreState) (fault : What) → ((part : What) → old.unreadable part ≡ false) → IsEditFault terms old edits fault → ⊥
no_read terms edits old fault readable read = true≢false (sym (fault_unreadable terms old edits fault read) ∙ readable fault)

fault_rose : (terms : Terms) (edits : List RefEdit) (old new : StoreState) (fault : What) → ((part : What) → old.unreadable part ≡ false) → EditFaultCauses terms edits old new fault → Rose old.faults new.faults
fault_rose terms edits old new what.Write readable cause = cause.1
fault_rose terms edits old new what.Listing readable cause = absurd (no_read terms edits old what.Listing readable cause)
fault_rose terms edits old new what.Index readable cause = absurd (no_read terms edits old what.Index readable cause)
fault_rose terms edits old new (what.Name name) readable cause = absurd (no_read terms edits old (what.Name name) readable cause)
fault_rose terms edits old new (what.Object id) readable cause = absurd (no_read terms edits old (what.Object id) readable cause)

rises : (terms : Terms) (edits : List RefEdit) (old new : StoreState) (e : RefError) (fault : What) → ((part : What) → old.unreadable part ≡ false) → edit_part e ≡ Some (Fault fault) → MakeCauses terms edits old new e → Rose old.faults new.faults
rises terms edits old new (Store other) fault readable is causes = fault_rose terms edits old new other readable causes
rises terms edits old new e fault readable is causes = cc

pub editing_lawful : (committer : Option Signature) (edits : List RefEdit) → IsLawful (edit_references_meaning committer edits)
editing_lawful committer edits = record {
  same = λ settings old new e none left. left_same (terms_in settings committer) edits old new e none left;
  stays = λ settings old new answer made. made_stays (terms_in settings committer) edits answer old new made;
  rises = λ settings old new e fault readable is causes. rises (terms_in settings committer) edits old new e fault readable is causes;
}

-- ---- what the call means

told_accepted : (terms : Terms) (edits : List RefEdit) (hash : HashKind) (content : Option Content) (references : Option RefState) (ready : Ready) → Prepares terms references edits ready → BothTold (AcceptsEdits terms edits) (state_told hash content references) (state_told hash content (option_map (refs_after ready.changes) references))
told_accepted terms edits hash None references ready p = tt
told_accepted terms edits hash (Some content) None ready p = tt
told_accepted terms edits hash (Some content) (Some refs) ready p = record {
  made = record { plans = p.plans; ways = p.ways; accepted = p.accepted; makes = p.makes };
  same = refl;
}

accepted : (terms : Terms) (edits answer : List RefEdit) (old new : StoreState) → MakesEdits terms edits old answer new → WhereTold (AcceptsEdits terms edits) old new
accepted terms edits answer old new made =
    subst (λ s. BothTold (AcceptsEdits terms edits) (state_of old) (state_of s)) (sym made.becomes.same) (told_accepted terms edits old.hash old.content old.references made.ready made.prepared)

refusal_of : (terms : Terms) (edits : List RefEdit) (old new : StoreState) (e : RefError) → edit_part e ≡ None → MakeCauses terms edits old new e → EditRefusal terms old.references edits e
refusal_of terms edits old new (Store fault) none causes = cc
refusal_of terms edits old new NoMemory none causes = cc
refusal_of terms edits old new e none causes = causes

refused : (terms : Terms) (edits : List RefEdit) (old new : StoreState) (e : RefError) → new ≡ old → EditRefusal terms old.references edits e → WhereTold (λ before after. (after ≡ before) × EditRefusal terms (Some before.references) edits e) old new
refused terms edits old new e same refusal =
    subst (λ s. WhereTold (λ before after. (after ≡ before) × EditRefusal terms (Some before.references) edits e) old s) (sym same) (told_still (λ view. EditRefusal terms view.references edits e) old refusal)

pub editing_means : (committer : Option Signature) (edits : List RefEdit) (old new : Held) (outcome : Result (List RefEdit) RefError) → new.settings ≡ old.settings
    → IfOk outcome (λ answer. MakesEdits (terms_in old.settings committer) edits old.store answer new.store)
    → IfErr outcome (LeavesEdits (terms_in old.settings committer) edits old.store new.store)
    → IfErr outcome (MakeCauses (terms_in old.settings committer) edits old.store new.store)
    → Means (edit_references_meaning committer edits) old outcome new
editing_means committer edits old new (Ok answer) settings made left causes = record {
  ok = made;
  settles = settings;
  leaves = tt;
  causes = tt;
  settings = tt;
  accepts = accepted (terms_in old.settings committer) edits answer old.store new.store made;
  refuses = tt;
}
editing_means committer edits old new (Err e) settings made left causes =
    let terms = terms_in old.settings committer in
    record {
      ok = tt;
      settles = tt;
      leaves = left;
      causes = causes;
      settings = settings;
      accepts = tt;
      refuses = λ none. refused terms edits old.store new.store e (left_same terms edits old.store new.store e none left) (refusal_of terms edits old.store new.store e none causes);
    }
