-- What calls mean that only read.
use Rattle.std.proofs.Common.{◌≡◌, ◌∙◌, refl, sym, subst, arith, Option, Some, None, Result, Ok, Err, IfOk, IfErr, IsTrue, false, true≢false}
use Rattle.gx_hash.specs.declared.kind.HashKind.{HashKind}
use Rattle.gx_store.specs.Content.{Content}
use Rattle.gx_store.specs.State.{RefState, StoreState, IfFault, IsUnreadable}
use Rattle.gx_store.specs.declared.error.StoreError.{StoreError}
use Rattle.gx_store.specs.declared.error.StoreError.TheVariants.{Fault, NoMemory}
use Rattle.gx_store.specs.declared.error.What.{What}
use Rattle.gix.specs.declared.settings.Settings.{Settings}
use Rattle.gix.specs.Asking.{Query, CauseBy, asks}
use Rattle.gix.specs.Held.{Held, BothTold, WhereTold, state_told}
use Rattle.gix.specs.Logs.{of_store}
use Rattle.gix.specs.Meaning.{Means, Stays, IsLawful}
use Rattle.gix.specs.View.{View, view_of, whole}

pub stays_same : (old new : StoreState) → new ≡ old → Stays old new
stays_same old new same = subst (λ n. Stays old n) (sym same) (record { kind = refl; parts = refl; later = omega arith })

no_fault : {A E : Type 0} (q : Query A E) (settings : Settings) (old : StoreState) (e : E) (fault : What) (failure : Option StoreError) → ((part : What) → old.unreadable part ≡ false) → failure ≡ Some (Fault fault) → CauseBy q settings old e failure → ⊥
no_fault q settings old e fault None readable is h = cc
no_fault q settings old e fault (Some (Fault other)) readable is h = true≢false (sym h.0 ∙ readable other)
no_fault q settings old e fault (Some NoMemory) readable is h = cc

pub asking_lawful : {A E : Type 0} (q : Query A E) → IsLawful (asks q)
asking_lawful q = record {
  same = λ settings old new e none left. left;
  stays = λ settings old new answer makes. stays_same old new makes.0;
  rises = λ settings old new e fault readable is cause. absurd (no_fault q settings old e fault (q.fails e) readable is cause);
}

-- what holds of what a store tells holds of its state, where it tells that whole
told_whole : (P : View → Type 0) (hash : HashKind) (content : Option Content) (references : Option RefState) → P (record { hash = hash; content = content; references = references }) → BothTold (λ o n. (n ≡ o) × P (whole o)) (state_told hash content references) (state_told hash content references)
told_whole P hash None references h = tt
told_whole P hash (Some content) None h = tt
told_whole P hash (Some content) (Some references) h = (refl, h)

pub told_still : (P : View → Type 0) (store : StoreState) → P (view_of store) → WhereTold (λ o n. (n ≡ o) × P (whole o)) store store
told_still P store h = told_whole P store.hash store.content store.references h

why_of : {A E : Type 0} (q : Query A E) (settings : Settings) (old : StoreState) (e : E) (failure : Option StoreError) → failure ≡ None → CauseBy q settings old e failure → q.why settings (view_of old) e
why_of q settings old e None is h = h
why_of q settings old e (Some failure) is h = cc

-- what a call that reads answers, or why it does not, is all that it means
pub asking_means : {A E : Type 0} (q : Query A E) (held : Held) (outcome : Result A E)
    → IfOk outcome (λ answer. q.is held.settings (view_of held.store) answer) → IfErr outcome (λ e. CauseBy q held.settings held.store e (q.fails e)) → Means (asks q) held outcome held
asking_means q held (Ok answer) is why = record {
  ok = (refl, is);
  settles = refl;
  leaves = tt;
  causes = tt;
  settings = tt;
  accepts = told_still (λ view. q.is held.settings view answer) held.store is;
  refuses = tt;
}
asking_means q held (Err e) is why = record {
  ok = tt;
  settles = tt;
  leaves = refl;
  causes = why;
  settings = refl;
  accepts = tt;
  refuses = λ none. told_still (λ view. q.why held.settings view e) held.store (why_of q held.settings held.store e (q.fails e) none why);
}

-- two facts of an answer
pub both_ok : {A E : Type 0} (P Q : A → Type 0) (outcome : Result A E) → IfOk outcome P → IfOk outcome Q → IfOk outcome (λ answer. P answer × Q answer)
both_ok P Q (Ok answer) p q = (p, q)
both_ok P Q (Err e) p q = tt

-- a fault at the one part that is read is its cause
fault_by : (P : What → Type 0) (part fault : What) (old : StoreState) → P part → IsUnreadable old part fault → IsTrue (old.unreadable fault) × P fault
fault_by P part fault old reads h = (subst (λ p. IsTrue (old.unreadable p)) (sym h.0) h.1, subst P (sym h.0) reads)

pub cause_of_part : {A : Type 0} (q : Query A StoreError) (is_store : (e : StoreError) → q.fails e ≡ of_store e) (settings : Settings) (old : StoreState) (outcome : Result A StoreError) (part : What) → q.reads settings (view_of old) part
    → IfFault outcome (IsUnreadable old part) → IfErr outcome (λ e. CauseBy q settings old e (q.fails e))
cause_of_part q is_store settings old (Ok answer) part reads h = tt
cause_of_part q is_store settings old (Err (Fault fault)) part reads h =
    subst (CauseBy q settings old (Fault fault)) (sym (is_store (Fault fault))) (fault_by (q.reads settings (view_of old)) part fault old reads h)
cause_of_part q is_store settings old (Err NoMemory) part reads h = subst (CauseBy q settings old NoMemory) (sym (is_store NoMemory)) tt
