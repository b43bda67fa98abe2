-- A state that has become what is wanted, and what then becomes of it.
use Rattle.std.proofs.Common.{◌≡◌, ◌∙◌, ◌≤◌, ℕ, sym, ap, refl, subst, List, Option, Some, None, IfSome, arith, inl, is_some}
use Rattle.gx_store.specs.Faults.{Rose}
use Rattle.gx_store.specs.State.{StoreState, RefState, Becomes, all_stored}
use Rattle.gx_store.specs.Change.{applied, AfterFault, IsTorn}
use Rattle.gx_store.specs.Laws.{AppliedAfter, StoredAfter, SameAfter, CauseAfter, FaultAfter}
use Rattle.gx_store.specs.declared.change.RefChange.{RefChange}

itself : (s : StoreState) → Becomes s s
itself s = record { same = refl; later = omega arith }

-- a state that is the one that is wanted
pub becomes : (wanted new : StoreState) → new ≡ wanted → Becomes wanted new
becomes wanted new e = subst (Becomes wanted) (sym e) (itself wanted)

whole : (changes : List RefChange) (r : Option RefState) → IfSome r (λ before. IfSome r (λ after. IsTorn changes before after))
whole changes None = tt
whole changes (Some r) = record { targets = λ name. inl refl; logs = λ name. inl refl }

kept_refs : (wanted new : StoreState) → Becomes wanted new → new.references ≡ wanted.references
kept_refs wanted new b = ap (λ s. s.references) b.same

-- a fault that changed nothing but the count
pub after_fault : (changes : List RefChange) (old new : StoreState) → Becomes old new → AfterFault changes old new
after_fault changes old new b = record {
  same = b.same ∙ ap (λ r. record old { references = r; faults = new.faults }) (sym refs);
  later = b.later;
  told = ap is_some refs;
  torn = subst (λ r. IfSome old.references (λ before. IfSome r (λ after. IsTorn changes before after))) (sym refs) (whole changes old.references);
}
  where
    refs : new.references ≡ old.references
    refs = kept_refs old new b

in_turn : (a b c : ℕ) → a ≤ b → b ≤ c → a ≤ c
in_turn a b c h k = omega arith

pub same_after : SameAfter
same_after wanted middle new b c = record {
  same = c.same ∙ ap {A = StoreState} {B = StoreState} (λ w. record w { faults = new.faults }) b.same;
  later = in_turn wanted.faults middle.faults new.faults b.later c.later;
}

pub applied_after : AppliedAfter
applied_after changes wanted middle new b c = record {
  same = c.same ∙ ap (λ w. record (applied changes w) { faults = new.faults }) b.same;
  later = in_turn wanted.faults middle.faults new.faults b.later c.later;
}

pub stored_after : StoredAfter
stored_after objects wanted middle new b c = record {
  same = c.same ∙ ap (λ w. record (all_stored objects w) { faults = new.faults }) b.same;
  later = in_turn wanted.faults middle.faults new.faults b.later c.later;
}

rose_before : (a b c : ℕ) → a ≤ b → Rose b c → Rose a c
rose_before a b c h rose = grind (arith, h, rose)

pub cause_after : CauseAfter
cause_after wanted middle new fault b (is, rose) = (is, rose_before wanted.faults middle.faults new.faults b.later rose)

pub fault_after : FaultAfter
fault_after changes wanted middle new b f = record {
  same = f.same ∙ ap {A = StoreState} {B = StoreState} (λ w. record w { references = new.references; faults = new.faults }) b.same;
  later = in_turn wanted.faults middle.faults new.faults b.later f.later;
  told = f.told ∙ ap is_some (kept_refs wanted middle b);
  torn = subst (λ r. IfSome r (λ before. IfSome new.references (λ after. IsTorn changes before after))) (kept_refs wanted middle b) f.torn;
}
