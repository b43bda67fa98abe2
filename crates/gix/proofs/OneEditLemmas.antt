-- What edits of one reference mean.
use Rattle.std.proofs.Common.{◌≡◌, refl, List, [], ◌∷◌, Option, Some, None, Ok}
use Rattle.gx_refs.specs.declared.edit.RefEdit.{RefEdit}
use Rattle.gx_store.specs.State.{StoreState}
use Rattle.gix.specs.Held.{Held, BothTold, WhereTold, state_of}
use Rattle.gix.specs.Meaning.{Means}
use Rattle.gix.specs.OneEdit.{answering, unsigned_meaning}
use Rattle.gix.specs.View.{State}

both_map : (R Q : State → State → Type 0) (f : (o n : State) → R o n → Q o n) (old new : Option State) → BothTold R old new → BothTold Q old new
both_map R Q f None None h = tt
both_map R Q f None (Some new) h = h
both_map R Q f (Some old) None h = h
both_map R Q f (Some old) (Some new) h = f old new h

-- what is told follows from what is told
pub told_map : (R Q : State → State → Type 0) (f : (o n : State) → R o n → Q o n) (old new : StoreState) → WhereTold R old new → WhereTold Q old new
told_map R Q f old new h = both_map R Q f (state_of old) (state_of new) h

pub some_none : {X : Type 0} {T : Type 0} (x : X) → Some x ≡ None → T
some_none x is = cc

-- the edit was made, and this is answered
pub answered : {Answer : Type 0} (answer : Answer) (edit : RefEdit) (old new : Held) (made : List RefEdit) → Means (unsigned_meaning (edit ∷ [])) old (Ok made) new → Means (answering answer edit) old (Ok answer) new
answered answer edit old new made m = record {
  ok = (refl, (made, m.ok));
  settles = m.settles;
  leaves = tt;
  causes = tt;
  settings = tt;
  accepts = told_map _ _ (λ before after accepts. (refl, (made, accepts))) old.store new.store m.accepts;
  refuses = tt;
}
