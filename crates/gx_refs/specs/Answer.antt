-- What a list of edits answers: the edits as they were made, one a touched name.
use Rattle.std.specs.Prelude.{◌≡◌, ◌⊎◌, ℕ, false, List, ◌∷◌, ◌++◌, Option, Some, None, IfSome, bytes_eq, if◌then◌else◌}
use Rattle.std.specs.List.{AllZip}
use Rattle.std.specs.FinMap.{get}
use Rattle.gx_store.specs.State.{RefState}
use Rattle.gx_store.specs.declared.target.Target.{Target}
use Rattle.gx_store.specs.declared.target.Target.TheVariants as target
use Rattle.gx_refs.specs.Plan.{Touch, places_of, touches}
use Rattle.gx_refs.specs.Shown.{IsShownFound}
use Rattle.gx_refs.specs.declared.edit.PreviousValue.{PreviousValue}
use Rattle.gx_refs.specs.declared.edit.PreviousValue.TheVariants.{MustNotExist, MustExistAndMatch}
use Rattle.gx_refs.specs.declared.edit.RefLog.TheVariants.{Only}
use Rattle.gx_refs.specs.declared.edit.Change.{Change}
use Rattle.gx_refs.specs.declared.edit.Change.TheVariants.{Update, Delete}
use Rattle.gx_refs.specs.declared.edit.RefEdit.{RefEdit}
use Rattle.gx_refs.specs.declared.plan.Place.{Place}
use Rattle.gx_refs.specs.declared.plan.Plan.{Plan}
use Rattle.gx_refs.specs.declared.plan.Way.{Way}

-- what an edit says that it expected: what was there, or nothing
abbrev pub expecting : Option Target → PreviousValue
expecting None = MustNotExist
expecting (Some old) = MustExistAndMatch old

-- the change, expecting what was there
abbrev pub change_from : Change → Option Target → Change
change_from (Update log expected new) old = Update log (expecting old) new
change_from (Delete expected log) old = Delete (expecting old) log

-- the change before the end, which is of the log alone
abbrev pub log_alone : Change → Change
log_alone (Update log expected new) = Update (record log { mode = Only }) expected new
log_alone (Delete expected log) = Delete expected Only

-- the change of a touch: at the end of its way as it was given, and before it of the log alone
abbrev pub change_at : Touch → Change
change_at touch =
    if bytes_eq touch.place.name touch.plan.way.end.name
    then touch.plan.edit.change else log_alone touch.plan.edit.change

-- What stands at a place of a way: at the end what was found there, and before it a reference that is symbolic to the
-- next place.
abbrev pub StandsAt : Way → Place → Option Target → Type 0
StandsAt way place old =
    ((place ≡ way.end) × (old ≡ way.shown))
    ⊎ ((before : List Place) × (next : Place) × (after : List Place)
    × (places_of way ≡ before ++ place ∷ next ∷ after) × (old ≡ Some (target.Symbolic next.shown)))

-- The answer at a touched name tells the change, and that it expected what was there. (gix, "Transaction::commit")
pub record IsAnswer (space : List ℕ) (told : Option RefState) (touch : Touch) (edit : RefEdit) : Type 0 where
  pub named : edit.name ≡ touch.place.shown
  pub still : edit.deref ≡ false
  pub old : Option Target
  pub stood : StandsAt touch.plan.way touch.place old
  pub shown : IfSome told (λ refs. IsShownFound space (get refs.targets touch.place.name) old)
  pub change : edit.change ≡ change_from (change_at touch) old

-- one answer a touch, in order
abbrev pub AreAnswers : List ℕ → Option RefState → List Plan → List RefEdit → Type 0
AreAnswers space told plans edits = AllZip (IsAnswer space told) (touches plans) edits
