-- What a call of the repository means.
use Rattle.std.specs.Prelude.{◌≡◌, ◌≤◌, false, Option, Some, None, Result, IfOk, IfErr}
use Rattle.gx_store.specs.Faults.{Rose}
use Rattle.gx_store.specs.State.{StoreState}
use Rattle.gx_store.specs.declared.error.StoreError.{StoreError}
use Rattle.gx_store.specs.declared.error.StoreError.TheVariants.{Fault}
use Rattle.gx_store.specs.declared.error.What.{What}
use Rattle.gix.specs.declared.settings.Settings.{Settings}
use Rattle.gix.specs.Held.{Held, WhereTold}
use Rattle.gix.specs.View.{State}

-- What a call means, whose answer for Ok is a `Made`. It is said twice: over what a store tells, and as a step of the
-- repository machine, whose state is told whole.
pub record Meaning (Made Error : Type 0) : Type 1 where
  -- what of an error is the store's: a fault or lack of memory; nothing of a refusal, which is an answer of the machine
  pub fails : Error → Option StoreError
  -- the settings after Ok
  pub settles : Made → Settings → Settings
  -- what Ok makes of the store
  pub makes : Settings → StoreState → Made → StoreState → Type 0
  -- what an error leaves of the store
  pub leaves : Settings → StoreState → StoreState → Error → Type 0
  -- why an error came
  pub causes : Settings → StoreState → StoreState → Error → Type 0
  -- what Ok is to the machine
  pub accepts : Settings → State → Made → State → Type 0
  -- what a refusal is to the machine
  pub refuses : Settings → State → Error → State → Type 0

-- A call came out so, and this is what the repository held before and after it. Only Ok changes the settings.
pub record Means {Made Error : Type 0} (m : Meaning Made Error) (old : Held) (outcome : Result Made Error)
    (new : Held) : Type 0 where
  pub ok : IfOk outcome (λ made. m.makes old.settings old.store made new.store)
  pub settles : IfOk outcome (λ made. new.settings ≡ m.settles made old.settings)
  pub leaves : IfErr outcome (λ e. m.leaves old.settings old.store new.store e)
  pub causes : IfErr outcome (λ e. m.causes old.settings old.store new.store e)
  pub settings : IfErr outcome (λ e. new.settings ≡ old.settings)
  pub accepts : IfOk outcome (λ made. WhereTold (λ before after. m.accepts old.settings before made after)
      old.store new.store)
  pub refuses : IfErr outcome (λ e. m.fails e ≡ None
      → WhereTold (λ before after. m.refuses old.settings before e after) old.store new.store)

-- what stays of a store: the kind of its ids, and which parts can't be read; and its count of faults does not fall
pub record Stays (old new : StoreState) : Type 0 where
  pub kind : new.hash ≡ old.hash
  pub parts : new.unreadable ≡ old.unreadable
  pub later : old.faults ≤ new.faults

-- What holds of every call. A refusal changes nothing in the store. After Ok the same parts of it can be read. A fault
-- of a store that can be read was counted.
pub record IsLawful {Made Error : Type 0} (m : Meaning Made Error) : Type 0 where
  pub same : (settings : Settings) (old new : StoreState) (e : Error) → m.fails e ≡ None
      → m.leaves settings old new e → new ≡ old
  pub stays : (settings : Settings) (old new : StoreState) (made : Made) → m.makes settings old made new
      → Stays old new
  pub rises : (settings : Settings) (old new : StoreState) (e : Error) (fault : What)
      → ((part : What) → old.unreadable part ≡ false) → m.fails e ≡ Some (Fault fault)
      → m.causes settings old new e → Rose old.faults new.faults

-- Requests that are valid in a state are not refused in it.
abbrev pub Admits : {Made Error : Type 0} → Meaning Made Error → (Settings → State → Type 0) → Type 0
Admits {Made} {Error} m valid = (settings : Settings) (old new : State) (e : Error) → valid settings old
    → m.fails e ≡ None → m.refuses settings old e new → ⊥
