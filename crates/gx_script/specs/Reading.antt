-- What a reader of a script has taken and given, and what a call of it may answer.
use Rattle.std.specs.Prelude.{◌≡◌, ℕ, ◌+◌, ◌-◌, ◌^◌, ◌≤◌, min, List, [], ◌∷◌, ◌++◌, length, Option, Some, None, Result, Ok, Err}
use Rattle.gx_hash.specs.declared.kind.HashKind.{HashKind}
use Rattle.gx_script.specs.declared.error.ScriptError.{ScriptError}
use Rattle.gx_script.specs.declared.error.ScriptError.TheVariants.{Malformed, ReadFault, TooLong, NoMemory}
use Rattle.gx_script.specs.declared.request.Request.{Request}
use Rattle.gx_store.specs.Faults.{Rose}
use Rattle.gx_store.specs.Outside.{Takes, IsEnd}
use Rattle.gx_script.specs.Script.{IsRequest, Begins, IsBad, newlines_in}
use Rattle.gx_script.specs.Spelling.{spelling}

-- A reader: the kind of the ids in its script, the bytes that were taken and not given, how many may still be taken
-- within the limit, the newlines in what was given, and why nothing more is given.
pub record Reading : Type 0 where
  pub hash : HashKind
  pub held : List ℕ
  pub room : ℕ
  pub newlines : ℕ
  pub failed : Option ScriptError

-- The text was given, and for it these bytes were taken. The kind of ids stays.
pub record Moves (old new : Reading) (left left' : Option (List ℕ)) (text : List ℕ) : Type 0 where
  pub taken : List ℕ
  pub takes : Takes left left' taken
  pub split : old.held ++ taken ≡ text ++ new.held
  pub room : old.room ≡ new.room + length taken
  pub newlines : new.newlines ≡ old.newlines + newlines_in text
  pub failed : new.failed ≡ old.failed
  pub hash : new.hash ≡ old.hash

-- Bytes within the limit were taken, and with what was held they have the property.
pub record Stays (Part : List ℕ → Type 0) (old : Reading) (left left' : Option (List ℕ)) : Type 0 where
  pub taken : List ℕ
  pub takes : Takes left left' taken
  pub room : length taken ≤ old.room
  pub part : Part (old.held ++ taken)

-- All bytes within the limit and one more were taken, and the former with what was held have the property.
pub record Overruns (Part : List ℕ → Type 0) (old : Reading) (left left' : Option (List ℕ)) : Type 0 where
  pub taken : List ℕ
  pub last : ℕ
  pub takes : Takes left left' (taken ++ last ∷ [])
  pub room : length taken ≡ old.room
  pub part : Part (old.held ++ taken)

-- Nothing is said of the bytes.
abbrev pub Anything : List ℕ → Type 0
Anything bytes = Unit {0}

-- A reader failed while what it held had the property Part; Bad says what is malformed, and at which line.
abbrev pub Fails : (List ℕ → Type 0) → (ℕ → List ℕ → Type 0) → Reading → Option (List ℕ) → Option (List ℕ)
    → ℕ → ℕ → ScriptError → Type 0
Fails Part Bad old left left' faults faults' (Malformed line) = Stays (Bad line) old left left'
Fails Part Bad old left left' faults faults' ReadFault = Stays Part old left left' × Rose faults faults'
Fails Part Bad old left left' faults faults' TooLong = Overruns Part old left left'
Fails Part Bad old left left' faults faults' NoMemory = Stays Anything old left left'

-- The line after this many newlines of what is held. Lines are counted from 1, in a u64.
abbrev pub line_number : Reading → ℕ → ℕ
line_number reading newlines = min (reading.newlines + newlines + 1) (2 ^ 64 - 1)

-- The bytes go wrong at the line.
abbrev pub BadAt : Reading → Option (List ℕ) → ℕ → List ℕ → Type 0
BadAt old left' line bytes = (newlines : ℕ) × IsBad old.hash bytes (IsEnd left') newlines
    × (line ≡ line_number old newlines)

-- The next request, or that there is none, or why it can't be given.
abbrev pub Next : Reading → Reading → Option (List ℕ) → Option (List ℕ)
    → ℕ → ℕ → Result (Option Request) ScriptError → Type 0
Next old new left left' faults faults' (Ok (Some request)) = IsRequest old.hash request
    × Moves old new left left' (spelling request)
Next old new left left' faults faults' (Ok None) = Moves old new left left' [] × (new.held ≡ []) × IsEnd left'
Next old new left left' faults faults' (Err e) =
    Fails (Begins old.hash) (BadAt old left') old left left' faults faults' e
