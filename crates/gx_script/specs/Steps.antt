-- What the steps of a reader do: it takes bytes, finds a line or a block, and gives it.
use Rattle.std.specs.declared.alloc.Global.{Global}
use Rattle.std.specs.Prelude.{Vec, ◌≡◌, ◌≢◌, ℕ, ◌+◌, ◌≤◌, ◌<◌, Bool, true, false, List, [], ◌∷◌, ◌++◌, length, take, drop, Option, Some, None, Result, Ok, Err, ◌⊎◌}
use Rattle.gx_script.specs.declared.error.ScriptError.{ScriptError}
use Rattle.gx_script.specs.declared.error.ScriptError.TheVariants.{Malformed, ReadFault, TooLong, NoMemory}
use Rattle.gx_store.specs.Faults.{Rose}
use Rattle.gx_store.specs.Outside.{Takes, IsEnd}
use Rattle.gx_script.specs.Script.{newlines_in, IsPartialLine}
use Rattle.gx_script.specs.Items.{NoNewline, line_limit}
use Rattle.gx_script.specs.Items.{ended}
use Rattle.gx_script.specs.Reading.{Reading, Moves, Fails, line_number}

-- Bytes were taken, at most this many.
pub record Took (most : ℕ) (left left' : Option (List ℕ)) : Type 0 where
  pub taken : List ℕ
  pub takes : Takes left left' taken
  pub few : length taken ≤ most

-- Bytes were taken and added to others.
pub record TookOnto (most : ℕ) (old new : List ℕ) (left left' : Option (List ℕ)) (count : ℕ) : Type 0 where
  pub taken : List ℕ
  pub takes : Takes left left' taken
  pub few : length taken ≤ most
  pub size : length taken ≡ count
  pub added : new ≡ old ++ taken
  pub end : count ≡ 0 → IsEnd left'

-- Bytes were taken and added, or nothing was added.
abbrev pub ReadOnto : ℕ → List ℕ → List ℕ → Option (List ℕ) → Option (List ℕ) → ℕ → ℕ → Result ℕ ScriptError → Type 0
ReadOnto most old new left left' faults faults' (Ok count) = TookOnto most old new left left' count
ReadOnto most old new left left' faults faults' (Err ReadFault) =
    (new ≡ old) × Takes left left' [] × Rose faults faults'
ReadOnto most old new left left' faults faults' (Err NoMemory) = (new ≡ old) × Took most left left'
ReadOnto most old new left left' faults faults' (Err TooLong) = ⊥
ReadOnto most old new left left' faults faults' (Err (Malformed line)) = ⊥

-- One byte was taken.
pub record TookOne (left left' : Option (List ℕ)) : Type 0 where
  pub last : ℕ
  pub takes : Takes left left' (last ∷ [])

-- Whether there was one more byte.
abbrev pub ReadOne : Option (List ℕ) → Option (List ℕ) → ℕ → ℕ → Result Bool ScriptError → Type 0
ReadOne left left' faults faults' (Ok true) = TookOne left left'
ReadOne left left' faults faults' (Ok false) = Takes left left' [] × IsEnd left'
ReadOne left left' faults faults' (Err ReadFault) = Takes left left' [] × Rose faults faults'
ReadOne left left' faults faults' (Err NoMemory) = ⊥
ReadOne left left' faults faults' (Err TooLong) = ⊥
ReadOne left left' faults faults' (Err (Malformed line)) = ⊥

-- Whether more bytes came, which are held now.
abbrev pub Filled : Reading → Reading → Option (List ℕ) → Option (List ℕ) → ℕ → ℕ → Result Bool ScriptError → Type 0
Filled old new left left' faults faults' (Ok true) = Moves old new left left' [] × (length old.held < length new.held)
Filled old new left left' faults faults' (Ok false) = Moves old new left left' [] × (new.held ≡ old.held) × IsEnd left'
Filled old new left left' faults faults' (Err e) =
    Fails (λ bytes. bytes ≡ old.held) (λ line bytes. ⊥) old left left' faults faults' e

-- The bytes are a line of this many bytes, its newline, and more.
pub record BeginsLine (bytes : List ℕ) (count : ℕ) : Type 0 where
  pub line : List ℕ
  pub more : List ℕ
  pub split : bytes ≡ line ++ 10 ∷ more
  pub open_line : NoNewline line
  pub long : length line ≡ count

-- How long the first line is, where it has ended.
abbrev pub FoundNewline : List ℕ → Option ℕ → Type 0
FoundNewline bytes None = NoNewline bytes
FoundNewline bytes (Some count) = BeginsLine bytes count

-- A piece of a request goes wrong: after a part of it stands the end, or a wrong byte.
abbrev pub StopsPiece : (List ℕ → Type 0) → (List ℕ → ℕ → Type 0) → List ℕ → List ℕ → Type 0
StopsPiece Ends Stop front [] = Ends front
StopsPiece Ends Stop front (b ∷ more) = Stop front b

-- A piece of a request goes wrong after a front that may stand there, which has this many newlines.
pub record IsBadPiece (Part Ends : List ℕ → Type 0) (Stop : List ℕ → ℕ → Type 0) (bytes : List ℕ) (newlines : ℕ)
    : Type 0 where
  pub front : List ℕ
  pub more : List ℕ
  pub split : bytes ≡ front ++ more
  pub part : Part front
  pub count : newlines ≡ newlines_in front
  pub stops : StopsPiece Ends Stop front more

-- A piece goes wrong at the line.
abbrev pub BadPieceAt : (List ℕ → Type 0) → (List ℕ → Type 0) → (List ℕ → ℕ → Type 0) → Reading → ℕ → List ℕ → Type 0
BadPieceAt Part Ends Stop old line bytes = (newlines : ℕ) × IsBadPiece Part Ends Stop bytes newlines
    × (line ≡ line_number old newlines)

-- A line goes wrong at its newline, or at the first byte past its limit.
abbrev pub LineStops : (List ℕ → Type 0) → List ℕ → ℕ → Type 0
LineStops Wrong front b = ((b ≡ 10) × Wrong front) ⊎ ((b ≢ 10) × (length front ≡ line_limit))

-- No line was read.
abbrev pub LineFails : (List ℕ → Type 0) → (List ℕ → Type 0) → Reading → Option (List ℕ) → Option (List ℕ)
    → ℕ → ℕ → ScriptError → Type 0
LineFails Ends Wrong old left left' faults faults' e =
    Fails IsPartialLine (BadPieceAt IsPartialLine Ends (LineStops Wrong) old) old left left' faults faults' e

-- No bytes have the property.
abbrev pub Nothing : List ℕ → Type 0
Nothing bytes = ⊥

-- A whole line is held, or the input ends in one.
abbrev pub FoundLine : Reading → Reading → Option (List ℕ) → Option (List ℕ)
    → ℕ → ℕ → Result (Option ℕ) ScriptError → Type 0
FoundLine old new left left' faults faults' (Ok (Some count)) =
    Moves old new left left' [] × BeginsLine new.held count × (count ≤ line_limit)
FoundLine old new left left' faults faults' (Ok None) =
    Moves old new left left' [] × IsPartialLine new.held × IsEnd left'
FoundLine old new left left' faults faults' (Err e) = LineFails Nothing Nothing old left left' faults faults' e

-- A whole line is held.
abbrev pub HasLine : Reading → Reading → Option (List ℕ) → Option (List ℕ) → ℕ → ℕ → Result ℕ ScriptError → Type 0
HasLine old new left left' faults faults' (Ok count) =
    Moves old new left left' [] × BeginsLine new.held count × (count ≤ line_limit)
HasLine old new left left' faults faults' (Err e) =
    LineFails (λ front. IsEnd left') Nothing old left left' faults faults' e

-- A line was given, which spells something.
pub record GivesLine (Spelled : List ℕ → Type 0) (old new : Reading) (left left' : Option (List ℕ)) : Type 0 where
  pub line : List ℕ
  pub spelled : Spelled line
  pub open_line : NoNewline line
  pub short : length line ≤ line_limit
  pub moves : Moves old new left left' (ended line)

-- What a line spells was read, or the line is wrong.
abbrev pub ReadsLine : {X : Type 0} → (X → List ℕ → Type 0) → (List ℕ → Type 0) → Reading → Reading
    → Option (List ℕ) → Option (List ℕ) → ℕ → ℕ → Result X ScriptError → Type 0
ReadsLine Spells Wrong old new left left' faults faults' (Ok x) = GivesLine (Spells x) old new left left'
ReadsLine Spells Wrong old new left left' faults faults' (Err e) =
    LineFails (λ front. IsEnd left') Wrong old left left' faults faults' e

-- A whole block and one more byte are held, or the input ends before.
abbrev pub FoundBlock : ℕ → Reading → Reading → Option (List ℕ) → Option (List ℕ)
    → ℕ → ℕ → Result Bool ScriptError → Type 0
FoundBlock count old new left left' faults faults' (Ok true) = Moves old new left left' [] × (count < length new.held)
FoundBlock count old new left left' faults faults' (Ok false) =
    Moves old new left left' [] × (length new.held ≤ count) × IsEnd left'
FoundBlock count old new left left' faults faults' (Err e) =
    Fails (λ bytes. length bytes ≤ count) (λ line bytes. ⊥) old left left' faults faults' e

-- A block goes wrong where no newline stands after it.
abbrev pub BlockStops : ℕ → List ℕ → ℕ → Type 0
BlockStops count front b = (length front ≡ count) × (b ≢ 10)

-- No block was read.
abbrev pub BlockFails : ℕ → Reading → Option (List ℕ) → Option (List ℕ) → ℕ → ℕ → ScriptError → Type 0
BlockFails count old left left' faults faults' e =
    Fails (λ bytes. length bytes ≤ count)
    (BadPieceAt (λ bytes. length bytes ≤ count) (λ front. IsEnd left') (BlockStops count) old)
    old left left' faults faults' e

-- A block of this many bytes was read.
abbrev pub ReadsBlock : ℕ → Reading → Reading → Option (List ℕ) → Option (List ℕ)
    → ℕ → ℕ → Result (List ℕ) ScriptError → Type 0
ReadsBlock count old new left left' faults faults' (Ok block) = (length block ≡ count)
    × Moves old new left left' (ended block)
ReadsBlock count old new left left' faults faults' (Err e) = BlockFails count old left left' faults faults' e

-- A front of a buffer with nothing before it was cut off, or nothing was.
abbrev pub CutsLarge : List ℕ → List ℕ → ℕ → ℕ → Option (Vec ℕ Global) → Type 0
CutsLarge old new start count None = new ≡ old
CutsLarge old new start count (Some front) = (start ≡ 0) × (front.items ≡ take count old) × (new ≡ drop count old)

-- The front of what is held was given.
abbrev pub given : Reading → ℕ → Reading
given old count = record old { held = drop count old.held; newlines = old.newlines + newlines_in (take count old.held) }
