-- What the functions find that walk along the text of a pattern.
use Rattle.std.specs.Prelude.{◌≡◌, ℕ, ◌+◌, ◌*◌, ◌<◌, ◌≤◌, max, ◌⊎◌, ◌↔◌, IsTrue, Bool, true, false, not, ◌||◌, ◌&&◌, ◌==◌, nat_le, if◌then◌else◌, List, [], ◌∷◌, drop, length, Option, Some, None}
use Rattle.gx_rules.specs.declared.pattern.letter.Letter.{Letter as Read}
use Rattle.gx_rules.specs.declared.pattern.letter.Letter.TheVariants as read
use Rattle.gx_rules.specs.declared.pattern.matching.Walk.{Walk}
use Rattle.gx_rules.specs.declared.pattern.matching.Step.{Step}
use Rattle.gx_rules.specs.declared.pattern.matching.Step.TheVariants as step
use Rattle.gx_rules.specs.Pattern.{Letter, Bare, Escaped, byte_of, is_bare, is_negation, letters, holds, AreMatch}

-- the letter that the code read
abbrev pub letter_of : Read → Letter
letter_of (read.Bare byte) = Bare byte
letter_of (read.Escaped byte) = Escaped byte

-- one letter more in front
abbrev pub in_front : Letter → Option (List Letter × List Letter) → Option (List Letter × List Letter)
in_front letter None = None
in_front letter (Some parts) = Some (letter ∷ parts.0, parts.1)

-- the letters before the first bare `]`, and those after it
unfoldable pub closed : List Letter → Option (List Letter × List Letter)
closed [] = None
closed (letter ∷ all) =
    elim (is_bare 93 letter) [
      | true ↦ Some ([], all)
      | false ↦ in_front letter (closed all)
    ]

-- whether the letters before the bracket hold the byte, and those after it
abbrev pub parts_hold : ℕ → Option (List Letter × List Letter) → Option (Bool × List Letter)
parts_hold byte None = None
parts_hold byte (Some parts) = Some (holds parts.0 byte, parts.1)

-- whether the set whose members come first holds the byte, and the letters after it
unfoldable pub set_holds : List Letter → ℕ → Option (Bool × List Letter)
set_holds [] byte = None
set_holds (first ∷ all) byte = parts_hold byte (in_front first (closed all))

-- the same if an earlier member may hold the byte
abbrev pub or_held : Bool → Option (Bool × List Letter) → Option (Bool × List Letter)
or_held held None = None
or_held held (Some found) = Some (held || found.0, found.1)

-- the byte is from the first to the last
abbrev pub spans : ℕ → ℕ → ℕ → Bool
spans first last byte = nat_le first byte && nat_le byte last

-- the letter that a dash at the front makes the last of a range, and the letters after it
unfoldable pub range_end : List Letter → Option (Letter × List Letter)
range_end [] = None
range_end (dash ∷ []) = None
range_end (dash ∷ other ∷ all) =
    if is_bare 45 dash && not (is_bare 93 other) then Some (other, all) else None

-- whether a member holds the byte that begins with a letter, and the letters after the member
unfoldable pub member_holds : Letter → List Letter → ℕ → Bool × List Letter
member_holds first all byte =
    elim (range_end all) [
      | None ↦ (byte_of first == byte, all)
      | Some last ↦ (spans (byte_of first) (byte_of last.0) byte, last.1)
    ]

-- what a negated set answers
abbrev pub negated : Option (Bool × List Letter) → Option (Bool × List Letter)
negated None = None
negated (Some found) = Some (not found.0, found.1)

-- whether a set, which may be negated, takes the byte, and the letters after it
unfoldable pub set_takes : List Letter → ℕ → Option (Bool × List Letter)
set_takes [] byte = None
set_takes (sign ∷ all) byte =
    if is_negation sign then negated (set_holds all byte) else set_holds (sign ∷ all) byte

-- the letters after the set, if it takes the byte
abbrev pub kept : Option (Bool × List Letter) → Option (List Letter)
kept None = None
kept (Some found) = if found.0 then Some found.1 else None

-- the letters after the first piece, if it is one that takes the byte alone
unfoldable pub taken : List Letter → ℕ → Option (List Letter)
taken [] byte = None
taken (letter ∷ all) byte =
    if is_bare 63 letter then Some all else
    (if is_bare 91 letter then kept (set_takes all byte) else
    (if is_bare 42 letter || is_bare 92 letter then None else
    (if byte_of letter == byte then Some all else None)))

-- the letters match what is left after some byte of the name
pub record IsLater (all : List Letter) (name : List ℕ) : Type 0 where
  pub place : ℕ
  pub within : place < length name
  pub match : AreMatch all (drop (place + 1) name)

-- A walk may still find a match: by what is left of the letters and of the name, or by a star that takes more bytes.
abbrev pub Lives : List Letter → List ℕ → List Letter → List ℕ → Type 0
Lives all name behind from = AreMatch all name ⊎ IsLater behind from

-- Where a star that takes more finds a match, the letters after what the walk has read find one as much further on.
abbrev pub Keeps : List Letter → List ℕ → List Letter → List ℕ → Type 0
Keeps all name behind from =
    (k : ℕ) → k < length from → AreMatch behind (drop (k + 1) from) → AreMatch all (drop (k + 1) name)

-- the walk may still find a match
abbrev pub IsAlive : Walk → Type 0
IsAlive walk = Lives (letters walk.pattern.now) walk.name.now (letters walk.behind_star.now) walk.from_star.now

-- the star of the walk finds what the walk itself could find
abbrev pub IsSound : Walk → Type 0
IsSound walk = Keeps (letters walk.pattern.now) walk.name.now (letters walk.behind_star.now) walk.from_star.now

-- a sound walk went on, to one that finds a match where the old one does
pub record GoesOn (old new : Walk) : Type 0 where
  pub sound : IsSound new
  pub onward : IsAlive old → IsAlive new
  pub back : IsAlive new → IsAlive old

-- what one step of a walk gives
abbrev pub StepGives : Walk → Step → Type 0
StepGives old (step.Next new) = GoesOn old new
StepGives old (step.Done answer) = IsTrue answer ↔ IsAlive old

-- the walk is in a pattern of at most this many bytes
abbrev pub IsWithin : ℕ → Walk → Type 0
IsWithin limit walk = (length walk.pattern.now ≤ limit) × (length walk.behind_star.now ≤ limit)

-- the steps that are left at most: at each byte of the name and at its end, one for each byte of the pattern and one
-- for the pattern's end
abbrev pub steps_left : ℕ → Walk → ℕ
steps_left limit walk =
    max (length walk.name.now) (length walk.from_star.now) * (limit + 1) + length walk.pattern.now + 1

-- a turn that takes the count of steps from the one number to the other takes no more than were left, and
-- leaves the others
abbrev pub Spends : Walk → (before after : ℕ) → Step → Type 0
Spends old before after (step.Next new) =
    (limit : ℕ) → IsWithin limit old → IsWithin limit new
    × (after + steps_left limit new ≤ before + steps_left limit old)
Spends old before after (step.Done answer) = after ≤ before + length old.pattern.now + 1

-- the last star takes its next byte from no later a place than the walk's
abbrev pub IsAhead : Walk → Type 0
IsAhead walk = 0 < length walk.from_star.now → length walk.name.now ≤ length walk.from_star.now

-- a turn passes one byte of the name at most, and finds a match at the name's end alone
abbrev pub Passes : Walk → Step → Type 0
Passes old (step.Next new) = IsAhead new × (length old.name.now ≤ length new.name.now + 1)
Passes old (step.Done answer) = IsTrue answer → length old.name.now ≡ 0
