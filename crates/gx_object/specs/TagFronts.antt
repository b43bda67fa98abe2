-- How far an iterator over a tag has come.
use Rattle.std.specs.Prelude.{◌≡◌, List, ◌++◌, ℕ, codes}
use Rattle.gx_hash.specs.declared.kind.HashKind.{HashKind}
use Rattle.gx_object.specs.declared.kind.Kind.{Kind}
use Rattle.gx_object.specs.declared.tag.items.Stage.{Stage}
use Rattle.gx_object.specs.declared.tag.items.Stage.TheVariants as stage
use Rattle.gx_object.specs.IdentitySpelling.{IdentityText}
use Rattle.gx_hash.specs.IdDigits.{IsHexId}
use Rattle.gx_object.specs.CommitSpelling.{text_line}
use Rattle.gx_object.specs.CommitLines.{HasIdentityLine}
use Rattle.gx_object.specs.TagLines.{HasTypeLine, HasNameLine}

-- what comes next in a tag, where `Tagger` is a tagger or the body
pub data Next : Type 0 where
  Target : Next
  TargetKind : Next
  Name : Next
  Tagger : Next
  Body : Next
  End : Next

-- what the code calls it
abbrev pub next_of : Stage → Next
next_of stage.Target = Target
next_of stage.TargetKind = TargetKind
next_of stage.Name = Name
next_of stage.Tagger = Tagger
next_of stage.Body = Body
next_of stage.End = End

-- The lines in front: the target, then the kind, then the name, then the tagger.
abbrev pub HasTarget : HashKind → List ℕ → List ℕ → List ℕ → Type 0
HasTarget hash bytes target rest = IsHexId hash target × (bytes ≡ text_line (codes "object ") target ++ rest)

-- the lines of target and kind are before the rest
abbrev pub HasTargetKind : HashKind → List ℕ → List ℕ → Kind → List ℕ → Type 0
HasTargetKind hash bytes target kind rest = (r : List ℕ) × HasTarget hash bytes target r × HasTypeLine r kind rest

-- the lines of target, kind and name are before the rest
abbrev pub HasName : HashKind → List ℕ → List ℕ → Kind → List ℕ → List ℕ → Type 0
HasName hash bytes target kind name rest =
    (r : List ℕ) × HasTargetKind hash bytes target kind r × HasNameLine r name rest

-- the lines up to the tagger are before the rest
abbrev pub HasTagger : HashKind → List ℕ → List ℕ → Kind → List ℕ → IdentityText → List ℕ → Type 0
HasTagger hash bytes target kind name who rest =
    (r : List ℕ) × HasName hash bytes target kind name r × HasIdentityLine (codes "tagger ") r who rest

-- the lines of a tag in front of the rest, so that this comes next
abbrev pub StandsAt : HashKind → Next → List ℕ → List ℕ → Type 0
StandsAt hash Target bytes rest = rest ≡ bytes
StandsAt hash TargetKind bytes rest = (target : List ℕ) × HasTarget hash bytes target rest
StandsAt hash Name bytes rest = (target : List ℕ) × (kind : Kind) × HasTargetKind hash bytes target kind rest
StandsAt hash Tagger bytes rest =
    (target : List ℕ) × (kind : Kind) × (name : List ℕ) × HasName hash bytes target kind name rest
StandsAt hash Body bytes rest =
    (target : List ℕ) × (kind : Kind) × (name : List ℕ) × (who : IdentityText)
    × HasTagger hash bytes target kind name who rest
StandsAt hash End bytes rest = Unit {0}
