-- How a tag is taken over from an object.
use Rattle.std.specs.Prelude.{◌≡◌, List, ℕ, Option, Some, None}
use Rattle.gx_hash.specs.declared.kind.HashKind.{HashKind}
use Rattle.gx_hash.specs.ObjectId.{hex_of}
use Rattle.gx_object.specs.declared.signature.Signature.{Signature}
use Rattle.gx_object.specs.declared.signature.Time.{Time}
use Rattle.gx_object.specs.declared.tag.Tag.{Tag}
use Rattle.gx_hash.specs.IdDigits.{IsHexId}
use Rattle.gx_object.specs.IdentitySpelling.{IdentityText}
use Rattle.gx_object.specs.TagSpelling.{TagText}
use Rattle.gx_object.specs.TimeSpelling.{SpellsTime}

-- the digits of an id of some kind
abbrev pub IsIdText : List ℕ → Type 0
IsIdText text = (hash : HashKind) × IsHexId hash text

-- the identity has the texts' name, email and time
pub record OwnsIdentity (text : IdentityText) (owned : Signature) : Type 0 where
  pub name : owned.name ≡ text.name
  pub email : owned.email ≡ text.email
  pub time : SpellsTime text.time owned.time

-- the text of an identity's time is none
abbrev pub HasNoTime : IdentityText → Type 0
HasNoTime text = (time : Time) → ¬ SpellsTime text.time time

-- the same of a tagger, where there is one
abbrev pub OwnsTagger : Option IdentityText → Option Signature → Type 0
OwnsTagger None None = Unit {0}
OwnsTagger (Some text) (Some owned) = OwnsIdentity text owned
OwnsTagger text owned = ⊥

-- the tagger's time is none
abbrev pub HasBadTime : Option IdentityText → Type 0
HasBadTime None = ⊥
HasBadTime (Some text) = HasNoTime text

-- each part of the tag is what its text spells
pub record OwnsTag (text : TagText) (owned : Tag) : Type 0 where
  pub target : hex_of owned.target ≡ text.target
  pub target_kind : owned.target_kind ≡ text.target_kind
  pub name : owned.name ≡ text.name
  pub tagger : OwnsTagger text.tagger owned.tagger
  pub message : owned.message ≡ text.message
  pub signature : owned.signature ≡ text.signature
