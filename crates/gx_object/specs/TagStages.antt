-- What an iterator over a tag finds next.
use Rattle.std.specs.Prelude.{◌≡◌, ℕ, ◌⊎◌, List, codes, Option, Some, None}
use Rattle.gx_hash.specs.declared.kind.HashKind.{HashKind}
use Rattle.gx_object.specs.declared.kind.Kind.{Kind}
use Rattle.gx_object.specs.IdentitySpelling.{IdentityText}
use Rattle.gx_object.specs.CommitLines.{IsNoIdLine, HasIdentityLine, IsNoIdentityLine}
use Rattle.gx_object.specs.TagLines.{IsNoTypeLine, HasTypeLine, IsNoNameLine, HasNameLine, IsNoBody}
use Rattle.gx_object.specs.TagFronts.{Next, Target, TargetKind, Name, Tagger, Body, End, HasTarget, HasTagger}
use Rattle.gx_object.specs.TagSpelling.{TagText, SpellsBody, SpellsTag}
use Rattle.gx_object.specs.TagItems.{Item, TargetIs, TargetKindIs, NameIs, TaggerIs, BodyIs}

-- the body is the part that comes next, and ends the tag
abbrev pub IsBodyItem : List ℕ → Item → Next → Type 0
IsBodyItem rest i t =
    (t ≡ End) × ((message : List ℕ) × (signature : Option (List ℕ)) × (i ≡ BodyIs message signature)
    × SpellsBody rest message signature)

-- the item that comes next, what follows it, and what comes next there
abbrev pub ItemAt : HashKind → Next → List ℕ → Item → List ℕ → Next → Type 0
ItemAt hash Target rest i more t =
    (t ≡ TargetKind) × ((target : List ℕ) × (i ≡ TargetIs target) × HasTarget hash rest target more)
ItemAt hash TargetKind rest i more t =
    (t ≡ Name) × ((kind : Kind) × (i ≡ TargetKindIs kind) × HasTypeLine rest kind more)
ItemAt hash Name rest i more t = (t ≡ Tagger) × ((name : List ℕ) × (i ≡ NameIs name) × HasNameLine rest name more)
ItemAt hash Tagger rest i more t =
    ((t ≡ Body) × ((who : IdentityText) × (i ≡ TaggerIs who) × HasIdentityLine (codes "tagger ") rest who more))
    ⊎ (IsNoIdentityLine (codes "tagger ") rest × IsBodyItem rest i t)
ItemAt hash Body rest i more t = IsBodyItem rest i t
ItemAt hash End rest i more t = ⊥

-- no item comes next
abbrev pub NoItemAt : HashKind → Next → List ℕ → Type 0
NoItemAt hash Target rest = IsNoIdLine hash (codes "object ") rest
NoItemAt hash TargetKind rest = IsNoTypeLine rest
NoItemAt hash Name rest = IsNoNameLine rest
NoItemAt hash Tagger rest = IsNoIdentityLine (codes "tagger ") rest × IsNoBody rest
NoItemAt hash Body rest = IsNoBody rest
NoItemAt hash End rest = Unit {0}

-- the lines up to a tagger come first, or the bytes spell a tag without one
abbrev pub FindsTagger : HashKind → List ℕ → Option IdentityText → Type 0
FindsTagger hash bytes (Some who) =
    (target : List ℕ) × (kind : Kind) × (name rest : List ℕ) × HasTagger hash bytes target kind name who rest
FindsTagger hash bytes None = (t : TagText) × SpellsTag hash bytes t × (t.tagger ≡ None)
