-- What is at the front of bytes: which line of a tag.
use Rattle.std.specs.Prelude.{◌≡◌, ◌≢◌, ℕ, ◌≤◌, ◌<◌, List, [], ◌∷◌, ◌++◌, length, codes, Option, Some, None}
use Rattle.gx_object.specs.declared.kind.Kind.{Kind}
use Rattle.gx_object.specs.Kind.{kind_name}
use Rattle.gx_object.specs.IdentitySpelling.{IdentityText}
use Rattle.gx_object.specs.CommitSpelling.{IsWholeLines, text_line}
use Rattle.gx_object.specs.CommitLines.{HasLine, IsNotBehind, HasIdentityLine, IsNoIdentityLine}
use Rattle.gx_object.specs.TagSpelling.{IsTagName, SignedAt}

-- no whole line names a kind
abbrev pub IsNoTypeLine : List ℕ → Type 0
IsNoTypeLine bytes = (kind : Kind) (rest : List ℕ) → HasLine bytes (codes "type " ++ kind_name kind) rest → ⊥

-- the bytes begin with the line of a kind
abbrev pub HasTypeLine : List ℕ → Kind → List ℕ → Type 0
HasTypeLine bytes kind rest = bytes ≡ text_line (codes "type ") (kind_name kind) ++ rest

-- no whole line names a tag
abbrev pub IsNoNameLine : List ℕ → Type 0
IsNoNameLine bytes = (name rest : List ℕ) → IsTagName name → HasLine bytes (codes "tag " ++ name) rest → ⊥

-- the bytes begin with the line of a name
abbrev pub HasNameLine : List ℕ → List ℕ → List ℕ → Type 0
HasNameLine bytes name rest = IsTagName name × (bytes ≡ text_line (codes "tag ") name ++ rest)

-- the tagger in front, where there is one
abbrev pub TakesTagger : List ℕ → Option IdentityText → List ℕ → Type 0
TakesTagger bytes None rest = (rest ≡ bytes) × IsNoIdentityLine (codes "tagger ") bytes
TakesTagger bytes (Some who) rest = HasIdentityLine (codes "tagger ") bytes who rest

-- the headers neither end here nor at an empty line
abbrev pub IsNoBody : List ℕ → Type 0
IsNoBody bytes = (bytes ≢ []) × IsNotBehind (10 ∷ []) bytes

-- no signature begins in the lines that were read
abbrev pub IsUnsignedTo : List ℕ → ℕ → Type 0
IsUnsignedTo text end = (front rest : List ℕ) → SignedAt text front rest → length front < end → ⊥

-- the last signature that begins in the lines that were read
abbrev pub IsLastTo : List ℕ → ℕ → Option (List ℕ) → Type 0
IsLastTo text end None = IsUnsignedTo text end
IsLastTo text end (Some signature) =
    (message : List ℕ) × SignedAt text message signature
    × ((front rest : List ℕ) → SignedAt text front rest → length front < end → length front ≤ length message)

-- whole lines were read
pub record ReadsSignature (text rest : List ℕ) (last : Option (List ℕ)) : Type 0 where
  pub read : List ℕ
  pub whole : text ≡ read ++ rest
  pub lines : IsWholeLines read
  pub last_is : IsLastTo text (length read) last

-- the last signature of all
abbrev pub HasLastSignature : List ℕ → Option (List ℕ) → Type 0
HasLastSignature text None = (front rest : List ℕ) → ¬ SignedAt text front rest
HasLastSignature text (Some signature) =
    (message : List ℕ) × SignedAt text message signature
    × ((front rest : List ℕ) → SignedAt text front rest → length front ≤ length message)
