-- How a tag is read.
use Rattle.std.specs.Prelude.{◌≡◌, ◌≢◌, ℕ, ◌≤◌, ◌⊎◌, List, [], ◌∷◌, ◌++◌, length, codes, Option, Some, None}
use Rattle.std.specs.Option.{option_map}
use Rattle.bstr.specs.BStr.{bstr_bytes}
use Rattle.gx_hash.specs.declared.kind.HashKind.{HashKind}
use Rattle.gx_object.specs.declared.decode.DecodeError.{DecodeError}
use Rattle.gx_object.specs.declared.decode.DecodeError.TheVariants.{Decode}
use Rattle.gx_object.specs.declared.kind.Kind.{Kind}
use Rattle.gx_object.specs.declared.tag.decode.TagRef.{TagRef}
use Rattle.gx_object.specs.Kind.{kind_name}
use Rattle.gx_object.specs.IdentitySpelling.{IdentityText, identity_text, SpellsIdentity}
use Rattle.gx_hash.specs.IdDigits.{IsHexId}
use Rattle.gx_object.specs.CommitSpelling.{IsOneLine, IsWholeLines, text_line}

-- the parts of a tag, as an object contains them
pub record TagText : Type 0 where
  pub target : List ℕ
  pub target_kind : Kind
  pub name : List ℕ
  pub tagger : Option IdentityText
  pub message : List ℕ
  pub signature : Option (List ℕ)

-- the texts of a tag that was read
abbrev pub tag_text : TagRef → TagText
tag_text t = record {
  target = bstr_bytes t.target;
  target_kind = t.target_kind;
  name = bstr_bytes t.name;
  tagger = option_map identity_text t.tagger;
  message = bstr_bytes t.message;
  signature = option_map bstr_bytes t.signature;
}

-- a tag is named in one line, which is not empty (Git, git-mktag, "Tag Format"; that git-check-ref-format allows it
-- is not asked)
abbrev pub IsTagName : List ℕ → Type 0
IsTagName name = (name ≢ []) × IsOneLine name

-- a tag names who made it in one line, or has no such line
abbrev pub SpellsTagger : List ℕ → Option IdentityText → Type 0
SpellsTagger text None = text ≡ []
SpellsTagger text (Some who) =
    (line : List ℕ) × (text ≡ text_line (codes "tagger ") line) × IsOneLine line × SpellsIdentity line who

-- the text begins with the word
abbrev pub BeginsWithText : List ℕ → List ℕ → Type 0
BeginsWithText text word = (rest : List ℕ) × (text ≡ word ++ rest)

-- A signature begins with one of these. (Git, gpg-interface.c, "openpgp_sigs", "x509_sigs" and "ssh_sigs")
abbrev pub OpensSignature : List ℕ → Type 0
OpensSignature text =
    BeginsWithText text (codes "-----BEGIN PGP SIGNATURE-----")
    ⊎ (BeginsWithText text (codes "-----BEGIN PGP MESSAGE-----")
    ⊎ (BeginsWithText text (codes "-----BEGIN SSH SIGNATURE-----")
    ⊎ BeginsWithText text (codes "-----BEGIN SIGNED MESSAGE-----")))

-- a signature begins in the line after the message
pub record SignedAt (text message signature : List ℕ) : Type 0 where
  pub whole : text ≡ message ++ signature
  pub lines : IsWholeLines message
  pub opens : OpensSignature signature

-- The last line that begins a signature ends the message; all from that line on is the signature. (Git,
-- gitformat-signature, "Tag signatures")
abbrev pub SplitsSignature : List ℕ → List ℕ → Option (List ℕ) → Type 0
SplitsSignature text message None = (text ≡ message) × ((front rest : List ℕ) → ¬ SignedAt text front rest)
SplitsSignature text message (Some signature) =
    SignedAt text message signature × ((front rest : List ℕ) → SignedAt text front rest → length front ≤ length message)

-- an empty line and what follows it; or nothing, which is read as an empty message (Ours: Git writes
-- the empty line)
abbrev pub SpellsBody : List ℕ → List ℕ → Option (List ℕ) → Type 0
SpellsBody body message signature =
    ((body ≡ []) × (message ≡ []) × (signature ≡ None))
    ⊎ ((text : List ℕ) × (body ≡ 10 ∷ text) × SplitsSignature text message signature)

-- A tag is lines with its target, the kind of that, its name and its tagger where it has one, an empty line, the
-- message, and the signature where it has one. (Git, git-mktag, "Tag Format"; gitformat-signature, "Tag signatures")
pub record SpellsTag (hash : HashKind) (bytes : List ℕ) (t : TagText) : Type 0 where
  pub tagger_text : List ℕ
  pub body : List ℕ
  pub whole : bytes ≡ text_line (codes "object ") t.target
      ++ (text_line (codes "type ") (kind_name t.target_kind)
      ++ (text_line (codes "tag ") t.name ++ (tagger_text ++ body)))
  pub target_id : IsHexId hash t.target
  pub name_is : IsTagName t.name
  pub tagger_is : SpellsTagger tagger_text t.tagger
  pub body_is : SpellsBody body t.message t.signature

-- some bytes after the front make it spell a tag
pub record BeginsTag (hash : HashKind) (front : List ℕ) : Type 0 where
  pub more : List ℕ
  pub tag : TagText
  pub spells : SpellsTag hash (front ++ more) tag

-- the bytes begin with lines that begin a tag
pub record BeginsWithTag (hash : HashKind) (bytes front : List ℕ) : Type 0 where
  pub rest : List ℕ
  pub whole : bytes ≡ front ++ rest
  pub lines : IsWholeLines front
  pub begins : BeginsTag hash front

-- The bytes spell no tag, and go wrong in the line that begins after the longest such front.
pub record IsNoTag (hash : HashKind) (bytes : List ℕ) (at : ℕ) : Type 0 where
  pub none : (t : TagText) → ¬ SpellsTag hash bytes t
  pub front : List ℕ
  pub place : at ≡ length front
  pub good : BeginsWithTag hash bytes front
  pub longest : (other : List ℕ) → BeginsWithTag hash bytes other → length other ≤ length front

-- the refusal names that place
abbrev pub RefusesTag : HashKind → List ℕ → DecodeError → Type 0
RefusesTag hash bytes error = (at : ℕ) × (error ≡ Decode at) × IsNoTag hash bytes at
