-- What is read where a commit or a tag was written.
use Rattle.std.specs.Prelude.{◌≡◌, ℕ, ℤ, ◌%◌, true, List, [], ◌∷◌, map, Option, Some, None, FitsSigned, unsigned_abs}
use Rattle.std.specs.Int.{w64}
use Rattle.std.specs.List.{AllByRecursion}
use Rattle.std.specs.Option.{option_map}
use Rattle.gx_hash.specs.declared.kind.HashKind.{HashKind}
use Rattle.gx_hash.specs.ObjectId.{hex_of}
use Rattle.gx_object.specs.declared.signature.Signature.{Signature}
use Rattle.gx_object.specs.declared.signature.Time.{Time}
use Rattle.gx_object.specs.declared.commit.Commit.{Commit}
use Rattle.gx_object.specs.declared.commit.OwnedHeader.{OwnedHeader}
use Rattle.gx_object.specs.declared.encode.Field.{Field}
use Rattle.gx_object.specs.declared.tag.Tag.{Tag}
use Rattle.gx_object.specs.Identity.{time_bytes, is_writable_identity}
use Rattle.gx_object.specs.Commit.{is_writable_commit}
use Rattle.gx_object.specs.Tag.{is_writable_tag}
use Rattle.gx_object.specs.IdentitySpelling.{IdentityText}
use Rattle.gx_hash.specs.IdDigits.{IsHexId}
use Rattle.gx_object.specs.CommitSpelling.{CommitText, HeaderText, IsEncodingHeader, IsWholeLines, folded}
use Rattle.gx_object.specs.TagSpelling.{TagText, OpensSignature, SignedAt}

-- an identity, with its time as it is written
abbrev pub written_identity : Signature → IdentityText
written_identity who = record { name = who.name; email = who.email; time = time_bytes who.time }

-- a header, with its value folded
abbrev pub written_header : OwnedHeader → HeaderText
written_header h = record { name = h.name; raw = folded h.value }

-- a commit, with its ids as digits, its times as they are written, and the values of its headers folded
abbrev pub written_commit : Commit → CommitText
written_commit c = record {
  tree = hex_of c.tree;
  parents = map hex_of c.parents;
  author = written_identity c.author;
  committer = written_identity c.committer;
  encoding = c.encoding;
  extra_headers = map written_header c.extra_headers;
  message = c.message;
}

-- a tag alike
abbrev pub written_tag : Tag → TagText
written_tag t = record {
  target = hex_of t.target;
  target_kind = t.target_kind;
  name = t.name;
  tagger = option_map written_identity t.tagger;
  message = t.message;
  signature = t.signature;
}

-- the seconds are a number of 64 bits, as an `i64` is
abbrev pub HasSeconds : Time → Type 0
HasSeconds time = FitsSigned w64 time.seconds

-- Minutes are the least that an offset is written in.
abbrev pub IsWholeMinutes : ℤ → Type 0
IsWholeMinutes offset = unsigned_abs offset % 60 ≡ 0

-- an identity that can be written
pub record CanWriteIdentity (who : Signature) : Type 0 where
  pub fields : is_writable_identity who ≡ true
  pub seconds : HasSeconds who.time

-- where no encoding is told, no header comes first that is spelled as one
abbrev pub HidesNoEncoding : Option (List ℕ) → List OwnedHeader → Type 0
HidesNoEncoding None (h ∷ headers) = IsEncodingHeader (written_header h) → ⊥
HidesNoEncoding encoding headers = Unit {0}

-- a commit that can be written, with ids of this kind
pub record CanWriteCommit (hash : HashKind) (c : Commit) : Type 0 where
  pub tree : IsHexId hash (hex_of c.tree)
  pub parents : AllByRecursion (IsHexId hash) (map hex_of c.parents)
  pub fields : (field : Field) → is_writable_commit c field ≡ true
  pub author_seconds : HasSeconds c.author.time
  pub committer_seconds : HasSeconds c.committer.time
  pub encoding : HidesNoEncoding c.encoding c.extra_headers

-- the time of the tagger has a property, where there is a tagger
abbrev pub TaggerHas : (Time → Type 0) → Option Signature → Type 0
TaggerHas Is None = Unit {0}
TaggerHas Is (Some who) = Is who.time

-- The message of a tag without a signature has no line that begins one. A signature begins with such a line, after
-- whole lines, and has no further one.
abbrev pub PartsSignature : List ℕ → Option (List ℕ) → Type 0
PartsSignature message None = (front rest : List ℕ) → ¬ SignedAt message front rest
PartsSignature message (Some signature) =
    IsWholeLines message × OpensSignature signature
    × ((front rest : List ℕ) → SignedAt signature front rest → front ≡ [])

-- a tag that can be written, with an id of this kind
pub record CanWriteTag (hash : HashKind) (t : Tag) : Type 0 where
  pub target : IsHexId hash (hex_of t.target)
  pub fields : (field : Field) → is_writable_tag t field ≡ true
  pub seconds : TaggerHas HasSeconds t.tagger
  pub signature : PartsSignature t.message t.signature
