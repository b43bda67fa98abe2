-- The signature of a commit, and the bytes that it signs.
use Rattle.std.specs.Prelude.{◌≡◌, ◌≢◌, ℕ, List, ◌∷◌, ◌++◌, codes, Option, Some, None}
use Rattle.std.specs.List.{flat_map, AllByRecursion}
use Rattle.gx_hash.specs.declared.kind.HashKind.{HashKind}
use Rattle.gx_hash.specs.declared.kind.HashKind.TheVariants as hash_kind
use Rattle.gx_object.specs.declared.decode.DecodeError.{DecodeError}
use Rattle.gx_object.specs.declared.decode.DecodeError.TheVariants.{Decode, NoMemory}
use Rattle.gx_object.specs.CommitSpelling.{HeaderText, CommitText, SpellsCommit, IsNoCommit, raw_line, folded}

-- the name of the header that holds a commit's signature, in a repository of each kind (Git,
-- hash-function-transition, "Signed Commits")
abbrev pub signature_name : HashKind → List ℕ
signature_name hash_kind.Sha1 = codes "gpgsig"
signature_name hash_kind.Sha256 = codes "gpgsig-sha256"

-- the header has another name
abbrev pub IsOther : List ℕ → HeaderText → Type 0
IsOther name h = h.name ≢ name

-- the lines of headers, and the empty line and the message after them
abbrev pub lines_to_end : List HeaderText → List ℕ → List ℕ
lines_to_end headers message = flat_map raw_line headers ++ 10 ∷ message

-- The header is the first of the signature's name in this commit, and what it signs are the commit's bytes without the
-- lines of that header. (Git, gitformat-signature, "Commit signatures"; that of several such headers the first alone
-- goes is gix's)
pub record HasSignature (hash : HashKind) (bytes : List ℕ) (c : CommitText)
    (header : HeaderText) (signed : List ℕ) : Type 0 where
  pub before : List HeaderText
  pub behind : List HeaderText
  pub front : List ℕ
  pub headers : c.extra_headers ≡ before ++ header ∷ behind
  pub named : header.name ≡ signature_name hash
  pub first : AllByRecursion (IsOther (signature_name hash)) before
  pub whole : bytes ≡ front ++ (raw_line header ++ lines_to_end behind c.message)
  pub signed_is : signed ≡ front ++ lines_to_end behind c.message

-- no header has that name
abbrev pub HasNoSignature : HashKind → CommitText → Type 0
HasNoSignature hash c = AllByRecursion (IsOther (signature_name hash)) c.extra_headers

-- the value of the signature is that header's value
abbrev pub IsSignature : HashKind → List ℕ → CommitText → List ℕ → List ℕ → Type 0
IsSignature hash bytes c value signed =
    (header : HeaderText) × HasSignature hash bytes c header signed × (header.raw ≡ folded value)

-- what is told of a commit: that it has no signature, or its value and what it signs
abbrev pub TellsSignature : HashKind → List ℕ → CommitText → Option (List ℕ × List ℕ) → Type 0
TellsSignature hash bytes c None = HasNoSignature hash c
TellsSignature hash bytes c (Some told) = IsSignature hash bytes c told.0 told.1

-- the bytes spell a commit, of which this holds
pub record SpellsSome (hash : HashKind) (bytes : List ℕ) (Is : CommitText → Type 0) : Type 0 where
  pub commit : CommitText
  pub spells : SpellsCommit hash bytes commit
  pub is : Is commit

-- they spell one without a signature
abbrev pub IsUnsigned : HashKind → List ℕ → Type 0
IsUnsigned hash bytes = SpellsSome hash bytes (HasNoSignature hash)

-- they spell one with this signature
abbrev pub IsSignedBy : HashKind → List ℕ → List ℕ → List ℕ → Type 0
IsSignedBy hash bytes value signed = SpellsSome hash bytes (λ c. IsSignature hash bytes c value signed)

-- the refusal names the place where bytes that spell no commit go wrong
abbrev pub RefusesCommit : HashKind → List ℕ → DecodeError → Type 0
RefusesCommit hash bytes error = (at : ℕ) × (error ≡ Decode at) × IsNoCommit hash bytes at

-- Bytes that spell no commit are refused at their place. Only a signature is out of memory.
abbrev pub MissesSignature : HashKind → List ℕ → DecodeError → Type 0
MissesSignature hash bytes (Decode at) = IsNoCommit hash bytes at
MissesSignature hash bytes NoMemory = (value : List ℕ) × (signed : List ℕ) × IsSignedBy hash bytes value signed

-- The headers in front have one of this name, and none of it before: the lines from it on, and those after it.
pub record FirstNamed (name : List ℕ) (headers : List HeaderText) (message : List ℕ)
    (header : HeaderText) (lines rest : List ℕ) : Type 0 where
  pub before : List HeaderText
  pub behind : List HeaderText
  pub headers_are : headers ≡ before ++ header ∷ behind
  pub named : header.name ≡ name
  pub first : AllByRecursion (IsOther name) before
  pub lines_are : lines ≡ lines_to_end (header ∷ behind) message
  pub rest_is : rest ≡ lines_to_end behind message

-- headers of other names were passed
pub record PassesOthers (name : List ℕ) (headers : List HeaderText) (message rest : List ℕ) : Type 0 where
  pub before : List HeaderText
  pub behind : List HeaderText
  pub headers_are : headers ≡ before ++ behind
  pub others : AllByRecursion (IsOther name) before
  pub rest_is : rest ≡ lines_to_end behind message
