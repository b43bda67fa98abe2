-- How a commit is read.
use Rattle.std.specs.Prelude.{◌≡◌, ◌≢◌, ℕ, ◌≤◌, ◌⊎◌, List, [], ◌∷◌, ◌++◌, length, map, codes, Option, Some, None, Bool, false, ◌==◌, ◌&&◌, if◌then◌else◌}
use Rattle.std.specs.List.{flat_map, AllByRecursion}
use Rattle.std.specs.Option.{option_map}
use Rattle.bstr.specs.BStr.{bstr_bytes}
use Rattle.gx_hash.specs.IdDigits.{IsHexId}
use Rattle.gx_hash.specs.declared.kind.HashKind.{HashKind}
use Rattle.gx_object.specs.declared.decode.DecodeError.{DecodeError}
use Rattle.gx_object.specs.declared.decode.DecodeError.TheVariants.{Decode, NoMemory}
use Rattle.gx_object.specs.declared.commit.decode.ExtraHeader.{ExtraHeader}
use Rattle.gx_object.specs.declared.commit.decode.CommitRef.{CommitRef}
use Rattle.gx_object.specs.Commit.{folded_byte, encoding_line}
use Rattle.gx_object.specs.IdentitySpelling.{IdentityText, identity_text, SpellsIdentity}

-- a further header, as an object contains it
pub record HeaderText : Type 0 where
  pub name : List ℕ
  pub raw : List ℕ

-- the parts of a commit, as an object contains them
pub record CommitText : Type 0 where
  pub tree : List ℕ
  pub parents : List (List ℕ)
  pub author : IdentityText
  pub committer : IdentityText
  pub encoding : Option (List ℕ)
  pub extra_headers : List HeaderText
  pub message : List ℕ

-- the texts of a header that was read
abbrev pub header_text : ExtraHeader → HeaderText
header_text h = record { name = bstr_bytes h.name; raw = bstr_bytes h.raw }

-- the texts of a commit that was read
abbrev pub commit_text : CommitRef → CommitText
commit_text c = record {
  tree = bstr_bytes c.tree;
  parents = map bstr_bytes c.parents.items;
  author = identity_text c.author;
  committer = identity_text c.committer;
  encoding = option_map bstr_bytes c.encoding;
  extra_headers = map header_text c.extra_headers;
  message = bstr_bytes c.message;
}

-- the text has no newline
abbrev pub IsOneLine : List ℕ → Type 0
IsOneLine text = AllByRecursion (λ b. b ≢ 10) text

-- an encoding is named in one line, which is not empty (Git, git-commit, "Discussion"; that it is not empty is ours)
abbrev pub IsEncoding : List ℕ → Type 0
IsEncoding text = (text ≢ []) × IsOneLine text

-- a header's name has at least one byte, no space and no newline (Git, commit.c, "read_commit_extra_header_lines";
-- that it has a byte is ours)
abbrev pub IsHeaderName : List ℕ → Type 0
IsHeaderName name = (name ≢ []) × AllByRecursion (λ b. (b ≢ 32) × (b ≢ 10)) name

-- a value as an object contains it: a space follows each of its newlines (Git,
-- gitformat-signature, "Commit signatures")
abbrev pub folded : List ℕ → List ℕ
folded value = flat_map folded_byte value

-- the header has a name, and a value that is folded
abbrev pub IsHeader : HeaderText → Type 0
IsHeader h = IsHeaderName h.name × ((value : List ℕ) × (h.raw ≡ folded value))

-- the header is one line, as an encoding is
abbrev pub IsEncodingHeader : HeaderText → Type 0
IsEncodingHeader h = (h.name ≡ codes "encoding") × IsEncoding h.raw

-- The first header after the committer is the encoding, if it is spelled as one. (Ours: Git reads the first such
-- header, wherever it is)
abbrev pub HasEncoding : Option (List ℕ) → List HeaderText → Type 0
HasEncoding (Some text) headers = IsEncoding text
HasEncoding None [] = Unit {0}
HasEncoding None (h ∷ headers) = IsEncodingHeader h → ⊥

-- a line with a word and a text
abbrev pub text_line : List ℕ → List ℕ → List ℕ
text_line word text = word ++ (text ++ 10 ∷ [])

-- the lines of a header, as an object contains them
abbrev pub raw_line : HeaderText → List ℕ
raw_line h = h.name ++ (32 ∷ h.raw ++ 10 ∷ [])

-- A commit is lines with its tree, its parents, its author and its committer, one with the message's encoding where
-- it is told, further headers, an empty line, and the message. (Git, "Git Internals - Git Objects", "Commit Objects";
-- gitformat-signature, "Commit signatures")
pub record SpellsCommit (hash : HashKind) (bytes : List ℕ) (c : CommitText) : Type 0 where
  pub author_line : List ℕ
  pub committer_line : List ℕ
  pub whole : bytes ≡ text_line (codes "tree ") c.tree
      ++ (flat_map (text_line (codes "parent ")) c.parents
      ++ (text_line (codes "author ") author_line
      ++ (text_line (codes "committer ") committer_line
      ++ (encoding_line c.encoding ++ (flat_map raw_line c.extra_headers ++ 10 ∷ c.message)))))
  pub tree_id : IsHexId hash c.tree
  pub parent_ids : AllByRecursion (IsHexId hash) c.parents
  pub author_open : IsOneLine author_line
  pub author_is : SpellsIdentity author_line c.author
  pub committer_open : IsOneLine committer_line
  pub committer_is : SpellsIdentity committer_line c.committer
  pub encoding_is : HasEncoding c.encoding c.extra_headers
  pub headers : AllByRecursion IsHeader c.extra_headers

-- some bytes after the front make it spell a commit
pub record BeginsCommit (hash : HashKind) (front : List ℕ) : Type 0 where
  pub more : List ℕ
  pub commit : CommitText
  pub spells : SpellsCommit hash (front ++ more) commit

-- nothing, or text that ends with a newline
abbrev pub IsWholeLines : List ℕ → Type 0
IsWholeLines text = (text ≡ []) ⊎ ((front : List ℕ) × (text ≡ front ++ 10 ∷ []))

-- the bytes begin with lines that begin a commit
pub record BeginsWith (hash : HashKind) (bytes front : List ℕ) : Type 0 where
  pub rest : List ℕ
  pub whole : bytes ≡ front ++ rest
  pub lines : IsWholeLines front
  pub begins : BeginsCommit hash front

-- The bytes spell no commit, and go wrong in the line that begins after the longest such front.
pub record IsNoCommit (hash : HashKind) (bytes : List ℕ) (at : ℕ) : Type 0 where
  pub none : (c : CommitText) → SpellsCommit hash bytes c → ⊥
  pub front : List ℕ
  pub place : at ≡ length front
  pub good : BeginsWith hash bytes front
  pub longest : (other : List ℕ) → BeginsWith hash bytes other → length other ≤ length front

-- Why bytes are not read as a commit: they spell none, and go wrong at the place; or they are one, and memory ran out.
abbrev pub CommitCauses : HashKind → List ℕ → DecodeError → Type 0
CommitCauses hash bytes (Decode at) = IsNoCommit hash bytes at
CommitCauses hash bytes NoMemory = (c : CommitText) × SpellsCommit hash bytes c

-- a text without the one space after each newline; the flag tells whether it follows one
abbrev pub unfolded_behind : Bool → List ℕ → List ℕ
unfolded_behind newline [] = []
unfolded_behind newline (b ∷ bs) =
    if newline && b == 32 then unfolded_behind false bs else b ∷ unfolded_behind (b == 10) bs

-- A value's lines lack the space that each but the first begins with in an object.
abbrev pub unfolded : List ℕ → List ℕ
unfolded raw = unfolded_behind false raw
