-- The bytes of a commit.
use Rattle.std.specs.Prelude.{ℕ, ◌==◌, ◌&&◌, not, Bool, true, List, [], ◌∷◌, ◌++◌, length, codes, Option, Some, None, if◌then◌else◌}
use Rattle.std.specs.List.{flat_map, list_all}
use Rattle.gx_hash.specs.declared.oid.ObjectId.{ObjectId}
use Rattle.gx_hash.specs.ObjectId.{hex_of}
use Rattle.gx_object.specs.declared.signature.Signature.{Signature}
use Rattle.gx_object.specs.declared.commit.OwnedHeader.{OwnedHeader}
use Rattle.gx_object.specs.declared.commit.Commit.{Commit}
use Rattle.gx_object.specs.declared.encode.Field.{Field}
use Rattle.gx_object.specs.declared.encode.Field.TheVariants.{Encoding, HeaderName}
use Rattle.gx_object.specs.Identity.{identity_bytes, are_writable}

-- a line with a word and an id's digits
abbrev pub id_line : List ℕ → ObjectId → List ℕ
id_line word id = word ++ hex_of id ++ 10 ∷ []

-- a line with a word and an identity
abbrev pub identity_line : List ℕ → Signature → List ℕ
identity_line word who = word ++ identity_bytes who ++ 10 ∷ []

-- the header lines that each commit begins with: its tree, its parents in their order, its author and its committer
-- (Git, "Git Internals - Git Objects", "Commit Objects")
unfoldable pub head_bytes : ObjectId → List ObjectId → Signature → Signature → List ℕ
head_bytes tree parents author committer =
    id_line (codes "tree ") tree ++ flat_map (id_line (codes "parent ")) parents
    ++ identity_line (codes "author ") author ++ identity_line (codes "committer ") committer

-- a commit without an encoding and without further headers: an empty line separates its headers from its message
unfoldable pub plain_commit_bytes : ObjectId → List ObjectId → Signature → Signature → List ℕ → List ℕ
plain_commit_bytes tree parents author committer message = head_bytes tree parents author committer ++ 10 ∷ message

-- the line that names the encoding of a message, where it is not UTF-8 (Git, git-commit, "Discussion")
abbrev pub encoding_line : Option (List ℕ) → List ℕ
encoding_line None = []
encoding_line (Some text) = codes "encoding " ++ text ++ 10 ∷ []

-- a newline in a header's value is followed by a space
abbrev pub folded_byte : ℕ → List ℕ
folded_byte b = if b == 10 then 10 ∷ 32 ∷ [] else b ∷ []

-- A header is its name, a space and its value, whose lines after the first begin with a space. (Git,
-- gitformat-signature, "Commit signatures")
abbrev pub header_line : OwnedHeader → List ℕ
header_line h = h.name ++ 32 ∷ flat_map folded_byte h.value ++ 10 ∷ []

-- A commit is its header lines, an empty line and its message.
unfoldable pub commit_bytes : Commit → List ℕ
commit_bytes c =
    head_bytes c.tree c.parents c.author c.committer
    ++ (encoding_line c.encoding ++ (flat_map header_line c.extra_headers ++ 10 ∷ c.message))

-- A header's name ends at the first space, and its line at a newline. (Git, commit.c,
-- "read_commit_extra_header_lines"; that it has a byte is ours)
abbrev pub is_writable_header : OwnedHeader → Bool
is_writable_header h = not (length h.name == 0) && list_all (λ b. not (b == 32) && not (b == 10)) h.name

-- an encoding is named in one line, which is not empty (Git, git-commit, "Discussion"; that it is not empty is ours)
abbrev pub is_writable_encoding : Option (List ℕ) → Bool
is_writable_encoding None = true
is_writable_encoding (Some text) = not (length text == 0) && list_all (λ b. not (b == 10)) text

-- whether a field of a commit can be written
abbrev pub is_writable_commit : Commit → Field → Bool
is_writable_commit c Encoding = is_writable_encoding c.encoding
is_writable_commit c HeaderName = list_all is_writable_header c.extra_headers
is_writable_commit c field = are_writable c.author c.committer field
