-- What a commit is when it is taken over from an object.
use Rattle.std.specs.Prelude.{◌≡◌, map}
use Rattle.std.specs.List.{AllByRecursion}
use Rattle.gx_hash.specs.declared.kind.HashKind.{HashKind}
use Rattle.gx_hash.specs.HashKind.{IsOfKind}
use Rattle.gx_hash.specs.ObjectId.{hex_of}
use Rattle.gx_object.specs.declared.commit.Commit.{Commit}
use Rattle.gx_object.specs.declared.commit.OwnedHeader.{OwnedHeader}
use Rattle.gx_object.specs.OwnedTag.{OwnsIdentity}
use Rattle.gx_hash.specs.IdDigits.{IsHexId}
use Rattle.gx_object.specs.CommitSpelling.{CommitText, HeaderText, unfolded}

-- the texts of the ids are digits of ids of this kind
pub record HasIdsOf (hash : HashKind) (c : CommitText) : Type 0 where
  pub tree : IsHexId hash c.tree
  pub parents : AllByRecursion (IsHexId hash) c.parents

-- or of some kind, as they are in a commit that was read
abbrev pub HasIds : CommitText → Type 0
HasIds c = (hash : HashKind) × HasIdsOf hash c

-- the ids are of this kind
pub record IsOfHash (hash : HashKind) (c : Commit) : Type 0 where
  pub tree : IsOfKind hash c.tree
  pub parents : AllByRecursion (IsOfKind hash) c.parents

-- the header with its value as it is meant
abbrev pub owned_header : HeaderText → OwnedHeader
owned_header h = record { name = h.name; value = unfolded h.raw }

-- The owned commit has the same parts: ids by their digits, and headers by their values.
pub record IsCopyOf (c : CommitText) (owned : Commit) : Type 0 where
  pub tree : hex_of owned.tree ≡ c.tree
  pub parents : map hex_of owned.parents ≡ c.parents
  pub author : OwnsIdentity c.author owned.author
  pub committer : OwnsIdentity c.committer owned.committer
  pub encoding : owned.encoding ≡ c.encoding
  pub message : owned.message ≡ c.message
  pub extra_headers : owned.extra_headers ≡ map owned_header c.extra_headers
