-- The kinds of digest that ids can be.
use Rattle.std.specs.Prelude.{◌≡◌, ℕ}
use Rattle.gx_hash.specs.declared.kind.HashKind.{HashKind}
use Rattle.gx_hash.specs.declared.kind.HashKind.TheVariants as hash_kind
use Rattle.gx_hash.specs.declared.oid.ObjectId.{ObjectId}
use Rattle.gx_hash.specs.declared.oid.ObjectId.TheVariants.{Sha1, Sha256}

-- SHA-1 digests have 160 bits, and SHA-256 digests 256. (FIPS 180-4, section 1)
abbrev pub len_in_bytes : HashKind → ℕ
len_in_bytes hash_kind.Sha1 = 20
len_in_bytes hash_kind.Sha256 = 32

-- the kind of digest that an id is
abbrev pub kind_of : ObjectId → HashKind
kind_of (Sha1 bytes) = hash_kind.Sha1
kind_of (Sha256 bytes) = hash_kind.Sha256

-- an id is of the kind that a repository has
abbrev pub IsOfKind : HashKind → ObjectId → Type 0
IsOfKind hash id = kind_of id ≡ hash
