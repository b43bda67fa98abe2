-- The ids of the empty tree and of the empty blob, computed.
use Rattle.std.proofs.Common.{◌≡◌, [], ◌∷◌, codes, refl}
use Rattle.std.specs.Fmt.{digits}
use Rattle.sha1.specs.Sha1 as one
use Rattle.sha2.specs.Sha256 as two
use Rattle.gx_hash.specs.declared.kind.HashKind.TheVariants as hash_kind
use Rattle.gx_hash.specs.declared.oid.ObjectId.TheVariants.{Sha1, Sha256}
use Rattle.gx_hash.specs.ObjectId.{object_id}

pub empty_tree_sha1 : object_id hash_kind.Sha1 (codes "tree") [] ≡ Sha1 (
    0x4b ∷ 0x82 ∷ 0x5d ∷ 0xc6 ∷ 0x42 ∷ 0xcb ∷ 0x6e ∷ 0xb9 ∷ 0xa0 ∷ 0x60 ∷ 0xe5 ∷ 0x4b ∷ 0xf8 ∷ 0xd6 ∷ 0x92 ∷ 0x88
    ∷ 0xfb ∷ 0xee ∷ 0x49 ∷ 0x04 ∷ [])
unfolding object_id digits one.first_words one.schedule one.rounds one.compress one.hash_after one.digest_bytes one.sha1
empty_tree_sha1 = refl

pub empty_blob_sha1 : object_id hash_kind.Sha1 (codes "blob") [] ≡ Sha1 (
    0xe6 ∷ 0x9d ∷ 0xe2 ∷ 0x9b ∷ 0xb2 ∷ 0xd1 ∷ 0xd6 ∷ 0x43 ∷ 0x4b ∷ 0x8b ∷ 0x29 ∷ 0xae ∷ 0x77 ∷ 0x5a ∷ 0xd8 ∷ 0xc2
    ∷ 0xe4 ∷ 0x8c ∷ 0x53 ∷ 0x91 ∷ [])
unfolding object_id digits one.first_words one.schedule one.rounds one.compress one.hash_after one.digest_bytes one.sha1
empty_blob_sha1 = refl

pub empty_tree_sha256 : object_id hash_kind.Sha256 (codes "tree") [] ≡ Sha256 (
    0x6e ∷ 0xf1 ∷ 0x9b ∷ 0x41 ∷ 0x22 ∷ 0x5c ∷ 0x53 ∷ 0x69 ∷ 0xf1 ∷ 0xc1 ∷ 0x04 ∷ 0xd4 ∷ 0x5d ∷ 0x8d ∷ 0x85 ∷ 0xef
    ∷ 0xa9 ∷ 0xb0 ∷ 0x57 ∷ 0xb5 ∷ 0x3b ∷ 0x14 ∷ 0xb4 ∷ 0xb9 ∷ 0xb9 ∷ 0x39 ∷ 0xdd ∷ 0x74 ∷ 0xde ∷ 0xcc ∷ 0x53 ∷ 0x21 ∷ [])
unfolding object_id digits two.first_words two.schedule two.rounds two.compress two.hash_after two.digest_bytes two.sha256
empty_tree_sha256 = refl

pub empty_blob_sha256 : object_id hash_kind.Sha256 (codes "blob") [] ≡ Sha256 (
    0x47 ∷ 0x3a ∷ 0x0f ∷ 0x4c ∷ 0x3b ∷ 0xe8 ∷ 0xa9 ∷ 0x36 ∷ 0x81 ∷ 0xa2 ∷ 0x67 ∷ 0xe3 ∷ 0xb1 ∷ 0xe9 ∷ 0xa7 ∷ 0xdc
    ∷ 0xda ∷ 0x11 ∷ 0x85 ∷ 0x43 ∷ 0x6f ∷ 0xe1 ∷ 0x41 ∷ 0xf7 ∷ 0x74 ∷ 0x91 ∷ 0x20 ∷ 0xa3 ∷ 0x03 ∷ 0x72 ∷ 0x18 ∷ 0x13 ∷ [])
unfolding object_id digits two.first_words two.schedule two.rounds two.compress two.hash_after two.digest_bytes two.sha256
empty_blob_sha256 = refl
