-- The ids of a tree are of the kind that they were read in.
use Rattle.std.proofs.Common.{◌≡◌, refl, subst, map, Bool, true, false, if◌then◌else◌, ◌==◌, ℕ, List, [], ◌∷◌, length, Some, None}
use Rattle.std.specs.List.{AllByRecursion, AllZip}
use Rattle.gx_hash.specs.HashKind.{IsOfKind}
use Rattle.gx_hash.specs.ObjectId.{id_from_bytes}
use Rattle.gx_hash.specs.declared.kind.HashKind.{HashKind}
use Rattle.gx_hash.specs.declared.kind.HashKind.TheVariants as hash_kind
use Rattle.gx_hash.specs.declared.oid.ObjectId.{ObjectId}
use Rattle.gx_hash.specs.declared.oid.ObjectId.TheVariants.{Sha1, Sha256}
use Rattle.gx_object.specs.declared.tree.decode.EntryRef.{EntryRef}
use Rattle.gx_object.specs.TreeSpelling.{entry_of, SpellsEntry, SpellsTree}

chosen : (test : Bool) (id other : ObjectId) → (if test then Some id else None) ≡ Some other → id ≡ other
chosen true id other e = cc
chosen false id other e = absurd (cc)

pub id_kind : (hash : HashKind) (bytes : List ℕ) (id : ObjectId) → id_from_bytes hash bytes ≡ Some id → IsOfKind hash id
id_kind hash_kind.Sha1 bytes id e = subst (IsOfKind hash_kind.Sha1) (chosen (length bytes == 20) (Sha1 bytes) id e) refl
id_kind hash_kind.Sha256 bytes id e = subst (IsOfKind hash_kind.Sha256) (chosen (length bytes == 32) (Sha256 bytes) id e) refl

each_kind : (hash : HashKind) (parts : List (List ℕ)) (entries : List EntryRef) → AllZip (SpellsEntry hash) parts (map entry_of entries) → AllByRecursion (λ e. IsOfKind hash e.oid) entries
each_kind hash parts [] p = tt
each_kind hash [] (e ∷ es) p = absurd p
each_kind hash (t ∷ ts) (e ∷ es) p = (id_kind hash p.0.id e.oid p.0.oid, each_kind hash ts es p.1)

pub tree_kind : (hash : HashKind) (bytes : List ℕ) (entries : List EntryRef) → SpellsTree hash bytes (map entry_of entries) → AllByRecursion (λ e. IsOfKind hash e.oid) entries
tree_kind hash bytes entries s = each_kind hash s.0 entries s.2
