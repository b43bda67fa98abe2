-- What the plain program needs of directories: a measure, a code that tells them apart, and what it tests of them.
use Rattle.std.specs.Prelude.{◌≡◌, ℕ, ◌+◌, ◌⊎◌, if◌then◌else◌, List, [], ◌∷◌, ◌++◌, Some, refl, bytes_eq}
use Rattle.std.specs.Coded.{Coded, code_by, coded_ℕ, coded_list, coded×, coded⊎}
use Rattle.std.proofs.Common.{inl, inr}
use base.Stored.{Gv}
use base.Stored.Gv.{gnil, gcons}
use Rattle.gx_hash.specs.declared.oid.ObjectId.{ObjectId}
use Rattle.gx_hash.specs.declared.oid.ObjectId.TheVariants.{Sha1, Sha256}
use Rattle.gx_edit.specs.declared.leaf.Leaf.{Leaf}
use Rattle.std.specs.List.{AllByRecursion}
use Rattle.gx_edit.specs.declared.path_edit.PathEdit.{PathEdit}
use Rattle.gx_edit.specs.Path.{Path, components}
use Rattle.gx_edit.specs.PathMap.{PathMap, path_of}
use Rattle.gx_edit.specs.CanonicalTree.{Directory, leaf_at}
use Rattle.gx_edit.specs.CanonicalTree.Directory.{End, File, Sub}

-- how many entries a directory has, with those of the directories below it
abbrev pub entry_count : Directory → ℕ
entry_count End = 0
entry_count (File n leaf rest) = entry_count rest + 1
entry_count (Sub n inner rest) = entry_count inner + entry_count rest + 1

-- an id as the bytes of one of its two kinds
abbrev pub id_parts : ObjectId → List ℕ ⊎ List ℕ
id_parts (Sha1 bytes) = inl bytes
id_parts (Sha256 bytes) = inr bytes

-- the id of the parts
abbrev pub id_of_parts : List ℕ ⊎ List ℕ → ObjectId
id_of_parts (inl bytes) = Sha1 bytes
id_of_parts (inr bytes) = Sha256 bytes

pub id_of_parts-id_parts : (id : ObjectId) → id_of_parts (id_parts id) ≡ id
id_of_parts-id_parts (Sha1 bytes) = refl
id_of_parts-id_parts (Sha256 bytes) = refl

-- how names are coded as trees
abbrev pub name_code : Coded (List ℕ)
name_code = coded_list coded_ℕ

-- how ids are, by their parts
abbrev pub id_code : Coded ObjectId
id_code = code_by (List ℕ ⊎ List ℕ) (coded⊎ name_code name_code) id_parts id_of_parts id_of_parts-id_parts

-- how leaves are, by their mode and id
abbrev pub leaf_code : Coded Leaf
leaf_code =
    code_by (ℕ × ObjectId) (coded× coded_ℕ id_code) (λ leaf. (leaf.mode.value, leaf.id))
    (λ p. record { mode = record { value = p.0 }; id = p.1 }) (λ _. refl)

-- a directory as a tree of its names and leaves
abbrev pub code_of : Directory → Gv
code_of End = gnil
code_of (File n leaf rest) = gcons gnil (gcons (name_code.code n) (gcons (leaf_code.code leaf) (code_of rest)))
code_of (Sub n inner rest) = gcons (gcons gnil gnil) (gcons (name_code.code n) (gcons (code_of inner) (code_of rest)))

pub code_of-injective : (d e : Directory) → code_of d ≡ code_of e → d ≡ e
code_of-injective End End h = refl
code_of-injective End (File m y s) h = cc
code_of-injective End (Sub m j s) h = cc
code_of-injective (File n x r) End h = cc
code_of-injective (File n x r) (File m y s) h =
    let names : n ≡ m = name_code.inj n m (cc) in
    let leaves : x ≡ y = leaf_code.inj x y (cc) in
    let rests : r ≡ s = code_of-injective r s (cc) in
    cc
code_of-injective (File n x r) (Sub m j s) h = cc
code_of-injective (Sub n i r) End h = cc
code_of-injective (Sub n i r) (File m y s) h = cc
code_of-injective (Sub n i r) (Sub m j s) h =
    let names : n ≡ m = name_code.inj n m (cc) in
    let inners : i ≡ j = code_of-injective i j (cc) in
    let rests : r ≡ s = code_of-injective r s (cc) in
    cc

-- how directories are: no two have the same tree
abbrev pub directory_code : Coded Directory
directory_code = record { code = code_of; inj = code_of-injective }

-- Each leaf of a directory that stands at the path stands in the map too.
abbrev pub StandsIn : PathMap → Path → Directory → Type 0
StandsIn m above directory = (p : Path) (leaf : Leaf) → leaf_at directory p ≡ Some leaf → m (above ++ p) ≡ Some leaf

-- The directory has at the path of each edit what the map has there.
abbrev pub AgreesAt : PathMap → Directory → List PathEdit → Type 0
AgreesAt m directory edits =
    AllByRecursion (λ edit. leaf_at directory (components (path_of edit)) ≡ m (components (path_of edit))) edits

-- what a directory has below its first entry, where that is a directory of the name
abbrev pub first_inner : List ℕ → Directory → Directory
first_inner n End = End
first_inner n (File m leaf rest) = End
first_inner n (Sub m inner rest) = if bytes_eq m n then inner else End

-- a directory without its first entry, where that is a directory of the name
abbrev pub without_first : List ℕ → Directory → Directory
without_first n End = End
without_first n (File m leaf rest) = File m leaf rest
without_first n (Sub m inner rest) = if bytes_eq m n then rest else Sub m inner rest

-- A directory with a leaf more, before all others: in its first entry, where that is a directory of the first name.
abbrev pub with_first_leaf : Path → Leaf → Directory → Directory
with_first_leaf [] leaf d = d
with_first_leaf (n ∷ []) leaf d = File n leaf d
with_first_leaf (n ∷ c ∷ p) leaf d = Sub n (with_first_leaf (c ∷ p) leaf (first_inner n d)) (without_first n d)
