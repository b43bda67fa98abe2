-- What a store of objects holds, and what writing adds to it.
use Rattle.std.specs.Prelude.{◌≡◌, ◌≢◌, ℕ, List, [], ◌∷◌, Option, Some, None, IsSome, IfSome, if◌then◌else◌}
use Rattle.std.specs.Option.{option_or}
use Rattle.std.specs.List.{AllByRecursion}
use Rattle.std.specs.FinMap.{FinMap, get, insert, contains_key}
use Rattle.gx_hash.specs.HashKind.{kind_of}
use Rattle.gx_hash.specs.ObjectId.{object_id, id_cmp, null_id, empty_tree_id}
use Rattle.gx_hash.specs.declared.kind.HashKind.{HashKind}
use Rattle.gx_hash.specs.declared.oid.ObjectId.{ObjectId}
use Rattle.gx_hash.specs.ObjectIds.{id_eq}
use Rattle.gx_object.specs.Kind.{kind_name}
use Rattle.gx_object.specs.declared.kind.Kind.{Kind}
use Rattle.gx_object.specs.declared.kind.Kind.TheVariants.{Tree}

-- A store of objects is a map from ids to kinds and bytes. (Git, "Git Internals - Git Objects")
abbrev pub Content : Type 0
Content = FinMap id_cmp (Kind × List ℕ)

-- The empty tree counts as stored everywhere, whether or not it was written. (Git, object-file.c, "cached objects")
abbrev pub lookup : Content → ObjectId → Option (Kind × List ℕ)
lookup content id = option_or (get content id) (if id_eq id (empty_tree_id (kind_of id)) then Some (Tree, []) else None)

-- An object is there where the look-up finds one.
abbrev pub IsStored : Content → ObjectId → Type 0
IsStored content id = IsSome (lookup content id)

-- the id that an object is stored under
abbrev pub id_of : HashKind → Kind × List ℕ → ObjectId
id_of hash object = object_id hash (kind_name object.0) object.1

-- Each of the objects is found at its id.
abbrev pub HoldsAll : HashKind → List (Kind × List ℕ) → Content → Type 0
HoldsAll hash objects content = AllByRecursion (λ object. lookup content (id_of hash object) ≡ Some object) objects

-- A store keeps what it has: an object whose id is there is not written again. (gitglossary(7), "object")
abbrev pub with_object : ObjectId → Kind × List ℕ → Content → Content
with_object id object content = if contains_key content id then content else insert content id object

-- the content after objects are written in order, each under its id
abbrev pub with_objects : HashKind → List (Kind × List ℕ) → Content → Content
with_objects hash [] content = content
with_objects hash (object ∷ objects) content =
    with_objects hash objects (with_object (id_of hash object) object content)

-- the first of the objects that has the id
abbrev pub object_at : HashKind → List (Kind × List ℕ) → ObjectId → Option (Kind × List ℕ)
object_at hash [] id = None
object_at hash (object ∷ objects) id =
    if id_eq (id_of hash object) id then Some object else object_at hash objects id

-- At each id there is what was there, or else the first of the objects with that id.
abbrev pub Adds : HashKind → List (Kind × List ℕ) → Content → Content → Type 0
Adds hash objects old new = (id : ObjectId) → get new id ≡ option_or (get old id) (object_at hash objects id)

-- Of objects with one id each is the same.
abbrev pub AreOfOwnIds : HashKind → List (Kind × List ℕ) → Type 0
AreOfOwnIds hash [] = Unit {0}
AreOfOwnIds hash (object ∷ objects) =
    AllByRecursion (λ other. id_of hash other ≡ id_of hash object → other ≡ object) objects
    × AreOfOwnIds hash objects

-- Git relies on no two objects sharing a digest, and on none having the null id. This says it of some objects and a
-- content.
-- (hash-function-transition, "Background")
pub record AreApart (hash : HashKind) (content : Content) (objects : List (Kind × List ℕ)) : Type 0 where
  pub named : AllByRecursion (λ object. id_of hash object ≢ null_id hash) objects
  pub own : AreOfOwnIds hash objects
  pub agreed : AllByRecursion (λ object. IfSome (lookup content (id_of hash object)) (λ there. there ≡ object)) objects
