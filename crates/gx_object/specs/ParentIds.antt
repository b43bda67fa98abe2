-- The ids of a commit's parents, one after another.
use Rattle.std.specs.Prelude.{◌≡◌, ℕ, ◌⊎◌, ◌+◌, ◌-◌, List, [], ◌∷◌, length, codes, Option, Some, None, option_map}
use Rattle.std.specs.Option.{option_map_or}
use Rattle.gx_hash.specs.HashKind.{IsOfKind}
use Rattle.gx_hash.specs.ObjectId.{hex_of}
use Rattle.gx_hash.specs.declared.kind.HashKind.{HashKind}
use Rattle.gx_hash.specs.declared.oid.ObjectId.{ObjectId}
use Rattle.gx_object.specs.CommitLines.{IsNoIdLine, HasParents}
use Rattle.gx_object.specs.CommitItems.{HasIdLine}
use Rattle.gx_object.specs.CommitSpelling.{CommitText, SpellsCommit}
use Rattle.gx_object.specs.PartsRead.{PartsRead, left_of}

-- The lines in front are a tree and these parents, and no further parent follows them; without a tree there are none.
abbrev pub HasParentsInFront : HashKind → List ℕ → List (List ℕ) → Type 0
HasParentsInFront hash bytes parents =
    ((tree more rest : List ℕ) × HasIdLine hash (codes "tree ") bytes tree more × HasParents hash more parents rest)
    ⊎ (IsNoIdLine hash (codes "tree ") bytes × (parents ≡ []))

-- the id of the first parent that is left, and after the last nothing
abbrev pub IsNextParent : HashKind → List (List ℕ) → Option ObjectId → Type 0
IsNextParent hash (parent ∷ left) (Some id) = (hex_of id ≡ parent) × IsOfKind hash id
IsNextParent hash [] None = Unit {0}
IsNextParent hash left item = ⊥

-- how many parents were given after a call
abbrev pub given_after : Option ℕ → Option ObjectId → Option ℕ
given_after given (Some id) = option_map (λ n. n + 1) given
given_after given None = given

-- What a call of the iterator gives: of a commit, the next of its parents, and of all bytes, the next of those whose
-- lines are in front.
pub record GivesParent (old : PartsRead) (item : Option ObjectId) (new : PartsRead) : Type 0 where
  pub same : new.text ≡ old.text
  pub count : new.given ≡ given_after old.given item
  pub commit : (c : CommitText) → SpellsCommit old.text.hash old.text.bytes c
      → IsNextParent old.text.hash (left_of old.given c.parents) item
  pub front : (parents : List (List ℕ)) → HasParentsInFront old.text.hash old.text.bytes parents
      → IsNextParent old.text.hash (left_of old.given parents) item

-- No more ids come than bytes are left.
abbrev pub ids_left : PartsRead → ℕ
ids_left read = option_map_or (λ n. length read.text.bytes - n) read.given 0
