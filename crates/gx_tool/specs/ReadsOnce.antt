-- What the laws of a run ask of the language.
use Rattle.std.specs.Prelude.{◌≡◌, ℕ, List, [], ◌++◌, Option}
use Rattle.std.specs.List.{flat_map, AllByRecursion}
use Rattle.gx_hash.specs.declared.kind.HashKind.{HashKind}
use Rattle.gx_store.specs.Outside.{IsEnd}
use Rattle.gx_script.specs.declared.request.Request.{Request}
use Rattle.gx_script.specs.Laws.{HasNoRequest}
use Rattle.gx_script.specs.Script.{IsRequest, IsBad}
use Rattle.gx_script.specs.Spelling.{spelling}

-- Bytes that go wrong have no whole request at their front, nor have no bytes, and a script is read in one way.
pub record ReadsOnce : Type 0 where
  pub bad : (hash : HashKind) (bytes : List ℕ) (left : Option (List ℕ)) (newlines : ℕ)
      → IsBad hash bytes (IsEnd left) newlines → HasNoRequest hash bytes
  pub nothing : (hash : HashKind) → HasNoRequest hash []
  pub one : (hash : HashKind) (rs qs : List Request) (a b : List ℕ) → AllByRecursion (IsRequest hash) rs
      → AllByRecursion (IsRequest hash) qs → HasNoRequest hash a → HasNoRequest hash b
      → flat_map spelling rs ++ a ≡ flat_map spelling qs ++ b → (rs ≡ qs) × (a ≡ b)
