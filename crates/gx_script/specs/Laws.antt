-- What the laws of the language speak of.
use Rattle.std.specs.Prelude.{◌≡◌, ℕ, List, ◌++◌}
use Rattle.gx_hash.specs.declared.kind.HashKind.{HashKind}
use Rattle.gx_script.specs.declared.request.Request.{Request}
use Rattle.gx_script.specs.Script.{IsRequest}
use Rattle.gx_script.specs.Spelling.{spelling}

-- The bytes have no whole request at their front.
abbrev pub HasNoRequest : HashKind → List ℕ → Type 0
HasNoRequest hash bytes = (request : Request) (rest : List ℕ) → IsRequest hash request
    → bytes ≡ spelling request ++ rest → ⊥
