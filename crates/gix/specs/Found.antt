-- For the private functions alone: what is found at names that are read one by one.
use Rattle.std.specs.Prelude.{◌≡◌, ◌⊎◌, ℕ, List, [], ◌∷◌, Option, None, IfSome}
use Rattle.std.specs.FinMap.{get}
use Rattle.gx_hash.specs.declared.kind.HashKind.{HashKind}
use Rattle.gx_store.specs.Kinds.{IsTargetOfKind}
use Rattle.gx_store.specs.State.{RefState}
use Rattle.gx_refs.specs.Finding.{IsReference}
use Rattle.gx_refs.specs.Shown.{stored_name}
use Rattle.gx_refs.specs.declared.reference.Reference.{Reference}

-- The reference of the name was found, and its id is of the kind.
pub record IsFound (space : List ℕ) (hash : HashKind) (told : Option RefState) (name : List ℕ)
    (reference : Reference) : Type 0 where
  pub is : IsReference space told name reference
  pub kind : IsTargetOfKind hash reference.target

-- At each name either its reference was found, or there is none.
abbrev pub AreFound : List ℕ → HashKind → Option RefState → List (List ℕ) → List Reference → Type 0
AreFound space hash told [] list = list ≡ []
AreFound space hash told (name ∷ names) list =
    ((reference : Reference) × (rest : List Reference) × IsFound space hash told name reference
    × (list ≡ reference ∷ rest) × AreFound space hash told names rest)
    ⊎ (IfSome told (λ refs. get refs.targets (stored_name space name) ≡ None) × AreFound space hash told names list)
