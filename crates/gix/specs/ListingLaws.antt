-- What listings of references say of one another.
use Rattle.std.specs.Prelude.{◌≡◌, ℕ, List}
use Rattle.std.specs.FinMap.{get}
use Rattle.gx_rules.specs.Name.{IsFullName}
use Rattle.gx_store.specs.State.{RefState}
use Rattle.gx_refs.specs.Shown.{stored_name}
use Rattle.gx_refs.specs.declared.reference.Reference.{Reference}
use Rattle.gix.specs.References.{AreReferences}

-- A listing goes by the references of its namespace and by nothing else: where two stores have the same of these, with
-- the same targets, both have the same list. (gitnamespaces(7))
abbrev pub ListsItsOwnReferences : Type 0
ListsItsOwnReferences =
    (space prefix : List ℕ) (one other : RefState) (list others : List Reference)
    → ((name : List ℕ) → IsFullName name
    → get one.targets (stored_name space name) ≡ get other.targets (stored_name space name))
    → AreReferences space prefix one list → AreReferences space prefix other others → list ≡ others
