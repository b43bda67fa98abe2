-- What the definitions of found and written objects say of one another.
use Rattle.std.specs.Prelude.{◌≡◌, ℕ, List}
use Rattle.gx_hash.specs.declared.oid.ObjectId.{ObjectId}
use Rattle.gx_object.specs.declared.kind.Kind.{Kind}
use Rattle.gx_store.specs.State.{StoreState, Becomes}
use Rattle.gix.specs.Held.{WhereTold}
use Rattle.gix.specs.Writes.{AcceptsObject, Stores}

-- An object that was written is stored, where the store tells its state.
abbrev pub WrittenIsStored : Type 0
WrittenIsStored =
    (object : Kind × List ℕ) (old new : StoreState) (id : ObjectId) → Stores object old id new
    → WhereTold (λ before after. AcceptsObject object before id after) old new

-- An object that is written a second time has the same id, and nothing but a count of faults changes.
abbrev pub WritesTwice : Type 0
WritesTwice =
    (object : Kind × List ℕ) (old middle new : StoreState) (first second : ObjectId) → Stores object old first middle
    → Stores object middle second new → (second ≡ first) × Becomes middle new
