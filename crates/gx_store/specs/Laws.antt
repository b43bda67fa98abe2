-- Laws of what is stored and of what changes make.
use Rattle.std.specs.Prelude.{◌≡◌, ◌≢◌, ℕ, ◌≤◌, ◌<◌, List, ◌++◌, length, take, Some, IfSome, IsTrue}
use Rattle.std.specs.List.{AllByRecursion}
use Rattle.std.specs.FinMap.{get, contains_key}
use Rattle.gx_hash.specs.declared.kind.HashKind.{HashKind}
use Rattle.gx_hash.specs.declared.oid.ObjectId.{ObjectId}
use Rattle.gx_hash.specs.ObjectId.{hex_of}
use Rattle.gx_object.specs.declared.kind.Kind.{Kind}
use Rattle.gx_store.specs.Content.{Content, lookup, with_objects, HoldsAll, Adds, AreApart}
use Rattle.gx_store.specs.Sharing.{IsAnother, shared_digits}
use Rattle.gx_store.specs.State.{StoreState, RefState, Becomes, HasCause, stored, all_stored}
use Rattle.gx_store.specs.Change.{target_after, log_after, refs_after, applied, HaveDistinctNames, AfterFault}
use Rattle.gx_store.specs.declared.change.RefChange.{RefChange}
use Rattle.gx_store.specs.declared.error.What.{What}

-- Writing an object whose id is there changes nothing.
abbrev pub WritesOnce : Type 0
WritesOnce =
    (id : ObjectId) (object : Kind × List ℕ) (state : StoreState)
    → IfSome state.content (λ content. IsTrue (contains_key content id)) → stored id object state ≡ state

-- Writing objects adds them, and keeps what was there.
abbrev pub WritingAdds : Type 0
WritingAdds =
    (hash : HashKind) (objects : List (Kind × List ℕ)) (content : Content)
    → Adds hash objects content (with_objects hash objects content)

-- What is added by one after the other is added together.
abbrev pub AddsTogether : Type 0
AddsTogether =
    (hash : HashKind) (first second : List (Kind × List ℕ)) (old middle new : Content) → Adds hash first old middle
    → Adds hash second middle new → Adds hash (first ++ second) old new

-- Objects that share no digest are all found once they were added.
abbrev pub AddedIsFound : Type 0
AddedIsFound =
    (hash : HashKind) (objects : List (Kind × List ℕ)) (old new : Content) → AreApart hash old objects
    → Adds hash objects old new → HoldsAll hash objects new

-- What is found stays found, as it is.
abbrev pub FoundStays : Type 0
FoundStays =
    (hash : HashKind) (objects : List (Kind × List ℕ)) (old new : Content) → AreApart hash old objects
    → Adds hash objects old new → (id : ObjectId) → IfSome (lookup old id) (λ object. lookup new id ≡ Some object)

-- What is stored under an id stays under it, whatever is added.
abbrev pub StoredStays : Type 0
StoredStays =
    (hash : HashKind) (objects : List (Kind × List ℕ)) (old new : Content) → Adds hash objects old new
    → (id : ObjectId) (object : Kind × List ℕ) → get old id ≡ Some object → get new id ≡ Some object

-- Two ids share as many first digits as they begin with alike.
abbrev pub SharesPrefix : Type 0
SharesPrefix =
    (a b : ObjectId) (n : ℕ) → n ≤ length (hex_of a) → take n (hex_of a) ≡ take n (hex_of b) → n ≤ shared_digits a b

-- They begin alike as far as they share digits.
abbrev pub BeginsAlike : Type 0
BeginsAlike = (a b : ObjectId) (n : ℕ) → n ≤ shared_digits a b → take n (hex_of a) ≡ take n (hex_of b)

-- Another id of a store does not share all digits.
abbrev pub SharesLess : ObjectId → Type 0
SharesLess id =
    (content : Content) (other : ObjectId) → IsAnother content id other
    → shared_digits id other < length (hex_of id)

-- A name that no change names keeps its target and its log.
abbrev pub OthersAreKept : Type 0
OthersAreKept =
    (changes : List RefChange) (refs : RefState) (name : List ℕ)
    → AllByRecursion (λ change. change.name ≢ name) changes
    → (get (refs_after changes refs).targets name ≡ get refs.targets name)
    × (get (refs_after changes refs).logs name ≡ get refs.logs name)

-- Of changes with distinct names each is made.
abbrev pub EachIsMade : Type 0
EachIsMade =
    (changes : List RefChange) (refs : RefState) → HaveDistinctNames changes
    → AllByRecursion (λ change.
    (get (refs_after changes refs).targets change.name
    ≡ target_after change.target (get refs.targets change.name))
    × (get (refs_after changes refs).logs change.name ≡ log_after change.log (get refs.logs change.name)))
    changes

-- ---- what becomes of a state that has become what was wanted

-- A state that stays as it is stays what was wanted.
abbrev pub SameAfter : Type 0
SameAfter = (wanted middle new : StoreState) → Becomes wanted middle → Becomes middle new → Becomes wanted new

-- Changes make of it what they make of what was wanted.
abbrev pub AppliedAfter : Type 0
AppliedAfter =
    (changes : List RefChange) (wanted middle new : StoreState) → Becomes wanted middle
    → Becomes (applied changes middle) new → Becomes (applied changes wanted) new

-- So do objects that are written.
abbrev pub StoredAfter : Type 0
StoredAfter =
    (objects : List (Kind × List ℕ)) (wanted middle new : StoreState) → Becomes wanted middle
    → Becomes (all_stored objects middle) new → Becomes (all_stored objects wanted) new

-- A fault that was counted since it was counted since what was wanted.
abbrev pub CauseAfter : Type 0
CauseAfter =
    (wanted middle new : StoreState) (fault : What) → Becomes wanted middle → HasCause middle new fault
    → HasCause wanted new fault

-- What a fault of changes leaves of it is left of what was wanted.
abbrev pub FaultAfter : Type 0
FaultAfter =
    (changes : List RefChange) (wanted middle new : StoreState) → Becomes wanted middle
    → AfterFault changes middle new → AfterFault changes wanted new
