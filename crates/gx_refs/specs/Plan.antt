-- What an edit meets: the way of its name, the names that it touches, and what it finds there.
use Rattle.std.specs.Prelude.{◌≡◌, ◌⊎◌, ℕ, Bool, true, false, List, [], ◌∷◌, ◌++◌, map, Option, Some, None, IfSome}
use Rattle.std.specs.List.{flat_map, AllByRecursion, AllZip}
use Rattle.std.specs.FinMap.{get}
use Rattle.gx_store.specs.Conflict.{Conflict, IsFree}
use Rattle.gx_store.specs.State.{RefState}
use Rattle.gx_store.specs.declared.target.Target.{Target}
use Rattle.gx_refs.specs.Chain.{is_among, IsChain, IsEnd, EndsIn}
use Rattle.gx_refs.specs.Shown.{stored_name, stored_target, IsShown, IsShownFound}
use Rattle.gx_refs.specs.declared.edit.PreviousValue.{PreviousValue}
use Rattle.gx_refs.specs.declared.edit.PreviousValue.TheVariants.{Any, MustExist, MustNotExist, MustExistAndMatch, ExistingMustMatch}
use Rattle.gx_refs.specs.declared.edit.RefLog.{RefLog}
use Rattle.gx_refs.specs.declared.edit.RefLog.TheVariants.{AndReference, Only}
use Rattle.gx_refs.specs.declared.edit.Change.{Change}
use Rattle.gx_refs.specs.declared.edit.Change.TheVariants.{Update, Delete}
use Rattle.gx_refs.specs.declared.edit.RefEdit.{RefEdit}
use Rattle.gx_refs.specs.declared.plan.Place.{Place}
use Rattle.gx_refs.specs.declared.plan.Way.{Way}
use Rattle.gx_refs.specs.declared.plan.Plan.{Plan}

-- the places of a way, the end last
abbrev pub places_of : Way → List Place
places_of way = way.before ++ way.end ∷ []

-- the names that the places are stored under
abbrev pub stored_names : List Place → List (List ℕ)
stored_names places = map (λ (place : Place). place.name) places

-- the stored names of a way
abbrev pub names_of : Way → List (List ℕ)
names_of way = stored_names (places_of way)

-- it goes along these names, to what was found at the last
abbrev pub GoesAlong : List (List ℕ) → Option Target → Way → Type 0
GoesAlong names found way = (names_of way ≡ names) × (way.found ≡ found)

-- An edit with `deref` goes along the chain of its name. (git-update-ref(1): symbolic references are followed)
pub record FollowsChain (told : Option RefState) (name : List ℕ) (way : Way) : Type 0 where
  pub chain : IsChain name (names_of way)
  pub stops : IsEnd way.found
  pub ends : IfSome told (λ refs. EndsIn refs.targets name (names_of way) way.end.name way.found)

-- One without it stays at its name. (git-update-ref(1), "--no-deref")
pub record StaysAtName (told : Option RefState) (name : List ℕ) (way : Way) : Type 0 where
  pub alone : way.before ≡ []
  pub end : way.end.name ≡ name
  pub is : IfSome told (λ refs. way.found ≡ get refs.targets name)

-- it is the way of the name, which is followed or not
abbrev pub IsWay : Option RefState → Bool → List ℕ → Way → Type 0
IsWay told true name way = FollowsChain told name way
IsWay told false name way = StaysAtName told name way

-- they are the places of these names
abbrev pub ArePlaces : List ℕ → List (List ℕ) → List Place → Type 0
ArePlaces space names places =
    AllZip (λ name (place : Place). (place.name ≡ name) × IsShown space name place.shown) names places

-- The names of a way, and what is found at its end, are known as they are shown too.
pub record KnowsShown (space : List ℕ) (way : Way) : Type 0 where
  pub places : ArePlaces space (names_of way) (places_of way)
  pub target : IsShownFound space way.found way.shown

-- an edit with its way
pub record IsPlan (space : List ℕ) (told : Option RefState) (edit : RefEdit) (plan : Plan) : Type 0 where
  pub of_edit : plan.edit ≡ edit
  pub way : IsWay told edit.deref (stored_name space edit.name) plan.way
  pub shown : KnowsShown space plan.way

-- each edit with its way, in order
abbrev pub ArePlans : List ℕ → Option RefState → List RefEdit → List Plan → Type 0
ArePlans space told edits plans = AllZip (IsPlan space told) edits plans

-- ---- touched names

-- the places of a way that a change touches
abbrev pub touched_by : Change → Way → List Place
touched_by (Update log expected new) way = places_of way
touched_by (Delete expected log) way = way.end ∷ []

-- An update touches each name of its way, and a deletion the end alone. (git-update-ref(1), "Logging updates")
abbrev pub touched : Plan → List Place
touched plan = touched_by plan.edit.change plan.way

-- their stored names
abbrev pub touched_names : Plan → List (List ℕ)
touched_names plan = stored_names (touched plan)

-- a place, with the plan that touches it
pub record Touch : Type 0 where
  pub plan : Plan
  pub place : Place

-- the plan touches each of the places
abbrev pub touches_at : Plan → List Place → List Touch
touches_at plan places = map (λ place. record { plan = plan; place = place }) places

-- the touches of one plan
abbrev pub touches_of : Plan → List Touch
touches_of plan = touches_at plan (touched plan)

-- all that edits touch, in their order and along each way
abbrev pub touches : List Plan → List Touch
touches plans = flat_map touches_of plans

-- ---- what is expected

-- what a change expects to be there
abbrev pub expected_of : Change → PreviousValue
expected_of (Update log expected new) = expected
expected_of (Delete expected log) = expected

-- What is found at the end is what the edit expects; targets are compared whole. (git-update-ref(1), "<old-oid>")
abbrev pub IsMet : List ℕ → PreviousValue → Option Target → Type 0
IsMet space Any found = Unit {0}
IsMet space MustExist None = ⊥
IsMet space MustExist (Some actual) = Unit {0}
IsMet space MustNotExist found = found ≡ None
IsMet space (MustExistAndMatch wanted) found = found ≡ Some (stored_target space wanted)
IsMet space (ExistingMustMatch wanted) None = Unit {0}
IsMet space (ExistingMustMatch wanted) (Some actual) = actual ≡ stored_target space wanted

-- ---- names that are made

-- an edit of the log alone makes no reference
abbrev pub makes_reference : RefLog → Bool
makes_reference AndReference = true
makes_reference Only = false

-- an update makes a reference where none was found
abbrev pub makes_by : Change → Option Target → Bool
makes_by (Update log expected new) (Some actual) = false
makes_by (Update log expected new) None = makes_reference log.mode
makes_by (Delete expected log) found = false

-- An update makes the reference at its end where that is absent, unless it is of the log alone.
abbrev pub makes : Plan → Bool
makes plan = makes_by plan.edit.change plan.way.found

-- ---- edits beside one another

-- The name is on the way of one edit, and the other touches it.
abbrev pub Share : Plan → Plan → List ℕ → Type 0
Share one other name =
    ((is_among name (names_of one.way) ≡ true) × (is_among name (touched_names other) ≡ true))
    ⊎ ((is_among name (touched_names one) ≡ true) × (is_among name (names_of other.way) ≡ true))

-- No two edits of a list share a name. (Git, refs.c, "multiple updates for ref")
abbrev pub ShareNone : List Plan → Type 0
ShareNone [] = Unit {0}
ShareNone (plan ∷ plans) = AllByRecursion (λ other. (name : List ℕ) → ¬ Share plan other name) plans × ShareNone plans

-- The name that an edit makes conflicts with no stored name, also one that the list deletes, and with no other name
-- that the list makes. (Git, refs.c, "refs_verify_refname_available")
pub record HasRoom (told : Option RefState) (plans : List Plan) (plan : Plan) : Type 0 where
  pub stored : IfSome told (λ refs. IsFree refs.targets plan.way.end.name)
  pub made : AllByRecursion (λ other. makes other ≡ true → ¬ Conflict plan.way.end.name other.way.end.name) plans
