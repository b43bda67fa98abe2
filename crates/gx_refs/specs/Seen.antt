-- For the private functions alone: the names of a list of edits that were seen so far, and the names that are made.
use Rattle.std.specs.Prelude.{◌≡◌, ◌⊎◌, ℕ, false, true, List, [], ◌∷◌, ◌++◌, Option, None, Some, IfSome, IsSome, IsTrue, Contains}
use Rattle.std.specs.List.{AllByRecursion}
use Rattle.std.specs.BTreeMap.{BTreeMap, get}
use Rattle.std.specs.BTreeSet.{BTreeSet, contains}
use Rattle.std.specs.FinMap as finite
use Rattle.gx_rules.specs.Name.{name_cmp}
use Rattle.gx_store.specs.Conflict.{IsProperPrefix, Conflict, IsFree}
use Rattle.gx_store.specs.State.{StoreState, RefState}
use Rattle.gx_store.specs.declared.error.What.TheVariants as what
use Rattle.gx_refs.specs.Chain.{is_among, AreDistinct}
use Rattle.gx_refs.specs.Plan.{places_of, names_of, stored_names, makes, Share}
use Rattle.gx_refs.specs.Shown.{IsShown}
use Rattle.gx_refs.specs.declared.edit.Change.{Change}
use Rattle.gx_refs.specs.declared.edit.Change.TheVariants.{Update, Delete}
use Rattle.gx_refs.specs.declared.error.RefError.{RefError}
use Rattle.gx_refs.specs.declared.error.RefError.TheVariants.{DuplicateEdit, NameConflict, Store, NoMemory}
use Rattle.gx_refs.specs.declared.plan.Place.{Place}
use Rattle.gx_refs.specs.declared.plan.Way.{Way}
use Rattle.gx_refs.specs.declared.plan.Plan.{Plan}

-- The set has just these names, of which none stands twice.
pub record HasSeen (seen : BTreeSet (List ℕ)) (names : List (List ℕ)) : Type 0 where
  pub each : (name : List ℕ) → contains name_cmp seen name ≡ is_among name names
  pub distinct : AreDistinct names

-- none of the names is among the others
abbrev pub AreNew : List (List ℕ) → List (List ℕ) → Type 0
AreNew others names = AllByRecursion (λ name. is_among name others ≡ false) names

-- the places of a way that a change does not touch
abbrev pub passed_by : Change → Way → List Place
passed_by (Update log expected new) way = []
passed_by (Delete expected log) way = way.before

-- the places on the way of an edit that it does not touch
abbrev pub passed : Plan → List Place
passed plan = passed_by plan.edit.change plan.way

-- their stored names
abbrev pub passed_names : Plan → List (List ℕ)
passed_names plan = stored_names (passed plan)

-- ---- refusals

-- the place, whose name is among these, is refused
abbrev pub IsTwice : List (List ℕ) → Place → RefError → Type 0
IsTwice names place (DuplicateEdit name) = (name ≡ place.shown) × (is_among place.name names ≡ true)
IsTwice names place NoMemory = Unit {0}
IsTwice names place error = ⊥

-- one of the places is
abbrev pub TwiceAmong : List (List ℕ) → List Place → RefError → Type 0
TwiceAmong names places (DuplicateEdit name) =
    (place : Place) × Contains places place × IsTwice names place (DuplicateEdit name)
TwiceAmong names places NoMemory = Unit {0}
TwiceAmong names places error = ⊥

-- no way has a name twice
abbrev pub HaveDistinctWays : List Plan → Type 0
HaveDistinctWays plans = AllByRecursion (λ (plan : Plan). AreDistinct (names_of plan.way)) plans

-- two of the plans, an earlier and a later one, meet at a place on the way of one of them
pub record Meet (plans : List Plan) (name : List ℕ) : Type 0 where
  pub before : List Plan
  pub one : Plan
  pub between : List Plan
  pub other : Plan
  pub after : List Plan
  pub split : plans ≡ before ++ one ∷ between ++ other ∷ after
  pub place : Place
  pub on_way : Contains (places_of one.way) place ⊎ Contains (places_of other.way) place
  pub shown : name ≡ place.shown
  pub shared : Share one other place.name

-- Why the plans are refused for names that they share.
abbrev pub SharedCauses : List Plan → RefError → Type 0
SharedCauses plans (DuplicateEdit name) = Meet plans name
SharedCauses plans NoMemory = Unit {0}
SharedCauses plans error = ⊥

-- ---- names that are made

-- the shown name of a made one
abbrev pub made_get : BTreeMap (List ℕ) (List ℕ) → List ℕ → Option (List ℕ)
made_get made name = get name_cmp made name

-- one of the plans makes the name, which is shown so
pub record IsMadeBy (plans : List Plan) (name shown : List ℕ) : Type 0 where
  pub plan : Plan
  pub among : Contains plans plan
  pub made : makes plan ≡ true
  pub named : plan.way.end.name ≡ name
  pub is_shown : plan.way.end.shown ≡ shown

-- The map has the names that the plans make, each with the name that it is shown by.
pub record HasMade (made : BTreeMap (List ℕ) (List ℕ)) (plans : List Plan) : Type 0 where
  pub each : (name : List ℕ) → IfSome (made_get made name) (IsMadeBy plans name)
  pub all : AllByRecursion (λ plan. makes plan ≡ true → IsSome (made_get made plan.way.end.name)) plans

-- no proper prefix of the name is made
abbrev pub IsAlone : BTreeMap (List ℕ) (List ℕ) → List ℕ → Type 0
IsAlone made name = (other : List ℕ) → IsProperPrefix other name → made_get made other ≡ None

-- no stored name conflicts with the end, and none that is made is a proper prefix of it
pub record HasRoomAbove (told : Option RefState) (made : BTreeMap (List ℕ) (List ℕ)) (plan : Plan) : Type 0 where
  pub stored : IfSome told (λ refs. IsFree refs.targets plan.way.end.name)
  pub alone : IsAlone made plan.way.end.name

-- another name, shown so, conflicts with the end; it is stored, or one of those that are made
pub record ConflictsWith (space : List ℕ) (told : Option RefState) (IsMade : List ℕ → List ℕ → Type 0) (plan : Plan)
    (with : List ℕ) : Type 0 where
  pub other : List ℕ
  pub conflict : Conflict plan.way.end.name other
  pub stands : (IsShown space other with × IfSome told (λ refs. IsSome (finite.get refs.targets other)))
      ⊎ IsMade other with

-- why a made name has no room, beside other made names
abbrev pub RoomCausesBy : List ℕ → StoreState → (List ℕ → List ℕ → Type 0) → Plan → RefError → Type 0
RoomCausesBy space state IsMade plan (NameConflict name with) =
    (name ≡ plan.way.end.shown) × ConflictsWith space state.references IsMade plan with
RoomCausesBy space state IsMade plan (Store fault) = (fault ≡ what.Listing) × IsTrue (state.unreadable fault)
RoomCausesBy space state IsMade plan NoMemory = Unit {0}
RoomCausesBy space state IsMade plan error = ⊥

-- Why a name that is made has no room.
abbrev pub RoomCauses : List ℕ → StoreState → BTreeMap (List ℕ) (List ℕ) → Plan → RefError → Type 0
RoomCauses space state made plan error =
    RoomCausesBy space state (λ other with. made_get made other ≡ Some with) plan error

-- Why one of those that the plans make has none.
abbrev pub AllRoomCauses : List ℕ → StoreState → List Plan → RefError → Type 0
AllRoomCauses space state plans NoMemory = Unit {0}
AllRoomCauses space state plans error =
    (plan : Plan) × Contains plans plan × (makes plan ≡ true) × RoomCausesBy space state (IsMadeBy plans) plan error
