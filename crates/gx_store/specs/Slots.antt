-- References and logs that are kept in slots, one slot a name.
use Rattle.std.specs.Prelude.{◌≢◌, ◌≤◌, ◌+◌, ◌∷◌, [], ℕ, List, Option, Some, None, IsSomeAnd, if◌then◌else◌}
use Rattle.std.specs.declared.cmp.Ordering.{Ordering}
use Rattle.std.specs.List.{AllByRecursion}
use Rattle.std.specs.FinMap.{FinMap, empty, insert, remove}
use Rattle.std.specs.BTreeMap.{BTreeMap, get}
use Rattle.std.specs.Vec.{vec_len, vec_capacity}
use Rattle.gx_rules.specs.Name.{name_cmp}
use Rattle.gx_store.specs.State.{RefState}
use Rattle.gx_store.specs.Change.{with_target, with_log}
use Rattle.gx_store.specs.declared.target.Target.{Target}
use Rattle.gx_store.specs.declared.log_line.LogLine.{LogLine}
use Rattle.gx_store.specs.declared.change.LogAct.{LogAct}
use Rattle.gx_store.specs.declared.change.LogAct.TheVariants as log_act
use Rattle.gx_store.specs.declared.change.RefChange.{RefChange}
use Rattle.gx_store.specs.declared.slots.Slot.{Slot}

-- a map with a value at a key, or with none there
abbrev pub with_at : {K X : Type 0} {R : K → K → Ordering} → FinMap R X → K → Option X → FinMap R X
with_at m k None = remove m k
with_at m k (Some x) = insert m k x

-- what a part of the values makes a map of, where it is there
abbrev pub parts : {K X Y : Type 0} {R : K → K → Ordering} → (X → Option Y) → List (K × X) → FinMap R Y
parts part [] = empty
parts part (e ∷ es) = with_at (parts part es) e.0 (part e.1)

-- the target that a slot has
abbrev pub target_in : Slot → Option Target
target_in slot = slot.target

-- the log that a slot has
abbrev pub log_in : Slot → Option (List LogLine)
log_in slot = if slot.has_log then Some slot.lines.items else None

-- the references and logs in a map of slots; an empty slot is none
abbrev pub refs_of : BTreeMap (List ℕ) Slot → RefState
refs_of map = record { targets = parts target_in map.entries; logs = parts log_in map.entries }

-- how many lines an act adds
abbrev pub room_of : LogAct → ℕ
room_of log_act.Keep = 0
room_of (log_act.Append line) = 1
room_of log_act.Remove = 0

-- this many lines more have room in the slot
abbrev pub FitsIn : ℕ → Slot → Type 0
FitsIn room slot = vec_len slot.lines + room ≤ vec_capacity slot.lines

-- there is a slot at the name, in which this many lines more have room
abbrev pub HasRoom : BTreeMap (List ℕ) Slot → List ℕ → ℕ → Type 0
HasRoom map name room = IsSomeAnd (get name_cmp map name) (FitsIn room)

-- room that was there is there
abbrev pub KeepsRoom : BTreeMap (List ℕ) Slot → BTreeMap (List ℕ) Slot → Type 0
KeepsRoom old new = (name : List ℕ) (room : ℕ) → HasRoom old name room → HasRoom new name room

-- the same of each name but one
abbrev pub KeepsOthersRoom : List ℕ → BTreeMap (List ℕ) Slot → BTreeMap (List ℕ) Slot → Type 0
KeepsOthersRoom but old new = (name : List ℕ) (room : ℕ) → name ≢ but → HasRoom old name room → HasRoom new name room

-- each change has its slot and its room
abbrev pub AreReady : BTreeMap (List ℕ) Slot → List RefChange → Type 0
AreReady map changes = AllByRecursion (λ change. HasRoom map change.name (room_of change.log)) changes

-- the references and logs after one change
abbrev pub with_change : RefChange → RefState → RefState
with_change change refs = record {
  targets = with_target change.name change.target refs.targets;
  logs = with_log change.name change.log refs.logs;
}
