-- How the end of a chain comes to name an object, and which logs tell it.
use Rattle.std.specs.Prelude.{◌≡◌, ℕ, Bool, true, false, List, [], ◌∷◌, map, Option, Some, None, if◌then◌else◌}
use Rattle.std.specs.List.{AllByRecursion}
use Rattle.std.specs.FinMap.{insert}
use Rattle.gx_hash.specs.declared.kind.HashKind.{HashKind}
use Rattle.gx_hash.specs.declared.oid.ObjectId.{ObjectId}
use Rattle.gx_hash.specs.ObjectId.{null_id}
use Rattle.gx_store.specs.State.{StoreState, RefState}
use Rattle.gx_store.specs.declared.target.Target.{Target}
use Rattle.gx_store.specs.declared.target.Target.TheVariants as target
use Rattle.gx_store.specs.declared.log_line.LogLine.{LogLine}
use Rattle.gx_store.specs.declared.change.TargetChange.{TargetChange}
use Rattle.gx_store.specs.declared.change.TargetChange.TheVariants.{Keep, Set}
use Rattle.gx_store.specs.declared.change.LogAct.{LogAct}
use Rattle.gx_store.specs.declared.change.LogAct.TheVariants as log_act
use Rattle.gx_store.specs.declared.change.RefChange.{RefChange}
use Rattle.gx_store.specs.declared.error.What.{What}
use Rattle.gx_refs.specs.Chain.{is_among}
use Rattle.gx_refs.specs.Log.{is_due_where, IsLogFault, appended}
use Rattle.gx_refs.specs.declared.log.WriteReflog.{WriteReflog}

-- A line tells as the old id that of the end, or the null id where the end named no object. (git-update-ref(1),
-- "Logging updates")
abbrev pub previous_id : HashKind → Option Target → ObjectId
previous_id hash (Some (target.Object id)) = id
previous_id hash (Some (target.Symbolic name)) = null_id hash
previous_id hash None = null_id hash

-- The end names the object and every other target is as before; each log on the way where a line is due gets it.
-- (git-update-ref(1): symbolic references are followed)
abbrev pub moved : WriteReflog → List (List ℕ) → List ℕ → ObjectId → LogLine → RefState → RefState
moved mode names end id line refs = record {
  targets = insert refs.targets end (target.Object id);
  logs = appended mode false names line refs.logs;
}

-- the line is written or not
abbrev pub act_of : Bool → LogLine → LogAct
act_of due line = if due then log_act.Append line else log_act.Keep

-- the change of one name
abbrev pub change_at : Bool → List ℕ → TargetChange → LogLine → RefChange
change_at due name change line = record { name = name; target = change; log = act_of due line }

-- it has the line where one is due, whichever logs there are
abbrev pub IsChangeAt : WriteReflog → List ℕ → TargetChange → LogLine → RefChange → Type 0
IsChangeAt mode name aim line change =
    (has_log : Bool) × (change ≡ change_at (is_due_where mode false has_log name) name aim line)

-- of names in order the last is made to name the object, and the targets of the others are kept
abbrev pub targets_along : List (List ℕ) → ObjectId → List TargetChange
targets_along [] id = []
targets_along (name ∷ []) id = Set (target.Object id) ∷ []
targets_along (name ∷ next ∷ names) id = Keep ∷ targets_along (next ∷ names) id

-- The changes that move the end of a chain: one a name, in order; each adds the line where one is due, whichever logs
-- there are.
pub record MovesAlong (mode : WriteReflog) (names : List (List ℕ)) (id : ObjectId) (line : LogLine)
    (changes : List RefChange) : Type 0 where
  pub named : map (λ (change : RefChange). change.name) changes ≡ names
  pub aimed : map (λ (change : RefChange). change.target) changes ≡ targets_along names id
  pub logged : AllByRecursion (λ (change : RefChange).
      (has_log : Bool) × (change.log ≡ act_of (is_due_where mode false has_log change.name) line)) changes

-- a fault names one of the names, which can't be read, and whose log decides whether it gets the line
abbrev pub IsFaultAt : StoreState → WriteReflog → List (List ℕ) → What → Type 0
IsFaultAt state mode names fault =
    (name : List ℕ) × (is_among name names ≡ true) × IsLogFault state mode false name name fault
