-- What changes of references make of references and logs.
use Rattle.std.specs.Prelude.{◌≡◌, ◌≢◌, ◌≤◌, ◌⊎◌, ℕ, List, [], ◌∷◌, ◌++◌, Option, Some, None, unwrap_or, option_map, is_some, IfSome}
use Rattle.std.specs.List.{AllByRecursion}
use Rattle.std.specs.FinMap.{FinMap, get, insert, remove}
use Rattle.gx_rules.specs.Name.{name_cmp}
use Rattle.gx_store.specs.State.{RefState, StoreState}
use Rattle.gx_store.specs.declared.target.Target.{Target}
use Rattle.gx_store.specs.declared.log_line.LogLine.{LogLine}
use Rattle.gx_store.specs.declared.change.TargetChange.{TargetChange}
use Rattle.gx_store.specs.declared.change.TargetChange.TheVariants as target_change
use Rattle.gx_store.specs.declared.change.LogAct.{LogAct}
use Rattle.gx_store.specs.declared.change.LogAct.TheVariants as log_act
use Rattle.gx_store.specs.declared.change.RefChange.{RefChange}

-- A target is kept, set or removed. (git-update-ref, "update" and "delete")
abbrev pub target_after : TargetChange → Option Target → Option Target
target_after target_change.Keep target = target
target_after (target_change.Set new) target = Some new
target_after target_change.Remove target = None

-- A log is kept, made longer by a line at its end, or removed; a line makes a missing log.
-- (git-update-ref, "Logging updates")
abbrev pub log_after : LogAct → Option (List LogLine) → Option (List LogLine)
log_after log_act.Keep log = log
log_after (log_act.Append line) log = Some (unwrap_or log [] ++ line ∷ [])
log_after log_act.Remove log = None

-- the targets after a change of one
abbrev pub with_target : List ℕ → TargetChange → FinMap name_cmp Target → FinMap name_cmp Target
with_target name target_change.Keep targets = targets
with_target name (target_change.Set target) targets = insert targets name target
with_target name target_change.Remove targets = remove targets name

-- the logs after a change of one
abbrev pub with_log : List ℕ → LogAct → FinMap name_cmp (List LogLine) → FinMap name_cmp (List LogLine)
with_log name log_act.Keep logs = logs
with_log name (log_act.Append line) logs = insert logs name (unwrap_or (get logs name) [] ++ line ∷ [])
with_log name log_act.Remove logs = remove logs name

-- the targets after changes, made in order
abbrev pub targets_after : List RefChange → FinMap name_cmp Target → FinMap name_cmp Target
targets_after [] targets = targets
targets_after (change ∷ changes) targets = targets_after changes (with_target change.name change.target targets)

-- the logs after changes, made in order
abbrev pub logs_after : List RefChange → FinMap name_cmp (List LogLine) → FinMap name_cmp (List LogLine)
logs_after [] logs = logs
logs_after (change ∷ changes) logs = logs_after changes (with_log change.name change.log logs)

-- Changes of a transaction are all made. (git-update-ref, "--stdin")
abbrev pub refs_after : List RefChange → RefState → RefState
refs_after changes refs = record { targets = targets_after changes refs.targets; logs = logs_after changes refs.logs }

-- the state after changes of references
abbrev pub applied : List RefChange → StoreState → StoreState
applied changes state = record state { references = option_map (refs_after changes) state.references }

-- No name is changed twice in a transaction. (Git, refs.c, "multiple updates for ref")
abbrev pub HaveDistinctNames : List RefChange → Type 0
HaveDistinctNames [] = Unit {0}
HaveDistinctNames (change ∷ changes) =
    AllByRecursion (λ other. other.name ≢ change.name) changes × HaveDistinctNames changes

-- A change of many references that is cut short leaves at each name the target and the log from before, or those that
-- the changes make. (Ours; git-update-ref, "--stdin", promises all or none only of names that are locked)
pub record IsTorn (changes : List RefChange) (old new : RefState) : Type 0 where
  pub targets : (name : List ℕ) → (get new.targets name ≡ get old.targets name)
      ⊎ (get new.targets name ≡ get (targets_after changes old.targets) name)
  pub logs : (name : List ℕ) → (get new.logs name ≡ get old.logs name)
      ⊎ (get new.logs name ≡ get (logs_after changes old.logs) name)

-- After a fault of `apply` references are torn at worst, and nothing else has changed.
pub record AfterFault (changes : List RefChange) (old new : StoreState) : Type 0 where
  pub same : new ≡ record old { references = new.references; faults = new.faults }
  pub later : old.faults ≤ new.faults
  pub told : is_some new.references ≡ is_some old.references
  pub torn : IfSome old.references (λ before. IfSome new.references (λ after. IsTorn changes before after))
