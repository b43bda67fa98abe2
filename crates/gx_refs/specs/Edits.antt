-- What a list of edits makes of references and their logs.
use Rattle.std.specs.Prelude.{◌≡◌, ℕ, Bool, false, List, map, bytes_eq, Option, Some, None, IfSome, if◌then◌else◌}
use Rattle.std.specs.List.{find, AllZip}
use Rattle.std.specs.FinMap.{FinMap, get, contains_key}
use Rattle.gx_hash.specs.HashKind.{kind_of}
use Rattle.gx_object.specs.declared.signature.Signature.{Signature}
use Rattle.gx_rules.specs.Name.{name_cmp}
use Rattle.gx_store.specs.Change.{target_after, log_after}
use Rattle.gx_store.specs.State.{RefState}
use Rattle.gx_store.specs.declared.target.Target.{Target}
use Rattle.gx_store.specs.declared.target.Target.TheVariants as target
use Rattle.gx_store.specs.declared.log_line.LogLine.{LogLine}
use Rattle.gx_store.specs.declared.change.TargetChange.{TargetChange}
use Rattle.gx_store.specs.declared.change.TargetChange.TheVariants as target_change
use Rattle.gx_store.specs.declared.change.LogAct.{LogAct}
use Rattle.gx_store.specs.declared.change.LogAct.TheVariants as log_act
use Rattle.gx_store.specs.declared.change.RefChange.{RefChange}
use Rattle.gx_refs.specs.Log.{is_due_where, log_line}
use Rattle.gx_refs.specs.Moving.{previous_id}
use Rattle.gx_refs.specs.Plan.{Touch, touches}
use Rattle.gx_refs.specs.Shown.{prefix_of, stored_target}
use Rattle.gx_refs.specs.declared.edit.Change.{Change}
use Rattle.gx_refs.specs.declared.edit.Change.TheVariants.{Update, Delete}
use Rattle.gx_refs.specs.declared.edit.RefLog.{RefLog}
use Rattle.gx_refs.specs.declared.edit.RefLog.TheVariants.{AndReference, Only}
use Rattle.gx_refs.specs.declared.log.WriteReflog.{WriteReflog}
use Rattle.gx_refs.specs.declared.plan.Place.{Place}
use Rattle.gx_refs.specs.declared.plan.Plan.{Plan}
use Rattle.gx_refs.specs.declared.terms.Terms.{Terms}

-- the terms of a call: its namespace, which logs are written, and who writes to them
abbrev pub terms_of : Option (List ℕ) → WriteReflog → Option Signature → Terms
terms_of space mode committer =
    record { space = prefix_of space; mode = mode; committer = committer }

-- ---- targets

-- with the reference; an edit of the log alone keeps it
abbrev pub with_reference : RefLog → TargetChange → TargetChange
with_reference AndReference change = change
with_reference Only change = target_change.Keep

-- An update sets the target of the end, and a deletion removes it. (git-update-ref(1); gix, "RefLog")
abbrev pub end_change : List ℕ → Change → TargetChange
end_change space (Update log expected new) = with_reference log.mode (target_change.Set (stored_target space new))
end_change space (Delete expected log) = with_reference log target_change.Remove

-- Symbolic references on the way keep their targets.
abbrev pub target_change_at : Terms → Touch → TargetChange
target_change_at terms touch =
    if bytes_eq touch.place.name touch.plan.way.end.name
    then end_change terms.space touch.plan.edit.change else target_change.Keep

-- ---- logs

-- Whether the edit writes a line to the log of a name: an update to an object does where one is due, and no other edit
-- does. The rule goes by the name as it is shown. (git-config(1), "core.logAllRefUpdates";
-- git-update-ref(1), "--create-reflog")
abbrev pub is_logged : Terms → Change → Bool → List ℕ → Bool
is_logged terms (Update log expected (target.Object id)) has_log shown =
    is_due_where terms.mode log.force_create_reflog has_log shown
is_logged terms (Update log expected (target.Symbolic to)) has_log shown = false
is_logged terms (Delete expected log) has_log shown = false

-- the line of the committer, if there is one
abbrev pub line_by : Option Signature → (Signature → LogLine) → LogAct
line_by None line = log_act.Keep
line_by (Some who) line = log_act.Append (line who)

-- what a change makes of a log, where a line is due or not
abbrev pub log_change_by : Terms → Change → Option Target → Bool → LogAct
log_change_by terms (Update log expected (target.Object id)) found logged =
    if logged
    then line_by terms.committer (λ who. log_line (previous_id (kind_of id) found) id who log.message)
    else log_act.Keep
log_change_by terms (Update log expected (target.Symbolic to)) found logged = log_act.Keep
log_change_by terms (Delete expected log) found logged = log_act.Remove

-- The line tells the change from the id at the end to the new one, and a deletion removes the log.
-- (git-update-ref(1), "Logging updates")
abbrev pub log_change_at : Terms → Bool → Touch → LogAct
log_change_at terms has_log touch =
    log_change_by terms touch.plan.edit.change touch.plan.way.found
    (is_logged terms touch.plan.edit.change has_log touch.place.shown)

-- ---- the whole list

-- the touch of the name, if an edit touches it
abbrev pub touch_at : List ℕ → List Plan → Option Touch
touch_at name plans = find (λ (touch : Touch). bytes_eq touch.place.name name) (touches plans)

-- the target at a name after the touch of it, if there is one
abbrev pub target_by : Terms → Option Touch → Option Target → Option Target
target_by terms None before = before
target_by terms (Some touch) before = target_after (target_change_at terms touch) before

-- the log at a name after the touch of it, if there is one
abbrev pub log_by : Terms → Bool → Option Touch → Option (List LogLine) → Option (List LogLine)
log_by terms has_log None before = before
log_by terms has_log (Some touch) before = log_after (log_change_at terms has_log touch) before

-- All edits are made at once: a name that one of them touches has the target and the log that it makes of those from
-- before, and any other has those from before. (git-update-ref(1), "--stdin")
pub record EditsReferences (terms : Terms) (plans : List Plan) (old new : RefState) : Type 0 where
  pub targets : (name : List ℕ) → get new.targets name ≡ target_by terms (touch_at name plans) (get old.targets name)
  pub logs : (name : List ℕ)
      → get new.logs name ≡ log_by terms (contains_key old.logs name) (touch_at name plans) (get old.logs name)

-- ---- the changes that make it

-- the change of a touch, where there is a log or not
abbrev pub change_by : Terms → Bool → Touch → RefChange
change_by terms has_log touch =
    record { name = touch.place.name; target = target_change_at terms touch; log = log_change_at terms has_log touch }

-- the change of a touch, with these logs
abbrev pub change_of : Terms → FinMap name_cmp (List LogLine) → Touch → RefChange
change_of terms logs touch = change_by terms (contains_key logs touch.place.name) touch

-- one change a touched name, in the order of the edits and along each way
abbrev pub all_changes : Terms → FinMap name_cmp (List LogLine) → List Plan → List RefChange
all_changes terms logs plans = map (change_of terms logs) (touches plans)

-- there is a log at the place or not, as the logs say where they are told
abbrev pub HasLogThere : Option RefState → Place → Bool → Type 0
HasLogThere told place has_log = IfSome told (λ refs. has_log ≡ contains_key refs.logs place.name)

-- the change of a touch
abbrev pub IsChange : Option RefState → Terms → Touch → RefChange → Type 0
IsChange told terms touch change =
    (has_log : Bool) × HasLogThere told touch.place has_log × (change ≡ change_by terms has_log touch)

-- one change a touch, in order
abbrev pub AreChanges : Option RefState → Terms → List Touch → List RefChange → Type 0
AreChanges told terms all changes = AllZip (IsChange told terms) all changes
