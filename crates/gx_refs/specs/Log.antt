-- Which reflogs a change of a reference writes to, and what it writes.
use Rattle.std.specs.Prelude.{◌≡◌, ℕ, Bool, false, true, ◌||◌, List, [], ◌∷◌, ◌++◌, filter, codes, bytes_eq, nat_eq, unwrap_or}
use Rattle.std.specs.List.{starts_with}
use Rattle.std.specs.FinMap.{FinMap, get, insert, contains_key}
use Rattle.gx_hash.specs.declared.oid.ObjectId.{ObjectId}
use Rattle.gx_rules.specs.Name.{name_cmp}
use Rattle.gx_object.specs.declared.signature.Signature.{Signature}
use Rattle.gx_store.specs.State.{StoreState, IsUnreadable}
use Rattle.gx_store.specs.LogText.{one_line}
use Rattle.gx_store.specs.declared.log_line.LogLine.{LogLine}
use Rattle.gx_store.specs.declared.error.What.{What}
use Rattle.gx_store.specs.declared.error.What.TheVariants as what
use Rattle.gx_refs.specs.declared.log.WriteReflog.{WriteReflog}
use Rattle.gx_refs.specs.declared.log.WriteReflog.TheVariants.{Normal, Always, Disable}

-- A missing log is made for HEAD, and for the names under refs/heads/, refs/remotes/ and refs/notes/, where the
-- setting is `true`; for any name where it is `always`; and for none where it is `false`.
-- (git-config(1), "core.logAllRefUpdates")
abbrev pub is_made : WriteReflog → List ℕ → Bool
is_made Normal name =
    bytes_eq name (codes "HEAD") || starts_with nat_eq name (codes "refs/heads/")
    || starts_with nat_eq name (codes "refs/remotes/") || starts_with nat_eq name (codes "refs/notes/")
is_made Always name = true
is_made Disable name = false

-- A line is due where a log is made or there is one, or where it is forced. With `false` none is written at all,
-- which is ours: Git goes on with a log that is there. (git-config(1), "core.logAllRefUpdates";
-- git-update-ref(1), "--create-reflog")
abbrev pub is_due_where : WriteReflog → Bool → Bool → List ℕ → Bool
is_due_where Normal force has_log name = force || is_made Normal name || has_log
is_due_where Always force has_log name = true
is_due_where Disable force has_log name = false

-- a line is due for the name, with these logs
abbrev pub is_due : WriteReflog → FinMap name_cmp (List LogLine) → Bool → List ℕ → Bool
is_due mode logs force name = is_due_where mode force (contains_key logs name) name

-- whether a line is due goes by the log that is there: it is due with one and not without
abbrev pub GoesByLog : WriteReflog → Bool → List ℕ → Type 0
GoesByLog mode force name = (is_due_where mode force false name ≡ false) × (is_due_where mode force true name ≡ true)

-- A fault names the stored name, which can't be read, and comes only where the shown one goes by the log.
abbrev pub IsLogFault : StoreState → WriteReflog → Bool → List ℕ → List ℕ → What → Type 0
IsLogFault state mode force shown name fault = GoesByLog mode force shown × IsUnreadable state (what.Name name) fault

-- The line has both ids, the identity and the message, in one line. (gitrepository-layout(5), "logs")
abbrev pub log_line : ObjectId → ObjectId → Signature → List ℕ → LogLine
log_line previous new signature message =
    record { previous = previous; new = new; signature = signature; message = one_line message }

-- the line at the end of the log of each of the names
abbrev pub with_line : List (List ℕ) → LogLine → FinMap name_cmp (List LogLine) → FinMap name_cmp (List LogLine)
with_line [] line logs = logs
with_line (name ∷ names) line logs = with_line names line (insert logs name (unwrap_or (get logs name) [] ++ line ∷ []))

-- The logs get the line at the end of the log of each of the names for which one is due.
abbrev pub appended : WriteReflog → Bool → List (List ℕ) → LogLine → FinMap name_cmp (List LogLine)
    → FinMap name_cmp (List LogLine)
appended mode force names line logs = with_line (filter (is_due mode logs force) names) line logs
