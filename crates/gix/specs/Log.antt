-- What a commit writes to logs.
use Rattle.std.specs.Prelude.{ℕ, ◌==◌, List, [], ◌++◌, codes, length, if◌then◌else◌}
use Rattle.gx_object.specs.Message.{summary_of}

-- what is said of a commit that has so many parents
abbrev pub parents_text : ℕ → List ℕ
parents_text count = if count == 0 then codes " (initial)" else (if count == 1 then [] else codes " (merge)")

-- An operation that made a commit is logged by its name, then ` (initial)` without a parent or ` (merge)` with more
-- than one, then `: ` and the summary of the message. (Git, builtin/commit.c. Ours: the summary; Git takes the first
-- line of the message.)
abbrev pub log_message : List ℕ → List ℕ → ℕ → List ℕ
log_message operation message count = operation ++ parents_text count ++ codes ": " ++ summary_of message

-- A commit is logged as `commit`.
abbrev pub commit_log_message : {X : Type 0} → List X → List ℕ → List ℕ
commit_log_message parents message = log_message (codes "commit") message (length parents)
