-- How a line of a log is written and read.
use Rattle.std.specs.Prelude.{◌≡◌, ℕ, ◌==◌, List, ◌∷◌, ◌++◌, map, true, if◌then◌else◌}
use Rattle.gx_hash.specs.declared.kind.HashKind.{HashKind}
use Rattle.gx_hash.specs.declared.oid.ObjectId.{ObjectId}
use Rattle.gx_hash.specs.IdDigits.{IsHexId}
use Rattle.gx_hash.specs.ObjectId.{hex_of}
use Rattle.gx_object.specs.declared.signature.Signature.{Signature}
use Rattle.gx_object.specs.Identity.{identity_bytes}
use Rattle.gx_object.specs.IdentitySpelling.{IdentityText, SpellsIdentity}
use Rattle.gx_object.specs.Split.{Lacks}
use Rattle.gx_object.specs.TimeSpelling.{SpellsTime}
use Rattle.gx_object.specs.WrittenText.{CanWriteIdentity, IsWholeMinutes}
use Rattle.gx_store.specs.Kinds.{IsLineOfKind}
use Rattle.gx_store.specs.declared.log_line.LogLine.{LogLine}

-- A newline in a message is written as a space, since newlines separate the lines of a log. (Ours; Git, refs.c,
-- "copy_reflog_msg", draws other white space together too.)
abbrev pub one_line : List ℕ → List ℕ
one_line message = map (λ byte. if byte == 10 then 32 else byte) message

-- A line is the old id, the new id, who changed the reference and when, each followed by a space, but the last by
-- a tab; then the message. (Git, refs/files-backend.c, "log_ref_write_fd")
unfoldable pub line_bytes : LogLine → List ℕ
line_bytes line =
    hex_of line.previous ++ 32 ∷ hex_of line.new ++ 32 ∷ identity_bytes line.signature ++ 9 ∷ one_line line.message

-- The identity of a line ends before the first tab that follows the line's first `>`. (Git, refs/files-backend.c,
-- "show_one_reflog_ent", looks for the first `>` too)
abbrev pub EndsBeforeTab : List ℕ → Type 0
EndsBeforeTab identity =
    (front : List ℕ) × (behind : List ℕ) × (identity ≡ front ++ 62 ∷ behind) × Lacks 62 front × Lacks 9 behind

-- The bytes are a line with these digits of ids, this identity and this message, which is one line.
pub record HasParts (hash : HashKind) (bytes previous new identity message : List ℕ) : Type 0 where
  pub whole : bytes ≡ previous ++ 32 ∷ (new ++ 32 ∷ (identity ++ 9 ∷ message))
  pub old_id : IsHexId hash previous
  pub new_id : IsHexId hash new
  pub ends : EndsBeforeTab identity
  pub one : Lacks 10 message

-- The identity's text is that of the name, the email and the time.
pub record SpellsSignature (text : List ℕ) (who : Signature) : Type 0 where
  pub time_text : List ℕ
  pub spelled : SpellsIdentity text (record { name = who.name; email = who.email; time = time_text })
  pub time : SpellsTime time_text who.time

-- The bytes are the line, with ids of the kind. (Git, refs/files-backend.c, "show_one_reflog_ent"; that only lower-case
-- digits are read, and that a tab follows every identity, is ours)
pub record SpellsLine (hash : HashKind) (bytes : List ℕ) (line : LogLine) : Type 0 where
  pub identity : List ℕ
  pub parts : HasParts hash bytes (hex_of line.previous) (hex_of line.new) identity line.message
  pub kind : IsLineOfKind hash line
  pub signature : SpellsSignature identity line.signature

-- A line is read as it was written where its ids are of the kind, its identity is one that objects could have, with an
-- offset in whole minutes, and its message is one line.
pub record CanWriteLine (hash : HashKind) (line : LogLine) : Type 0 where
  pub kind : IsLineOfKind hash line
  pub who : CanWriteIdentity line.signature
  pub minutes : IsWholeMinutes line.signature.time.offset
  pub message : Lacks 10 line.message
