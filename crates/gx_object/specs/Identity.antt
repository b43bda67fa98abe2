-- How it is written who did something, and when.
use Rattle.std.specs.Prelude.{ℕ, ℤ, pos, negsuc, ◌/◌, ◌%◌, ◌==◌, ◌&&◌, not, nat_lt, Bool, true, List, ◌∷◌, ◌++◌, codes, decimal, if◌then◌else◌, unsigned_abs}
use Rattle.std.specs.Fmt.{signed_decimal}
use Rattle.std.specs.List.{list_all}
use Rattle.gx_object.specs.declared.signature.Signature.{Signature}
use Rattle.gx_object.specs.declared.signature.Time.{Time}
use Rattle.gx_object.specs.declared.encode.Field.{Field}
use Rattle.gx_object.specs.declared.encode.Field.TheVariants.{AuthorName, AuthorEmail, AuthorOffset, CommitterName, CommitterEmail, CommitterOffset}

-- a number in decimal, with at least two digits
abbrev pub two_digits : ℕ → List ℕ
two_digits n = if nat_lt n 10 then 48 ∷ decimal n else decimal n

-- `+` for a clock that is ahead of UTC or shows UTC, and `-` for one that is behind
abbrev pub sign_of : ℤ → ℕ
sign_of (pos n) = 43
sign_of (negsuc n) = 45

-- An offset is written as a sign, its hours and its minutes, each in two digits. (Git, date-formats,
-- "Git internal format")
unfoldable pub offset_bytes : ℤ → List ℕ
offset_bytes offset =
    sign_of offset ∷ two_digits (unsigned_abs offset / 3600) ++ two_digits (unsigned_abs offset / 60 % 60)

-- A moment is its seconds since the epoch, a space and its offset. (Git, date-formats, "Git internal format")
abbrev pub time_bytes : Time → List ℕ
time_bytes time = signed_decimal time.seconds ++ 32 ∷ offset_bytes time.offset

-- An identity is written `name <email> time`. (Git, git-fast-import, "committer")
unfoldable pub identity_bytes : Signature → List ℕ
identity_bytes who = who.name ++ codes " <" ++ who.email ++ codes "> " ++ time_bytes who.time

-- `<`, `>` and newlines separate the fields of an identity, so neither a name nor an email has them. (Git, git-commit,
-- "Commit Information")
abbrev pub is_writable_text : List ℕ → Bool
is_writable_text text = list_all (λ b. not (b == 60) && not (b == 62) && not (b == 10)) text

-- an offset that two digits of hours can write: less than 100 hours either way (Git, date-formats,
-- "Git internal format")
abbrev pub is_writable_offset : ℤ → Bool
is_writable_offset offset = nat_lt (unsigned_abs offset) 360000

-- whether each field of the identity can be written
abbrev pub is_writable_identity : Signature → Bool
is_writable_identity who = is_writable_text who.name && is_writable_text who.email && is_writable_offset who.time.offset

-- whether a field of what these two did can be written
abbrev pub are_writable : Signature → Signature → Field → Bool
are_writable author committer AuthorName = is_writable_text author.name
are_writable author committer AuthorEmail = is_writable_text author.email
are_writable author committer AuthorOffset = is_writable_offset author.time.offset
are_writable author committer CommitterName = is_writable_text committer.name
are_writable author committer CommitterEmail = is_writable_text committer.email
are_writable author committer CommitterOffset = is_writable_offset committer.time.offset
are_writable author committer field = true
