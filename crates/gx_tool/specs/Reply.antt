-- What replies look like.
use Rattle.std.specs.Prelude.{ℕ, Bool, true, false, List, [], ◌∷◌, ◌++◌, length, Option, Some, None, codes, decimal}
use Rattle.std.specs.List.{flat_map, list_all}
use Rattle.gx_hash.specs.ObjectId.{hex_of}
use Rattle.gx_object.specs.Kind.{kind_name}
use Rattle.gx_object.specs.Mode.{mode_of}
use Rattle.gx_object.specs.Tree.{octal_of}
use Rattle.gx_object.specs.declared.encode.Field.{Field}
use Rattle.gx_object.specs.declared.encode.Field.TheVariants.{FileName, AuthorName, AuthorEmail, AuthorOffset, CommitterName, CommitterEmail, CommitterOffset, TaggerName, TaggerEmail, TaggerOffset, TagName, Encoding, HeaderName}
use Rattle.gx_store.specs.LogText.{line_bytes}
use Rattle.gx_store.specs.declared.log_line.LogLine.{LogLine}
use Rattle.gx_store.specs.declared.target.Target.{Target}
use Rattle.gx_store.specs.declared.target.Target.TheVariants.{Object, Symbolic}
use Rattle.gx_refs.specs.declared.reference.Reference.{Reference}
use Rattle.gx_tool.specs.declared.refusal.Refusal.{Refusal}
use Rattle.gx_tool.specs.declared.refusal.Refusal.TheVariants.{Unsupported, Find, Kind, Decode, EmptyComponent, Filename, Missing, Unwritable, Cycle, Depth, MustExist, MustNotExist, OutOfDate, Conflict, RelativePath, Duplicate, NoCommitter, BadName}
use Rattle.gx_tool.specs.declared.reply.Reply.{Reply}
use Rattle.gx_tool.specs.declared.answer.Answer.{Answer}
use Rattle.gx_tool.specs.declared.answer.Answer.TheVariants.{Id, Log, Name, References}
use Rattle.gx_tool.specs.declared.reply.Reply.TheVariants.{Accepted, Refused}

-- an id in hex digits, or a name after an @
abbrev pub target_text : Target → List ℕ
target_text (Object id) = hex_of id
target_text (Symbolic name) = 64 ∷ name

-- the word for a field
abbrev pub field_text : Field → List ℕ
field_text FileName = codes "file-name"
field_text AuthorName = codes "author-name"
field_text AuthorEmail = codes "author-email"
field_text AuthorOffset = codes "author-offset"
field_text CommitterName = codes "committer-name"
field_text CommitterEmail = codes "committer-email"
field_text CommitterOffset = codes "committer-offset"
field_text TaggerName = codes "tagger-name"
field_text TaggerEmail = codes "tagger-email"
field_text TaggerOffset = codes "tagger-offset"
field_text TagName = codes "tag-name"
field_text Encoding = codes "encoding"
field_text HeaderName = codes "header-name"

-- A refusal is a word and what it keeps, each after a space. The mode of an entry is in octal. (Ours; docs/SCRIPT.md.)
abbrev pub refusal_text : Refusal → List ℕ
refusal_text Unsupported = codes "unsupported"
refusal_text (Find id) = codes "find" ++ 32 ∷ hex_of id
refusal_text (Kind id actual) = codes "kind" ++ (32 ∷ hex_of id) ++ 32 ∷ kind_name actual
refusal_text (Decode id) = codes "decode" ++ 32 ∷ hex_of id
refusal_text (EmptyComponent path) = codes "empty-component" ++ 32 ∷ path
refusal_text (Filename id kind name) =
    codes "filename" ++ (32 ∷ hex_of id) ++ (32 ∷ octal_of (mode_of kind)) ++ 32 ∷ name
refusal_text (Missing id name) = codes "missing" ++ (32 ∷ hex_of id) ++ 32 ∷ name
refusal_text (Unwritable field) = codes "unwritable" ++ 32 ∷ field_text field
refusal_text (Cycle name) = codes "cycle" ++ 32 ∷ name
refusal_text (Depth name) = codes "depth" ++ 32 ∷ name
refusal_text (MustExist name) = codes "must-exist" ++ 32 ∷ name
refusal_text (MustNotExist name actual) = codes "must-not-exist" ++ (32 ∷ name) ++ 32 ∷ target_text actual
refusal_text (OutOfDate name expected actual) =
    codes "out-of-date" ++ (32 ∷ name) ++ (32 ∷ target_text expected) ++ 32 ∷ target_text actual
refusal_text (Conflict name other) = codes "conflict" ++ (32 ∷ name) ++ 32 ∷ other
refusal_text RelativePath = codes "relative-path"
refusal_text (Duplicate name) = codes "duplicate" ++ 32 ∷ name
refusal_text NoCommitter = codes "no-committer"
refusal_text BadName = codes "name"

-- the line of a reply that shows a line of a log
abbrev pub log_line_text : LogLine → List ℕ
log_line_text line = codes "log " ++ line_bytes line ++ 10 ∷ []

-- The last line of an answer of many lines is `ok` and their count.
abbrev pub count_text : ℕ → List ℕ
count_text count = codes "ok " ++ decimal count ++ 10 ∷ []

-- A log is told by its lines, the oldest first, and their count; that there is none by `none`.
abbrev pub log_text : Option (List LogLine) → List ℕ
log_text None = codes "ok none" ++ 10 ∷ []
log_text (Some lines) = flat_map log_line_text lines ++ count_text (length lines)

-- the line of a reply that shows a reference
abbrev pub reference_text : Reference → List ℕ
reference_text reference = codes "ref " ++ reference.name ++ (32 ∷ target_text reference.target) ++ 10 ∷ []

-- References are told one by one, and then their count.
abbrev pub references_text : List Reference → List ℕ
references_text list = flat_map reference_text list ++ count_text (length list)

-- An answer ends with a line that begins with `ok`. (Ours; docs/SCRIPT.md.)
abbrev pub answer_text : Answer → List ℕ
answer_text (Id id) = codes "ok " ++ hex_of id ++ 10 ∷ []
answer_text (Log lines) = log_text lines
answer_text (Name name) = codes "ok " ++ name ++ 10 ∷ []
answer_text (References list) = references_text list

-- A reply is an answer, or a line with `no` and why not. (Ours; docs/SCRIPT.md.)
unfoldable pub reply_text : Reply → List ℕ
reply_text (Accepted answer) = answer_text answer
reply_text (Refused refusal) = codes "no " ++ refusal_text refusal ++ 10 ∷ []

-- replies one after another
abbrev pub texts : List Reply → List ℕ
texts replies = flat_map reply_text replies

-- the reply is an `ok`
abbrev pub is_accepted : Reply → Bool
is_accepted (Accepted answer) = true
is_accepted (Refused refusal) = false

-- each reply is an `ok`
abbrev pub all_accepted : List Reply → Bool
all_accepted replies = list_all is_accepted replies
