-- How the fields of lines are spelled: identities, targets, expectations, orders. (Ours; docs/SCRIPT.md.)
use Rattle.std.specs.Prelude.{◌≡◌, ℕ, Bool, true, false, List, [], ◌∷◌, ◌++◌, length, codes, Option, Some, None, FitsSigned}
use Rattle.std.specs.Int.{w32, w64}
use Rattle.std.specs.Fmt.{decimal, signed_decimal}
use Rattle.hex.specs.Hex.{IsBytes}
use Rattle.gx_hash.specs.HashKind.{len_in_bytes, IsOfKind}
use Rattle.gx_hash.specs.ObjectId.{bytes_of, hex_of}
use Rattle.gx_hash.specs.declared.kind.HashKind.{HashKind}
use Rattle.gx_hash.specs.declared.oid.ObjectId.{ObjectId}
use Rattle.gx_object.specs.declared.signature.Signature.{Signature}
use Rattle.gx_rules.specs.Name.{IsFullName}
use Rattle.gx_script.specs.declared.lists.WalkId.{WalkId}
use Rattle.gx_script.specs.declared.request.Expect.{Expect}
use Rattle.gx_script.specs.declared.request.Expect.TheVariants.{Any, Exists, Absent, Match, MatchOrAbsent}
use Rattle.gx_script.specs.declared.request.NameSet.{NameSet}
use Rattle.gx_script.specs.declared.request.NameSet.TheVariants.{Tags, AllTags, AllRefs}
use Rattle.gx_script.specs.declared.request.Order.{Order}
use Rattle.gx_script.specs.declared.request.Order.TheVariants.{Breadth, Newest, Oldest, NewestFrom, OldestFrom}
use Rattle.gx_store.specs.declared.target.Target.{Target}
use Rattle.gx_store.specs.declared.target.Target.TheVariants.{Object, Symbolic}
use Rattle.gx_script.specs.Items.{Item, Line, Without, NoNewline}

-- An id of the kind has as many bytes as the kind says.
pub record IsId (hash : HashKind) (id : ObjectId) : Type 0 where
  pub kind : IsOfKind hash id
  pub size : length (bytes_of id) ≡ len_in_bytes hash
  pub bytes : IsBytes (bytes_of id)

-- Seconds, offset, name, a tab and the email.
abbrev pub who_text : Signature → List ℕ
who_text who =
    signed_decimal who.time.seconds ++ 32 ∷ (signed_decimal who.time.offset ++ 32 ∷ (who.name ++ 9 ∷ who.email))

-- Seconds fit an i64 and offsets an i32; name and email have no tab and no newline.
pub record IsIdentity (who : Signature) : Type 0 where
  pub seconds : FitsSigned w64 who.time.seconds
  pub offset : FitsSigned w32 who.time.offset
  pub name : Without 9 who.name
  pub name_line : NoNewline who.name
  pub email : Without 9 who.email
  pub email_line : NoNewline who.email

-- A line of an identity begins with what the person is.
abbrev pub author_word : List ℕ
author_word = codes "author "

-- The word of a committer.
abbrev pub committer_word : List ℕ
committer_word = codes "committer "

-- The word of a tagger.
abbrev pub tagger_word : List ℕ
tagger_word = codes "tagger "

-- The line of a person who may be left out.
abbrev pub person_items : List ℕ → Option Signature → List Item
person_items word None = []
person_items word (Some who) = Line (word ++ who_text who) ∷ []

-- A person who is there has a well-formed identity.
abbrev pub IsPerson : Option Signature → Type 0
IsPerson None = Unit {0}
IsPerson (Some who) = IsIdentity who

-- A line that declares a block gives its length.
abbrev pub message_line : ℕ → List ℕ
message_line size = codes "message " ++ decimal size

-- The last line of a request that has several.
abbrev pub end_line : List ℕ
end_line = codes "end"

-- An id's digits, or `@` and the name of another reference.
abbrev pub target_text : Target → List ℕ
target_text (Object id) = hex_of id
target_text (Symbolic name) = 64 ∷ name

-- The id of a target is of the kind, and its name a full one.
abbrev pub IsTarget : HashKind → Target → Type 0
IsTarget hash (Object id) = IsId hash id
IsTarget hash (Symbolic name) = IsFullName name

-- A target that is wanted stands after `=`, and after `?` where the reference may also be absent.
abbrev pub expect_text : Expect → List ℕ
expect_text Any = codes "any"
expect_text Exists = codes "exists"
expect_text Absent = codes "absent"
expect_text (Match target) = 61 ∷ target_text target
expect_text (MatchOrAbsent target) = 63 ∷ target_text target

-- A target that is wanted is a target.
abbrev pub IsExpect : HashKind → Expect → Type 0
IsExpect hash Any = Unit {0}
IsExpect hash Exists = Unit {0}
IsExpect hash Absent = Unit {0}
IsExpect hash (Match target) = IsTarget hash target
IsExpect hash (MatchOrAbsent target) = IsTarget hash target

-- A walk by time may end at a time in seconds.
abbrev pub order_text : Order → List ℕ
order_text Breadth = codes "breadth"
order_text Newest = codes "newest"
order_text Oldest = codes "oldest"
order_text (NewestFrom seconds) = codes "newest:" ++ signed_decimal seconds
order_text (OldestFrom seconds) = codes "oldest:" ++ signed_decimal seconds

-- The seconds at which a walk ends fit an i64.
abbrev pub IsOrder : Order → Type 0
IsOrder Breadth = Unit {0}
IsOrder Newest = Unit {0}
IsOrder Oldest = Unit {0}
IsOrder (NewestFrom seconds) = FitsSigned w64 seconds
IsOrder (OldestFrom seconds) = FitsSigned w64 seconds

-- The names that a commit may be described by: of annotated tags, of all tags, or of all references.
abbrev pub set_text : NameSet → List ℕ
set_text Tags = codes "tags"
set_text AllTags = codes "all-tags"
set_text AllRefs = codes "all-refs"

-- An id that is hidden has `^` before its digits.
abbrev pub hidden_text : Bool → List ℕ
hidden_text true = codes "^"
hidden_text false = []

-- An id of a walk, with or without `^`.
abbrev pub walk_id_text : WalkId → List ℕ
walk_id_text walked = hidden_text walked.hidden ++ hex_of walked.id
