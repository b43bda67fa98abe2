-- The forms that make, change and list references and tags. (Ours; docs/SCRIPT.md.)
use Rattle.std.specs.Prelude.{◌≢◌, ℕ, List, [], ◌∷◌, ◌++◌, length, codes, Option, Some, None}
use Rattle.gx_hash.specs.ObjectId.{hex_of}
use Rattle.gx_hash.specs.declared.kind.HashKind.{HashKind}
use Rattle.gx_object.specs.Kind.{kind_name}
use Rattle.gx_rules.specs.Name.{IsFullName, IsPartialName}
use Rattle.gx_script.specs.declared.request.Expect.{Expect}
use Rattle.gx_script.specs.declared.request.RefRequest.{RefRequest}
use Rattle.gx_script.specs.declared.request.TagRequest.{TagRequest}
use Rattle.gx_script.specs.Fields.{IsId, person_items, IsPerson, committer_word, tagger_word, message_line, end_line, target_text, IsTarget, expect_text, IsExpect}
use Rattle.gx_script.specs.Items.{Item, Line, Block, IsField, NoNewline}

-- A message, and the end of the request.
abbrev pub message_items : List ℕ → List Item
message_items message = Line (message_line (length message)) ∷ Block message ∷ Line end_line ∷ []

-- The name of a tag is one or more bytes.
abbrev pub tag_line : TagRequest → List ℕ
tag_line request = codes "tag " ++ (request.name ++ 32 ∷ (hex_of request.target ++ 32 ∷ kind_name request.kind))

-- The tagger may be left out.
abbrev pub tag_items : TagRequest → List Item
tag_items request = Line (tag_line request) ∷ (person_items tagger_word request.tagger ++ message_items request.message)

-- The name is a field that is not empty, and the id is of the kind.
pub record IsTag (hash : HashKind) (request : TagRequest) : Type 0 where
  pub some : request.name ≢ []
  pub name : IsField request.name
  pub target : IsId hash request.target
  pub tagger : IsPerson request.tagger

-- A reference to be set, its target, and what it has to be before.
abbrev pub ref_line : RefRequest → List ℕ
ref_line request =
    codes "ref " ++ (request.name ++ 32 ∷ (target_text request.target ++ 32 ∷ expect_text request.expect))

-- The committer may be left out.
abbrev pub ref_items : RefRequest → List Item
ref_items request =
    Line (ref_line request) ∷ (person_items committer_word request.committer ++ message_items request.message)

-- The name is a full one.
pub record IsRef (hash : HashKind) (request : RefRequest) : Type 0 where
  pub name : IsFullName request.name
  pub target : IsTarget hash request.target
  pub expect : IsExpect hash request.expect
  pub committer : IsPerson request.committer

-- A reference to be deleted, and what it has to be before.
abbrev pub delete_line : List ℕ → Expect → List ℕ
delete_line name expect = codes "delete " ++ (name ++ 32 ∷ expect_text expect)

-- The prefix is the rest of the line. `refs` alone has none.
abbrev pub refs_line : Option (List ℕ) → List ℕ
refs_line None = codes "refs"
refs_line (Some prefix) = codes "refs " ++ prefix

-- A prefix fits a line. It may be empty.
abbrev pub IsPrefix : Option (List ℕ) → Type 0
IsPrefix None = Unit {0}
IsPrefix (Some prefix) = NoNewline prefix

-- The log of a reference is asked for by its full name.
abbrev pub log_line : List ℕ → List ℕ
log_line name = codes "log " ++ name

-- What `HEAD` is.
abbrev pub head_line : List ℕ
head_line = codes "head"

-- The namespace that names are in from now on. `namespace` alone is none.
abbrev pub namespace_line : Option (List ℕ) → List ℕ
namespace_line None = codes "namespace"
namespace_line (Some name) = codes "namespace " ++ name

-- The name of a namespace is a partial one.
abbrev pub IsNamespace : Option (List ℕ) → Type 0
IsNamespace None = Unit {0}
IsNamespace (Some name) = IsPartialName name
