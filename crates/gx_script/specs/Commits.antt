-- The form of commits. (Ours; docs/SCRIPT.md.)
use Rattle.std.specs.Prelude.{◌≢◌, ℕ, ◌≤◌, Bool, true, false, List, [], ◌∷◌, ◌++◌, length, codes, map}
use Rattle.std.specs.Fmt.{decimal}
use Rattle.std.specs.List.{flat_map, AllByRecursion}
use Rattle.gx_edit.specs.declared.path_edit.PathEdit.{PathEdit}
use Rattle.gx_edit.specs.declared.path_edit.PathEdit.TheVariants.{File, Link, Module, Remove}
use Rattle.gx_hash.specs.ObjectId.{hex_of, null_id}
use Rattle.gx_hash.specs.declared.kind.HashKind.{HashKind}
use Rattle.gx_hash.specs.declared.oid.ObjectId.{ObjectId}
use Rattle.gx_rules.specs.Name.{IsFullName}
use Rattle.gx_script.specs.declared.request.CommitRequest.{CommitRequest}
use Rattle.gx_script.specs.Fields.{IsId, who_text, IsIdentity, author_word, committer_word, message_line, end_line}
use Rattle.gx_script.specs.Items.{Item, Line, Block, NoNewline, edit_limit, parent_limit}

-- A commit begins with the name of its reference.
abbrev pub commit_line : List ℕ → List ℕ
commit_line name = codes "commit " ++ name

-- The line of a parent.
abbrev pub parent_item : ObjectId → Item
parent_item id = Line (codes "parent " ++ hex_of id)

-- What is put: a file, one that can be executed, or a link.
abbrev pub file_word : Bool → List ℕ
file_word false = codes "file"
file_word true = codes "exec"

-- The path is the rest of the line.
abbrev pub put_line : List ℕ → ℕ → List ℕ → List ℕ
put_line word size path = codes "put " ++ (word ++ 32 ∷ (decimal size ++ 32 ∷ path))

-- A submodule is put by its id, and has no block.
abbrev pub module_line : ObjectId → List ℕ → List ℕ
module_line id path = codes "module " ++ (hex_of id ++ 32 ∷ path)

-- What stands at a path, and below it, is dropped by its path.
abbrev pub drop_line : List ℕ → List ℕ
drop_line path = codes "drop " ++ path

-- The line of an edit, and after that of a file or a link the block of its bytes.
abbrev pub edit_items : PathEdit → List Item
edit_items (File path bytes executable) = Line (put_line (file_word executable) (length bytes) path) ∷ Block bytes ∷ []
edit_items (Link path bytes) = Line (put_line (codes "link") (length bytes) path) ∷ Block bytes ∷ []
edit_items (Module path id) = Line (module_line id path) ∷ []
edit_items (Remove path) = Line (drop_line path) ∷ []

-- The edits of a commit in their order, and the end.
abbrev pub edits_items : List PathEdit → List Item
edits_items edits = flat_map edit_items edits ++ Line end_line ∷ []

-- The message of a commit, and its edits.
abbrev pub content_items : List ℕ → List PathEdit → List Item
content_items message edits = Line (message_line (length message)) ∷ Block message ∷ edits_items edits

-- A commit from its first line to its last.
abbrev pub commit_items : CommitRequest → List Item
commit_items request =
    Line (commit_line request.name) ∷ Line (author_word ++ who_text request.author)
    ∷ Line (committer_word ++ who_text request.committer)
    ∷ (map parent_item request.parents ++ content_items request.message request.edits)

-- A path fits a line. A submodule's id is one of the kind that names an object.
abbrev pub IsEdit : HashKind → PathEdit → Type 0
IsEdit hash (File path bytes executable) = NoNewline path
IsEdit hash (Link path bytes) = NoNewline path
IsEdit hash (Module path id) = IsId hash id × (id ≢ null_id hash) × NoNewline path
IsEdit hash (Remove path) = NoNewline path

-- The name is a full one, the ids are of the kind, and parents and edits are within their limits.
pub record IsCommit (hash : HashKind) (request : CommitRequest) : Type 0 where
  pub name : IsFullName request.name
  pub author : IsIdentity request.author
  pub committer : IsIdentity request.committer
  pub ids : AllByRecursion (IsId hash) request.parents
  pub parents : length request.parents ≤ parent_limit
  pub edits : AllByRecursion (IsEdit hash) request.edits
  pub count : length request.edits ≤ edit_limit
