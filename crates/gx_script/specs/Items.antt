-- Of what a request is spelled: of lines, and of blocks whose length the line before declares. (Ours; docs/SCRIPT.md.)
use Rattle.std.specs.Prelude.{◌≢◌, ℕ, List, [], ◌∷◌, ◌++◌, length}
use Rattle.std.specs.List.{flat_map, AllByRecursion}

-- A line without its newline, or a block of bytes.
pub data Item : Type 0 where
  Line : List ℕ → Item
  Block : List ℕ → Item

-- A newline ends a line, and stands after a block.
abbrev pub ended : List ℕ → List ℕ
ended text = text ++ 10 ∷ []

-- A line and a block are followed by a newline.
abbrev pub item_text : Item → List ℕ
item_text (Line bytes) = ended bytes
item_text (Block bytes) = ended bytes

-- Lines and blocks, one after the other.
abbrev pub items_text : List Item → List ℕ
items_text items = flat_map item_text items

-- Fields that a space stands before.
abbrev pub spaced : List (List ℕ) → List ℕ
spaced fields = flat_map (λ field. 32 ∷ field) fields

-- The bytes have no such byte.
abbrev pub Without : ℕ → List ℕ → Type 0
Without byte bytes = AllByRecursion (λ b. b ≢ byte) bytes

-- The bytes fit one line.
abbrev pub NoNewline : List ℕ → Type 0
NoNewline bytes = Without 10 bytes

-- A field of a line: bytes without space and newline.
pub record IsField (bytes : List ℕ) : Type 0 where
  pub whole : Without 32 bytes
  pub open_line : NoNewline bytes

-- The most bytes of a line before its newline.
abbrev pub line_limit : ℕ
line_limit = 65536

-- The most bytes of a block.
abbrev pub block_limit : ℕ
block_limit = 268435456

-- The most bytes of all blocks of a request together.
abbrev pub blocks_limit : ℕ
blocks_limit = 1073741824

-- The most edits of a commit.
abbrev pub edit_limit : ℕ
edit_limit = 65536

-- The most parents of a commit.
abbrev pub parent_limit : ℕ
parent_limit = 1024

-- The most ids in the line of a request.
abbrev pub id_limit : ℕ
id_limit = 1024
