-- The forms of notes. (Ours; docs/SCRIPT.md.)
use Rattle.std.specs.Prelude.{ℕ, List, [], ◌∷◌, ◌++◌, length, codes}
use Rattle.std.specs.Fmt.{decimal}
use Rattle.std.specs.List.{AllByRecursion}
use Rattle.gx_hash.specs.ObjectId.{hex_of}
use Rattle.gx_hash.specs.declared.kind.HashKind.{HashKind}
use Rattle.gx_hash.specs.declared.oid.ObjectId.{ObjectId}
use Rattle.gx_rules.specs.Name.{IsPartialName}
use Rattle.gx_script.specs.declared.request.NoteRequest.{NoteRequest}
use Rattle.gx_script.specs.Fields.{IsId}
use Rattle.gx_script.specs.Items.{Item, Line, Block, IsField, spaced}

-- A note to be put declares the length of its block.
abbrev pub note_set_line : List ℕ → ObjectId → ℕ → List ℕ
note_set_line name object size = codes "note-set " ++ (name ++ 32 ∷ (hex_of object ++ 32 ∷ decimal size))

-- A note to be put is its line and its block.
abbrev pub note_items : NoteRequest → List Item
note_items request =
    Line (note_set_line request.reference request.object (length request.note)) ∷ Block request.note ∷ []

-- The name of a notes reference is a partial one, and the id of the kind.
abbrev pub IsNote : HashKind → List ℕ → ObjectId → Type 0
IsNote hash reference object = IsPartialName reference × IsId hash object

-- A note to be taken away has no block.
abbrev pub note_drop_line : List ℕ → ObjectId → List ℕ
note_drop_line reference object = codes "note-drop " ++ (reference ++ 32 ∷ hex_of object)

-- A pattern may have no bytes.
abbrev pub note_get_line : ObjectId → List (List ℕ) → List ℕ
note_get_line object patterns = codes "note-get " ++ (hex_of object ++ spaced patterns)

-- A pattern is a field.
abbrev pub IsNoteGet : HashKind → ObjectId → List (List ℕ) → Type 0
IsNoteGet hash object patterns = IsId hash object × AllByRecursion IsField patterns
