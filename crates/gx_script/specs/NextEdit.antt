-- What comes next among the edits of a commit.
use Rattle.std.specs.Prelude.{ℕ, ◌+◌, ◌<◌, List, [], ◌∷◌, Option, Some, None}
use Rattle.gx_edit.specs.declared.path_edit.PathEdit.{PathEdit}
use Rattle.gx_hash.specs.declared.kind.HashKind.{HashKind}
use Rattle.gx_script.specs.Commits.{edit_items, IsEdit}
use Rattle.gx_script.specs.Fields.{end_line}
use Rattle.gx_script.specs.Grammar.{State, AtEdit, AtOver}
use Rattle.gx_script.specs.Items.{Item, Line, edit_limit}

-- An edit, or the end of the request.
abbrev pub found_items : Option PathEdit → List Item
found_items None = Line end_line ∷ []
found_items (Some edit) = edit_items edit

-- After this many edits, with this many bytes left to later blocks.
abbrev pub behind_edit : ℕ → ℕ → Option PathEdit → State
behind_edit count room None = AtOver
behind_edit count room (Some edit) = AtEdit (count + 1) room

-- An edit is one that the commit may still have.
abbrev pub FitsFound : HashKind → ℕ → Option PathEdit → Type 0
FitsFound hash count None = Unit {0}
FitsFound hash count (Some edit) = (count < edit_limit) × IsEdit hash edit
