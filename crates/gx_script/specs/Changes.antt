-- What the lines among the edits of a commit say.
use Rattle.std.specs.Prelude.{◌≡◌, ◌≢◌, ℕ, ◌≤◌, List, [], ◌∷◌}
use Rattle.gx_edit.specs.declared.path_edit.PathEdit.{PathEdit}
use Rattle.gx_hash.specs.ObjectId.{null_id}
use Rattle.gx_hash.specs.declared.kind.HashKind.{HashKind}
use Rattle.gx_hash.specs.declared.oid.ObjectId.{ObjectId}
use Rattle.gx_script.specs.declared.change.PutKind.{PutKind}
use Rattle.gx_script.specs.Commits.{put_line, module_line, drop_line, edit_items, IsEdit}
use Rattle.gx_script.specs.Fields.{IsId}
use Rattle.gx_script.specs.Grammar.{put_word}
use Rattle.gx_script.specs.Items.{Line, block_limit}

-- The line puts no file, executable file or link whose block is within its limit.
abbrev pub IsNoPut : List ℕ → Type 0
IsNoPut line = (kind : PutKind) (size : ℕ) (path : List ℕ) → size ≤ block_limit
    → line ≡ put_line (put_word kind) size path → ⊥

-- The line puts no submodule.
abbrev pub IsNoModule : HashKind → List ℕ → Type 0
IsNoModule hash line = (id : ObjectId) (path : List ℕ) → IsId hash id → id ≢ null_id hash
    → line ≡ module_line id path → ⊥

-- The line drops nothing.
abbrev pub IsNoDrop : List ℕ → Type 0
IsNoDrop line = (path : List ℕ) → line ≡ drop_line path → ⊥

-- An edit without a block.
abbrev pub SaysEdit : HashKind → PathEdit → List ℕ → Type 0
SaysEdit hash edit line = IsEdit hash edit × (edit_items edit ≡ Line line ∷ [])

-- A line puts nothing for which there is room, and has no other edit.
pub record IsNoEdit (hash : HashKind) (room : ℕ) (line : List ℕ) : Type 0 where
  pub put : (kind : PutKind) (size : ℕ) (path : List ℕ) → size ≤ block_limit → size ≤ room
      → line ≡ put_line (put_word kind) size path → ⊥
  pub whole : IsNoModule hash line
  pub drop : IsNoDrop line
