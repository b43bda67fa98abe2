-- The bytes of a tree, and the order of its entries.
use Rattle.std.specs.Prelude.{ℕ, Bool, true, ◌==◌, ◌&&◌, not, List, [], ◌∷◌, ◌++◌, length, false, if◌then◌else◌}
use Rattle.std.specs.Fmt.{digits}
use Rattle.std.specs.List.{flat_map, list_all}
use Rattle.gx_hash.specs.ObjectId.{bytes_of}
use Rattle.gx_object.specs.declared.tree.Entry.{Entry}
use Rattle.gx_object.specs.declared.encode.Field.{Field}
use Rattle.gx_object.specs.declared.encode.Field.TheVariants.{FileName}
use Rattle.gx_object.specs.Mode.{is_tree_mode}

-- a mode as it is written: in octal, without leading zeros
abbrev pub octal_of : ℕ → List ℕ
octal_of mode = digits 8 false mode

-- An entry is its mode in octal, a space, its name, a zero byte and its id's bytes. (Git, "Git Internals - Git
-- Objects", "Tree Objects")
unfoldable pub entry_bytes : Entry → List ℕ
entry_bytes e = octal_of e.mode.value ++ 32 ∷ e.filename ++ 0 ∷ bytes_of e.oid

-- A tree is its entries, one after another.
abbrev pub tree_bytes : List Entry → List ℕ
tree_bytes entries = flat_map entry_bytes entries

-- Git sorts the entries of a tree by these keys: a directory's name counts as if a slash followed it. (Git,
-- base_name_compare in read-cache.c)
abbrev pub sort_key : Entry → List ℕ
sort_key e = if is_tree_mode e.mode.value then e.filename ++ 47 ∷ [] else e.filename

-- A zero byte ends a name, and no name is empty.
abbrev pub is_writable_filename : List ℕ → Bool
is_writable_filename name = not (length name == 0) && list_all (λ b. not (b == 0)) name

-- whether a field of a tree with these entries can be written
abbrev pub is_writable_tree : List Entry → Field → Bool
is_writable_tree entries FileName = list_all (λ e. is_writable_filename e.filename) entries
is_writable_tree entries field = true
