-- The modes of tree entries.
use Rattle.std.specs.Prelude.{ℕ, List, codes, Bool, ◌==◌, if◌then◌else◌, bit_and}
use Rattle.gx_object.specs.declared.tree.EntryKind.{EntryKind}
use Rattle.gx_object.specs.declared.tree.EntryKind.TheVariants.{Tree, Blob, BlobExecutable, Link, Commit}

-- In octal: 40000, 100644, 100755, 120000 and 160000. (Git, git-fast-import, "filemodify")
abbrev pub mode_of : EntryKind → ℕ
mode_of Tree = 16384
mode_of Blob = 33188
mode_of BlobExecutable = 33261
mode_of Link = 40960
mode_of Commit = 57344

-- the bits of a mode that say of what type its entry is, in octal 170000 (inode(7), S_IFMT)
abbrev pub type_bits : ℕ → ℕ
type_bits mode = bit_and mode 0xf000

-- whether an entry with this mode is a directory: its type is 040000 (inode(7), S_IFDIR)
abbrev pub is_tree_mode : ℕ → Bool
is_tree_mode mode = type_bits mode == 0x4000

-- Type 100000 is a file, which is executable where its owner may execute it (bit 100), and 120000 a link. (inode(7),
-- S_IFREG, S_IXUSR, S_IFLNK)
-- An entry of any other type is taken for a commit. (gix_object::tree::EntryMode::kind)
abbrev pub kind_of_mode : ℕ → EntryKind
kind_of_mode mode =
    if is_tree_mode mode then Tree
    else if type_bits mode == 0x8000 then (if bit_and mode 0x40 == 0 then Blob else BlobExecutable)
    else if type_bits mode == 0xa000 then Link
    else Commit

-- what a listing calls an entry of this kind
abbrev pub entry_kind_name : EntryKind → List ℕ
entry_kind_name Tree = codes "tree"
entry_kind_name Blob = codes "blob"
entry_kind_name BlobExecutable = codes "exe"
entry_kind_name Link = codes "link"
entry_kind_name Commit = codes "commit"
