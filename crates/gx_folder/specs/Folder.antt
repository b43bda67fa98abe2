-- What a store in a folder is known to be.
use Rattle.std.specs.Prelude.{ℕ, true, None, List, codes}
use Rattle.gx_hash.specs.declared.kind.HashKind.{HashKind}
use Rattle.gx_hash.specs.declared.kind.HashKind.TheVariants.{Sha1, Sha256}
use Rattle.gx_store.specs.State.{StoreState}
use Rattle.gx_folder.specs.declared.folder.Folder.{Folder}

-- Nothing is told of what files hold, and each of them may be one that can't be read.
abbrev pub untold : HashKind → ℕ → StoreState
untold hash faults =
    record { hash = hash; content = None; references = None; unreadable = λ _. true; faults = faults }

-- The state of a folder has its kind of ids and its count of faults.
unfoldable pub folder_state : {R : Type 0} → Folder R → StoreState
folder_state folder = untold folder.hash folder.faults

-- The file `format` says which layout the folder has, and of which kind its ids are. (Ours; gitrepository-layout(5),
-- "config", has both in a section of their own)
abbrev pub format_text : HashKind → List ℕ
format_text Sha1 = codes "gx 1 sha1\n"
format_text Sha256 = codes "gx 1 sha256\n"
