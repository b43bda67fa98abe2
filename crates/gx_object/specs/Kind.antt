-- What the kinds of objects are called.
use Rattle.std.specs.Prelude.{ℕ, List, codes, Option, Some, None, if◌then◌else◌}
use Rattle.std.specs.Str.{bytes_eq}
use Rattle.gx_object.specs.declared.kind.Kind.{Kind}
use Rattle.gx_object.specs.declared.kind.Kind.TheVariants.{Blob, Tree, Commit, Tag}

-- An object's header begins with the name of its kind. (Git, "Git Internals - Git Objects")
abbrev pub kind_name : Kind → List ℕ
kind_name Blob = codes "blob"
kind_name Tree = codes "tree"
kind_name Commit = codes "commit"
kind_name Tag = codes "tag"

-- the kind that has this name
abbrev pub kind_named : List ℕ → Option Kind
kind_named name =
    if bytes_eq name (codes "blob") then Some Blob
    else if bytes_eq name (codes "tree") then Some Tree
    else if bytes_eq name (codes "commit") then Some Commit
    else if bytes_eq name (codes "tag") then Some Tag
    else None
