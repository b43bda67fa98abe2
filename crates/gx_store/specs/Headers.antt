-- What a header says of an object.
use Rattle.std.specs.Prelude.{ℕ, List, length}
use Rattle.gx_object.specs.declared.kind.Kind.{Kind}
use Rattle.gx_store.specs.declared.traits.Header.{Header}

-- An object's header has its kind and its size in bytes. (Git, "Git Internals - Git Objects")
abbrev pub header_of : Kind × List ℕ → Header
header_of object = record { kind = object.0; size = length object.1 }
