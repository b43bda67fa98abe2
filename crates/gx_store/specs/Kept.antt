-- The content that a tree map of objects has.
use Rattle.std.specs.Prelude.{ℕ, List}
use Rattle.std.specs.FinMap.{from_entries}
use Rattle.std.specs.BTreeMap.{BTreeMap}
use Rattle.gx_hash.specs.declared.oid.ObjectId.{ObjectId}
use Rattle.gx_object.specs.declared.kind.Kind.{Kind}
use Rattle.gx_store.specs.Content.{Content}

-- the content of a tree map
abbrev pub content_of : BTreeMap ObjectId (Kind × List ℕ) → Content
content_of map = from_entries map.entries
