-- The state of a store in memory.
use Rattle.std.specs.Prelude.{Bool, false, Some, nat_eq}
use Rattle.std.specs.List.{list_any}
use Rattle.std.specs.Cmp.Lexicographic.{pointwise}
use Rattle.gx_hash.specs.ObjectIds.{id_eq}
use Rattle.gx_store.specs.State.{StoreState}
use Rattle.gx_store.specs.Kept.{content_of}
use Rattle.gx_store.specs.Slots.{refs_of}
use Rattle.gx_store.specs.declared.memory.Memory.{Memory}
use Rattle.gx_store.specs.declared.error.What.{What}
use Rattle.gx_store.specs.declared.error.What.TheVariants.{Object, Name, Index, Listing, Write}

-- what tests have broken
abbrev pub is_broken : Memory → What → Bool
is_broken m (Object id) = list_any (λ y. id_eq y id) m.broken_objects.items
is_broken m (Name name) = list_any (λ y. pointwise nat_eq y name) m.broken_names.items
is_broken m Index = m.is_index_broken
is_broken m Listing = m.is_listing_broken
is_broken m Write = false

-- A store in memory tells all that it holds.
unfoldable pub memory_state : Memory → StoreState
memory_state m = record {
  hash = m.hash;
  content = Some (content_of m.objects);
  references = Some (refs_of m.slots);
  unreadable = is_broken m;
  faults = m.faults;
}
