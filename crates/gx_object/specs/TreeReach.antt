-- How an iterator over a tree came to where it is. No public clause speaks of this.
use Rattle.std.specs.Prelude.{◌≡◌, ℕ, ◌≤◌, Bool, List, length, take, Some, None, if◌then◌else◌}
use Rattle.gx_object.specs.declared.tree.Entry.{Entry}
use Rattle.gx_object.specs.PartsRead.{ObjectText, PartsRead}
use Rattle.gx_object.specs.TreeSpelling.{SpellsTree}

-- this many entries take up the bytes before the place
pub record HasGiven (text : ObjectText) (at n : ℕ) : Type 0 where
  pub entries : List Entry
  pub within : at ≤ length text.bytes
  pub front : SpellsTree text.hash (take at text.bytes) entries
  pub count : length entries ≡ n
  pub short : n ≤ at

-- how far an iterator has come that has given this many entries, until an error has come
abbrev pub read_at : ObjectText → ℕ → Bool → PartsRead
read_at text n failed = record { text = text; given = if failed then None else Some n }
