-- How an iterator over a commit's parents came to where it is. No public clause speaks of this.
use Rattle.std.specs.Prelude.{ℕ, ◌+◌, ◌≤◌, List, length, drop, Some}
use Rattle.gx_object.specs.CommitLines.{HasParents}
use Rattle.gx_object.specs.ParentIds.{HasParentsInFront}
use Rattle.gx_object.specs.PartsRead.{ObjectText, PartsRead}

-- this many parents were given, and the others begin what is left of the bytes
pub record HasLeft (text : ObjectText) (rest : List ℕ) (n : ℕ) : Type 0 where
  pub short : n + length rest ≤ length text.bytes
  pub left : (parents : List (List ℕ)) → HasParentsInFront text.hash text.bytes parents
      → (more : List ℕ) × HasParents text.hash rest (drop n parents) more

-- how far an iterator has come that has given this many parents
abbrev pub read_at : ObjectText → ℕ → PartsRead
read_at text n = record { text = text; given = Some n }
