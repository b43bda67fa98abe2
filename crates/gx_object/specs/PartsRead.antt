-- How far an iterator over the parts of an object has come.
use Rattle.std.specs.Prelude.{ℕ, List, [], Option, Some, None, drop}
use Rattle.gx_hash.specs.declared.kind.HashKind.{HashKind}

-- the bytes of an object, in a repository of this kind
pub record ObjectText : Type 0 where
  pub hash : HashKind
  pub bytes : List ℕ

-- The iterator reads these bytes, and has given this many of their parts, until it has ended.
pub record PartsRead : Type 0 where
  pub text : ObjectText
  pub given : Option ℕ

-- what is left of the parts after those that were given
abbrev pub left_of : {X : Type 0} → Option ℕ → List X → List X
left_of None parts = []
left_of (Some n) parts = drop n parts

-- these bytes, in a repository of this kind
abbrev pub object_text : HashKind → List ℕ → ObjectText
object_text hash bytes = record { hash = hash; bytes = bytes }
