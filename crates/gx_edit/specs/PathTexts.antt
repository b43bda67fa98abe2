-- Path maps by the bytes of their paths, for the functions that look into the tree map.
use Rattle.std.specs.Prelude.{ℕ, Bool, false, ◌==◌, ◌&&◌, if◌then◌else◌, List, [], ◌∷◌, Option, None, bytes_eq, map}
use Rattle.std.specs.List.{list_any}
use Rattle.std.specs.Global.{Vec}
use Rattle.std.specs.Map.{lookup}
use Rattle.std.specs.BTreeMap.{BTreeMap}
use Rattle.gx_edit.specs.PathList.{PathList}
use Rattle.gx_edit.specs.declared.leaf.Leaf.{Leaf}

-- entries of a tree map as paths with their leaves
abbrev pub rows_in : List (Vec ℕ × Leaf) → PathList
rows_in es = map (λ e. (e.0.items, e.1)) es

-- the paths of a tree map, with their leaves
abbrev pub rows_of : BTreeMap (Vec ℕ) Leaf → PathList
rows_of m = rows_in m.entries

-- the leaf at the path with these bytes
abbrev pub leaf_at_text : PathList → List ℕ → Option Leaf
leaf_at_text rows text = lookup (bytes_eq text) rows

-- the second text goes on after the first with a slash
abbrev pub is_below : List ℕ → List ℕ → Bool
is_below [] [] = false
is_below [] (b ∷ q) = b == 47
is_below (a ∷ p) [] = false
is_below (a ∷ p) (b ∷ q) = a == b && is_below p q

-- a look-up without some texts
abbrev pub without : List (List ℕ) → (List ℕ → Option Leaf) → List ℕ → Option Leaf
without texts look text = if list_any (bytes_eq text) texts then None else look text
