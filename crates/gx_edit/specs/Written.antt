-- What is written of the directories that an editor has loaded.
use Rattle.std.specs.Prelude.{◌≡◌, ◌≢◌, ◌⊎◌, ℕ, false, if◌then◌else◌, List, [], ◌∷◌, ◌++◌, map, Option, Some, None, IsSome, is_some, Contains}
use Rattle.std.specs.List.{AllByRecursion, AllZip, flat_map}
use Rattle.std.specs.List.Sorted.{IsStrictlySortedBy}
use Rattle.std.specs.Ordering.{ordering_then}
use Rattle.std.specs.declared.cmp.Ordering.{Ordering}
use Rattle.std.specs.FinMap.{get}
use Rattle.gx_hash.specs.declared.kind.HashKind.{HashKind}
use Rattle.gx_hash.specs.declared.oid.ObjectId.{ObjectId}
use Rattle.gx_hash.specs.ObjectId.{object_id}
use Rattle.gx_rules.specs.Name.{name_cmp}
use Rattle.gx_object.specs.declared.kind.Kind.{Kind}
use Rattle.gx_object.specs.declared.kind.Kind.TheVariants as kind
use Rattle.gx_object.specs.declared.tree.Entry.{Entry}
use Rattle.gx_object.specs.Kind.{kind_name}
use Rattle.gx_object.specs.Tree.{tree_bytes, sort_key}
use Rattle.gx_edit.specs.Path.{Path, leads_to}
use Rattle.gx_edit.specs.Output.{Output}
use Rattle.gx_edit.specs.View.{Names, View, is_null, below}
use Rattle.gx_edit.specs.declared.editor.item.Item.{Item}

-- ---- the entries of a tree

-- Entries stand in the order of their sort keys, and where these are equal in that of their names. (Git,
-- base_name_compare in read-cache.c; the second rule is ours)
abbrev pub entry_cmp : Entry → Entry → Ordering
entry_cmp a b = ordering_then (name_cmp (sort_key a) (sort_key b)) (name_cmp a.filename b.filename)

-- the entries that stand at names, all of them and no others, in rising order
pub record IsListOf (entry_at : List ℕ → Option Entry) (entries : List Entry) : Type 0 where
  pub rising : IsStrictlySortedBy entry_cmp entries
  pub each : AllByRecursion (λ (entry : Entry). entry_at entry.filename ≡ Some entry) entries
  pub all : (n : List ℕ) (entry : Entry) → entry_at n ≡ Some entry → Contains entries entry

-- the tree object with these entries
abbrev pub tree_with : List Entry → Kind × List ℕ
tree_with entries = (kind.Tree, tree_bytes entries)

-- an item's entry with this id
abbrev pub entry_with : List ℕ → Item → ObjectId → Entry
entry_with n item id = record { mode = item.mode; filename = n; oid = id }

module _ (hash : HashKind) where
  -- the id of that tree
  abbrev pub id_with : List Entry → ObjectId
  id_with entries = object_id hash (kind_name kind.Tree) (tree_bytes entries)

  -- The entry that is written of an item. One whose directory is loaded has the id of that directory's own entries,
  -- and is left out where there are none. All others stay as they are, but placeholders are left out.
  abbrev pub entry_for : List ℕ → Option Item → Option (List Entry) → Option Entry
  entry_for n None inner = None
  entry_for n (Some item) None = if is_null item.id then None else Some (entry_with n item item.id)
  entry_for n (Some item) (Some []) = None
  entry_for n (Some item) (Some (entry ∷ entries)) = Some (entry_with n item (id_with (entry ∷ entries)))

  -- the entry at a name of the view's root, by the entries of the directories that are loaded in it
  abbrev pub entry_in : View → Names → (List ℕ → List Entry) → List ℕ → Option Entry
  entry_in v names inner n = entry_for n (get names n) (if is_some (v (n ∷ [])) then Some (inner n) else None)

  -- What is written of the view's root: the entries at its names, with those that are written of the directories
  -- that are loaded in it.
  pub data IsWritten : View → List Entry → Type 0 where
    written : (v : View) (names : Names) (inner : List ℕ → List Entry) (entries : List Entry)
        → v [] ≡ Some names
        → ((n : List ℕ) → IsSome (v (n ∷ [])) → IsWritten (below v n) (inner n))
        → IsListOf (entry_in v names inner) entries → IsWritten v entries

-- ---- the trees of a view

-- the view of the directory at a path
abbrev pub inside : View → Path → View
inside v p q = v (p ++ q)

-- these entries are written of the directory at the path, as a tree of its own: something is written of it, or it
-- is the root
pub record IsWrittenAt (hash : HashKind) (v : View) (p : Path) (entries : List Entry) : Type 0 where
  pub written : IsWritten hash (inside v p) entries
  pub tree : (p ≡ []) ⊎ (entries ≢ [])

-- nothing is written of the directory at the path, which is not the root
pub record IsLeftOut (hash : HashKind) (v : View) (p : Path) : Type 0 where
  pub below_root : p ≢ []
  pub nothing : IsWritten hash (inside v p) []

-- No path stands after one that leads to it, and none stands twice.
abbrev pub InnerFirst : List Path → Type 0
InnerFirst [] = Unit {0}
InnerFirst (p ∷ paths) = AllByRecursion (λ q. leads_to p q ≡ false) paths × InnerFirst paths

-- What is written of a view: a tree for each loaded directory, those below it first, without those of which nothing
-- is written. The root always has one.
pub record IsOutputOfView (hash : HashKind) (v : View) (output : Output) : Type 0 where
  -- the directories that have trees, in the order of the trees, and what is written of each
  pub paths : List Path
  pub listed : List (List Entry)
  pub each : AllZip (IsWrittenAt hash v) paths listed
  pub inner_first : InnerFirst paths
  pub all : (p : Path) → IsSome (v p) → Contains paths p ⊎ IsLeftOut hash v p
  pub same_hash : output.hash ≡ hash
  pub trees : output.trees ≡ map tree_with listed
  pub entries : output.entries ≡ flat_map (λ entries. entries) listed
  pub root : (entries : List Entry) × IsWritten hash v entries × (output.root ≡ id_with hash entries)
