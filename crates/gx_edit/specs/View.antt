-- What an editor of a tree holds: the directories that it has loaded, and what edits make of them.
use Rattle.std.specs.Prelude.{◌≡◌, ℕ, Bool, false, if◌then◌else◌, List, [], ◌∷◌}
use Rattle.std.specs.Prelude.{Option, Some, None, is_some, bytes_eq, option_map, IfSome}
use Rattle.std.specs.FinMap.{FinMap, get, insert, remove, empty}
use Rattle.gx_hash.specs.declared.kind.HashKind.{HashKind}
use Rattle.gx_hash.specs.declared.oid.ObjectId.{ObjectId}
use Rattle.gx_hash.specs.HashKind.{kind_of}
use Rattle.gx_hash.specs.ObjectId.{null_id}
use Rattle.gx_rules.specs.Name.{name_cmp}
use Rattle.gx_object.specs.declared.tree.Entry.{Entry}
use Rattle.gx_object.specs.declared.tree.EntryKind.{EntryKind}
use Rattle.gx_object.specs.declared.tree.EntryKind.TheVariants as entry_kind
use Rattle.gx_object.specs.Mode.{mode_of, is_tree_mode}
use Rattle.gx_hash.specs.ObjectIds.{id_eq}
use Rattle.gx_store.specs.Content.{Content}
use Rattle.gx_store.specs.State.{StoreState}
use Rattle.gx_edit.specs.Path.{Path}
use Rattle.gx_edit.specs.StoredTree.{HasEntries}
use Rattle.gx_edit.specs.declared.editor.item.Item.{Item}

-- a directory: what stands at each of its names
abbrev pub Names : Type 0
Names = FinMap name_cmp Item

-- The loaded directories by their paths. The root's path is empty.
abbrev pub View : Type 0
View = Path → Option Names

-- What the entries of a tree say of its names. Of entries with one name the first counts.
-- (gix, gix_object::tree::Editor)
abbrev pub names_of : List Entry → Names
names_of [] = empty
names_of (entry ∷ entries) = insert (names_of entries) entry.filename (record { mode = entry.mode; id = entry.oid })

-- the item of an entry of this kind with this id
abbrev pub item_of_kind : EntryKind → ObjectId → Item
item_of_kind kind id = record { mode = record { value = mode_of kind }; id = id }

-- An item with the null id is a placeholder, which is not written. (gix, gix_object::tree::Editor)
abbrev pub is_null : ObjectId → Bool
is_null id = id_eq id (null_id (kind_of id))

-- the item is a directory's
abbrev pub leads : Option Item → Bool
leads None = false
leads (Some item) = is_tree_mode item.mode.value

-- what stands at a name of a directory, where there is one
abbrev pub item_in : Option Names → List ℕ → Option Item
item_in None n = None
item_in (Some names) n = get names n

-- one directory, in which no other is loaded
abbrev pub only : Names → View
only names [] = Some names
only names (c ∷ q) = None

-- no directory is loaded
abbrev pub nothing_loaded : View
nothing_loaded q = None

-- the view of a directory of this name
abbrev pub below : View → List ℕ → View
below v n q = v (n ∷ q)

-- the view with the root directory changed
abbrev pub with_root : View → (Names → Names) → View
with_root v change [] = option_map change (v [])
with_root v change (c ∷ q) = v (c ∷ q)

-- another view in place of a directory of this name
abbrev pub with_below : View → List ℕ → View → View
with_below v n w [] = v []
with_below v n w (c ∷ q) = if bytes_eq n c then w q else v (c ∷ q)

-- The view without what is loaded at a name and below it. (gix, gix_object::tree::Editor)
abbrev pub forgotten : View → List ℕ → View
forgotten v n = with_below v n nothing_loaded

-- ---- loading

-- Each tree that is stored is loaded as its entries say.
abbrev pub IsLoad : HashKind → Content → (ObjectId → Names) → Type 0
IsLoad hash content load =
    (id : ObjectId) (entries : List Entry) → HasEntries hash content id entries → load id ≡ names_of entries

-- what holds of whatever loads the trees, where the store tells what it holds
abbrev pub WhereLoaded : StoreState → ((ObjectId → Names) → Type 0) → Type 0
WhereLoaded state P =
    IfSome state.content (λ content. (load : ObjectId → Names) → IsLoad state.hash content load → P load)

-- ---- edits

-- a directory that is made for what is put into it; it has no tree of its own yet
abbrev pub new_tree : HashKind → Item
new_tree hash = item_of_kind entry_kind.Tree (null_id hash)

module _ (hash : HashKind) (load : ObjectId → Names) where
  -- what a directory holds once it is loaded: its tree's names, and none where a leaf stands, or nothing, or a
  -- placeholder
  abbrev pub names_for : Option Item → Names
  names_for None = empty
  names_for (Some item) =
      if is_tree_mode item.mode.value then (if is_null item.id then empty else load item.id) else empty

  -- the names with a directory's item at this one; a leaf makes way for it
  abbrev pub with_tree : List ℕ → Names → Names
  with_tree n names = if leads (get names n) then names else insert names n (new_tree hash)

  -- The view with the directory of this name loaded. One that is loaded stays as it is.
  abbrev pub opened : View → List ℕ → View
  opened v n =
      if is_some (v (n ∷ [])) then v
      else with_below (with_root v (with_tree n)) n (only (names_for (item_in (v []) n)))

  -- the view with each directory on the path loaded
  abbrev pub opened_along : View → Path → View
  opened_along v [] = v
  opened_along v (n ∷ d) = with_below (opened v n) n (opened_along (below (opened v n) n) d)

  -- The item is put at the path, in place of what stood there, and what was loaded there and below is forgotten. Each
  -- directory on the way is loaded, and a leaf on the way becomes one. (git-fast-import(1), "filemodify")
  abbrev pub upserted : View → Path → Item → View
  upserted v [] item = v
  upserted v (n ∷ []) item = forgotten (with_root v (λ names. insert names n item)) n
  upserted v (n ∷ c ∷ p) item = with_below (opened v n) n (upserted (below (opened v n) n) (c ∷ p) item)

  -- What stands at the path goes, with all below it. Directories on the way are loaded as far as there are any.
  -- (git-fast-import(1), "filedelete")
  abbrev pub removed : View → Path → View
  removed v [] = v
  removed v (n ∷ []) = forgotten (with_root v (λ names. remove names n)) n
  removed v (n ∷ c ∷ p) =
      if leads (item_in (v []) n) then with_below (opened v n) n (removed (below (opened v n) n) (c ∷ p)) else v
