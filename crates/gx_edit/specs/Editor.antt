-- What contracts see of an editor.
use Rattle.std.specs.Prelude.{◌≡◌, ℕ, List, [], ◌∷◌, Option, None, option_map}
use Rattle.bstr.specs.BStr.{bstr_bytes}
use Rattle.gx_hash.specs.declared.kind.HashKind.{HashKind}
use Rattle.gx_object.specs.declared.tree.Entry.{Entry}
use Rattle.gx_store.specs.State.{StoreState}
use Rattle.gx_edit.specs.Path.{Path, components}
use Rattle.gx_edit.specs.StoredTree.{TellsEntries}
use Rattle.gx_edit.specs.Nodes.{places_of, view_at}
use Rattle.gx_object.specs.declared.tree.EntryKind.{EntryKind}
use Rattle.gx_hash.specs.declared.oid.ObjectId.{ObjectId}
use Rattle.gx_edit.specs.View.{Names, View, item_in, item_of_kind, names_of, only, below, upserted}
use Rattle.gx_edit.specs.declared.editor.Editor.{Editor}
use Rattle.gx_edit.specs.declared.editor.entry_view.EntryView.{EntryView}
use Rattle.gx_edit.specs.declared.editor.item.Item.{Item}

-- the kind of its ids
abbrev pub hash_of : Editor → HashKind
hash_of editor = editor.hash

-- the directories that it has loaded
abbrev pub view_of : Editor → View
view_of editor = view_at (places_of editor.nodes.items) 0

-- what is shown of an entry, as the entry that it is
abbrev pub entry_of : EntryView → Entry
entry_of shown = record { mode = shown.mode; filename = bstr_bytes shown.filename; oid = shown.oid }

-- the entry of an item at this name
abbrev pub entry_named : List ℕ → Item → Entry
entry_named n item = record { mode = item.mode; filename = n; oid = item.id }

-- The view is that of a stored tree: of the root its entries are loaded, and nothing below it.
pub record IsTreeView (state : StoreState) (tree : ObjectId) (v : View) : Type 0 where
  pub entries : List Entry
  pub has : TellsEntries state tree entries
  pub fresh : v ≡ only (names_of entries)

-- the entry at a path, where the directory that holds it is loaded
abbrev pub seen : View → Path → Option Entry
seen v [] = None
seen v (n ∷ []) = option_map (entry_named n) (item_in (v []) n)
seen v (n ∷ c ∷ p) = seen (below v n) (c ∷ p)

-- the same at a path as it is written; the empty one is that of the root, which is no entry
abbrev pub seen_at : View → List ℕ → Option Entry
seen_at v [] = None
seen_at v (b ∷ bs) = seen v (components (b ∷ bs))

-- the view with an entry of this kind with this id put at the path
abbrev pub upserted_entry : HashKind → (ObjectId → Names) → View → Path → EntryKind → ObjectId → View
upserted_entry hash load v path kind id = upserted hash load v path (item_of_kind kind id)
