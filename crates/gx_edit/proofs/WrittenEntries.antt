-- What is written of a view that stands for a map are the entries of the map's directory.
use Rattle.std.proofs.Common.{◌≡◌, ◌≢◌, ◌∙◌, inl, inr, sym, ap, refl, cond, List, [], ◌∷◌, ℕ, Bool, true, false, true≢false, Option, Some, None, is_some, IsSome}
use Rattle.std.specs.FinMap.{get}
use Rattle.gx_hash.specs.declared.kind.HashKind.{HashKind}
use Rattle.gx_hash.specs.declared.oid.ObjectId.{ObjectId}
use Rattle.gx_object.specs.declared.tree.Entry.{Entry}
use Rattle.gx_object.specs.declared.tree.EntryKind.TheVariants as entry_kind
use Rattle.gx_object.specs.Mode.{mode_of}
use Rattle.gx_store.specs.Content.{Content}
use Rattle.gx_edit.specs.Path.{Path}
use Rattle.gx_edit.specs.PathMap.{PathMap}
use Rattle.gx_edit.specs.CanonicalTree.{Directory, leaf_at, IsCanonical, entries_of, root_of}
use Rattle.gx_edit.specs.CanonicalTree.Directory.{End, File, Sub}
use Rattle.gx_edit.specs.View.{Names, View, is_null, below}
use Rattle.gx_edit.specs.StandsForMap.{HoldsAt, StandsForMap, IsLeafItem, IsTreeItem, map_below}
use Rattle.gx_edit.specs.Written.{IsWritten, entry_for, entry_in}
use Rattle.gx_edit.specs.Written.IsWritten.{written}
use Rattle.gx_edit.specs.declared.leaf.Leaf.{Leaf}
use Rattle.gx_edit.specs.declared.editor.item.Item.{Item}
use Rattle.gx_edit.proofs.DirectoryLemmas.{leaf_at-root, some_leaf, one_directory}
use Rattle.gx_edit.proofs.DirectoryParts.{Part, IsPart, part_at, part_is_part, leaf_in, leaf_of_part, entry_of_part, entry_at, entries_listed}
use Rattle.gx_edit.proofs.NamesLemmas.{not_null_is}
use Rattle.gx_edit.proofs.ViewParts.{same_names, stands_at}
use Rattle.gx_edit.proofs.WrittenLists.{one_list}

-- ---- what is written is written once

-- the entries of loaded directories, or none where nothing is loaded
abbrev pub loaded : Option Names → List Entry → Option (List Entry)
loaded o entries = cond (is_some o) (Some entries) None

same_if : (o : Option Names) (a b : List Entry) → (IsSome o → a ≡ b) → loaded o a ≡ loaded o b
same_if None a b same = refl
same_if (Some names) a b same = ap Some (same refl)

module _ (hash : HashKind) where
  pub written_once : (v : View) (a b : List Entry) → IsWritten hash v a → IsWritten hash v b → a ≡ b
  written_once v a b (written _ names inner _ root deeper list) (written _ others inner' _ root' deeper' list') =
      one_list (entry_in hash v names inner) (entry_in hash v others inner') a b list list'
      (λ n. ap (λ (x : Names). entry_for hash n (get x n) (loaded (v (n ∷ [])) (inner n))) (same_names names others (sym root ∙ root'))
      ∙ ap (entry_for hash n (get others n)) (same_if (v (n ∷ [])) (inner n) (inner' n) (λ there. written_once (below v n) (inner n) (inner' n) (deeper n there) (deeper' n there))))

  -- ---- an entry at a name

  -- an entry that is written of an item has the item's name
  pub filename_of : (n : List ℕ) (item : Option Item) (rows : Option (List Entry)) (e : Entry) → entry_for hash n item rows ≡ Some e → e.filename ≡ n
  filename_of n None rows e is = cc
  filename_of n (Some item) None e is = go (is_null item.id) is
    where
      go : (t : Bool) → cond t None (Some (record { mode = item.mode; filename = n; oid = item.id })) ≡ Some e → e.filename ≡ n
      go true is = cc
      go false is = let one : e ≡ record { mode = item.mode; filename = n; oid = item.id } = cc in ap (λ (x : Entry). x.filename) one
  filename_of n (Some item) (Some []) e is = cc
  filename_of n (Some item) (Some (r ∷ rows)) e is = let one : Some e ≡ entry_for hash n (Some item) (Some (r ∷ rows)) = sym is in go _ one
    where
      go : (x : Entry) → Some e ≡ Some x → e.filename ≡ x.filename
      go x same = let one : e ≡ x = cc in ap (λ (y : Entry). y.filename) one

  same_entry : (n : List ℕ) (mode : ℕ) (id : ObjectId) (inner : Directory) → mode ≡ mode_of entry_kind.Tree → id ≡ root_of hash inner
      → ◌≡◌ {A = Option Entry} (Some (record { mode = record { value = mode }; filename = n; oid = id })) (entry_of_part hash n (Some (inr inner)))
  same_entry n mode id inner m i = ap (λ x. Some (record { mode = record { value = x }; filename = n; oid = id })) m ∙ ap (λ x. Some (record { mode = record { value = mode_of entry_kind.Tree }; filename = n; oid = x })) i

  -- a directory that is not empty has entries
  some_entries : (n : List ℕ) (item : Item) (inner : Directory) → inner ≢ End → item.mode.value ≡ mode_of entry_kind.Tree → entry_for hash n (Some item) (Some (entries_of hash inner)) ≡ entry_of_part hash n (Some (inr inner))
  some_entries n item End some mode = absurd (some refl)
  some_entries n item (File m x rest) some mode = same_entry n item.mode.value (root_of hash (File m x rest)) (File m x rest) mode refl
  some_entries n item (Sub m inner rest) some mode = same_entry n item.mode.value (root_of hash (Sub m inner rest)) (Sub m inner rest) mode refl

  module _ (content : Content) where
    -- what is written of an item is the entry of the part that stands there
    abbrev IsEntryOf : Option Names → Option Item → List Entry → List ℕ → Part → Type 0
    IsEntryOf o item rows n part = entry_for hash n item (loaded o rows) ≡ entry_of_part hash n part

    no_leaves : (f : PathMap) (part : Part) → IsPart part → ((q : Path) → f q ≡ leaf_in part q) → ((q : Path) → f q ≡ None) → part ≡ None
    no_leaves f None sound look none = refl
    no_leaves f (Some (inl x)) sound look none = absurd (let e : Some x ≡ None = sym (look []) ∙ none [] in cc)
    no_leaves f (Some (inr inner)) sound look none =
        let s = some_leaf inner sound.1 sound.0 in
        absurd (let e : Some s.2 ≡ None = sym s.3 ∙ sym (look (s.0 ∷ s.1)) ∙ none (s.0 ∷ s.1) in cc)

    leaf_entry : (item : Item) (f : PathMap) (n : List ℕ) (rows : List Entry) (part : Part) → IsLeafItem item f → IsPart part → ((q : Path) → f q ≡ leaf_in part q) → IsEntryOf None (Some item) rows n part
    leaf_entry item f n rows None l sound look = absurd (let e : Some l.leaf ≡ None = sym l.here ∙ look [] in cc)
    leaf_entry item f n rows (Some (inr inner)) l sound look = absurd (let e : Some l.leaf ≡ None = sym l.here ∙ look [] ∙ leaf_at-root inner in cc)
    leaf_entry item f n rows (Some (inl x)) l sound look =
        ap (λ t. cond t None (Some (record { mode = item.mode; filename = n; oid = item.id }))) (ap (λ (i : Item). is_null i.id) l.is ∙ not_null_is l.leaf.id l.good.id)
        ∙ ap (λ (i : Item). Some (record { mode = i.mode; filename = n; oid = i.id })) l.is
        ∙ ap (λ (y : Leaf). Some (record { mode = y.mode; filename = n; oid = y.id })) (let e : Some l.leaf ≡ Some x = sym l.here ∙ look [] in let one : l.leaf ≡ x = cc in one)

    tree_entry : (item : Item) (f : PathMap) (n : List ℕ) (rows : List Entry) (part : Part) → IsTreeItem hash content item f → IsPart part → ((q : Path) → f q ≡ leaf_in part q) → IsEntryOf None (Some item) rows n part
    tree_entry item f n rows None t sound look = absurd (true≢false (sym t.some.1 ∙ ap is_some (look t.some.0)))
    tree_entry item f n rows (Some (inl x)) t sound look =
        absurd (let e : Some x ≡ None = sym (look []) ∙ sym (t.has_map.represents.stands.leaves []) ∙ leaf_at-root t.has_map.represents.directory in cc)
    tree_entry item f n rows (Some (inr inner)) t sound look =
        ap (λ b. cond b None (Some (record { mode = item.mode; filename = n; oid = item.id }))) t.not_null
        ∙ same_entry n item.mode.value item.id inner t.mode (t.has_map.represents.is_root ∙ ap (root_of hash) (one_directory t.has_map.represents.directory inner t.has_map.represents.stands.canonical sound.1 (λ q. t.has_map.represents.stands.leaves q ∙ look q)))

    -- the entries of a loaded directory, by what stands below it
    abbrev pub IsInner : Option Names → PathMap → List Entry → Type 0
    IsInner o f rows = IsSome o → (e : Directory) → IsCanonical e → ((q : Path) → f q ≡ leaf_at e q) → rows ≡ entries_of hash e

    entry_here : (o : Option Names) (item : Option Item) (f : PathMap) (rows : List Entry) (n : List ℕ) (part : Part) → HoldsAt hash content o item f → IsPart part → ((q : Path) → f q ≡ leaf_in part q) → IsInner o f rows → IsEntryOf o item rows n part
    entry_here None None f rows n part h sound look inner = ap (entry_of_part hash n) (sym (no_leaves f part sound look h))
    entry_here None (Some item) f rows n part (inl l) sound look inner = leaf_entry item f n rows part l sound look
    entry_here None (Some item) f rows n part (inr (inl p)) sound look inner =
        ap (λ t. cond t None (Some (record { mode = item.mode; filename = n; oid = item.id }))) p.null ∙ ap (entry_of_part hash n) (sym (no_leaves f part sound look p.nowhere))
    entry_here None (Some item) f rows n part (inr (inr t)) sound look inner = tree_entry item f n rows part t sound look
    entry_here (Some names) None f rows n part h sound look inner = absurd h
    entry_here (Some names) (Some item) f rows n None h sound look inner = ap (λ es. entry_for hash n (Some item) (Some es)) (inner refl End tt look)
    entry_here (Some names) (Some item) f rows n (Some (inl x)) h sound look inner = absurd (let e : Some x ≡ None = sym (look []) ∙ h.1 in cc)
    entry_here (Some names) (Some item) f rows n (Some (inr d)) h sound look inner = ap (λ es. entry_for hash n (Some item) (Some es)) (inner refl d sound.1 look) ∙ some_entries n item d sound.0 h.0

    pub written_entries : (v : View) (entries : List Entry) → IsWritten hash v entries → (m : PathMap) (d : Directory) → StandsForMap hash content v m → IsCanonical d → ((q : Path) → m q ≡ leaf_at d q) → entries ≡ entries_of hash d
    written_entries v entries (written _ names inner _ root deeper list) m d s ok look =
        one_list (entry_in hash v names inner) (entry_at hash d) entries (entries_of hash d) list (entries_listed hash d ok)
        (λ n. entry_here (v (n ∷ [])) (get names n) (map_below m n) (inner n) n (part_at d n) (s.holds [] names root n) (part_is_part d n ok) (λ q. look (n ∷ q) ∙ leaf_of_part d n q ok)
        (λ there e fine same. written_entries (below v n) (inner n) (deeper n there) (map_below m n) e (stands_at hash content v m n s there) fine same))
