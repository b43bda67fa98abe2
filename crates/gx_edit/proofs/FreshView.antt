-- A view of a tree that was just read.
use Rattle.std.proofs.Common.{◌≡◌, ◌≢◌, inl, inr, ◌∙◌, ◌++◌, sym, ap, refl, subst, cond, List, [], ◌∷◌, ℕ, Bool, true, false, true≢false, Option, Some, None, is_some}
use Rattle.std.specs.Str.{bytes_eq}
use Rattle.std.specs.List.{AllByRecursion}
use Rattle.std.specs.FinMap.{get, insert, empty, get-empty}
use Rattle.gx_hash.specs.declared.kind.HashKind.{HashKind}
use Rattle.gx_hash.specs.declared.oid.ObjectId.{ObjectId}
use Rattle.gx_hash.specs.HashKind.{kind_of}
use Rattle.gx_hash.specs.ObjectId.{null_id}
use Rattle.gx_rules.specs.Name.{name_cmp}
use Rattle.gx_object.specs.declared.kind.Kind.{Kind}
use Rattle.gx_object.specs.declared.kind.Kind.TheVariants as kind
use Rattle.gx_object.specs.declared.tree.Entry.{Entry}
use Rattle.gx_object.specs.declared.tree.EntryKind.TheVariants as entry_kind
use Rattle.gx_object.specs.Mode.{mode_of}
use Rattle.gx_object.specs.Tree.{tree_bytes}
use Rattle.gx_object.specs.TreeSpelling.{SpellsTree}
use Rattle.gx_object.specs.Laws.{tree_once, written_tree}
use Rattle.gx_store.specs.Content.{Content, HoldsAll, lookup}
use Rattle.gx_edit.specs.Path.{Path}
use Rattle.gx_edit.specs.PathMap.{PathMap}
use Rattle.gx_edit.specs.CanonicalTree.{Directory, leaf_at, IsCanonical, entries_of, entries_within, root_of, tree_of, trees_of, trees_below}
use Rattle.gx_edit.specs.CanonicalTree.Directory.{End, File, Sub}
use Rattle.gx_edit.specs.SharedIds.{HasIdsOf}
use Rattle.gx_edit.specs.StoredTree.{HasEntries}
use Rattle.gx_edit.specs.View.{Names, IsLoad, names_of, only}
use Rattle.gx_edit.specs.StandsForMap.{HoldsAt, StandsForMap, HasMap, IsNowhere, IsTreeItem, item_of, map_below}
use Rattle.gx_edit.specs.declared.leaf.Leaf.{Leaf}
use Rattle.gx_edit.specs.declared.editor.item.Item.{Item}
use Rattle.gx_edit.proofs.PathLemmas.{bytes_eq-is}
use Rattle.gx_edit.proofs.DirectoryLemmas.{leaf_at-root, Follow-none, some_leaf, one_directory}
use Rattle.gx_edit.proofs.EntryOrder.{All-behind}
use Rattle.gx_edit.proofs.RootLemmas.{Fits, FitAll, fit_all, all_spelled, last, held}
use Rattle.gx_edit.proofs.NamesLemmas.{itself, inserted_here, inserted_elsewhere, not_null_is}
use Rattle.gx_edit.proofs.ViewParts.{from_parts}

pub All-before : {A : Type 0} (P : A → Type 0) (xs ys : List A) → AllByRecursion P (xs ++ ys) → AllByRecursion P xs
All-before P [] ys h = tt
All-before P (x ∷ xs) ys h = (h.0, All-before P xs ys h.1)

-- ---- ids of a directory's leaves, told of its look-ups

file_ids : (hash : HashKind) (n : List ℕ) (x : Leaf) (rest : Directory) → Fits hash x.id → HasIdsOf hash (leaf_at rest) → HasIdsOf hash (leaf_at (File n x rest))
file_ids hash n x rest fits more [] leaf at = cc
file_ids hash n x rest fits more (c ∷ []) leaf at = go (bytes_eq n c) at
  where
    go : (t : Bool) → cond t (Some x) (leaf_at rest (c ∷ [])) ≡ Some leaf → Fits hash leaf.id
    go true e = let same : x ≡ leaf = cc in subst (λ (l : Leaf). Fits hash l.id) same fits
    go false e = more (c ∷ []) leaf e
file_ids hash n x rest fits more (c ∷ d ∷ p) leaf at = more (c ∷ d ∷ p) leaf at

pub directory_ids : (hash : HashKind) (d : Directory) → FitAll hash d → HasIdsOf hash (leaf_at d)
directory_ids hash End fits p leaf at = cc
directory_ids hash (File n x rest) fits p leaf at = file_ids hash n x rest fits.0 (directory_ids hash rest fits.1) p leaf at
directory_ids hash (Sub n inner rest) fits [] leaf at = cc
directory_ids hash (Sub n inner rest) fits (c ∷ p) leaf at = go (bytes_eq n c) (directory_ids hash inner fits.0 p leaf) (directory_ids hash rest fits.1 (c ∷ p) leaf) at
  where
    go : (t : Bool) → (leaf_at inner p ≡ Some leaf → Fits hash leaf.id) → (leaf_at rest (c ∷ p) ≡ Some leaf → Fits hash leaf.id) → cond t (leaf_at inner p) (leaf_at rest (c ∷ p)) ≡ Some leaf → Fits hash leaf.id
    go true a b e = a e
    go false a b e = b e

-- ---- what a canonical directory has at a name

abbrev pub NotNull : Entry → Type 0
NotNull entry = entry.oid ≢ null_id (kind_of entry.oid)

module _ (hash : HashKind) (content : Content) where
  abbrev Holds : Option Item → PathMap → Type 0
  Holds item m = HoldsAt hash content None item m

  moved : (a b : Option Item) (f g : PathMap) → a ≡ b → f ≡ g → Holds b g → Holds a f
  moved a b f g item map h = subst (λ (o : Option Item). Holds o f) (sym item) (subst (λ (k : PathMap). Holds b k) (sym map) h)

  sub_item : (inner : Directory) → IsCanonical inner → inner ≢ End → FitAll hash inner → AllByRecursion NotNull (entries_within hash inner) → root_of hash inner ≢ null_id (kind_of (root_of hash inner))
      → HoldsAll hash (trees_of hash inner) content → IsTreeItem hash content (record { mode = record { value = mode_of entry_kind.Tree }; id = root_of hash inner }) (leaf_at inner)
  sub_item inner ok some fits own apart stored = record {
    mode = refl;
    not_null = not_null_is (root_of hash inner) apart;
    has_map = record {
      represents = record { directory = inner; stands = record { canonical = ok; leaves = λ p. refl }; is_root = refl; stored = stored };
      ids = directory_ids hash inner fits;
      own = λ e s. subst (λ (d : Directory). AllByRecursion NotNull (entries_within hash d)) (one_directory inner e ok s.canonical (λ p. sym (s.leaves p))) own;
    };
    some = let s = some_leaf inner ok some in (s.0 ∷ s.1, ap is_some s.3);
  }

  pub at_name : (d : Directory) → IsCanonical d → FitAll hash d → AllByRecursion NotNull (entries_within hash d) → HoldsAll hash (trees_below hash d) content → (n : List ℕ) → Holds (get (names_of (entries_of hash d)) n) (map_below (leaf_at d) n)
  at_name End ok fits own stored n = subst (λ (o : Option Item). Holds o (λ q. None)) (sym (get-empty name_cmp n)) (λ q. refl)
  at_name (File m x rest) ok fits own stored n = go (bytes_eq m n) refl (at_name rest ok.2 fits.1 own.1 stored n)
    where
      R : Names
      R = names_of (entries_of hash rest)

      go : (t : Bool) → bytes_eq m n ≡ t → Holds (get R n) (map_below (leaf_at rest) n) → Holds (get (insert R m (item_of x)) n) (map_below (leaf_at (File m x rest)) n)
      go true e ih = subst (λ (b : List ℕ). Holds (get (insert R m (item_of x)) b) (map_below (leaf_at (File m x rest)) b)) (bytes_eq-is m n e)
          (subst (λ (o : Option Item). Holds o (map_below (leaf_at (File m x rest)) m)) (sym (inserted_here R m (item_of x)))
          (inl (record {
            leaf = x;
            is = refl;
            good = record { mode = ok.3; id = own.0 };
            here = ap (λ t. cond t (Some x) (leaf_at rest (m ∷ []))) (itself m);
            below = λ c q. Follow-none m m rest (c ∷ q) ok.1;
          })))
      go false e ih = moved _ _ _ _ (inserted_elsewhere R m n (item_of x) e) (λ i q. same q i) ih
        where
          same : (q : Path) → leaf_at (File m x rest) (n ∷ q) ≡ leaf_at rest (n ∷ q)
          same [] = ap (λ t. cond t (Some x) (leaf_at rest (n ∷ []))) e
          same (c ∷ q) = refl
  at_name (Sub m inner rest) ok fits own stored n = go (bytes_eq m n) refl (at_name rest ok.4 fits.1 more.1 (All-behind _ (trees_of hash inner) (trees_below hash rest) stored) n)
    where
      R : Names
      R = names_of (entries_of hash rest)

      it : Item
      it = record { mode = record { value = mode_of entry_kind.Tree }; id = root_of hash inner }

      more : AllByRecursion NotNull (record { mode = record { value = mode_of entry_kind.Tree }; filename = m; oid = root_of hash inner } ∷ entries_within hash rest)
      more = All-behind NotNull (entries_within hash inner) _ own

      go : (t : Bool) → bytes_eq m n ≡ t → Holds (get R n) (map_below (leaf_at rest) n) → Holds (get (insert R m it) n) (map_below (leaf_at (Sub m inner rest)) n)
      go true e ih = moved _ _ _ (leaf_at inner) (ap (get (insert R m it)) (sym (bytes_eq-is m n e)) ∙ inserted_here R m it) (λ i q. ap (λ t. cond t (leaf_at inner q) (leaf_at rest (n ∷ q))) e i)
          (inr (inr (sub_item inner ok.2 ok.1 fits.0 (All-before NotNull (entries_within hash inner) _ own) more.0 (All-before _ (trees_of hash inner) (trees_below hash rest) stored))))
      go false e ih = moved _ _ _ _ (inserted_elsewhere R m n it e) (λ i q. ap (λ t. cond t (leaf_at inner q) (leaf_at rest (n ∷ q))) e i) ih

-- ---- a view of an empty directory

pub empty_stands : (hash : HashKind) (content : Content) (m : PathMap) → IsNowhere m → StandsForMap hash content (only empty) m
empty_stands hash content m none = from_parts hash content (only empty) m empty (record {
  root = refl;
  no_root = none [];
  at = λ n. subst (λ (o : Option Item). HoldsAt hash content None o (map_below m n)) (sym (get-empty name_cmp n)) (λ q. none (n ∷ q));
  inner = λ n there. absurd (true≢false (sym there));
  closed = λ n e is. refl;
})

-- ---- a view just read

module _ (hash : HashKind) (content : Content) (tree : ObjectId) (m : PathMap) (h : HasMap hash content tree m) where
  abbrev its : Directory
  its = h.represents.directory

  its_fit : FitAll hash its
  its_fit = fit_all hash its h.represents.stands.canonical (λ p leaf at. h.ids p leaf (sym (h.represents.stands.leaves p) ∙ at))

  -- a view of the entries of its directory
  pub directory_stands : StandsForMap hash content (only (names_of (entries_of hash its))) m
  directory_stands = from_parts hash content (only (names_of (entries_of hash its))) m (names_of (entries_of hash its)) (record {
    root = refl;
    no_root = sym (h.represents.stands.leaves []) ∙ leaf_at-root its;
    at = λ n. subst (λ (f : PathMap). HoldsAt hash content None (get (names_of (entries_of hash its)) n) f) (λ i q. h.represents.stands.leaves (n ∷ q) i)
        (at_name hash content its h.represents.stands.canonical its_fit (h.own its h.represents.stands) (All-before _ (trees_below hash its) (tree_of hash its ∷ []) h.represents.stored) n);
    inner = λ n there. absurd (true≢false (sym there));
    closed = λ n e none. refl;
  })

  tree_there : lookup content tree ≡ Some (tree_of hash its)
  tree_there = ap (lookup content) h.represents.is_root ∙ held hash content (trees_of hash its) (tree_of hash its) h.represents.stored (last hash (trees_below hash its) (tree_of hash its))

  tree_spelled : SpellsTree hash (tree_bytes (entries_of hash its)) (entries_of hash its)
  tree_spelled = written_tree hash (entries_of hash its) (all_spelled hash its h.represents.stands.canonical its_fit)

  same_bytes : (a b : List ℕ) → ◌≡◌ {A = Option (Kind × List ℕ)} (Some (kind.Tree, a)) (Some (kind.Tree, b)) → a ≡ b
  same_bytes a b e = let pairs : ◌≡◌ {A = Kind × List ℕ} (kind.Tree, a) (kind.Tree, b) = cc in ap (λ (x : Kind × List ℕ). x.1) pairs

  pub read_stands : (entries : List Entry) → HasEntries hash content tree entries → StandsForMap hash content (only (names_of entries)) m
  read_stands entries has = subst (λ es. StandsForMap hash content (only (names_of es)) m) same directory_stands
    where
      bytes_are : tree_bytes (entries_of hash its) ≡ has.bytes
      bytes_are = same_bytes (tree_bytes (entries_of hash its)) has.bytes (sym tree_there ∙ has.stored)

      same : entries_of hash its ≡ entries
      same = tree_once hash has.bytes (entries_of hash its) entries (subst (λ b. SpellsTree hash b (entries_of hash its)) bytes_are tree_spelled) has.spelled

  pub loaded_stands : (load : ObjectId → Names) → IsLoad hash content load → StandsForMap hash content (only (load tree)) m
  loaded_stands load loads = subst (λ (names : Names). StandsForMap hash content (only names) m) (sym (loads tree (entries_of hash its) (record { bytes = tree_bytes (entries_of hash its); stored = tree_there; spelled = tree_spelled }))) directory_stands
