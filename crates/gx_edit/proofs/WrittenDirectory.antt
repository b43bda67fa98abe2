-- A view whose written names are names stands for the map of a directory.
use Rattle.std.proofs.Common.{◌≡◌, ◌≢◌, ◌⊎◌, ◌∙◌, ◌++◌, inl, inr, sym, ap, refl, subst, cond, List, [], ◌∷◌, ℕ, Bool, true, false, true≢false, Option, Some, None, is_some, IsSome, Contains, arith}
use Rattle.std.specs.Str.{bytes_eq}
use Rattle.std.specs.List.{AllByRecursion, flat_map}
use Rattle.std.specs.List.Sorted.{IsStrictlySortedBy}
use Rattle.std.specs.Ordering.{is_lt}
use Rattle.std.proofs.lemmas.Bool.{and_parts}
use Rattle.std.specs.declared.cmp.Ordering.TheVariants.{Less}
use Rattle.std.specs.FinMap.{get}
use Rattle.gx_hash.specs.declared.kind.HashKind.{HashKind}
use Rattle.gx_rules.specs.Name.{name_cmp}
use Rattle.gx_object.specs.declared.tree.Entry.{Entry}
use Rattle.gx_object.specs.Tree.{is_writable_filename}
use Rattle.gx_store.specs.Content.{Content}
use Rattle.gx_edit.specs.Path.{Path, IsName}
use Rattle.gx_edit.specs.PathMap.{PathMap}
use Rattle.gx_edit.specs.CanonicalTree.{Directory, leaf_at, IsCanonical, StandsFor, entries_of}
use Rattle.gx_edit.specs.CanonicalTree.Directory.{End, File, Sub}
use Rattle.gx_edit.specs.Output.{Output}
use Rattle.gx_edit.specs.View.{Names, View, is_null, below}
use Rattle.gx_edit.specs.StandsForMap.{HoldsAt, StandsForMap, HasPlainNames, IsNowhere, map_below}
use Rattle.gx_edit.specs.Written.{entry_cmp, IsListOf, IsWritten, IsWrittenAt, IsLeftOut, IsOutputOfView, inside, entry_for, entry_in}
use Rattle.gx_edit.specs.Written.IsWritten.{written}
use Rattle.gx_edit.specs.declared.leaf.Leaf.{Leaf}
use Rattle.gx_edit.specs.declared.editor.item.Item as declared
use Rattle.gx_edit.proofs.DirectoryLemmas.{leaf_at-root, bytes_eq-no, some_leaf}
use Rattle.gx_edit.proofs.ListingLemmas.{has_none}
use Rattle.gx_edit.proofs.MakingLemmas.{Item, IsItem, item_at, entry, key, HasNot, inserted, inserted_canonical, inserted_at}
use Rattle.gx_edit.proofs.EntryOrder.{All-behind}
use Rattle.gx_edit.proofs.FreshView.{All-before}
use Rattle.gx_edit.proofs.NamesLemmas.{itself, not_null_is}
use Rattle.gx_edit.proofs.ViewParts.{stands_at}
use Rattle.gx_edit.proofs.WrittenEntries.{loaded, filename_of, written_once, written_entries}
use Rattle.gx_edit.proofs.WrittenLists.{all_at, all_of, not_below_itself, first_or_later}
use Rattle.gx_edit.proofs.WrittenTrees.{beside, loaded_at}

-- ---- names of a list that rises

abbrev IsOther : List ℕ → List Entry → Type 0
IsOther n es = AllByRecursion (λ (e : Entry). n ≢ e.filename) es

abbrev HaveOwn : List Entry → Type 0
HaveOwn [] = Unit {0}
HaveOwn (e ∷ es) = IsOther e.filename es × HaveOwn es

module _ (look : List ℕ → Option Entry) where
  own_first : (e : Entry) (es : List Entry) → look e.filename ≡ Some e → AllByRecursion (λ f. entry_cmp e f ≡ Less) es → AllByRecursion (λ (f : Entry). look f.filename ≡ Some f) es → IsOther e.filename es
  own_first e [] here above each = tt
  own_first e (f ∷ es) here above each = ((λ same. apart same), own_first e es here above.1 each.1)
    where
      apart : e.filename ≡ f.filename → ⊥
      apart same =
          let both : Some e ≡ Some f = sym here ∙ ap look same ∙ each.0 in
          let one : e ≡ f = cc in
          not_below_itself e (subst (λ x. entry_cmp e x ≡ Less) (sym one) above.0)

  own_names : (es : List Entry) → IsStrictlySortedBy entry_cmp es → AllByRecursion (λ (f : Entry). look f.filename ≡ Some f) es → HaveOwn es
  unfolding IsStrictlySortedBy
  own_names [] rising each = tt
  own_names (e ∷ es) rising each = (own_first e es each.0 rising.0 each.1, own_names es rising.1 each.1)

-- ---- one entry more in a directory

HasNot-entry : (n m : List ℕ) (it : Item) (d : Directory) → n ≢ m → HasNot n d → HasNot n (entry m it d)
HasNot-entry n m (inl x) d other h = (other, h)
HasNot-entry n m (inr i) d other h = (other, h)

HasNot-inserted : (n m : List ℕ) (it : Item) (d : Directory) → n ≢ m → HasNot n d → HasNot n (inserted m it d)
HasNot-inserted n m it End other h = HasNot-entry n m it End other tt
HasNot-inserted n m it (File k x rest) other h = go (is_lt (name_cmp (key m it) k)) (HasNot-inserted n m it rest other h.1)
  where
    go : (t : Bool) → HasNot n (inserted m it rest) → HasNot n (cond t (entry m it (File k x rest)) (File k x (inserted m it rest)))
    go true ih = HasNot-entry n m it (File k x rest) other h
    go false ih = (h.0, ih)
HasNot-inserted n m it (Sub k i rest) other h = go (is_lt (name_cmp (key m it) (k ++ 47 ∷ []))) (HasNot-inserted n m it rest other h.1)
  where
    go : (t : Bool) → HasNot n (inserted m it rest) → HasNot n (cond t (entry m it (Sub k i rest)) (Sub k i (inserted m it rest)))
    go true ih = HasNot-entry n m it (Sub k i rest) other h
    go false ih = (h.0, ih)

-- ---- a directory of entries

-- what stands at an entry's name, as the map has it there
record HasItem (m : PathMap) (e : Entry) : Type 0 where
  pub item : Item
  pub is_item : IsItem item
  pub leaves : (q : Path) → item_at item q ≡ m (e.filename ∷ q)

-- a directory with these entries' leaves and no others
record Made (m : PathMap) (es : List Entry) : Type 0 where
  pub directory : Directory
  pub canonical : IsCanonical directory
  pub others : (n : List ℕ) → IsOther n es → HasNot n directory
  pub within : (e : Entry) (q : Path) → Contains es e → leaf_at directory (e.filename ∷ q) ≡ m (e.filename ∷ q)
  pub outside : (n : List ℕ) (q : Path) → IsOther n es → leaf_at directory (n ∷ q) ≡ None

made_more : (m : PathMap) (e : Entry) (es : List Entry) → IsName e.filename → HasItem m e → IsOther e.filename es → Made m es → Made m (e ∷ es)
made_more m e es name it own rest = record {
  directory = inserted e.filename it.item rest.directory;
  canonical = inserted_canonical e.filename it.item rest.directory name it.is_item lacks rest.canonical;
  others = λ n other. HasNot-inserted n e.filename it.item rest.directory other.0 (rest.others n other.1);
  within = within;
  outside = λ n q other. at n q ∙ ap (λ t. cond t (item_at it.item q) (leaf_at rest.directory (n ∷ q))) (bytes_eq-no e.filename n (λ same. other.0 (sym same))) ∙ rest.outside n q other.1;
}
  where
    lacks : HasNot e.filename rest.directory
    lacks = rest.others e.filename own

    at : (n : List ℕ) (q : Path) → leaf_at (inserted e.filename it.item rest.directory) (n ∷ q) ≡ cond (bytes_eq e.filename n) (item_at it.item q) (leaf_at rest.directory (n ∷ q))
    at n q = inserted_at e.filename it.item rest.directory n q lacks

    here : (q : Path) → leaf_at (inserted e.filename it.item rest.directory) (e.filename ∷ q) ≡ m (e.filename ∷ q)
    here q = at e.filename q ∙ ap (λ t. cond t (item_at it.item q) (leaf_at rest.directory (e.filename ∷ q))) (itself e.filename) ∙ it.leaves q

    within : (f : Entry) (q : Path) → Contains (e ∷ es) f → leaf_at (inserted e.filename it.item rest.directory) (f.filename ∷ q) ≡ m (f.filename ∷ q)
    within f q h = go (first_or_later e f es h)
      where
        go : (e ≡ f) ⊎ Contains es f → leaf_at (inserted e.filename it.item rest.directory) (f.filename ∷ q) ≡ m (f.filename ∷ q)
        go (inl is) = subst (λ (x : Entry). leaf_at (inserted e.filename it.item rest.directory) (x.filename ∷ q) ≡ m (x.filename ∷ q)) is (here q)
        go (inr later) = at f.filename q ∙ ap (λ t. cond t (item_at it.item q) (leaf_at rest.directory (f.filename ∷ q))) (bytes_eq-no e.filename f.filename (all_at (λ (x : Entry). e.filename ≢ x.filename) es f own later)) ∙ rest.within f q later

make : (m : PathMap) (es : List Entry) → AllByRecursion (λ (e : Entry). IsName e.filename) es → AllByRecursion (HasItem m) es → HaveOwn es → Made m es
make m [] names items own = record { directory = End; canonical = tt; others = λ n other. tt; within = λ e q h. absurd (none e h); outside = λ n q other. refl }
  where
    none : (e : Entry) → Contains [] e → ⊥
    none e (k, less, is) = absurd (omega (arith, less))
make m (e ∷ es) names items own = made_more m e es names.0 items.0 own.0 (make m es names.1 items.1 own.1)

-- ---- the directory of a view

module _ (hash : HashKind) (content : Content) where
  -- the directory of what is loaded there, with its entries
  abbrev IsLoadedMap : Option Names → PathMap → List Entry → Type 0
  IsLoadedMap o f rows = IsSome o → (d : Directory) × IsCanonical d × ((q : Path) → leaf_at d q ≡ f q) × (rows ≡ entries_of hash d)

  -- what stands where an entry is written
  record Stands (f : PathMap) : Type 0 where
    pub item : Item
    pub is_item : IsItem item
    pub leaves : (q : Path) → item_at item q ≡ f q

  no_entries : (d : Directory) → [] ≡ entries_of hash d → d ≡ End
  no_entries End is = refl
  no_entries (File n x rest) is = cc
  no_entries (Sub n inner rest) is = cc

  some_directory : (d : Directory) (f : PathMap) (p : Path) → ((q : Path) → leaf_at d q ≡ f q) → IsSome (f p) → d ≢ End
  some_directory d f p leaves some none = true≢false (sym some ∙ ap is_some (sym (leaves p) ∙ ap (λ x. leaf_at x p) none))

  leaf_item : (leaf : Leaf) (f : PathMap) → f [] ≡ Some leaf → ((c : List ℕ) (q : Path) → f (c ∷ q) ≡ None) → (q : Path) → item_at (inl leaf) q ≡ f q
  leaf_item leaf f here below [] = sym here
  leaf_item leaf f here below (c ∷ q) = sym (below c q)

  written_item : (o : Option Names) (item : Option declared.Item) (f : PathMap) (rows : List Entry) (n : List ℕ) (e : Entry) → HoldsAt hash content o item f → IsLoadedMap o f rows → entry_for hash n item (loaded o rows) ≡ Some e → Stands f
  written_item None None f rows n e h inner is = cc
  written_item None (Some item) f rows n e (inl l) inner is = record { item = inl l.leaf; is_item = l.good.mode; leaves = leaf_item l.leaf f l.here l.below }
  written_item None (Some item) f rows n e (inr (inl p)) inner is =
      absurd (let no : None ≡ Some e = sym (ap (λ t. cond t None (Some (record { mode = item.mode; filename = n; oid = item.id }))) p.null) ∙ is in cc)
  written_item None (Some item) f rows n e (inr (inr t)) inner is =
      let r = t.has_map.represents in
      record { item = inr r.directory; is_item = (some_directory r.directory f t.some.0 r.stands.leaves t.some.1, r.stands.canonical); leaves = r.stands.leaves }
  written_item (Some names) None f rows n e h inner is = absurd h
  written_item (Some names) (Some item) f rows n e h inner is =
      let d = inner refl in
      record { item = inr d.0; is_item = ((λ none. empty (d.3 ∙ ap (entries_of hash) none)), d.1); leaves = d.2 }
    where
      empty : rows ≡ [] → ⊥
      empty none = let no : None ≡ Some e = sym (ap (λ es. entry_for hash n (Some item) (Some es)) none) ∙ is in cc

  -- and nothing where none is
  unwritten : (o : Option Names) (item : Option declared.Item) (f : PathMap) (rows : List Entry) (n : List ℕ) → HoldsAt hash content o item f → IsLoadedMap o f rows → entry_for hash n item (loaded o rows) ≡ None → IsNowhere f
  unwritten None None f rows n h inner is = h
  unwritten None (Some item) f rows n (inl l) inner is =
      absurd (true≢false (sym (ap (λ t. is_some (cond {A = Option Entry} t None (Some (record { mode = item.mode; filename = n; oid = item.id })))) (ap (λ (i : declared.Item). is_null i.id) l.is ∙ not_null_is l.leaf.id l.good.id)) ∙ ap is_some is))
  unwritten None (Some item) f rows n (inr (inl p)) inner is = p.nowhere
  unwritten None (Some item) f rows n (inr (inr t)) inner is =
      absurd (true≢false (sym (ap (λ b. is_some (cond {A = Option Entry} b None (Some (record { mode = item.mode; filename = n; oid = item.id })))) t.not_null) ∙ ap is_some is))
  unwritten (Some names) None f rows n h inner is = absurd h
  unwritten (Some names) (Some item) f rows n h inner is = go rows refl is
    where
      go : (es : List Entry) → rows ≡ es → entry_for hash n (Some item) (Some es) ≡ None → IsNowhere f
      go [] same is = λ q. let d = inner refl in sym (d.2 q) ∙ ap (λ x. leaf_at x q) (no_entries d.0 (sym same ∙ d.3))
      go (e ∷ es) same is = cc

  -- what is written of each directory has names
  abbrev pub AreNamed : View → Type 0
  AreNamed v = (p : Path) (rows : List Entry) → IsWritten hash (inside v p) rows → AllByRecursion (λ (e : Entry). IsName e.filename) rows

  -- a directory of the entries at the root, by those of the directories that are loaded in it
  root_directory : (v : View) (rows : List Entry) (m : PathMap) (names : Names) (inner : List ℕ → List Entry) → StandsForMap hash content v m → v [] ≡ Some names → IsListOf (entry_in hash v names inner) rows → AllByRecursion (λ (e : Entry). IsName e.filename) rows
      → ((n : List ℕ) → IsLoadedMap (v (n ∷ [])) (map_below m n) (inner n)) → (d : Directory) × StandsFor d m
  root_directory v rows m names inner s root list named inner_map = (made.directory, record { canonical = made.canonical; leaves = leaves })
    where
      look : List ℕ → Option Entry
      look = entry_in hash v names inner

      item : (e : Entry) → Contains rows e → HasItem m e
      item e h =
          let it = written_item (v (e.filename ∷ [])) (get names e.filename) (map_below m e.filename) (inner e.filename) e.filename e (s.holds [] names root e.filename) (inner_map e.filename) (all_at (λ (x : Entry). look x.filename ≡ Some x) rows e list.each h) in
          record { item = it.item; is_item = it.is_item; leaves = it.leaves }

      made : Made m rows
      made = make m rows named (all_of (HasItem m) rows item) (own_names look rows list.rising list.each)

      leaves : (p : Path) → leaf_at made.directory p ≡ m p
      leaves [] = leaf_at-root made.directory ∙ sym s.no_root
      leaves (n ∷ q) = go (look n) refl
        where
          go : (o : Option Entry) → look n ≡ o → leaf_at made.directory (n ∷ q) ≡ m (n ∷ q)
          go (Some e) is = subst (λ k. leaf_at made.directory (k ∷ q) ≡ m (k ∷ q)) (filename_of hash n (get names n) (loaded (v (n ∷ [])) (inner n)) e is) (made.within e q (list.all n e is))
          go None is =
              made.outside n q (all_of (λ (e : Entry). n ≢ e.filename) rows (λ e h same. nothing e (ap look same ∙ all_at (λ (x : Entry). look x.filename ≡ Some x) rows e list.each h)))
              ∙ sym (unwritten (v (n ∷ [])) (get names n) (map_below m n) (inner n) n (s.holds [] names root n) (inner_map n) is q)
            where
              nothing : (e : Entry) → look n ≡ Some e → ⊥
              nothing e some = absurd (let no : None ≡ Some e = sym is ∙ some in cc)

  -- what was made of a loaded directory, beside its entries
  loaded_map : (v : View) (rows : List Entry) (f : PathMap) → IsWritten hash v rows → StandsForMap hash content v f → (d : Directory) × StandsFor d f → (d : Directory) × IsCanonical d × ((q : Path) → leaf_at d q ≡ f q) × (rows ≡ entries_of hash d)
  loaded_map v rows f w s (d, stands) = (d, stands.canonical, stands.leaves, written_entries hash content v rows w f d s stands.canonical (λ q. sym (stands.leaves q)))

  pub has_directory : (v : View) (rows : List Entry) → IsWritten hash v rows → (m : PathMap) → StandsForMap hash content v m → AreNamed v → (d : Directory) × StandsFor d m
  has_directory v rows (written _ names inner _ root deeper list) m s named =
      root_directory v rows m names inner s root list (named [] rows (written v names inner rows root deeper list))
      (λ n there. loaded_map (below v n) (inner n) (map_below m n) (deeper n there) (stands_at hash content v m n s there)
      (has_directory (below v n) (inner n) (deeper n there) (map_below m n) (stands_at hash content v m n s there) (λ p es w. named (n ∷ p) es w)))

  -- ---- names from the map

  -- the names on a path below an item's, of what stands there
  some_leaf_there : (item : Item) (f : PathMap) → IsItem item → ((q : Path) → item_at item q ≡ f q) → (q : Path) × (leaf : Leaf) × (f q ≡ Some leaf)
  some_leaf_there (inl leaf) f is look = ([], leaf, sym (look []))
  some_leaf_there (inr d) f is look = let s = some_leaf d is.1 is.0 in (s.0 ∷ s.1, s.2, sym (look (s.0 ∷ s.1)) ∙ s.3)

  plain_name : (n : List ℕ) → (n ≢ []) × (Contains n 47 → ⊥) → is_writable_filename n ≡ true → IsName n
  plain_name n plain writable = record { not_empty = plain.0; no_slash = plain.1; no_zero = has_none 0 n (and_parts _ _ writable).1 }

  -- what is written of each directory can be spelled
  abbrev pub AreWritable : View → Type 0
  AreWritable v = (p : Path) (rows : List Entry) → IsWritten hash (inside v p) rows → AllByRecursion (λ (e : Entry). is_writable_filename e.filename ≡ true) rows

  -- the names at the root, by what is loaded below them
  root_named : (v : View) (rows : List Entry) (m : PathMap) (names : Names) (inner : List ℕ → List Entry) → StandsForMap hash content v m → v [] ≡ Some names → IsListOf (entry_in hash v names inner) rows → HasPlainNames m
      → AllByRecursion (λ (e : Entry). is_writable_filename e.filename ≡ true) rows → ((n : List ℕ) → IsLoadedMap (v (n ∷ [])) (map_below m n) (inner n)) → AllByRecursion (λ (e : Entry). IsName e.filename) rows
  root_named v rows m names inner s root list plain writable inner_map = all_of (λ (e : Entry). IsName e.filename) rows named
    where
      named : (e : Entry) → Contains rows e → IsName e.filename
      named e h =
          let n = e.filename in
          let it = written_item (v (n ∷ [])) (get names n) (map_below m n) (inner n) n e (s.holds [] names root n) (inner_map n) (all_at (λ (x : Entry). entry_in hash v names inner x.filename ≡ Some x) rows e list.each h) in
          let at = some_leaf_there it.item (map_below m n) it.is_item it.leaves in
          plain_name n (plain (n ∷ at.0) at.1 at.2).0 (all_at (λ (x : Entry). is_writable_filename x.filename ≡ true) rows e writable h)

  pub plain_directory : (v : View) (rows : List Entry) → IsWritten hash v rows → (m : PathMap) → StandsForMap hash content v m → HasPlainNames m → AreWritable v → (d : Directory) × StandsFor d m
  plain_directory v rows (written _ names inner _ root deeper list) m s plain writable =
      let below_root : (n : List ℕ) → IsLoadedMap (v (n ∷ [])) (map_below m n) (inner n) = λ n there. loaded_map (below v n) (inner n) (map_below m n) (deeper n there) (stands_at hash content v m n s there)
      (plain_directory (below v n) (inner n) (deeper n there) (map_below m n) (stands_at hash content v m n s there) (λ p leaf at. (plain (n ∷ p) leaf at).1) (λ p es w. writable (n ∷ p) es w)) in
      root_directory v rows m names inner s root list (root_named v rows m names inner s root list plain (writable [] rows (written v names inner rows root deeper list)) below_root) below_root

  -- ---- the names of an output

  all_flat : (P : Entry → Type 0) (lists : List (List Entry)) (rows : List Entry) → AllByRecursion P (flat_map (λ entries. entries) lists) → Contains lists rows → AllByRecursion P rows
  all_flat P [] rows all h = absurd (none h)
    where
      none : Contains [] rows → ⊥
      none (k, less, is) = absurd (omega (arith, less))
  all_flat P (es ∷ lists) rows all h = go (first_or_later es rows lists h) (λ later. all_flat P lists rows (All-behind P es (flat_map (λ entries. entries) lists) all) later)
    where
      go : (es ≡ rows) ⊎ Contains lists rows → (Contains lists rows → AllByRecursion P rows) → AllByRecursion P rows
      go (inl is) more = subst (AllByRecursion P) is (All-before P es (flat_map (λ entries. entries) lists) all)
      go (inr later) more = more later

  pub output_named : (P : Entry → Type 0) (v : View) (output : Output) → IsOutputOfView hash v output → AllByRecursion P output.entries → (p : Path) (rows : List Entry) → IsWritten hash (inside v p) rows → AllByRecursion P rows
  output_named P v output out names p rows w = go (out.all p (loaded_at hash v p rows w))
    where
      go : Contains out.paths p ⊎ IsLeftOut hash v p → AllByRecursion P rows
      go (inl among) =
          let b = beside (IsWrittenAt hash v) out.paths out.listed p out.each among in
          subst (AllByRecursion P) (written_once hash (inside v p) b.0 rows b.2.written w)
          (all_flat P out.listed b.0 (subst (AllByRecursion P) out.entries names) b.1)
      go (inr l) = subst (AllByRecursion P) (written_once hash (inside v p) [] rows l.nothing w) tt
