-- The trees that are written of a view that stands for a map.
use Rattle.std.proofs.Common.{◌≡◌, ◌≢◌, ◌⊎◌, ◌∙◌, ◌++◌, inl, inr, sym, ap, refl, subst, List, [], ◌∷◌, map, Option, Some, None, is_some, IsSome, Contains}
use Rattle.std.specs.List.{AllByRecursion, AllZip}
use Rattle.std.specs.FinMap.{get}
use Rattle.std.proofs.lemmas.List.{append-nil}
use Rattle.gx_hash.specs.declared.kind.HashKind.{HashKind}
use Rattle.gx_object.specs.declared.tree.Entry.{Entry}
use Rattle.gx_store.specs.Content.{Content, HoldsAll, lookup, id_of}
use Rattle.gx_edit.specs.Path.{Path}
use Rattle.gx_edit.specs.PathMap.{PathMap}
use Rattle.gx_edit.specs.CanonicalTree.{Directory, leaf_at, IsCanonical, StandsFor, Represents, entries_of, root_of, tree_of, trees_of, trees_below}
use Rattle.gx_edit.specs.CanonicalTree.Directory.{End, File, Sub}
use Rattle.gx_edit.specs.Output.{Output}
use Rattle.gx_edit.specs.View.{Names, View, below}
use Rattle.gx_edit.specs.StandsForMap.{HoldsAt, StandsForMap, IsKept, map_below}
use Rattle.gx_edit.specs.Written.{IsWritten, IsWrittenAt, IsLeftOut, IsOutputOfView, inside, tree_with, id_with}
use Rattle.gx_edit.specs.Written.IsWritten.{written}
use Rattle.gx_edit.specs.declared.editor.item.Item.{Item}
use Rattle.gx_edit.proofs.DirectoryLemmas.{leaf_at-root, some_leaf, one_directory}
use Rattle.gx_edit.proofs.DirectoryParts.{Part, IsPart, part_at, part_is_part, leaf_in, leaf_of_part, TreesHeld, held_below, inside_directory}
use Rattle.gx_edit.proofs.EntryOrder.{All-append}
use Rattle.gx_edit.proofs.GrownView.{held_still}
use Rattle.gx_edit.proofs.RootLemmas.{held}
use Rattle.gx_edit.proofs.ViewParts.{stands_at, stands_inside}
use Rattle.gx_edit.proofs.WrittenEntries.{written_once, written_entries}
use Rattle.gx_edit.proofs.WrittenLists.{first_or_later, none_in, in_first, in_later}

-- ---- lists that are told side by side

pub beside : {A B : Type 0} (R : A → B → Type 0) (xs : List A) (ys : List B) (x : A) → AllZip R xs ys → Contains xs x → (y : B) × Contains ys y × R x y
beside R [] [] x all h = absurd (none_in x h)
beside R [] (b ∷ ys) x all h = absurd all
beside R (a ∷ xs) [] x all h = absurd all
beside {A = A} {B = B} R (a ∷ xs) (b ∷ ys) x all h = go (first_or_later a x xs h) (λ later. beside R xs ys x all.1 later)
  where
    go : (a ≡ x) ⊎ Contains xs x → (Contains xs x → (y : B) × Contains ys y × R x y) → (y : B) × Contains (b ∷ ys) y × R x y
    go (inl is) more = (b, in_first b ys, subst (λ z. R z b) is all.0)
    go (inr later) more = let rest = more later in (rest.0, in_later b rest.0 ys rest.1, rest.2)

pub mapped : {A B : Type 0} (f : A → B) (xs : List A) (x : A) → Contains xs x → Contains (map f xs) (f x)
mapped f [] x h = absurd (none_in x h)
mapped f (a ∷ xs) x h = go (first_or_later a x xs h) (λ later. mapped f xs x later)
  where
    go : (a ≡ x) ⊎ Contains xs x → (Contains xs x → Contains (map f xs) (f x)) → Contains (f a ∷ map f xs) (f x)
    go (inl is) more = subst (λ z. Contains (f a ∷ map f xs) (f z)) is (in_first (f a) (map f xs))
    go (inr later) more = in_later (f a) (f x) (map f xs) (more later)

zip_mapped : {A B C : Type 0} (R : A → B → Type 0) (P : C → Type 0) (f : B → C) → ((x : A) (y : B) → R x y → P (f y)) → (xs : List A) (ys : List B) → AllZip R xs ys → AllByRecursion P (map f ys)
zip_mapped R P f each [] [] all = tt
zip_mapped R P f each [] (b ∷ ys) all = absurd all
zip_mapped R P f each (a ∷ xs) [] all = absurd all
zip_mapped R P f each (a ∷ xs) (b ∷ ys) all = (each a b all.0, zip_mapped R P f each xs ys all.1)

-- ---- written directories are loaded

module _ (hash : HashKind) where
  root_there : (v : View) (rows : List Entry) → IsWritten hash v rows → IsSome (v [])
  root_there v rows (written _ names inner _ root deeper list) = ap is_some root

  pub loaded_at : (v : View) (p : Path) (rows : List Entry) → IsWritten hash (inside v p) rows → IsSome (v p)
  loaded_at v p rows w = subst (λ q. IsSome (v q)) (append-nil p) (root_there (inside v p) rows w)

  pub some_entries : (d : Directory) → d ≢ End → entries_of hash d ≢ []
  some_entries End some is = some refl
  some_entries (File n x rest) some is = cc
  some_entries (Sub n inner rest) some is = cc

  -- a tree that is written of a directory is among those of the output
  pub written_there : (v : View) (output : Output) → IsOutputOfView hash v output → (p : Path) (rows : List Entry) → IsWritten hash (inside v p) rows → (p ≡ []) ⊎ (rows ≢ []) → Contains output.trees (tree_with rows)
  written_there v output out p rows w tree = go (out.all p (loaded_at v p rows w))
    where
      left_out : (p ≡ []) ⊎ (rows ≢ []) → IsLeftOut hash v p → Contains output.trees (tree_with rows)
      left_out (inl is_root) l = absurd (l.below_root is_root)
      left_out (inr some) l = absurd (some (written_once hash (inside v p) rows [] w l.nothing))

      go : Contains out.paths p ⊎ IsLeftOut hash v p → Contains output.trees (tree_with rows)
      go (inl among) =
          let b = beside (IsWrittenAt hash v) out.paths out.listed p out.each among in
          subst (λ ts. Contains ts (tree_with rows)) (sym out.trees)
          (subst (λ es. Contains (map tree_with out.listed) (tree_with es)) (written_once hash (inside v p) b.0 rows b.2.written w) (mapped tree_with out.listed b.0 b.1))
      go (inr l) = left_out tree l

  -- ---- the trees are those of the map

  module _ (content : Content) (v : View) (m : PathMap) (d : Directory) (s : StandsForMap hash content v m) (f : StandsFor d m) where
    pub written_inside : (p : Path) (rows : List Entry) → IsWrittenAt hash v p rows → (e : Directory) × StandsFor e (λ q. m (p ++ q)) × (rows ≡ entries_of hash e) × Contains (trees_of hash d) (tree_of hash e)
    written_inside p rows w =
        let there : IsSome (v p) = loaded_at v p rows w.written in
        let inner = stands_inside hash content v m p s there in
        let no_leaf : leaf_at d p ≡ None = f.leaves p ∙ ap m (sym (append-nil p)) ∙ inner.no_root in
        let i = inside_directory hash p d f.canonical no_leaf in
        let same : rows ≡ entries_of hash i.directory = written_entries hash content (inside v p) rows w.written (λ q. m (p ++ q)) i.directory inner i.canonical (λ q. sym (f.leaves (p ++ q)) ∙ i.leaves q) in
        (i.directory, record { canonical = i.canonical; leaves = λ q. sym (i.leaves q) ∙ f.leaves (p ++ q) }, same, i.among (some w.tree i.directory same))
      where
        some : (p ≡ []) ⊎ (rows ≢ []) → (e : Directory) → rows ≡ entries_of hash e → (p ≡ []) ⊎ (e ≢ End)
        some (inl is_root) e same = inl is_root
        some (inr more) e same = inr (λ none. more (same ∙ ap (entries_of hash) none))

  module _ (content : Content) (v : View) (m : PathMap) (output : Output) (d : Directory) (s : StandsForMap hash content v m) (out : IsOutputOfView hash v output) (f : StandsFor d m) where
    pub output_root : output.root ≡ root_of hash d
    output_root = out.root.2 ∙ ap (id_with hash) (written_entries hash content v out.root.0 out.root.1 m d s f.canonical (λ q. sym (f.leaves q)))

    one_tree : (p : Path) (rows : List Entry) → IsWrittenAt hash v p rows → Contains (trees_of hash d) (tree_with rows)
    one_tree p rows w = let e = written_inside content v m d s f p rows w in subst (λ es. Contains (trees_of hash d) (tree_with es)) (sym e.2) e.3

    pub output_trees : AllByRecursion (λ tree. Contains (trees_of hash d) tree) output.trees
    output_trees = subst (AllByRecursion (λ tree. Contains (trees_of hash d) tree)) (sym out.trees) (zip_mapped (IsWrittenAt hash v) (λ tree. Contains (trees_of hash d) tree) tree_with one_tree out.paths out.listed out.each)

-- ---- once the trees are stored

module _ (hash : HashKind) (old new : Content) (kept : IsKept old new) where
  abbrev IsStoredTree : List Entry → Type 0
  IsStoredTree rows = lookup new (id_of hash (tree_with rows)) ≡ Some (tree_with rows)

  -- each tree of some entries that is written below the root is stored
  abbrev AreStored : View → Type 0
  AreStored v = (p : Path) (rows : List Entry) → IsWritten hash (inside v p) rows → rows ≢ [] → IsStoredTree rows

  -- the trees of a part are stored
  part_held : (o : Option Names) (item : Option Item) (f : PathMap) (part : Part) → HoldsAt hash old o item f → IsPart part → ((q : Path) → f q ≡ leaf_in part q)
      → (IsSome o → (e : Directory) → IsCanonical e → e ≢ End → ((q : Path) → f q ≡ leaf_at e q) → HoldsAll hash (trees_of hash e) new) → TreesHeld hash new part
  part_held o item f None h sound look inner = tt
  part_held o item f (Some (inl x)) h sound look inner = tt
  part_held None None f (Some (inr e)) h sound look inner =
      let s = some_leaf e sound.1 sound.0 in
      absurd (let no : Some s.2 ≡ None = sym s.3 ∙ sym (look (s.0 ∷ s.1)) ∙ h (s.0 ∷ s.1) in cc)
  part_held None (Some item) f (Some (inr e)) (inl l) sound look inner = absurd (let no : Some l.leaf ≡ None = sym l.here ∙ look [] ∙ leaf_at-root e in cc)
  part_held None (Some item) f (Some (inr e)) (inr (inl p)) sound look inner =
      let s = some_leaf e sound.1 sound.0 in
      absurd (let no : Some s.2 ≡ None = sym s.3 ∙ sym (look (s.0 ∷ s.1)) ∙ p.nowhere (s.0 ∷ s.1) in cc)
  part_held None (Some item) f (Some (inr e)) (inr (inr t)) sound look inner =
      let r = t.has_map.represents in
      held_still hash old new kept (trees_of hash e)
      (subst (λ d. HoldsAll hash (trees_of hash d) old) (one_directory r.directory e r.stands.canonical sound.1 (λ q. r.stands.leaves q ∙ look q)) r.stored)
  part_held (Some names) None f (Some (inr e)) h sound look inner = absurd h
  part_held (Some names) (Some item) f (Some (inr e)) h sound look inner = inner refl e sound.1 sound.0 look

  all_held : (v : View) (rows : List Entry) → IsWritten hash v rows → (m : PathMap) (d : Directory) → StandsForMap hash old v m → IsCanonical d → ((q : Path) → m q ≡ leaf_at d q) → AreStored v → IsStoredTree rows → HoldsAll hash (trees_of hash d) new
  all_held v rows (written _ names inner _ root deeper list) m d s ok look stored own =
      All-append _ (trees_below hash d) (tree_of hash d ∷ [])
      (held_below hash new d ok (λ n. part_held (v (n ∷ [])) (get names n) (map_below m n) (part_at d n) (s.holds [] names root n) (part_is_part d n ok) (λ q. look (n ∷ q) ∙ leaf_of_part d n q ok)
      (λ there e fine some same.
      let under = stands_at hash old v m n s there in
      let is : inner n ≡ entries_of hash e = written_entries hash old (below v n) (inner n) (deeper n there) (map_below m n) e under fine same in
      all_held (below v n) (inner n) (deeper n there) (map_below m n) e under fine same (λ p es w more. stored (n ∷ p) es w more)
      (stored (n ∷ []) (inner n) (deeper n there) (λ none. some_entries hash e some (sym is ∙ none))))))
      (subst IsStoredTree (written_entries hash old v rows (written v names inner rows root deeper list) m d s ok look) own, tt)

  module _ (v : View) (m : PathMap) (output : Output) (d : Directory) (s : StandsForMap hash old v m) (out : IsOutputOfView hash v output) (f : StandsFor d m) (trees : HoldsAll hash output.trees new) where
    pub output_represents : Represents hash new output.root m
    output_represents = record {
      directory = d;
      stands = f;
      is_root = output_root hash old v m output d s out f;
      stored = all_held v out.root.0 out.root.1 m d s f.canonical (λ q. sym (f.leaves q))
          (λ p rows w some. held hash new output.trees (tree_with rows) trees (written_there hash v output out p rows w (inr some)))
          (held hash new output.trees (tree_with out.root.0) trees (written_there hash v output out [] out.root.0 out.root.1 (inl refl)));
    }
