-- The ids in the map of a view: no leaf's is null, nor is a tree's once no two objects share an id.
use Rattle.std.proofs.Common.{◌≡◌, ◌≢◌, ◌∙◌, inl, inr, sym, ap, refl, subst, List, [], ◌∷◌, ℕ, false, true≢false, Option, Some, None, IsSome, IfSome, Contains}
use Rattle.std.specs.List.{AllByRecursion}
use Rattle.std.specs.FinMap.{get}
use Rattle.gx_hash.specs.declared.kind.HashKind.{HashKind}
use Rattle.gx_hash.specs.declared.oid.ObjectId.{ObjectId}
use Rattle.gx_hash.specs.HashKind.{kind_of}
use Rattle.gx_hash.specs.ObjectId.{null_id}
use Rattle.gx_hash.specs.ObjectIds.{id_eq}
use Rattle.gx_hash.specs.Laws.{own_id, object_id_kind}
use Rattle.gx_object.specs.declared.kind.Kind.{Kind}
use Rattle.gx_object.specs.declared.kind.Kind.TheVariants as kind
use Rattle.gx_object.specs.declared.tree.Entry.{Entry}
use Rattle.gx_object.specs.Kind.{kind_name}
use Rattle.gx_object.specs.Tree.{tree_bytes}
use Rattle.gx_store.specs.Content.{Content, HoldsAll, Adds, AreApart, lookup, id_of}
use Rattle.gx_store.specs.Laws.{FoundStays, AddedIsFound}
use Rattle.gx_edit.specs.Path.{Path}
use Rattle.gx_edit.specs.PathMap.{PathMap}
use Rattle.gx_edit.specs.CanonicalTree.{Directory, leaf_at, IsCanonical, StandsFor, entries_of, entries_within, root_of}
use Rattle.gx_edit.specs.CanonicalTree.Directory.{End}
use Rattle.gx_edit.specs.SharedIds.{HasIdsOf, HasNoNullId}
use Rattle.gx_edit.specs.Output.{Output}
use Rattle.gx_edit.specs.View.{Names, View, is_null, below}
use Rattle.gx_edit.specs.StandsForMap.{HoldsAt, StandsForMap, HasMap, IsKept, IsTreeItem, map_below}
use Rattle.gx_edit.specs.Written.{IsWritten, IsOutputOfView, inside, tree_with, id_with}
use Rattle.gx_edit.specs.Written.IsWritten.{written}
use Rattle.gx_edit.specs.declared.leaf.Leaf.{Leaf}
use Rattle.gx_edit.specs.declared.editor.item.Item.{Item}
use Rattle.gx_edit.proofs.DirectoryLemmas.{leaf_at-root, some_leaf, one_directory}
use Rattle.gx_edit.proofs.DirectoryParts.{Part, IsPart, IsOwnPart, part_at, part_is_part, leaf_in, leaf_of_part, own_within}
use Rattle.gx_edit.proofs.FreshView.{NotNull}
use Rattle.gx_edit.proofs.RootLemmas.{held}
use Rattle.gx_edit.proofs.ViewParts.{stands_at}
use Rattle.gx_edit.proofs.WrittenEntries.{written_entries}
use Rattle.gx_edit.proofs.WrittenLists.{all_at, all_of}
use Rattle.gx_edit.proofs.WrittenTrees.{written_there, output_represents, some_entries}

pub not_null_of : (id : ObjectId) → is_null id ≡ false → id ≢ null_id (kind_of id)
not_null_of id known is = true≢false (sym (ap (id_eq id) (sym is) ∙ own_id id) ∙ known)

one_leaf : (x y : Leaf) → ◌≡◌ {A = Option Leaf} (Some x) (Some y) → x ≡ y
one_leaf x y e = cc

module _ (hash : HashKind) (content : Content) where
  -- ---- no id is null

  -- none of the trees that are written below the root has a null id
  abbrev pub AreOwn : View → Type 0
  AreOwn v = (p : Path) (rows : List Entry) → IsWritten hash (inside v p) rows → rows ≢ [] → id_with hash rows ≢ null_id (kind_of (id_with hash rows))

  leaf_own : (o : Option Names) (item : Option Item) (f : PathMap) (x : Leaf) → HoldsAt hash content o item f → f [] ≡ Some x → x.id ≢ null_id (kind_of x.id)
  leaf_own None None f x h at = absurd (let no : None ≡ Some x = sym (h []) ∙ at in cc)
  leaf_own None (Some item) f x (inl l) at = subst (λ (y : Leaf). y.id ≢ null_id (kind_of y.id)) (one_leaf l.leaf x (sym l.here ∙ at)) l.good.id
  leaf_own None (Some item) f x (inr (inl p)) at = absurd (let no : None ≡ Some x = sym (p.nowhere []) ∙ at in cc)
  leaf_own None (Some item) f x (inr (inr t)) at =
      absurd (let no : None ≡ Some x = sym (leaf_at-root t.has_map.represents.directory) ∙ t.has_map.represents.stands.leaves [] ∙ at in cc)
  leaf_own (Some names) None f x h at = absurd h
  leaf_own (Some names) (Some item) f x h at = absurd (let no : None ≡ Some x = sym h.1 ∙ at in cc)

  tree_own : (item : Item) (f : PathMap) (e : Directory) → IsTreeItem hash content item f → IsCanonical e → ((q : Path) → f q ≡ leaf_at e q) → AllByRecursion NotNull (entries_within hash e) × (root_of hash e ≢ null_id (kind_of (root_of hash e)))
  tree_own item f e t ok look = (
    t.has_map.own e (record { canonical = ok; leaves = λ q. sym (look q) }),
    subst (λ id. id ≢ null_id (kind_of id)) (t.has_map.represents.is_root ∙ ap (root_of hash) (one_directory t.has_map.represents.directory e t.has_map.represents.stands.canonical ok (λ q. t.has_map.represents.stands.leaves q ∙ look q)))
        (not_null_of item.id t.not_null),
  )

  abbrev IsInnerOwn : Option Names → PathMap → Type 0
  IsInnerOwn o f = IsSome o → (e : Directory) → IsCanonical e → e ≢ End → ((q : Path) → f q ≡ leaf_at e q) → AllByRecursion NotNull (entries_within hash e) × (root_of hash e ≢ null_id (kind_of (root_of hash e)))

  part_own : (o : Option Names) (item : Option Item) (f : PathMap) (part : Part) → HoldsAt hash content o item f → IsPart part → ((q : Path) → f q ≡ leaf_in part q) → IsInnerOwn o f → IsOwnPart hash part
  part_own o item f None h sound look inner = tt
  part_own o item f (Some (inl x)) h sound look inner = leaf_own o item f x h (look [])
  part_own None None f (Some (inr e)) h sound look inner =
      let s = some_leaf e sound.1 sound.0 in
      absurd (let no : Some s.2 ≡ None = sym s.3 ∙ sym (look (s.0 ∷ s.1)) ∙ h (s.0 ∷ s.1) in cc)
  part_own None (Some item) f (Some (inr e)) (inl l) sound look inner = absurd (let no : Some l.leaf ≡ None = sym l.here ∙ look [] ∙ leaf_at-root e in cc)
  part_own None (Some item) f (Some (inr e)) (inr (inl p)) sound look inner =
      let s = some_leaf e sound.1 sound.0 in
      absurd (let no : Some s.2 ≡ None = sym s.3 ∙ sym (look (s.0 ∷ s.1)) ∙ p.nowhere (s.0 ∷ s.1) in cc)
  part_own None (Some item) f (Some (inr e)) (inr (inr t)) sound look inner = tree_own item f e t sound.1 look
  part_own (Some names) None f (Some (inr e)) h sound look inner = absurd h
  part_own (Some names) (Some item) f (Some (inr e)) h sound look inner = inner refl e sound.1 sound.0 look

  stands_own : (v : View) (rows : List Entry) → IsWritten hash v rows → (m : PathMap) (d : Directory) → StandsForMap hash content v m → IsCanonical d → ((q : Path) → m q ≡ leaf_at d q) → AreOwn v → AllByRecursion NotNull (entries_within hash d)
  stands_own v rows (written _ names inner _ root deeper list) m d s ok look own =
      own_within hash d ok (λ n. part_own (v (n ∷ [])) (get names n) (map_below m n) (part_at d n) (s.holds [] names root n) (part_is_part d n ok) (λ q. look (n ∷ q) ∙ leaf_of_part d n q ok)
      (λ there e fine some same.
      let under = stands_at hash content v m n s there in
      let is : inner n ≡ entries_of hash e = written_entries hash content (below v n) (inner n) (deeper n there) (map_below m n) e under fine same in (
        stands_own (below v n) (inner n) (deeper n there) (map_below m n) e under fine same (λ p es w more. own (n ∷ p) es w more),
        subst (λ es. id_with hash es ≢ null_id (kind_of (id_with hash es))) is (own (n ∷ []) (inner n) (deeper n there) (λ none. some_entries hash e some (sym is ∙ none))),
      )))

  pub stands_own_ids : (v : View) (rows : List Entry) → IsWritten hash v rows → (m : PathMap) → StandsForMap hash content v m → AreOwn v → HasNoNullId hash m
  stands_own_ids v rows w m s own d f = stands_own v rows w m d s f.canonical (λ q. sym (f.leaves q)) own

-- ---- the law of writing

module _ (hash : HashKind) (old new : Content) (v : View) (m : PathMap) (output : Output) (d : Directory) (objects : List (Kind × List ℕ)) where
  found_as : (id : ObjectId) (object : Kind × List ℕ) (o : Option (Kind × List ℕ)) → o ≡ Some object → IfSome o (λ there. lookup new id ≡ Some there) → lookup new id ≡ Some object
  found_as id object None is h = cc
  found_as id object (Some there) is h = h ∙ is

  pub written_map : FoundStays → AddedIsFound → StandsForMap hash old v m → IsOutputOfView hash v output → StandsFor d m → AreApart hash old objects → Adds hash objects old new → AllByRecursion (Contains objects) output.trees → HasIdsOf hash m → HasMap hash new output.root m
  written_map stays found s out f apart adds among ids = record {
    represents = output_represents hash old new kept v m output d s out f trees;
    ids = ids;
    own = stands_own_ids hash old v out.root.0 out.root.1 m s own;
  }
    where
      kept : IsKept old new
      kept id object there = found_as id object (lookup old id) there (stays hash objects old new apart adds id)

      all_there : HoldsAll hash objects new
      all_there = found hash objects old new apart adds

      trees : HoldsAll hash output.trees new
      trees = all_of (λ tree. lookup new (id_of hash tree) ≡ Some tree) output.trees (λ tree h. held hash new objects tree all_there (all_at (Contains objects) output.trees tree among h))

      own : AreOwn hash old v
      own p rows w some is =
          all_at (λ object. id_of hash object ≢ null_id hash) objects (tree_with rows) apart.named
          (all_at (Contains objects) output.trees (tree_with rows) among (written_there hash v output out p rows w (inr some)))
          (is ∙ ap null_id (object_id_kind hash (kind_name kind.Tree) (tree_bytes rows)))
