-- What a canonical directory has at a name.
use Rattle.std.proofs.Common.{◌≡◌, ◌≢◌, ◌∙◌, ◌⊎◌, inl, inr, ◌++◌, sym, ap, refl, subst, cond, List, [], ◌∷◌, ℕ, Bool, true, false, Option, Some, None, Contains}
use Rattle.std.specs.Str.{bytes_eq}
use Rattle.std.specs.List.{AllByRecursion}
use Rattle.std.specs.List.Sorted.{IsStrictlySortedBy}
use Rattle.std.specs.Ordering.{ordering_then}
use Rattle.std.specs.declared.cmp.Ordering.TheVariants.{Less}
use Rattle.gx_hash.specs.declared.kind.HashKind.{HashKind}
use Rattle.gx_hash.specs.HashKind.{kind_of}
use Rattle.gx_hash.specs.ObjectId.{null_id}
use Rattle.gx_rules.specs.Name.{name_cmp}
use Rattle.gx_object.specs.declared.kind.Kind.{Kind}
use Rattle.gx_object.specs.declared.tree.Entry.{Entry}
use Rattle.gx_object.specs.declared.tree.EntryKind.TheVariants as entry_kind
use Rattle.gx_object.specs.Mode.{mode_of}
use Rattle.gx_object.specs.Tree.{sort_key}
use Rattle.gx_store.specs.Content.{Content, HoldsAll}
use Rattle.gx_edit.specs.Path.{Path}
use Rattle.gx_edit.specs.PathMap.{PathMap}
use Rattle.gx_edit.specs.CanonicalTree.{Directory, leaf_at, Follow, IsCanonical, IsLeafMode, entries_of, entries_within, root_of, tree_of, trees_of, trees_below}
use Rattle.gx_edit.specs.CanonicalTree.Directory.{End, File, Sub}
use Rattle.gx_edit.specs.Written.{entry_cmp, IsListOf}
use Rattle.gx_edit.specs.declared.leaf.Leaf.{Leaf}
use Rattle.gx_edit.proofs.PathLemmas.{bytes_eq-is}
use Rattle.gx_edit.proofs.DirectoryLemmas.{Follow-none, bytes_eq-no}
use Rattle.gx_edit.proofs.EntryOrder.{key_of_leaf, All-append}
use Rattle.gx_edit.proofs.RootLemmas.{last}
use Rattle.gx_edit.proofs.NamesLemmas.{itself}
use Rattle.gx_edit.proofs.FreshView.{NotNull}
use Rattle.gx_edit.proofs.WrittenLists.{none_in, first_or_later, in_first, in_later}

-- a leaf or a directory stands at a name, or nothing
abbrev pub Part : Type 0
Part = Option (Leaf ⊎ Directory)

abbrev pub part_at : Directory → List ℕ → Part
part_at End n = None
part_at (File m x rest) n = cond (bytes_eq m n) (Some (inl x)) (part_at rest n)
part_at (Sub m inner rest) n = cond (bytes_eq m n) (Some (inr inner)) (part_at rest n)

-- the map of a part
abbrev pub leaf_in : Part → PathMap
leaf_in None q = None
leaf_in (Some (inl x)) [] = Some x
leaf_in (Some (inl x)) (c ∷ q) = None
leaf_in (Some (inr inner)) q = leaf_at inner q

-- a part of a canonical directory
abbrev pub IsPart : Part → Type 0
IsPart None = Unit {0}
IsPart (Some (inl x)) = IsLeafMode x.mode.value
IsPart (Some (inr inner)) = (inner ≢ End) × IsCanonical inner

-- the entry of a part
abbrev pub entry_of_part : HashKind → List ℕ → Part → Option Entry
entry_of_part hash n None = None
entry_of_part hash n (Some (inl x)) = Some (record { mode = x.mode; filename = n; oid = x.id })
entry_of_part hash n (Some (inr inner)) = Some (record { mode = record { value = mode_of entry_kind.Tree }; filename = n; oid = root_of hash inner })

pub part_is_part : (d : Directory) (n : List ℕ) → IsCanonical d → IsPart (part_at d n)
part_is_part End n ok = tt
part_is_part (File m x rest) n ok = go (bytes_eq m n) (part_is_part rest n ok.2)
  where
    go : (t : Bool) → IsPart (part_at rest n) → IsPart (cond t (Some (inl x)) (part_at rest n))
    go true ih = ok.3
    go false ih = ih
part_is_part (Sub m inner rest) n ok = go (bytes_eq m n) (part_is_part rest n ok.4)
  where
    go : (t : Bool) → IsPart (part_at rest n) → IsPart (cond t (Some (inr inner)) (part_at rest n))
    go true ih = (ok.1, ok.2)
    go false ih = ih

-- a name that does not stand in a directory has no part
pub no_part : (n k : List ℕ) (d : Directory) → Follow n k d → part_at d n ≡ None
no_part n k End f = refl
no_part n k (File m x rest) f = ap (λ t. cond t (Some (inl x)) (part_at rest n)) (bytes_eq-no m n (λ e. f.0 (sym e))) ∙ no_part n k rest f.2
no_part n k (Sub m inner rest) f = ap (λ t. cond t (Some (inr inner)) (part_at rest n)) (bytes_eq-no m n (λ e. f.0 (sym e))) ∙ no_part n k rest f.2

pub leaf_of_part : (d : Directory) (n : List ℕ) (q : Path) → IsCanonical d → leaf_at d (n ∷ q) ≡ leaf_in (part_at d n) q
leaf_of_part End n q ok = refl
leaf_of_part (File m x rest) n q ok = go (bytes_eq m n) refl q (leaf_of_part rest n q ok.2)
  where
    go : (t : Bool) → bytes_eq m n ≡ t → (q : Path) → leaf_at rest (n ∷ q) ≡ leaf_in (part_at rest n) q → leaf_at (File m x rest) (n ∷ q) ≡ leaf_in (cond t (Some (inl x)) (part_at rest n)) q
    go true e [] ih = ap (λ t. cond t (Some x) (leaf_at rest (n ∷ []))) e
    go true e (c ∷ q) ih = subst (λ b. leaf_at rest (b ∷ c ∷ q) ≡ None) (bytes_eq-is m n e) (Follow-none m m rest (c ∷ q) ok.1)
    go false e [] ih = ap (λ t. cond t (Some x) (leaf_at rest (n ∷ []))) e ∙ ih
    go false e (c ∷ q) ih = ih
leaf_of_part (Sub m inner rest) n q ok = go (bytes_eq m n) refl (leaf_of_part rest n q ok.4)
  where
    go : (t : Bool) → bytes_eq m n ≡ t → leaf_at rest (n ∷ q) ≡ leaf_in (part_at rest n) q → leaf_at (Sub m inner rest) (n ∷ q) ≡ leaf_in (cond t (Some (inr inner)) (part_at rest n)) q
    go true e ih = ap (λ t. cond t (leaf_at inner q) (leaf_at rest (n ∷ q))) e
    go false e ih = ap (λ t. cond t (leaf_at inner q) (leaf_at rest (n ∷ q))) e ∙ ih

module _ (hash : HashKind) where
  -- ---- the entries of a directory are those of its parts, in rising order

  abbrev file_entry : List ℕ → Leaf → Entry
  file_entry n x = record { mode = x.mode; filename = n; oid = x.id }

  abbrev sub_entry : List ℕ → Directory → Entry
  sub_entry n inner = record { mode = record { value = mode_of entry_kind.Tree }; filename = n; oid = root_of hash inner }

  below_key : (e f : Entry) → name_cmp (sort_key e) (sort_key f) ≡ Less → entry_cmp e f ≡ Less
  below_key e f less = ap (λ o. ordering_then o (name_cmp e.filename f.filename)) less

  all_follow : (n k : List ℕ) (e : Entry) (d : Directory) → sort_key e ≡ k → IsCanonical d → Follow n k d → AllByRecursion (λ f. entry_cmp e f ≡ Less) (entries_of hash d)
  all_follow n k e End key ok f = tt
  all_follow n k e (File m x rest) key ok f =
      (below_key e (file_entry m x) (ap (λ a. name_cmp a (sort_key (file_entry m x))) key ∙ ap (name_cmp k) (key_of_leaf m x ok.3) ∙ f.1), all_follow n k e rest key ok.2 f.2)
  all_follow n k e (Sub m inner rest) key ok f = (below_key e (sub_entry m inner) (ap (λ a. name_cmp a (m ++ 47 ∷ [])) key ∙ f.1), all_follow n k e rest key ok.4 f.2)

  pub entries_rise : (d : Directory) → IsCanonical d → IsStrictlySortedBy entry_cmp (entries_of hash d)
  unfolding IsStrictlySortedBy
  entries_rise End ok = tt
  entries_rise (File n x rest) ok = (all_follow n n (file_entry n x) rest (key_of_leaf n x ok.3) ok.2 ok.1, entries_rise rest ok.2)
  entries_rise (Sub n inner rest) ok = (all_follow n (n ++ 47 ∷ []) (sub_entry n inner) rest refl ok.4 ok.3, entries_rise rest ok.4)

  abbrev pub entry_at : Directory → List ℕ → Option Entry
  entry_at d n = entry_of_part hash n (part_at d n)

  -- with another entry in front, the entries after stand at their names still
  each_behind : (m k : List ℕ) (p : Leaf ⊎ Directory) (d e : Directory) → Follow m k e → AllByRecursion (λ (f : Entry). entry_at d f.filename ≡ Some f) (entries_of hash e)
      → AllByRecursion (λ (f : Entry). entry_of_part hash f.filename (cond (bytes_eq m f.filename) (Some p) (part_at d f.filename)) ≡ Some f) (entries_of hash e)
  each_behind m k p d End f all = tt
  each_behind m k p d (File n x rest) f all =
      (ap (λ t. entry_of_part hash n (cond t (Some p) (part_at d n))) (bytes_eq-no m n f.0) ∙ all.0, each_behind m k p d rest f.2 all.1)
  each_behind m k p d (Sub n inner rest) f all =
      (ap (λ t. entry_of_part hash n (cond t (Some p) (part_at d n))) (bytes_eq-no m n f.0) ∙ all.0, each_behind m k p d rest f.2 all.1)

  each_named : (d : Directory) → IsCanonical d → AllByRecursion (λ (f : Entry). entry_at d f.filename ≡ Some f) (entries_of hash d)
  each_named End ok = tt
  each_named (File n x rest) ok = (ap (λ t. entry_of_part hash n (cond t (Some (inl x)) (part_at rest n))) (itself n), each_behind n n (inl x) rest rest ok.1 (each_named rest ok.2))
  each_named (Sub n inner rest) ok = (ap (λ t. entry_of_part hash n (cond t (Some (inr inner)) (part_at rest n))) (itself n), each_behind n (n ++ 47 ∷ []) (inr inner) rest rest ok.3 (each_named rest ok.4))

  all_named : (d : Directory) (n : List ℕ) (e : Entry) → entry_at d n ≡ Some e → Contains (entries_of hash d) e
  all_named End n e is = cc
  all_named (File m x rest) n e is = go (bytes_eq m n) refl is (λ more. all_named rest n e more)
    where
      go : (t : Bool) → bytes_eq m n ≡ t → entry_of_part hash n (cond t (Some (inl x)) (part_at rest n)) ≡ Some e → (entry_at rest n ≡ Some e → Contains (entries_of hash rest) e) → Contains (entries_of hash (File m x rest)) e
      go true same is later =
          let one : file_entry n x ≡ e = cc in
          subst (Contains (entries_of hash (File m x rest))) (ap (λ b. file_entry b x) (bytes_eq-is m n same) ∙ one) (in_first (file_entry m x) (entries_of hash rest))
      go false same is later = in_later (file_entry m x) e (entries_of hash rest) (later is)
  all_named (Sub m inner rest) n e is = go (bytes_eq m n) refl is (λ more. all_named rest n e more)
    where
      go : (t : Bool) → bytes_eq m n ≡ t → entry_of_part hash n (cond t (Some (inr inner)) (part_at rest n)) ≡ Some e → (entry_at rest n ≡ Some e → Contains (entries_of hash rest) e) → Contains (entries_of hash (Sub m inner rest)) e
      go true same is later =
          let one : sub_entry n inner ≡ e = cc in
          subst (Contains (entries_of hash (Sub m inner rest))) (ap (λ b. sub_entry b inner) (bytes_eq-is m n same) ∙ one) (in_first (sub_entry m inner) (entries_of hash rest))
      go false same is later = in_later (sub_entry m inner) e (entries_of hash rest) (later is)

  pub entries_listed : (d : Directory) → IsCanonical d → IsListOf (entry_at d) (entries_of hash d)
  entries_listed d ok = record { rising = entries_rise d ok; each = each_named d ok; all = λ n e is. all_named d n e is }

  -- ---- what holds of the trees and the entries of all parts holds of those of the directory

  abbrev AllParts : (Part → Type 0) → Directory → Type 0
  AllParts P d = (n : List ℕ) → P (part_at d n)

  -- the parts of what is after an entry are parts of the whole
  parts_behind : (P : Part → Type 0) (m k : List ℕ) (p : Leaf ⊎ Directory) (d : Directory) → P None → Follow m k d → ((n : List ℕ) → P (cond (bytes_eq m n) (Some p) (part_at d n))) → AllParts P d
  parts_behind P m k p d none f all n = go (bytes_eq m n) refl (all n)
    where
      go : (t : Bool) → bytes_eq m n ≡ t → P (cond t (Some p) (part_at d n)) → P (part_at d n)
      go true e h = subst P (sym (ap (part_at d) (sym (bytes_eq-is m n e)) ∙ no_part m k d f)) none
      go false e h = h

  part_first : (P : Part → Type 0) (m : List ℕ) (p : Leaf ⊎ Directory) (d : Directory) → ((n : List ℕ) → P (cond (bytes_eq m n) (Some p) (part_at d n))) → P (Some p)
  part_first P m p d all = subst (λ t. P (cond t (Some p) (part_at d m))) (itself m) (all m)

  module _ (content : Content) where
    abbrev pub TreesHeld : Part → Type 0
    TreesHeld None = Unit {0}
    TreesHeld (Some (inl x)) = Unit {0}
    TreesHeld (Some (inr inner)) = HoldsAll hash (trees_of hash inner) content

    pub held_below : (d : Directory) → IsCanonical d → AllParts TreesHeld d → HoldsAll hash (trees_below hash d) content
    held_below End ok all = tt
    held_below (File m x rest) ok all = held_below rest ok.2 (parts_behind TreesHeld m m (inl x) rest tt ok.1 all)
    held_below (Sub m inner rest) ok all =
        All-append _ (trees_of hash inner) (trees_below hash rest) (part_first TreesHeld m (inr inner) rest all)
        (held_below rest ok.4 (parts_behind TreesHeld m (m ++ 47 ∷ []) (inr inner) rest tt ok.3 all))

  abbrev pub IsOwnPart : Part → Type 0
  IsOwnPart None = Unit {0}
  IsOwnPart (Some (inl x)) = x.id ≢ null_id (kind_of x.id)
  IsOwnPart (Some (inr inner)) = AllByRecursion NotNull (entries_within hash inner) × (root_of hash inner ≢ null_id (kind_of (root_of hash inner)))

  pub own_within : (d : Directory) → IsCanonical d → AllParts IsOwnPart d → AllByRecursion NotNull (entries_within hash d)
  own_within End ok all = tt
  own_within (File m x rest) ok all = (part_first IsOwnPart m (inl x) rest all, own_within rest ok.2 (parts_behind IsOwnPart m m (inl x) rest tt ok.1 all))
  own_within (Sub m inner rest) ok all =
      let first = part_first IsOwnPart m (inr inner) rest all in
      All-append NotNull (entries_within hash inner) (sub_entry m inner ∷ entries_within hash rest) first.0
      (first.1, own_within rest ok.4 (parts_behind IsOwnPart m (m ++ 47 ∷ []) (inr inner) rest tt ok.3 all))

  -- ---- the directory at a path

  left_of : (xs ys : List (Kind × List ℕ)) (x : Kind × List ℕ) → Contains xs x → Contains (xs ++ ys) x
  left_of [] ys x h = absurd (none_in x h)
  left_of (z ∷ xs) ys x h = go (first_or_later z x xs h) (λ later. left_of xs ys x later)
    where
      go : (z ≡ x) ⊎ Contains xs x → (Contains xs x → Contains (xs ++ ys) x) → Contains (z ∷ xs ++ ys) x
      go (inl is) more = subst (Contains (z ∷ xs ++ ys)) is (in_first z (xs ++ ys))
      go (inr later) more = in_later z x (xs ++ ys) (more later)

  right_of : (xs ys : List (Kind × List ℕ)) (x : Kind × List ℕ) → Contains ys x → Contains (xs ++ ys) x
  right_of [] ys x h = h
  right_of (z ∷ xs) ys x h = in_later z x (xs ++ ys) (right_of xs ys x h)

  part_trees : (d inner : Directory) (n : List ℕ) (x : Kind × List ℕ) → part_at d n ≡ Some (inr inner) → Contains (trees_of hash inner) x → Contains (trees_below hash d) x
  part_trees End inner n x is h = cc
  part_trees (File m y rest) inner n x is h = go (bytes_eq m n) is (λ more. part_trees rest inner n x more h)
    where
      go : (t : Bool) → cond t (Some (inl y)) (part_at rest n) ≡ Some (inr inner) → (part_at rest n ≡ Some (inr inner) → Contains (trees_below hash rest) x) → Contains (trees_below hash rest) x
      go true is later = cc
      go false is later = later is
  part_trees (Sub m i rest) inner n x is h = go (bytes_eq m n) is (λ more. part_trees rest inner n x more h)
    where
      go : (t : Bool) → cond t (Some (inr i)) (part_at rest n) ≡ Some (inr inner) → (part_at rest n ≡ Some (inr inner) → Contains (trees_below hash rest) x) → Contains (trees_of hash i ++ trees_below hash rest) x
      go true is later = let one : i ≡ inner = cc in left_of (trees_of hash i) (trees_below hash rest) x (subst (λ e. Contains (trees_of hash e) x) (sym one) h)
      go false is later = right_of (trees_of hash i) (trees_below hash rest) x (later is)

  -- a directory for what stands below a path; its tree is one of the whole, unless it is empty
  pub record Inside (d : Directory) (p : Path) : Type 0 where
    pub directory : Directory
    pub canonical : IsCanonical directory
    pub leaves : (q : Path) → leaf_at d (p ++ q) ≡ leaf_at directory q
    pub among : (p ≡ []) ⊎ (directory ≢ End) → Contains (trees_of hash d) (tree_of hash directory)

  nothing_inside : (d : Directory) (n : List ℕ) (p : Path) → ((q : Path) → leaf_at d (n ∷ p ++ q) ≡ None) → Inside d (n ∷ p)
  nothing_inside d n p none = record {
    directory = End;
    canonical = tt;
    leaves = none;
    among = λ some. none_here some;
  }
    where
      none_here : (n ∷ p ≡ []) ⊎ (End ≢ End) → Contains (trees_of hash d) (tree_of hash End)
      none_here (inl e) = cc
      none_here (inr e) = absurd (e refl)

  pub inside_directory : (p : Path) (d : Directory) → IsCanonical d → leaf_at d p ≡ None → Inside d p
  inside_directory [] d ok no_leaf = record { directory = d; canonical = ok; leaves = λ q. refl; among = λ some. last hash (trees_below hash d) (tree_of hash d) }
  inside_directory (n ∷ p) d ok no_leaf = go (part_at d n) refl (part_is_part d n ok) (λ inner fine none. inside_directory p inner fine none)
    where
      at : (part : Part) → part_at d n ≡ part → (q : Path) → leaf_at d (n ∷ q) ≡ leaf_in part q
      at part is q = leaf_of_part d n q ok ∙ ap (λ x. leaf_in x q) is

      leaf_gone : (x : Leaf) (p : Path) → ((q : Path) → leaf_at d (n ∷ q) ≡ leaf_in (Some (inl x)) q) → leaf_at d (n ∷ p) ≡ None → (q : Path) → leaf_at d (n ∷ p ++ q) ≡ None
      leaf_gone x [] look gone q = absurd (let e : Some x ≡ None = sym (look []) ∙ gone in cc)
      leaf_gone x (c ∷ p) look gone q = look (c ∷ p ++ q)

      go : (part : Part) → part_at d n ≡ part → IsPart part → ((inner : Directory) → IsCanonical inner → leaf_at inner p ≡ None → Inside inner p) → Inside d (n ∷ p)
      go None is sound deeper = nothing_inside d n p (λ q. at None is (p ++ q))
      go (Some (inl x)) is sound deeper = nothing_inside d n p (leaf_gone x p (at (Some (inl x)) is) no_leaf)
      go (Some (inr inner)) is sound deeper =
          let i = deeper inner sound.1 (sym (at (Some (inr inner)) is p) ∙ no_leaf) in
          record {
            directory = i.directory;
            canonical = i.canonical;
            leaves = λ q. at (Some (inr inner)) is (p ++ q) ∙ i.leaves q;
            among = λ some. left_of (trees_below hash d) (tree_of hash d ∷ []) (tree_of hash i.directory) (part_trees d inner n (tree_of hash i.directory) is (i.among (below_root i.directory some)));
          }
        where
          below_root : (e : Directory) → (n ∷ p ≡ []) ⊎ (e ≢ End) → (p ≡ []) ⊎ (e ≢ End)
          below_root e (inl same) = cc
          below_root e (inr some) = inr some
