-- A directory gone through entry by entry, along the rows of its leaves.
use Rattle.std.proofs.Common.{◌≡◌, ◌≢◌, ℕ, suc, ◌++◌, ◌+◌, ◌<◌, cond, List, [], ◌∷◌, map, length, refl, sym, ap, ap₂, ◌∙◌, subst, arith, append_assoc}
use Rattle.std.specs.List.{AllByRecursion}
use Rattle.std.proofs.lemmas.List.{length-map, append-nil, map-append}
use Rattle.gx_hash.specs.declared.kind.HashKind.{HashKind}
use Rattle.gx_hash.specs.declared.oid.ObjectId.{ObjectId}
use Rattle.gx_object.specs.declared.tree.Entry.{Entry}
use Rattle.gx_object.specs.declared.kind.Kind.TheVariants as object_kind
use Rattle.gx_object.specs.declared.tree.EntryKind.TheVariants as entry_kind
use Rattle.gx_object.specs.Mode.{mode_of}
use Rattle.gx_object.specs.Tree.{entry_bytes, tree_bytes}
use Rattle.gx_edit.specs.Path.{Path}
use Rattle.gx_edit.specs.CanonicalTree.{Directory, IsCanonical, Follow, entries_of, root_of, tree_of, trees_below}
use Rattle.gx_edit.specs.CanonicalTree.Directory.{End, File, Sub}
use Rattle.gx_edit.specs.CanonicalTree.{entries_within}
use Rattle.gx_edit.specs.Planning.{under, leaves_of, goes_into, run, Made, planned, with_tree, with_entry}
use Rattle.gx_edit.specs.declared.leaf.Leaf.{Leaf}
use Rattle.gx_edit.specs.declared.output.PlannedTree.{PlannedTree}
use Rattle.gx_edit.proofs.PathLemmas.{bytes_eq-of}
use Rattle.gx_edit.proofs.DirectoryLemmas.{bytes_eq-no}

-- ---- directories one after another

-- one directory's entries and then another's
abbrev pub joined : Directory → Directory → Directory
joined End e = e
joined (File n leaf rest) e = File n leaf (joined rest e)
joined (Sub n inner rest) e = Sub n inner (joined rest e)

-- ---- what is made so far

abbrev pub nothing_made : Made
nothing_made = record { trees = []; entries = [] }

abbrev pub tree_entry : List ℕ → ObjectId → Entry
tree_entry n id = record { mode = record { value = mode_of entry_kind.Tree }; filename = n; oid = id }

-- what is made after other things as the entries of a directory are gone through
abbrev pub made_below : HashKind → Directory → Made → Made
made_below hash End m = m
made_below hash (File n leaf rest) m = made_below hash rest (with_entry (record { mode = leaf.mode; filename = n; oid = leaf.id }) m)
made_below hash (Sub n inner rest) m = made_below hash rest (with_entry (tree_entry n (root_of hash inner)) (with_tree (planned hash (tree_of hash inner)) (made_below hash inner m)))

-- the directory is gone through, and its own tree made
abbrev pub made_all : HashKind → Directory → Made → Made
made_all hash directory m = with_tree (planned hash (tree_of hash directory)) (made_below hash directory m)

-- A directory is gone through but for these rows.
pub record IsAtRow (hash : HashKind) (old new : Made) (ahead : List (Path × Leaf)) (bytes : List ℕ) (directory : Directory) : Type 0 where
  pub done : Directory
  pub rest : Directory
  pub whole : directory ≡ joined done rest
  pub left : leaves_of rest ≡ ahead
  pub bytes_so_far : bytes ≡ tree_bytes (entries_of hash done)
  pub made_so_far : new ≡ made_below hash done old

-- ---- laws of both

joined-assoc : (a b c : Directory) → joined (joined a b) c ≡ joined a (joined b c)
joined-assoc End b c = refl
joined-assoc (File n leaf rest) b c = ap (File n leaf) (joined-assoc rest b c)
joined-assoc (Sub n inner rest) b c = ap (Sub n inner) (joined-assoc rest b c)

joined-end : (a : Directory) → joined a End ≡ a
joined-end End = refl
joined-end (File n leaf rest) = ap (File n leaf) (joined-end rest)
joined-end (Sub n inner rest) = ap (Sub n inner) (joined-end rest)

canonical_rest : (a b : Directory) → IsCanonical (joined a b) → IsCanonical b
canonical_rest End b ok = ok
canonical_rest (File n leaf rest) b ok = canonical_rest rest b ok.2
canonical_rest (Sub n inner rest) b ok = canonical_rest rest b ok.4

tree_bytes-append : (a b : List Entry) → tree_bytes (a ++ b) ≡ tree_bytes a ++ tree_bytes b
tree_bytes-append [] b = refl
tree_bytes-append (e ∷ a) b = ap (λ t. entry_bytes e ++ t) (tree_bytes-append a b) ∙ sym (append_assoc (entry_bytes e) (tree_bytes a) (tree_bytes b))

entries_of-joined : (hash : HashKind) (a b : Directory) → entries_of hash (joined a b) ≡ entries_of hash a ++ entries_of hash b
entries_of-joined hash End b = refl
entries_of-joined hash (File n leaf rest) b = ap (λ t. record { mode = leaf.mode; filename = n; oid = leaf.id } ∷ t) (entries_of-joined hash rest b)
entries_of-joined hash (Sub n inner rest) b = ap (λ t. tree_entry n (root_of hash inner) ∷ t) (entries_of-joined hash rest b)

made_below-joined : (hash : HashKind) (a b : Directory) (m : Made) → made_below hash (joined a b) m ≡ made_below hash b (made_below hash a m)
made_below-joined hash End b m = refl
made_below-joined hash (File n leaf rest) b m = made_below-joined hash rest b _
made_below-joined hash (Sub n inner rest) b m = made_below-joined hash rest b _

-- one entry more is spelled
tree_bytes-more : (hash : HashKind) (done last : Directory) (e : Entry) (bytes : List ℕ) → bytes ≡ tree_bytes (entries_of hash done) → entries_of hash last ≡ e ∷ [] → bytes ++ entry_bytes e ≡ tree_bytes (entries_of hash (joined done last))
tree_bytes-more hash done last e bytes so_far one =
    ap₂ (λ a b. a ++ b) so_far (sym (append-nil (entry_bytes e)) ∙ ap tree_bytes (sym one))
    ∙ sym (tree_bytes-append (entries_of hash done) (entries_of hash last)) ∙ ap tree_bytes (sym (entries_of-joined hash done last))

-- ---- what the first row says of a directory

-- no leaf has the root's path
row_path : (d : Directory) (q : Path) (leaf : Leaf) (more : List (Path × Leaf)) → leaves_of d ≡ (q, leaf) ∷ more → q ≢ []
row_path End q leaf more h = cc
row_path (File n other rest) q leaf more h = λ e. let same : ◌≡◌ {A = Path × Leaf} (n ∷ [], other) (q, leaf) = cc in let path : n ∷ [] ≡ q = ap (λ (r : Path × Leaf). r.0) same in cc
row_path (Sub n inner rest) q leaf more h = go (leaves_of inner) h (row_path rest q leaf more)
  where
    go : (ls : List (Path × Leaf)) → map (under n) ls ++ leaves_of rest ≡ (q, leaf) ∷ more → (leaves_of rest ≡ (q, leaf) ∷ more → q ≢ []) → q ≢ []
    go [] h ih = ih h
    go (l ∷ ls) h ih = let same : under n l ≡ (q, leaf) = cc in let path : n ∷ l.0 ≡ q = ap (λ (r : Path × Leaf). r.0) same in λ e. cc

pub no_rows : (d : Directory) → IsCanonical d → leaves_of d ≡ [] → d ≡ End
no_rows End ok h = refl
no_rows (File n leaf rest) ok h = cc
no_rows (Sub n inner rest) ok h = go (leaves_of inner) refl h (no_rows inner ok.2)
  where
    go : (ls : List (Path × Leaf)) → leaves_of inner ≡ ls → map (under n) ls ++ leaves_of rest ≡ [] → (leaves_of inner ≡ [] → inner ≡ End) → Sub n inner rest ≡ End
    go [] e h ih = absurd (ok.1 (ih e))
    go (l ∷ ls) e h ih = cc

first_row : (d : Directory) → IsCanonical d → d ≢ End → (c : List ℕ) × (p : Path) × (leaf : Leaf) × (more : List (Path × Leaf)) × (leaves_of d ≡ (c ∷ p, leaf) ∷ more)
first_row d ok some = go (leaves_of d) refl
  where
    go : (ls : List (Path × Leaf)) → leaves_of d ≡ ls → (c : List ℕ) × (p : Path) × (leaf : Leaf) × (more : List (Path × Leaf)) × (leaves_of d ≡ (c ∷ p, leaf) ∷ more)
    go [] e = absurd (some (no_rows d ok e))
    go (l ∷ ls) e = named l.0 refl
      where
        named : (q : Path) → l.0 ≡ q → (c : List ℕ) × (p : Path) × (leaf : Leaf) × (more : List (Path × Leaf)) × (leaves_of d ≡ (c ∷ p, leaf) ∷ more)
        named [] f = absurd (row_path d l.0 l.1 ls e f)
        named (c ∷ p) f = (c, p, l.1, ls, e ∙ ap (λ (q : Path). (q, l.1) ∷ ls) f)

first_file : (d : Directory) (n : List ℕ) (leaf : Leaf) (more : List (Path × Leaf)) → IsCanonical d → leaves_of d ≡ (n ∷ [], leaf) ∷ more → (rest : Directory) × (d ≡ File n leaf rest) × (leaves_of rest ≡ more)
first_file End n leaf more ok h = cc
first_file (File m other rest) n leaf more ok h =
    let same : ◌≡◌ {A = Path × Leaf} (m ∷ [], other) (n ∷ [], leaf) = cc in
    let path : m ∷ [] ≡ n ∷ [] = ap (λ (r : Path × Leaf). r.0) same in
    let name : m ≡ n = cc in
    let leaves : other ≡ leaf = ap (λ (r : Path × Leaf). r.1) same in
    let left : leaves_of rest ≡ more = cc in
    (rest, cc, left)
first_file (Sub m inner rest) n leaf more ok h =
    let s = first_row inner ok.2 ok.1 in
    let start : under m (s.0 ∷ s.1, s.2) ∷ (map (under m) s.3 ++ leaves_of rest) ≡ (n ∷ [], leaf) ∷ more = ap (λ (t : List (Path × Leaf)). map (under m) t ++ leaves_of rest) (sym s.4) ∙ h in
    let same : under m (s.0 ∷ s.1, s.2) ≡ (n ∷ [], leaf) = cc in
    let path : m ∷ s.0 ∷ s.1 ≡ n ∷ [] = ap (λ (r : Path × Leaf). r.0) same in
    cc

first_sub : (d : Directory) (n c : List ℕ) (p : Path) (leaf : Leaf) (more : List (Path × Leaf)) → IsCanonical d → leaves_of d ≡ (n ∷ c ∷ p, leaf) ∷ more → (inner : Directory) × (rest : Directory) × (d ≡ Sub n inner rest)
first_sub End n c p leaf more ok h = cc
first_sub (File m other rest) n c p leaf more ok h =
    let same : ◌≡◌ {A = Path × Leaf} (m ∷ [], other) (n ∷ c ∷ p, leaf) = cc in
    let path : m ∷ [] ≡ n ∷ c ∷ p = ap (λ (r : Path × Leaf). r.0) same in
    cc
first_sub (Sub m inner rest) n c p leaf more ok h =
    let s = first_row inner ok.2 ok.1 in
    let start : under m (s.0 ∷ s.1, s.2) ∷ (map (under m) s.3 ++ leaves_of rest) ≡ (n ∷ c ∷ p, leaf) ∷ more = ap (λ (t : List (Path × Leaf)). map (under m) t ++ leaves_of rest) (sym s.4) ∙ h in
    let same : under m (s.0 ∷ s.1, s.2) ≡ (n ∷ c ∷ p, leaf) = cc in
    let path : m ∷ s.0 ∷ s.1 ≡ n ∷ c ∷ p = ap (λ (r : Path × Leaf). r.0) same in
    let name : m ≡ n = cc in
    (inner, rest, cc)

-- ---- runs of rows

-- a directory without the name n has no row that goes into n at its front
no_run : (n k : List ℕ) (d : Directory) → IsCanonical d → Follow n k d → run n (leaves_of d) ≡ 0
no_run n k End ok f = refl
no_run n k (File m leaf rest) ok f = refl
no_run n k (Sub m inner rest) ok f =
    let s = first_row inner ok.2 ok.1 in
    rw s.4 (rw (bytes_eq-no m n (λ e. f.0 (sym e))) refl)

-- no row is the root's
abbrev pub HavePaths : List (Path × Leaf) → Type 0
HavePaths = AllByRecursion (λ r. r.0 ≢ [])

HavePaths-append : (xs ys : List (Path × Leaf)) → HavePaths xs → HavePaths ys → HavePaths (xs ++ ys)
HavePaths-append [] ys a b = b
HavePaths-append (x ∷ xs) ys a b = (a.0, HavePaths-append xs ys a.1 b)

HavePaths-under : (n : List ℕ) (xs : List (Path × Leaf)) → HavePaths (map (under n) xs)
HavePaths-under n [] = tt
HavePaths-under n (x ∷ xs) = (λ e. cc, HavePaths-under n xs)

pub leaves-have_paths : (d : Directory) → HavePaths (leaves_of d)
leaves-have_paths End = tt
leaves-have_paths (File n leaf rest) = (λ e. cc, leaves-have_paths rest)
leaves-have_paths (Sub n inner rest) = HavePaths-append (map (under n) (leaves_of inner)) (leaves_of rest) (HavePaths-under n (leaves_of inner)) (leaves-have_paths rest)

run-under : (n : List ℕ) (xs ys : List (Path × Leaf)) → HavePaths xs → run n ys ≡ 0 → run n (map (under n) xs ++ ys) ≡ length xs
run-under n [] ys h e = e
run-under n (x ∷ xs) ys h e = go x.0 h.0 (run-under n xs ys h.1 e)
  where
    go : (q : Path) → q ≢ [] → run n (map (under n) xs ++ ys) ≡ length xs → cond (goes_into n (n ∷ q)) (1 + run n (map (under n) xs ++ ys)) 0 ≡ suc (length xs)
    go [] some ih = absurd (some refl)
    go (c ∷ q) some ih = rw (bytes_eq-of n n refl) (omega (arith, ih))

module _ {A : Type 0} where
  same_parts : (xs us ys vs : List A) → length xs ≡ length us → xs ++ ys ≡ us ++ vs → (xs ≡ us) × (ys ≡ vs)
  same_parts [] [] ys vs l h = (refl, h)
  same_parts [] (u ∷ us) ys vs l h = absurd (omega (arith, l))
  same_parts (x ∷ xs) [] ys vs l h = absurd (omega (arith, l))
  same_parts (x ∷ xs) (u ∷ us) ys vs l h =
      let head : x ≡ u = cc in
      let tail : xs ++ ys ≡ us ++ vs = cc in
      let r = same_parts xs us ys vs (omega (arith, l)) tail in
      let front : xs ≡ us = r.0 in
      (cc, r.1)

under_same : (n : List ℕ) (xs ys : List (Path × Leaf)) → map (under n) xs ≡ map (under n) ys → xs ≡ ys
under_same n [] [] h = refl
under_same n [] (y ∷ ys) h = cc
under_same n (x ∷ xs) [] h = cc
under_same n (x ∷ xs) (y ∷ ys) h =
    let head : under n x ≡ under n y = cc in
    let tail : map (under n) xs ≡ map (under n) ys = cc in
    let path : n ∷ x.0 ≡ n ∷ y.0 = ap (λ (r : Path × Leaf). r.0) head in
    let below : x.0 ≡ y.0 = cc in
    let leaf : x.1 ≡ y.1 = ap (λ (r : Path × Leaf). r.1) head in
    let first : x ≡ y = λ i. (below i, leaf i) in
    let more : xs ≡ ys = under_same n xs ys tail in
    cc

-- ---- the steps

module _ (hash : HashKind) where
  rest_ok : {old new : Made} {ahead : List (Path × Leaf)} {bytes : List ℕ} {d : Directory} → IsCanonical d → (s : IsAtRow hash old new ahead bytes d) → IsCanonical s.rest
  rest_ok ok s = canonical_rest s.done s.rest (subst IsCanonical s.whole ok)

  pub at_first : (old : Made) (d : Directory) (ahead : List (Path × Leaf)) → leaves_of d ≡ ahead → IsAtRow hash old old ahead [] d
  at_first old d ahead h = record { done = End; rest = d; whole = refl; left = h; bytes_so_far = refl; made_so_far = refl }

  pub past_file : (old mid new : Made) (ahead : List (Path × Leaf)) (bytes more : List ℕ) (d : Directory) (n : List ℕ) (leaf : Leaf) → IsCanonical d
      → more ≡ bytes ++ entry_bytes (record { mode = leaf.mode; filename = n; oid = leaf.id }) → new ≡ with_entry (record { mode = leaf.mode; filename = n; oid = leaf.id }) mid
      → IsAtRow hash old mid ((n ∷ [], leaf) ∷ ahead) bytes d → IsAtRow hash old new ahead more d
  past_file old mid new ahead bytes more d n leaf ok text entry s =
      let f = first_file s.rest n leaf ahead (rest_ok ok s) s.left in
      let e : Entry = record { mode = leaf.mode; filename = n; oid = leaf.id } in
      record {
        done = joined s.done (File n leaf End);
        rest = f.0;
        whole = s.whole ∙ ap (joined s.done) f.1 ∙ sym (joined-assoc s.done (File n leaf End) f.0);
        left = f.2;
        bytes_so_far = text ∙ tree_bytes-more hash s.done (File n leaf End) e bytes s.bytes_so_far refl;
        made_so_far = entry ∙ ap (with_entry e) s.made_so_far ∙ sym (made_below-joined hash s.done (File n leaf End) old);
      }

  -- the directory that a group of rows stands for
  pub record IsSub {old new : Made} {ahead : List (Path × Leaf)} {bytes : List ℕ} {d : Directory} (s : IsAtRow hash old new ahead bytes d) (n : List ℕ) (group others : List (Path × Leaf)) : Type 0 where
    pub inner : Directory
    pub after : Directory
    pub is : s.rest ≡ Sub n inner after
    pub canonical : IsCanonical inner
    pub group_is : leaves_of inner ≡ group
    pub others_are : leaves_of after ≡ others

  pub sub_found : {old new : Made} {ahead : List (Path × Leaf)} {bytes : List ℕ} {d : Directory} (n : List ℕ) (group others : List (Path × Leaf)) → IsCanonical d → (s : IsAtRow hash old new ahead bytes d)
      → ahead ≡ map (under n) group ++ others → run n ahead ≡ length group → 0 < length group → IsSub s n group others
  sub_found {ahead = ahead} {d = d} n group others ok s is count some = first group is count some
    where
      first : (g : List (Path × Leaf)) → ahead ≡ map (under n) g ++ others → run n ahead ≡ length g → 0 < length g → IsSub s n g others
      first [] is count some = absurd (omega (arith, some))
      first (g ∷ gs) is count some = path g.0 refl
        where
          path : (q : Path) → g.0 ≡ q → IsSub s n (g ∷ gs) others
          path [] e = absurd (let none : run n ahead ≡ 0 = ap (run n) is ∙ ap (λ (q : Path). run n ((n ∷ q, g.1) ∷ (map (under n) gs ++ others))) e in omega (arith, none, count, some))
          path (c ∷ q) e =
              let okr = rest_ok ok s in
              let start : leaves_of s.rest ≡ (n ∷ c ∷ q, g.1) ∷ (map (under n) gs ++ others) = s.left ∙ is ∙ ap (λ (q : Path). (n ∷ q, g.1) ∷ (map (under n) gs ++ others)) e in
              let f = first_sub s.rest n c q g.1 (map (under n) gs ++ others) okr start in
              let oks : IsCanonical (Sub n f.0 f.1) = subst IsCanonical f.2 okr in
              let all : map (under n) (leaves_of f.0) ++ leaves_of f.1 ≡ map (under n) (g ∷ gs) ++ others = ap leaves_of (sym f.2) ∙ s.left ∙ is in
              let size : length (leaves_of f.0) ≡ length (g ∷ gs) = sym (run-under n (leaves_of f.0) (leaves_of f.1) (leaves-have_paths f.0) (no_run n (n ++ 47 ∷ []) f.1 oks.4 oks.3)) ∙ ap (run n) (all ∙ sym is) ∙ count in
              let parts = same_parts (map (under n) (leaves_of f.0)) (map (under n) (g ∷ gs)) (leaves_of f.1) others (length-map (leaves_of f.0) (under n) ∙ size ∙ sym (length-map (g ∷ gs) (under n))) all in
              record { inner = f.0; after = f.1; is = f.2; canonical = oks.2; group_is = under_same n (leaves_of f.0) (g ∷ gs) parts.0; others_are = parts.1 }

  -- the trees of the directory are planned, and this is its root
  pub record IsPlanned (old new : Made) (d : Directory) (id : ObjectId) : Type 0 where
    pub root : id ≡ root_of hash d
    pub all : new ≡ made_all hash d old

  pub past_sub : {old mid : Made} {ahead : List (Path × Leaf)} {bytes : List ℕ} {d : Directory} {n : List ℕ} {group others : List (Path × Leaf)} (next new : Made) (id : ObjectId) (more : List ℕ)
      → (s : IsAtRow hash old mid ahead bytes d) → (f : IsSub s n group others) → IsPlanned mid next f.inner id → more ≡ bytes ++ entry_bytes (tree_entry n id) → new ≡ with_entry (tree_entry n id) next → IsAtRow hash old new others more d
  past_sub {old = old} {mid = mid} {bytes = bytes} {n = n} {others = others} next new id more s f w text entry =
      let e : Entry = tree_entry n (root_of hash f.inner) in
      record {
        done = joined s.done (Sub n f.inner End);
        rest = f.after;
        whole = s.whole ∙ ap (joined s.done) f.is ∙ sym (joined-assoc s.done (Sub n f.inner End) f.after);
        left = f.others_are;
        bytes_so_far = text ∙ ap (λ i. bytes ++ entry_bytes (tree_entry n i)) w.root ∙ tree_bytes-more hash s.done (Sub n f.inner End) e bytes s.bytes_so_far refl;
        made_so_far = entry ∙ ap (λ i. with_entry (tree_entry n i) next) w.root ∙ ap (with_entry e) (w.all ∙ ap (made_all hash f.inner) s.made_so_far) ∙ sym (made_below-joined hash s.done (Sub n f.inner End) old);
      }

  pub all_planned : {old mid : Made} {bytes : List ℕ} {d : Directory} (new : Made) (id : ObjectId) → IsCanonical d → (s : IsAtRow hash old mid [] bytes d)
      → id ≡ (planned hash (object_kind.Tree, bytes)).id → new ≡ with_tree (planned hash (object_kind.Tree, bytes)) mid → IsPlanned old new d id
  all_planned {old = old} {mid = mid} {bytes = bytes} {d = d} new id ok s is tree =
      let end : d ≡ s.done = s.whole ∙ ap (joined s.done) (no_rows s.rest (rest_ok ok s) s.left) ∙ joined-end s.done in
      let text : bytes ≡ tree_bytes (entries_of hash d) = s.bytes_so_far ∙ ap (λ a. tree_bytes (entries_of hash a)) (sym end) in
      record {
        root = is ∙ ap (λ b. (planned hash (object_kind.Tree, b)).id) text;
        all = tree ∙ ap₂ (λ b m. with_tree (planned hash (object_kind.Tree, b)) m) text (s.made_so_far ∙ ap (λ a. made_below hash a old) (sym end));
      }

-- ---- all that is made

pub trees_made : (hash : HashKind) (d : Directory) (m : Made) → (made_below hash d m).trees ≡ m.trees ++ map (planned hash) (trees_below hash d)
trees_made hash End m = sym (append-nil m.trees)
trees_made hash (File n leaf rest) m = trees_made hash rest (with_entry (record { mode = leaf.mode; filename = n; oid = leaf.id }) m)
trees_made hash (Sub n inner rest) m =
    let tree : PlannedTree = planned hash (tree_of hash inner) in
    let inside : List PlannedTree = map (planned hash) (trees_below hash inner) in
    let behind : List PlannedTree = map (planned hash) (trees_below hash rest) in
    trees_made hash rest (with_entry (tree_entry n (root_of hash inner)) (with_tree tree (made_below hash inner m)))
    ∙ ap (λ t. (t ++ tree ∷ []) ++ behind) (trees_made hash inner m)
    ∙ ap (λ t. t ++ behind) (append_assoc m.trees inside (tree ∷ []))
    ∙ append_assoc m.trees (inside ++ tree ∷ []) behind
    ∙ ap (λ t. m.trees ++ t) (sym (map-append (planned hash) (trees_below hash inner ++ tree_of hash inner ∷ []) (trees_below hash rest) ∙ ap (λ t. t ++ behind) (map-append (planned hash) (trees_below hash inner) (tree_of hash inner ∷ []))))

pub entries_made : (hash : HashKind) (d : Directory) (m : Made) → (made_below hash d m).entries ≡ m.entries ++ entries_within hash d
entries_made hash End m = sym (append-nil m.entries)
entries_made hash (File n leaf rest) m =
    let e : Entry = record { mode = leaf.mode; filename = n; oid = leaf.id } in
    entries_made hash rest (with_entry e m) ∙ append_assoc m.entries (e ∷ []) (entries_within hash rest)
entries_made hash (Sub n inner rest) m =
    let e : Entry = tree_entry n (root_of hash inner) in
    entries_made hash rest (with_entry e (with_tree (planned hash (tree_of hash inner)) (made_below hash inner m)))
    ∙ ap (λ t. (t ++ e ∷ []) ++ entries_within hash rest) (entries_made hash inner m)
    ∙ append_assoc (m.entries ++ entries_within hash inner) (e ∷ []) (entries_within hash rest)
    ∙ append_assoc m.entries (entries_within hash inner) (e ∷ entries_within hash rest)
