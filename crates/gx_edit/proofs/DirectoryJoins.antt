-- Directories one after another, and what stands in a directory that is not whole yet.
use Rattle.std.proofs.Common.{◌≡◌, ◌≢◌, ℕ, Bool, true, false, ◌&&◌, cond, List, [], ◌∷◌, ◌++◌, map, append_assoc, Option, Some, None, refl, sym, ap, ap₂, ◌∙◌, subst, true≢false}
use Rattle.std.specs.Str.{bytes_eq}
use Rattle.std.specs.List.{AllByRecursion}
use Rattle.gx_hash.specs.declared.kind.HashKind.{HashKind}
use Rattle.gx_hash.specs.declared.oid.ObjectId.{ObjectId}
use Rattle.gx_hash.specs.HashKind.{kind_of}
use Rattle.gx_hash.specs.ObjectId.{null_id, bytes_of, id_from_bytes}
use Rattle.gx_object.specs.declared.kind.Kind.{Kind}
use Rattle.gx_object.specs.declared.tree.Entry.{Entry}
use Rattle.gx_object.specs.declared.tree.EntryKind.TheVariants as entry_kind
use Rattle.gx_object.specs.Mode.{mode_of}
use Rattle.gx_edit.specs.Path.{Path, path_eq, IsName}
use Rattle.gx_edit.specs.CanonicalTree.{Directory, leaf_at, Follow, IsBelow, IsCanonical, IsLeafMode, entries_of, tree_of, trees_below, root_of}
use Rattle.gx_edit.specs.CanonicalTree.Directory.{End, File, Sub}
use Rattle.gx_edit.specs.CanonicalTree.{entries_within}
use Rattle.gx_edit.specs.declared.leaf.Leaf.{Leaf}
use Rattle.gx_edit.proofs.PathLemmas.{bytes_eq-is, bytes_eq-of}
use Rattle.gx_edit.proofs.DirectoryLemmas.{bytes_eq-no, leaf_at-root}

-- one directory's entries and then another's
abbrev pub join : Directory → Directory → Directory
join End e = e
join (File n leaf rest) e = File n leaf (join rest e)
join (Sub n inner rest) e = Sub n inner (join rest e)

pub entries-join : (hash : HashKind) (d e : Directory) → entries_of hash (join d e) ≡ entries_of hash d ++ entries_of hash e
entries-join hash End e = refl
entries-join hash (File n x rest) e = ap (λ es. record { mode = x.mode; filename = n; oid = x.id } ∷ es) (entries-join hash rest e)
entries-join hash (Sub n inner rest) e = ap (λ es. record { mode = record { value = 16384 }; filename = n; oid = root_of hash inner } ∷ es) (entries-join hash rest e)

pub trees-join : (hash : HashKind) (d e : Directory) → trees_below hash (join d e) ≡ trees_below hash d ++ trees_below hash e
trees-join hash End e = refl
trees-join hash (File n x rest) e = trees-join hash rest e
trees-join hash (Sub n inner rest) e =
    ap (λ (ts : List (Kind × List ℕ)). (trees_below hash inner ++ tree_of hash inner ∷ []) ++ ts) (trees-join hash rest e)
    ∙ sym (append_assoc (trees_below hash inner ++ tree_of hash inner ∷ []) (trees_below hash rest) (trees_below hash e))

-- no entry of the directory has the name
abbrev pub HasNot : List ℕ → Directory → Type 0
HasNot n End = Unit {0}
HasNot n (File m x rest) = (m ≢ n) × HasNot n rest
HasNot n (Sub m inner rest) = (m ≢ n) × HasNot n rest

-- ---- leaves

leaf_none : (n : List ℕ) (d : Directory) (p : Path) → HasNot n d → leaf_at d (n ∷ p) ≡ None
leaf_none n End p h = refl
leaf_none n (File m x rest) [] h = rw (bytes_eq-no m n h.0) (leaf_none n rest [] h.1)
leaf_none n (File m x rest) (c ∷ p) h = leaf_none n rest (c ∷ p) h.1
leaf_none n (Sub m inner rest) p h = rw (bytes_eq-no m n h.0) (leaf_none n rest p h.1)

-- what stands after entries of other names
leaf_behind : (n : List ℕ) (d e : Directory) (p : Path) → HasNot n d → leaf_at (join d e) (n ∷ p) ≡ leaf_at e (n ∷ p)
leaf_behind n End e p h = refl
leaf_behind n (File m x rest) e [] h = rw (bytes_eq-no m n h.0) (leaf_behind n rest e [] h.1)
leaf_behind n (File m x rest) e (c ∷ p) h = leaf_behind n rest e (c ∷ p) h.1
leaf_behind n (Sub m inner rest) e p h = rw (bytes_eq-no m n h.0) (leaf_behind n rest e p h.1)

-- what stands before entries of other names
leaf_before : (n : List ℕ) (d e : Directory) (p : Path) → HasNot n e → leaf_at (join d e) (n ∷ p) ≡ leaf_at d (n ∷ p)
leaf_before n End e p h = leaf_none n e p h
leaf_before n (File m x rest) e [] h = ap (cond (bytes_eq m n) (Some x)) (leaf_before n rest e [] h)
leaf_before n (File m x rest) e (c ∷ p) h = leaf_before n rest e (c ∷ p) h
leaf_before n (Sub m inner rest) e p h = ap (cond (bytes_eq m n) (leaf_at inner p)) (leaf_before n rest e p h)

differs : (m c : List ℕ) → bytes_eq m c ≡ false → m ≢ c
differs m c e same = true≢false (sym (bytes_eq-of m c same) ∙ e)

-- one leaf more in a directory
leaf_more : (done : Directory) (n : List ℕ) (x : Leaf) (p : Path) → HasNot n done → leaf_at (join done (File n x End)) p ≡ cond (path_eq (n ∷ []) p) (Some x) (leaf_at done p)
leaf_more done n x [] h = leaf_at-root (join done (File n x End)) ∙ sym (leaf_at-root done)
leaf_more done n x (c ∷ p) h = go (bytes_eq n c) refl p
  where
    go : (t : Bool) → bytes_eq n c ≡ t → (p : Path) → leaf_at (join done (File n x End)) (c ∷ p) ≡ cond (path_eq (n ∷ []) (c ∷ p)) (Some x) (leaf_at done (c ∷ p))
    go true e [] =
        leaf_behind c done (File n x End) [] (subst (λ m. HasNot m done) (bytes_eq-is n c e) h)
        ∙ ap (λ t. cond t (Some x) None) e ∙ sym (ap (λ t. cond (t && true) (Some x) (leaf_at done (c ∷ []))) e)
    go true e (d ∷ q) =
        leaf_behind c done (File n x End) (d ∷ q) (subst (λ m. HasNot m done) (bytes_eq-is n c e) h)
        ∙ sym (ap (λ t. cond (t && false) (Some x) (leaf_at done (c ∷ d ∷ q))) e ∙ leaf_none c done (d ∷ q) (subst (λ m. HasNot m done) (bytes_eq-is n c e) h))
    go false e [] = leaf_before c done (File n x End) [] (differs n c e, tt) ∙ sym (ap (λ t. cond (t && true) (Some x) (leaf_at done (c ∷ []))) e)
    go false e (d ∷ q) = leaf_before c done (File n x End) (d ∷ q) (differs n c e, tt) ∙ sym (ap (λ t. cond (t && false) (Some x) (leaf_at done (c ∷ d ∷ q))) e)

-- one leaf more in the last directory of a directory
sub_more : (done inner more : Directory) (m : List ℕ) (q : Path) (x : Leaf) → HasNot m done → ((p : Path) → leaf_at more p ≡ cond (path_eq q p) (Some x) (leaf_at inner p)) →
    (p : Path) → leaf_at (join done (Sub m more End)) p ≡ cond (path_eq (m ∷ q) p) (Some x) (leaf_at (join done (Sub m inner End)) p)
sub_more done inner more m q x h step [] = leaf_at-root (join done (Sub m more End)) ∙ sym (leaf_at-root (join done (Sub m inner End)))
sub_more done inner more m q x h step (c ∷ p) = go (bytes_eq m c) refl
  where
    go : (t : Bool) → bytes_eq m c ≡ t → leaf_at (join done (Sub m more End)) (c ∷ p) ≡ cond (bytes_eq m c && path_eq q p) (Some x) (leaf_at (join done (Sub m inner End)) (c ∷ p))
    go true e =
        let there : HasNot c done = subst (λ m. HasNot m done) (bytes_eq-is m c e) h in
        leaf_behind c done (Sub m more End) p there ∙ ap (λ t. cond t (leaf_at more p) None) e ∙ step p
        ∙ sym (ap₂ (λ t o. cond (t && path_eq q p) (Some x) o) e (leaf_behind c done (Sub m inner End) p there ∙ ap (λ t. cond t (leaf_at inner p) None) e))
    go false e =
        leaf_before c done (Sub m more End) p (differs m c e, tt)
        ∙ sym (ap₂ (λ t o. cond (t && path_eq q p) (Some x) o) e (leaf_before c done (Sub m inner End) p (differs m c e, tt)))

-- an empty directory more has no leaf
pub leaf_opened : (done : Directory) (n : List ℕ) (p : Path) → leaf_at (join done (Sub n End End)) p ≡ leaf_at done p
leaf_opened End n [] = refl
leaf_opened End n (c ∷ p) = go (bytes_eq n c)
  where
    go : (t : Bool) → cond {A = Option Leaf} t None None ≡ None
    go true = refl
    go false = refl
leaf_opened (File m x rest) n [] = refl
leaf_opened (File m x rest) n (c ∷ []) = ap (cond (bytes_eq m c) (Some x)) (leaf_opened rest n (c ∷ []))
leaf_opened (File m x rest) n (c ∷ d ∷ p) = leaf_opened rest n (c ∷ d ∷ p)
leaf_opened (Sub m inner rest) n [] = refl
leaf_opened (Sub m inner rest) n (c ∷ p) = ap (cond (bytes_eq m c) (leaf_at inner p)) (leaf_opened rest n (c ∷ p))

sub_same : (done d e : Directory) (m : List ℕ) → ((p : Path) → leaf_at d p ≡ leaf_at e p) → (p : Path) → leaf_at (join done (Sub m d End)) p ≡ leaf_at (join done (Sub m e End)) p
sub_same End d e m same [] = refl
sub_same End d e m same (c ∷ p) = ap (λ o. cond (bytes_eq m c) o None) (same p)
sub_same (File k x rest) d e m same [] = refl
sub_same (File k x rest) d e m same (c ∷ []) = ap (cond (bytes_eq k c) (Some x)) (sub_same rest d e m same (c ∷ []))
sub_same (File k x rest) d e m same (c ∷ b ∷ p) = sub_same rest d e m same (c ∷ b ∷ p)
sub_same (Sub k inner rest) d e m same [] = refl
sub_same (Sub k inner rest) d e m same (c ∷ p) = ap (cond (bytes_eq k c) (leaf_at inner p)) (sub_same rest d e m same (c ∷ p))

-- ---- a directory with directories that are begun

-- what is read of a directory, and its entry that is begun
pub record Above : Type 0 where
  pub done : Directory
  pub entry : Entry

-- the root as far as it is read, by what is read of the innermost directory
abbrev pub filled : List Above → Directory → Directory
filled [] d = d
filled (k ∷ ks) d = join k.done (Sub k.entry.filename (filled ks d) End)

abbrev pub names : List Above → Path
names ks = map (λ (k : Above). k.entry.filename) ks

abbrev pub AreFresh : List Above → Type 0
AreFresh ks = AllByRecursion (λ (k : Above). HasNot k.entry.filename k.done) ks

pub filled-push : (ks : List Above) (k : Above) (d : Directory) → filled (ks ++ k ∷ []) d ≡ filled ks (join k.done (Sub k.entry.filename d End))
filled-push [] k d = refl
filled-push (j ∷ ks) k d = ap (λ e. join j.done (Sub j.entry.filename e End)) (filled-push ks k d)

pub leaf_filled : (ks : List Above) (done : Directory) (n : List ℕ) (x : Leaf) → AreFresh ks → HasNot n done → (p : Path) → leaf_at (filled ks (join done (File n x End))) p ≡ cond (path_eq (names ks ++ n ∷ []) p) (Some x) (leaf_at (filled ks done) p)
leaf_filled [] done n x fresh h p = leaf_more done n x p h
leaf_filled (k ∷ ks) done n x fresh h p = sub_more k.done (filled ks done) (filled ks (join done (File n x End))) k.entry.filename (names ks ++ n ∷ []) x fresh.0 (leaf_filled ks done n x fresh.1 h) p

pub filled_same : (ks : List Above) (d e : Directory) → ((p : Path) → leaf_at d p ≡ leaf_at e p) → (p : Path) → leaf_at (filled ks d) p ≡ leaf_at (filled ks e) p
filled_same [] d e same p = same p
filled_same (k ∷ ks) d e same p = sub_same k.done (filled ks d) (filled ks e) k.entry.filename (filled_same ks d e same) p

pub leaf_inside : (ks : List Above) (d : Directory) (q : Path) → AreFresh ks → leaf_at (filled ks d) (names ks ++ q) ≡ leaf_at d q
leaf_inside [] d q fresh = refl
leaf_inside (k ∷ ks) d q fresh =
    leaf_behind k.entry.filename k.done (Sub k.entry.filename (filled ks d) End) (names ks ++ q) fresh.0
    ∙ ap (λ t. cond t (leaf_at (filled ks d) (names ks ++ q)) None) (bytes_eq-of k.entry.filename k.entry.filename refl)
    ∙ leaf_inside ks d q fresh.1

-- ---- canonical directories

-- no entry of the directory has the name, and each comes before the key
abbrev pub Precede : List ℕ → List ℕ → Directory → Type 0
Precede n key End = Unit {0}
Precede n key (File m x rest) = (m ≢ n) × IsBelow m key × Precede n key rest
Precede n key (Sub m inner rest) = (m ≢ n) × IsBelow (m ++ 47 ∷ []) key × Precede n key rest

pub precede_apart : (n key : List ℕ) (d : Directory) → Precede n key d → HasNot n d
precede_apart n key End h = tt
precede_apart n key (File m x rest) h = (h.0, precede_apart n key rest h.2)
precede_apart n key (Sub m inner rest) h = (h.0, precede_apart n key rest h.2)

follow_join : (m k : List ℕ) (d e : Directory) → Follow m k d → Follow m k e → Follow m k (join d e)
follow_join m k End e f g = g
follow_join m k (File n x rest) e f g = (f.0, f.1, follow_join m k rest e f.2 g)
follow_join m k (Sub n inner rest) e f g = (f.0, f.1, follow_join m k rest e f.2 g)

pub canonical_file : (d : Directory) (n : List ℕ) (x : Leaf) → IsCanonical d → Precede n n d → IsName n → IsLeafMode x.mode.value → IsCanonical (join d (File n x End))
canonical_file End n x ok h name mode = (name, tt, tt, mode)
canonical_file (File m y rest) n x ok h name mode = (ok.0, follow_join m m rest (File n x End) ok.1 (h.0, h.1, tt), canonical_file rest n x ok.2 h.2 name mode, ok.3)
canonical_file (Sub m inner rest) n x ok h name mode = (ok.0, ok.1, ok.2, follow_join m (m ++ 47 ∷ []) rest (File n x End) ok.3 (h.0, h.1, tt), canonical_file rest n x ok.4 h.2 name mode)

pub canonical_sub : (d : Directory) (n : List ℕ) (inner : Directory) → IsCanonical d → Precede n (n ++ 47 ∷ []) d → IsName n → (inner ≢ End) → IsCanonical inner → IsCanonical (join d (Sub n inner End))
canonical_sub End n inner ok h name some sound = (name, some, sound, tt, tt)
canonical_sub (File m y rest) n inner ok h name some sound = (ok.0, follow_join m m rest (Sub n inner End) ok.1 (h.0, h.1, tt), canonical_sub rest n inner ok.2 h.2 name some sound, ok.3)
canonical_sub (Sub m i rest) n inner ok h name some sound = (ok.0, ok.1, ok.2, follow_join m (m ++ 47 ∷ []) rest (Sub n inner End) ok.3 (h.0, h.1, tt), canonical_sub rest n inner ok.4 h.2 name some sound)

-- an id of the kind that is not null
abbrev pub IsOwnId : HashKind → ObjectId → Type 0
IsOwnId hash id = (id ≢ null_id (kind_of id)) × (id_from_bytes hash (bytes_of id) ≡ Some id)

-- each leaf has such an id, and no tree below has the null id
abbrev pub HasIds : HashKind → Directory → Type 0
HasIds hash End = Unit {0}
HasIds hash (File n x rest) = IsOwnId hash x.id × HasIds hash rest
HasIds hash (Sub n inner rest) = HasIds hash inner × HasIds hash rest × (root_of hash inner ≢ null_id (kind_of (root_of hash inner)))

pub entries_own : (hash : HashKind) (d : Directory) → HasIds hash d → AllByRecursion (λ (e : Entry). e.oid ≢ null_id (kind_of e.oid)) (entries_within hash d)
entries_own hash End h = tt
entries_own hash (File n x rest) h = (h.0.0, entries_own hash rest h.1)
entries_own hash (Sub n inner rest) h = both (entries_within hash inner) (record { mode = record { value = mode_of entry_kind.Tree }; filename = n; oid = root_of hash inner } ∷ entries_within hash rest) (entries_own hash inner h.0) (h.2, entries_own hash rest h.1)
  where
    both : (es more : List Entry) → AllByRecursion (λ (e : Entry). e.oid ≢ null_id (kind_of e.oid)) es → AllByRecursion (λ (e : Entry). e.oid ≢ null_id (kind_of e.oid)) more → AllByRecursion (λ (e : Entry). e.oid ≢ null_id (kind_of e.oid)) (es ++ more)
    both [] more a b = b
    both (e ∷ es) more a b = (a.0, both es more a.1 b)

pub ids_join : (hash : HashKind) (d e : Directory) → HasIds hash d → HasIds hash e → HasIds hash (join d e)
ids_join hash End e a b = b
ids_join hash (File n x rest) e a b = (a.0, ids_join hash rest e a.1 b)
ids_join hash (Sub n inner rest) e a b = (a.0, ids_join hash rest e a.1 b, a.2)
