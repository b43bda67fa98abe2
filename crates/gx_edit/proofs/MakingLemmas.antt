-- Each path map that a tree can spell has a canonical directory.
use Rattle.std.proofs.Common.{◌≡◌, ℕ, Bool, true, false, ◌&&◌, ◌||◌, ◌≢◌, ◌++◌, ◌⊎◌, inl, inr, cond, List, [], ◌∷◌, Option, Some, None, refl, sym, ap, ◌∙◌, subst, Contains, true≢false}
use Rattle.std.proofs.lemmas.List.Elements.{Contains-append_right}
use Rattle.std.specs.Str.{bytes_eq}
use Rattle.std.specs.declared.cmp.Ordering.{Ordering}
use Rattle.std.specs.declared.cmp.Ordering.TheVariants.{Less, Equal, Greater}
use Rattle.std.specs.Ordering.{is_lt, ordering_reverse}
use Rattle.std.specs.Cmp.Lexicographic.{nat_list_cmp_total}
use Rattle.std.specs.FinMap.{slice_cmp-IsAntisymmetric, nat_cmp-IsAntisymmetric}
use Rattle.std.specs.List.{AllByRecursion}
use Rattle.gx_rules.specs.Name.{name_cmp}
use Rattle.gx_edit.specs.Path.{Path, IsName, path_eq, leads_to}
use Rattle.gx_edit.specs.PathMap.{PathMap, put}
use Rattle.gx_edit.specs.CanonicalTree.{Directory, leaf_at, Follow, IsCanonical, IsBelow, IsLeafMode}
use Rattle.gx_edit.specs.CanonicalTree.Directory.{End, File, Sub}
use Rattle.gx_edit.specs.declared.leaf.Leaf.{Leaf}
use Rattle.gx_edit.proofs.PathLemmas.{bytes_eq-is, bytes_eq-of}
use Rattle.gx_edit.proofs.DirectoryLemmas.{below-chain, bytes_eq-no, leaf_at-root, Follow-none}
use Rattle.gx_edit.proofs.TextLemmas.{bytes_eq-turned}
use Rattle.gx_edit.proofs.OrderLemmas.{head_in}

-- ---- entries of a directory

-- what a name stands for: a leaf, or a directory
abbrev pub Item : Type 0
Item = Leaf ⊎ Directory

abbrev pub entry : List ℕ → Item → Directory → Directory
entry n (inl leaf) rest = File n leaf rest
entry n (inr inner) rest = Sub n inner rest

abbrev pub key : List ℕ → Item → List ℕ
key n (inl leaf) = n
key n (inr inner) = n ++ 47 ∷ []

abbrev pub IsItem : Item → Type 0
IsItem (inl leaf) = IsLeafMode leaf.mode.value
IsItem (inr inner) = (inner ≢ End) × IsCanonical inner

abbrev pub item_at : Item → PathMap
item_at (inl leaf) [] = Some leaf
item_at (inl leaf) (c ∷ p) = None
item_at (inr inner) p = leaf_at inner p

-- no entry has the name
abbrev pub HasNot : List ℕ → Directory → Type 0
HasNot n End = Unit {0}
HasNot n (File m leaf rest) = (n ≢ m) × HasNot n rest
HasNot n (Sub m inner rest) = (n ≢ m) × HasNot n rest

-- an entry more, at its place in the order of keys
abbrev pub inserted : List ℕ → Item → Directory → Directory
inserted n it End = entry n it End
inserted n it (File m leaf rest) = cond (is_lt (name_cmp (key n it) m)) (entry n it (File m leaf rest)) (File m leaf (inserted n it rest))
inserted n it (Sub m inner rest) = cond (is_lt (name_cmp (key n it) (m ++ 47 ∷ []))) (entry n it (Sub m inner rest)) (Sub m inner (inserted n it rest))

-- a directory without the entries of a name
abbrev pub removed : List ℕ → Directory → Directory
removed n End = End
removed n (File m leaf rest) = cond (bytes_eq n m) (removed n rest) (File m leaf (removed n rest))
removed n (Sub m inner rest) = cond (bytes_eq n m) (removed n rest) (Sub m inner (removed n rest))

-- the directory of a name, or an empty one
abbrev pub inner_at : List ℕ → Directory → Directory
inner_at n End = End
inner_at n (File m leaf rest) = cond (bytes_eq n m) End (inner_at n rest)
inner_at n (Sub m inner rest) = cond (bytes_eq n m) inner (inner_at n rest)

-- a directory with a leaf put at a path
abbrev pub with_leaf : Path → Leaf → Directory → Directory
with_leaf [] leaf d = d
with_leaf (n ∷ []) leaf d = inserted n (inl leaf) (removed n d)
with_leaf (n ∷ c ∷ p) leaf d = inserted n (inr (with_leaf (c ∷ p) leaf (inner_at n d))) (removed n d)

-- ---- keys

slash_last : (m : List ℕ) → Contains (m ++ 47 ∷ []) 47
slash_last m = Contains-append_right m (47 ∷ []) 47 (head_in 47 [])

cut_last : (a b : List ℕ) → a ++ 47 ∷ [] ≡ b ++ 47 ∷ [] → a ≡ b
cut_last [] [] e = refl
cut_last [] (y ∷ []) e = cc
cut_last [] (y ∷ z ∷ b) e = cc
cut_last (x ∷ []) [] e = cc
cut_last (x ∷ z ∷ a) [] e = cc
cut_last (x ∷ a) (y ∷ b) e =
    let head : x ≡ y = cc in
    let tail : a ++ 47 ∷ [] ≡ b ++ 47 ∷ [] = cc in
    let same : a ≡ b = cut_last a b tail in cc

-- equal keys are of equal names
one_key : (n m : List ℕ) (it jt : Item) → IsName n → IsName m → key n it ≡ key m jt → n ≡ m
one_key n m (inl x) (inl y) a b e = e
one_key n m (inl x) (inr j) a b e = absurd (a.no_slash (subst (λ l. Contains l 47) (sym e) (slash_last m)))
one_key n m (inr i) (inl y) a b e = absurd (b.no_slash (subst (λ l. Contains l 47) e (slash_last n)))
one_key n m (inr i) (inr j) a b e = cut_last n m e

-- what is not lower, under another name, is higher
higher : (n m : List ℕ) (it jt : Item) → IsName n → IsName m → n ≢ m → (o : Ordering) → name_cmp (key n it) (key m jt) ≡ o → is_lt o ≡ false → IsBelow (key m jt) (key n it)
higher n m it jt a b other Less e f = cc
higher n m it jt a b other Equal e f = absurd (other (one_key n m it jt a b (slice_cmp-IsAntisymmetric nat_cmp-IsAntisymmetric (key n it) (key m jt) e)))
higher n m it jt a b other Greater e f = nat_list_cmp_total.antisymm (key m jt) (key n it) ∙ ap ordering_reverse e

lower : (o : Ordering) → is_lt o ≡ true → o ≡ Less
lower Less e = refl
lower Equal e = cc
lower Greater e = cc

-- ---- an entry more

-- what is above is above what is below it, under other names
Follow-down : (n k m j : List ℕ) (d : Directory) → HasNot n d → IsBelow k j → Follow m j d → Follow n k d
Follow-down n k m j End h b f = tt
Follow-down n k m j (File o leaf rest) h b f = (h.0, below-chain k j o b f.1, Follow-down n k m j rest h.1 b f.2)
Follow-down n k m j (Sub o inner rest) h b f = (h.0, below-chain k j (o ++ 47 ∷ []) b f.1, Follow-down n k m j rest h.1 b f.2)

Follow-entry : (a k n : List ℕ) (it : Item) (d : Directory) → a ≢ n → IsBelow k (key n it) → Follow a k d → Follow a k (entry n it d)
Follow-entry a k n (inl x) d other b f = (other, b, f)
Follow-entry a k n (inr i) d other b f = (other, b, f)

Follow-inserted : (a k n : List ℕ) (it : Item) (d : Directory) → a ≢ n → IsBelow k (key n it) → Follow a k d → Follow a k (inserted n it d)
Follow-inserted a k n it End other b f = Follow-entry a k n it End other b tt
Follow-inserted a k n it (File m leaf rest) other b f = go (is_lt (name_cmp (key n it) m)) (Follow-inserted a k n it rest other b f.2)
  where
    go : (t : Bool) → Follow a k (inserted n it rest) → Follow a k (cond t (entry n it (File m leaf rest)) (File m leaf (inserted n it rest)))
    go true ih = Follow-entry a k n it (File m leaf rest) other b f
    go false ih = (f.0, f.1, ih)
Follow-inserted a k n it (Sub m inner rest) other b f = go (is_lt (name_cmp (key n it) (m ++ 47 ∷ []))) (Follow-inserted a k n it rest other b f.2)
  where
    go : (t : Bool) → Follow a k (inserted n it rest) → Follow a k (cond t (entry n it (Sub m inner rest)) (Sub m inner (inserted n it rest)))
    go true ih = Follow-entry a k n it (Sub m inner rest) other b f
    go false ih = (f.0, f.1, ih)

entry_canonical : (n : List ℕ) (it : Item) (d : Directory) → IsName n → IsItem it → Follow n (key n it) d → IsCanonical d → IsCanonical (entry n it d)
entry_canonical n (inl x) d name item f ok = (name, f, ok, item)
entry_canonical n (inr i) d name item f ok = (name, item.0, item.1, f, ok)

pub inserted_canonical : (n : List ℕ) (it : Item) (d : Directory) → IsName n → IsItem it → HasNot n d → IsCanonical d → IsCanonical (inserted n it d)
inserted_canonical n it End name item h ok = entry_canonical n it End name item tt tt
inserted_canonical n it (File m leaf rest) name item h ok = go (is_lt (name_cmp (key n it) m)) refl (inserted_canonical n it rest name item h.1 ok.2)
  where
    go : (t : Bool) → is_lt (name_cmp (key n it) m) ≡ t → IsCanonical (inserted n it rest) → IsCanonical (cond t (entry n it (File m leaf rest)) (File m leaf (inserted n it rest)))
    go true e ih = let b : IsBelow (key n it) m = lower (name_cmp (key n it) m) e in
        entry_canonical n it (File m leaf rest) name item (h.0, b, Follow-down n (key n it) m m rest h.1 b ok.1) ok
    go false e ih = (ok.0, Follow-inserted m m n it rest (λ is. h.0 (sym is)) (higher n m it (inl leaf) name ok.0 h.0 (name_cmp (key n it) m) refl e) ok.1, ih, ok.3)
inserted_canonical n it (Sub m inner rest) name item h ok = go (is_lt (name_cmp (key n it) (m ++ 47 ∷ []))) refl (inserted_canonical n it rest name item h.1 ok.4)
  where
    go : (t : Bool) → is_lt (name_cmp (key n it) (m ++ 47 ∷ [])) ≡ t → IsCanonical (inserted n it rest) → IsCanonical (cond t (entry n it (Sub m inner rest)) (Sub m inner (inserted n it rest)))
    go true e ih = let b : IsBelow (key n it) (m ++ 47 ∷ []) = lower (name_cmp (key n it) (m ++ 47 ∷ [])) e in
        entry_canonical n it (Sub m inner rest) name item (h.0, b, Follow-down n (key n it) m (m ++ 47 ∷ []) rest h.1 b ok.3) ok
    go false e ih = (ok.0, ok.1, ok.2, Follow-inserted m (m ++ 47 ∷ []) n it rest (λ is. h.0 (sym is)) (higher n m it (inr inner) name ok.0 h.0 (name_cmp (key n it) (m ++ 47 ∷ [])) refl e) ok.3, ih)

entry_some : (n : List ℕ) (it : Item) (d : Directory) → entry n it d ≢ End
entry_some n (inl x) d e = cc
entry_some n (inr i) d e = cc

pub inserted_some : (n : List ℕ) (it : Item) (d : Directory) → inserted n it d ≢ End
inserted_some n it End = entry_some n it End
inserted_some n it (File m leaf rest) = go (is_lt (name_cmp (key n it) m))
  where
    go : (t : Bool) → cond t (entry n it (File m leaf rest)) (File m leaf (inserted n it rest)) ≢ End
    go true = entry_some n it (File m leaf rest)
    go false = λ e. cc
inserted_some n it (Sub m inner rest) = go (is_lt (name_cmp (key n it) (m ++ 47 ∷ [])))
  where
    go : (t : Bool) → cond t (entry n it (Sub m inner rest)) (Sub m inner (inserted n it rest)) ≢ End
    go true = entry_some n it (Sub m inner rest)
    go false = λ e. cc

-- ---- what stands at a path

HasNot-none : (n : List ℕ) (d : Directory) (p : Path) → HasNot n d → leaf_at d (n ∷ p) ≡ None
HasNot-none n End p h = refl
HasNot-none n (File m leaf rest) [] h = rw (bytes_eq-no m n (λ e. h.0 (sym e))) (HasNot-none n rest [] h.1)
HasNot-none n (File m leaf rest) (c ∷ p) h = HasNot-none n rest (c ∷ p) h.1
HasNot-none n (Sub m inner rest) p h = rw (bytes_eq-no m n (λ e. h.0 (sym e))) (HasNot-none n rest p h.1)

entry_at : (n : List ℕ) (it : Item) (d : Directory) (c : List ℕ) (p : Path) → HasNot n d → leaf_at (entry n it d) (c ∷ p) ≡ cond (bytes_eq n c) (item_at it p) (leaf_at d (c ∷ p))
entry_at n (inl x) d c [] h = refl
entry_at n (inl x) d c (e ∷ p) h = go (bytes_eq n c) refl
  where
    go : (t : Bool) → bytes_eq n c ≡ t → leaf_at d (c ∷ e ∷ p) ≡ cond t None (leaf_at d (c ∷ e ∷ p))
    go true is = subst (λ x. leaf_at d (x ∷ e ∷ p) ≡ None) (bytes_eq-is n c is) (HasNot-none n d (e ∷ p) h)
    go false is = refl
entry_at n (inr i) d c p h = refl

-- two names that differ may be asked in either order
swapped : (n m c : List ℕ) → n ≢ m → (a b o : Option Leaf) → cond (bytes_eq m c) b (cond (bytes_eq n c) a o) ≡ cond (bytes_eq n c) a (cond (bytes_eq m c) b o)
swapped n m c other a b o = go (bytes_eq n c) (bytes_eq m c) refl refl
  where
    go : (t u : Bool) → bytes_eq n c ≡ t → bytes_eq m c ≡ u → cond u b (cond t a o) ≡ cond t a (cond u b o)
    go true true e f = absurd (other (bytes_eq-is n c e ∙ sym (bytes_eq-is m c f)))
    go true false e f = refl
    go false u e f = refl

pub inserted_at : (n : List ℕ) (it : Item) (d : Directory) (c : List ℕ) (p : Path) → HasNot n d → leaf_at (inserted n it d) (c ∷ p) ≡ cond (bytes_eq n c) (item_at it p) (leaf_at d (c ∷ p))
inserted_at n it End c p h = entry_at n it End c p tt
inserted_at n it (File m leaf rest) c p h = go (is_lt (name_cmp (key n it) m)) p (inserted_at n it rest c p h.1)
  where
    go : (t : Bool) (p : Path) → leaf_at (inserted n it rest) (c ∷ p) ≡ cond (bytes_eq n c) (item_at it p) (leaf_at rest (c ∷ p))
        → leaf_at (cond t (entry n it (File m leaf rest)) (File m leaf (inserted n it rest))) (c ∷ p) ≡ cond (bytes_eq n c) (item_at it p) (leaf_at (File m leaf rest) (c ∷ p))
    go true p ih = entry_at n it (File m leaf rest) c p h
    go false [] ih = ap (cond (bytes_eq m c) (Some leaf)) ih ∙ swapped n m c h.0 (item_at it []) (Some leaf) (leaf_at rest (c ∷ []))
    go false (e ∷ p) ih = ih
inserted_at n it (Sub m inner rest) c p h = go (is_lt (name_cmp (key n it) (m ++ 47 ∷ []))) (inserted_at n it rest c p h.1)
  where
    go : (t : Bool) → leaf_at (inserted n it rest) (c ∷ p) ≡ cond (bytes_eq n c) (item_at it p) (leaf_at rest (c ∷ p))
        → leaf_at (cond t (entry n it (Sub m inner rest)) (Sub m inner (inserted n it rest))) (c ∷ p) ≡ cond (bytes_eq n c) (item_at it p) (leaf_at (Sub m inner rest) (c ∷ p))
    go true ih = entry_at n it (Sub m inner rest) c p h
    go false ih = ap (cond (bytes_eq m c) (leaf_at inner p)) ih ∙ swapped n m c h.0 (item_at it p) (leaf_at inner p) (leaf_at rest (c ∷ p))

-- ---- a name taken away

other_name : (n m : List ℕ) → bytes_eq n m ≡ false → n ≢ m
other_name n m e is = true≢false (sym (bytes_eq-of n m is) ∙ e)

HasNot-removed : (n : List ℕ) (d : Directory) → HasNot n (removed n d)
HasNot-removed n End = tt
HasNot-removed n (File m leaf rest) = go (bytes_eq n m) refl (HasNot-removed n rest)
  where
    go : (t : Bool) → bytes_eq n m ≡ t → HasNot n (removed n rest) → HasNot n (cond t (removed n rest) (File m leaf (removed n rest)))
    go true e ih = ih
    go false e ih = (other_name n m e, ih)
HasNot-removed n (Sub m inner rest) = go (bytes_eq n m) refl (HasNot-removed n rest)
  where
    go : (t : Bool) → bytes_eq n m ≡ t → HasNot n (removed n rest) → HasNot n (cond t (removed n rest) (Sub m inner (removed n rest)))
    go true e ih = ih
    go false e ih = (other_name n m e, ih)

Follow-removed : (n a k : List ℕ) (d : Directory) → Follow a k d → Follow a k (removed n d)
Follow-removed n a k End f = tt
Follow-removed n a k (File m leaf rest) f = go (bytes_eq n m) (Follow-removed n a k rest f.2)
  where
    go : (t : Bool) → Follow a k (removed n rest) → Follow a k (cond t (removed n rest) (File m leaf (removed n rest)))
    go true ih = ih
    go false ih = (f.0, f.1, ih)
Follow-removed n a k (Sub m inner rest) f = go (bytes_eq n m) (Follow-removed n a k rest f.2)
  where
    go : (t : Bool) → Follow a k (removed n rest) → Follow a k (cond t (removed n rest) (Sub m inner (removed n rest)))
    go true ih = ih
    go false ih = (f.0, f.1, ih)

removed_canonical : (n : List ℕ) (d : Directory) → IsCanonical d → IsCanonical (removed n d)
removed_canonical n End ok = tt
removed_canonical n (File m leaf rest) ok = go (bytes_eq n m) (removed_canonical n rest ok.2)
  where
    go : (t : Bool) → IsCanonical (removed n rest) → IsCanonical (cond t (removed n rest) (File m leaf (removed n rest)))
    go true ih = ih
    go false ih = (ok.0, Follow-removed n m m rest ok.1, ih, ok.3)
removed_canonical n (Sub m inner rest) ok = go (bytes_eq n m) (removed_canonical n rest ok.4)
  where
    go : (t : Bool) → IsCanonical (removed n rest) → IsCanonical (cond t (removed n rest) (Sub m inner (removed n rest)))
    go true ih = ih
    go false ih = (ok.0, ok.1, ok.2, Follow-removed n m (m ++ 47 ∷ []) rest ok.3, ih)

-- an entry whose name is taken away, and one whose name is not
gone_at : (n m c : List ℕ) (a o r : Option Leaf) → r ≡ cond (bytes_eq n c) None o → (t : Bool) → bytes_eq n m ≡ t → cond t r (cond (bytes_eq m c) a r) ≡ cond (bytes_eq n c) None (cond (bytes_eq m c) a o)
gone_at n m c a o r is true e = is ∙ go (bytes_eq n c) refl
  where
    go : (u : Bool) → bytes_eq n c ≡ u → cond u None o ≡ cond u None (cond (bytes_eq m c) a o)
    go true f = refl
    go false f = sym (ap (λ t. cond t a o) (ap (λ x. bytes_eq x c) (sym (bytes_eq-is n m e)) ∙ f))
gone_at n m c a o r is false e = ap (cond (bytes_eq m c) a) is ∙ swapped n m c (other_name n m e) None a o

removed_at : (n : List ℕ) (d : Directory) (c : List ℕ) (p : Path) → leaf_at (removed n d) (c ∷ p) ≡ cond (bytes_eq n c) None (leaf_at d (c ∷ p))
removed_at n End c p = both (bytes_eq n c)
  where
    both : (t : Bool) → None ≡ cond {A = Option Leaf} t None None
    both true = refl
    both false = refl
removed_at n (File m leaf rest) c [] = spread (bytes_eq n m) ∙ gone_at n m c (Some leaf) (leaf_at rest (c ∷ [])) (leaf_at (removed n rest) (c ∷ [])) (removed_at n rest c []) (bytes_eq n m) refl
  where
    spread : (t : Bool) → leaf_at (cond t (removed n rest) (File m leaf (removed n rest))) (c ∷ []) ≡ cond t (leaf_at (removed n rest) (c ∷ [])) (cond (bytes_eq m c) (Some leaf) (leaf_at (removed n rest) (c ∷ [])))
    spread true = refl
    spread false = refl
removed_at n (File m leaf rest) c (e ∷ p) = spread (bytes_eq n m) ∙ removed_at n rest c (e ∷ p)
  where
    spread : (t : Bool) → leaf_at (cond t (removed n rest) (File m leaf (removed n rest))) (c ∷ e ∷ p) ≡ leaf_at (removed n rest) (c ∷ e ∷ p)
    spread true = refl
    spread false = refl
removed_at n (Sub m inner rest) c p = spread (bytes_eq n m) ∙ gone_at n m c (leaf_at inner p) (leaf_at rest (c ∷ p)) (leaf_at (removed n rest) (c ∷ p)) (removed_at n rest c p) (bytes_eq n m) refl
  where
    spread : (t : Bool) → leaf_at (cond t (removed n rest) (Sub m inner (removed n rest))) (c ∷ p) ≡ cond t (leaf_at (removed n rest) (c ∷ p)) (cond (bytes_eq m c) (leaf_at inner p) (leaf_at (removed n rest) (c ∷ p)))
    spread true = refl
    spread false = refl

-- ---- the directory of a name

inner_canonical : (n : List ℕ) (d : Directory) → IsCanonical d → IsCanonical (inner_at n d)
inner_canonical n End ok = tt
inner_canonical n (File m leaf rest) ok = go (bytes_eq n m) (inner_canonical n rest ok.2)
  where
    go : (t : Bool) → IsCanonical (inner_at n rest) → IsCanonical (cond t End (inner_at n rest))
    go true ih = tt
    go false ih = ih
inner_canonical n (Sub m inner rest) ok = go (bytes_eq n m) (inner_canonical n rest ok.4)
  where
    go : (t : Bool) → IsCanonical (inner_at n rest) → IsCanonical (cond t inner (inner_at n rest))
    go true ih = ok.2
    go false ih = ih

inner_leaf : (n : List ℕ) (d : Directory) (c : List ℕ) (p : Path) → IsCanonical d → leaf_at (inner_at n d) (c ∷ p) ≡ leaf_at d (n ∷ c ∷ p)
inner_leaf n End c p ok = refl
inner_leaf n (File m leaf rest) c p ok = go (bytes_eq n m) refl (inner_leaf n rest c p ok.2)
  where
    go : (t : Bool) → bytes_eq n m ≡ t → leaf_at (inner_at n rest) (c ∷ p) ≡ leaf_at rest (n ∷ c ∷ p) → leaf_at (cond t End (inner_at n rest)) (c ∷ p) ≡ leaf_at rest (n ∷ c ∷ p)
    go true e ih = sym (subst (λ x. leaf_at rest (x ∷ c ∷ p) ≡ None) (sym (bytes_eq-is n m e)) (Follow-none m m rest (c ∷ p) ok.1))
    go false e ih = ih
inner_leaf n (Sub m inner rest) c p ok = go (bytes_eq n m) refl (inner_leaf n rest c p ok.4)
  where
    go : (t : Bool) → bytes_eq n m ≡ t → leaf_at (inner_at n rest) (c ∷ p) ≡ leaf_at rest (n ∷ c ∷ p) → leaf_at (cond t inner (inner_at n rest)) (c ∷ p) ≡ cond (bytes_eq m n) (leaf_at inner (c ∷ p)) (leaf_at rest (n ∷ c ∷ p))
    go true e ih = sym (ap (λ t. cond t (leaf_at inner (c ∷ p)) (leaf_at rest (n ∷ c ∷ p))) (bytes_eq-turned m n ∙ e))
    go false e ih = ih ∙ sym (ap (λ t. cond t (leaf_at inner (c ∷ p)) (leaf_at rest (n ∷ c ∷ p))) (bytes_eq-turned m n ∙ e))

-- ---- a leaf put at a path

pub with_leaf_canonical : (p : Path) (leaf : Leaf) (d : Directory) → AllByRecursion IsName p → IsLeafMode leaf.mode.value → IsCanonical d → IsCanonical (with_leaf p leaf d)
with_leaf_canonical [] leaf d names mode ok = ok
with_leaf_canonical (n ∷ []) leaf d names mode ok = inserted_canonical n (inl leaf) (removed n d) names.0 mode (HasNot-removed n d) (removed_canonical n d ok)
with_leaf_canonical (n ∷ c ∷ p) leaf d names mode ok =
    inserted_canonical n (inr (with_leaf (c ∷ p) leaf (inner_at n d))) (removed n d) names.0 (some p, with_leaf_canonical (c ∷ p) leaf (inner_at n d) names.1 mode (inner_canonical n d ok)) (HasNot-removed n d) (removed_canonical n d ok)
  where
    some : (q : Path) → with_leaf (c ∷ q) leaf (inner_at n d) ≢ End
    some [] = inserted_some c (inl leaf) (removed c (inner_at n d))
    some (e ∷ q) = inserted_some c (inr (with_leaf (e ∷ q) leaf (inner_at c (inner_at n d)))) (removed c (inner_at n d))

-- a put goes on below its first name
put_below : (m : PathMap) (n : List ℕ) (p : Path) (x : Leaf) (c : List ℕ) (r : Path) → put m (n ∷ p) x (c ∷ r) ≡ cond (bytes_eq n c) (put (λ s. m (n ∷ s)) p x r) (m (c ∷ r))
put_below m n p x c r =
    ap (λ u. cond (bytes_eq n c && path_eq p r) (Some x) (cond ((bytes_eq n c && leads_to p r) || (u && leads_to r p)) None (m (c ∷ r)))) (bytes_eq-turned c n)
    ∙ go (bytes_eq n c) refl
  where
    go : (t : Bool) → bytes_eq n c ≡ t → cond (t && path_eq p r) (Some x) (cond ((t && leads_to p r) || (t && leads_to r p)) None (m (c ∷ r))) ≡ cond t (put (λ s. m (n ∷ s)) p x r) (m (c ∷ r))
    go true e = ap (λ b. cond (path_eq p r) (Some x) (cond (leads_to p r || leads_to r p) None (m (b ∷ r)))) (sym (bytes_eq-is n c e))
    go false e = refl

once : (t : Bool) (a o : Option Leaf) → cond t a (cond t None o) ≡ cond t a o
once true a o = refl
once false a o = refl

pub with_leaf_at : (p : Path) (x : Leaf) (d : Directory) (q : Path) → p ≢ [] → IsCanonical d → leaf_at (with_leaf p x d) q ≡ put (leaf_at d) p x q
with_leaf_at [] x d q some ok = absurd (some refl)
with_leaf_at (n ∷ []) x d [] some ok = leaf_at-root (inserted n (inl x) (removed n d))
with_leaf_at (n ∷ []) x d (c ∷ r) some ok =
    inserted_at n (inl x) (removed n d) c r (HasNot-removed n d)
    ∙ ap (cond (bytes_eq n c) (item_at (inl x) r)) (removed_at n d c r) ∙ once (bytes_eq n c) (item_at (inl x) r) (leaf_at d (c ∷ r))
    ∙ ap (λ o. cond (bytes_eq n c) o (leaf_at d (c ∷ r))) (own r) ∙ sym (put_below (leaf_at d) n [] x c r)
  where
    own : (r : Path) → item_at (inl x) r ≡ put (λ s. leaf_at d (n ∷ s)) [] x r
    own [] = refl
    own (e ∷ r) = refl
with_leaf_at (n ∷ e ∷ p) x d [] some ok = leaf_at-root (inserted n (inr (with_leaf (e ∷ p) x (inner_at n d))) (removed n d))
with_leaf_at (n ∷ e ∷ p) x d (c ∷ r) some ok =
    let it : Item = inr (with_leaf (e ∷ p) x (inner_at n d)) in
    inserted_at n it (removed n d) c r (HasNot-removed n d)
    ∙ ap (cond (bytes_eq n c) (item_at it r)) (removed_at n d c r) ∙ once (bytes_eq n c) (item_at it r) (leaf_at d (c ∷ r))
    ∙ ap (λ o. cond (bytes_eq n c) o (leaf_at d (c ∷ r))) (with_leaf_at (e ∷ p) x (inner_at n d) r (λ none. cc) (inner_canonical n d ok) ∙ below r) ∙ sym (put_below (leaf_at d) n (e ∷ p) x c r)
  where
    below : (r : Path) → put (leaf_at (inner_at n d)) (e ∷ p) x r ≡ put (λ s. leaf_at d (n ∷ s)) (e ∷ p) x r
    below [] = refl
    below (f ∷ r) = ap (λ o. cond (path_eq (e ∷ p) (f ∷ r)) (Some x) (cond (leads_to (e ∷ p) (f ∷ r) || leads_to (f ∷ r) (e ∷ p)) None o)) (inner_leaf n d f r ok)
