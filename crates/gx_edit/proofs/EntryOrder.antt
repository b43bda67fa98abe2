-- How the entries of a tree stand before one another, and what a directory of them is.
use Rattle.std.proofs.Common.{◌≡◌, ◌≢◌, ℕ, Bool, true, false, ◌++◌, inl, inr, cond, List, [], ◌∷◌, map, Option, Some, None, is_some, IfSome, refl, sym, ap, ◌∙◌, subst, true≢false}
use Rattle.std.specs.Str.{bytes_eq}
use Rattle.std.specs.List.{AllByRecursion}
use Rattle.std.specs.List.Sorted.{IsStrictlySortedBy}
use Rattle.std.specs.declared.cmp.Ordering.TheVariants.{Less}
use Rattle.gx_hash.specs.declared.kind.HashKind.{HashKind}
use Rattle.gx_rules.specs.Name.{name_cmp}
use Rattle.gx_object.specs.declared.tree.Entry.{Entry}
use Rattle.gx_object.specs.declared.tree.EntryKind.{EntryKind}
use Rattle.gx_object.specs.declared.tree.EntryKind.TheVariants as entry_kind
use Rattle.gx_object.specs.Mode.{mode_of, is_tree_mode}
use Rattle.gx_object.specs.Tree.{sort_key}
use Rattle.gx_store.specs.Content.{Content}
use Rattle.gx_edit.specs.CanonicalTree.{Directory, leaf_at, IsBelow, IsCanonical, IsLeafMode, entries_of}
use Rattle.gx_edit.specs.CanonicalTree.Directory.{End, File, Sub}
use Rattle.gx_edit.specs.ReadMapCauses.{AreRising, HaveOwnNames}
use Rattle.gx_edit.specs.declared.leaf.Leaf.{Leaf}
use Rattle.gx_edit.proofs.PathLemmas.{bytes_eq-is, bytes_eq-of}
use Rattle.gx_edit.proofs.DirectoryLemmas.{below-irrefl, below-chain, leaf_at-root}
use Rattle.gx_edit.proofs.ListingLemmas.{then_same}
use Rattle.gx_edit.proofs.DirectoryJoins.{Precede}

-- ---- what is told of a content

pub told_with : {P Q : Content → Type 0} (told : Option Content) → ((content : Content) → P content → Q content) → IfSome told P → IfSome told Q
told_with None f h = tt
told_with (Some content) f h = f content h

pub told_both : {P Q R : Content → Type 0} (told : Option Content) → ((content : Content) → P content → Q content → R content) → IfSome told P → IfSome told Q → IfSome told R
told_both None f h k = tt
told_both (Some content) f h k = f content h k

pub told_all : {P : Content → Type 0} (told : Option Content) → ((content : Content) → P content) → IfSome told P
told_all None f = tt
told_all (Some content) f = f content

-- ---- entries before an entry

pub All-append : {A : Type 0} (P : A → Type 0) (xs ys : List A) → AllByRecursion P xs → AllByRecursion P ys → AllByRecursion P (xs ++ ys)
All-append P [] ys a b = b
All-append P (x ∷ xs) ys a b = (a.0, All-append P xs ys a.1 b)

pub All-behind : {A : Type 0} (P : A → Type 0) (xs ys : List A) → AllByRecursion P (xs ++ ys) → AllByRecursion P ys
All-behind P [] ys h = h
All-behind P (x ∷ xs) ys h = All-behind P xs ys h.1

key_behind : (k : List ℕ) (front rest : List Entry) (e : Entry) → AllByRecursion (λ y. name_cmp k y ≡ Less) (map sort_key (front ++ e ∷ rest)) → name_cmp k (sort_key e) ≡ Less
key_behind k [] rest e h = h.0
key_behind k (f ∷ front) rest e h = key_behind k front rest e h.1

pub keys_before : (front rest : List Entry) (e : Entry) → AreRising (front ++ e ∷ rest) → AllByRecursion (λ f. name_cmp (sort_key f) (sort_key e) ≡ Less) front
unfolding IsStrictlySortedBy
keys_before [] rest e h = tt
keys_before (f ∷ front) rest e h = (key_behind (sort_key f) front rest e h.0, keys_before front rest e h.1)

-- ---- sort keys of a directory's entries

pub key_of_leaf : (n : List ℕ) (x : Leaf) → IsLeafMode x.mode.value → sort_key (record { mode = x.mode; filename = n; oid = x.id }) ≡ n
key_of_leaf n x mode = go (is_tree_mode x.mode.value) refl mode
  where
    go : (t : Bool) → is_tree_mode x.mode.value ≡ t → IsLeafMode x.mode.value → cond t (n ++ 47 ∷ []) n ≡ n
    go false e h = refl
    go true e (inl h) = absurd (true≢false (sym e ∙ ap is_tree_mode h))
    go true e (inr (inl h)) = absurd (true≢false (sym e ∙ ap is_tree_mode h))
    go true e (inr (inr (inl h))) = absurd (true≢false (sym e ∙ ap is_tree_mode h))
    go true e (inr (inr (inr h))) = absurd (true≢false (sym e ∙ ap is_tree_mode h))

pub leaf_mode : (value : ℕ) → (kind : EntryKind) × (value ≡ mode_of kind) → is_tree_mode value ≡ false → IsLeafMode value
leaf_mode value (entry_kind.Tree, is) file = absurd (true≢false (sym (ap is_tree_mode is) ∙ file))
leaf_mode value (entry_kind.Blob, is) file = inl is
leaf_mode value (entry_kind.BlobExecutable, is) file = inr (inl is)
leaf_mode value (entry_kind.Link, is) file = inr (inr (inl is))
leaf_mode value (entry_kind.Commit, is) file = inr (inr (inr is))

pub tree_mode : (value : ℕ) → (kind : EntryKind) × (value ≡ mode_of kind) → is_tree_mode value ≡ true → value ≡ mode_of entry_kind.Tree
tree_mode value (entry_kind.Tree, is) tree = is
tree_mode value (entry_kind.Blob, is) tree = absurd (true≢false (sym tree ∙ ap is_tree_mode is))
tree_mode value (entry_kind.BlobExecutable, is) tree = absurd (true≢false (sym tree ∙ ap is_tree_mode is))
tree_mode value (entry_kind.Link, is) tree = absurd (true≢false (sym tree ∙ ap is_tree_mode is))
tree_mode value (entry_kind.Commit, is) tree = absurd (true≢false (sym tree ∙ ap is_tree_mode is))

-- a name comes before itself with a slash
slash_above : (n : List ℕ) → IsBelow n (n ++ 47 ∷ [])
slash_above [] = refl
slash_above (b ∷ n) = then_same b b (name_cmp n (n ++ 47 ∷ [])) refl ∙ slash_above n

-- what comes before a leaf's name has other names
pub precede_file : (hash : HashKind) (done : Directory) (n : List ℕ) → IsCanonical done → AllByRecursion (λ f. name_cmp (sort_key f) n ≡ Less) (entries_of hash done) → Precede n n done
precede_file hash End n ok h = tt
precede_file hash (File m x rest) n ok h =
    let key : IsBelow m n = subst (λ k. IsBelow k n) (key_of_leaf m x ok.3) h.0 in
    ((λ same. below-irrefl n (subst (λ k. IsBelow k n) same key)), key, precede_file hash rest n ok.2 h.1)
precede_file hash (Sub m inner rest) n ok h =
    ((λ same. below-irrefl n (below-chain n (n ++ 47 ∷ []) n (slash_above n) (subst (λ k. IsBelow (k ++ 47 ∷ []) n) same h.0))), h.0, precede_file hash rest n ok.4 h.1)

-- so has what comes before a directory's name with its slash, where no leaf has that name
pub precede_sub : (hash : HashKind) (done : Directory) (n : List ℕ) → IsCanonical done → leaf_at done (n ∷ []) ≡ None → AllByRecursion (λ f. name_cmp (sort_key f) (n ++ 47 ∷ []) ≡ Less) (entries_of hash done) → Precede n (n ++ 47 ∷ []) done
precede_sub hash End n ok none h = tt
precede_sub hash (File m x rest) n ok none h =
    let key : IsBelow m (n ++ 47 ∷ []) = subst (λ k. IsBelow k (n ++ 47 ∷ [])) (key_of_leaf m x ok.3) h.0 in
    go (bytes_eq m n) refl none key (λ none. precede_sub hash rest n ok.2 none h.1)
  where
    go : (t : Bool) → bytes_eq m n ≡ t → cond t (Some x) (leaf_at rest (n ∷ [])) ≡ None → IsBelow m (n ++ 47 ∷ []) → (leaf_at rest (n ∷ []) ≡ None → Precede n (n ++ 47 ∷ []) rest) → Precede n (n ++ 47 ∷ []) (File m x rest)
    go true e none key more = cc
    go false e none key more = ((λ same. true≢false (sym (bytes_eq-of m n same) ∙ e)), key, more none)
precede_sub hash (Sub m inner rest) n ok none h = go (bytes_eq m n) refl none (λ none. precede_sub hash rest n ok.4 none h.1)
  where
    go : (t : Bool) → bytes_eq m n ≡ t → cond t (leaf_at inner []) (leaf_at rest (n ∷ [])) ≡ None → (leaf_at rest (n ∷ []) ≡ None → Precede n (n ++ 47 ∷ []) rest) → Precede n (n ++ 47 ∷ []) (Sub m inner rest)
    go true e none more = absurd (below-irrefl (n ++ 47 ∷ []) (subst (λ k. IsBelow (k ++ 47 ∷ []) (n ++ 47 ∷ [])) (bytes_eq-is m n e) h.0))
    go false e none more = ((λ same. true≢false (sym (bytes_eq-of m n same) ∙ e)), h.0, more none)

-- a leaf with the name of a later entry
name_behind : (n : List ℕ) (front rest : List Entry) (e : Entry) → AllByRecursion (λ f. n ≢ f.filename) (front ++ e ∷ rest) → n ≢ e.filename
name_behind n [] rest e h = h.0
name_behind n (f ∷ front) rest e h = name_behind n front rest e h.1

pub repeated : (hash : HashKind) (done : Directory) (e : Entry) (rest : List Entry) → is_some (leaf_at done (e.filename ∷ [])) ≡ true → HaveOwnNames (entries_of hash done ++ e ∷ rest) → ⊥
repeated hash End e rest some own = true≢false (sym some)
repeated hash (File m x d) e rest some own = go (bytes_eq m e.filename) refl some (λ some. repeated hash d e rest some own.1)
  where
    go : (t : Bool) → bytes_eq m e.filename ≡ t → is_some (cond t (Some x) (leaf_at d (e.filename ∷ []))) ≡ true → (is_some (leaf_at d (e.filename ∷ [])) ≡ true → ⊥) → ⊥
    go true is some more = name_behind m (entries_of hash d) rest e own.0 (bytes_eq-is m e.filename is)
    go false is some more = more some
repeated hash (Sub m inner d) e rest some own = go (bytes_eq m e.filename) some (λ some. repeated hash d e rest some own.1)
  where
    go : (t : Bool) → is_some (cond t (leaf_at inner []) (leaf_at d (e.filename ∷ []))) ≡ true → (is_some (leaf_at d (e.filename ∷ [])) ≡ true → ⊥) → ⊥
    go true some more = true≢false (sym some ∙ ap is_some (leaf_at-root inner))
    go false some more = more some
