-- A canonical directory is a path map.
use Rattle.std.proofs.Common.{◌≡◌, ◌≢◌, ℕ, Bool, true, false, ◌&&◌, cond, List, [], ◌∷◌, Some, None, IsSome, IsTrue, Contains, refl, sym, ap, ap₂, ◌∙◌, subst, true≢false}
use Rattle.std.specs.Str.{bytes_eq}
use Rattle.std.specs.List.{AllByRecursion}
use Rattle.gx_hash.specs.declared.kind.HashKind.{HashKind}
use Rattle.gx_hash.specs.ObjectId.{bytes_of, id_from_bytes, null_id}
use Rattle.gx_edit.specs.SharedIds.{HasIdsOf, HasNoNullId}
use Rattle.gx_edit.specs.CanonicalTree.{entries_within}
use Rattle.gx_object.specs.declared.tree.Entry.{Entry}
use Rattle.gx_hash.specs.HashKind.{kind_of}
use Rattle.gx_edit.specs.Path.{Path, leads_to, IsName}
use Rattle.gx_edit.specs.PathMap.{PathMap}
use Rattle.gx_edit.specs.PathList.{IsLeaf, IsPathMap}
use Rattle.gx_edit.specs.CanonicalTree.{Directory, leaf_at, IsCanonical}
use Rattle.gx_edit.specs.CanonicalTree.Directory.{End, File, Sub}
use Rattle.gx_edit.specs.declared.leaf.Leaf.{Leaf}
use Rattle.gx_edit.proofs.PathLemmas.{bytes_eq-is}
use Rattle.gx_edit.proofs.DirectoryLemmas.{leaf_at-root, Follow-none, one_directory}
use Rattle.gx_edit.proofs.DirectoryJoins.{HasIds, entries_own}

abbrev AreNames : Path → Type 0
AreNames p = AllByRecursion (λ name. (name ≢ []) × (Contains name 47 → ⊥)) p

abbrev some_of : (n c : List ℕ) → bytes_eq n c ≡ true → IsName n → (c ≢ []) × (Contains c 47 → ⊥)
some_of n c e name = subst (λ k. (k ≢ []) × (Contains k 47 → ⊥)) (bytes_eq-is n c e) (name.not_empty, name.no_slash)

names_of : (d : Directory) (p : Path) (x : Leaf) → IsCanonical d → leaf_at d p ≡ Some x → AreNames p
names_of End p x ok h = cc
names_of (File n y rest) [] x ok h = tt
names_of (File n y rest) (c ∷ []) x ok h = go (bytes_eq n c) refl h (names_of rest (c ∷ []) x ok.2)
  where
    go : (t : Bool) → bytes_eq n c ≡ t → cond t (Some y) (leaf_at rest (c ∷ [])) ≡ Some x → (leaf_at rest (c ∷ []) ≡ Some x → AreNames (c ∷ [])) → AreNames (c ∷ [])
    go true e h more = (some_of n c e ok.0, tt)
    go false e h more = more h
names_of (File n y rest) (c ∷ d ∷ p) x ok h = names_of rest (c ∷ d ∷ p) x ok.2 h
names_of (Sub n inner rest) [] x ok h = tt
names_of (Sub n inner rest) (c ∷ p) x ok h = go (bytes_eq n c) refl h (names_of inner p x ok.2) (names_of rest (c ∷ p) x ok.4)
  where
    go : (t : Bool) → bytes_eq n c ≡ t → cond t (leaf_at inner p) (leaf_at rest (c ∷ p)) ≡ Some x → (leaf_at inner p ≡ Some x → AreNames p) → (leaf_at rest (c ∷ p) ≡ Some x → AreNames (c ∷ p)) → AreNames (c ∷ p)
    go true e h within more = (some_of n c e ok.0, within h)
    go false e h within more = more h

some_path : (d : Directory) (p : Path) (x : Leaf) → leaf_at d p ≡ Some x → p ≢ []
some_path d p x h none = let e : Some x ≡ None = sym h ∙ ap (leaf_at d) none ∙ leaf_at-root d in cc

abbrev HasOwnLeaf : HashKind → Leaf → Type 0
HasOwnLeaf hash x = IsLeaf x × (id_from_bytes hash (bytes_of x.id) ≡ Some x.id)

leaf_of : (hash : HashKind) (d : Directory) (p : Path) (x : Leaf) → IsCanonical d → HasIds hash d → leaf_at d p ≡ Some x → HasOwnLeaf hash x
leaf_of hash End p x ok ids h = cc
leaf_of hash (File n y rest) [] x ok ids h = cc
leaf_of hash (File n y rest) (c ∷ []) x ok ids h = go (bytes_eq n c) h (leaf_of hash rest (c ∷ []) x ok.2 ids.1)
  where
    go : (t : Bool) → cond t (Some y) (leaf_at rest (c ∷ [])) ≡ Some x → (leaf_at rest (c ∷ []) ≡ Some x → HasOwnLeaf hash x) → HasOwnLeaf hash x
    go true h more = let is : y ≡ x = cc in subst (HasOwnLeaf hash) is (record { mode = ok.3; id = ids.0.0 }, ids.0.1)
    go false h more = more h
leaf_of hash (File n y rest) (c ∷ d ∷ p) x ok ids h = leaf_of hash rest (c ∷ d ∷ p) x ok.2 ids.1 h
leaf_of hash (Sub n inner rest) [] x ok ids h = cc
leaf_of hash (Sub n inner rest) (c ∷ p) x ok ids h = go (bytes_eq n c) h (leaf_of hash inner p x ok.2 ids.0) (leaf_of hash rest (c ∷ p) x ok.4 ids.1)
  where
    go : (t : Bool) → cond t (leaf_at inner p) (leaf_at rest (c ∷ p)) ≡ Some x → (leaf_at inner p ≡ Some x → HasOwnLeaf hash x) → (leaf_at rest (c ∷ p) ≡ Some x → HasOwnLeaf hash x) → HasOwnLeaf hash x
    go true h within more = within h
    go false h within more = more h

none_some : IsSome {T = Leaf} None → ⊥
none_some h = cc

-- one path that leads to another is that path
one_leaf : (d : Directory) (p q : Path) → IsCanonical d → IsSome (leaf_at d p) → IsSome (leaf_at d q) → IsTrue (leads_to p q) → p ≡ q
one_leaf End p q ok a b l = absurd (none_some a)
one_leaf (File n x rest) [] q ok a b l = absurd (none_some a)
one_leaf (File n x rest) (c ∷ []) [] ok a b l = absurd (none_some b)
one_leaf (File n x rest) (c ∷ []) (e ∷ []) ok a b l = ap (λ k. k ∷ []) (bytes_eq-is c e (front (bytes_eq c e) l))
  where
    front : (t : Bool) → (t && true) ≡ true → t ≡ true
    front true h = refl
    front false h = h
one_leaf (File n x rest) (c ∷ []) (e ∷ f ∷ q) ok a b l = go (bytes_eq n c) refl a (one_leaf rest (c ∷ []) (e ∷ f ∷ q) ok.2)
  where
    same : (t : Bool) → (t && true) ≡ true → t ≡ true
    same true h = refl
    same false h = h

    go : (t : Bool) → bytes_eq n c ≡ t → IsSome (cond t (Some x) (leaf_at rest (c ∷ []))) → (IsSome (leaf_at rest (c ∷ [])) → IsSome (leaf_at rest (e ∷ f ∷ q)) → IsTrue (leads_to (c ∷ []) (e ∷ f ∷ q)) → c ∷ [] ≡ e ∷ f ∷ q) → c ∷ [] ≡ e ∷ f ∷ q
    go true is a more = absurd (none_some (subst IsSome (ap (λ k. leaf_at rest (k ∷ f ∷ q)) (sym (bytes_eq-is n c is ∙ bytes_eq-is c e (same (bytes_eq c e) l))) ∙ Follow-none n n rest (f ∷ q) ok.1) b))
    go false is a more = more a b l
one_leaf (File n x rest) (c ∷ d ∷ p) [] ok a b l = absurd (none_some b)
one_leaf (File n x rest) (c ∷ d ∷ p) (e ∷ []) ok a b l = absurd (never (bytes_eq c e) l)
  where
    never : (t : Bool) → (t && false) ≡ true → ⊥
    never true h = true≢false (sym h)
    never false h = true≢false (sym h)
one_leaf (File n x rest) (c ∷ d ∷ p) (e ∷ f ∷ q) ok a b l = one_leaf rest (c ∷ d ∷ p) (e ∷ f ∷ q) ok.2 a b l
one_leaf (Sub n inner rest) [] q ok a b l = absurd (none_some a)
one_leaf (Sub n inner rest) (c ∷ p) [] ok a b l = absurd (none_some b)
one_leaf (Sub n inner rest) (c ∷ p) (e ∷ q) ok a b l =
    let is : c ≡ e = bytes_eq-is c e (first (bytes_eq c e) (leads_to p q) l) in
    go (bytes_eq n c) a (subst (λ k. IsSome (cond (bytes_eq n k) (leaf_at inner q) (leaf_at rest (e ∷ q)))) (sym is) b) is
    (λ a b. one_leaf inner p q ok.2 a b (second (bytes_eq c e) (leads_to p q) l)) (λ a b. one_leaf rest (c ∷ p) (e ∷ q) ok.4 a b l)
  where
    first : (s t : Bool) → (s && t) ≡ true → s ≡ true
    first true t h = refl
    first false t h = h

    second : (s t : Bool) → (s && t) ≡ true → t ≡ true
    second true t h = h
    second false t h = absurd (true≢false (sym h))

    go : (t : Bool) → IsSome (cond t (leaf_at inner p) (leaf_at rest (c ∷ p))) → IsSome (cond t (leaf_at inner q) (leaf_at rest (e ∷ q))) → c ≡ e → (IsSome (leaf_at inner p) → IsSome (leaf_at inner q) → p ≡ q)
        → (IsSome (leaf_at rest (c ∷ p)) → IsSome (leaf_at rest (e ∷ q)) → c ∷ p ≡ e ∷ q) → c ∷ p ≡ e ∷ q
    go true a b same within more = ap₂ (λ x xs. x ∷ xs) same (within a b)
    go false a b same within more = more a b

pub is_map : (hash : HashKind) (d : Directory) (m : PathMap) → IsCanonical d → HasIds hash d → ((p : Path) → leaf_at d p ≡ m p) → IsPathMap m
is_map hash d m ok ids look = record {
  whole = λ p x h. (some_path d p x (look p ∙ h), names_of d p x ok (look p ∙ h));
  leaves = λ p x h. (leaf_of hash d p x ok ids (look p ∙ h)).0;
  apart = λ p q a b l. one_leaf d p q ok (subst IsSome (sym (look p)) a) (subst IsSome (sym (look q)) b) l;
}

-- no id in its trees is null
pub no_null : (hash : HashKind) (d : Directory) (m : PathMap) → IsCanonical d → HasIds hash d → ((p : Path) → leaf_at d p ≡ m p) → HasNoNullId hash m
no_null hash d m ok ids look = λ e stands. subst (λ x. AllByRecursion (λ (entry : Entry). entry.oid ≢ null_id (kind_of entry.oid)) (entries_within hash x))
    (one_directory d e ok stands.canonical (λ p. look p ∙ sym (stands.leaves p))) (entries_own hash d ids)

-- the ids of its leaves are of the kind
pub has_ids : (hash : HashKind) (d : Directory) (m : PathMap) → IsCanonical d → HasIds hash d → ((p : Path) → leaf_at d p ≡ m p) → HasIdsOf hash m
has_ids hash d m ok ids look = λ p x h. (leaf_of hash d p x ok ids (look p ∙ h)).1
