-- Puts and drops keep what every path map keeps.
use Rattle.std.proofs.Common.{◌≡◌, ◌≢◌, ℕ, suc, zero, ◌<◌, Bool, true, false, ◌||◌, ◌==◌, cond, List, [], ◌∷◌, length, get_or, Contains, Option, Some, None, IsSome, IsTrue, inl, inr, refl, sym, ap, ◌∙◌, subst, true≢false, arith}
use Rattle.std.proofs.lemmas.Bool.{eqb-false}
use Rattle.std.specs.List.{AllByRecursion}
use Rattle.std.specs.Str.{bytes_eq}
use Rattle.gx_hash.specs.declared.oid.ObjectId.{ObjectId}
use Rattle.gx_hash.specs.ObjectId.{null_id}
use Rattle.gx_hash.specs.HashKind.{kind_of}
use Rattle.gx_object.specs.declared.tree.EntryKind.{EntryKind}
use Rattle.gx_object.specs.declared.tree.EntryKind.TheVariants as entry_kind
use Rattle.gx_object.specs.Mode.{mode_of}
use Rattle.gx_edit.specs.Path.{Path, components, at_front, leads_to}
use Rattle.gx_edit.specs.PathMap.{PathMap, put, dropped}
use Rattle.gx_edit.specs.CanonicalTree.{IsLeafMode}
use Rattle.gx_edit.specs.PathList.{has_empty_name, IsWhole, IsLeaf, IsPathMap, leaf_of}
use Rattle.gx_edit.specs.declared.leaf.Leaf.{Leaf}
use Rattle.gx_edit.proofs.PathLemmas.{bytes_eq-of, PutCase, put_cases, dropped-some}
use Rattle.gx_edit.proofs.PathLemmas.PutCase.{same, near, apart}
use Rattle.gx_edit.proofs.ComponentLemmas.{components_some}

-- ---- written paths are whole

abbrev pub NoSlash : List ℕ → Type 0
NoSlash name = Contains name 47 → ⊥

no_slash_more : (b : ℕ) (name : List ℕ) → (b ≡ 47 → ⊥) → NoSlash name → NoSlash (b ∷ name)
no_slash_more b name other none w = go w.0 w.1 w.2
  where
    go : (k : ℕ) → k < suc (length name) → get_or (b ∷ name) k 47 ≡ 47 → ⊥
    go zero within is = other is
    go (suc k) within is = none (k, omega (arith, within), is)

front_plain : (b : ℕ) (p : Path) → (b ≡ 47 → ⊥) → AllByRecursion NoSlash p → AllByRecursion NoSlash (at_front b p)
front_plain b [] other plain = (no_slash_more b [] other (λ w. absurd (omega (arith, w.1))), tt)
front_plain b (n ∷ p) other plain = (no_slash_more b n other plain.0, plain.1)

pub components_plain : (bs : List ℕ) → AllByRecursion NoSlash (components bs)
components_plain [] = ((λ w. absurd (omega (arith, w.1))), tt)
components_plain (b ∷ bs) = go (b == 47) refl (components_plain bs)
  where
    go : (t : Bool) → (b == 47) ≡ t → AllByRecursion NoSlash (components bs) → AllByRecursion NoSlash (cond t ([] ∷ components bs) (at_front b (components bs)))
    go true e plain = ((λ w. absurd (omega (arith, w.1))), plain)
    go false e plain = front_plain b (components bs) (eqb-false b 47 e) plain

filled : (p : Path) → has_empty_name p ≡ false → AllByRecursion NoSlash p → AllByRecursion (λ name. (name ≢ []) × (Contains name 47 → ⊥)) p
filled [] e plain = tt
filled (n ∷ p) e plain = go (bytes_eq [] n) refl e (λ f. filled p f plain.1)
  where
    go : (t : Bool) → bytes_eq [] n ≡ t → (t || has_empty_name p) ≡ false → (has_empty_name p ≡ false → AllByRecursion (λ name. (name ≢ []) × (Contains name 47 → ⊥)) p) → AllByRecursion (λ name. (name ≢ []) × (Contains name 47 → ⊥)) (n ∷ p)
    go true f e ih = cc
    go false f e ih = (((λ is. absurd (true≢false (sym (bytes_eq-of [] n (sym is)) ∙ f))), plain.0), ih e)

pub whole_path : (bs : List ℕ) → has_empty_name (components bs) ≡ false → IsWhole (components bs)
whole_path bs e = (components_some bs, filled (components bs) e (components_plain bs))

-- ---- leaves

leaf_mode : (kind : EntryKind) → kind ≢ entry_kind.Tree → IsLeafMode (mode_of kind)
leaf_mode entry_kind.Tree other = absurd (other refl)
leaf_mode entry_kind.Blob other = inl refl
leaf_mode entry_kind.BlobExecutable other = inr (inl refl)
leaf_mode entry_kind.Link other = inr (inr (inl refl))
leaf_mode entry_kind.Commit other = inr (inr (inr refl))

pub is_leaf : (kind : EntryKind) (id : ObjectId) → kind ≢ entry_kind.Tree → id ≢ null_id (kind_of id) → IsLeaf (leaf_of kind id)
is_leaf kind id other some = record { mode = leaf_mode kind other; id = some }

-- ---- what is kept

none_some : IsSome {T = Leaf} None → ⊥
none_some h = cc

some_in : (o : Option Leaf) (t : Bool) → IsSome (cond t None o) → IsSome o
some_in o true h = absurd (none_some h)
some_in o false h = h

pub dropped_keeps : (m n : PathMap) (p : Path) → IsPathMap m → ((q : Path) → n q ≡ dropped m p q) → IsPathMap n
dropped_keeps m n p old is = record {
  whole = λ q leaf h. old.whole q leaf (dropped-some m p q leaf (sym (is q) ∙ h)).1;
  leaves = λ q leaf h. old.leaves q leaf (dropped-some m p q leaf (sym (is q) ∙ h)).1;
  apart = λ q r a b l. old.apart q r (some_in (m q) (leads_to p q) (subst IsSome (is q) a)) (some_in (m r) (leads_to p r) (subst IsSome (is r) b)) l;
}

pub put_keeps : (m n : PathMap) (p : Path) (x : Leaf) → IsPathMap m → IsWhole p → IsLeaf x → ((q : Path) → n q ≡ put m p x q) → IsPathMap n
put_keeps m n p x old path leaf is = record {
  whole = λ q y h. whole q y (put m p x q) (put_cases m p x q) (sym (is q) ∙ h);
  leaves = λ q y h. leaves q y (put m p x q) (put_cases m p x q) (sym (is q) ∙ h);
  apart = λ q r a b l. one q r l (put m p x q) (put_cases m p x q) (subst IsSome (is q) a) (put m p x r) (put_cases m p x r) (subst IsSome (is r) b);
}
  where
    whole : (q : Path) (y : Leaf) (o : Option Leaf) → PutCase m p x q o → o ≡ Some y → IsWhole q
    whole q y o (same e f) h = subst IsWhole e path
    whole q y o (near e f) h = absurd cc
    whole q y o (apart e f g) h = old.whole q y (sym g ∙ h)

    leaves : (q : Path) (y : Leaf) (o : Option Leaf) → PutCase m p x q o → o ≡ Some y → IsLeaf y
    leaves q y o (same e f) h = let is : x ≡ y = cc in subst IsLeaf is leaf
    leaves q y o (near e f) h = absurd cc
    leaves q y o (apart e f g) h = old.leaves q y (sym g ∙ h)

    one : (q r : Path) → IsTrue (leads_to q r) → (a : Option Leaf) → PutCase m p x q a → IsSome a → (b : Option Leaf) → PutCase m p x r b → IsSome b → q ≡ r
    one q r l a (same e f) i b (same g h) j = sym e ∙ g
    one q r l a (same e f) i b (near g h) j = absurd (none_some (subst IsSome h j))
    one q r l a (same e f) i b (apart g h k) j = absurd (true≢false (sym l ∙ ap (λ s. leads_to s r) (sym e) ∙ g))
    one q r l a (near g h) i b other j = absurd (none_some (subst IsSome h i))
    one q r l a (apart g h k) i b (same e f) j = absurd (true≢false (sym l ∙ ap (leads_to q) (sym e) ∙ h))
    one q r l a (apart g h k) i b (near e f) j = absurd (none_some (subst IsSome f j))
    one q r l a (apart g h k) i b (apart e f s) j = old.apart q r (subst IsSome k i) (subst IsSome s j) l
