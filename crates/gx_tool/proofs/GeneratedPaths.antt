-- The paths of the generator's files, and what its edits keep of a path map.
use Rattle.std.proofs.Common.{◌≡◌, ◌∙◌, sym, ap, refl, subst, arith, ℕ, suc, Bool, true, false, cond, ◌||◌, ◌==◌, eqb-true, List, [], ◌∷◌, ◌++◌, append_assoc, Contains, Option, Some, None}
use Rattle.std.specs.Cmp.Lexicographic.{same_text}
use Rattle.std.proofs.lemmas.Bool.{and_parts}
use Rattle.gx_hash.specs.declared.kind.HashKind.{HashKind}
use Rattle.gx_edit.specs.Path.{Path, at_front, components, leads_to, path_eq}
use Rattle.gx_edit.specs.PathMap.{PathMap, blob_id, dropped, edited, file_mode, put}
use Rattle.gx_edit.specs.declared.leaf.Leaf.{Leaf}
use Rattle.gx_edit.specs.declared.path_edit.PathEdit.TheVariants.{File, Remove}

-- ---- paths

no_slash : (name : List ℕ) → (Contains name 47 → ⊥) → components name ≡ name ∷ []
no_slash [] plain = refl
no_slash (b ∷ name) plain = go (b == 47) refl (no_slash name (λ c. plain (suc c.0, (let less = c.1 in omega arith), c.2)))
  where
    go : (t : Bool) → (b == 47) ≡ t → components name ≡ name ∷ [] → cond t ([] ∷ components name) (at_front b (components name)) ≡ (b ∷ name) ∷ []
    go true e ih = absurd (plain (0, omega arith, eqb-true b 47 e))
    go false e ih = ap (at_front b) ih

-- a name without a slash is the first component
name_first : (name text : List ℕ) → (Contains name 47 → ⊥) → components (name ++ (47 ∷ text)) ≡ name ∷ components text
name_first [] text plain = refl
name_first (b ∷ name) text plain = go (b == 47) refl (name_first name text (λ c. plain (suc c.0, (let less = c.1 in omega arith), c.2)))
  where
    go : (t : Bool) → (b == 47) ≡ t → components (name ++ (47 ∷ text)) ≡ name ∷ components text → cond t ([] ∷ components (name ++ (47 ∷ text))) (at_front b (components (name ++ (47 ∷ text)))) ≡ (b ∷ name) ∷ components text
    go true e ih = absurd (plain (0, omega arith, eqb-true b 47 e))
    go false e ih = ap (at_front b) ih

pub two_names : (one two : List ℕ) → (Contains one 47 → ⊥) → (Contains two 47 → ⊥) → components (one ++ (47 ∷ two)) ≡ one ∷ two ∷ []
two_names one two h k = name_first one two h ∙ ap (λ (p : Path). one ∷ p) (no_slash two k)

pub three_names : (one two three : List ℕ) → (Contains one 47 → ⊥) → (Contains two 47 → ⊥) → (Contains three 47 → ⊥) → components ((one ++ (47 ∷ two)) ++ (47 ∷ three)) ≡ one ∷ two ∷ three ∷ []
three_names one two three h k l =
    ap components (append_assoc one (47 ∷ two) (47 ∷ three)) ∙ name_first one (two ++ (47 ∷ three)) h ∙ ap (λ (p : Path). one ∷ p) (two_names two three k l)

same_path : (p q : Path) → path_eq p q ≡ true → p ≡ q
same_path [] [] h = refl
same_path [] (m ∷ q) h = absurd cc
same_path (n ∷ p) [] h = absurd cc
same_path (n ∷ p) (m ∷ q) h =
    let both = and_parts _ _ h in
    let first : n ≡ m = same_text n m (sym both.0) in
    let rest : p ≡ q = same_path p q both.1 in
    ap (λ (x : List ℕ). x ∷ p) first ∙ ap (λ (x : Path). m ∷ x) rest

-- ---- maps

no_leaf : (x : Leaf) → ◌≡◌ {A = Option Leaf} None (Some x) → ⊥
no_leaf x same = cc

one_leaf : (y x : Leaf) → ◌≡◌ {A = Option Leaf} (Some y) (Some x) → y ≡ x
one_leaf y x same = cc

-- each leaf of the map has the property, at its path
abbrev pub OfAll : (Path → Leaf → Type 0) → PathMap → Type 0
OfAll P m = (p : Path) (leaf : Leaf) → m p ≡ Some leaf → P p leaf

module _ (P : Path → Leaf → Type 0) where
  put_keeps : (m : PathMap) (at : Path) (leaf : Leaf) → OfAll P m → P at leaf → OfAll P (put m at leaf)
  put_keeps m at leaf all new q x h = go (path_eq at q) (leads_to at q || leads_to q at) refl h
    where
      go : (s t : Bool) → path_eq at q ≡ s → cond s (Some leaf) (cond t None (m q)) ≡ Some x → P q x
      go true t e is = subst (λ (y : Leaf). P q y) (one_leaf leaf x is) (subst (λ (p : Path). P p leaf) (same_path at q e) new)
      go false true e is = absurd (no_leaf x is)
      go false false e is = all q x is

  dropped_keeps : (m : PathMap) (at : Path) → OfAll P m → OfAll P (dropped m at)
  dropped_keeps m at all q x h = go (leads_to at q) h
    where
      go : (t : Bool) → cond t None (m q) ≡ Some x → P q x
      go true is = absurd (no_leaf x is)
      go false is = all q x is

  abbrev file_leaf : HashKind → List ℕ → Leaf
  file_leaf hash bytes = record { mode = record { value = file_mode false }; id = blob_id hash bytes }

  pub put_alone : (hash : HashKind) (m : PathMap) (path bytes : List ℕ) → OfAll P m → P (components path) (file_leaf hash bytes) → OfAll P (edited hash m (File path bytes false ∷ []))
  put_alone hash m path bytes all new = put_keeps m (components path) (file_leaf hash bytes) all new

  pub put_and_dropped : (hash : HashKind) (m : PathMap) (path bytes away : List ℕ) → OfAll P m → P (components path) (file_leaf hash bytes) → OfAll P (edited hash m (File path bytes false ∷ Remove away ∷ []))
  put_and_dropped hash m path bytes away all new =
      dropped_keeps (put m (components path) (file_leaf hash bytes)) (components away) (put_keeps m (components path) (file_leaf hash bytes) all new)
