-- The entries of a map that go into one directory.
use Rattle.std.proofs.Common.{◌≡◌, ℕ, suc, zero, Bool, true, false, ◌++◌, ◌+◌, ◌-◌, ◌<◌, ◌≤◌, cond, List, [], ◌∷◌, map, drop, take, length, Option, Some, None, refl, sym, ap, ap₂, ◌∙◌, subst, true≢false, arith, length-drop, MatchOption, take-append-drop}
use Rattle.std.specs.Str.{bytes_eq}
use Rattle.std.specs.List.{position}
use Rattle.std.proofs.lemmas.List.{drop-drop, length-take-le, map-append}
use Rattle.gx_edit.specs.Path.{Path, components}
use Rattle.gx_edit.specs.Planning.{under, row_at, rows_at, load, goes_into, run, Reach, IsFrontGroup}
use Rattle.gx_edit.specs.declared.leaf.Leaf.{Leaf}
use Rattle.gx_edit.specs.declared.writing.groups.Row.{Row}
use Rattle.gx_edit.proofs.PathLemmas.{bytes_eq-is, bytes_eq-of}
use Rattle.gx_edit.proofs.ComponentLemmas.{is_slash, components-position, components_some}

-- a path of two names and more goes into the directory of its first
into_first : (n c : List ℕ) (text : List ℕ) → goes_into n (c ∷ components text) ≡ bytes_eq c n
into_first n c text = go (components text) (components_some text)
  where
    go : (p : Path) → (p ≡ [] → ⊥) → goes_into n (c ∷ p) ≡ bytes_eq c n
    go [] some = absurd (some refl)
    go (d ∷ p) some = refl

-- what is left of a path after the directory that it goes into
rest_below : (n text : List ℕ) (at : ℕ) → at ≤ length text → goes_into n (components (drop at text)) ≡ true
    → (at + length n + 1 ≤ length text) × (components (drop at text) ≡ n ∷ components (drop (at + length n + 1) text))
rest_below n text at within into = go (position is_slash (drop at text)) (components-position (drop at text))
  where
    go : (r : Option ℕ) → MatchOption r (components (drop at text) ≡ drop at text ∷ []) (λ k. (k < length (drop at text)) × (components (drop at text) ≡ take k (drop at text) ∷ components (drop (k + 1) (drop at text))))
        → (at + length n + 1 ≤ length text) × (components (drop at text) ≡ n ∷ components (drop (at + length n + 1) text))
    go None e = absurd (true≢false (sym (let no : false ≡ true = sym (ap (goes_into n) e) ∙ into in no)))
    go (Some k) e =
        let same : take k (drop at text) ≡ n = bytes_eq-is (take k (drop at text)) n (sym (into_first n (take k (drop at text)) (drop (k + 1) (drop at text))) ∙ sym (ap (goes_into n) e.1) ∙ into) in
        let size : length n ≡ k = ap length (sym same) ∙ length-take-le k (drop at text) (omega (arith, e.0)) in
        let room : length (drop at text) ≡ length text - at = length-drop at text in
        let place : at + (k + 1) ≡ at + length n + 1 = omega (arith, size) in
        (omega (arith, e.0, size, room, within), e.1 ∙ ap₂ (λ (a : List ℕ) (b : Path). a ∷ b) same (ap components (drop-drop (k + 1) at text ∙ ap (λ i. drop i text) place)))

record AreBelow (n : List ℕ) (at : ℕ) (group : List Row) : Type 0 where
  pub split : rows_at at group ≡ map (under n) (rows_at (at + length n + 1) group)
  pub reach : Reach (at + length n + 1) group

first_below : (n : List ℕ) (at : ℕ) (es : List Row) (j : ℕ) → Reach at es → j ≤ run n (rows_at at es) → AreBelow n at (take j es)
first_below n at [] zero r h = record { split = refl; reach = tt }
first_below n at [] (suc j) r h = absurd (omega (arith, h))
first_below n at (e ∷ es) zero r h = record { split = refl; reach = tt }
first_below n at (e ∷ es) (suc j) r h = go (goes_into n (components (drop at e.path.items))) refl h (first_below n at es j r.1)
  where
    go : (t : Bool) → goes_into n (components (drop at e.path.items)) ≡ t → suc j ≤ cond t (1 + run n (rows_at at es)) 0 → (j ≤ run n (rows_at at es) → AreBelow n at (take j es)) → AreBelow n at (e ∷ take j es)
    go true into h ih =
        let one = rest_below n e.path.items at r.0 into in
        let more = ih (omega (arith, h)) in
        let leaf : Leaf = e.leaf in
        record { split = ap₂ (λ (a : Path × Leaf) (b : List (Path × Leaf)). a ∷ b) (λ i. (one.1 i, leaf)) more.split; reach = (one.0, more.reach) }
    go false into h ih = absurd (omega (arith, h))

Reach-drop : (at : ℕ) (es : List Row) (j : ℕ) → Reach at es → Reach at (drop j es)
Reach-drop at [] zero r = r
Reach-drop at [] (suc j) r = tt
Reach-drop at (e ∷ es) zero r = r
Reach-drop at (e ∷ es) (suc j) r = Reach-drop at es j r.1

rows_parted : (at : ℕ) (es : List Row) (j : ℕ) → rows_at at es ≡ rows_at at (take j es) ++ rows_at at (drop j es)
rows_parted at es j = ap (rows_at at) (sym (take-append-drop j es)) ∙ map-append (row_at at) (take j es) (drop j es)

load_parted : (at : ℕ) (es : List Row) (j : ℕ) → load at (take j es) + load at (drop j es) ≡ load at es
load_parted at [] zero = omega arith
load_parted at [] (suc j) = omega arith
load_parted at (e ∷ es) zero = omega arith
load_parted at (e ∷ es) (suc j) = omega (arith, load_parted at es j)

load_below : (at more : ℕ) (es : List Row) → Reach (at + more + 1) es → load (at + more + 1) es + length es ≤ load at es
load_below at more [] r = omega arith
load_below at more (e ∷ es) r = omega (arith, r.0, load_below at more es r.1)

-- the first entry goes into the directory of its first name
pub some_run : (at : ℕ) (es : List Row) (e : Row) (others : List Row) (path name below : List ℕ) → es ≡ e ∷ others → path ≡ drop at e.path.items
    → components path ≡ name ∷ components below → 0 < run name (rows_at at es)
some_run at es e others path name below split is first =
    let into : goes_into name (components (drop at e.path.items)) ≡ true = ap (λ t. goes_into name (components t)) (sym is) ∙ ap (goes_into name) first ∙ into_first name name below ∙ bytes_eq-of name name refl in
    let runs : run name (rows_at at es) ≡ 1 + run name (rows_at at others) = ap (λ l. run name (rows_at at l)) split ∙ ap (λ t. cond t (1 + run name (rows_at at others)) 0) into in
    omega (arith, runs)

pub front_group : (at : ℕ) (es : List Row) (name : List ℕ) (group after : List Row) → Reach at es → 0 < run name (rows_at at es)
    → (j : ℕ) → j ≤ length es → j ≡ run name (rows_at at es) → group ≡ take j es → after ≡ drop j es → IsFrontGroup at es name group after
front_group at es name group after reach runs j within count is_group is_after =
    let g = first_below name at es j reach (omega (arith, count)) in
    let size : length (take j es) ≡ j = length-take-le j es within in
    let some : 0 < length (take j es) = omega (arith, size, count, runs) in
    subst (λ a. IsFrontGroup at es name a after) (sym is_group) (subst (λ a. IsFrontGroup at es name (take j es) a) (sym is_after) (record {
      some = some;
      counted = sym count ∙ sym size;
      split = rows_parted at es j ∙ ap (λ t. t ++ rows_at at (drop j es)) g.split;
      reach = g.reach;
      reach_after = Reach-drop at es j reach;
      lighter = omega (arith, load_parted at es j, load_below at (length name) (take j es) g.reach, some);
    }))
