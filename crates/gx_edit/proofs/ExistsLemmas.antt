-- A path map without zero bytes has a canonical directory.
use Rattle.std.proofs.Common.{◌≡◌, ◌≢◌, ℕ, suc, zero, ◌<◌, Bool, true, false, ◌||◌, ◌==◌, cond, List, [], ◌∷◌, map, length, get_or, Contains, Option, Some, None, IsSome, refl, sym, ap, ◌∙◌, subst, true≢false, arith}
use Rattle.std.proofs.lemmas.Bool.{eqb-false}
use Rattle.std.specs.List.{list_any, AllByRecursion}
use Rattle.std.specs.List.Sorted.{IsStrictlySortedBy}
use Rattle.std.specs.declared.cmp.Ordering.TheVariants.{Less}
use Rattle.gx_rules.specs.Name.{name_cmp}
use Rattle.gx_edit.specs.Path.{Path, IsName, components, at_front, path_eq, leads_to}
use Rattle.gx_edit.specs.PathMap.{put}
use Rattle.gx_edit.specs.PathList.{PathList, map_of, IsPathMap, IsRising}
use Rattle.gx_edit.specs.PathTexts.{leaf_at_text}
use Rattle.gx_edit.specs.CanonicalTree.{Directory, IsBelow, StandsFor}
use Rattle.gx_edit.specs.CanonicalTree.Directory.{End}
use Rattle.gx_edit.specs.PathList.{has_zero}
use Rattle.gx_edit.specs.declared.leaf.Leaf.{Leaf}
use Rattle.gx_edit.proofs.PathLemmas.{path_eq-is, path_eq-of}
use Rattle.gx_edit.proofs.DirectoryLemmas.{below-irrefl, bytes_eq-no}
use Rattle.gx_edit.proofs.TextLemmas.{map_text}
use Rattle.gx_edit.proofs.MakingLemmas.{with_leaf, with_leaf_canonical, with_leaf_at}

-- ---- names without zero bytes

abbrev NoZero : List ℕ → Type 0
NoZero name = Contains name 0 → ⊥

no_zero_more : (b : ℕ) (name : List ℕ) → (b ≡ 0 → ⊥) → NoZero name → NoZero (b ∷ name)
no_zero_more b name other none w = go w.0 w.1 w.2
  where
    go : (k : ℕ) → k < suc (length name) → get_or (b ∷ name) k 0 ≡ 0 → ⊥
    go zero within is = other is
    go (suc k) within is = none (k, omega (arith, within), is)

front_no_zero : (b : ℕ) (p : Path) → (b ≡ 0 → ⊥) → AllByRecursion NoZero p → AllByRecursion NoZero (at_front b p)
front_no_zero b [] other plain = (no_zero_more b [] other (λ w. absurd (omega (arith, w.1))), tt)
front_no_zero b (n ∷ p) other plain = (no_zero_more b n other plain.0, plain.1)

or_left : (a b : Bool) → (a || b) ≡ false → a ≡ false
or_left true b e = e
or_left false b e = refl

or_right : (a b : Bool) → (a || b) ≡ false → b ≡ false
or_right true b e = absurd (true≢false e)
or_right false b e = e

names_no_zero : (text : List ℕ) → list_any (λ b. b == 0) text ≡ false → AllByRecursion NoZero (components text)
names_no_zero [] e = ((λ w. absurd (omega (arith, w.1))), tt)
names_no_zero (b ∷ text) e = go (b == 47) (names_no_zero text (or_right (b == 0) (list_any (λ b. b == 0) text) e))
  where
    go : (t : Bool) → AllByRecursion NoZero (components text) → AllByRecursion NoZero (cond t ([] ∷ components text) (at_front b (components text)))
    go true plain = ((λ w. absurd (omega (arith, w.1))), plain)
    go false plain = front_no_zero b (components text) (eqb-false b 0 (or_left (b == 0) (list_any (λ b. b == 0) text) e)) plain

are_names : (p : Path) → AllByRecursion (λ name. (name ≢ []) × (Contains name 47 → ⊥)) p → AllByRecursion NoZero p → AllByRecursion IsName p
are_names [] whole plain = tt
are_names (n ∷ p) whole plain = (record { not_empty = whole.0.0; no_slash = whole.0.1; no_zero = plain.0 }, are_names p whole.1 plain.1)

-- ---- one row more

above_none : (k : List ℕ) (paths : PathList) → AllByRecursion (λ y. name_cmp k y ≡ Less) (map (λ row. row.0) paths) → leaf_at_text paths k ≡ None
above_none k [] above = refl
above_none k (row ∷ paths) above = ap (λ t. cond t (Some row.1) (leaf_at_text paths k)) (bytes_eq-no k row.0 (λ is. below-irrefl k (subst (IsBelow k) (sym is) above.0))) ∙ above_none k paths above.1

module _ (text : List ℕ) (x : Leaf) (paths : PathList) (fresh : map_of paths (components text) ≡ None) where
  kept : (q : Path) (leaf : Leaf) → map_of paths q ≡ Some leaf → map_of ((text, x) ∷ paths) q ≡ Some leaf
  kept q leaf h = go (path_eq (components text) q) refl
    where
      go : (t : Bool) → path_eq (components text) q ≡ t → cond t (Some x) (map_of paths q) ≡ Some leaf
      go true e = absurd (let none : map_of paths q ≡ None = subst (λ s. map_of paths s ≡ None) (path_eq-is (components text) q e) fresh in cc)
      go false e = h

  some_kept : (q : Path) → IsSome (map_of paths q) → IsSome (map_of ((text, x) ∷ paths) q)
  some_kept q some = go (map_of paths q) refl some
    where
      go : (o : Option Leaf) → map_of paths q ≡ o → IsSome o → IsSome (map_of ((text, x) ∷ paths) q)
      go None e h = absurd (let no : IsSome {T = Leaf} None = h in cc)
      go (Some leaf) e h = subst IsSome (sym (kept q leaf e)) h

  less_is_map : IsPathMap (map_of ((text, x) ∷ paths)) → IsPathMap (map_of paths)
  less_is_map m = record {
    whole = λ q leaf h. m.whole q leaf (kept q leaf h);
    leaves = λ q leaf h. m.leaves q leaf (kept q leaf h);
    apart = λ p q a b l. m.apart p q (some_kept p a) (some_kept q b) l;
  }

own_leaf : (text : List ℕ) (x : Leaf) (paths : PathList) → map_of ((text, x) ∷ paths) (components text) ≡ Some x
own_leaf text x paths = ap (λ t. cond t (Some x) (map_of paths (components text))) (path_eq-of (components text) (components text) refl)

-- a leaf that stands apart from all others is put beside them
put_apart : (text : List ℕ) (x : Leaf) (paths : PathList) → IsPathMap (map_of ((text, x) ∷ paths)) → (q : Path) → put (map_of paths) (components text) x q ≡ map_of ((text, x) ∷ paths) q
put_apart text x paths m q = go (path_eq (components text) q) refl
  where
    here : IsSome (map_of ((text, x) ∷ paths) (components text))
    here = subst IsSome (sym (own_leaf text x paths)) refl

    beside : path_eq (components text) q ≡ false → (o : Option Leaf) → map_of paths q ≡ o → (s t : Bool) → leads_to (components text) q ≡ s → leads_to q (components text) ≡ t → cond (s || t) None o ≡ o
    beside other None e s t f g = both (s || t)
      where
        both : (u : Bool) → cond {A = Option Leaf} u None None ≡ None
        both true = refl
        both false = refl
    beside other (Some y) e true t f g = absurd (true≢false (sym (path_eq-of (components text) q (m.apart (components text) q here (there other y e) f)) ∙ other))
      where
        there : path_eq (components text) q ≡ false → (y : Leaf) → map_of paths q ≡ Some y → IsSome (map_of ((text, x) ∷ paths) q)
        there other y e = subst IsSome (sym (ap (λ u. cond u (Some x) (map_of paths q)) other ∙ e)) refl
    beside other (Some y) e false true f g = absurd (true≢false (sym (path_eq-of (components text) q (sym (m.apart q (components text) (there other y e) here g))) ∙ other))
      where
        there : path_eq (components text) q ≡ false → (y : Leaf) → map_of paths q ≡ Some y → IsSome (map_of ((text, x) ∷ paths) q)
        there other y e = subst IsSome (sym (ap (λ u. cond u (Some x) (map_of paths q)) other ∙ e)) refl
    beside other (Some y) e false false f g = refl

    go : (t : Bool) → path_eq (components text) q ≡ t → cond t (Some x) (cond (leads_to (components text) q || leads_to q (components text)) None (map_of paths q)) ≡ cond t (Some x) (map_of paths q)
    go true e = refl
    go false e = beside e (map_of paths q) refl (leads_to (components text) q) (leads_to q (components text)) refl refl

pub has_directory : (paths : PathList) → IsRising paths → IsPathMap (map_of paths) → has_zero paths ≡ false → (d : Directory) × StandsFor d (map_of paths)
unfolding IsStrictlySortedBy
has_directory [] rising m plain = (End, record { canonical = tt; leaves = λ p. refl })
has_directory ((text, x) ∷ paths) rising m plain =
    let fresh : map_of paths (components text) ≡ None = map_text paths text ∙ above_none text paths rising.0 in
    let below = has_directory paths rising.1 (less_is_map text x paths fresh m) (or_right (list_any (λ b. b == 0) text) (has_zero paths) plain) in
    let whole = m.whole (components text) x (own_leaf text x paths) in
    let names : AllByRecursion IsName (components text) = are_names (components text) whole.1 (names_no_zero text (or_left (list_any (λ b. b == 0) text) (has_zero paths) plain)) in (
      with_leaf (components text) x below.0,
      record {
        canonical = with_leaf_canonical (components text) x below.0 names (m.leaves (components text) x (own_leaf text x paths)).mode below.1.canonical;
        leaves = λ q. with_leaf_at (components text) x below.0 q whole.0 below.1.canonical
            ∙ ap (λ o. cond (path_eq (components text) q) (Some x) (cond (leads_to (components text) q || leads_to q (components text)) None o)) (below.1.leaves q)
            ∙ put_apart text x paths m q;
      },
    )
