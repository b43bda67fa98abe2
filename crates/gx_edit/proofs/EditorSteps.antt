-- One directory after another is planned.
use Rattle.std.proofs.Common.{◌≡◌, ◌≢◌, ◌∙◌, ◌<◌, ◌≤◌, ◌⊎◌, inl, inr, sym, ap, ap₂, refl, subst, cond, List, [], ◌∷◌, ◌++◌, ℕ, zero, suc, Bool, true, false, true≢false, eqb, eqb-true, eq-eqb, Option, Some, Contains, length, map, set, arith, length-set}
use Rattle.std.specs.Prelude.{slice_get}
use Rattle.std.specs.List.{AllByRecursion, flat_map}
use Rattle.std.proofs.lemmas.List.{append-nil, map-append}
use Rattle.std.proofs.lemmas.List.Elements.{Contains-append_left, Contains-append_right}
use Rattle.std.proofs.lemmas.Grind.{flat_map-append}
use Rattle.gx_hash.specs.declared.kind.HashKind.{HashKind}
use Rattle.gx_hash.specs.declared.oid.ObjectId.{ObjectId}
use Rattle.gx_object.specs.declared.tree.Entry.{Entry}
use Rattle.gx_edit.specs.EditorPlan.{IsReached, Falls, IsPlannedFrom, IsPlanned, IsRootPlanned, PlansRows, planned_with, id_if, output_with}
use Rattle.gx_edit.specs.Planning.{ArePlanned, objects_of}
use Rattle.gx_edit.specs.Nodes.{Place, AreLinked, view_at}
use Rattle.gx_edit.specs.Written.{IsWritten, IsOutputOfView, tree_with, id_with}
use Rattle.gx_edit.specs.declared.editor.plan.Planned.{Planned}
use Rattle.gx_edit.specs.declared.output.PlannedTree.{PlannedTree}
use Rattle.gx_edit.proofs.EditorOutput.{is_output}
use Rattle.gx_edit.proofs.EntryOrder.{All-append}
use Rattle.gx_edit.proofs.WrittenLists.{in_first}

-- ---- a list for one place more

abbrev pub with_rows : (ℕ → List Entry) → ℕ → List Entry → ℕ → List Entry
with_rows listed k rows i = cond (eqb i k) rows (listed i)

pub rows_here : (listed : ℕ → List Entry) (k : ℕ) (rows : List Entry) → with_rows listed k rows k ≡ rows
rows_here listed k rows = ap (λ t. cond t rows (listed k)) (eq-eqb k k refl)

pub rows_other : (listed : ℕ → List Entry) (k : ℕ) (rows : List Entry) (i : ℕ) → i ≢ k → with_rows listed k rows i ≡ listed i
rows_other listed k rows i ne = go (eqb i k) refl
  where
    go : (t : Bool) → eqb i k ≡ t → cond t rows (listed i) ≡ listed i
    go true is = absurd (ne (eqb-true i k is))
    go false is = refl

-- this place, or one after it
pub here_or_later : (k i : ℕ) → k ≤ i → (i ≡ k) ⊎ (suc k ≤ i)
here_or_later k i low = go (eqb i k) refl
  where
    go : (t : Bool) → eqb i k ≡ t → (i ≡ k) ⊎ (suc k ≤ i)
    go true is = inl (eqb-true i k is)
    go false is = inr (later (λ e. true≢false (sym (eq-eqb i k e) ∙ is)))
      where
        later : i ≢ k → suc k ≤ i
        later ne = omega (arith, low, ne)

All-both : {A : Type 0} (P Q R : A → Type 0) (xs : List A) → ((x : A) → P x → Q x → R x) → AllByRecursion P xs → AllByRecursion Q xs → AllByRecursion R xs
All-both P Q R [] f a b = tt
All-both P Q R (x ∷ xs) f a b = (f x a.0 b.0, All-both P Q R xs f a.1 b.1)

mapped_alike : {A B : Type 0} (P : A → Type 0) (f g : A → B) (xs : List A) → ((x : A) → P x → f x ≡ g x) → AllByRecursion P xs → map f xs ≡ map g xs
mapped_alike P f g [] same all = refl
mapped_alike P f g (x ∷ xs) same all = ap₂ (λ y ys. y ∷ ys) (same x all.0) (mapped_alike P f g xs same all.1)

joined_alike : {A B : Type 0} (P : A → Type 0) (f g : A → List B) (xs : List A) → ((x : A) → P x → f x ≡ g x) → AllByRecursion P xs → flat_map f xs ≡ flat_map g xs
joined_alike P f g [] same all = refl
joined_alike P f g (x ∷ xs) same all = ap₂ (λ ys zs. ys ++ zs) (same x all.0) (joined_alike P f g xs same all.1)

falls_more : (k : ℕ) (order : List ℕ) → AllByRecursion (λ i. suc k ≤ i) order → Falls order → Falls (order ++ k ∷ [])
falls_more k [] from falls = (tt, tt)
falls_more k (i ∷ order) from falls = (All-append (λ j. j < i) order (k ∷ []) falls.0 (omega (arith, from.0), tt), falls_more k order from.1 falls.1)

module _ (hash : HashKind) (a : List Place) (k : ℕ) (listed : ℕ → List Entry) (order : List ℕ) (plan : IsPlannedFrom hash a (suc k) listed order) where
  -- the root does not lead to this place
  pub plan_passed : (IsReached a k → ⊥) → IsPlannedFrom hash a k listed order
  plan_passed never = record {
    written = λ i low r. plan.written i (later i low r) r;
    each = plan.each;
    from = All-both (λ i. suc k ≤ i) (λ i. suc k ≤ i) (λ i. k ≤ i) order (λ i less _. omega (arith, less)) plan.from plan.from;
    falls = plan.falls;
    all = λ i low r. plan.all i (later i low r) r;
  }
    where
      later : (i : ℕ) → k ≤ i → IsReached a i → suc k ≤ i
      later i low r = go (here_or_later k i low)
        where
          go : (i ≡ k) ⊎ (suc k ≤ i) → suc k ≤ i
          go (inl is) = absurd (never (subst (IsReached a) is r))
          go (inr more) = more

  module _ (rows : List Entry) (w : IsWritten hash (view_at a k) rows) where
    abbrev now : ℕ → List Entry
    now = with_rows listed k rows

    later_same : (i : ℕ) → suc k ≤ i → now i ≡ listed i
    later_same i less = rows_other listed k rows i (λ e. omega (arith, e, less))

    written_now : (i : ℕ) → k ≤ i → IsReached a i → IsWritten hash (view_at a i) (now i)
    written_now i low r = go (here_or_later k i low)
      where
        go : (i ≡ k) ⊎ (suc k ≤ i) → IsWritten hash (view_at a i) (now i)
        go (inl is) = subst (λ j. IsWritten hash (view_at a j) (now j)) (sym is) (subst (IsWritten hash (view_at a k)) (sym (rows_here listed k rows)) w)
        go (inr more) = subst (IsWritten hash (view_at a i)) (sym (later_same i more)) (plan.written i more r)

    HasTree : (ℕ → List Entry) → ℕ → Type 0
    HasTree f i = IsReached a i × ((i ≡ 0) ⊎ (f i ≢ []))

    each_now : AllByRecursion (λ i. IsReached a i × ((i ≡ 0) ⊎ (now i ≢ []))) order
    each_now = All-both (λ i. IsReached a i × ((i ≡ 0) ⊎ (listed i ≢ []))) (λ i. suc k ≤ i) (λ i. IsReached a i × ((i ≡ 0) ⊎ (now i ≢ []))) order
        (λ i h less. (h.0, some i less h.1)) plan.each plan.from
      where
        some : (i : ℕ) → suc k ≤ i → (i ≡ 0) ⊎ (listed i ≢ []) → (i ≡ 0) ⊎ (now i ≢ [])
        some i less (inl is) = inl is
        some i less (inr more) = inr (λ none. more (sym (later_same i less) ∙ none))

    from_now : AllByRecursion (λ i. k ≤ i) order
    from_now = All-both (λ i. suc k ≤ i) (λ i. suc k ≤ i) (λ i. k ≤ i) order (λ i less _. omega (arith, less)) plan.from plan.from

    -- nothing is written of the directory at this place
    pub plan_empty : k ≢ 0 → rows ≡ [] → IsPlannedFrom hash a k now order
    plan_empty below none = record {
      written = written_now;
      each = each_now;
      from = from_now;
      falls = plan.falls;
      all = λ i low r. all i r (here_or_later k i low);
    }
      where
        all : (i : ℕ) → IsReached a i → (i ≡ k) ⊎ (suc k ≤ i) → Contains order i ⊎ ((i ≢ 0) × (now i ≡ []))
        all i r (inl is) = inr (λ e. below (sym is ∙ e), ap now is ∙ rows_here listed k rows ∙ none)
        all i r (inr more) = go (plan.all i more r)
          where
            go : Contains order i ⊎ ((i ≢ 0) × (listed i ≡ [])) → Contains order i ⊎ ((i ≢ 0) × (now i ≡ []))
            go (inl among) = inl among
            go (inr left) = inr (left.0, later_same i more ∙ left.1)

    -- the directory at this place has a tree
    pub plan_more : IsReached a k → (k ≡ 0) ⊎ (rows ≢ []) → IsPlannedFrom hash a k now (order ++ k ∷ [])
    plan_more reached tree = record {
      written = written_now;
      each = All-append (λ i. IsReached a i × ((i ≡ 0) ⊎ (now i ≢ []))) order (k ∷ []) each_now ((reached, own tree), tt);
      from = All-append (λ i. k ≤ i) order (k ∷ []) from_now (omega arith, tt);
      falls = falls_more k order plan.from plan.falls;
      all = λ i low r. all i r (here_or_later k i low);
    }
      where
        own : (k ≡ 0) ⊎ (rows ≢ []) → (k ≡ 0) ⊎ (now k ≢ [])
        own (inl root) = inl root
        own (inr some) = inr (λ none. some (sym (rows_here listed k rows) ∙ none))

        all : (i : ℕ) → IsReached a i → (i ≡ k) ⊎ (suc k ≤ i) → Contains (order ++ k ∷ []) i ⊎ ((i ≢ 0) × (now i ≡ []))
        all i r (inl is) = inl (Contains-append_right order (k ∷ []) i (subst (λ j. Contains (k ∷ []) j) (sym is) (in_first k [])))
        all i r (inr more) = go (plan.all i more r)
          where
            go : Contains order i ⊎ ((i ≢ 0) × (listed i ≡ [])) → Contains (order ++ k ∷ []) i ⊎ ((i ≢ 0) × (now i ≡ []))
            go (inl among) = inl (Contains-append_left order (k ∷ []) i among)
            go (inr left) = inr (left.0, later_same i more ∙ left.1)

    -- ---- what is planned of them

    pub trees_same : map (λ i. planned_with hash (listed i)) order ≡ map (λ i. planned_with hash (now i)) order
    trees_same = mapped_alike (λ i. suc k ≤ i) (λ i. planned_with hash (listed i)) (λ i. planned_with hash (now i)) order (λ i less. ap (planned_with hash) (sym (later_same i less))) plan.from

    pub entries_same : flat_map listed order ≡ flat_map now order
    entries_same = joined_alike (λ i. suc k ≤ i) listed now order (λ i less. sym (later_same i less)) plan.from

    pub trees_more : map (λ i. planned_with hash (listed i)) order ++ planned_with hash rows ∷ [] ≡ map (λ i. planned_with hash (now i)) (order ++ k ∷ [])
    trees_more =
        ap₂ (λ (xs ys : List PlannedTree). xs ++ ys) trees_same (ap (λ (es : List Entry). planned_with hash es ∷ []) (sym (rows_here listed k rows)))
        ∙ sym (map-append (λ i. planned_with hash (now i)) order (k ∷ []))

    pub entries_more : flat_map listed order ++ rows ≡ flat_map now (order ++ k ∷ [])
    entries_more =
        ap₂ (λ (xs ys : List Entry). xs ++ ys) entries_same (sym (rows_here listed k rows) ∙ sym (append-nil (now k)))
        ∙ sym (flat_map-append now order (k ∷ []))

-- ---- ids

pub ids_other : {X : Type 0} (xs : List X) (k i : ℕ) (x : X) → i ≢ k → slice_get (set xs k x) i ≡ slice_get xs i
ids_other [] k i x ne = refl
ids_other (y ∷ xs) zero zero x ne = absurd (ne refl)
ids_other (y ∷ xs) zero (suc i) x ne = refl
ids_other (y ∷ xs) (suc k) zero x ne = refl
ids_other (y ∷ xs) (suc k) (suc i) x ne = ids_other xs k i x (λ e. ne (ap suc e))

pub ids_here : {X : Type 0} (xs : List X) (k : ℕ) (x : X) → k < length xs → slice_get (set xs k x) k ≡ Some x
ids_here [] k x less = absurd (omega (arith, less))
ids_here (y ∷ xs) zero x less = refl
ids_here (y ∷ xs) (suc k) x less = ids_here xs k x (omega (arith, less))

module _ (hash : HashKind) (a : List Place) (k : ℕ) where
  -- the root does not lead to the directory at a place
  pub passes : (so_far : Planned) → IsPlanned hash a (suc k) so_far → (IsReached a k → ⊥) → IsPlanned hash a k so_far
  passes so_far p never = record {
    listed = p.listed;
    order = p.order;
    plan = plan_passed hash a k p.listed p.order p.plan never;
    trees = p.trees;
    entries = p.entries;
    len = p.len;
    done = λ i low r. p.done i (later i r (here_or_later k i low)) r;
  }
    where
      later : (i : ℕ) → IsReached a i → (i ≡ k) ⊎ (suc k ≤ i) → suc k ≤ i
      later i r (inl is) = absurd (never (subst (IsReached a) is r))
      later i r (inr more) = more

  -- the directory at a place is planned
  module _ (old mid new : Planned) (p : IsPlanned hash a (suc k) old) (within : k < length a) (below : k ≢ 0) (reached : IsReached a k) where
    ids : (rows : List Entry) → mid.done.items ≡ old.done.items → new.done.items ≡ set mid.done.items k (id_if hash rows)
        → (i : ℕ) → k ≤ i → IsReached a i → slice_get new.done.items i ≡ Some (id_if hash (with_rows p.listed k rows i))
    ids rows kept done i low r = ap (λ (l : List (Option ObjectId)). slice_get l i) (done ∙ ap (λ (l : List (Option ObjectId)). set l k (id_if hash rows)) kept) ∙ go (here_or_later k i low)
      where
        go : (i ≡ k) ⊎ (suc k ≤ i) → slice_get (set old.done.items k (id_if hash rows)) i ≡ Some (id_if hash (with_rows p.listed k rows i))
        go (inl is) =
            ap (slice_get (set old.done.items k (id_if hash rows))) is
            ∙ ids_here old.done.items k (id_if hash rows) (let len = p.len in omega (arith, len, within))
            ∙ ap (λ (es : List Entry). Some (id_if hash es)) (sym (ap (with_rows p.listed k rows) is ∙ rows_here p.listed k rows))
        go (inr more) =
            ids_other old.done.items k i (id_if hash rows) (λ e. omega (arith, e, more))
            ∙ p.done i more r
            ∙ ap (λ (es : List Entry). Some (id_if hash es)) (sym (rows_other p.listed k rows i (λ e. omega (arith, e, more))))

    len : (rows : List Entry) → mid.done.items ≡ old.done.items → new.done.items ≡ set mid.done.items k (id_if hash rows) → length new.done.items ≡ length a
    len rows kept done = ap (λ (l : List (Option ObjectId)). length l) done ∙ length-set mid.done.items k (id_if hash rows) ∙ ap (λ (l : List (Option ObjectId)). length l) kept ∙ p.len

    pub plans_next : (rows : List Entry) → IsWritten hash (view_at a k) rows → PlansRows hash rows old mid
        → new.trees.items ≡ mid.trees.items → new.entries.items ≡ mid.entries.items → new.done.items ≡ set mid.done.items k (id_if hash rows) → IsPlanned hash a k new
    plans_next [] w same trees entries done = record {
      listed = with_rows p.listed k [];
      order = p.order;
      plan = plan_empty hash a k p.listed p.order p.plan [] w below refl;
      trees = trees ∙ ap (λ (x : Planned). x.trees.items) same ∙ p.trees ∙ trees_same hash a k p.listed p.order p.plan [] w;
      entries = entries ∙ ap (λ (x : Planned). x.entries.items) same ∙ p.entries ∙ entries_same hash a k p.listed p.order p.plan [] w;
      len = len [] (ap (λ (x : Planned). x.done.items) same) done;
      done = ids [] (ap (λ (x : Planned). x.done.items) same) done;
    }
    plans_next (row ∷ rows) w more trees entries done = record {
      listed = with_rows p.listed k (row ∷ rows);
      order = p.order ++ k ∷ [];
      plan = plan_more hash a k p.listed p.order p.plan (row ∷ rows) w reached (inr (λ none. cc));
      trees = trees ∙ more.trees ∙ ap (λ (l : List PlannedTree). l ++ planned_with hash (row ∷ rows) ∷ []) p.trees ∙ trees_more hash a k p.listed p.order p.plan (row ∷ rows) w;
      entries = entries ∙ more.entries ∙ ap (λ (l : List Entry). l ++ row ∷ rows) p.entries ∙ entries_more hash a k p.listed p.order p.plan (row ∷ rows) w;
      len = len (row ∷ rows) more.done done;
      done = ids (row ∷ rows) more.done done;
    }

-- nothing is planned yet
pub none_planned : (hash : HashKind) (a : List Place) (k : ℕ) (new : Planned) → length a ≤ k → ((i : ℕ) → IsReached a i → i < length a) → new.trees.items ≡ [] → new.entries.items ≡ [] → length new.done.items ≡ length a → IsPlanned hash a k new
none_planned hash a k new past within trees entries len = record {
  listed = λ i. [];
  order = [];
  plan = record {
    written = λ i low r. absurd (no i low r);
    each = tt;
    from = tt;
    falls = tt;
    all = λ i low r. absurd (no i low r);
  };
  trees = trees;
  entries = entries;
  len = len;
  done = λ i low r. absurd (no i low r);
}
  where
    no : (i : ℕ) → k ≤ i → IsReached a i → ⊥
    no i low r = let less = within i r in omega (arith, less, low, past)

-- ---- the root

planned_own : (hash : HashKind) (listed : ℕ → List Entry) (order : List ℕ) → ArePlanned hash (map (λ i. planned_with hash (listed i)) order)
planned_own hash listed [] = tt
planned_own hash listed (i ∷ order) = (refl, planned_own hash listed order)

-- what is planned has its own ids
pub ids_own : (hash : HashKind) (a : List Place) (k : ℕ) (so_far : Planned) → IsPlanned hash a k so_far → ArePlanned hash so_far.trees.items
ids_own hash a k so_far p = subst (ArePlanned hash) (sym p.trees) (planned_own hash p.listed p.order)

objects_same : (hash : HashKind) (listed : ℕ → List Entry) (order : List ℕ) → objects_of (map (λ i. planned_with hash (listed i)) order) ≡ map tree_with (map listed order)
objects_same hash listed [] = refl
objects_same hash listed (i ∷ order) = ap (λ ts. tree_with (listed i) ∷ ts) (objects_same hash listed order)

joined_same : (listed : ℕ → List Entry) (order : List ℕ) → flat_map listed order ≡ flat_map (λ (es : List Entry). es) (map listed order)
joined_same listed [] = refl
joined_same listed (i ∷ order) = ap (λ es. listed i ++ es) (joined_same listed order)

pub root_planned : (hash : HashKind) (a : List Place) (links : AreLinked a) (so_far : Planned) (rows : List Entry) → IsRootPlanned hash a so_far rows → IsOutputOfView hash (view_at a 0) (output_with hash so_far rows)
root_planned hash a links so_far rows h =
    let p = h.below in
    let now : ℕ → List Entry = with_rows p.listed 0 rows in
    let order : List ℕ = p.order ++ 0 ∷ [] in
    is_output a links hash now order (plan_more hash a 0 p.listed p.order p.plan rows h.written ([], refl) (inl refl)) (output_with hash so_far rows) refl
    (ap (λ (l : List PlannedTree). objects_of (l ++ planned_with hash rows ∷ [])) p.trees ∙ ap objects_of (trees_more hash a 0 p.listed p.order p.plan rows h.written) ∙ objects_same hash now order)
    (ap (λ (l : List Entry). l ++ rows) p.entries ∙ entries_more hash a 0 p.listed p.order p.plan rows h.written ∙ joined_same now order)
    (ap (λ (es : List Entry). id_with hash es) (sym (rows_here p.listed 0 rows)))
