-- The directories that the root leads to are marked.
use Rattle.std.proofs.Common.{◌≡◌, ◌∙◌, ◌<◌, ◌≤◌, ◌⊎◌, inl, inr, sym, ap, refl, subst, cond, List, [], ◌∷◌, ◌++◌, ℕ, suc, Bool, true, false, true≢false, eqb, eqb-true, eq-eqb, Option, Some, None, length, take, drop, set, get_or, replicate, arith, length-set}
use Rattle.std.specs.Prelude.{slice_get, All}
use Rattle.std.proofs.lemmas.List.{append-nil, get_or-replicate, length-replicate}
use Rattle.std.proofs.Math.Seq.{take-append_seam}
use Rattle.std.proofs.lemmas.Option.{slice_get_cases, slice_get_read}
use Rattle.std.specs.Vec.{with_items}
use Rattle.std.specs.Global.{Vec}
use Rattle.std.specs.FinMap.{FinMap, get, from_entries}
use Rattle.std.specs.List.{AllByRecursion}
use Rattle.std.specs.Map.{lookup}
use Rattle.gx_rules.specs.Name.{name_cmp}
use Rattle.gx_edit.specs.EditorPlan.{IsReached, AreWithin, Marks, TellsReached}
use Rattle.gx_edit.specs.Nodes.{Place, AreLinked, keyed, inner_at}
use Rattle.gx_edit.proofs.EditorPlanned.{AreMarked, marked_all}
use Rattle.gx_edit.proofs.EditorSteps.{here_or_later, ids_here, ids_other}
use Rattle.gx_edit.proofs.EntryOrder.{All-append}
use Rattle.gx_edit.proofs.FinMapLemmas.{at_key, get_keyed}
use Rattle.gx_edit.proofs.NodeLemmas.{walk_more}

-- ---- the directories in one

at_end : {A : Type 0} (P : A → Type 0) (front rest : List A) (x : A) → All P (front ++ x ∷ rest) → P x
at_end P [] rest x all = all 0 x (omega arith)
at_end P (y ∷ front) rest x all = at_end P front rest x (λ k d less. all (suc k) d (omega (arith, less)))

module _ (es : List (Vec ℕ × ℕ)) where
  abbrev inner : FinMap name_cmp ℕ
  inner = from_entries (keyed es)

  -- so far the places of the first of them are marked
  pub record MarkedSoFar (old new : List Bool) (rest : List (Vec ℕ × ℕ)) : Type 0 where
    pub front : List (Vec ℕ × ℕ)
    pub split : es ≡ front ++ rest
    pub len : length new ≡ length old
    pub kept : (i : ℕ) → slice_get old i ≡ Some true → slice_get new i ≡ Some true
    pub marked : AllByRecursion (λ (e : Vec ℕ × ℕ). slice_get new e.1 ≡ Some true) front
    pub sound : (i : ℕ) → slice_get new i ≡ Some true → (slice_get old i ≡ Some true) ⊎ ((n : List ℕ) × (get (from_entries {R = name_cmp} (keyed es)) n ≡ Some i))

  pub none_marked : (old : List Bool) → MarkedSoFar old old es
  none_marked old = record { front = []; split = refl; len = refl; kept = λ i is. is; marked = tt; sound = λ i is. inl is }

  module _ (found : All (λ (e : Vec ℕ × ℕ). lookup (at_key e.0.items) es ≡ Some e.1) es) where
    -- the place of the next of them
    pub next_found : (old new : List Bool) (e : Vec ℕ × ℕ) (rest : List (Vec ℕ × ℕ)) → MarkedSoFar old new (e ∷ rest) → get (from_entries {R = name_cmp} (keyed es)) e.0.items ≡ Some e.1
    next_found old new e rest m = get_keyed e.0.items es ∙ at_end (λ (x : Vec ℕ × ℕ). lookup (at_key x.0.items) es ≡ Some x.1) m.front rest e (subst (All (λ (x : Vec ℕ × ℕ). lookup (at_key x.0.items) es ≡ Some x.1)) m.split found)

    pub next_within : (old new : List Bool) (e : Vec ℕ × ℕ) (rest : List (Vec ℕ × ℕ)) → AreWithin (from_entries (keyed es)) (length old) → MarkedSoFar old new (e ∷ rest) → e.1 < length new
    next_within old new e rest within m = let less = within e.0.items e.1 (next_found old new e rest m) in let len = m.len in omega (arith, less, len)

    still : (new : List Bool) (at i : ℕ) → at < length new → slice_get new i ≡ Some true → slice_get (set new at true) i ≡ Some true
    still new at i less is = go (eqb i at) refl
      where
        go : (t : Bool) → eqb i at ≡ t → slice_get (set new at true) i ≡ Some true
        go true e = ap (slice_get (set new at true)) (eqb-true i at e) ∙ ids_here new at true less
        go false e = ids_other new at i true (λ same. true≢false (sym (eq-eqb i at same) ∙ e)) ∙ is

    all_still : (new : List Bool) (at : ℕ) → at < length new → (xs : List (Vec ℕ × ℕ)) → AllByRecursion (λ (e : Vec ℕ × ℕ). slice_get new e.1 ≡ Some true) xs → AllByRecursion (λ (e : Vec ℕ × ℕ). slice_get (set new at true) e.1 ≡ Some true) xs
    all_still new at less [] all = tt
    all_still new at less (x ∷ xs) all = (still new at x.1 less all.0, all_still new at less xs all.1)

    pub one_marked : (old new : List Bool) (e : Vec ℕ × ℕ) (rest : List (Vec ℕ × ℕ)) → AreWithin (from_entries (keyed es)) (length old) → MarkedSoFar old new (e ∷ rest) → MarkedSoFar old (set new e.1 true) rest
    one_marked old new e rest within m = record {
      front = m.front ++ e ∷ [];
      split = m.split ∙ shifted m.front e rest;
      len = length-set new e.1 true ∙ m.len;
      kept = λ i is. still new e.1 i less (m.kept i is);
      marked = All-append (λ (x : Vec ℕ × ℕ). slice_get (set new e.1 true) x.1 ≡ Some true) m.front (e ∷ []) (all_still new e.1 less m.front m.marked) (ids_here new e.1 true less, tt);
      sound = λ i is. sound i is (eqb i e.1) refl;
    }
      where
        shifted : {A : Type 0} (xs : List A) (x : A) (ys : List A) → xs ++ x ∷ ys ≡ (xs ++ x ∷ []) ++ ys
        shifted [] x ys = refl
        shifted (y ∷ xs) x ys = ap (λ l. y ∷ l) (shifted xs x ys)

        less : e.1 < length new
        less = next_within old new e rest within m

        sound : (i : ℕ) → slice_get (set new e.1 true) i ≡ Some true → (t : Bool) → eqb i e.1 ≡ t → (slice_get old i ≡ Some true) ⊎ ((n : List ℕ) × (get (from_entries {R = name_cmp} (keyed es)) n ≡ Some i))
        sound i is true same = inr (e.0.items, next_found old new e rest m ∙ ap Some (sym (eqb-true i e.1 same)))
        sound i is false apart = m.sound i (sym (ids_other new e.1 i true (λ same. true≢false (sym (eq-eqb i e.1 same) ∙ apart))) ∙ is)

  -- what is found is one of them
  among : (q : List ℕ) (i : ℕ) (P : ℕ → Type 0) (xs : List (Vec ℕ × ℕ)) → AllByRecursion (λ (e : Vec ℕ × ℕ). P e.1) xs → lookup (at_key q) xs ≡ Some i → P i
  among q i P [] all is = cc
  among q i P (x ∷ xs) all is = go (at_key q x.0) refl is (among q i P xs all.1)
    where
      go : (t : Bool) → at_key q x.0 ≡ t → cond t (Some x.1) (lookup (at_key q) xs) ≡ Some i → (lookup (at_key q) xs ≡ Some i → P i) → P i
      go true t is more = subst P (let one : x.1 ≡ i = cc in one) all.0
      go false t is more = more is

  pub all_marked : (old new : List Bool) → MarkedSoFar old new [] → Marks (from_entries (keyed es)) old new
  all_marked old new m = record {
    len = m.len;
    kept = m.kept;
    marked = λ n i is. among n i (λ j. slice_get new j ≡ Some true) es (subst (AllByRecursion (λ (e : Vec ℕ × ℕ). slice_get new e.1 ≡ Some true)) (sym (m.split ∙ append-nil m.front)) m.marked) (sym (get_keyed n es) ∙ is);
    sound = m.sound;
  }

-- ---- one directory after another

-- a list that is written over whole
pub items_same : (v : Vec Bool) (ws : List Bool) → length ws ≡ length v.items → (with_items v ws).items ≡ ws
items_same v ws same =
    ap (λ n. take n (ws ++ drop (length ws) v.items)) (let own = v.ok.0 in omega (arith, own, same)) ∙ take-append_seam ws (drop (length ws) v.items)

pub told_mark : (marks : List Bool) (at : ℕ) (x t : Bool) → at < length marks → x ≡ get_or marks at x → x ≡ t → slice_get marks at ≡ Some t
told_mark marks at x t less is same = slice_get_read marks (length marks) at x refl less is ∙ ap Some same

none_true : (n i : ℕ) → slice_get (replicate n false) i ≡ Some true → ⊥
none_true n i is = go (slice_get_cases (replicate n false) i).1
  where
    go : ((x : Bool) × (i < length (replicate n false)) × (slice_get (replicate n false) i ≡ Some x) × (get_or (replicate n false) i x ≡ x)) ⊎ ((length (replicate n false) ≤ i) × (slice_get (replicate n false) i ≡ None)) → ⊥
    go (inl h) =
        let less = h.1 in
        let len = length-replicate n false in
        let no : Some false ≡ Some true = ap Some (sym (get_or-replicate n i false h.0 (omega (arith, less, len))) ∙ h.3) ∙ sym h.2 ∙ is in
        true≢false (sym (the_one false true no))
      where
        the_one : (a b : Bool) → ◌≡◌ {A = Option Bool} (Some a) (Some b) → a ≡ b
        the_one a b e = cc
    go (inr h) = let no : None ≡ Some true = sym h.1 ∙ is in cc

module _ (a : List Place) (links : AreLinked a) where
  -- the root alone is marked
  pub root_marked : (marks : List Bool) → marks ≡ set (replicate (length a) false) 0 true → AreMarked a 0 marks
  root_marked marks is = record {
    len = ap (λ (l : List Bool). length l) is ∙ length-set (replicate (length a) false) 0 true ∙ length-replicate (length a) false;
    root = ap (λ (l : List Bool). slice_get l 0) is ∙ ids_here (replicate (length a) false) 0 true (let len = length-replicate (length a) false in let some = links.some in omega (arith, len, some));
    sound = λ i h. sound i (eqb i 0) refl (sym (ap (λ (l : List Bool). slice_get l i) is) ∙ h);
    inner = λ i j n less. absurd (omega (arith, less));
  }
    where
      sound : (i : ℕ) (t : Bool) → eqb i 0 ≡ t → slice_get (set (replicate (length a) false) 0 true) i ≡ Some true → IsReached a i
      sound i true same h = ([], ap Some (sym (eqb-true i 0 same)))
      sound i false apart h = absurd (none_true (length a) i (sym (ids_other (replicate (length a) false) 0 i true (λ same. true≢false (sym (eq-eqb i 0 same) ∙ apart))) ∙ h))

  pub inner_within : (k : ℕ) (p : Place) (marks : List Bool) → slice_get a k ≡ Some p → length marks ≡ length a → AreWithin p.inner (length marks)
  inner_within k p marks seen len n i is = let less = (links.within k i n (ap (λ (o : Option Place). inner_at o n) seen ∙ is)).1 in omega (arith, less, len)

  module _ (k : ℕ) (p : Place) (seen : slice_get a k ≡ Some p) (old : List Bool) (m : AreMarked a k old) where
    before : (i : ℕ) → i < suc k → (i < k) ⊎ (i ≡ k)
    before i less = go (here_or_later i k (omega (arith, less)))
      where
        go : (k ≡ i) ⊎ (suc i ≤ k) → (i < k) ⊎ (i ≡ k)
        go (inl is) = inr (sym is)
        go (inr more) = inl (omega (arith, more))

    -- a marked directory marks those that are loaded in it
    pub marks_more : (new : List Bool) → slice_get old k ≡ Some true → Marks p.inner old new → AreMarked a (suc k) new
    marks_more new here marks = record {
      len = marks.len ∙ m.len;
      root = marks.kept 0 m.root;
      sound = λ i is. sound i (marks.sound i is);
      inner = λ i j n less is step. inner i j n (before i less) is step;
    }
      where
        place : (i : ℕ) (n : List ℕ) → get p.inner n ≡ Some i → inner_at (slice_get a k) n ≡ Some i
        place i n e = ap (λ (o : Option Place). inner_at o n) seen ∙ e

        sound : (i : ℕ) → (slice_get old i ≡ Some true) ⊎ ((n : List ℕ) × (get p.inner n ≡ Some i)) → IsReached a i
        sound i (inl is) = m.sound i is
        sound i (inr h) = let r = m.sound k here in (r.0 ++ h.0 ∷ [], walk_more a 0 r.0 k i h.0 r.1 (place i h.0 h.1))

        inner : (i j : ℕ) (n : List ℕ) → (i < k) ⊎ (i ≡ k) → slice_get new i ≡ Some true → inner_at (slice_get a i) n ≡ Some j → slice_get new j ≡ Some true
        inner i j n (inl less) is step = marks.kept j (was (marks.sound i is))
          where
            was : (slice_get old i ≡ Some true) ⊎ ((n : List ℕ) × (get p.inner n ≡ Some i)) → slice_get old j ≡ Some true
            was (inl before) = m.inner i j n less before step
            was (inr h) = absurd (let up = (links.within k i h.0 (place i h.0 h.1)).0 in omega (arith, less, up))
        inner i j n (inr same) is step = marks.marked n j (sym (ap (λ (o : Option Place). inner_at o n) seen) ∙ ap (λ x. inner_at (slice_get a x) n) (sym same) ∙ step)

    -- one that is not marked marks none
    pub marks_none : slice_get old k ≡ Some false → AreMarked a (suc k) old
    marks_none here = record {
      len = m.len;
      root = m.root;
      sound = m.sound;
      inner = λ i j n less is step. inner i j n (before i less) is step;
    }
      where
        inner : (i j : ℕ) (n : List ℕ) → (i < k) ⊎ (i ≡ k) → slice_get old i ≡ Some true → inner_at (slice_get a i) n ≡ Some j → slice_get old j ≡ Some true
        inner i j n (inl less) is step = m.inner i j n less is step
        inner i j n (inr same) is step = absurd (let no : Some false ≡ Some true = sym here ∙ ap (slice_get old) (sym same) ∙ is in cc)

  pub tells_reached : (marks : List Bool) → AreMarked a (length a) marks → TellsReached a marks
  tells_reached marks m = record {
    len = m.len;
    sound = m.sound;
    all = λ i r. marked_all a links marks m 0 r.0 i links.some m.root r.1;
  }
