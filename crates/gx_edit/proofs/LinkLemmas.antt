-- Loaded directories stay linked as they are changed.
use Rattle.std.proofs.Common.{◌≡◌, ◌≢◌, ◌∙◌, ◌<◌, ◌≤◌, ◌+◌, ◌⊎◌, inl, inr, sym, ap, refl, subst, cond, List, [], ◌∷◌, ◌++◌, ℕ, zero, suc, Bool, true, false, true≢false, ◌==◌, eqb-true, Option, Some, None, option_map, length, length-append, arith, ltb-true, ltb-false}
use Rattle.std.proofs.lemmas.Bool.{eqb-false}
use Rattle.std.specs.Prelude.{slice_get, nat_lt}
use Rattle.std.specs.Str.{bytes_eq}
use Rattle.std.specs.FinMap.{get, insert}
use Rattle.gx_edit.specs.Nodes.{Place, Changes, name_at, inner_at, AreLinked, put, taken, linked}
use Rattle.gx_edit.specs.View.{leads}
use Rattle.gx_edit.specs.declared.editor.item.Item.{Item}
use Rattle.gx_edit.proofs.FinMapLemmas.{get_put, get_put_other, get_gone, get_gone_other}
use Rattle.gx_edit.proofs.PathLemmas.{bytes_eq-is, bytes_eq-of}

one : {X : Type 0} (a b : X) → ◌≡◌ {A = Option X} (Some a) (Some b) → a ≡ b
one a b e = cc

-- the change is made at one name, where no directory is loaded then
pub record LeavesNone (n : List ℕ) (change : Place → Place) : Type 0 where
  pub none : (p : Place) → get (change p).inner n ≡ None
  pub inner : (p : Place) (m : List ℕ) → m ≢ n → get (change p).inner m ≡ get p.inner m
  pub names : (p : Place) (m : List ℕ) → m ≢ n → get (change p).names m ≡ get p.names m

pub put_leaves : (n : List ℕ) (item : Item) → LeavesNone n (put n item)
put_leaves n item = record { none = λ p. get_gone p.inner n; inner = λ p m ne. get_gone_other p.inner m n ne; names = λ p m ne. get_put_other p.names m n item ne }

pub taken_leaves : (n : List ℕ) → LeavesNone n (taken n)
taken_leaves n = record { none = λ p. get_gone p.inner n; inner = λ p m ne. get_gone_other p.inner m n ne; names = λ p m ne. get_gone_other p.names m n ne }

-- what was loaded somewhere before a change
record WasLoaded (a : List Place) (k : ℕ) (n : List ℕ) (i : ℕ) (m : List ℕ) (j : ℕ) : Type 0 where
  before : inner_at (slice_get a i) m ≡ Some j
  apart : i ≡ k → m ≢ n

module _ (a b : List Place) (links : AreLinked a) (k : ℕ) (n : List ℕ) (change : Place → Place) (c : Changes a k change b) (l : LeavesNone n change) where
  was_loaded : (i : ℕ) (m : List ℕ) (j : ℕ) → inner_at (slice_get b i) m ≡ Some j → WasLoaded a k n i m j
  was_loaded i m j e = go (i == k) refl
    where
      here : i ≡ k → (o : Option Place) → slice_get a k ≡ o → inner_at (option_map change o) m ≡ Some j → WasLoaded a k n i m j
      here is None f g = cc
      here is (Some p) f g = at (bytes_eq m n) refl
        where
          at : (t : Bool) → bytes_eq m n ≡ t → WasLoaded a k n i m j
          at true h = absurd (let none : None ≡ Some j = sym (ap (get (change p).inner) (bytes_eq-is m n h) ∙ l.none p) ∙ g in cc)
          at false h =
              let ne : m ≢ n = (λ same. true≢false (sym (bytes_eq-of m n same) ∙ h)) in
              record { before = ap (λ x. inner_at (slice_get a x) m) is ∙ ap (λ (o : Option Place). inner_at o m) f ∙ sym (l.inner p m ne) ∙ g; apart = λ same. ne }

      go : (t : Bool) → (i == k) ≡ t → WasLoaded a k n i m j
      go true t =
          let is : i ≡ k = eqb-true i k t in
          here is (slice_get a k) refl (ap (λ (o : Option Place). inner_at o m) (sym c.here) ∙ ap (λ x. inner_at (slice_get b x) m) (sym is) ∙ e)
      go false t = record { before = ap (λ (o : Option Place). inner_at o m) (sym (c.others i (eqb-false i k t))) ∙ e; apart = λ is. absurd (eqb-false i k t is) }

  name_kept : (i : ℕ) (m : List ℕ) → (i ≡ k → m ≢ n) → name_at (slice_get b i) m ≡ name_at (slice_get a i) m
  name_kept i m apart = go (i == k) refl
    where
      here : m ≢ n → (o : Option Place) → name_at (option_map change o) m ≡ name_at o m
      here ne None = refl
      here ne (Some p) = l.names p m ne

      go : (t : Bool) → (i == k) ≡ t → name_at (slice_get b i) m ≡ name_at (slice_get a i) m
      go true t =
          let is : i ≡ k = eqb-true i k t in
          ap (λ x. name_at (slice_get b x) m) is ∙ ap (λ (o : Option Place). name_at o m) c.here ∙ here (apart is) (slice_get a k) ∙ ap (λ x. name_at (slice_get a x) m) (sym is)
      go false t = ap (λ (o : Option Place). name_at o m) (c.others i (eqb-false i k t))

  pub still_linked : AreLinked b
  still_linked = record {
    some = subst (λ x. 0 < x) (sym c.len) links.some;
    within = λ at inner m e. let w = was_loaded at m inner e in let h = links.within at inner m w.before in (h.0, subst (λ x. inner < x) (sym c.len) h.1);
    once = λ at other inner m o e f. links.once at other inner m o (was_loaded at m inner e).before (was_loaded other o inner f).before;
    trees = λ at inner m e. let w = was_loaded at m inner e in ap leads (name_kept at m w.apart) ∙ links.trees at inner m w.before;
  }

-- ---- one more directory is loaded

record IsLink (a : List Place) (k : ℕ) (n : List ℕ) (to : ℕ) (i : ℕ) (m : List ℕ) (j : ℕ) : Type 0 where
  place : i ≡ k
  name : m ≡ n
  is : j ≡ to

module _ (a b : List Place) (links : AreLinked a) (k to : ℕ) (n : List ℕ) (item : Item) (c : Changes a k (linked n to item) b) (tree : leads (Some item) ≡ true) (up : k < to) (within : to < length a)
    (free : (i : ℕ) (m : List ℕ) → inner_at (slice_get a i) m ≡ Some to → ⊥) where
  was_or_is : (i : ℕ) (m : List ℕ) (j : ℕ) → inner_at (slice_get b i) m ≡ Some j → IsLink a k n to i m j ⊎ WasLoaded a k n i m j
  was_or_is i m j e = go (i == k) refl
    where
      here : i ≡ k → (o : Option Place) → slice_get a k ≡ o → inner_at (option_map (linked n to item) o) m ≡ Some j → IsLink a k n to i m j ⊎ WasLoaded a k n i m j
      here is None f g = cc
      here is (Some p) f g = at (bytes_eq m n) refl
        where
          at : (t : Bool) → bytes_eq m n ≡ t → IsLink a k n to i m j ⊎ WasLoaded a k n i m j
          at true h =
              let same : m ≡ n = bytes_eq-is m n h in
              inl (record { place = is; name = same; is = one j to (sym g ∙ ap (get (insert p.inner n to)) same ∙ get_put p.inner n to) })
          at false h =
              let ne : m ≢ n = (λ same. true≢false (sym (bytes_eq-of m n same) ∙ h)) in
              inr (record { before = ap (λ x. inner_at (slice_get a x) m) is ∙ ap (λ (o : Option Place). inner_at o m) f ∙ sym (get_put_other p.inner m n to ne) ∙ g; apart = λ same. ne })

      go : (t : Bool) → (i == k) ≡ t → IsLink a k n to i m j ⊎ WasLoaded a k n i m j
      go true t =
          let is : i ≡ k = eqb-true i k t in
          here is (slice_get a k) refl (ap (λ (o : Option Place). inner_at o m) (sym c.here) ∙ ap (λ x. inner_at (slice_get b x) m) (sym is) ∙ e)
      go false t = inr (record { before = ap (λ (o : Option Place). inner_at o m) (sym (c.others i (eqb-false i k t))) ∙ e; apart = λ is. absurd (eqb-false i k t is) })

  names_kept : (p : Place) (m : List ℕ) → m ≢ n → get (linked n to item p).names m ≡ get p.names m
  names_kept p m ne = go (leads (get p.names n))
    where
      go : (t : Bool) → get (cond t p.names (insert p.names n item)) m ≡ get p.names m
      go true = refl
      go false = get_put_other p.names m n item ne

  name_same : (i : ℕ) (m : List ℕ) → (i ≡ k → m ≢ n) → name_at (slice_get b i) m ≡ name_at (slice_get a i) m
  name_same i m apart = go (i == k) refl
    where
      here : m ≢ n → (o : Option Place) → name_at (option_map (linked n to item) o) m ≡ name_at o m
      here ne None = refl
      here ne (Some p) = names_kept p m ne

      go : (t : Bool) → (i == k) ≡ t → name_at (slice_get b i) m ≡ name_at (slice_get a i) m
      go true t =
          let is : i ≡ k = eqb-true i k t in
          ap (λ x. name_at (slice_get b x) m) is ∙ ap (λ (o : Option Place). name_at o m) c.here ∙ here (apart is) (slice_get a k) ∙ ap (λ x. name_at (slice_get a x) m) (sym is)
      go false t = ap (λ (o : Option Place). name_at o m) (c.others i (eqb-false i k t))

  tree_there : (o : Option Place) (j : ℕ) → inner_at (option_map (linked n to item) o) n ≡ Some j → leads (name_at (option_map (linked n to item) o) n) ≡ true
  tree_there None j e = cc
  tree_there (Some p) j e = go (leads (get p.names n)) refl
    where
      go : (t : Bool) → leads (get p.names n) ≡ t → leads (get (cond t p.names (insert p.names n item)) n) ≡ true
      go true t = t
      go false t = ap leads (get_put p.names n item) ∙ tree

  pub now_linked : AreLinked b
  now_linked = record {
    some = subst (λ x. 0 < x) (sym c.len) links.some;
    within = λ at inner m e. within_all at inner m (was_or_is at m inner e);
    once = λ at other inner m o e f. once_all at other inner m o (was_or_is at m inner e) (was_or_is other o inner f);
    trees = λ at inner m e. trees_all at inner m e (was_or_is at m inner e);
  }
    where
      within_all : (at inner : ℕ) (m : List ℕ) → IsLink a k n to at m inner ⊎ WasLoaded a k n at m inner → (at < inner) × (inner < length b)
      within_all at inner m (inl x) = (let p = x.place in let q = x.is in omega (arith, p, q, up), (let q = x.is in let len = c.len in omega (arith, q, len, within)))
      within_all at inner m (inr w) = let h = links.within at inner m w.before in (h.0, subst (λ x. inner < x) (sym c.len) h.1)

      once_all : (at other inner : ℕ) (m o : List ℕ) → IsLink a k n to at m inner ⊎ WasLoaded a k n at m inner → IsLink a k n to other o inner ⊎ WasLoaded a k n other o inner → (at ≡ other) × (m ≡ o)
      once_all at other inner m o (inl x) (inl y) = (x.place ∙ sym y.place, x.name ∙ sym y.name)
      once_all at other inner m o (inl x) (inr w) = absurd (free other o (w.before ∙ ap Some x.is))
      once_all at other inner m o (inr w) (inl y) = absurd (free at m (w.before ∙ ap Some y.is))
      once_all at other inner m o (inr w) (inr v) = links.once at other inner m o w.before v.before

      trees_all : (at inner : ℕ) (m : List ℕ) → inner_at (slice_get b at) m ≡ Some inner → IsLink a k n to at m inner ⊎ WasLoaded a k n at m inner → leads (name_at (slice_get b at) m) ≡ true
      trees_all at inner m e (inl x) =
          let is : slice_get b at ≡ option_map (linked n to item) (slice_get a k) = ap (slice_get b) x.place ∙ c.here in
          ap (λ (o : Option Place). leads (name_at o m)) is ∙ ap (λ l. leads (name_at (option_map (linked n to item) (slice_get a k)) l)) x.name
          ∙ tree_there (slice_get a k) inner (ap (inner_at (option_map (linked n to item) (slice_get a k))) (sym x.name) ∙ ap (λ (o : Option Place). inner_at o m) (sym is) ∙ e)
      trees_all at inner m e (inr w) = ap leads (name_same at m w.apart) ∙ links.trees at inner m w.before

-- ---- a directory that comes to the end of the list

pub get_front : {X : Type 0} (xs ys : List X) (i : ℕ) → i < length xs → slice_get (xs ++ ys) i ≡ slice_get xs i
get_front [] ys i less = absurd (omega (arith, less))
get_front (x ∷ xs) ys zero less = refl
get_front (x ∷ xs) ys (suc i) less = get_front xs ys i (omega (arith, less))

pub get_end : {X : Type 0} (xs : List X) (x : X) (i : ℕ) → i ≡ length xs → slice_get (xs ++ x ∷ []) i ≡ Some x
get_end [] x zero is = refl
get_end [] x (suc i) is = absurd (omega (arith, is))
get_end (y ∷ xs) x zero is = absurd (omega (arith, is))
get_end (y ∷ xs) x (suc i) is = get_end xs x i (omega (arith, is))

pub get_past : {X : Type 0} (xs : List X) (x : X) (i : ℕ) → length xs < i → slice_get (xs ++ x ∷ []) i ≡ None
get_past [] x zero less = absurd (omega (arith, less))
get_past [] x (suc i) less = refl
get_past (y ∷ xs) x zero less = absurd (omega (arith, less))
get_past (y ∷ xs) x (suc i) less = get_past xs x i (omega (arith, less))

module _ (a : List Place) (links : AreLinked a) (p : Place) (none : (n : List ℕ) → get p.inner n ≡ None) where
  len_pushed : length (a ++ p ∷ []) ≡ length a + 1
  len_pushed = length-append a (p ∷ [])

  -- what is loaded in it was loaded before
  pub was_before : (i : ℕ) (m : List ℕ) (j : ℕ) → inner_at (slice_get (a ++ p ∷ []) i) m ≡ Some j → (i < length a) × (inner_at (slice_get a i) m ≡ Some j)
  was_before i m j e = go (nat_lt i (length a)) refl
    where
      past : (t : Bool) → (i == length a) ≡ t → length a ≤ i → ⊥
      past true t le =
          let here : inner_at (Some p) m ≡ Some j = ap (λ (o : Option Place). inner_at o m) (sym (get_end a p i (eqb-true i (length a) t))) ∙ e in
          let no : None ≡ Some j = sym (none m) ∙ here in
          cc
      past false t le =
          let ne = eqb-false i (length a) t in
          let no : None ≡ Some j = ap (λ (o : Option Place). inner_at o m) (sym (get_past a p i (more i (length a) le ne))) ∙ e in
          cc
        where
          more : (x y : ℕ) → y ≤ x → (x ≡ y → ⊥) → y < x
          more x y le ne = omega (arith, le, ne)

      go : (t : Bool) → nat_lt i (length a) ≡ t → (i < length a) × (inner_at (slice_get a i) m ≡ Some j)
      go true t = let less : i < length a = ltb-true i (length a) t in (less, ap (λ (o : Option Place). inner_at o m) (sym (get_front a (p ∷ []) i less)) ∙ e)
      go false t = absurd (past (i == length a) refl (ltb-false i (length a) t))

  pub pushed_linked : AreLinked (a ++ p ∷ [])
  pushed_linked = record {
    some = (let len = len_pushed in let some = links.some in omega (arith, len, some));
    within = λ at inner n e. let w = was_before at n inner e in let h = links.within at inner n w.1 in (h.0, (let len = len_pushed in let less = h.1 in omega (arith, len, less)));
    once = λ at other inner n m e f. links.once at other inner n m (was_before at n inner e).1 (was_before other m inner f).1;
    trees = λ at inner n e. let w = was_before at n inner e in ap (λ (o : Option Place). leads (name_at o n)) (get_front a (p ∷ []) at w.0) ∙ links.trees at inner n w.1;
  }
