-- What the functions that change loaded directories make of the view.
use Rattle.std.proofs.Common.{◌≡◌, ◌≢◌, ◌∙◌, ◌<◌, ◌≤◌, ◌+◌, sym, ap, ap₂, refl, cond, List, [], ◌∷◌, ◌++◌, ℕ, Bool, true, false, true≢false, Option, Some, None, is_some, IfSome, option_map, length, length-append, arith, ◌==◌, eqb-true}
use Rattle.std.specs.Prelude.{slice_get}
use Rattle.std.specs.Str.{bytes_eq}
use Rattle.std.specs.FinMap.{get}
use Rattle.std.proofs.lemmas.Bool.{eqb-false}
use Rattle.gx_hash.specs.declared.kind.HashKind.{HashKind}
use Rattle.gx_hash.specs.declared.oid.ObjectId.{ObjectId}
use Rattle.gx_store.specs.Content.{Content}
use Rattle.gx_store.specs.State.{StoreState}
use Rattle.gx_edit.specs.Path.{Path}
use Rattle.gx_edit.specs.Nodes.{Place, Changes, Opens, Descends, IsLoaded, name_at, inner_at, onward, walk, names_there, view_at, AreLinked, linked, view_in, with_in}
use Rattle.gx_edit.specs.View.{Names, View, IsLoad, WhereLoaded, only, below, with_below, with_root, forgotten, item_in, names_for, with_tree, new_tree, opened, opened_along}
use Rattle.gx_edit.proofs.FinMapLemmas.{get_put, get_put_other}
use Rattle.gx_edit.proofs.LinkLemmas.{LeavesNone, now_linked, pushed_linked, was_before, get_front, get_end}
use Rattle.gx_edit.proofs.NodeLemmas.{reaches_up, reaches_within, kept, kept_inner, changed, walk_kept, walk_more, there, place_at}
use Rattle.gx_edit.proofs.PathLemmas.{bytes_eq-is, bytes_eq-of}
use Rattle.gx_edit.proofs.ViewLemmas.{opened_deeper}

-- ---- what is loaded, where it is told

pub where_map : {P Q : (ObjectId → Names) → Type 0} (state : StoreState) → ((load : ObjectId → Names) → P load → Q load) → WhereLoaded state P → WhereLoaded state Q
where_map {P} {Q} state f h = go state.content h
  where
    go : (told : Option Content) → IfSome told (λ content. (load : ObjectId → Names) → IsLoad state.hash content load → P load) → IfSome told (λ content. (load : ObjectId → Names) → IsLoad state.hash content load → Q load)
    go None h = tt
    go (Some content) h = λ load is. f load (h load is)

pub where_both : {P Q R : (ObjectId → Names) → Type 0} (state : StoreState) → ((load : ObjectId → Names) → P load → Q load → R load) → WhereLoaded state P → WhereLoaded state Q → WhereLoaded state R
where_both {P} {Q} {R} state f h k = go state.content h k
  where
    go : (told : Option Content) → IfSome told (λ content. (load : ObjectId → Names) → IsLoad state.hash content load → P load) → IfSome told (λ content. (load : ObjectId → Names) → IsLoad state.hash content load → Q load)
        → IfSome told (λ content. (load : ObjectId → Names) → IsLoad state.hash content load → R load)
    go None h k = tt
    go (Some content) h k = λ load is. f load (h load is) (k load is)

pub where_all : {P : (ObjectId → Names) → Type 0} (state : StoreState) → ((load : ObjectId → Names) → P load) → WhereLoaded state P
where_all {P} state f = go state.content
  where
    go : (told : Option Content) → IfSome told (λ content. (load : ObjectId → Names) → IsLoad state.hash content load → P load)
    go None = tt
    go (Some content) = λ load is. f load

-- ---- a name is changed, and nothing loaded there any more

module _ (a b : List Place) (links : AreLinked a) (k : ℕ) (n : List ℕ) (change : Place → Place) (names : Names → Names) (c : Changes a k change b) (l : LeavesNone n change) (of_names : (p : Place) → (change p).names ≡ names p.names) (within : k < length a) where
  pub name_changed : view_at b k ≡ forgotten (with_root (view_at a k) names) n
  name_changed = λ i q. go q i
    where
      root : (o : Option Place) → option_map (λ (p : Place). p.names) (option_map change o) ≡ option_map names (option_map (λ (p : Place). p.names) o)
      root None = refl
      root (Some p) = ap Some (of_names p)

      gone : (o : Option Place) → inner_at (option_map change o) n ≡ None
      gone None = refl
      gone (Some p) = l.none p

      other : (o : Option Place) (m : List ℕ) → m ≢ n → inner_at (option_map change o) m ≡ inner_at o m
      other None m ne = refl
      other (Some p) m ne = l.inner p m ne

      go : (q : Path) → view_at b k q ≡ forgotten (with_root (view_at a k) names) n q
      go [] = ap (λ (o : Option Place). option_map (λ (p : Place). p.names) o) c.here ∙ root (slice_get a k)
      go (m ∷ q) = at (bytes_eq n m) refl
        where
          at : (t : Bool) → bytes_eq n m ≡ t → view_at b k (m ∷ q) ≡ cond t None (view_at a k (m ∷ q))
          at true e =
              ap (λ (x : List ℕ). names_there b (onward (λ inner. walk b inner q) (inner_at (slice_get b k) x))) (sym (bytes_eq-is n m e))
              ∙ ap (λ (o : Option Place). names_there b (onward (λ inner. walk b inner q) (inner_at o n))) c.here
              ∙ ap (λ (o : Option ℕ). names_there b (onward (λ inner. walk b inner q) o)) (gone (slice_get a k))
          at false e = kept_inner a links b k (λ i ne less. c.others i ne) m q within
              (ap (λ (o : Option Place). inner_at o m) c.here ∙ other (slice_get a k) m (λ same. true≢false (sym (bytes_eq-of n m (sym same)) ∙ e)))

-- ---- a directory is linked

module _ (a b : List Place) (links : AreLinked a) (k to : ℕ) (n : List ℕ) (hash : HashKind) (load : ObjectId → Names) (c : Changes a k (linked n to (new_tree hash)) b) (up : k < to) (within : to < length a) where
  pub link_made : view_at b k ≡ with_below (with_root (view_at a k) (with_tree hash load n)) n (view_at a to)
  link_made = λ i q. go q i
    where
      less : k < length a
      less = omega (arith, up, within)

      root : (o : Option Place) → option_map (λ (p : Place). p.names) (option_map (linked n to (new_tree hash)) o) ≡ option_map (with_tree hash load n) (option_map (λ (p : Place). p.names) o)
      root None = refl
      root (Some p) = refl

      there_now : (p : Place) → inner_at (option_map (linked n to (new_tree hash)) (Some p)) n ≡ Some to
      there_now p = get_put p.inner n to

      is_place : (p : Place) × (slice_get a k ≡ Some p)
      is_place = place_at a k less

      other : (o : Option Place) (m : List ℕ) → m ≢ n → inner_at (option_map (linked n to (new_tree hash)) o) m ≡ inner_at o m
      other None m ne = refl
      other (Some p) m ne = get_put_other p.inner m n to ne

      go : (q : Path) → view_at b k q ≡ with_below (with_root (view_at a k) (with_tree hash load n)) n (view_at a to) q
      go [] = ap (λ (o : Option Place). option_map (λ (p : Place). p.names) o) c.here ∙ root (slice_get a k)
      go (m ∷ q) = at (bytes_eq n m) refl
        where
          at : (t : Bool) → bytes_eq n m ≡ t → view_at b k (m ∷ q) ≡ cond t (view_at a to q) (view_at a k (m ∷ q))
          at true e =
              ap (λ (x : List ℕ). names_there b (onward (λ inner. walk b inner q) (inner_at (slice_get b k) x))) (sym (bytes_eq-is n m e))
              ∙ ap (λ (o : Option Place). names_there b (onward (λ inner. walk b inner q) (inner_at o n))) (c.here ∙ ap (option_map (linked n to (new_tree hash))) is_place.1)
              ∙ ap (λ (o : Option ℕ). names_there b (onward (λ inner. walk b inner q) o)) (there_now is_place.0)
              ∙ kept a links b k (λ i ne less. c.others i ne) to q (λ r. let back = reaches_up a links to k r in omega (arith, back, up)) within
          at false e = kept_inner a links b k (λ i ne less. c.others i ne) m q less
              (ap (λ (o : Option Place). inner_at o m) c.here ∙ other (slice_get a k) m (λ same. true≢false (sym (bytes_eq-of n m (sym same)) ∙ e)))

-- ---- a directory comes to the end of the list

module _ (a : List Place) (links : AreLinked a) (p : Place) (none : (n : List ℕ) → get p.inner n ≡ None) where
  pub old_views : (i : ℕ) → i < length a → view_at (a ++ p ∷ []) i ≡ view_at a i
  old_views i less = λ j q. kept a links (a ++ p ∷ []) (length a) (λ x ne within. get_front a (p ∷ []) x within) i q (λ r. let within = reaches_within a links i (length a) r less in omega (arith, within)) less j

  pub new_view : view_at (a ++ p ∷ []) (length a) ≡ only p.names
  new_view = λ j q. go q j
    where
      here : slice_get (a ++ p ∷ []) (length a) ≡ Some p
      here = get_end a p (length a) refl

      go : (q : Path) → view_at (a ++ p ∷ []) (length a) q ≡ only p.names q
      go [] = ap (λ (o : Option Place). option_map (λ (x : Place). x.names) o) here
      go (c ∷ q) = ap (λ (o : Option Place). names_there (a ++ p ∷ []) (onward (λ inner. walk (a ++ p ∷ []) inner q) (inner_at o c))) here
          ∙ ap (λ (o : Option ℕ). names_there (a ++ p ∷ []) (onward (λ inner. walk (a ++ p ∷ []) inner q) o)) (none c)

-- a directory that is not loaded in one, as the view from there has it
pub not_loaded : (a : List Place) (k : ℕ) (n : List ℕ) → inner_at (slice_get a k) n ≡ None → view_at a k (n ∷ []) ≡ None
not_loaded a k n e = ap (λ (o : Option ℕ). names_there a (onward (λ inner. walk a inner []) o)) e

pub opens_anew : (hash : HashKind) (load : ObjectId → Names) (v : View) (n : List ℕ) → v (n ∷ []) ≡ None → opened hash load v n ≡ with_below (with_root v (with_tree hash load n)) n (only (names_for hash load (item_in (v []) n)))
opens_anew hash load v n e = ap (λ (o : Option Names). cond (is_some o) v (with_below (with_root v (with_tree hash load n)) n (only (names_for hash load (item_in (v []) n))))) e

pub item_there : (a : List Place) (k : ℕ) (n : List ℕ) → item_in (view_at a k []) n ≡ name_at (slice_get a k) n
item_there a k n = go (slice_get a k)
  where
    go : (o : Option Place) → item_in (option_map (λ (p : Place). p.names) o) n ≡ name_at o n
    go None = refl
    go (Some p) = refl

-- ---- one directory more is loaded

module _ (state : StoreState) (a b : List Place) (links : AreLinked a) (k : ℕ) (n : List ℕ) (p : Place) (loaded : IsLoaded state (name_at (slice_get a k) n) p) (less : k < length a) (fresh : inner_at (slice_get a k) n ≡ None)
    (c : Changes (a ++ p ∷ []) k (linked n (length a) (new_tree state.hash)) b) where
  abbrev more : List Place
  more = a ++ p ∷ []

  more_links : AreLinked more
  more_links = pushed_linked a links p loaded.none_inside

  more_len : length more ≡ length a + 1
  more_len = length-append a (p ∷ [])

  unlinked : (i : ℕ) (m : List ℕ) → inner_at (slice_get more i) m ≡ Some (length a) → ⊥
  unlinked i m e =
      let w = was_before a links p loaded.none_inside i m (length a) e in
      let h = (links.within i (length a) m w.1).1 in
      omega (arith, h)

  last_less : length a < length more
  last_less = (let len = more_len in omega (arith, len))

  above_is : (load : ObjectId → Names) → p.names ≡ names_for state.hash load (name_at (slice_get a k) n) → view_at b k ≡ opened state.hash load (view_at a k) n
  above_is load is =
      link_made more b more_links k (length a) n state.hash load c less last_less
      ∙ ap₂ (λ (v w : View). with_below (with_root v (with_tree state.hash load n)) n w) (old_views a links p loaded.none_inside k less) (new_view a links p loaded.none_inside ∙ ap only (is ∙ ap (names_for state.hash load) (sym (item_there a k n))))
      ∙ sym (opens_anew state.hash load (view_at a k) n (not_loaded a k n fresh))

  inner_is : (load : ObjectId → Names) → p.names ≡ names_for state.hash load (name_at (slice_get a k) n) → view_at b (length a) ≡ below (opened state.hash load (view_at a k) n) n
  inner_is load is = λ j q. go q j
    where
      step : inner_at (slice_get b k) n ≡ Some (length a)
      step = let at = place_at more k (omega (arith, less, more_len)) in
          ap (λ (o : Option Place). inner_at o n) (c.here ∙ ap (option_map (linked n (length a) (new_tree state.hash))) at.1) ∙ get_put at.0.inner n (length a)

      go : (q : Path) → view_at b (length a) q ≡ below (opened state.hash load (view_at a k) n) n q
      go q = sym (ap (λ (o : Option ℕ). names_there b (onward (λ inner. walk b inner q) o)) step) ∙ ap (λ (v : View). v (n ∷ q)) (above_is load is)

  pub opens : Opens state a k n b (length a)
  opens = record {
    is_last = refl;
    len = c.len ∙ more_len;
    kept = λ i within ne. c.others i ne ∙ get_front a (p ∷ []) i within;
    step = (let at = place_at more k (omega (arith, less, more_len)) in ap (λ (o : Option Place). inner_at o n) (c.here ∙ ap (option_map (linked n (length a) (new_tree state.hash))) at.1) ∙ get_put at.0.inner n (length a));
    none_inside = λ m. ap (λ (o : Option Place). inner_at o m) (c.others (length a) (λ e. omega (arith, e, less)) ∙ get_end a p (length a) refl) ∙ loaded.none_inside m;
    links = now_linked more b more_links k (length a) n (new_tree state.hash) c refl less last_less unlinked;
    above = where_map state above_is loaded.names;
    inside = where_map state inner_is loaded.names;
  }

-- ---- directories that are loaded along a path

module _ (state : StoreState) where
  -- the way so far, from a place on
  pub record IsAlong (old : List Place) (from : ℕ) (now : List Place) (at : ℕ) (done : Path) : Type 0 where
    pub walked : walk now from done ≡ Some at
    pub within : at < length now
    pub from_within : from < length now
    pub len : length old ≤ length now
    pub kept : (i : ℕ) → i < length old → i ≢ from → slice_get now i ≡ slice_get old i
    pub links : AreLinked now
    pub none_inside : (n : List ℕ) → inner_at (slice_get now at) n ≡ None
    pub along : WhereLoaded state (λ load. view_at now from ≡ opened_along state.hash load (view_at old from) done)
    -- the last one is the first, or came since
    pub later : at ≢ from → length old ≤ at

  pub along_start : (a : List Place) (from : ℕ) → AreLinked a → from < length a → ((n : List ℕ) → inner_at (slice_get a from) n ≡ None) → IsAlong a from a from []
  along_start a from links less none = record { walked = refl; within = less; from_within = less; len = omega arith; kept = λ i within ne. refl; links = links; none_inside = none; along = where_all state (λ load. refl); later = λ ne. absurd (ne refl) }

  pub along_more : (old : List Place) (from : ℕ) (now next : List Place) (at inner : ℕ) (done : Path) (n : List ℕ) → from < length old → IsAlong old from now at done → Opens state now at n next inner → IsAlong old from next inner (done ++ n ∷ [])
  along_more old from now next at inner done n small s o = record {
    walked = walk_more next from done at inner n (walk_kept now s.links next at others from done s.from_within s.walked) o.step;
    within = (let is = o.is_last in let len = o.len in omega (arith, is, len));
    from_within = (let len = o.len in let w = s.from_within in omega (arith, len, w));
    len = (let a = s.len in let b = o.len in omega (arith, a, b));
    kept = λ i less ne. o.kept i (let a = s.len in omega (arith, a, less)) (past i less ne) ∙ s.kept i less ne;
    links = o.links;
    none_inside = o.none_inside;
    along = where_both state step s.along o.above;
    later = λ ne. (let a = s.len in let is = o.is_last in omega (arith, a, is));
  }
    where
      others : (i : ℕ) → i ≢ at → i < length now → slice_get next i ≡ slice_get now i
      others i ne less = o.kept i less ne

      past : (i : ℕ) → i < length old → i ≢ from → i ≢ at
      past i less ne is = go (at == from) refl
        where
          go : (t : Bool) → (at == from) ≡ t → ⊥
          go true t = ne (is ∙ eqb-true at from t)
          go false t = let far = s.later (eqb-false at from t) in omega (arith, far, less, is)

      step : (load : ObjectId → Names) → view_at now from ≡ opened_along state.hash load (view_at old from) done → view_at next at ≡ opened state.hash load (view_at now at) n → view_at next from ≡ opened_along state.hash load (view_at old from) (done ++ n ∷ [])
      step load so_far above =
          (λ j q. changed now s.links next at others from done s.from_within s.walked q j)
          ∙ ap₂ (λ (v w : View). with_in v done w) so_far (above ∙ ap (λ (v : View). opened state.hash load v n) (sym (there now s.links from done at s.walked) ∙ ap (λ (v : View). view_in v done) so_far))
          ∙ sym (opened_deeper state.hash load (view_at old from) done n)

  abbrev pub along_done : (old : List Place) (from : ℕ) (now : List Place) (at : ℕ) (done path : Path) (end : List ℕ) → path ≡ done ++ end ∷ [] → IsAlong old from now at done → Descends state old from path now at end
  along_done old from now at done path end split s = record { front = done; split = split; walked = s.walked; within = s.within; len = s.len; kept = s.kept; links = s.links; along = s.along; later = s.later }
