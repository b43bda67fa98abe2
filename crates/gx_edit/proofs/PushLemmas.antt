-- Directories that are loaded to the end of the list, and what is kept before them.
use Rattle.std.proofs.Common.{◌≡◌, ◌∙◌, ◌<◌, ◌≤◌, ◌+◌, sym, ap, ap₂, refl, subst, List, [], ◌∷◌, ◌++◌, ℕ, zero, suc, Option, Some, None, length, length-append, take, arith}
use Rattle.std.specs.Prelude.{slice_get}
use Rattle.std.proofs.lemmas.List.{length-map, map-append, take-map}
use Rattle.std.specs.Global.{Vec}
use Rattle.std.specs.Prelude.{vec_len}
use Rattle.gx_hash.specs.declared.oid.ObjectId.{ObjectId}
use Rattle.gx_store.specs.State.{StoreState}
use Rattle.gx_edit.specs.Nodes.{Place, place_of, places_of, Changes, Keeps, KeepsOthers, Makes, Pushes, Opens, IsLoaded, name_at, inner_at, view_at, AreLinked, linked}
use Rattle.gx_edit.specs.View.{Names, View, only, with_below, with_root, with_tree, new_tree, item_in, names_for}
use Rattle.gx_edit.specs.declared.editor.item.Item.{Item}
use Rattle.gx_edit.specs.declared.editor.nodes.Node.{Node}
use Rattle.gx_edit.proofs.LinkLemmas.{now_linked, get_front, get_end, pushed_linked}
use Rattle.gx_edit.proofs.NodeLemmas.{reaches_within, kept}
use Rattle.gx_edit.proofs.OpeningLemmas.{where_both, link_made, new_view, opens, item_there}

pub places_len : (nodes : Vec Node) → length (places_of nodes.items) ≡ vec_len nodes
places_len nodes = length-map nodes.items place_of ∙ sym nodes.ok.0

pub within_places : (nodes : Vec Node) (i : ℕ) → i < vec_len nodes → i < length (places_of nodes.items)
within_places nodes i less = (let len = places_len nodes in omega (arith, len, less))

pub within_nodes : (nodes : Vec Node) (i : ℕ) → i < length (places_of nodes.items) → i < vec_len nodes
within_nodes nodes i less = (let len = places_len nodes in omega (arith, len, less))

-- ---- what is kept

pub keeps_same : (a b : List Place) → b ≡ a → Keeps a b
keeps_same a b e = record { len = omega (arith, ap length e); same = λ i less. ap (λ (x : List Place). slice_get x i) e }

pub keeps_more : (a b : List Place) (p : Place) → b ≡ a ++ p ∷ [] → Keeps a b
keeps_more a b p e = record {
  len = omega (arith, ap length e, length-append a (p ∷ []));
  same = λ i less. ap (λ (x : List Place). slice_get x i) e ∙ get_front a (p ∷ []) i less;
}

pub keeps_then : (a b c : List Place) → Keeps a b → c ≡ b → Keeps a c
keeps_then a b c k e = record { len = omega (arith, ap length e, k.len); same = λ i less. ap (λ (x : List Place). slice_get x i) e ∙ k.same i less }

-- what a call keeps that changes the last one alone
pub keeps_front : (a b c : List Place) (p : Place) → b ≡ a ++ p ∷ [] → KeepsOthers b (length a) c → Keeps a c
keeps_front a b c p e k =
    let more : length b ≡ length a + 1 = ap length e ∙ length-append a (p ∷ []) in
    record {
      len = omega (arith, more, k.len);
      same = λ i less. k.kept i (omega (arith, more, less)) (λ is. omega (arith, is, less)) ∙ ap (λ (x : List Place). slice_get x i) e ∙ get_front a (p ∷ []) i less;
    }

pub others_same : (a b : List Place) (at : ℕ) → b ≡ a → KeepsOthers a at b
others_same a b at e = record { len = omega (arith, ap length e); kept = λ i less ne. ap (λ (x : List Place). slice_get x i) e }

pub others_then : (a b c : List Place) (at : ℕ) → KeepsOthers a at b → c ≡ b → KeepsOthers a at c
others_then a b c at k e = record { len = omega (arith, ap length e, k.len); kept = λ i less ne. ap (λ (x : List Place). slice_get x i) e ∙ k.kept i less ne }

one : (a b : Place) → ◌≡◌ {A = Option Place} (Some a) (Some b) → a ≡ b
one a b e = cc

same_lists : (xs ys : List Place) → length xs ≤ length ys → ((i : ℕ) → i < length xs → slice_get ys i ≡ slice_get xs i) → take (length xs) ys ≡ xs
same_lists [] ys le same = refl
same_lists (x ∷ xs) [] le same = absurd (omega (arith, le))
same_lists (x ∷ xs) (y ∷ ys) le same = ap₂ (λ (h : Place) (t : List Place). h ∷ t) (one y x (same zero (omega arith))) (same_lists xs ys (omega (arith, le)) (λ i less. same (suc i) (omega (arith, less))))

pub cut_back : (a b : List Place) → Keeps a b → take (length a) b ≡ a
cut_back a b k = same_lists a b k.len k.same

pub truncated : (nodes after : Vec Node) (cut : List Node) (len : ℕ) → len ≡ vec_len nodes → cut ≡ take len after.items → Keeps (places_of nodes.items) (places_of after.items) → places_of cut ≡ places_of nodes.items
truncated nodes after cut len is e k =
    ap places_of e ∙ sym (take-map place_of len after.items)
    ∙ ap (λ (n : ℕ). take n (places_of after.items)) (is ∙ sym (places_len nodes))
    ∙ cut_back (places_of nodes.items) (places_of after.items) k

-- ---- a directory that is loaded to the end

pub pushed : (state : StoreState) (nodes : Vec Node) (new : List Node) (item there : Option Item) (node : Node) (inner : ℕ) → new ≡ nodes.items ++ node ∷ [] → inner ≡ vec_len nodes → item ≡ there → IsLoaded state item (place_of node) → Pushes state (places_of nodes.items) there (places_of new) inner
pushed state nodes new item there node inner e last is loaded = record {
  place = place_of node;
  loaded = subst (λ (o : Option Item). IsLoaded state o (place_of node)) is loaded;
  is_last = last ∙ sym (places_len nodes);
  is_more = ap places_of e ∙ map-append place_of nodes.items (node ∷ []);
}

module _ (state : StoreState) (a a2 : List Place) (item : Option Item) (inner : ℕ) (u : Pushes state a item a2 inner) where
  pub pushed_same : (i : ℕ) → i < length a → slice_get a2 i ≡ slice_get a i
  pushed_same i less = ap (λ (x : List Place). slice_get x i) u.is_more ∙ get_front a (u.place ∷ []) i less

  pub pushed_within : (i : ℕ) → i < length a → i < length a2
  pushed_within i less = (let e = ap length u.is_more in let f = length-append a (u.place ∷ []) in omega (arith, e, f, less))

  pub inner_within : inner < length a2
  inner_within = (let e = ap length u.is_more in let f = length-append a (u.place ∷ []) in let g = u.is_last in omega (arith, e, f, g))

  pub pushed_fresh : (i : ℕ) (n : List ℕ) → i < length a → inner_at (slice_get a i) n ≡ None → inner_at (slice_get a2 i) n ≡ None
  pushed_fresh i n less none = ap (λ (o : Option Place). inner_at o n) (pushed_same i less) ∙ none

  pub inner_fresh : (n : List ℕ) → inner_at (slice_get a2 inner) n ≡ None
  inner_fresh n =
      ap (λ (x : List Place). inner_at (slice_get x inner) n) u.is_more
      ∙ ap (λ (o : Option Place). inner_at o n) (get_end a u.place inner u.is_last)
      ∙ u.loaded.none_inside n

  pub pushed_links : AreLinked a → AreLinked a2
  pushed_links links = subst AreLinked (sym u.is_more) (pushed_linked a links u.place u.loaded.none_inside)

  -- what a call keeps that changes the last one alone
  pub pushed_keeps : (b : List Place) → KeepsOthers a2 inner b → Keeps a b
  pushed_keeps b k = keeps_front a a2 b u.place u.is_more (subst (λ (x : ℕ). KeepsOthers a2 x b) u.is_last k)

  pub pushed_keeps_same : (b : List Place) → b ≡ a2 → Keeps a b
  pushed_keeps_same b e = keeps_more a b u.place (e ∙ u.is_more)

-- what stays of the first directories once the last one is edited
module _ (state : StoreState) (a a2 a3 : List Place) (item : Option Item) (inner : ℕ) (wanted : (ObjectId → Names) → View) (u : Pushes state a item a2 inner) (m : Makes state a2 inner wanted a3) where
  pub makes_within : (i : ℕ) → i < length a → i < length a3
  makes_within i less = (let w = pushed_within state a a2 item inner u i less in let x = m.len in omega (arith, w, x))

  made_same : (i : ℕ) → i < length a → slice_get a3 i ≡ slice_get a i
  made_same i less = m.kept i (pushed_within state a a2 item inner u i less) (λ e. let x = u.is_last in omega (arith, e, x, less)) ∙ pushed_same state a a2 item inner u i less

  pub makes_fresh : (i : ℕ) (n : List ℕ) → i < length a → inner_at (slice_get a i) n ≡ None → inner_at (slice_get a3 i) n ≡ None
  makes_fresh i n less none = ap (λ (o : Option Place). inner_at o n) (made_same i less) ∙ none

  pub makes_keeps : (b : List Place) → b ≡ a3 → Keeps a b
  makes_keeps b e = keeps_then a a3 b (record { len = (let x = ap length u.is_more in let y = length-append a (u.place ∷ []) in let z = m.len in omega (arith, x, y, z)); same = made_same }) e

-- one directory more is loaded
pub opens_pushed : (state : StoreState) (a a2 b : List Place) (links : AreLinked a) (k : ℕ) (n : List ℕ) (inner : ℕ) (less : k < length a) (fresh : inner_at (slice_get a k) n ≡ None) → Pushes state a (name_at (slice_get a k) n) a2 inner → Changes a2 k (linked n inner (new_tree state.hash)) b → Opens state a k n b inner
opens_pushed state a a2 b links k n inner less fresh u c =
    subst (λ (x : ℕ). Opens state a k n b x) (sym u.is_last)
    (opens state a b links k n u.place u.loaded less fresh
    (subst (λ (x : List Place). Changes x k (linked n (length a) (new_tree state.hash)) b) u.is_more (subst (λ (x : ℕ). Changes a2 k (linked n x (new_tree state.hash)) b) u.is_last c)))

-- ---- a directory is linked once the edit below it is made

module _ (state : StoreState) (a a3 b : List Place) (links : AreLinked a) (k : ℕ) (n : List ℕ) (p : Place) (loaded : IsLoaded state (name_at (slice_get a k) n) p) (less : k < length a)
    (f : (ObjectId → Names) → View → View) (m : Makes state (a ++ p ∷ []) (length a) (λ load. f load (view_at (a ++ p ∷ []) (length a))) a3)
    (l : Changes a3 k (linked n (length a) (new_tree state.hash)) b) where
  one_more : length (a ++ p ∷ []) ≡ length a + 1
  one_more = length-append a (p ∷ [])

  start : length a < length a3
  start = (let x = one_more in let y = m.len in omega (arith, x, y))

  same : (i : ℕ) → i < length a → slice_get a3 i ≡ slice_get a i
  same i within = m.kept i (let x = one_more in omega (arith, x, within)) (λ e. omega (arith, e, within)) ∙ get_front a (p ∷ []) i within

  free : (i : ℕ) (c : List ℕ) → inner_at (slice_get a3 i) c ≡ Some (length a) → ⊥
  free i c e =
      let small = (m.links.within i (length a) c e).0 in
      let h = (links.within i (length a) c (ap (λ (o : Option Place). inner_at o c) (sym (same i small)) ∙ e)).1 in
      omega (arith, h)

  view_kept : view_at a3 k ≡ view_at a k
  view_kept = λ j q. kept a links a3 (length a) (λ i ne within. same i within) k q (λ r. let within = reaches_within a links k (length a) r less in omega (arith, within)) less j

  made : (load : ObjectId → Names) → view_at a3 (length a) ≡ f load (view_at (a ++ p ∷ []) (length a)) → view_at b k ≡ with_below (with_root (view_at a k) (with_tree state.hash load n)) n (f load (only p.names))
  made load e =
      link_made a3 b m.links k (length a) n state.hash load l less start
      ∙ ap₂ (λ (v w : View). with_below (with_root v (with_tree state.hash load n)) n w) view_kept (e ∙ ap (f load) (new_view a links p loaded.none_inside))

  -- the view that is wanted is that of the edit below the new directory
  pub links_below : (wanted : (ObjectId → Names) → View)
      → ((load : ObjectId → Names) → p.names ≡ names_for state.hash load (item_in (view_at a k []) n) → with_below (with_root (view_at a k) (with_tree state.hash load n)) n (f load (only p.names)) ≡ wanted load)
      → Makes state a k wanted b
  links_below wanted is = record {
    links = now_linked a3 b m.links k (length a) n (new_tree state.hash) l refl less start free;
    len = (let x = start in let y = l.len in omega (arith, x, y));
    kept = λ i within ne. l.others i ne ∙ same i within;
    view = where_both state (λ load names e. made load e ∙ is load (names ∙ ap (names_for state.hash load) (sym (item_there a k n)))) loaded.names m.view;
  }
