-- Each tree on the way of an edit that was made can be read. If one could not, the view would depend on what it is taken
-- to hold, and no view is the edited one whatever that is.
use Rattle.std.proofs.Common.{◌≡◌, ◌∙◌, ◌⊎◌, inl, inr, sym, ap, refl, subst, cond, List, [], ◌∷◌, ℕ, Bool, true, false, Option, Some, None, IsSome, IfSome, length, arith}
use Rattle.std.specs.Prelude.{slice_get, Result, OnOk}
use Rattle.std.proofs.lemmas.Result.{on_ok_weaker}
use Rattle.std.specs.FinMap.{get, insert, empty, get-empty}
use Rattle.gx_hash.specs.declared.kind.HashKind.{HashKind}
use Rattle.gx_hash.specs.declared.oid.ObjectId.{ObjectId}
use Rattle.gx_hash.specs.ObjectIds.{id_eq}
use Rattle.gx_hash.specs.Laws.{same_id, own_id}
use Rattle.gx_object.specs.Mode.{is_tree_mode}
use Rattle.gx_rules.specs.Name.{name_cmp}
use Rattle.gx_store.specs.Content.{Content, lookup}
use Rattle.gx_store.specs.State.{StoreState}
use Rattle.gx_edit.specs.Path.{Path}
use Rattle.gx_edit.specs.StoredTree.{HasEntries, IsReadable}
use Rattle.gx_edit.specs.EditorCauses.{IsUnloaded, IsOnWay, LoadsAll}
use Rattle.gx_edit.specs.Nodes.{Place, AreLinked, Edits, inner_at, onward, walk, names_there, view_at}
use Rattle.gx_edit.specs.View.{Names, View, IsLoad, WhereLoaded, only, nothing_loaded, below, with_below, item_in, leads, is_null, names_of, names_for, with_tree, new_tree, opened, upserted, removed}
use Rattle.gx_edit.specs.declared.editor.item.Item.{Item}
use Rattle.gx_edit.proofs.FinMapLemmas.{get_put, get_put_other, get_gone_other}
use Rattle.gx_edit.proofs.LoadLemmas.{Reader, IsUnread, has_load, readable}
use Rattle.gx_edit.proofs.OpeningLemmas.{item_there}
use Rattle.gx_edit.proofs.ViewLemmas.{below_put, opened_same, next_removed}
use Rattle.gx_edit.proofs.WayLemmas.{opened_below}

-- the tree at the id is taken to hold these names
abbrev pub with_names : (ObjectId → Names) → ObjectId → Names → ObjectId → Names
with_names base id names other = cond (id_eq id other) names (base other)

loads_with : (hash : HashKind) (content : Content) (base : ObjectId → Names) (id : ObjectId) → IsLoad hash content base → IsUnread hash content id → (names : Names) → IsLoad hash content (with_names base id names)
loads_with hash content base id is bad names other entries has = go (id_eq id other) refl
  where
    go : (t : Bool) → id_eq id other ≡ t → cond t names (base other) ≡ names_of entries
    go true e = absurd (bad entries (subst (λ i. HasEntries hash content i entries) (sym (same_id id other e)) has))
    go false e = is other entries has

-- an empty directory has none in it that could be loaded
nothing_on_way : (hash : HashKind) (load : ObjectId → Names) (id : ObjectId) (path : Path) → IsOnWay hash load (only empty) path id → ⊥
nothing_on_way hash load id [] h = h
nothing_on_way hash load id (n ∷ []) h = h
nothing_on_way hash load id (n ∷ c ∷ p) (inl u) = let no : None ≡ Some u.item = sym (get-empty name_cmp n) ∙ u.there in cc
nothing_on_way hash load id (n ∷ c ∷ p) (inr h) =
    nothing_on_way hash load id (c ∷ p)
    (subst (λ (x : View). IsOnWay hash load x (c ∷ p) id) (opened_below hash load (only empty) n empty refl (sym (ap (names_for hash load) (get-empty name_cmp n)))) h)

module _ (hash : HashKind) (base : ObjectId → Names) (id : ObjectId) where
  abbrev taken_as : Names → ObjectId → Names
  taken_as names = with_names base id names

  -- what is loaded of a name is the same, whatever the tree at the id is taken to hold
  abbrev Next : View → List ℕ → Type 0
  Next v n = (w : View) × ((names : Names) → below (opened hash (taken_as names) v n) n ≡ w)

  next : (v : View) (n : List ℕ) → Next v n ⊎ IsUnloaded v n id
  next v n = by (v (n ∷ [])) refl
    where
      by : (o : Option Names) → v (n ∷ []) ≡ o → Next v n ⊎ IsUnloaded v n id
      by (Some there) e = inl (below v n, λ names. ap (λ (w : View). below w n) (opened_same hash (taken_as names) v n (subst IsSome (sym e) refl)))
      by None e = at (item_in (v []) n) refl
        where
          at : (item : Option Item) → item_in (v []) n ≡ item → Next v n ⊎ IsUnloaded v n id
          at None f = inl (only empty, λ names. opened_below hash (taken_as names) v n empty e (sym (ap (names_for hash (taken_as names)) f)))
          at (Some tree) f = go (is_tree_mode tree.mode.value) refl (is_null tree.id) refl (id_eq id tree.id) refl
            where
              is : (names : Names) (x : Names) (t u : Bool) → is_tree_mode tree.mode.value ≡ t → is_null tree.id ≡ u → cond t (cond u empty (taken_as names tree.id)) empty ≡ x → x ≡ names_for hash (taken_as names) (item_in (v []) n)
              is names x t u m k own = sym (ap (names_for hash (taken_as names)) f ∙ ap (λ b. cond b (cond (is_null tree.id) empty (taken_as names tree.id)) empty) m ∙ ap (λ b. cond t (cond b empty (taken_as names tree.id)) empty) k ∙ own)

              go : (t : Bool) → is_tree_mode tree.mode.value ≡ t → (u : Bool) → is_null tree.id ≡ u → (s : Bool) → id_eq id tree.id ≡ s → Next v n ⊎ IsUnloaded v n id
              go false m u k s i = inl (only empty, λ names. opened_below hash (taken_as names) v n empty e (is names empty false u m k refl))
              go true m true k s i = inl (only empty, λ names. opened_below hash (taken_as names) v n empty e (is names empty true true m k refl))
              go true m false k true i =
                  let same : id ≡ tree.id = same_id id tree.id i in
                  inr (record { item = tree; there = f; is_tree = m; is_id = sym same; known = ap is_null same ∙ k; unloaded = e })
              go true m false k false i = inl (only (base tree.id), λ names. opened_below hash (taken_as names) v n (base tree.id) e (is names (base tree.id) true false m k (ap (λ b. cond b names (base tree.id)) i)))

  -- an edit that goes on below a name, and elsewhere leaves the root's names as they are
  module _ (edit : (ObjectId → Names) → View → Path → View) (Goes : View → List ℕ → Type 0) (Sound : View → Path → Type 0)
      (root : (load : ObjectId → Names) (names : Names) (c q : List ℕ) (p : Path) → (q ≡ c → ⊥) → item_in (edit load (only names) (c ∷ p) []) q ≡ get names q)
      (step : (load : ObjectId → Names) (v : View) (n c : List ℕ) (p : Path) → Goes v n → edit load v (n ∷ c ∷ p) ≡ with_below (opened hash load v n) n (edit load (below (opened hash load v n) n) (c ∷ p)))
      (goes : (v : View) (n : List ℕ) → leads (item_in (v []) n) ≡ true → Goes v n)
      (sound : (load : ObjectId → Names) (v : View) (n c : List ℕ) (p : Path) → Sound v (n ∷ c ∷ p) → Sound (below (opened hash load v n) n) (c ∷ p))
      (either : (load : ObjectId → Names) (v : View) (n c : List ℕ) (p : Path) → Sound v (n ∷ c ∷ p) → Goes v n ⊎ (IsOnWay hash load (below (opened hash load v n) n) (c ∷ p) id → ⊥)) where
    below_edit : (load : ObjectId → Names) (v : View) (n c : List ℕ) (p : Path) → Goes v n → (w : View) → w ≡ edit load v (n ∷ c ∷ p) → below w n ≡ edit load (below (opened hash load v n) n) (c ∷ p)
    below_edit load v n c p g w is = ap (λ (x : View). below x n) (is ∙ step load v n c p g) ∙ below_put (opened hash load v n) n (edit load (below (opened hash load v n) n) (c ∷ p))

    abbrev IsEdited : View → View → Path → Type 0
    IsEdited w v path = (names : Names) → w ≡ edit (taken_as names) v path

    -- the view shows what the tree is taken to hold
    shown : (v : View) (n c : List ℕ) (p : Path) → IsUnloaded v n id → (w : View) → IsEdited w v (n ∷ c ∷ p) → (names : Names) (q : List ℕ) → (q ≡ c → ⊥) → item_in (w (n ∷ [])) q ≡ get names q
    shown v n c p u w is names q ne =
        ap (λ (x : View). item_in (x []) q) (below_edit (taken_as names) v n c p (goes v n (ap leads u.there ∙ u.is_tree)) w (is names)
        ∙ ap (λ (x : View). edit (taken_as names) x (c ∷ p)) (opened_below hash (taken_as names) v n names u.unloaded own))
        ∙ root (taken_as names) names c q p ne
      where
        own : names ≡ names_for hash (taken_as names) (item_in (v []) n)
        own = sym (ap (names_for hash (taken_as names)) u.there ∙ ap (λ b. cond b (cond (is_null u.item.id) empty (taken_as names u.item.id)) empty) u.is_tree
            ∙ ap (λ (x : ObjectId). cond (is_null x) empty (taken_as names x)) u.is_id ∙ ap (λ b. cond b empty (taken_as names id)) u.known ∙ ap (λ b. cond b names (base id)) (own_id id))

    unlike : (v : View) (n c : List ℕ) (p : Path) → IsUnloaded v n id → (w : View) → IsEdited w v (n ∷ c ∷ p) → ⊥
    unlike v n c p u w is =
        let q : List ℕ = 0 ∷ c in
        let ne : q ≡ c → ⊥ = λ e. (let l = ap length e in omega (arith, l)) in
        let none : item_in (w (n ∷ [])) q ≡ None = shown v n c p u w is empty q ne ∙ get-empty name_cmp q in
        let some : item_in (w (n ∷ [])) q ≡ Some u.item = shown v n c p u w is (insert empty q u.item) q ne ∙ get_put empty q u.item in
        let no : None ≡ Some u.item = sym none ∙ some in cc

    pub apart : (path : Path) (w v : View) → Sound v path → IsEdited w v path → ((names : Names) → IsOnWay hash (taken_as names) v path id) → ⊥
    apart [] w v s is on = on empty
    apart (n ∷ []) w v s is on = on empty
    apart (n ∷ c ∷ p) w v s is on = go (next v n) (λ x s is on. apart (c ∷ p) (below w n) x s is on)
      where
        go : Next v n ⊎ IsUnloaded v n id → ((x : View) → Sound x (c ∷ p) → IsEdited (below w n) x (c ∷ p) → ((names : Names) → IsOnWay hash (taken_as names) x (c ∷ p) id) → ⊥) → ⊥
        go (inr u) ih = unlike v n c p u w is
        go (inl k) ih = by (either (taken_as empty) v n c p s)
          where
            more : (names : Names) → IsOnWay hash (taken_as names) k.0 (c ∷ p) id
            more names = at (on names)
              where
                at : IsUnloaded v n id ⊎ IsOnWay hash (taken_as names) (below (opened hash (taken_as names) v n) n) (c ∷ p) id → IsOnWay hash (taken_as names) k.0 (c ∷ p) id
                at (inl u) = absurd (unlike v n c p u w is)
                at (inr h) = subst (λ (x : View). IsOnWay hash (taken_as names) x (c ∷ p) id) (k.1 names) h

            by : Goes v n ⊎ (IsOnWay hash (taken_as empty) (below (opened hash (taken_as empty) v n) n) (c ∷ p) id → ⊥) → ⊥
            by (inr never) = never (subst (λ (x : View). IsOnWay hash (taken_as empty) x (c ∷ p) id) (sym (k.1 empty)) (more empty))
            by (inl g) = ih k.0 (subst (λ (x : View). Sound x (c ∷ p)) (k.1 empty) (sound (taken_as empty) v n c p s))
                (λ names. below_edit (taken_as names) v n c p g w (is names) ∙ ap (λ (x : View). edit (taken_as names) x (c ∷ p)) (k.1 names)) more

-- ---- an item that is put

tree_other : (hash : HashKind) (load : ObjectId → Names) (names : Names) (c q : List ℕ) → (q ≡ c → ⊥) → get (with_tree hash load c names) q ≡ get names q
tree_other hash load names c q ne = go (leads (get names c))
  where
    go : (t : Bool) → get (cond t names (insert names c (new_tree hash))) q ≡ get names q
    go true = refl
    go false = get_put_other names q c (new_tree hash) ne

upserted_root : (hash : HashKind) (item : Item) (load : ObjectId → Names) (names : Names) (c q : List ℕ) (p : Path) → (q ≡ c → ⊥) → item_in (upserted hash load (only names) (c ∷ p) item []) q ≡ get names q
upserted_root hash item load names c q [] ne = get_put_other names q c item ne
upserted_root hash item load names c q (d ∷ p) ne = tree_other hash load names c q ne

-- ---- a path that is taken away

-- each loaded directory along the path is a directory's item in the one above
abbrev AreLed : View → Path → Type 0
AreLed v [] = Unit {0}
AreLed v (n ∷ p) = (IsSome (v (n ∷ [])) → leads (item_in (v []) n) ≡ true) × AreLed (below v n) p

none_some : IsSome {T = Names} None → ⊥
none_some h = cc

led_nowhere : (p : Path) → AreLed nothing_loaded p
led_nowhere [] = tt
led_nowhere (n ∷ p) = (λ there. absurd (none_some there), led_nowhere p)

led_alone : (names : Names) (p : Path) → AreLed (only names) p
led_alone names [] = tt
led_alone names (n ∷ p) = (λ there. absurd (none_some there), led_nowhere p)

are_led : (a : List Place) → AreLinked a → (p : Path) (i : ℕ) → AreLed (view_at a i) p
are_led a links [] i = tt
are_led a links (n ∷ p) i = go (inner_at (slice_get a i) n) refl (λ j. are_led a links p j)
  where
    inside : (o : Option ℕ) → inner_at (slice_get a i) n ≡ o → below (view_at a i) n ≡ (λ q. names_there a (onward (λ inner. walk a inner q) o))
    inside o e = λ k q. ap (λ (x : Option ℕ). names_there a (onward (λ inner. walk a inner q) x)) e k

    go : (o : Option ℕ) → inner_at (slice_get a i) n ≡ o → ((j : ℕ) → AreLed (view_at a j) p) → (IsSome (view_at a i (n ∷ [])) → leads (item_in (view_at a i []) n) ≡ true) × AreLed (below (view_at a i) n) p
    go None e ih = (λ there. absurd (none_some (subst (λ (v : View). IsSome (v [])) (inside None e) there)), subst (λ (v : View). AreLed v p) (sym (inside None e)) (led_nowhere p))
    go (Some j) e ih = (λ there. ap leads (item_there a i n) ∙ links.trees i j n e, subst (λ (v : View). AreLed v p) (sym (inside (Some j) e)) (ih j))

module _ (hash : HashKind) (load : ObjectId → Names) where
  removed_root : (names : Names) (c q : List ℕ) (p : Path) → (q ≡ c → ⊥) → item_in (removed hash load (only names) (c ∷ p) []) q ≡ get names q
  removed_root names c q [] ne = get_gone_other names q c ne
  removed_root names c q (d ∷ p) ne = go (leads (get names c))
    where
      go : (t : Bool) → item_in (cond t (with_below (opened hash load (only names) c) c (removed hash load (below (opened hash load (only names) c) c) (d ∷ p))) (only names) []) q ≡ get names q
      go true = tree_other hash load names c q ne
      go false = refl

  still_led : (v : View) (n c : List ℕ) (p : Path) → AreLed v (n ∷ c ∷ p) → AreLed (below (opened hash load v n) n) (c ∷ p)
  still_led v n c p led = by (v (n ∷ [])) refl
    where
      by : (o : Option Names) → v (n ∷ []) ≡ o → AreLed (below (opened hash load v n) n) (c ∷ p)
      by (Some there) e = subst (λ (x : View). AreLed (below x n) (c ∷ p)) (sym (opened_same hash load v n (subst IsSome (sym e) refl))) led.1
      by None e = subst (λ (x : View). AreLed x (c ∷ p)) (sym (opened_below hash load v n (names_for hash load (item_in (v []) n)) e refl)) (led_alone (names_for hash load (item_in (v []) n)) (c ∷ p))

  no_names : (item : Option Item) → leads item ≡ false → empty ≡ names_for hash load item
  no_names None e = refl
  no_names (Some tree) e = sym (ap (λ b. cond b (cond (is_null tree.id) empty (load tree.id)) empty) e)

  led_or_nothing : (id : ObjectId) (v : View) (n c : List ℕ) (p : Path) → AreLed v (n ∷ c ∷ p) → (leads (item_in (v []) n) ≡ true) ⊎ (IsOnWay hash load (below (opened hash load v n) n) (c ∷ p) id → ⊥)
  led_or_nothing id v n c p led = by (v (n ∷ [])) refl (leads (item_in (v []) n)) refl
    where
      by : (o : Option Names) → v (n ∷ []) ≡ o → (t : Bool) → leads (item_in (v []) n) ≡ t → (leads (item_in (v []) n) ≡ true) ⊎ (IsOnWay hash load (below (opened hash load v n) n) (c ∷ p) id → ⊥)
      by o e true t = inl t
      by (Some there) e false t = inl (led.0 (subst IsSome (sym e) refl))
      by None e false t = inr (λ h. nothing_on_way hash load id (c ∷ p) (subst (λ (x : View). IsOnWay hash load x (c ∷ p) id) (opened_below hash load v n empty e (no_names (item_in (v []) n) t)) h))

-- ---- where it is told what is stored

all_on_way : (P : (ObjectId → Names) → Type 0) (state : StoreState) (v : View) (path : Path) → Reader state.hash
    → ((base : ObjectId → Names) (id : ObjectId) → ((names : Names) → P (with_names base id names)) → ((names : Names) → IsOnWay state.hash (with_names base id names) v path id) → ⊥) → WhereLoaded state P → LoadsAll state v path
all_on_way P state v path reader never edited id on = go state.content edited on
  where
    go : (told : Option Content) → IfSome told (λ content. (load : ObjectId → Names) → IsLoad state.hash content load → P load) → IfSome told (λ content. (load : ObjectId → Names) → IsLoad state.hash content load → IsOnWay state.hash load v path id)
        → IfSome told (λ content. IsReadable state.hash content id)
    go None h on = tt
    go (Some content) h on = by (readable state.hash content reader id)
      where
        base : (load : ObjectId → Names) × IsLoad state.hash content load
        base = has_load state.hash content reader

        by : IsReadable state.hash content id ⊎ IsUnread state.hash content id → IsReadable state.hash content id
        by (inl r) = r
        by (inr bad) = absurd (never base.0 id (λ names. h (with_names base.0 id names) (loads_with state.hash content base.0 id base.1 bad names)) (λ names. on (with_names base.0 id names) (loads_with state.hash content base.0 id base.1 bad names)))

pub upserted_loads : {T E : Type 0} (r : Result T E) (state : StoreState) → Reader state.hash → (a b : List Place) (path : Path) (item : Item) → OnOk r (Edits state a (λ load. upserted state.hash load (view_at a 0) path item) b) → OnOk r (LoadsAll state (view_at a 0) path)
upserted_loads r state reader a b path item h = on_ok_weaker r (λ (e : Edits state a (λ load. upserted state.hash load (view_at a 0) path item) b).
    all_on_way (λ load. view_at b 0 ≡ upserted state.hash load (view_at a 0) path item) state (view_at a 0) path reader (λ base id edited on.
    apart state.hash base id (λ load v p. upserted state.hash load v p item) (λ v n. Unit {0}) (λ v p. Unit {0}) (upserted_root state.hash item) (λ load v n c p g. refl) (λ v n led. tt) (λ load v n c p s. tt) (λ load v n c p s. inl tt)
    path (view_at b 0) (view_at a 0) tt edited on) e.view) h

pub removed_loads : {T E : Type 0} (r : Result T E) (state : StoreState) → Reader state.hash → (a b : List Place) → AreLinked a → (path : Path) → OnOk r (Edits state a (λ load. removed state.hash load (view_at a 0) path) b) → OnOk r (LoadsAll state (view_at a 0) path)
removed_loads r state reader a b links path h = on_ok_weaker r (λ (e : Edits state a (λ load. removed state.hash load (view_at a 0) path) b).
    all_on_way (λ load. view_at b 0 ≡ removed state.hash load (view_at a 0) path) state (view_at a 0) path reader (λ base id edited on.
    apart state.hash base id (λ load v p. removed state.hash load v p) (λ v n. leads (item_in (v []) n) ≡ true) AreLed (λ load. removed_root state.hash load) (λ load v n c p led. next_removed state.hash load v n c p led) (λ v n led. led)
    (λ load. still_led state.hash load) (λ load. led_or_nothing state.hash load id) path (view_at b 0) (view_at a 0) (are_led a links path 0) edited on) e.view) h
