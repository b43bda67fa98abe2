-- A traversal goes through trees that lie in each other, and through their levels.
use Rattle.std.proofs.Common.{◌≡◌, ◌≢◌, ℕ, Bool, true, false, List, [], ◌∷◌, ◌++◌, sym, refl, ap, ap₂, ◌∙◌, subst, append_assoc, append-nil, Option, Contains, if◌then◌else◌}
use Rattle.std.proofs.lemmas.Bool.{false≢true}
use Rattle.gx_hash.specs.declared.kind.HashKind.{HashKind}
use Rattle.gx_hash.specs.declared.oid.ObjectId.{ObjectId}
use Rattle.gx_object.specs.declared.tree.Entry.{Entry}
use Rattle.gx_store.specs.Content.{Content}
use Rattle.gx_walk.specs.Traversal.{IsTraversal, IsTreeIn, Task, entering, is_entered, visits_of}
use Rattle.gx_walk.specs.Traversal.IsTraversal.{begun, visited, entered}
use Rattle.gx_walk.specs.Traversal.Order.{BreadthFirst, DepthFirst}
use Rattle.gx_walk.specs.Traversal.Task.{Enter, Visit}
use Rattle.gx_walk.specs.TraversalLaws.{BreadthFirstIsByLevels, DepthFirstIsNested, Place, VisitsLevel, VisitsLevels, VisitsNested, places_of, visit_at}
use Rattle.gx_walk.specs.TraversalLaws.VisitsLevel.{none as level_none, passed as level_passed, entered as level_entered}
use Rattle.gx_walk.specs.TraversalLaws.VisitsLevels.{none as levels_none, level as levels_level}
use Rattle.gx_walk.specs.TraversalLaws.VisitsNested.{none as nested_none, passed as nested_passed, entered as nested_entered}
use Rattle.gx_walk.specs.Visits.{TreeVisit, visit_of}
use Rattle.gx_walk.specs.declared.tree.visit.Action.{Action}
use Rattle.gx_walk.specs.declared.tree.visit.Action.TheVariants.{Continue, Skip, Cancel}

goes_on : (entry : Entry) (answer : Action) → is_entered entry answer ≡ true → Continue ≡ answer
goes_on entry Continue h = refl
goes_on entry Skip h = absurd (false≢true h)
goes_on entry Cancel h = absurd (false≢true h)

no_parts : {A : Type 0} (xs ys : List A) → [] ≡ xs ++ ys → ([] ≡ xs) × ([] ≡ ys)
no_parts [] ys h = (refl, h)
no_parts (x ∷ xs) ys h = cc

module _ (hash : HashKind) (told : Option Content) where
  -- ---- depth first

  -- these visits are made where this task is done
  abbrev DoesOne : Task → List TreeVisit → Type 0
  DoesOne (Visit above directory entry) visits = VisitsNested hash told above directory (entry ∷ []) visits
  DoesOne (Enter above directory id) visits = (¬ Contains above id) × (inner : List Entry) × IsTreeIn hash told id inner
      × VisitsNested hash told (above ++ id ∷ []) directory inner visits

  -- these visits are made where the tasks are done one after another
  abbrev Does : List Task → List TreeVisit → Type 0
  Does [] visits = visits ≡ []
  Does (task ∷ tasks) visits = (front : List TreeVisit) × (rest : List TreeVisit) × (visits ≡ front ++ rest)
      × DoesOne task front × Does tasks rest

  nested_append : {above : List ObjectId} {directory : List ℕ} {xs : List Entry} {vs : List TreeVisit} (ys : List Entry) (ws : List TreeVisit) → VisitsNested hash told above directory xs vs
      → VisitsNested hash told above directory ys ws → VisitsNested hash told above directory (xs ++ ys) (vs ++ ws)
  nested_append ys ws (nested_none above directory) more = more
  nested_append ys ws (nested_passed above directory entry answer rest visits on_ out h) more =
      nested_passed above directory entry answer (rest ++ ys) (visits ++ ws) on_ out (nested_append ys ws h more)
  nested_append ys ws (nested_entered above directory entry inner rest below visits into apart tree b h) more =
      subst (λ w. VisitsNested hash told above directory (entry ∷ rest ++ ys) (visit_of (directory ++ entry.filename) entry Continue ∷ w)) (sym (append_assoc below visits ws))
      (nested_entered above directory entry inner (rest ++ ys) below (visits ++ ws) into apart tree b (nested_append ys ws h more))

  does_visits : (above : List ObjectId) (directory : List ℕ) (entries : List Entry) (visits : List TreeVisit) → Does (visits_of above directory entries) visits → VisitsNested hash told above directory entries visits
  does_visits above directory [] visits h = subst (VisitsNested hash told above directory []) (sym h) (nested_none above directory)
  does_visits above directory (entry ∷ entries) visits (front, rest, is, one, more) =
      subst (VisitsNested hash told above directory (entry ∷ entries)) (sym is) (nested_append entries rest one (does_visits above directory entries rest more))

  does_split : (xs ys : List Task) (visits : List TreeVisit) → Does (xs ++ ys) visits → (front : List TreeVisit) × (rest : List TreeVisit) × (visits ≡ front ++ rest) × Does xs front × Does ys rest
  does_split [] ys visits h = ([], visits, refl, refl, h)
  does_split (x ∷ xs) ys visits (f, r, is, one, more) =
      let (g, s, split, front, rest) = does_split xs ys r more in
      (f ++ g, s, is ∙ ap (λ w. f ++ w) split ∙ sym (append_assoc f g s), (f, g, refl, one, front), rest)

  -- an entry is visited, and then what follows from that is done
  does_visit : (above : List ObjectId) (directory : List ℕ) (entry : Entry) (ahead : List Task) (answer : Action) (more : List TreeVisit) → answer ≢ Cancel
      → Does (entering above directory entry answer ++ ahead) more → Does (Visit above directory entry ∷ ahead) (visit_of (directory ++ entry.filename) entry answer ∷ more)
  does_visit above directory entry ahead answer more on_ h = go (is_entered entry answer) refl h where
    go : (b : Bool) → is_entered entry answer ≡ b → Does ((if b then Enter above (directory ++ entry.filename ++ 47 ∷ []) entry.oid ∷ [] else []) ++ ahead) more
        → Does (Visit above directory entry ∷ ahead) (visit_of (directory ++ entry.filename) entry answer ∷ more)
    go false out h = (visit_of (directory ++ entry.filename) entry answer ∷ [], more, refl, nested_passed above directory entry answer [] [] on_ out (nested_none above directory), h)
    go true into (front, rest, is, (apart, inner, tree, below), then_) =
        let e = goes_on entry answer into in
        let own : VisitsNested hash told above directory (entry ∷ []) (visit_of (directory ++ entry.filename) entry answer ∷ front ++ []) =
        subst (λ a. VisitsNested hash told above directory (entry ∷ []) (visit_of (directory ++ entry.filename) entry a ∷ front ++ [])) e
        (nested_entered above directory entry inner [] front [] (subst (λ a. is_entered entry a ≡ true) (sym e) into) apart tree below (nested_none above directory)) in (
          visit_of (directory ++ entry.filename) entry answer ∷ front,
          rest,
          ap (λ w. visit_of (directory ++ entry.filename) entry answer ∷ w) is,
          subst (λ w. VisitsNested hash told above directory (entry ∷ []) (visit_of (directory ++ entry.filename) entry answer ∷ w)) (append-nil front) own,
          then_,
        )

  nested_so_far : (root : ObjectId) (entries : List Entry) {visits : List TreeVisit} {ahead : List Task} → IsTraversal hash told DepthFirst root entries visits ahead
      → (more : List TreeVisit) → Does ahead more → VisitsNested hash told (root ∷ []) [] entries (visits ++ more)
  nested_so_far root entries begun more h = does_visits (root ∷ []) [] entries more h
  nested_so_far root entries (visited visits above directory entry ahead answer before on_) more h =
      let v = visit_of (directory ++ entry.filename) entry answer in
      subst (VisitsNested hash told (root ∷ []) [] entries) (sym (append_assoc visits (v ∷ []) more)) (nested_so_far root entries before (v ∷ more) (does_visit above directory entry ahead answer more on_ h))
  nested_so_far root entries (entered visits above directory id ahead inner before apart tree) more h =
      let (front, rest, is, d, a) = does_split (visits_of (above ++ id ∷ []) directory inner) ahead more h in
      nested_so_far root entries before more (front, rest, is, (apart, inner, tree, does_visits (above ++ id ∷ []) directory inner front d), a)

  -- ---- breadth first

  -- these are the places where the tasks make visits first
  abbrev Unfolds : List Task → List Place → Type 0
  Unfolds [] places = places ≡ []
  Unfolds (Visit above directory entry ∷ tasks) places = (rest : List Place)
      × (places ≡ record { above = above; directory = directory; entry = entry } ∷ rest) × Unfolds tasks rest
  Unfolds (Enter above directory id ∷ tasks) places = (¬ Contains above id) × (inner : List Entry) × IsTreeIn hash told id inner
      × (rest : List Place) × (places ≡ places_of (above ++ id ∷ []) directory inner ++ rest) × Unfolds tasks rest

  level_append : {xs : List Place} {hx : List TreeVisit} {bx : List Place} (ys : List Place) (hy : List TreeVisit) (by : List Place) → VisitsLevel hash told xs hx bx → VisitsLevel hash told ys hy by
      → VisitsLevel hash told (xs ++ ys) (hx ++ hy) (bx ++ by)
  level_append ys hy by level_none more = more
  level_append ys hy by (level_passed place answer rest visits below on_ out h) more = level_passed place answer (rest ++ ys) (visits ++ hy) (below ++ by) on_ out (level_append ys hy by h more)
  level_append ys hy by (level_entered place inner rest visits below into apart tree h) more =
      subst (VisitsLevel hash told (place ∷ rest ++ ys) (visit_at place Continue ∷ visits ++ hy))
      (sym (append_assoc (places_of (place.above ++ place.entry.oid ∷ []) (place.directory ++ place.entry.filename ++ 47 ∷ []) inner) below by))
      (level_entered place inner (rest ++ ys) (visits ++ hy) (below ++ by) into apart tree (level_append ys hy by h more))

  -- a level of two parts
  record Parts (xs ys : List Place) (here : List TreeVisit) (below : List Place) : Type 0 where
    pub hx : List TreeVisit
    pub hy : List TreeVisit
    pub bx : List Place
    pub by : List Place
    pub here_is : here ≡ hx ++ hy
    pub below_is : below ≡ bx ++ by
    pub first : VisitsLevel hash told xs hx bx
    pub then_ : VisitsLevel hash told ys hy by

  level_first : {x : Place} {ys : List Place} {here : List TreeVisit} {below : List Place} → VisitsLevel hash told (x ∷ ys) here below → Parts (x ∷ []) ys here below
  level_first (level_passed place answer rest visits below on_ out h) = record {
    hx = visit_at place answer ∷ [];
    hy = visits;
    bx = [];
    by = below;
    here_is = refl;
    below_is = refl;
    first = level_passed place answer [] [] [] on_ out level_none;
    then_ = h;
  }
  level_first (level_entered place inner rest visits below into apart tree h) =
      let own = places_of (place.above ++ place.entry.oid ∷ []) (place.directory ++ place.entry.filename ++ 47 ∷ []) inner in
      record {
        hx = visit_at place Continue ∷ [];
        hy = visits;
        bx = own;
        by = below;
        here_is = refl;
        below_is = refl;
        first = subst (VisitsLevel hash told (place ∷ []) (visit_at place Continue ∷ [])) (append-nil own) (level_entered place inner [] [] [] into apart tree level_none);
        then_ = h;
      }

  level_split : (xs ys : List Place) (here : List TreeVisit) (below : List Place) → VisitsLevel hash told (xs ++ ys) here below → Parts xs ys here below
  level_split [] ys here below h = record { hx = []; hy = here; bx = []; by = below; here_is = refl; below_is = refl; first = level_none; then_ = h }
  level_split (x ∷ xs) ys here below h =
      let p = level_first h in
      let q = level_split xs ys p.hy p.by p.then_ in
      record {
        hx = p.hx ++ q.hx;
        hy = q.hy;
        bx = p.bx ++ q.bx;
        by = q.by;
        here_is = p.here_is ∙ ap (λ w. p.hx ++ w) q.here_is ∙ sym (append_assoc p.hx q.hx q.hy);
        below_is = p.below_is ∙ ap (λ w. p.bx ++ w) q.below_is ∙ sym (append_assoc p.bx q.bx q.by);
        first = level_append xs q.hx q.bx p.first q.first;
        then_ = q.then_;
      }

  -- what stands first in the queue is done, and what follows from it comes last
  levels_join : {ps : List Place} {ws : List TreeVisit} → VisitsLevels hash told ps ws → (xs ys bx : List Place) (hx : List TreeVisit) → ps ≡ ys ++ bx → VisitsLevel hash told xs hx bx
      → VisitsLevels hash told (xs ++ ys) (hx ++ ws)
  levels_join levels_none xs ys bx hx is h =
      let (no_ys, no_bx) = no_parts ys bx is in
      let own : VisitsLevels hash told xs (hx ++ []) = levels_level xs hx [] [] (subst (VisitsLevel hash told xs hx) (sym no_bx) h) levels_none in
      subst (λ w. VisitsLevels hash told (xs ++ w) (hx ++ [])) no_ys (subst (λ w. VisitsLevels hash told w (hx ++ [])) (sym (append-nil xs)) own)
  levels_join (levels_level places here below visits lv rest) xs ys bx hx is h =
      let p = level_split ys bx here below (subst (λ w. VisitsLevel hash told w here below) is lv) in
      let next : VisitsLevels hash told (bx ++ p.bx) (p.hy ++ visits) = levels_join rest bx p.bx p.by p.hy p.below_is p.then_ in
      let whole : VisitsLevels hash told (xs ++ ys) ((hx ++ p.hx) ++ (p.hy ++ visits)) = levels_level (xs ++ ys) (hx ++ p.hx) (bx ++ p.bx) (p.hy ++ visits) (level_append ys p.hx p.bx h p.first) next in
      subst (VisitsLevels hash told (xs ++ ys))
      (append_assoc hx p.hx (p.hy ++ visits) ∙ ap (λ w. hx ++ w) (sym (append_assoc p.hx p.hy visits) ∙ ap (λ w. w ++ visits) (sym p.here_is))) whole

  unfolds_split : (xs ys : List Task) (ps : List Place) → Unfolds (xs ++ ys) ps → (px : List Place) × (py : List Place) × (ps ≡ px ++ py) × Unfolds xs px × Unfolds ys py
  unfolds_split [] ys ps h = ([], ps, refl, refl, h)
  unfolds_split (Visit above directory entry ∷ xs) ys ps (rest, is, more) =
      let (px, py, split, ux, uy) = unfolds_split xs ys rest more in
      let place : Place = record { above = above; directory = directory; entry = entry } in
      (place ∷ px, py, is ∙ ap (λ w. place ∷ w) split, (px, refl, ux), uy)
  unfolds_split (Enter above directory id ∷ xs) ys ps (apart, inner, tree, rest, is, more) =
      let (px, py, split, ux, uy) = unfolds_split xs ys rest more in
      let own = places_of (above ++ id ∷ []) directory inner in
      (own ++ px, py, is ∙ ap (λ w. own ++ w) split ∙ sym (append_assoc own px py), (apart, inner, tree, px, refl, ux), uy)

  unfolds_visits : (above : List ObjectId) (directory : List ℕ) (entries : List Entry) (ps : List Place) → Unfolds (visits_of above directory entries) ps → ps ≡ places_of above directory entries
  unfolds_visits above directory [] ps h = h
  unfolds_visits above directory (entry ∷ entries) ps (rest, is, more) =
      let place : Place = record { above = above; directory = directory; entry = entry } in
      is ∙ ap (λ w. place ∷ w) (unfolds_visits above directory entries rest more)

  -- the level of one entry
  level_of : (above : List ObjectId) (directory : List ℕ) (entry : Entry) (answer : Action) (ps : List Place) → answer ≢ Cancel → Unfolds (entering above directory entry answer) ps
      → VisitsLevel hash told (record { above = above; directory = directory; entry = entry } ∷ []) (visit_of (directory ++ entry.filename) entry answer ∷ []) ps
  level_of above directory entry answer ps on_ h = go (is_entered entry answer) refl h where
    go : (b : Bool) → is_entered entry answer ≡ b → Unfolds (if b then Enter above (directory ++ entry.filename ++ 47 ∷ []) entry.oid ∷ [] else []) ps
        → VisitsLevel hash told (record { above = above; directory = directory; entry = entry } ∷ []) (visit_of (directory ++ entry.filename) entry answer ∷ []) ps
    go false out h =
        let place : Place = record { above = above; directory = directory; entry = entry } in
        subst (VisitsLevel hash told (place ∷ []) (visit_at place answer ∷ [])) (sym h) (level_passed place answer [] [] [] on_ out level_none)
    go true into (apart, inner, tree, rest, is, none) =
        let place : Place = record { above = above; directory = directory; entry = entry } in
        let e = goes_on entry answer into in
        let own = places_of (above ++ entry.oid ∷ []) (directory ++ entry.filename ++ 47 ∷ []) inner in
        let here : VisitsLevel hash told (place ∷ []) (visit_at place Continue ∷ []) (own ++ []) =
        level_entered place inner [] [] [] (subst (λ a. is_entered entry a ≡ true) (sym e) into) apart tree level_none in
        subst (λ a. VisitsLevel hash told (place ∷ []) (visit_at place a ∷ []) ps) e (subst (VisitsLevel hash told (place ∷ []) (visit_at place Continue ∷ [])) (sym (is ∙ ap (λ w. own ++ w) none)) here)

  by_levels : (root : ObjectId) (entries : List Entry) {visits : List TreeVisit} {ahead : List Task} → IsTraversal hash told BreadthFirst root entries visits ahead
      → (ps : List Place) (more : List TreeVisit) → Unfolds ahead ps → VisitsLevels hash told ps more → VisitsLevels hash told (places_of (root ∷ []) [] entries) (visits ++ more)
  by_levels root entries begun ps more u lv = subst (λ w. VisitsLevels hash told w more) (unfolds_visits (root ∷ []) [] entries ps u) lv
  by_levels root entries (visited visits above directory entry ahead answer before on_) ps more u lv =
      let v = visit_of (directory ++ entry.filename) entry answer in
      let place : Place = record { above = above; directory = directory; entry = entry } in
      let (pa, pe, is, ua, ue) = unfolds_split ahead (entering above directory entry answer) ps u in
      let joined : VisitsLevels hash told (place ∷ pa) (v ∷ more) = levels_join lv (place ∷ []) pa pe (v ∷ []) is (level_of above directory entry answer pe on_ ue) in
      subst (VisitsLevels hash told (places_of (root ∷ []) [] entries)) (sym (append_assoc visits (v ∷ []) more)) (by_levels root entries before (place ∷ pa) (v ∷ more) (pa, refl, ua) joined)
  by_levels root entries (entered visits above directory id ahead inner before apart tree) ps more u lv =
      let (pi, pa, is, ui, ua) = unfolds_split (visits_of (above ++ id ∷ []) directory inner) ahead ps u in
      by_levels root entries before ps more (apart, inner, tree, pa, is ∙ ap (λ w. w ++ pa) (unfolds_visits (above ++ id ∷ []) directory inner pi ui), ua) lv

pub depth_first_is_nested : DepthFirstIsNested
depth_first_is_nested hash told root entries visits h =
    subst (VisitsNested hash told (root ∷ []) [] entries) (append-nil visits) (nested_so_far hash told root entries h [] refl)

pub breadth_first_is_by_levels : BreadthFirstIsByLevels
breadth_first_is_by_levels hash told root entries visits h =
    subst (VisitsLevels hash told (places_of (root ∷ []) [] entries)) (append-nil visits) (by_levels hash told root entries h [] [] refl levels_none)
