-- A traversal that goes on, depth first.
use Rattle.std.proofs.Common.{◌≡◌, ◌≢◌, ℕ, suc, zero, true, false, cond, ◌+◌, ◌≤◌, ◌<◌, ◌++◌, inr, List, [], ◌∷◌, take, drop, length, get_or, Option, Some, None, Contains, refl, sym, ap, ap₂, ◌∙◌, subst, arith, append_assoc, append-nil, length-append}
use Rattle.std.proofs.lemmas.List.{take_all}
use Rattle.std.proofs.Math.Seq.{take-append_seam}
use Rattle.gx_hash.specs.declared.oid.ObjectId.{ObjectId}
use Rattle.gx_object.specs.declared.tree.Entry.{Entry}
use Rattle.gx_object.specs.TreeSpelling.{SpellsTree}
use Rattle.gx_store.specs.State.{StoreState}
use Rattle.gx_walk.specs.declared.error.WalkError.{WalkError}
use Rattle.gx_walk.specs.declared.error.WalkError.TheVariants as walk_error
use Rattle.gx_walk.specs.declared.tree.visit.Action.{Action}
use Rattle.gx_walk.specs.declared.tree.visit.Action.TheVariants.{Continue, Skip, Cancel}
use Rattle.gx_walk.specs.Visits.{TreeVisit, visit_of, with_visits, Counts, Answered}
use Rattle.gx_walk.specs.Traversal.{Task, IsTraversal, IsTreeIn, visits_of, entering, queued, is_entered}
use Rattle.gx_walk.specs.Traversal.Order.{DepthFirst}
use Rattle.gx_walk.specs.Traversal.Task.{Visit, Enter}
use Rattle.gx_walk.specs.Traversal.IsTraversal.{begun, visited, entered}
use Rattle.gx_walk.specs.Stops.{HasCome, IsWhole, IsAtTree, TraversalCauses}
use Rattle.gx_walk.specs.OpenTree.{above_of, OpenCauses}
use Rattle.gx_walk.specs.declared.tree.open_tree.OpenTree.{OpenTree}
use Rattle.gx_walk.proofs.AheadLemmas.{left_of, ahead_of, Rise, next_of, ahead_next, above_next, ahead_push, none_left, ahead_close, rise_next, rise_push, rise_pop, ahead_same, take_shorter}

-- ---- visits that are told

pub told_nil : (old : Option (List TreeVisit)) → old ≡ with_visits [] old
told_nil None = refl
told_nil (Some vs) = ap Some (sym (append-nil vs))

pub told_more : (old : Option (List TreeVisit)) (vs ws : List TreeVisit) → with_visits ws (with_visits vs old) ≡ with_visits (vs ++ ws) old
told_more None vs ws = refl
told_more (Some us) vs ws = ap Some (append_assoc us vs ws)

pub told_end : (old : Option (List TreeVisit)) (vs : List TreeVisit) → with_visits vs old ≡ with_visits (vs ++ []) old
told_end old vs = ap (λ ws. with_visits ws old) (sym (append-nil vs))

pub kept_count : (answer : Action) (before after : ℕ) → (answer ≢ Cancel) → Counts answer before after → after ≡ before
kept_count Continue before after other h = h
kept_count Skip before after other h = h
kept_count Cancel before after other h = absurd (other refl)

-- ---- where the loop stands

module _ (state : StoreState) (root : ObjectId) (bytes : List ℕ) (old : Option (List TreeVisit)) (before : ℕ) where
  abbrev Made : List Entry → List TreeVisit → List Task → Type 0
  Made = IsTraversal state.hash state.content DepthFirst root

  -- The trees that are entered and not left have these entries ahead.
  pub record IsGoing (levels : List OpenTree) (tree : OpenTree) (path : List ℕ) (new : Option (List TreeVisit)) (after : ℕ) : Type 0 where
    pub entries : List Entry
    pub visits : List TreeVisit
    pub root_is : SpellsTree state.hash bytes entries
    pub made : Made entries visits (ahead_of [] levels tree path)
    pub told : new ≡ with_visits visits old
    pub count : after ≡ before
    pub size : length path ≡ tree.at
    pub rise : Rise 0 levels tree

  -- A tree is to be entered.
  pub record IsEntering (levels : List OpenTree) (tree : OpenTree) (entry : Entry) (path text : List ℕ) (new : Option (List TreeVisit)) (after : ℕ) : Type 0 where
    pub entries : List Entry
    pub visits : List TreeVisit
    pub root_is : SpellsTree state.hash bytes entries
    pub made : Made entries visits (Enter (above_of [] levels tree) (text ++ 47 ∷ []) entry.oid ∷ ahead_of [] levels (next_of tree) path)
    pub told : new ≡ with_visits visits old
    pub count : after ≡ before
    pub size : length path ≡ tree.at
    pub rise : Rise 0 levels tree
    pub text_is : text ≡ path ++ entry.filename

  pub going_first : (tree : OpenTree) (levels : List OpenTree) (path : List ℕ) → levels ≡ [] → path ≡ [] → SpellsTree state.hash bytes tree.entries.items → tree.id ≡ root → tree.place ≡ 0 → tree.at ≡ 0 → IsGoing levels tree path old before
  going_first tree levels path none empty spells id place at = subst (λ ls. IsGoing ls tree path old before) (sym none) (subst (λ p. IsGoing [] tree p old before) (sym empty) (record {
    entries = tree.entries.items;
    visits = [];
    root_is = spells;
    made = subst (Made tree.entries.items []) tasks begun;
    told = told_nil old;
    count = refl;
    size = sym at;
    rise = omega arith;
  }))
    where
      tasks : visits_of (root ∷ []) [] tree.entries.items ≡ ahead_of [] [] tree []
      tasks = ap (λ (i : ObjectId). visits_of (i ∷ []) [] tree.entries.items) (sym id) ∙ ap₂ (λ (b : List ℕ) (es : List Entry). visits_of (tree.id ∷ []) b es) (sym (ap (λ n. take n []) at)) (sym (ap (λ n. drop n tree.entries.items) place))

  made_at : {levels : List OpenTree} {tree : OpenTree} {path : List ℕ} {new : Option (List TreeVisit)} {after : ℕ} (g : IsGoing levels tree path new after) (e : Entry) → tree.place < length tree.entries.items → e ≡ get_or tree.entries.items tree.place e →
      Made g.entries g.visits (Visit (above_of [] levels tree) path e ∷ ahead_of [] levels (next_of tree) path)
  made_at {levels = levels} {tree = tree} {path = path} g e less is =
      subst (Made g.entries g.visits) (ahead_next [] levels tree path e less is ∙ ap (λ (p : List ℕ). Visit (above_of [] levels tree) p e ∷ ahead_of [] levels (next_of tree) path) (take_all tree.at path (omega (arith, g.size)))) g.made

  come : {levels : List OpenTree} {tree : OpenTree} {path : List ℕ} {new : Option (List TreeVisit)} {after : ℕ} → IsGoing levels tree path new after → HasCome state DepthFirst root bytes old new [] (ahead_of [] levels tree path)
  come g = record { entries = g.entries; visits = g.visits; root_is = g.root_is; made = g.made; told = g.told ∙ told_end old g.visits }

  pub going_done : (levels : List OpenTree) (tree : OpenTree) (path : List ℕ) (new : Option (List TreeVisit)) (after : ℕ) → levels ≡ [] → length tree.entries.items ≤ tree.place → IsGoing levels tree path new after → IsWhole state DepthFirst root bytes old new
  going_done levels tree path new after none end g = subst (HasCome state DepthFirst root bytes old new []) (ap (λ ls. ahead_of [] ls tree path) none ∙ none_left (tree.id ∷ []) tree path end) (come g)

  pub going_count : {levels : List OpenTree} {tree : OpenTree} {path : List ℕ} {new : Option (List TreeVisit)} {after : ℕ} → IsGoing levels tree path new after → after ≡ before
  going_count g = g.count

  pub going_stop : {levels : List OpenTree} {tree : OpenTree} {path : List ℕ} {new : Option (List TreeVisit)} {after : ℕ} (now : Option (List TreeVisit)) (count : ℕ) → now ≡ new → count ≡ after → IsGoing levels tree path new after → TraversalCauses state DepthFirst root bytes old now before count walk_error.NoMemory
  going_stop {levels = levels} {tree = tree} {path = path} now count same counted g = (counted ∙ g.count, inr (ahead_of [] levels tree path, subst (λ n. HasCome state DepthFirst root bytes old n [] (ahead_of [] levels tree path)) (sym same) (come g)))

  pub going_close : (levels all : List OpenTree) (tree above : OpenTree) (path cut : List ℕ) (new : Option (List TreeVisit)) (after : ℕ) → all ≡ levels ++ above ∷ [] → length tree.entries.items ≤ tree.place → cut ≡ take above.at path → IsGoing all tree path new after → IsGoing levels above cut new after
  going_close levels all tree above path cut new after is end cut_is g =
      let r = rise_pop 0 levels above tree (subst (λ ls. Rise 0 ls tree) is g.rise) in
      let long : above.at ≤ length path = omega (arith, r.1, g.size) in
      record {
        entries = g.entries;
        visits = g.visits;
        root_is = g.root_is;
        made = subst (Made g.entries g.visits) (ap (λ ls. ahead_of [] ls tree path) is ∙ ahead_close levels above tree path end ∙ ahead_same [] 0 levels above path cut r.0 (sym (ap (take above.at) cut_is ∙ take_shorter above.at above.at path (omega arith)))) g.made;
        told = g.told;
        count = g.count;
        size = ap length cut_is ∙ cut_length above.at path long;
        rise = r.0;
      }
    where
      cut_length : (n : ℕ) (xs : List ℕ) → n ≤ length xs → length (take n xs) ≡ n
      cut_length zero xs h = refl
      cut_length (suc n) [] h = absurd (omega (arith, h))
      cut_length (suc n) (x ∷ xs) h = ap suc (cut_length n xs (omega (arith, h)))

  pub going_cancelled : {levels : List OpenTree} {tree : OpenTree} {path : List ℕ} {new : Option (List TreeVisit)} {after : ℕ} (e : Entry) (text : List ℕ) (action : Action) (now : Option (List TreeVisit)) (count : ℕ) →
      tree.place < length tree.entries.items → e ≡ get_or tree.entries.items tree.place e → text ≡ path ++ e.filename → action ≡ Cancel → Answered (visit_of text e action) new now after count → IsGoing levels tree path new after →
      TraversalCauses state DepthFirst root bytes old now before count walk_error.Cancelled
  going_cancelled {levels = levels} {tree = tree} {path = path} {new = new} {after = after} e text action now count less is text_is cancel answered g =
      let count_is : Counts Cancel after count = subst (λ a. Counts a after count) cancel answered.count in (
        subst (λ n. Counts Cancel n count) g.count count_is,
        record {
          above = above_of [] levels tree;
          directory = path;
          entry = e;
          ahead = ahead_of [] levels (next_of tree) path;
          come = record {
            entries = g.entries;
            visits = g.visits;
            root_is = g.root_is;
            made = made_at g e less is;
            told = answered.told ∙ ap₂ (λ (t : List ℕ) (a : Action). with_visits (visit_of t e a ∷ []) new) text_is cancel ∙ ap (with_visits (visit_of (path ++ e.filename) e Cancel ∷ [])) g.told ∙ told_more old g.visits (visit_of (path ++ e.filename) e Cancel ∷ []);
          };
        },
      )

  -- after a visit
  told_visit : {levels : List OpenTree} {tree : OpenTree} {path : List ℕ} {new : Option (List TreeVisit)} {after : ℕ} (e : Entry) (text : List ℕ) (action : Action) (now : Option (List TreeVisit)) (count : ℕ) → text ≡ path ++ e.filename →
      Answered (visit_of text e action) new now after count → (g : IsGoing levels tree path new after) → now ≡ with_visits (g.visits ++ visit_of (path ++ e.filename) e action ∷ []) old
  told_visit {path = path} {new = new} e text action now count text_is answered g =
      answered.told ∙ ap (λ (t : List ℕ). with_visits (visit_of t e action ∷ []) new) text_is ∙ ap (with_visits (visit_of (path ++ e.filename) e action ∷ [])) g.told ∙ told_more old g.visits (visit_of (path ++ e.filename) e action ∷ [])

  pub going_over : {levels : List OpenTree} {tree : OpenTree} {path : List ℕ} {new : Option (List TreeVisit)} {after : ℕ} (e : Entry) (text cut : List ℕ) (action : Action) (now : Option (List TreeVisit)) (count : ℕ) →
      tree.place < length tree.entries.items → e ≡ get_or tree.entries.items tree.place e → text ≡ path ++ e.filename → cut ≡ take tree.at text → (action ≢ Cancel) → is_entered e action ≡ false → Answered (visit_of text e action) new now after count →
      IsGoing levels tree path new after → IsGoing levels (next_of tree) cut now count
  going_over {levels = levels} {tree = tree} {path = path} {after = after} e text cut action now count less is text_is cut_is other over answered g =
      let same : cut ≡ path = cut_is ∙ ap₂ take (sym g.size) text_is ∙ take-append_seam path e.filename in
      let step : Made g.entries (g.visits ++ visit_of (path ++ e.filename) e action ∷ []) (queued DepthFirst (entering (above_of [] levels tree) path e action) (ahead_of [] levels (next_of tree) path)) =
      visited g.visits (above_of [] levels tree) path e (ahead_of [] levels (next_of tree) path) action (made_at g e less is) other in
      record {
        entries = g.entries;
        visits = g.visits ++ visit_of (path ++ e.filename) e action ∷ [];
        root_is = g.root_is;
        made = subst (Made g.entries (g.visits ++ visit_of (path ++ e.filename) e action ∷ []))
            (ap (λ b. cond b (Enter (above_of [] levels tree) (path ++ e.filename ++ 47 ∷ []) e.oid ∷ []) [] ++ ahead_of [] levels (next_of tree) path) over ∙ ap (ahead_of [] levels (next_of tree)) (sym same)) step;
        told = told_visit e text action now count text_is answered g;
        count = kept_count action after count other answered.count ∙ g.count;
        size = ap length same ∙ g.size;
        rise = rise_next 0 levels tree g.rise;
      }

  pub going_enter : {levels : List OpenTree} {tree : OpenTree} {path : List ℕ} {new : Option (List TreeVisit)} {after : ℕ} (e : Entry) (text : List ℕ) (action : Action) (now : Option (List TreeVisit)) (count : ℕ) →
      tree.place < length tree.entries.items → e ≡ get_or tree.entries.items tree.place e → text ≡ path ++ e.filename → (action ≢ Cancel) → is_entered e action ≡ true → Answered (visit_of text e action) new now after count →
      IsGoing levels tree path new after → IsEntering levels tree e path text now count
  going_enter {levels = levels} {tree = tree} {path = path} {after = after} e text action now count less is text_is other over answered g =
      let step : Made g.entries (g.visits ++ visit_of (path ++ e.filename) e action ∷ []) (queued DepthFirst (entering (above_of [] levels tree) path e action) (ahead_of [] levels (next_of tree) path)) =
      visited g.visits (above_of [] levels tree) path e (ahead_of [] levels (next_of tree) path) action (made_at g e less is) other in
      record {
        entries = g.entries;
        visits = g.visits ++ visit_of (path ++ e.filename) e action ∷ [];
        root_is = g.root_is;
        made = subst (Made g.entries (g.visits ++ visit_of (path ++ e.filename) e action ∷ []))
            (ap (λ b. cond b (Enter (above_of [] levels tree) (path ++ e.filename ++ 47 ∷ []) e.oid ∷ []) [] ++ ahead_of [] levels (next_of tree) path) over
            ∙ ap (λ (p : List ℕ). Enter (above_of [] levels tree) p e.oid ∷ ahead_of [] levels (next_of tree) path) (ap (λ t. t ++ 47 ∷ []) (sym text_is))) step;
        told = told_visit e text action now count text_is answered g;
        count = kept_count action after count other answered.count ∙ g.count;
        size = g.size;
        rise = g.rise;
        text_is = text_is;
      }

  module _ {levels : List OpenTree} {tree : OpenTree} {e : Entry} {path text : List ℕ} {new : Option (List TreeVisit)} {after : ℕ} (n : IsEntering levels tree e path text new after) where
    abbrev at_tree : IsAtTree state DepthFirst root bytes old new e.oid
    at_tree = record {
      above = above_of [] levels tree;
      directory = text ++ 47 ∷ [];
      ahead = ahead_of [] levels (next_of tree) path;
      come = record { entries = n.entries; visits = n.visits; root_is = n.root_is; made = n.made; told = n.told ∙ told_end old n.visits };
    }

    pub enter_cycle : Contains (above_of [] levels tree) e.oid → TraversalCauses state DepthFirst root bytes old new before after (walk_error.TreeCycle e.oid)
    enter_cycle among = (n.count, at_tree, among)

    pub enter_stop : TraversalCauses state DepthFirst root bytes old new before after walk_error.NoMemory
    enter_stop = (n.count, inr (_, at_tree.come))

    pub enter_failed : (error : WalkError) → OpenCauses state e.oid error → TraversalCauses state DepthFirst root bytes old new before after error
    enter_failed walk_error.NoMemory h = enter_stop
    enter_failed (walk_error.Store fault) h = (n.count, e.oid, at_tree, h)
    enter_failed (walk_error.Missing id) h = (n.count, subst (IsAtTree state DepthFirst root bytes old new) (sym h.0) at_tree, (let own : OpenCauses state e.oid (walk_error.Missing e.oid) = (refl, h.1) in subst (λ i. OpenCauses state i (walk_error.Missing i)) (sym h.0) own))
    enter_failed (walk_error.NotATree id) h = (n.count, subst (IsAtTree state DepthFirst root bytes old new) (sym h.0) at_tree, (let own : OpenCauses state e.oid (walk_error.NotATree e.oid) = (refl, h.1) in subst (λ i. OpenCauses state i (walk_error.NotATree i)) (sym h.0) own))
    enter_failed (walk_error.Decode id) h = (n.count, inr (subst (IsAtTree state DepthFirst root bytes old new) (sym h.0) at_tree, (let own : OpenCauses state e.oid (walk_error.Decode e.oid) = (refl, h.1) in subst (λ i. OpenCauses state i (walk_error.Decode i)) (sym h.0) own)))
    enter_failed walk_error.Cancelled h = absurd h
    enter_failed (walk_error.NotACommit id) h = absurd h
    enter_failed (walk_error.TreeCycle id) h = absurd h

    pub enter_done : (all : List OpenTree) (inner : OpenTree) (whole : List ℕ) → all ≡ levels ++ next_of tree ∷ [] → whole ≡ text ++ 47 ∷ [] → ¬ Contains (above_of [] levels tree) e.oid → IsTreeIn state.hash state.content e.oid inner.entries.items →
        inner.id ≡ e.oid → inner.place ≡ 0 → inner.at ≡ length whole → IsGoing all inner whole new after
    enter_done all inner whole all_is whole_is apart opened id place at =
        let step : Made n.entries n.visits (visits_of (above_of [] levels tree ++ e.oid ∷ []) (text ++ 47 ∷ []) inner.entries.items ++ ahead_of [] levels (next_of tree) path) =
        entered n.visits (above_of [] levels tree) (text ++ 47 ∷ []) e.oid (ahead_of [] levels (next_of tree) path) inner.entries.items n.made apart opened in
        let front : take tree.at path ≡ take tree.at whole = ap (λ i. take i path) (sym n.size) ∙ take_all (length path) path (omega arith) ∙ sym (ap₂ take (sym n.size) (whole_is ∙ ap (λ t. t ++ 47 ∷ []) n.text_is ∙ append_assoc path e.filename (47 ∷ [])) ∙ take-append_seam path (e.filename ++ 47 ∷ [])) in
        let long : length whole ≡ length path + (length e.filename + 1) = ap length (whole_is ∙ ap (λ t. t ++ 47 ∷ []) n.text_is ∙ append_assoc path e.filename (47 ∷ [])) ∙ length_two path e.filename in
        let own : visits_of (above_of [] levels tree ++ e.oid ∷ []) (text ++ 47 ∷ []) inner.entries.items ≡ left_of (above_of [] levels (next_of tree) ++ inner.id ∷ []) inner whole =
        ap₂ (λ (a : List ObjectId) (i : ObjectId). visits_of (a ++ i ∷ []) (text ++ 47 ∷ []) inner.entries.items) (sym (above_next [] levels tree)) (sym id)
        ∙ ap₂ (λ (b : List ℕ) (k : ℕ). visits_of (above_of [] levels (next_of tree) ++ inner.id ∷ []) b (drop k inner.entries.items)) (sym (ap (λ i. take i whole) at ∙ take_all (length whole) whole (omega arith) ∙ whole_is)) (sym place) in
        let rest : ahead_of [] levels (next_of tree) path ≡ ahead_of [] levels (next_of tree) whole = ahead_same [] 0 levels (next_of tree) path whole (rise_next 0 levels tree n.rise) front in
        record {
          entries = n.entries;
          visits = n.visits;
          root_is = n.root_is;
          made = subst (Made n.entries n.visits) (ap₂ (λ (a b : List Task). a ++ b) own rest ∙ sym (ahead_push [] levels (next_of tree) inner whole) ∙ ap (λ ls. ahead_of [] ls inner whole) (sym all_is)) step;
          told = n.told;
          count = n.count;
          size = sym at;
          rise = subst (λ ls. Rise 0 ls inner) (sym all_is) (rise_push 0 levels (next_of tree) inner (omega (arith, at, long, n.size)) (rise_next 0 levels tree n.rise));
        }
      where
        length_two : (p f : List ℕ) → length (p ++ (f ++ 47 ∷ [])) ≡ length p + (length f + 1)
        length_two p f = grind (arith, length-append)
