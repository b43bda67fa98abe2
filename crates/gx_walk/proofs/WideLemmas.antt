-- A traversal that goes on, breadth first.
use Rattle.std.proofs.Common.{◌≡◌, ◌≢◌, ℕ, true, false, cond, ◌+◌, ◌-◌, ◌*◌, ◌^◌, ◌≤◌, ◌<◌, ◌++◌, inr, List, [], ◌∷◌, map, drop, length, get_or, Option, Contains, refl, sym, ap, ◌∙◌, subst, arith, append_assoc, append-nil}
use Rattle.std.proofs.lemmas.List.{map-append, drop_all}
use Rattle.gx_hash.specs.declared.oid.ObjectId.{ObjectId}
use Rattle.gx_object.specs.declared.tree.Entry.{Entry}
use Rattle.gx_object.specs.TreeSpelling.{SpellsTree}
use Rattle.gx_store.specs.State.{StoreState}
use Rattle.gx_walk.specs.declared.error.WalkError.{WalkError}
use Rattle.gx_walk.specs.declared.error.WalkError.TheVariants as walk_error
use Rattle.gx_walk.specs.declared.tree.visit.Action.{Action}
use Rattle.gx_walk.specs.declared.tree.visit.Action.TheVariants.{Cancel}
use Rattle.gx_walk.specs.Visits.{TreeVisit, visit_of, with_visits, Counts, Answered}
use Rattle.gx_walk.specs.Traversal.{Task, IsTraversal, visits_of, entering, is_entered}
use Rattle.gx_walk.specs.Traversal.Order.{BreadthFirst}
use Rattle.gx_walk.specs.Traversal.Task.{Visit, Enter}
use Rattle.gx_walk.specs.Traversal.IsTraversal.{begun, visited, entered}
use Rattle.gx_walk.specs.Stops.{HasCome, IsWhole, IsAtTree, TraversalCauses}
use Rattle.gx_walk.specs.OpenTree.{OpenCauses}
use Rattle.gx_walk.specs.Breadth.{Waits, HasEntered, EnterCauses}
use Rattle.gx_walk.specs.declared.tree.breadth.Waiting.{Waiting}
use Rattle.gx_walk.specs.declared.tree.breadth.Entered.{Entered}
use Rattle.gx_walk.proofs.AheadLemmas.{rest_of}
use Rattle.gx_walk.proofs.GoingLemmas.{told_nil, told_more, told_end, kept_count}
use Rattle.gx_walk.proofs.WeightLemmas.{power, power_some, power_more}
use Rattle.std.proofs.Math.Nat.{suc-mul, mul-le-mul_right}

abbrev pub enter_of : Waiting → Task
enter_of w = Enter w.above.items w.path.items w.id

abbrev pub ahead_wide : Entered → List Waiting → List Task
ahead_wide t ws = visits_of t.above.items t.path.items (drop t.place t.entries.items) ++ map enter_of ws

abbrev pub next_wide : Entered → Entered
next_wide t = record { above = t.above; path = t.path; entries = t.entries; place = t.place + 1 }

same_task : (above : List ObjectId) (path : List ℕ) (id : ObjectId) (w : Waiting) → Waits above path id w → enter_of w ≡ Enter above path id
same_task above path id w h = λ i. Enter (h.above_is i) (h.path_is i) (h.id_is i)

module _ (state : StoreState) (root : ObjectId) (bytes : List ℕ) (old : Option (List TreeVisit)) (before : ℕ) where
  abbrev Made : List Entry → List TreeVisit → List Task → Type 0
  Made = IsTraversal state.hash state.content BreadthFirst root

  pub record IsWide (tree : Entered) (queue : List Waiting) (new : Option (List TreeVisit)) (after : ℕ) : Type 0 where
    pub entries : List Entry
    pub visits : List TreeVisit
    pub root_is : SpellsTree state.hash bytes entries
    pub made : Made entries visits (ahead_wide tree queue)
    pub told : new ≡ with_visits visits old
    pub count : after ≡ before

  pub wide_first : (tree : Entered) (queue : List Waiting) → queue ≡ [] → tree.above.items ≡ root ∷ [] → tree.path.items ≡ [] → tree.place ≡ 0 → SpellsTree state.hash bytes tree.entries.items → IsWide tree queue old before
  wide_first tree queue none above path place spells = record {
    entries = tree.entries.items;
    visits = [];
    root_is = spells;
    made = subst (Made tree.entries.items []) tasks begun;
    told = told_nil old;
    count = refl;
  }
    where
      tasks : visits_of (root ∷ []) [] tree.entries.items ≡ ahead_wide tree queue
      tasks = sym (append-nil (visits_of (root ∷ []) [] tree.entries.items)) ∙ (λ i. visits_of (sym above i) (sym path i) (drop (sym place i) tree.entries.items) ++ map enter_of (sym none i))

  module _ {tree : Entered} {queue : List Waiting} {new : Option (List TreeVisit)} {after : ℕ} (g : IsWide tree queue new after) where
    come : HasCome state BreadthFirst root bytes old new [] (ahead_wide tree queue)
    come = record { entries = g.entries; visits = g.visits; root_is = g.root_is; made = g.made; told = g.told ∙ told_end old g.visits }

    finished : length tree.entries.items ≤ tree.place → ahead_wide tree queue ≡ map enter_of queue
    finished end = ap (λ es. visits_of tree.above.items tree.path.items es ++ map enter_of queue) (drop_all tree.place tree.entries.items end)

    pub wide_done : queue ≡ [] → length tree.entries.items ≤ tree.place → IsWhole state BreadthFirst root bytes old new
    wide_done none end = subst (HasCome state BreadthFirst root bytes old new []) (finished end ∙ ap (map enter_of) none) come

    pub wide_stop : (now : Option (List TreeVisit)) (count : ℕ) → now ≡ new → count ≡ after → TraversalCauses state BreadthFirst root bytes old now before count walk_error.NoMemory
    wide_stop now count same counted = (counted ∙ g.count, inr (ahead_wide tree queue, subst (λ n. HasCome state BreadthFirst root bytes old n [] (ahead_wide tree queue)) (sym same) come))

    module _ (w : Waiting) (rest : List Waiting) (split : queue ≡ w ∷ rest) (end : length tree.entries.items ≤ tree.place) where
      at_next : Made g.entries g.visits (enter_of w ∷ map enter_of rest)
      at_next = subst (Made g.entries g.visits) (finished end ∙ ap (map enter_of) split) g.made

      abbrev next_tree : IsAtTree state BreadthFirst root bytes old new w.id
      next_tree = record { above = w.above.items; directory = w.path.items; ahead = map enter_of rest; come = record { entries = g.entries; visits = g.visits; root_is = g.root_is; made = at_next; told = g.told ∙ told_end old g.visits } }

      pub wide_entered : (t : Entered) → HasEntered state w t → IsWide t rest new after
      wide_entered t h = record {
        entries = g.entries;
        visits = g.visits;
        root_is = g.root_is;
        made = subst (Made g.entries g.visits) (λ i. visits_of (sym h.above_is i) (sym h.path_is i) (drop (sym h.place_is i) t.entries.items) ++ map enter_of rest) (entered g.visits w.above.items w.path.items w.id (map enter_of rest) t.entries.items at_next h.apart h.stored);
        told = g.told;
        count = g.count;
      }

      named : (id : ObjectId) (F : ObjectId → WalkError) → id ≡ w.id → IsAtTree state BreadthFirst root bytes old new id
      named id F is = subst (IsAtTree state BreadthFirst root bytes old new) (sym is) next_tree

      pub wide_failed : (error : WalkError) → EnterCauses state w error → TraversalCauses state BreadthFirst root bytes old new before after error
      wide_failed walk_error.NoMemory h = (g.count, inr (_, next_tree.come))
      wide_failed (walk_error.TreeCycle id) h =
          let own : (s : IsAtTree state BreadthFirst root bytes old new w.id) × Contains s.above w.id = (next_tree, h.1) in
          let q : (s : IsAtTree state BreadthFirst root bytes old new id) × Contains s.above id = subst (λ i. (s : IsAtTree state BreadthFirst root bytes old new i) × Contains s.above i) (sym h.0) own in
          (g.count, q.0, q.1)
      wide_failed (walk_error.Store fault) h = (g.count, w.id, next_tree, h)
      wide_failed (walk_error.Missing id) h = (g.count, subst (IsAtTree state BreadthFirst root bytes old new) (sym h.0) next_tree, (let own : OpenCauses state w.id (walk_error.Missing w.id) = (refl, h.1) in subst (λ i. OpenCauses state i (walk_error.Missing i)) (sym h.0) own))
      wide_failed (walk_error.NotATree id) h = (g.count, subst (IsAtTree state BreadthFirst root bytes old new) (sym h.0) next_tree, (let own : OpenCauses state w.id (walk_error.NotATree w.id) = (refl, h.1) in subst (λ i. OpenCauses state i (walk_error.NotATree i)) (sym h.0) own))
      wide_failed (walk_error.Decode id) h = (g.count, inr (subst (IsAtTree state BreadthFirst root bytes old new) (sym h.0) next_tree, (let own : OpenCauses state w.id (walk_error.Decode w.id) = (refl, h.1) in subst (λ i. OpenCauses state i (walk_error.Decode i)) (sym h.0) own)))
      wide_failed walk_error.Cancelled h = absurd h
      wide_failed (walk_error.NotACommit id) h = absurd h

    module _ (e : Entry) (text : List ℕ) (action : Action) (now : Option (List TreeVisit)) (count : ℕ) (less : tree.place < length tree.entries.items) (is : e ≡ get_or tree.entries.items tree.place e) (text_is : text ≡ tree.path.items ++ e.filename) (answered : Answered (visit_of text e action) new now after count) where
      made_at : Made g.entries g.visits (Visit tree.above.items tree.path.items e ∷ ahead_wide (next_wide tree) queue)
      made_at = subst (Made g.entries g.visits) (ap (λ es. visits_of tree.above.items tree.path.items es ++ map enter_of queue) (rest_of tree.entries.items tree.place e less is)) g.made

      told_visit : now ≡ with_visits (g.visits ++ visit_of (tree.path.items ++ e.filename) e action ∷ []) old
      told_visit = answered.told ∙ ap (λ (t : List ℕ). with_visits (visit_of t e action ∷ []) new) text_is ∙ ap (with_visits (visit_of (tree.path.items ++ e.filename) e action ∷ [])) g.told ∙ told_more old g.visits (visit_of (tree.path.items ++ e.filename) e action ∷ [])

      pub wide_cancelled : action ≡ Cancel → TraversalCauses state BreadthFirst root bytes old now before count walk_error.Cancelled
      wide_cancelled cancel =
          let count_is : Counts Cancel after count = subst (λ a. Counts a after count) cancel answered.count in (
            subst (λ n. Counts Cancel n count) g.count count_is,
            record {
              above = tree.above.items;
              directory = tree.path.items;
              entry = e;
              ahead = ahead_wide (next_wide tree) queue;
              come = record { entries = g.entries; visits = g.visits; root_is = g.root_is; made = made_at; told = told_visit ∙ ap (λ (a : Action). with_visits (g.visits ++ visit_of (tree.path.items ++ e.filename) e a ∷ []) old) cancel };
            },
          )

      module _ (other : action ≢ Cancel) where
        step : Made g.entries (g.visits ++ visit_of (tree.path.items ++ e.filename) e action ∷ []) (ahead_wide (next_wide tree) queue ++ entering tree.above.items tree.path.items e action)
        step = visited g.visits tree.above.items tree.path.items e (ahead_wide (next_wide tree) queue) action made_at other

        pub wide_over : is_entered e action ≡ false → IsWide (next_wide tree) queue now count
        wide_over over = record {
          entries = g.entries;
          visits = g.visits ++ visit_of (tree.path.items ++ e.filename) e action ∷ [];
          root_is = g.root_is;
          made = subst (Made g.entries (g.visits ++ visit_of (tree.path.items ++ e.filename) e action ∷ [])) (ap (λ b. ahead_wide (next_wide tree) queue ++ cond b (Enter tree.above.items (tree.path.items ++ e.filename ++ 47 ∷ []) e.oid ∷ []) []) over ∙ append-nil (ahead_wide (next_wide tree) queue)) step;
          told = told_visit;
          count = kept_count action after count other answered.count ∙ g.count;
        }

        module _ (over : is_entered e action ≡ true) where
          made_enter : Made g.entries (g.visits ++ visit_of (tree.path.items ++ e.filename) e action ∷ []) (ahead_wide (next_wide tree) queue ++ Enter tree.above.items (text ++ 47 ∷ []) e.oid ∷ [])
          made_enter = subst (Made g.entries (g.visits ++ visit_of (tree.path.items ++ e.filename) e action ∷ [])) (ap (λ b. ahead_wide (next_wide tree) queue ++ cond b (Enter tree.above.items (tree.path.items ++ e.filename ++ 47 ∷ []) e.oid ∷ []) []) over ∙ ap (λ (t : List ℕ). ahead_wide (next_wide tree) queue ++ Enter tree.above.items (t ++ 47 ∷ []) e.oid ∷ []) (sym text_is)) step

          pub wide_halt : TraversalCauses state BreadthFirst root bytes old now before count walk_error.NoMemory
          wide_halt = (kept_count action after count other answered.count ∙ g.count, inr (_, record { entries = g.entries; visits = g.visits ++ visit_of (tree.path.items ++ e.filename) e action ∷ []; root_is = g.root_is; made = made_enter; told = told_visit ∙ told_end old (g.visits ++ visit_of (tree.path.items ++ e.filename) e action ∷ []) }))

          pub wide_queued : (w : Waiting) (all : List Waiting) → Waits tree.above.items (text ++ 47 ∷ []) e.oid w → all ≡ queue ++ w ∷ [] → IsWide (next_wide tree) all now count
          wide_queued w all waits all_is = record {
            entries = g.entries;
            visits = g.visits ++ visit_of (tree.path.items ++ e.filename) e action ∷ [];
            root_is = g.root_is;
            made = subst (Made g.entries (g.visits ++ visit_of (tree.path.items ++ e.filename) e action ∷ []))
                (append_assoc (visits_of tree.above.items tree.path.items (drop (tree.place + 1) tree.entries.items)) (map enter_of queue) (Enter tree.above.items (text ++ 47 ∷ []) e.oid ∷ [])
                ∙ ap (λ ts. visits_of tree.above.items tree.path.items (drop (tree.place + 1) tree.entries.items) ++ ts) (ap (λ (t : Task). map enter_of queue ++ t ∷ []) (sym (same_task tree.above.items (text ++ 47 ∷ []) e.oid w waits)) ∙ sym (map-append enter_of queue (w ∷ [])) ∙ ap (map enter_of) (sym all_is))) made_enter;
            told = told_visit;
            count = kept_count action after count other answered.count ∙ g.count;
          }

-- ---- it ends

-- more than any number of steps below a tree that waits
abbrev pub heavy : ℕ → Waiting → ℕ
heavy room w = (2 ^ 64 + 1) * power (room - (length w.above.items + 1))

abbrev pub heavy_all : ℕ → List Waiting → ℕ
heavy_all room [] = 0
heavy_all room (w ∷ ws) = heavy room w + heavy_all room ws

abbrev pub left_wide : Entered → ℕ
left_wide t = length t.entries.items - t.place

abbrev pub weigh_wide : ℕ → Entered → List Waiting → ℕ
weigh_wide room t ws = left_wide t * power (room - length t.above.items) + heavy_all room ws

heavy-push : (room : ℕ) (ws : List Waiting) (w : Waiting) → heavy_all room (ws ++ w ∷ []) ≡ heavy_all room ws + heavy room w
heavy-push room [] w = omega arith
heavy-push room (v ∷ ws) w = let h = heavy-push room ws w in omega arith

one_less : (a b p : ℕ) → a ≡ b + 1 → a * p ≡ b * p + p
one_less a b p e = ap (λ n. n * p) (e ∙ (omega arith)) ∙ suc-mul b p

pub wide_smaller_over : (room : ℕ) (t : Entered) (ws : List Waiting) → t.place < length t.entries.items → weigh_wide room (next_wide t) ws < weigh_wide room t ws
wide_smaller_over room t ws less =
    let e = one_less (left_wide t) (left_wide (next_wide t)) (power (room - length t.above.items)) (omega (arith, less)) in
    let some = power_some (room - length t.above.items) in
    omega arith

pub wide_smaller_queued : (room : ℕ) (t : Entered) (ws all : List Waiting) (w : Waiting) → length t.above.items < room → t.place < length t.entries.items → length w.above.items ≡ length t.above.items → all ≡ ws ++ w ∷ [] → weigh_wide room (next_wide t) all < weigh_wide room t ws
wide_smaller_queued room t ws all w deep less same is =
    let e = one_less (left_wide t) (left_wide (next_wide t)) (power (room - length t.above.items)) (omega (arith, less)) in
    let more : power (room - length t.above.items) ≡ (2 ^ 64 + 2) * power (room - (length w.above.items + 1)) = ap power (omega (arith, deep, same)) ∙ power_more (room - (length w.above.items + 1)) in
    let some = power_some (room - (length w.above.items + 1)) in
    let all_is : heavy_all room all ≡ heavy_all room ws + heavy room w = ap (heavy_all room) is ∙ heavy-push room ws w in
    omega arith

pub wide_smaller_entered : (room : ℕ) (t next : Entered) (queue rest : List Waiting) (w : Waiting) → queue ≡ w ∷ rest → length next.above.items ≡ length w.above.items + 1 → left_wide next ≤ 2 ^ 64 → weigh_wide room next rest < weigh_wide room t queue
wide_smaller_entered room t next queue rest w is same small =
    let some = power_some (room - (length w.above.items + 1)) in
    let most : left_wide next * power (room - (length w.above.items + 1)) ≤ 2 ^ 64 * power (room - (length w.above.items + 1)) = mul-le-mul_right (power (room - (length w.above.items + 1))) small in
    let own : left_wide next * power (room - length next.above.items) ≡ left_wide next * power (room - (length w.above.items + 1)) = ap (λ n. left_wide next * power (room - n)) same in
    let all_is : heavy_all room queue ≡ heavy room w + heavy_all room rest = ap (heavy_all room) is in
    omega arith
