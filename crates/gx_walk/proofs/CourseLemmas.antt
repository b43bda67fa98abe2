-- A walk under way lists what is next.
use Rattle.std.proofs.Common.{◌≡◌, ℕ, ◌≤◌, ℤ, ◌<ℤ◌, true, false, not, List, [], ◌∷◌, ◌++◌, length, take, sym, ap, ◌∙◌, subst, arith, ◌⊎◌, inl, inr, Some, None, IsSome, append-nil}
use Rattle.std.specs.List.{slice_get}
use Rattle.std.proofs.lemmas.Bool.{or_cases, or_right, or_parts, or_from, and_parts, not-true, false≢true, both_ways, false_from_ne_true}
use Rattle.std.proofs.lemmas.Int.{ints}
use Rattle.std.proofs.lemmas.List.{flat_map_more, take-append-le}
use Rattle.gx_hash.specs.declared.oid.ObjectId.{ObjectId}
use Rattle.gx_hash.specs.ObjectIds.{has_id}
use Rattle.gx_walk.specs.History.{History, time_of}
use Rattle.gx_walk.specs.Walk.{PrecedesByTime, Precedes, IsInTime}
use Rattle.gx_walk.specs.Rank.{rank_of, rank_by_time}
use Rattle.gx_walk.specs.Simple.{answer_at, follow, mentioned, AllAsked, AskedWithin, IsAdmitted, IsHidden, IsNamed, IsNextOf, BeginsWalkOf, IsWhole}
use Rattle.gx_walk.specs.Frontier.{is_excluded, Admits, IsFrontier, IsBest, IsSpent, IsEmpty, IsReadFor}
use Rattle.gx_walk.specs.Course.{AreSets, IsUnderWay}
use Rattle.gx_walk.specs.declared.commit.course.Course.{Course}
use Rattle.gx_walk.specs.declared.commit.frontier.Frontier.{Frontier}
use Rattle.gx_walk.specs.declared.commit.frontier.Sets.{Sets}
use Rattle.gx_walk.specs.declared.commit.sorting.CommitTimeOrder.{CommitTimeOrder}
use Rattle.gx_walk.specs.declared.commit.sorting.CommitTimeOrder.TheVariants.{NewestFirst, OldestFirst}
use Rattle.gx_walk.specs.declared.commit.sorting.Sorting.{Sorting}
use Rattle.gx_walk.specs.declared.commit.sorting.Sorting.TheVariants.{BreadthFirst, ByCommitTime, ByCommitTimeCutoff}
use Rattle.gx_walk.specs.declared.commit.sorting.WalkOptions.{WalkOptions}
use Rattle.gx_walk.proofs.IdLemmas.{has_id-append, has_id_get, single, get_push, take_push}
use Rattle.gx_walk.proofs.AskedLemmas.{Answers, answer_on, answer_back}
use Rattle.gx_walk.proofs.FrontierLemmas.{empty_frontier}
use Rattle.gx_walk.proofs.WalkLemmas.{BeginsWalk-push, IsNext-by, mentioned_front}

-- ---- the rank gives the order

by_time_from_rank : (order : CommitTimeOrder) (t u : ℤ) (i j : ℕ) → (rank_by_time order t <ℤ rank_by_time order u) ⊎ ((rank_by_time order t ≡ rank_by_time order u) × (i ≤ j)) → PrecedesByTime order t i u j
by_time_from_rank NewestFirst t u i j h = grind (arith, ints)
by_time_from_rank OldestFirst t u i j h = h

precedes_from_rank : (sorting : Sorting) (t u : ℤ) (i j : ℕ) → (rank_of sorting t <ℤ rank_of sorting u) ⊎ ((rank_of sorting t ≡ rank_of sorting u) × (i ≤ j)) → Precedes sorting t i u j
precedes_from_rank BreadthFirst t u i j h = grind (arith, ints)
precedes_from_rank (ByCommitTime order) t u i j h = by_time_from_rank order t u i j h
precedes_from_rank (ByCommitTimeCutoff order seconds) t u i j h = by_time_from_rank order t u i j h

-- ---- the sets say what is admitted

module _ (history : History) (options : WalkOptions) (sets : Sets) (are : AreSets history options sets) where
  pub outside : (id : ObjectId) → is_excluded sets id ≡ false → (has_id options.boundary id ≡ false) × (¬ IsHidden history options id)
  outside id h =
      let parts = or_parts _ _ h in
      (sym (are.boundary id) ∙ parts.0, λ hidden. both_ways _ parts.1 ((are.hidden id).1 hidden))

  pub inside : (id : ObjectId) → has_id options.boundary id ≡ false → ¬ IsHidden history options id → is_excluded sets id ≡ false
  inside id clear shown = or_from _ _ (are.boundary id ∙ clear) (false_from_ne_true _ (λ e. shown ((are.hidden id).0 e)))

  pub admitted_from : (asked : Answers) (id : ObjectId) → Admits history options.sorting (is_excluded sets) asked id → IsAdmitted history options asked id
  admitted_from asked id a = let (clear, shown) = outside id a.inside in record { inside = clear; shown = shown; answered = a.answered; in_time = a.in_time }

  pub admits_from : (asked : Answers) (id : ObjectId) → IsAdmitted history options asked id → Admits history options.sorting (is_excluded sets) asked id
  admits_from asked id a = record { inside = inside id a.inside a.shown; answered = a.answered; in_time = a.in_time }

  -- the best of all mentions is the next commit
  pub next_from_best : (asked : Answers) (listed : List ObjectId) (x : ObjectId) → IsBest history options.sorting (is_excluded sets) asked (mentioned history options listed) listed x → IsNextOf history options asked listed x
  next_from_best asked listed x h = record {
    place = h.place;
    here = h.here;
    admitted = admitted_from asked x h.admitted;
    unlisted = h.unlisted;
    best = λ j y at_y a u. precedes_from_rank options.sorting _ _ _ _ (h.best j y at_y (admits_from asked y a) u);
  }

  pub all_asked_from : (listed : List ObjectId) (f : Frontier) → IsFrontier history options.sorting (is_excluded sets) (mentioned history options listed) listed f → AllAsked history options f.asked.items listed
  all_asked_from listed f it id among clear shown = it.answered id among (inside id clear shown)

  pub asked_within_from : (listed done : List ObjectId) (f : Frontier) → IsFrontier history options.sorting (is_excluded sets) (mentioned history options listed) done f → AskedWithin history options f.asked.items listed
  asked_within_from listed done f it id some =
      let parts = and_parts (not (is_excluded sets id)) (has_id (mentioned history options listed) id) (sym (it.seen_is id) ∙ it.asked_in id some) in
      let (clear, shown) = outside id (not-true _ parts.0) in
      (parts.1, clear, shown)

-- ---- how a walk begins

pub under_way_start : (history : History) (options : WalkOptions) (course : Course) → AreSets history options course.sets → IsEmpty course.frontier → course.listed.items ≡ [] → course.pending ≡ options.tips → IsUnderWay history options course
under_way_start history options course are empty none pending = record {
  sets = are;
  before = [];
  all = rw (none, pending) (append-nil options.tips);
  front = λ i x y h m. let h2 : None ≡ Some x = rw none at h in cc;
  frontier = rw none (empty_frontier history options.sorting (is_excluded course.sets) course.frontier empty);
  stored = λ id h. absurd (false≢true (rw none at h));
  begins = λ i x h. let h2 : None ≡ Some x = rw none at h in cc;
}

-- ---- how it goes on

module _ (history : History) (options : WalkOptions) (old : Course) (h : IsUnderWay history options old) where
  -- once what is pending was mentioned
  pub all_mentioned : (f : Frontier) (waiting : List ObjectId) → waiting ≡ old.pending
      → ((m l : List ObjectId) → IsFrontier history options.sorting (is_excluded old.sets) m l old.frontier → IsFrontier history options.sorting (is_excluded old.sets) (m ++ waiting) l f)
      → IsFrontier history options.sorting (is_excluded old.sets) (mentioned history options old.listed.items) old.listed.items f
  all_mentioned f waiting same kept =
      subst (λ w. IsFrontier history options.sorting (is_excluded old.sets) w old.listed.items f) (ap (λ w. h.before ++ w) same ∙ sym h.all) (kept h.before old.listed.items h.frontier)

  -- later answers change nothing of how the walk began
  pub begins_later : (asked more : Answers) → asked ≡ old.frontier.asked.items ++ more → BeginsWalkOf history options asked old.listed.items
  begins_later asked more is i x at_x = IsNext-by (follow history options) (time_of history) options.sorting (IsAdmitted history options old.frontier.asked.items) (IsAdmitted history options asked) options.tips (take i old.listed.items) x
      (λ y m a. record { inside = a.inside; shown = a.shown; answered = rw is (answer_on old.frontier.asked.items more y true a.answered); in_time = a.in_time })
      (λ y m a. record {
        inside = a.inside;
        shown = a.shown;
        answered = answer_back old.frontier.asked.items more y true (h.frontier.answered y (h.front i x y at_x m) (inside history options old.sets h.sets y a.inside a.shown)) (rw is at a.answered);
        in_time = a.in_time;
      })
      (h.begins i x at_x)

  -- what waited is among the mentions
  pub waiting_mentioned : (waiting : List ObjectId) → waiting ≡ old.pending → (id : ObjectId) → has_id waiting id ≡ true → has_id (mentioned history options old.listed.items) id ≡ true
  waiting_mentioned waiting same id among = subst (λ w. has_id w id ≡ true) (sym h.all) (rw has_id-append (or_right _ _ (rw same at among)))

  pub named_waiting : (asked : Answers) (waiting : List ObjectId) → waiting ≡ old.pending → (id : ObjectId)
      → (has_id waiting id ≡ true) × (is_excluded old.sets id ≡ false) × (answer_at asked id ≡ Some true) → IsNamed history options asked old.listed.items id
  named_waiting asked waiting same id both = inr (waiting_mentioned waiting same id both.0, (outside history options old.sets h.sets id both.1).0, both.2)

  pub named_best : (asked : Answers) (id : ObjectId) → IsBest history options.sorting (is_excluded old.sets) asked (mentioned history options old.listed.items) old.listed.items id → IsNamed history options asked old.listed.items id
  named_best asked id best = inr (has_id_get _ best.place id best.here, (outside history options old.sets h.sets id best.admitted.inside).0, best.admitted.answered)

  in_time_unless : (sorting : Sorting) (id : ObjectId) → IsReadFor sorting history id → ((((time : ℤ) → IsInTime sorting time)) → IsSome (history id)) → IsSome (history id)
  in_time_unless BreadthFirst id read listed = listed (λ time. tt)
  in_time_unless (ByCommitTime order) id read listed = read tt
  in_time_unless (ByCommitTimeCutoff order seconds) id read listed = read tt

  -- after the last commit
  pub whole_from_spent : (f : Frontier) (more : Answers) → f.asked.items ≡ old.frontier.asked.items ++ more
      → IsFrontier history options.sorting (is_excluded old.sets) (mentioned history options old.listed.items) old.listed.items f
      → IsSpent history options.sorting (is_excluded old.sets) f.asked.items (mentioned history options old.listed.items) old.listed.items
      → IsWhole history options f.asked.items old.listed.items
  whole_from_spent f more is it spent = record {
    walk = record {
      begins = begins_later f.asked.items more is;
      exhausted = λ x among a. spent x among (admits_from history options old.sets h.sets f.asked.items x a);
    };
    all_asked = all_asked_from history options old.sets h.sets old.listed.items f it;
    asked_within = asked_within_from history options old.sets h.sets old.listed.items old.listed.items f it;
    hidden_read = h.sets.hidden_read;
    mentions_read = λ id among clear shown said.
        let out = inside history options old.sets h.sets id clear shown in
        in_time_unless options.sorting id (it.read id among out said)
        (λ always. h.stored id (spent id among (record { inside = out; answered = said; in_time = always (time_of history id) })));
  }

  pub under_way_end : (new : Course) (more : Answers) → new.frontier.asked.items ≡ old.frontier.asked.items ++ more → new.sets ≡ old.sets → new.listed.items ≡ old.listed.items → new.pending ≡ []
      → IsFrontier history options.sorting (is_excluded old.sets) (mentioned history options old.listed.items) old.listed.items new.frontier
      → IsUnderWay history options new
  under_way_end new more is sets listed pending it = record {
    sets = subst (AreSets history options) (sym sets) h.sets;
    before = mentioned history options old.listed.items;
    all = rw (listed, pending) (sym (append-nil _));
    front = λ i x y at_x m. mentioned_front (follow history options) (time_of history) options.sorting (IsAdmitted history options []) (IsAdmitted history options []) options.tips old.listed.items i y (subst (λ w. has_id (mentioned history options (take i w)) y ≡ true) listed m);
    frontier = subst (λ w. IsFrontier history options.sorting (is_excluded w) (mentioned history options old.listed.items) new.listed.items new.frontier) (sym sets)
        (subst (λ w. IsFrontier history options.sorting (is_excluded old.sets) (mentioned history options old.listed.items) w new.frontier) (sym listed) it);
    stored = λ id among. h.stored id (rw listed at among);
    begins = subst (BeginsWalkOf history options new.frontier.asked.items) (sym listed) (begins_later new.frontier.asked.items more is);
  }

  -- after one more
  pub under_way_next : (new : Course) (more : Answers) (x : ObjectId) → new.frontier.asked.items ≡ old.frontier.asked.items ++ more → new.sets ≡ old.sets → new.listed.items ≡ old.listed.items ++ x ∷ [] → new.pending ≡ follow history options x
      → IsSome (history x)
      → IsBest history options.sorting (is_excluded old.sets) new.frontier.asked.items (mentioned history options old.listed.items) old.listed.items x
      → IsFrontier history options.sorting (is_excluded old.sets) (mentioned history options old.listed.items) (old.listed.items ++ x ∷ []) new.frontier
      → IsUnderWay history options new
  under_way_next new more x is sets listed pending stored best it = record {
    sets = subst (AreSets history options) (sym sets) h.sets;
    before = mentioned history options old.listed.items;
    all = ap (mentioned history options) listed ∙ sym (flat_map_more (follow history options) options.tips old.listed.items x) ∙ ap (λ w. mentioned history options old.listed.items ++ w) (sym pending);
    front = λ i z y at_z m. front_of i z y (subst (λ w. slice_get w i ≡ Some z) listed at_z) (subst (λ w. has_id (mentioned history options (take i w)) y ≡ true) listed m);
    frontier = subst (λ w. IsFrontier history options.sorting (is_excluded w) (mentioned history options old.listed.items) new.listed.items new.frontier) (sym sets)
        (subst (λ w. IsFrontier history options.sorting (is_excluded old.sets) (mentioned history options old.listed.items) w new.frontier) (sym listed) it);
    stored = λ id among. elim (or_cases _ _ (sym (has_id-append old.listed.items (x ∷ []) id) ∙ subst (λ w. has_id w id ≡ true) listed among)) [
      | inl before ↦ h.stored id before
      | inr last ↦ subst (λ w. IsSome (history w)) (single x id last) stored
    ];
    begins = subst (BeginsWalkOf history options new.frontier.asked.items) (sym listed)
        (BeginsWalk-push (follow history options) (time_of history) options.sorting (IsAdmitted history options new.frontier.asked.items) options.tips old.listed.items x (begins_later new.frontier.asked.items more is)
        (next_from_best history options old.sets h.sets new.frontier.asked.items old.listed.items x best));
  }
    where
      front_of : (i : ℕ) (z y : ObjectId) → slice_get (old.listed.items ++ x ∷ []) i ≡ Some z → has_id (mentioned history options (take i (old.listed.items ++ x ∷ []))) y ≡ true → has_id (mentioned history options old.listed.items) y ≡ true
      front_of i z y at_z m = elim (get_push old.listed.items x i z at_z) [
        | inl before ↦
            let below = before.0 in
            let le : i ≤ length old.listed.items = omega arith in
            mentioned_front (follow history options) (time_of history) options.sorting (IsAdmitted history options []) (IsAdmitted history options []) options.tips old.listed.items i y
            (subst (λ w. has_id (mentioned history options w) y ≡ true) (take-append-le i old.listed.items (x ∷ []) le) m)
        | inr last ↦
            let all : take i (old.listed.items ++ x ∷ []) ≡ old.listed.items = ap (λ w. take w (old.listed.items ++ x ∷ [])) last.0 ∙ take_push old.listed.items x in
            subst (λ w. has_id (mentioned history options w) y ≡ true) all m
      ]
