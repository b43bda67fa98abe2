-- The laws of walks, from what holds of every list of this kind.
use Rattle.std.proofs.Common.{◌≡◌, Bool, true, false, List, [], sym, refl, ap, ◌∙◌, inl, inr, Some, None, Option, IsSome}
use Rattle.std.specs.List.{filter}
use Rattle.std.specs.Prelude.{◌↔◌}
use Rattle.std.proofs.lemmas.Bool.{false≢true, both_ways, true_from_ne_false, cases_order, or_left, or_right}
use Rattle.gx_hash.specs.declared.oid.ObjectId.{ObjectId}
use Rattle.gx_hash.specs.ObjectIds.{has_id}
use Rattle.gx_walk.specs.History.{History, time_of, Reaches}
use Rattle.gx_walk.specs.History as reach
use Rattle.gx_walk.specs.Walk.{ReachesThrough, start, step}
use Rattle.gx_walk.specs.Simple.{follow, mentioned, answer_at, IsAdmitted, IsHidden}
use Rattle.gx_walk.specs.Laws.{NextIsUnique, NextGoesOn, WalkIsUnique, ListsOnce, LaterAnswersKeep, WithoutHidden, IsOpen, WholeListsOpen, WholeListsDifference}
use Rattle.gx_walk.specs.declared.commit.sorting.WalkOptions.{WalkOptions}
use Rattle.gx_walk.proofs.WalkLemmas.{BeginsWalk-push, IsNext-unique, walk_goes_on, begins_once, IsNext-by, IsWalk-by, listed_reached}
use Rattle.gx_walk.proofs.IdLemmas.{has_id-append, has_id_flat_map_from}
use Rattle.gx_walk.proofs.HiddenLemmas.{IsWalk-filter}

module _ (history : History) (options : WalkOptions) (asked : List (ObjectId × Bool)) where
  pub next_is_unique : NextIsUnique history options asked
  next_is_unique listed x y a b = IsNext-unique (follow history options) (time_of history) options.sorting (IsAdmitted history options asked) options.tips listed x y a b

  pub next_goes_on : NextGoesOn history options asked
  next_goes_on listed x a b = BeginsWalk-push (follow history options) (time_of history) options.sorting (IsAdmitted history options asked) options.tips listed x a b

  pub walk_is_unique : WalkIsUnique history options asked
  walk_is_unique part whole a b = walk_goes_on (follow history options) (time_of history) options.sorting (IsAdmitted history options asked) options.tips part whole a b

  pub lists_once : ListsOnce history options asked
  lists_once listed begins i j x at_i at_j =
      let once = begins_once (follow history options) (time_of history) options.sorting (IsAdmitted history options asked) options.tips listed begins in
      elim (cases_order i j) [
        | inl e ↦ e
        | inr (inl lt) ↦ absurd (once i j x lt at_i at_j)
        | inr (inr gt) ↦ absurd (once j i x gt at_j at_i)
      ]

  pub later_answers_keep : LaterAnswersKeep history options asked
  later_answers_keep more listed x on all next = IsNext-by (follow history options) (time_of history) options.sorting (IsAdmitted history options asked) (IsAdmitted history options more) options.tips listed x
      (λ y m a. record { inside = a.inside; shown = a.shown; answered = on y true a.answered; in_time = a.in_time })
      (λ y m a. record { inside = a.inside; shown = a.shown; answered = back y (answer_at asked y) refl (all y m a.inside a.shown) a.answered; in_time = a.in_time })
      next
    where
      back : (y : ObjectId) (o : Option Bool) → answer_at asked y ≡ o → IsSome o → answer_at more y ≡ Some true → answer_at asked y ≡ Some true
      back y None is some said = absurd (false≢true some)
      back y (Some b) is some said = let same : Some b ≡ Some true = sym (on y b is) ∙ said in is ∙ same

-- what the hidden ids reach leads only to what they reach
hidden_closed : (history : History) (options : WalkOptions) (keep : ObjectId → Bool) → ((id : ObjectId) → (keep id ≡ false) ↔ IsHidden history options id)
    → (x y : ObjectId) → keep x ≡ false → has_id (follow history options x) y ≡ true → keep y ≡ false
hidden_closed history options keep is x y out parent = (is y).1 (reach.step ((is x).0 out) parent)

-- nothing is reached from nothing
no_start : (follow : ObjectId → List ObjectId) {x : ObjectId} → Reaches follow [] x → ⊥
no_start follow (reach.start among) = false≢true among
no_start follow (reach.step before parent) = no_start follow before

pub without_hidden : WithoutHidden
without_hidden history options asked answers keep listed is same walk =
    let plain : WalkOptions = record options { hidden = [] } in
    IsWalk-by (follow history options) (time_of history) options.sorting (λ y. IsAdmitted history plain answers y × (keep y ≡ true)) (IsAdmitted history options asked) options.tips (filter keep listed)
    (λ y m both. let shown : ¬ IsHidden history options y = λ hidden. both_ways _ ((is y).1 hidden) both.1 in
    record { inside = both.0.inside; shown = shown; answered = same y shown ∙ both.0.answered; in_time = both.0.in_time })
    (λ y m a. (
      record { inside = a.inside; shown = λ hidden. no_start (follow history plain) hidden; answered = sym (same y a.shown) ∙ a.answered; in_time = a.in_time },
      true_from_ne_false _ (λ out. a.shown ((is y).0 out)),
    ))
    (IsWalk-filter (follow history options) (time_of history) options.sorting (IsAdmitted history plain answers) keep options.tips (hidden_closed history options keep is) listed walk)

-- ---- what is listed, as a set

reach_by : {follow : ObjectId → List ObjectId} {ids : List ObjectId} (P Q : ObjectId → Type 0) → ((y : ObjectId) → P y → Q y) → {x : ObjectId} → ReachesThrough P follow ids x → ReachesThrough Q follow ids x
reach_by P Q on (start among p) = start among (on _ p)
reach_by P Q on (step before parent p) = step (reach_by P Q on before) parent (on _ p)

pub whole_lists_open : WholeListsOpen
whole_lists_open history options asked listed test whole by x = (
  λ among. reach_by (IsAdmitted history options asked) (IsOpen history options test)
      (λ y a. record { inside = a.inside; shown = a.shown; admitted = sym (by y true a.answered); in_time = a.in_time })
      (listed_reached (follow history options) (time_of history) options.sorting (IsAdmitted history options asked) options.tips listed whole.walk.begins x among),
  back,
)
  where
    answered : (y : ObjectId) (o : Option Bool) → answer_at asked y ≡ o → IsSome o → test y ≡ true → answer_at asked y ≡ Some true
    answered y None is some said = absurd (false≢true some)
    answered y (Some b) is some said = is ∙ ap (λ w. Some w) (by y b is ∙ said)

    admitted : (y : ObjectId) → has_id (mentioned history options listed) y ≡ true → IsOpen history options test y → IsAdmitted history options asked y
    admitted y m o = record { inside = o.inside; shown = o.shown; answered = answered y (answer_at asked y) refl (whole.all_asked y m o.inside o.shown) o.admitted; in_time = o.in_time }

    back : {y : ObjectId} → ReachesThrough (IsOpen history options test) (follow history options) options.tips y → has_id listed y ≡ true
    back {y} (start among o) = let m = tip y among in whole.walk.exhausted y m (admitted y m o)
      where
        tip : (y : ObjectId) → has_id options.tips y ≡ true → has_id (mentioned history options listed) y ≡ true
        tip y h = rw has_id-append (or_left _ _ h)
    back {y} (step {x} before parent o) = let m = later x y (back before) parent in whole.walk.exhausted y m (admitted y m o)
      where
        later : (x y : ObjectId) → has_id listed x ≡ true → has_id (follow history options x) y ≡ true → has_id (mentioned history options listed) y ≡ true
        later x y h k = rw has_id-append (or_right _ _ (has_id_flat_map_from (follow history options) listed x y h k))

pub whole_lists_difference : WholeListsDifference
whole_lists_difference history options asked listed whole by clear always x =
    let open_set = whole_lists_open history options asked listed (λ _. true) whole by x in
    (λ among. (forget (open_set.0 among), (of_open (open_set.0 among)).shown), λ both. open_set.1 (through both.0 both.1))
  where
    forget : {y : ObjectId} → ReachesThrough (IsOpen history options (λ _. true)) (follow history options) options.tips y → Reaches (follow history options) options.tips y
    forget (start among o) = reach.start among
    forget (step before parent o) = reach.step (forget before) parent

    of_open : {y : ObjectId} → ReachesThrough (IsOpen history options (λ _. true)) (follow history options) options.tips y → IsOpen history options (λ _. true) y
    of_open (start among o) = o
    of_open (step before parent o) = o

    is_open : (y : ObjectId) → ¬ IsHidden history options y → IsOpen history options (λ _. true) y
    is_open y shown = record { inside = rw clear refl; shown = shown; admitted = refl; in_time = always (time_of history y) }

    through : {y : ObjectId} → Reaches (follow history options) options.tips y → ¬ IsHidden history options y → ReachesThrough (IsOpen history options (λ _. true)) (follow history options) options.tips y
    through {y} (reach.start among) shown = start among (is_open y shown)
    through {y} (reach.step before parent) shown = step (through before (λ hidden. shown (reach.step hidden parent))) parent (is_open y shown)
