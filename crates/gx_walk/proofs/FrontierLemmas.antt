-- What a walk holds of its mentions stays right.
use Rattle.std.proofs.Common.{◌≡◌, ℕ, ◌<◌, ◌≤◌, ◌+◌, ℤ, ◌<ℤ◌, Bool, true, false, not, cond, List, [], ◌∷◌, ◌++◌, length, take, sym, refl, ap, ◌∙◌, subst, arith, ◌⊎◌, inl, inr, length-append, Some, None, Option, IsSome}
use Rattle.std.specs.declared.cmp.Ordering.{Ordering}
use Rattle.std.specs.declared.cmp.Ordering.TheVariants.{Less, Equal, Greater}
use Rattle.std.specs.Ordering.{nat_cmp, int_cmp, ordering_then, is_eq, is_gt}
use Rattle.std.specs.List.{slice_get}
use Rattle.std.specs.Option.{is_some}
use Rattle.std.specs.Map.{lookup}
use Rattle.std.specs.Prelude.{◌&&◌, ◌||◌}
use Rattle.std.specs.BTreeMap as map
use Rattle.std.proofs.lemmas.Bool.{and_from, and_parts, or_cases, or_left, or_right, or_from, or_parts, false_from_ne_true, both_ways, false≢true, cases_Bool, cases_order, not_from_false}
use Rattle.std.proofs.lemmas.Bool.Decides.{nat_tests, Decides-int_eq}
use Rattle.std.proofs.lemmas.List.{take-append-le}
use Rattle.std.proofs.lemmas.Option.{slice_get_within}
use Rattle.std.proofs.lemmas.Int.{ints}
use Rattle.gx_hash.specs.declared.oid.ObjectId.{ObjectId}
use Rattle.gx_hash.specs.ObjectIds.{id_eq, has_id}
use Rattle.gx_hash.specs.Laws.{own_id}
use Rattle.gx_walk.specs.History.{History, time_of}
use Rattle.gx_walk.specs.Walk.{IsInTime}
use Rattle.gx_walk.specs.Simple.{answer_at}
use Rattle.gx_walk.specs.Frontier.{key_cmp, rank_at, Admits, IsEmpty, IsQueued, IsFrontier, IsBest, IsSpent, IsReadFor}
use Rattle.gx_walk.specs.declared.commit.frontier.Frontier.{Frontier}
use Rattle.gx_walk.specs.declared.commit.sorting.Sorting.{Sorting}
use Rattle.gx_walk.proofs.IdLemmas.{cases_id, cases_at, has_id-append, has_id_get, has_id_take, has_self, place_of, single, get_push, take_push, get_front, get_last}
use Rattle.gx_walk.proofs.AskedLemmas.{answer_on, answer_back, answer_new, answer_other}

-- ---- keys of the queue

then_eq : (a b : Ordering) → is_eq (ordering_then a b) ≡ true → (is_eq a ≡ true) × (is_eq b ≡ true)
then_eq Less b h = absurd (false≢true h)
then_eq Equal b h = (refl, h)
then_eq Greater b h = absurd (false≢true h)

then_lower : (a b : Ordering) → is_gt (ordering_then a b) ≡ false → (a ≡ Less) ⊎ ((a ≡ Equal) × (is_gt b ≡ false))
then_lower Less b h = inl refl
then_lower Equal b h = inr (refl, h)
then_lower Greater b h = absurd (false≢true (sym h))

int_less : (r s : ℤ) → int_cmp r s ≡ Less → r <ℤ s
int_less r s h = grind (arith, ints)

nat_lower : (i j : ℕ) → is_gt (nat_cmp i j) ≡ false → i ≤ j
nat_lower i j h = grind (arith, nat_tests)

nat_same : (i j : ℕ) → is_eq (nat_cmp i j) ≡ true → i ≡ j
nat_same i j h = grind (arith, nat_tests)

key_same : (r s : ℤ) (i j : ℕ) → is_eq (key_cmp (r, i) (s, j)) ≡ true → (r ≡ s) × (i ≡ j)
key_same r s i j h =
    let both = then_eq (int_cmp r s) (nat_cmp i j) h in
    ((Decides-int_eq r s).0 both.0, nat_same i j both.1)

key_lower : (r s : ℤ) (i j : ℕ) → is_gt (key_cmp (r, i) (s, j)) ≡ false → (r <ℤ s) ⊎ ((r ≡ s) × (i ≤ j))
key_lower r s i j h = elim (then_lower (int_cmp r s) (nat_cmp i j) h) [
  | inl less ↦ inl (int_less r s less)
  | inr both ↦ inr ((Decides-int_eq r s).0 (ap is_eq both.0), nat_lower i j both.1)
]

key_refl : (r : ℤ) (i : ℕ) → is_eq (key_cmp (r, i) (r, i)) ≡ true
key_refl r i = let e : int_cmp r r ≡ Equal = grind (arith, ints) in rw e (grind (arith, nat_tests))

cond_some : (b : Bool) (v x : ObjectId) (o : Option ObjectId) → cond b (Some v) o ≡ Some x → ((b ≡ true) × (v ≡ x)) ⊎ ((b ≡ false) × (o ≡ Some x))
cond_some true v x o h = inl (refl, cc)
cond_some false v x o h = inr (refl, h)

cond_none : (b : Bool) (x : ObjectId) (o : Option ObjectId) → cond b None o ≡ Some x → (b ≡ false) × (o ≡ Some x)
cond_none true x o h = cc
cond_none false x o h = (refl, h)

-- an id stands first at one place
first_once : (xs : List ObjectId) (i j : ℕ) (x : ObjectId) → slice_get xs i ≡ Some x → slice_get xs j ≡ Some x → has_id (take i xs) x ≡ false → has_id (take j xs) x ≡ false → i ≡ j
first_once xs i j x hi hj fi fj = elim (cases_order i j) [
  | inl e ↦ e
  | inr (inl lt) ↦ absurd (both_ways _ fj (has_id_take xs j i x lt hi))
  | inr (inr gt) ↦ absurd (both_ways _ fi (has_id_take xs i j x gt hj))
]

same_get : (f g : Frontier) → g.queue.entries ≡ f.queue.entries → (k : ℤ × ℕ) → map.get key_cmp g.queue k ≡ map.get key_cmp f.queue k
same_get f g e k = ap (λ es. lookup (map.is_at (key_cmp k)) es) e

either : (a b : Bool) → a ≡ false → (a || b) ≡ b
either true b h = absurd (false≢true (sym h))
either false b h = refl

module _ (history : History) (sorting : Sorting) (excluded : ObjectId → Bool) where
  -- nothing mentioned
  pub empty_frontier : (f : Frontier) → IsEmpty f → IsFrontier history sorting excluded [] [] f
  empty_frontier f it = record {
    count_is = it.count;
    seen_is = λ q. rw it.seen (sym (right (not (excluded q))));
    listed_in = λ q h. h;
    asked_in = λ q h. absurd (false≢true (rw it.asked at h));
    answered = λ q h. absurd (false≢true h);
    read = λ q h. absurd (false≢true h);
    queued = λ r i x h. let none : None ≡ Some x = rw it.queue at h in cc;
    waiting = λ j x h. cc;
  }
    where
      right : (b : Bool) → (b && false) ≡ false
      right true = refl
      right false = refl

  module _ (mentioned listed : List ObjectId) (f g : Frontier) (it : IsFrontier history sorting excluded mentioned listed f) (id : ObjectId) (count : g.count ≡ f.count + 1) where
    -- what is queued stays so, where the answers stay
    queued_on : (r : ℤ) (i : ℕ) (x : ObjectId) → (Admits history sorting excluded f.asked.items x → Admits history sorting excluded g.asked.items x)
        → IsQueued history sorting excluded f.asked.items mentioned listed r i x → IsQueued history sorting excluded g.asked.items (mentioned ++ id ∷ []) listed r i x
    queued_on r i x on h =
        let le : i ≤ length mentioned = omega (arith, slice_get_within mentioned i x h.here) in
        record {
          here = get_front mentioned (id ∷ []) i x h.here;
          first = rw take-append-le h.first;
          ranked = h.ranked;
          admitted = on h.admitted;
          unlisted = h.unlisted;
        }

    -- what waits, where the last mention is served too
    waiting_on : ((x : ObjectId) → has_id mentioned x ≡ true → Admits history sorting excluded g.asked.items x → Admits history sorting excluded f.asked.items x)
        → ((k : ℕ) (x : ObjectId) → k < length mentioned → map.get key_cmp f.queue (rank_at history sorting excluded x, k) ≡ Some x → map.get key_cmp g.queue (rank_at history sorting excluded x, k) ≡ Some x)
        → (Admits history sorting excluded g.asked.items id → has_id listed id ≡ false → (i : ℕ) × (i ≤ length mentioned) × (map.get key_cmp g.queue (rank_at history sorting excluded id, i) ≡ Some id))
        → (j : ℕ) (x : ObjectId) → slice_get (mentioned ++ id ∷ []) j ≡ Some x → Admits history sorting excluded g.asked.items x → has_id listed x ≡ false
        → (i : ℕ) × (i ≤ j) × (map.get key_cmp g.queue (rank_at history sorting excluded x, i) ≡ Some x)
    waiting_on back kept last j x h admitted unlisted = elim (get_push mentioned id j x h) [
      | inl before ↦
          let (i, le, got) = it.waiting j x before.1 (back x (has_id_get mentioned j x before.1) admitted) unlisted in
          let below : i < length mentioned = omega (arith, before.0) in
          (i, le, kept i x below got)
      | inr here ↦
          let (i, le, got) = last (subst (Admits history sorting excluded g.asked.items) (sym here.1) admitted) (subst (λ w. has_id listed w ≡ false) (sym here.1) unlisted) in
          (i, omega (arith, here.0), subst (λ w. map.get key_cmp g.queue (rank_at history sorting excluded w, i) ≡ Some w) here.1 got)
    ]

    listed_on : (q : ObjectId) → has_id listed q ≡ true → has_id (mentioned ++ id ∷ []) q ≡ true
    listed_on q h = rw has_id-append (or_left _ _ (it.listed_in q h))

    count_on : g.count ≡ length (mentioned ++ id ∷ [])
    count_on = count ∙ ap (λ n. n + 1) it.count_is ∙ sym (length-append mentioned (id ∷ []))

    -- ---- an id that is excluded, or was mentioned before

    module _ (old : (excluded id ≡ true) ⊎ (has_id f.seen id ≡ true)) (seen : (q : ObjectId) → has_id g.seen q ≡ has_id f.seen q) (asked : g.asked.items ≡ f.asked.items) (queue : g.queue.entries ≡ f.queue.entries) where
      -- an id that may be listed was mentioned before
      known : excluded id ≡ false → has_id mentioned id ≡ true
      known inside = elim old [
        | inl out ↦ absurd (both_ways _ inside out)
        | inr before ↦ (and_parts (not (excluded id)) (has_id mentioned id) (sym (it.seen_is id) ∙ before)).1
      ]

      among_old : (q : ObjectId) → has_id (mentioned ++ id ∷ []) q ≡ true → excluded q ≡ false → has_id mentioned q ≡ true
      among_old q h inside = elim (or_cases _ _ (rw has_id-append at h)) [
        | inl before ↦ before
        | inr last ↦ let e = single id q last in subst (λ w. has_id mentioned w ≡ true) e (known (subst (λ w. excluded w ≡ false) (sym e) inside))
      ]

      same_seen : (q : ObjectId) → (not (excluded q) && has_id mentioned q) ≡ (not (excluded q) && has_id (mentioned ++ id ∷ []) q)
      same_seen q = elim (cases_Bool (excluded q)) [
        | inl out ↦ rw out refl
        | inr inside ↦ rw inside (elim (cases_Bool (has_id mentioned q)) [
          | inl said ↦ rw has_id-append (said ∙ sym (or_left _ _ said))
          | inr none ↦ none ∙ sym (false_from_ne_true _ (λ e. both_ways _ none (among_old q e inside)))
        ])
      ]

      pub mention_old : IsFrontier history sorting excluded (mentioned ++ id ∷ []) listed g
      mention_old = record {
        count_is = count_on;
        seen_is = λ q. seen q ∙ it.seen_is q ∙ same_seen q;
        listed_in = listed_on;
        asked_in = λ q h. seen q ∙ it.asked_in q (rw asked at h);
        answered = λ q h inside. rw asked (it.answered q (among_old q h inside) inside);
        read = λ q h inside said. it.read q (among_old q h inside) inside (rw asked at said);
        queued = λ r i x h. queued_on r i x (λ a. rw asked a) (it.queued r i x (sym (same_get f g queue (r, i)) ∙ h));
        waiting = waiting_on (λ x m a. rw asked at a) (λ k x below got. same_get f g queue (rank_at history sorting excluded x, k) ∙ got)
            (λ a u.
            let (j, here) = place_of mentioned id (known a.inside) in
            let (i, le, got) = it.waiting j id here (rw asked at a) u in
            let below = slice_get_within mentioned j id here in
            (i, omega (arith, below), same_get f g queue (rank_at history sorting excluded id, i) ∙ got));
      }

    -- ---- an id that the filter is asked about

    module _ (answer : Bool) (inside : excluded id ≡ false) (unseen : has_id f.seen id ≡ false) (seen : (q : ObjectId) → has_id g.seen q ≡ (id_eq id q || has_id f.seen q)) (asked : g.asked.items ≡ f.asked.items ++ (id, answer) ∷ []) (reads : answer ≡ true → IsReadFor sorting history id) where
      unasked : IsSome (answer_at f.asked.items id) → ⊥
      unasked some = both_ways _ unseen (it.asked_in id some)

      unmentioned : has_id mentioned id ≡ false
      unmentioned = false_from_ne_true _ (λ e. both_ways _ unseen (it.seen_is id ∙ and_from _ _ (not_from_false _ inside) e))

      unlisted_yet : has_id listed id ≡ false
      unlisted_yet = false_from_ne_true _ (λ e. both_ways _ unmentioned (it.listed_in id e))

      answer_is : answer_at g.asked.items id ≡ Some answer
      answer_is = rw asked (answer_new f.asked.items id answer unasked)

      admits_on : (x : ObjectId) → Admits history sorting excluded f.asked.items x → Admits history sorting excluded g.asked.items x
      admits_on x a = record { inside = a.inside; answered = rw asked (answer_on f.asked.items _ x true a.answered); in_time = a.in_time }

      admits_back : (x : ObjectId) → has_id mentioned x ≡ true → Admits history sorting excluded g.asked.items x → Admits history sorting excluded f.asked.items x
      admits_back x m a = record { inside = a.inside; answered = answer_back f.asked.items _ x true (it.answered x m a.inside) (rw asked at a.answered); in_time = a.in_time }

      among_cases : (q : ObjectId) → has_id (mentioned ++ id ∷ []) q ≡ true → (has_id mentioned q ≡ true) ⊎ (id ≡ q)
      among_cases q h = elim (or_cases _ _ (rw has_id-append at h)) [ inl before ↦ inl before | inr last ↦ inr (single id q last) ]

      new_seen : (q : ObjectId) → has_id g.seen q ≡ (not (excluded q) && has_id (mentioned ++ id ∷ []) q)
      new_seen q = elim (cases_id id q) [
        | inl e ↦ seen q ∙ or_left _ _ (subst (λ w. id_eq id w ≡ true) e (own_id id))
            ∙ sym (and_from _ _ (not_from_false _ (subst (λ w. excluded w ≡ false) e inside)) (rw has_id-append (or_right _ _ (subst (λ w. has_id (id ∷ []) w ≡ true) e (has_self id)))))
        | inr ne ↦ seen q ∙ either _ _ ne ∙ it.seen_is q ∙ ap (λ w. not (excluded q) && w) (sym (has_id-append mentioned (id ∷ []) q ∙ left (has_id mentioned q) (has_id (id ∷ []) q) (false_from_ne_true _ (λ e. both_ways _ ne (subst (λ w. id_eq id w ≡ true) (single id q e) (own_id id))))))
      ]
        where
          left : (a b : Bool) → b ≡ false → (a || b) ≡ a
          left true b h = refl
          left false b h = h

      new_asked_in : (q : ObjectId) → IsSome (answer_at g.asked.items q) → has_id g.seen q ≡ true
      new_asked_in q some = elim (cases_at q id) [
        | inl e ↦ seen q ∙ or_left _ _ (subst (λ w. id_eq id w ≡ true) (sym e) (own_id id))
        | inr ne ↦ seen q ∙ or_right _ _ (it.asked_in q (subst IsSome (answer_other f.asked.items id q answer ne) (rw asked at some)))
      ]

      new_answered : (q : ObjectId) → has_id (mentioned ++ id ∷ []) q ≡ true → excluded q ≡ false → IsSome (answer_at g.asked.items q)
      new_answered q h out = elim (among_cases q h) [
        | inl before ↦ kept (answer_at f.asked.items q) (it.answered q before out) (λ a e. rw asked (answer_on f.asked.items _ q a e))
        | inr e ↦ subst (λ w. IsSome (answer_at g.asked.items w)) e (ap is_some answer_is)
      ]
        where
          kept : (o : Option Bool) → IsSome o → ((a : Bool) → o ≡ Some a → answer_at g.asked.items q ≡ Some a) → IsSome (answer_at g.asked.items q)
          kept None some on = absurd (false≢true some)
          kept (Some a) some on = ap is_some (on a refl)

      new_read : (q : ObjectId) → has_id (mentioned ++ id ∷ []) q ≡ true → excluded q ≡ false → answer_at g.asked.items q ≡ Some true → IsReadFor sorting history q
      new_read q h out said = elim (among_cases q h) [
        | inl before ↦ it.read q before out (answer_back f.asked.items _ q true (it.answered q before out) (rw asked at said))
        | inr e ↦ subst (IsReadFor sorting history) e (reads (let both : Some answer ≡ Some true = sym answer_is ∙ subst (λ w. answer_at g.asked.items w ≡ Some true) (sym e) said in cc))
      ]

      -- it is refused, by the filter or for its age
      pub mention_refused : (answer ≡ true → IsInTime sorting (time_of history id) → ⊥) → g.queue.entries ≡ f.queue.entries → IsFrontier history sorting excluded (mentioned ++ id ∷ []) listed g
      mention_refused refused queue = record {
        count_is = count_on;
        seen_is = new_seen;
        listed_in = listed_on;
        asked_in = new_asked_in;
        answered = new_answered;
        read = new_read;
        queued = λ r i x h. queued_on r i x (admits_on x) (it.queued r i x (sym (same_get f g queue (r, i)) ∙ h));
        waiting = waiting_on admits_back (λ k x below got. same_get f g queue (rank_at history sorting excluded x, k) ∙ got)
            (λ a u. absurd (refused (let both : Some answer ≡ Some true = sym answer_is ∙ a.answered in cc) a.in_time));
      }

      -- it is queued
      pub mention_new : (at : ℤ) → answer ≡ true → IsInTime sorting (time_of history id) → at ≡ rank_at history sorting excluded id → map.Updates key_cmp f.queue g.queue (at, f.count) (Some id) → IsFrontier history sorting excluded (mentioned ++ id ∷ []) listed g
      mention_new at said in_time ranked queue =
          let admitted : Admits history sorting excluded g.asked.items id = record { inside = inside; answered = answer_is ∙ ap (λ w. Some w) said; in_time = in_time } in
          let count_is = it.count_is in
          let fresh : IsQueued history sorting excluded g.asked.items (mentioned ++ id ∷ []) listed at (length mentioned) id = record {
            here = get_last mentioned id;
            first = rw take_push unmentioned;
            ranked = ranked;
            admitted = admitted;
            unlisted = unlisted_yet;
          } in
          record {
            count_is = count_on;
            seen_is = new_seen;
            listed_in = listed_on;
            asked_in = new_asked_in;
            answered = new_answered;
            read = new_read;
            queued = λ r i x h. elim (cond_some (map.is_at (key_cmp (at, f.count)) (r, i)) id x (map.get key_cmp f.queue (r, i)) (sym (queue.0 (r, i)) ∙ h)) [
              | inl here ↦
                  let same = key_same at r f.count i here.0 in
                  subst (IsQueued history sorting excluded g.asked.items (mentioned ++ id ∷ []) listed r i) here.1
                  (subst (λ w. IsQueued history sorting excluded g.asked.items (mentioned ++ id ∷ []) listed r w id) (sym count_is ∙ same.1)
                  (subst (λ w. IsQueued history sorting excluded g.asked.items (mentioned ++ id ∷ []) listed w (length mentioned) id) same.0 fresh))
              | inr other ↦ queued_on r i x (admits_on x) (it.queued r i x other.1)
            ];
            waiting = waiting_on admits_back
                (λ k x below got. queue.2 (rank_at history sorting excluded x, k) (false_from_ne_true _ (λ e. let same = (key_same at (rank_at history sorting excluded x) f.count k e).1 in absurd (omega arith))) ∙ got)
                (λ a u. (length mentioned, omega arith, subst (λ w. map.get key_cmp g.queue (w, length mentioned) ≡ Some id) ranked (subst (λ w. map.get key_cmp g.queue (at, w) ≡ Some id) count_is queue.1)));
          }

    -- ---- an id about which the filter may have been asked

    seen_before : has_id f.seen id ≡ true → (q : ObjectId) → (id_eq id q || has_id f.seen q) ≡ has_id f.seen q
    seen_before known q = elim (cases_id id q) [
      | inl e ↦
          let there : has_id f.seen q ≡ true = subst (λ w. has_id f.seen w ≡ true) e known in
          or_right (id_eq id q) (has_id f.seen q) there ∙ sym there
      | inr ne ↦ either _ _ ne
    ]

    -- it is not queued: it was seen before, or it is refused
    pub mention_answered : (answer : Bool) → excluded id ≡ false → ((q : ObjectId) → has_id g.seen q ≡ (id_eq id q || has_id f.seen q))
        → ((has_id f.seen id ≡ true) × (g.asked.items ≡ f.asked.items) × (answer ≡ false)) ⊎ ((has_id f.seen id ≡ false) × (g.asked.items ≡ f.asked.items ++ (id, answer) ∷ []))
        → (answer ≡ true → IsReadFor sorting history id) → (answer ≡ true → IsInTime sorting (time_of history id) → ⊥) → g.queue.entries ≡ f.queue.entries
        → IsFrontier history sorting excluded (mentioned ++ id ∷ []) listed g
    mention_answered answer inside seen asked reads refused queue = elim asked [
      | inl before ↦ mention_old (inr before.0) (λ q. seen q ∙ seen_before before.0 q) before.1 queue
      | inr new ↦ mention_refused answer inside new.0 seen new.1 reads refused queue
    ]

    -- it is queued
    pub mention_queued : excluded id ≡ false → ((q : ObjectId) → has_id g.seen q ≡ (id_eq id q || has_id f.seen q))
        → ((has_id f.seen id ≡ true) × (g.asked.items ≡ f.asked.items) × (true ≡ false)) ⊎ ((has_id f.seen id ≡ false) × (g.asked.items ≡ f.asked.items ++ (id, true) ∷ []))
        → IsReadFor sorting history id → (at : ℤ) → at ≡ rank_at history sorting excluded id → IsInTime sorting (time_of history id)
        → map.Updates key_cmp f.queue g.queue (at, f.count) (Some id) → IsFrontier history sorting excluded (mentioned ++ id ∷ []) listed g
    mention_queued inside seen asked reads at ranked in_time queue = elim asked [
      | inl before ↦ absurd (false≢true (sym before.2))
      | inr new ↦ mention_new true inside new.0 seen new.1 (λ _. reads) at refl in_time ranked queue
    ]

  -- ---- the next commit

  module _ (mentioned listed : List ObjectId) (f g : Frontier) (it : IsFrontier history sorting excluded mentioned listed f) (seen : g.seen ≡ f.seen) (asked : g.asked.items ≡ f.asked.items) (count : g.count ≡ f.count) where
    -- the least key gives the best
    pub next_best : (r : ℤ) (i : ℕ) (x : ObjectId) → map.get key_cmp f.queue (r, i) ≡ Some x → map.IsLowerBound key_cmp f.queue (r, i) → IsBest history sorting excluded g.asked.items mentioned listed x
    next_best r i x here least =
        let queued = it.queued r i x here in
        record {
          place = i;
          here = queued.here;
          admitted = rw asked queued.admitted;
          unlisted = queued.unlisted;
          best = λ j y at_y a u.
              let (k, le, got) = it.waiting j y at_y (rw asked at a) u in
              rw (← queued.ranked) (elim (key_lower r (rank_at history sorting excluded y) i k (least (rank_at history sorting excluded y, k) (ap is_some got))) [
                | inl less ↦ inl less
                | inr both ↦ inr (both.0, omega (arith, both.1))
              ]);
        }

    pub next_kept : (r : ℤ) (i : ℕ) (x : ObjectId) → map.get key_cmp f.queue (r, i) ≡ Some x → map.Updates key_cmp f.queue g.queue (r, i) None → IsFrontier history sorting excluded mentioned (listed ++ x ∷ []) g
    next_kept r i x here updates =
        let taken = it.queued r i x here in
        let mentions_x : has_id mentioned x ≡ true = has_id_get mentioned i x taken.here in
        record {
          count_is = count ∙ it.count_is;
          seen_is = λ q. rw seen (it.seen_is q);
          listed_in = λ q h. elim (or_cases _ _ (rw has_id-append at h)) [
            | inl before ↦ it.listed_in q before
            | inr last ↦ subst (λ w. has_id mentioned w ≡ true) (single x q last) mentions_x
          ];
          asked_in = λ q h. rw seen (it.asked_in q (rw asked at h));
          answered = λ q h inside. rw asked (it.answered q h inside);
          read = λ q h inside said. it.read q h inside (rw asked at said);
          queued = λ s j y h.
              let (apart, got) = cond_none _ _ _ (sym (updates.0 (s, j)) ∙ h) in
              let one = it.queued s j y got in
              record {
                here = one.here;
                first = one.first;
                ranked = one.ranked;
                admitted = rw asked one.admitted;
                unlisted = rw has_id-append (or_from _ _ one.unlisted (false_from_ne_true _ (λ e.
                    let xy = single x y e in
                    let ij : i ≡ j = first_once mentioned i j y (subst (λ w. slice_get mentioned i ≡ Some w) xy taken.here) one.here (subst (λ w. has_id (take i mentioned) w ≡ false) xy taken.first) one.first in
                    both_ways _ apart (subst (λ w. is_eq (key_cmp (r, i) (w, j)) ≡ true) (taken.ranked ∙ ap (rank_at history sorting excluded) xy ∙ sym one.ranked) (subst (λ w. is_eq (key_cmp (r, i) (r, w)) ≡ true) ij (key_refl r i))))));
              };
          waiting = λ j y at_y a u.
              let (none, ne) = or_parts _ _ (rw has_id-append at u) in
              let (k, le, got) = it.waiting j y at_y (rw asked at a) none in (
                k,
                le,
                updates.2 (rank_at history sorting excluded y, k) (false_from_ne_true _ (λ e.
                    let same = key_same r (rank_at history sorting excluded y) i k e in
                    let moved = subst (λ w. map.get key_cmp f.queue (r, w) ≡ Some y) (sym same.1) (subst (λ w. map.get key_cmp f.queue (w, k) ≡ Some y) (sym same.0) got) in
                    let met : x ≡ y = cc in
                    both_ways _ ne (subst (λ w. has_id (x ∷ []) w ≡ true) met (has_self x)))) ∙ got,
              );
        }

    pub next_none : f.queue.entries ≡ [] → IsSpent history sorting excluded g.asked.items mentioned listed
    next_none none x among admitted = elim (cases_Bool (has_id listed x)) [
      | inl done ↦ done
      | inr left ↦
          let (j, here) = place_of mentioned x among in
          let (i, le, got) = it.waiting j x here (rw asked at admitted) left in
          let h : None ≡ Some x = rw none at got in cc
    ]

    -- the same entries
    pub same_frontier : g.queue.entries ≡ f.queue.entries → IsFrontier history sorting excluded mentioned listed g
    same_frontier queue = record {
      count_is = count ∙ it.count_is;
      seen_is = λ q. rw seen (it.seen_is q);
      listed_in = it.listed_in;
      asked_in = λ q h. rw seen (it.asked_in q (rw asked at h));
      answered = λ q h inside. rw asked (it.answered q h inside);
      read = λ q h inside said. it.read q h inside (rw asked at said);
      queued = λ r i x h. rw asked (it.queued r i x (sym (same_get f g queue (r, i)) ∙ h));
      waiting = λ j x h a u. let (i, le, got) = it.waiting j x h (rw asked at a) u in (i, le, same_get f g queue (rank_at history sorting excluded x, i) ∙ got);
    }
