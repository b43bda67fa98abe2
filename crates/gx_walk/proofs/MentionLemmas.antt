-- A mention is counted, judged and queued.
use Rattle.std.proofs.Common.{◌≡◌, ℕ, ◌+◌, ◌<◌, Bool, true, false, List, [], ◌∷◌, ◌++◌, length, get_or, refl, sym, ap, ◌∙◌, subst, ◌⊎◌, inl, inr, Some, append-nil, append_assoc}
use Rattle.std.specs.Prelude.{◌||◌}
use Rattle.std.specs.BTreeMap as map
use Rattle.std.proofs.lemmas.Bool.{false≢true, both_ways}
use Rattle.gx_hash.specs.declared.oid.ObjectId.{ObjectId}
use Rattle.gx_hash.specs.ObjectIds.{id_eq, has_id}
use Rattle.gx_walk.specs.History.{History, time_of}
use Rattle.gx_walk.specs.Rank.{rank_of}
use Rattle.gx_walk.specs.Simple.{answer_at}
use Rattle.gx_walk.specs.Frontier.{key_cmp, is_excluded, Enqueues, IsAdmittedOf, IsAnswered, IsAskedBy, IsFrontier, IsKept, Mentions}
use Rattle.gx_walk.specs.declared.commit.frontier.Frontier.{Frontier}
use Rattle.gx_walk.specs.declared.commit.frontier.Sets.{Sets}
use Rattle.gx_walk.specs.declared.commit.sorting.Sorting.{Sorting}
use Rattle.std.proofs.lemmas.Option.{get_or_from_slice_get}
use Rattle.gx_walk.proofs.IdLemmas.{has_self, has_id_get, get_at, single}
use Rattle.gx_walk.proofs.AskedLemmas.{Answers, answer_new}
use Rattle.gx_walk.proofs.FrontierLemmas.{mention_old, mention_answered, mention_queued}

module _ (history : History) (sorting : Sorting) (excluded : ObjectId → Bool) where
  -- one more mention was counted
  module _ (f f1 : Frontier) (id : ObjectId) (counted : f1 ≡ record f { count = f.count + 1 }) where
    -- of an id that is excluded
    pub mentions_excluded : excluded id ≡ true → Mentions history sorting excluded (id ∷ []) f f1
    mentions_excluded out mentioned listed it = mention_old history sorting excluded mentioned listed f f1 it id (ap (λ (w : Frontier). w.count) counted) (inl out)
        (λ q. ap (λ (w : Frontier). has_id w.seen q) counted) (ap (λ (w : Frontier). w.asked.items) counted) (ap (λ (w : Frontier). w.queue.entries) counted)

    -- of an id that was seen before, or that the filter refused
    pub mentions_refused : (g : Frontier) → excluded id ≡ false → IsAnswered f1 g id false → Mentions history sorting excluded (id ∷ []) f g
    mentions_refused g inside answered mentioned listed it =
        let a = subst (λ w. IsAnswered w g id false) counted answered in
        mention_answered history sorting excluded mentioned listed f g it id a.count false inside a.seen a.asked (λ h. absurd (false≢true h)) (λ h _. absurd (false≢true h)) (ap (λ (w : map.BTreeMap _ _). w.entries) a.queue)

    -- of an id that the filter admitted
    pub mentions_enqueued : (g h : Frontier) (place : ℕ) → place ≡ f.count → excluded id ≡ false → IsAnswered f1 g id true → IsKept g h → Enqueues history sorting place id g h
        → Mentions history sorting excluded (id ∷ []) f h
    mentions_enqueued g h place at inside answered kept enqueued mentioned listed it =
        let a = subst (λ w. IsAnswered w g id true) counted answered in
        let count : h.count ≡ f.count + 1 = kept.count ∙ a.count in
        let seen : (q : ObjectId) → has_id h.seen q ≡ (id_eq id q || has_id f.seen q) = λ q. ap (λ w. has_id w q) kept.seen ∙ a.seen q in
        let asked = subst (λ (w : Answers). ((has_id f.seen id ≡ true) × (w ≡ f.asked.items) × (true ≡ false)) ⊎ ((has_id f.seen id ≡ false) × (w ≡ f.asked.items ++ (id, true) ∷ []))) (sym kept.asked) a.asked in
        elim enqueued.queue [
          | inl queued ↦ mention_queued history sorting excluded mentioned listed f h it id count inside seen asked enqueued.read (rank_of sorting (time_of history id)) refl queued.0
              (subst (λ p. map.Updates key_cmp f.queue h.queue (rank_of sorting (time_of history id), p) (Some id)) at
              (subst (λ w. map.Updates key_cmp w h.queue (rank_of sorting (time_of history id), place) (Some id)) a.queue queued.1))
          | inr older ↦ mention_answered history sorting excluded mentioned listed f h it id count true inside seen asked (λ _. enqueued.read) (λ _ in_time. older.0 in_time)
              (older.1 ∙ ap (λ (w : map.BTreeMap _ _). w.entries) a.queue)
        ]

  -- no mention
  pub mentions_none : (f : Frontier) → Mentions history sorting excluded [] f f
  mentions_none f mentioned listed it = subst (λ w. IsFrontier history sorting excluded w listed f) (sym (append-nil mentioned)) it

  -- some mentions, and then some more
  pub mentions_on : (f g h : Frontier) (xs ys : List ObjectId) → Mentions history sorting excluded xs f g → Mentions history sorting excluded ys g h → Mentions history sorting excluded (xs ++ ys) f h
  mentions_on f g h xs ys first second mentioned listed it = subst (λ w. IsFrontier history sorting excluded w listed h) (append_assoc mentioned xs ys) (second (mentioned ++ xs) listed (first mentioned listed it))

-- an id that the filter admitted
pub answered_true : (f g : Frontier) (id : ObjectId) → IsAskedBy f → IsAnswered f g id true → answer_at g.asked.items id ≡ Some true
answered_true f g id by answered = elim answered.asked [
  | inl before ↦ absurd (false≢true (sym before.2))
  | inr new ↦ rw new.1 (answer_new f.asked.items id true (λ some. both_ways _ new.0 (by.within id some)))
]

-- it is the one that an error may name
pub admitted_alone : (sets : Sets) (f g h : Frontier) (id : ObjectId) → is_excluded sets id ≡ false → IsAskedBy f → IsAnswered f g id true → IsKept g h → IsAdmittedOf sets h.asked.items (id ∷ []) id
admitted_alone sets f g h id inside by answered kept = record {
  among = has_self id;
  inside = inside;
  answered = ap (λ (w : Answers). answer_at w id) kept.asked ∙ answered_true f g id by answered;
}

-- one of them that is among some more
pub among_taken : (sets : Sets) (asked : Answers) (ids : List ObjectId) (i : ℕ) (id one : ObjectId) → i < length ids → id ≡ get_or ids i id → IsAdmittedOf sets asked (id ∷ []) one → IsAdmittedOf sets asked ids one
among_taken sets asked ids i id one lt is a =
    let (x, here) = get_at ids i lt in
    let same : x ≡ id = sym (get_or_from_slice_get ids i x id here) ∙ sym is in
    record {
      among = subst (λ w. has_id ids w ≡ true) (same ∙ single id one a.among) (has_id_get ids i x here);
      inside = a.inside;
      answered = a.answered;
    }
