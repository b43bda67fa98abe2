-- What the filter was asked about, and its answers.
use Rattle.std.proofs.Common.{◌≡◌, ℕ, zero, suc, Bool, true, false, not, List, [], ◌∷◌, ◌++◌, sym, refl, ap, ◌∙◌, subst, inl, inr, Some, None, Option, IsSome, append-nil, append_assoc}
use Rattle.std.specs.List.{slice_get, FoldsTo}
use Rattle.std.specs.BTreeMap.{is_at}
use Rattle.std.specs.Prelude.{◌||◌}
use Rattle.std.proofs.lemmas.Bool.{cases_Bool, both_ways, false≢true, or_left, or_right}
use Rattle.gx_hash.specs.ObjectId.{id_cmp}
use Rattle.gx_hash.specs.declared.oid.ObjectId.{ObjectId}
use Rattle.gx_hash.specs.ObjectIds.{id_eq, has_id}
use Rattle.gx_hash.specs.Laws.{own_id}
use Rattle.gx_walk.specs.Simple.{Asks, AskedOnce, answer_at}
use Rattle.gx_walk.specs.Frontier.{IsAskedBy}
use Rattle.gx_walk.specs.declared.commit.frontier.Frontier.{Frontier}
use Rattle.gx_walk.proofs.IdLemmas.{itself_at, cases_at, get_push}

abbrev pub Answers : Type 0
Answers = List (ObjectId × Bool)

-- an answer stays
pub answer_on : (asked more : Answers) (q : ObjectId) (a : Bool) → answer_at asked q ≡ Some a → answer_at (asked ++ more) q ≡ Some a
answer_on [] more q a h = cc
answer_on (p ∷ ps) more q a h = elim (cases_Bool (is_at (id_cmp q) p.0)) [
  | inl e ↦ rw e (rw e at h)
  | inr ne ↦ rw ne (answer_on ps more q a (rw ne at h))
]

-- and where there was one it is that
pub answer_back : (asked more : Answers) (q : ObjectId) (a : Bool) → IsSome (answer_at asked q) → answer_at (asked ++ more) q ≡ Some a → answer_at asked q ≡ Some a
answer_back [] more q a some h = absurd (false≢true some)
answer_back (p ∷ ps) more q a some h = elim (cases_Bool (is_at (id_cmp q) p.0)) [
  | inl e ↦ rw e (rw e at h)
  | inr ne ↦ rw ne (answer_back ps more q a (rw ne at some) (rw ne at h))
]

none_some : (o : Option Bool) → (IsSome o → ⊥) → o ≡ None
none_some None h = refl
none_some (Some b) h = absurd (h refl)

-- an id that is asked about for the first time
pub answer_new : (asked : Answers) (id : ObjectId) (a : Bool) → (IsSome (answer_at asked id) → ⊥) → answer_at (asked ++ (id, a) ∷ []) id ≡ Some a
answer_new [] id a none = rw (itself_at id) refl
answer_new (p ∷ ps) id a none = elim (cases_Bool (is_at (id_cmp id) p.0)) [
  | inl e ↦ absurd (none (rw e refl))
  | inr ne ↦ rw ne (answer_new ps id a (rw ne at none))
]

-- another id has no answer but those it had
pub answer_other : (asked : Answers) (id q : ObjectId) (a : Bool) → is_at (id_cmp q) id ≡ false → answer_at (asked ++ (id, a) ∷ []) q ≡ answer_at asked q
answer_other [] id q a ne = rw ne refl
answer_other (p ∷ ps) id q a ne = elim (cases_Bool (is_at (id_cmp q) p.0)) [
  | inl e ↦ rw e refl
  | inr other ↦ rw other (answer_other ps id q a ne)
]

-- what stands in the list was asked about
answered_at : (asked : Answers) (i : ℕ) (id : ObjectId) (a : Bool) → slice_get asked i ≡ Some (id, a) → IsSome (answer_at asked id)
answered_at [] i id a h = cc
answered_at (p ∷ ps) zero id a h = let e : p ≡ (id, a) = cc in let f : p.0 ≡ id = ap (λ w. w.0) e in rw (f, itself_at id) refl
answered_at (p ∷ ps) (suc i) id a h = elim (cases_Bool (is_at (id_cmp id) p.0)) [
  | inl e ↦ rw e refl
  | inr ne ↦ rw ne (answered_at ps i id a h)
]

pub asked_once_push : (asked : Answers) (id : ObjectId) (a : Bool) → AskedOnce asked → (IsSome (answer_at asked id) → ⊥) → AskedOnce (asked ++ (id, a) ∷ [])
asked_once_push asked id a once none i j x b c at_i at_j = elim (get_push asked (id, a) i (x, b) at_i) [
  | inl hi ↦ elim (get_push asked (id, a) j (x, c) at_j) [
    | inl hj ↦ once i j x b c hi.1 hj.1
    | inr hj ↦ let e : id ≡ x = ap (λ w. w.0) hj.1 in absurd (none (subst (λ w. IsSome (answer_at asked w)) (sym e) (answered_at asked i x b hi.1)))
  ]
  | inr hi ↦ elim (get_push asked (id, a) j (x, c) at_j) [
    | inl hj ↦ let e : id ≡ x = ap (λ w. w.0) hi.1 in absurd (none (subst (λ w. IsSome (answer_at asked w)) (sym e) (answered_at asked j x c hj.1)))
    | inr hj ↦ hi.0 ∙ sym hj.0
  ]
]

module _ {F : Type 0} (gives : F → ObjectId → Bool → F → Type 0) where
  -- nothing was asked
  pub asks_none : (asked : Answers) (f : F) → AskedOnce asked → Asks gives asked asked f f
  asks_none asked f once = record { more = []; asked = sym (append-nil asked); answers = refl; once = once }

  -- one id was asked about
  pub asks_one : (asked new : Answers) (f g : F) (id : ObjectId) (a : Bool) → new ≡ asked ++ (id, a) ∷ [] → AskedOnce new → gives f id a g → Asks gives asked new f g
  asks_one asked new f g id a is once given = record { more = (id, a) ∷ []; asked = is; answers = (g, given, refl); once = once }

  folds_on : (f g h : F) (xs ys : Answers) → FoldsTo (λ s p t. gives s p.0 p.1 t) f xs g → FoldsTo (λ s p t. gives s p.0 p.1 t) g ys h → FoldsTo (λ s p t. gives s p.0 p.1 t) f (xs ++ ys) h
  folds_on f g h [] ys first second = subst (λ w. FoldsTo (λ s p t. gives s p.0 p.1 t) w ys h) (sym first) second
  folds_on f g h (x ∷ xs) ys first second = let (j, step, rest) = first in (j, step, folds_on j g h xs ys rest second)

  -- some ids, and then some more
  pub asks_on : (a b c : Answers) (f g h : F) → Asks gives a b f g → Asks gives b c g h → Asks gives a c f h
  asks_on a b c f g h first second = record {
    more = first.more ++ second.more;
    asked = second.asked ∙ ap (λ w. w ++ second.more) first.asked ∙ append_assoc a first.more second.more;
    answers = folds_on f g h first.more second.more first.answers second.answers;
    once = second.once;
  }

-- the same ids were asked about, and no fewer seen
pub asked_same : (f g : Frontier) → IsAskedBy f → g.asked.items ≡ f.asked.items → ((q : ObjectId) → has_id f.seen q ≡ true → has_id g.seen q ≡ true) → IsAskedBy g
asked_same f g it same more = record {
  once = subst AskedOnce (sym same) it.once;
  within = λ id some. more id (it.within id (subst (λ w. IsSome (answer_at w id)) same some));
}

-- one more id was asked about
pub asked_more : (f g : Frontier) (id : ObjectId) (a : Bool) → IsAskedBy f → has_id f.seen id ≡ false → ((q : ObjectId) → has_id g.seen q ≡ (id_eq id q || has_id f.seen q)) → g.asked.items ≡ f.asked.items ++ (id, a) ∷ [] → IsAskedBy g
asked_more f g id a it unseen seen is = record {
  once = subst AskedOnce (sym is) (asked_once_push f.asked.items id a it.once (λ some. both_ways _ unseen (it.within id some)));
  within = λ q some. elim (cases_at q id) [
    | inl e ↦ seen q ∙ or_left _ _ (subst (λ w. id_eq id w ≡ true) (sym e) (own_id id))
    | inr ne ↦ seen q ∙ or_right _ _ (it.within q (subst IsSome (answer_other f.asked.items id q a ne) (subst (λ w. IsSome (answer_at w q)) is some)))
  ];
}

-- no id was asked about
pub asks_same : {F : Type 0} (gives : F → ObjectId → Bool → F → Type 0) (old new : Answers) (f : F) → AskedOnce old → new ≡ old → Asks gives old new f f
asks_same gives old new f once same = record { more = []; asked = same ∙ sym (append-nil old); answers = refl; once = subst AskedOnce (sym same) once }

pub not_new : (b : Bool) → not b ≡ true → b ≡ false
not_new true h = absurd (false≢true h)
not_new false h = refl
