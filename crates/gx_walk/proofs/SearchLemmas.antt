-- Walks that admit every commit, without a boundary or a cutoff.
use Rattle.std.proofs.Common.{◌≡◌, ℤ, Bool, true, false, List, [], ◌∷◌, ◌++◌, sym, refl, ap, ◌∙◌, subst, ◌⊎◌, inl, inr, Some, None, Option, IsSome, Ok, Err}
use Rattle.std.specs.List.{FoldsTo}
use Rattle.std.specs.BTreeMap.{is_at}
use Rattle.std.specs.Prelude.{◌↔◌}
use Rattle.std.proofs.lemmas.Bool.{cases_Bool, false≢true, or_cases}
use Rattle.gx_hash.specs.ObjectId.{id_cmp}
use Rattle.gx_hash.specs.declared.oid.ObjectId.{ObjectId}
use Rattle.gx_store.specs.State.{StoreState}
use Rattle.gx_walk.specs.Causes.{CommitCauses}
use Rattle.gx_walk.specs.History.{History, Told, time_of, Reaches, start, step}
use Rattle.gx_hash.specs.ObjectIds.{has_id}
use Rattle.gx_walk.specs.Laws.{AnswersBy}
use Rattle.gx_walk.specs.Simple.{Walk, Gives, follow, mentioned, answer_at, IsAdmitted, IsHidden, AllAsked, IsNextInfo, IsNamed, IsWhole}
use Rattle.gx_walk.specs.Walk.{IsInTime, BeginsWalk, IsExhausted, ReachesThrough}
use Rattle.gx_walk.specs.Walk as through
use Rattle.gx_walk.specs.declared.error.WalkError.{WalkError}
use Rattle.gx_walk.specs.declared.commit.info.Info.{Info}
use Rattle.gx_walk.specs.declared.commit.sorting.WalkOptions.{WalkOptions}
use Rattle.gx_walk.proofs.AskedLemmas.{answer_on}
use Rattle.gx_walk.proofs.IdLemmas.{has_id-append, has_id_flat_map}
use Rattle.gx_walk.proofs.LawLemmas.{whole_lists_difference}
use Rattle.gx_walk.proofs.TellLemmas.{told_all, told_then, told_both, causes_then}
use Rattle.gx_walk.proofs.WalkLemmas.{BeginsWalk-push, IsNext-by, listed_reached}

abbrev pub Admitting : List (ObjectId × Bool) → Type 0
Admitting asked = AnswersBy (λ _. true) asked

-- where the front has no answer, it is that of the rest
answer_past : (asked more : List (ObjectId × Bool)) (q : ObjectId) → answer_at asked q ≡ None → answer_at (asked ++ more) q ≡ answer_at more q
answer_past [] more q h = refl
answer_past (p ∷ ps) more q h = elim (cases_Bool (is_at (id_cmp q) p.0)) [
  | inl e ↦ let none : Some p.1 ≡ None = rw e at h in cc
  | inr ne ↦ rw ne (answer_past ps more q (rw ne at h))
]

admitting-append : (asked more : List (ObjectId × Bool)) → Admitting asked → Admitting more → Admitting (asked ++ more)
admitting-append asked more a b q answer h = go (answer_at asked q) refl where
  go : (o : Option Bool) → answer_at asked q ≡ o → answer ≡ true
  go None is = b q answer (sym (answer_past asked more q is) ∙ h)
  go (Some found) is = a q answer (is ∙ sym (answer_on asked more q found is) ∙ h)

admitting-folds : {F : Type 0} (gives : F → ObjectId → Bool → F → Type 0) → ((f : F) (one : ObjectId) (b : Bool) (g : F) → gives f one b g → b ≡ true)
    → (f : F) (more : List (ObjectId × Bool)) (g : F) → FoldsTo (λ f p g. gives f p.0 p.1 g) f more g → Admitting more
admitting-folds gives always f [] g folds q answer h = cc
admitting-folds gives always f (p ∷ ps) g folds q answer h = elim (cases_Bool (is_at (id_cmp q) p.0)) [
  | inl e ↦ let here : Some p.1 ≡ Some answer = rw e at h in let same : answer ≡ p.1 = cc in same ∙ always f p.0 p.1 folds.0 folds.1
  | inr ne ↦ admitting-folds gives always folds.0 ps g folds.2 q answer (rw ne at h)
]

-- the options have no boundary and no cutoff
pub record IsPlain (options : WalkOptions) : Type 0 where
  pub boundary : options.boundary ≡ []
  pub in_time : (time : ℤ) → IsInTime options.sorting time

-- what such a walk lists: what is not hidden
abbrev pub BeginsPlainly : History → WalkOptions → List ObjectId → Type 0
BeginsPlainly h options listed = BeginsWalk (follow h options) (time_of h) options.sorting (λ x. ¬ IsHidden h options x) options.tips listed

abbrev pub EndsPlainly : History → WalkOptions → List ObjectId → Type 0
EndsPlainly h options listed = IsExhausted (follow h options) (time_of h) options.sorting (λ x. ¬ IsHidden h options x) options.tips listed

module _ (h : History) (options : WalkOptions) (plain : IsPlain options) (asked : List (ObjectId × Bool)) (all : Admitting asked) where
  admitted : (listed : List ObjectId) → AllAsked h options asked listed → (y : ObjectId) → has_id (mentioned h options listed) y ≡ true → ¬ IsHidden h options y → IsAdmitted h options asked y
  admitted listed every y m shown = record { inside = inside; shown = shown; answered = answer (answer_at asked y) refl (every y m inside shown); in_time = plain.in_time (time_of h y) } where
    inside : has_id options.boundary y ≡ false
    inside = ap (λ w. has_id w y) plain.boundary

    answer : (o : Option Bool) → answer_at asked y ≡ o → IsSome o → answer_at asked y ≡ Some true
    answer None is some = absurd (false≢true some)
    answer (Some b) is some = is ∙ ap (λ w. Some w) (all y b is)

  plain_next : (listed : List ObjectId) (info : Info) → IsNextInfo h options asked listed info → BeginsPlainly h options listed → BeginsPlainly h options (listed ++ info.id ∷ [])
  plain_next listed info next begins = BeginsWalk-push (follow h options) (time_of h) options.sorting (λ x. ¬ IsHidden h options x) options.tips listed info.id begins
      (IsNext-by (follow h options) (time_of h) options.sorting (IsAdmitted h options asked) (λ x. ¬ IsHidden h options x) options.tips listed info.id
      (λ y m a. a.shown) (λ y m shown. admitted listed next.all_asked y m shown) next.next)

  plain_end : (listed : List ObjectId) → IsWhole h options asked listed → EndsPlainly h options listed
  plain_end listed whole x m shown = whole.walk.exhausted x m (admitted listed whole.all_asked x m shown)

  plain_whole : (listed : List ObjectId) → IsWhole h options asked listed → (x : ObjectId) → (has_id listed x ≡ true) ↔ (Reaches (follow h options) options.tips x × ¬ IsHidden h options x)
  plain_whole listed whole x = whole_lists_difference h options asked listed whole all plain.boundary plain.in_time x

reached_plainly : {Admits : ObjectId → Type 0} {follow : ObjectId → List ObjectId} {ids : List ObjectId} {x : ObjectId} → ReachesThrough Admits follow ids x → Reaches follow ids x
reached_plainly (through.start among admitted) = start among
reached_plainly (through.step before parent admitted) = step (reached_plainly before) parent

-- what is listed is reached
pub listed_plainly : (h : History) (options : WalkOptions) (listed : List ObjectId) → BeginsPlainly h options listed → (x : ObjectId) → has_id listed x ≡ true → Reaches (follow h options) options.tips x
listed_plainly h options listed begins x among = reached_plainly (listed_reached (follow h options) (time_of h) options.sorting (λ x. ¬ IsHidden h options x) options.tips listed begins x among)

-- and so is what an error names, unless it is hidden
named_plainly : (h : History) (options : WalkOptions) (asked : List (ObjectId × Bool)) (listed : List ObjectId) (x : ObjectId) → BeginsPlainly h options listed → IsNamed h options asked listed x → IsHidden h options x ⊎ Reaches (follow h options) options.tips x
named_plainly h options asked listed x begins (inl hidden) = inl hidden
named_plainly h options asked listed x begins (inr mention) = inr (elim (or_cases _ _ (rw has_id-append at mention.0)) [
  | inl tip ↦ start tip
  | inr later ↦ let (y, of, parent) = has_id_flat_map (follow h options) listed x later in step (listed_plainly h options listed begins y of) parent
])

module _ {S F : Type 0} (state : S → StoreState) (gives : F → ObjectId → Bool → F → Type 0) (always : (f : F) (one : ObjectId) (b : Bool) (g : F) → gives f one b g → b ≡ true) where
  abbrev BeginsAt : Walk S F → Type 0
  BeginsAt walk = Told (state walk.store) (λ h. BeginsPlainly h walk.options walk.listed)

  -- a walk under way
  pub record IsAlong (walk : Walk S F) : Type 0 where
    pub going : walk.failed ≡ false
    pub answers : Admitting walk.asked
    pub begins : BeginsAt walk

  pub along_start : (walk : Walk S F) → walk.failed ≡ false → walk.asked ≡ [] → walk.listed ≡ [] → IsAlong walk
  along_start walk going asked listed = record {
    going = going;
    answers = subst Admitting (sym asked) (λ q answer h. cc);
    begins = told_all (state walk.store) (λ h. BeginsPlainly h walk.options walk.listed)
        (λ h. subst (BeginsPlainly h walk.options) (sym listed) (λ i x k. cc));
  }

  module _ (old new : Walk S F) (plain : IsPlain old.options) (it : IsAlong old) where
    pub along_step : (info : Info) → Gives state gives old (Some (Ok info)) new → IsAlong new
    along_step info g =
        let answers = subst Admitting (sym g.1.1.asked) (admitting-append old.asked g.1.1.more it.answers (admitting-folds gives always old.filter g.1.1.more new.filter g.1.1.answers)) in
        record {
          going = ap (λ (w : Walk S F). w.failed) g.1.0;
          answers = answers;
          begins = subst BeginsAt (sym g.1.0) (told_both (state old.store) (λ h. BeginsPlainly h old.options old.listed)
              (λ h. IsNextInfo h old.options new.asked old.listed info) (λ h. BeginsPlainly h old.options (old.listed ++ info.id ∷ []))
              (λ h before next. plain_next h old.options plain new.asked answers old.listed info next before) it.begins g.2);
        }

    pub along_error : (e : WalkError) → Gives state gives old (Some (Err e)) new
        → CommitCauses (state old.store) (λ one. Told (state old.store) (λ h. IsHidden h old.options one ⊎ Reaches (follow h old.options) old.options.tips one)) e
    along_error e g = causes_then (state old.store) (λ one. Told (state old.store) (λ h. IsNamed h old.options new.asked old.listed one))
        (λ one. Told (state old.store) (λ h. IsHidden h old.options one ⊎ Reaches (follow h old.options) old.options.tips one)) e
        (λ one named. told_both (state old.store) (λ h. BeginsPlainly h old.options old.listed) (λ h. IsNamed h old.options new.asked old.listed one)
        (λ h. IsHidden h old.options one ⊎ Reaches (follow h old.options) old.options.tips one)
        (λ h begins n. named_plainly h old.options new.asked old.listed one begins n) it.begins named) g.2

    along_answers : Gives state gives old None new → Admitting new.asked
    along_answers g = subst Admitting (sym g.0.1.asked) (admitting-append old.asked g.0.1.more it.answers (admitting-folds gives always old.filter g.0.1.more new.filter g.0.1.answers))

    pub along_end : Gives state gives old None new → Told (state old.store) (λ h. EndsPlainly h old.options old.listed)
    along_end g = told_then (state old.store) (λ h. IsWhole h old.options new.asked old.listed) (λ h. EndsPlainly h old.options old.listed)
        (λ h whole. plain_end h old.options plain new.asked (along_answers g) old.listed whole) (g.1 it.going)

    pub along_whole : Gives state gives old None new → Told (state old.store) (λ h. (x : ObjectId)
        → (has_id old.listed x ≡ true) ↔ (Reaches (follow h old.options) old.options.tips x × ¬ IsHidden h old.options x))
    along_whole g = told_then (state old.store) (λ h. IsWhole h old.options new.asked old.listed)
        (λ h. (x : ObjectId) → (has_id old.listed x ≡ true) ↔ (Reaches (follow h old.options) old.options.tips x × ¬ IsHidden h old.options x))
        (λ h whole. plain_whole h old.options plain new.asked (along_answers g) old.listed whole) (g.1 it.going)
