-- How near candidates are.
use Rattle.std.proofs.Common.{◌≡◌, ◌<◌, ◌+◌, Bool, true, false, List, [], ◌∷◌, ◌++◌, length, get_or, sym, refl, ap, ◌∙◌, subst, arith, ◌⊎◌, inl, inr, Some, None, Ok, Err}
use Rattle.std.specs.List.{IsDistinct}
use Rattle.std.specs.Prelude.{◌↔◌, ◌||◌}
use Rattle.std.proofs.lemmas.Bool.{false_from_ne_true, or_left, or_right}
use Rattle.std.proofs.lemmas.Map.Keys.{IsDistinct-from_apart}
use Rattle.std.proofs.lemmas.Option.{slice_get-get_or}
use Rattle.gx_hash.specs.ObjectIds.{id_eq, has_id}
use Rattle.gx_hash.specs.Laws.{same_id, own_id}
use Rattle.gx_hash.specs.declared.oid.ObjectId.{ObjectId}
use Rattle.gx_store.specs.State.{StoreState}
use Rattle.gx_walk.specs.Causes.{CommitCauses}
use Rattle.gx_walk.specs.History.{History, Told, time_of, Reaches, start, step}
use Rattle.gx_walk.specs.Search.{search_options, follow, IsReached, IfReached, IsMeasured}
use Rattle.gx_walk.specs.Simple.{Walk, Gives, fresh, IsHidden}
use Rattle.gx_walk.specs.Simple as simple
use Rattle.gx_walk.specs.declared.commit.filter.All.{All}
use Rattle.gx_walk.specs.declared.commit.info.Info.{Info}
use Rattle.gx_walk.specs.declared.commit.sorting.WalkOptions.{WalkOptions}
use Rattle.gx_walk.specs.declared.describe.search.Search.{Search}
use Rattle.gx_walk.specs.declared.error.WalkError.{WalkError}
use Rattle.gx_walk.proofs.IdLemmas.{cases_id, has_id-append}
use Rattle.gx_walk.proofs.SearchLemmas.{BeginsPlainly, IsPlain, IsAlong, along_start, along_step, along_error, along_whole}
use Rattle.gx_walk.proofs.TellLemmas.{told_then, told_both, causes_then}
use Rattle.gx_walk.proofs.WalkLemmas.{begins_once}

-- what is reached from what is reached
pub reached_on : {follow : ObjectId → List ObjectId} {ids base : List ObjectId} {x : ObjectId} → ((y : ObjectId) → has_id ids y ≡ true → Reaches follow base y) → Reaches follow ids x → Reaches follow base x
reached_on on (start among) = on _ among
reached_on on (step before parent) = step (reached_on on before) parent

-- the walk by which a candidate is measured
abbrev pub beyond_options : Search → ObjectId → WalkOptions
beyond_options search candidate = record (search_options search) { hidden = candidate ∷ [] }

pub beyond_plain : (search : Search) (candidate : ObjectId) → IsPlain (beyond_options search candidate)
beyond_plain search candidate = record { boundary = refl; in_time = λ time. tt }

last_false : (a b : Bool) → b ≡ false → (a || b) ≡ a
last_false true b h = refl
last_false false b h = h

-- one more id in a set, and at the end of a list
pub added_last : (xs : List ObjectId) (id x : ObjectId) → (id_eq id x || has_id xs x) ≡ has_id (xs ++ id ∷ []) x
added_last xs id x = elim (cases_id id x) [
  | inl e ↦ let same : id_eq id x ≡ true = subst (λ w. id_eq id w ≡ true) e (own_id id) in
      or_left _ _ same ∙ sym (has_id-append xs (id ∷ []) x ∙ or_right (has_id xs x) (has_id (id ∷ []) x) (or_left _ _ same))
  | inr ne ↦ ap (λ w. w || has_id xs x) ne ∙ sym (has_id-append xs (id ∷ []) x ∙ last_false (has_id xs x) (has_id (id ∷ []) x) (ap (λ w. w || false) ne))
]

pub beyond_more : (old new listed more : List ObjectId) (id : ObjectId) → ((x : ObjectId) → has_id old x ≡ has_id listed x)
    → ((one : ObjectId) → has_id new one ≡ (id_eq id one || has_id old one)) → more ≡ listed ++ id ∷ []
    → (x : ObjectId) → has_id new x ≡ has_id more x
beyond_more old new listed more id before added is x =
    added x ∙ ap (λ w. id_eq id x || w) (before x) ∙ added_last listed id x ∙ ap (λ w. has_id w x) (sym is)

-- a walk lists each commit once
listed_once : (h : History) (options : WalkOptions) (listed : List ObjectId) → BeginsPlainly h options listed → IsDistinct id_eq listed
listed_once h options listed begins = IsDistinct-from_apart id_eq listed (λ i j d lt below. false_from_ne_true _ (λ e.
    let i_below : i < length listed = omega arith in
    let same : get_or listed i d ≡ get_or listed j d = same_id (get_or listed i d) (get_or listed j d) e in
    begins_once (simple.follow h options) (time_of h) options.sorting (λ x. ¬ IsHidden h options x) options.tips listed begins i j (get_or listed i d) lt
    (slice_get-get_or listed i d i_below) (slice_get-get_or listed j d below ∙ ap (λ w. Some w) (sym same))))

-- what the walk without a candidate lists is what is beyond it
pub measured : (h : History) (search : Search) (candidate : ObjectId) (listed beyond : List ObjectId)
    → BeginsPlainly h (beyond_options search candidate) listed
    → ((x : ObjectId) → (has_id listed x ≡ true) ↔ (Reaches (simple.follow h (beyond_options search candidate)) (search.id ∷ []) x × ¬ IsHidden h (beyond_options search candidate) x))
    → ((x : ObjectId) → has_id beyond x ≡ has_id listed x)
    → IsMeasured h search (record { id = candidate; depth = length listed; beyond = beyond })
measured h search candidate listed beyond begins exact same = record {
  depth = record { ids = listed; distinct = listed_once h (beyond_options search candidate) listed begins; exact = exact; long = refl };
  beyond = λ x. (λ among. (exact x).0 (sym (same x) ∙ among), λ is. same x ∙ (exact x).1 is);
}

-- what an error names is reached, if the candidate is
pub beyond_named : (state : StoreState) (search : Search) (candidate : ObjectId) (e : WalkError)
    → CommitCauses state (λ one. Told state (λ h. IsHidden h (beyond_options search candidate) one ⊎ Reaches (simple.follow h (beyond_options search candidate)) (search.id ∷ []) one)) e
    → CommitCauses state (λ one. IfReached state search (candidate ∷ []) (λ h. IsReached h search one)) e
beyond_named state search candidate e causes = causes_then state
    (λ one. Told state (λ h. IsHidden h (beyond_options search candidate) one ⊎ Reaches (simple.follow h (beyond_options search candidate)) (search.id ∷ []) one))
    (λ one. IfReached state search (candidate ∷ []) (λ h. IsReached h search one)) e
    (λ one told. told_then state (λ h. IsHidden h (beyond_options search candidate) one ⊎ Reaches (simple.follow h (beyond_options search candidate)) (search.id ∷ []) one)
    (λ h. ((x : ObjectId) → has_id (candidate ∷ []) x ≡ true → IsReached h search x) → IsReached h search one)
    (λ h either reached. elim either [ inl hidden ↦ reached_on reached hidden | inr here ↦ here ]) told) causes

-- ---- the loop that measures a candidate

-- the filter of these walks
abbrev pub admits : All → ObjectId → Bool → All → Type 0
admits before one answer after = answer ≡ true

pub always : (f : All) (one : ObjectId) (answer : Bool) (g : All) → admits f one answer g → answer ≡ true
always f one answer g is = is

module _ {S : Type 0} (state : S → StoreState) (store : S) (search : Search) (candidate : ObjectId) where
  -- the walk so far, and the set of what it has listed
  pub record IsMeasuring (walk : Walk S All) (beyond : List ObjectId) : Type 0 where
    pub along : IsAlong state admits always walk
    pub store_is : walk.store ≡ store
    pub options_are : walk.options ≡ beyond_options search candidate
    pub same : (x : ObjectId) → has_id beyond x ≡ has_id walk.listed x

  pub measuring_start : (bare walk : Walk S All) (hidden beyond : List ObjectId) → bare ≡ fresh store bare.filter (search_options search)
      → hidden ≡ candidate ∷ [] → walk ≡ fresh bare.store bare.filter (record bare.options { hidden = hidden }) → beyond ≡ [] → IsMeasuring walk beyond
  measuring_start bare walk hidden beyond is only hides none = record {
    along = along_start state admits always walk (ap (λ (w : Walk S All). w.failed) hides) (ap (λ (w : Walk S All). w.asked) hides) (ap (λ (w : Walk S All). w.listed) hides);
    store_is = ap (λ (w : Walk S All). w.store) hides ∙ ap (λ (w : Walk S All). w.store) is;
    options_are = ap (λ (w : Walk S All). w.options) hides ∙ ap (λ (l : List ObjectId). record bare.options { hidden = l }) only
        ∙ ap (λ (w : Walk S All). record w.options { hidden = candidate ∷ [] }) is;
    same = λ x. ap (λ l. has_id l x) none ∙ sym (ap (λ (w : Walk S All). has_id w.listed x) hides);
  }

  module _ (old new : Walk S All) (beyond : List ObjectId) (it : IsMeasuring old beyond) where
    is_plain : IsPlain old.options
    is_plain = subst IsPlain (sym it.options_are) (beyond_plain search candidate)

    pub measuring_step : (info : Info) (more : List ObjectId) → Gives state admits old (Some (Ok info)) new
        → ((one : ObjectId) → has_id more one ≡ (id_eq info.id one || has_id beyond one)) → IsMeasuring new more
    measuring_step info more g added = record {
      along = along_step state admits always old new is_plain it.along info g;
      store_is = ap (λ (w : Walk S All). w.store) g.1.0 ∙ it.store_is;
      options_are = ap (λ (w : Walk S All). w.options) g.1.0 ∙ it.options_are;
      same = beyond_more beyond more old.listed new.listed info.id it.same added (ap (λ (w : Walk S All). w.listed) g.1.0);
    }

    pub measuring_error : (e : WalkError) → Gives state admits old (Some (Err e)) new
        → CommitCauses (state store) (λ one. IfReached (state store) search (candidate ∷ []) (λ h. IsReached h search one)) e
    measuring_error e g = beyond_named (state store) search candidate e
        (subst (λ (o : WalkOptions). CommitCauses (state store) (λ one. Told (state store) (λ h. IsHidden h o one ⊎ Reaches (simple.follow h o) o.tips one)) e) it.options_are
        (subst (λ (s : S). CommitCauses (state s) (λ one. Told (state s) (λ h. IsHidden h old.options one ⊎ Reaches (simple.follow h old.options) old.options.tips one)) e) it.store_is
        (along_error state admits always old new is_plain it.along e g)))

    at_end : Gives state admits old None new
        → Told (state store) (λ h. IsMeasured h search (record { id = candidate; depth = length old.listed; beyond = beyond }))
    at_end g = told_both (state store) (λ h. BeginsPlainly h (beyond_options search candidate) old.listed)
        (λ h. (x : ObjectId) → (has_id old.listed x ≡ true) ↔ (Reaches (simple.follow h (beyond_options search candidate)) (search.id ∷ []) x × ¬ IsHidden h (beyond_options search candidate) x))
        (λ h. IsMeasured h search (record { id = candidate; depth = length old.listed; beyond = beyond }))
        (λ h begins exact. measured h search candidate old.listed beyond begins exact it.same)
        (subst (λ (o : WalkOptions). Told (state store) (λ h. BeginsPlainly h o old.listed)) it.options_are
        (subst (λ (s : S). Told (state s) (λ h. BeginsPlainly h old.options old.listed)) it.store_is it.along.begins))
        (subst (λ (o : WalkOptions). Told (state store) (λ h. (x : ObjectId) → (has_id old.listed x ≡ true) ↔ (Reaches (simple.follow h o) o.tips x × ¬ IsHidden h o x))) it.options_are
        (subst (λ (s : S). Told (state s) (λ h. (x : ObjectId) → (has_id old.listed x ≡ true) ↔ (Reaches (simple.follow h old.options) old.options.tips x × ¬ IsHidden h old.options x))) it.store_is
        (along_whole state admits always old new is_plain it.along g)))

    pub measuring_end : (now : List ObjectId) → now ≡ new.listed → Gives state admits old None new
        → Told (state store) (λ h. IsMeasured h search (record { id = candidate; depth = length now; beyond = beyond }))
    measuring_end now is g = subst (λ (l : List ObjectId). Told (state store) (λ h. IsMeasured h search (record { id = candidate; depth = length l; beyond = beyond })))
        (sym (is ∙ ap (λ (w : Walk S All). w.listed) g.0.0)) (at_end g)
