-- The candidates of a search, and the nearest of them.
use Rattle.std.proofs.Common.{◌≡◌, ℕ, zero, suc, ◌<◌, ◌≤◌, ◌+◌, Bool, true, false, List, [], ◌∷◌, ◌++◌, length, take, get_or, sym, refl, ap, ◌∙◌, subst, arith, ◌⊎◌, inl, inr, Some, None, Ok, Err, length-append}
use Rattle.std.specs.List.{slice_get, filter, list_any, IsDistinct}
use Rattle.std.specs.Ordering.{eq_by_cmp}
use Rattle.std.proofs.lemmas.Bool.{and_parts, both_ways, false≢true, cases_Bool, or_right}
use Rattle.std.proofs.lemmas.Cmp.{eq_by_cmp_equiv}
use Rattle.std.proofs.lemmas.List.{take_all}
use Rattle.std.proofs.lemmas.List.Elements.{filter-append}
use Rattle.std.proofs.lemmas.Map.Made.{length-le_from_is_member}
use Rattle.std.proofs.lemmas.Option.{slice_get_within, slice_get_read}
use Rattle.gx_hash.specs.Laws.{id_cmp_total, id_eq-id_cmp}
use Rattle.gx_hash.specs.ObjectId.{id_cmp}
use Rattle.gx_hash.specs.declared.oid.ObjectId.{ObjectId}
use Rattle.gx_store.specs.State.{StoreState}
use Rattle.gx_walk.specs.Causes.{CommitCauses}
use Rattle.gx_walk.specs.Describe.{HasSize, HasDepth, IsBeyond, AreCandidates, is_named}
use Rattle.gx_walk.specs.History.{History, Told, time_of, Reaches, start, step}
use Rattle.gx_hash.specs.ObjectIds.{id_eq, has_id}
use Rattle.gx_walk.specs.Search.{search_options, follow, IsReached, IfReached, IsMeasured, IsNearestOf}
use Rattle.gx_walk.specs.Simple.{Walk, Gives, fresh, IsHidden}
use Rattle.gx_walk.specs.Simple as simple
use Rattle.gx_walk.specs.declared.commit.filter.All.{All}
use Rattle.gx_walk.specs.declared.commit.info.Info.{Info}
use Rattle.gx_walk.specs.declared.commit.sorting.CommitTimeOrder.TheVariants.{NewestFirst}
use Rattle.gx_walk.specs.declared.commit.sorting.Sorting.{Sorting}
use Rattle.gx_walk.specs.declared.commit.sorting.Sorting.TheVariants.{ByCommitTime}
use Rattle.gx_walk.specs.declared.commit.sorting.WalkOptions.{WalkOptions}
use Rattle.gx_walk.specs.declared.describe.name_map.NameMap.{NameMap}
use Rattle.gx_walk.specs.declared.describe.search.Nearest.{Nearest}
use Rattle.gx_walk.specs.declared.describe.search.Search.{Search}
use Rattle.gx_walk.specs.declared.error.WalkError.{WalkError}
use Rattle.gx_walk.proofs.IdLemmas.{has_id-filter, single, get_push, get_front, get_last, next_taken, has_id_get}
use Rattle.gx_walk.proofs.NearestLemmas.{admits, always, reached_on}
use Rattle.gx_walk.proofs.SearchLemmas.{BeginsPlainly, EndsPlainly, IsPlain, IsAlong, along_start, along_step, along_error, along_end, listed_plainly}
use Rattle.gx_walk.proofs.TellLemmas.{told_then, told_both, causes_then}
use Rattle.gx_walk.proofs.WalkLemmas.{BeginsWalk-by}

-- ---- the walk that finds the candidates

abbrev pub newest_options : Search → WalkOptions
newest_options search = record (search_options search) { sorting = ByCommitTime NewestFirst }

newest_plain : (search : Search) → IsPlain (newest_options search)
newest_plain search = record { boundary = refl; in_time = λ time. tt }

-- nothing is hidden
shown : (follow : ObjectId → List ObjectId) {x : ObjectId} → Reaches follow [] x → ⊥
shown follow (start among) = false≢true among
shown follow (step before parent) = shown follow before

one_more : (p : ObjectId → Bool) (id : ObjectId) → length (filter p (id ∷ [])) ≤ 1
one_more p id = elim (cases_Bool (p id)) [ inl e ↦ rw e (omega arith) | inr ne ↦ rw ne (omega arith) ]

module _ {S : Type 0} (state : S → StoreState) (store : S) (search : Search) (names : NameMap) (most : ℕ) where
  -- the walk so far, and the named commits of it
  pub record IsSearching (walk : Walk S All) (found : List ObjectId) : Type 0 where
    pub along : IsAlong state admits always walk
    pub store_is : walk.store ≡ store
    pub options_are : walk.options ≡ newest_options search
    pub found_is : found ≡ filter (is_named names) walk.listed
    pub room : length found ≤ most

  pub searching_start : (bare walk : Walk S All) (sorting : Sorting) (found : List ObjectId) → bare ≡ fresh store bare.filter (search_options search)
      → sorting ≡ ByCommitTime NewestFirst → walk ≡ fresh bare.store bare.filter (record bare.options { sorting = sorting }) → found ≡ [] → IsSearching walk found
  searching_start bare walk sorting found is by sorts none = record {
    along = along_start state admits always walk (ap (λ (w : Walk S All). w.failed) sorts) (ap (λ (w : Walk S All). w.asked) sorts) (ap (λ (w : Walk S All). w.listed) sorts);
    store_is = ap (λ (w : Walk S All). w.store) sorts ∙ ap (λ (w : Walk S All). w.store) is;
    options_are = ap (λ (w : Walk S All). w.options) sorts ∙ ap (λ (s : Sorting). record bare.options { sorting = s }) by
        ∙ ap (λ (w : Walk S All). record w.options { sorting = ByCommitTime NewestFirst }) is;
    found_is = none ∙ sym (ap (λ (w : Walk S All). filter (is_named names) w.listed) sorts);
    room = let short : length found ≡ 0 = ap length none in omega (arith, short);
  }

  module _ (old : Walk S All) (found : List ObjectId) (it : IsSearching old found) where
    is_plain : IsPlain old.options
    is_plain = subst IsPlain (sym it.options_are) (newest_plain search)

    pub searching_step : (new : Walk S All) (info : Info) (more : List ObjectId) → Gives state admits old (Some (Ok info)) new
        → more ≡ found ++ filter (is_named names) (info.id ∷ []) → length found < most → IsSearching new more
    searching_step new info more g is lt = record {
      along = along_step state admits always old new is_plain it.along info g;
      store_is = ap (λ (w : Walk S All). w.store) g.1.0 ∙ it.store_is;
      options_are = ap (λ (w : Walk S All). w.options) g.1.0 ∙ it.options_are;
      found_is = is ∙ ap (λ w. w ++ filter (is_named names) (info.id ∷ [])) it.found_is
          ∙ sym (filter-append (is_named names) old.listed (info.id ∷ [])) ∙ ap (λ (w : Walk S All). filter (is_named names) w.listed) (sym g.1.0);
      room = let long : length more ≡ length found + length (filter (is_named names) (info.id ∷ [])) = ap length is ∙ length-append found (filter (is_named names) (info.id ∷ [])) in
          let one : length (filter (is_named names) (info.id ∷ [])) ≤ 1 = one_more (is_named names) info.id in omega (arith, long, one);
    }

    pub searching_error : (new : Walk S All) (e : WalkError) → Gives state admits old (Some (Err e)) new
        → CommitCauses (state store) (λ one. Told (state store) (λ h. IsReached h search one)) e
    searching_error new e g = causes_then (state store)
        (λ one. Told (state store) (λ h. IsHidden h (newest_options search) one ⊎ Reaches (simple.follow h (newest_options search)) (search.id ∷ []) one))
        (λ one. Told (state store) (λ h. IsReached h search one)) e
        (λ one told. told_then (state store) (λ h. IsHidden h (newest_options search) one ⊎ Reaches (simple.follow h (newest_options search)) (search.id ∷ []) one)
        (λ h. IsReached h search one)
        (λ h either. elim either [ inl hidden ↦ absurd (shown (follow h search) hidden) | inr here ↦ here ]) told)
        (subst (λ (o : WalkOptions). CommitCauses (state store) (λ one. Told (state store) (λ h. IsHidden h o one ⊎ Reaches (simple.follow h o) o.tips one)) e) it.options_are
        (subst (λ (s : S). CommitCauses (state s) (λ one. Told (state s) (λ h. IsHidden h old.options one ⊎ Reaches (simple.follow h old.options) old.options.tips one)) e) it.store_is
        (along_error state admits always old new is_plain it.along e g)))

    begins : Told (state store) (λ h. BeginsPlainly h (newest_options search) old.listed)
    begins = subst (λ (o : WalkOptions). Told (state store) (λ h. BeginsPlainly h o old.listed)) it.options_are
        (subst (λ (s : S). Told (state s) (λ h. BeginsPlainly h old.options old.listed)) it.store_is it.along.begins)

    are_candidates : (h : History) → BeginsPlainly h (newest_options search) old.listed → (length found < most → EndsPlainly h (newest_options search) old.listed)
        → AreCandidates (follow h search) (time_of h) search.id names most found
    are_candidates h b ends = record {
      walk = old.listed;
      begins = BeginsWalk-by (follow h search) (time_of h) (ByCommitTime NewestFirst) (λ x. ¬ IsHidden h (newest_options search) x) (λ _. Unit {0}) (search.id ∷ []) old.listed
          (λ y m a. tt) (λ y m a hidden. shown (follow h search) hidden) b;
      first = sym (take_all most found it.room) ∙ ap (take most) it.found_is;
      whole = λ lt x m a. ends lt x m (λ hidden. shown (follow h search) hidden);
    }

    pub searching_full : ¬ (length found < most) → Told (state store) (λ h. AreCandidates (follow h search) (time_of h) search.id names most found)
    searching_full full = told_then (state store) (λ h. BeginsPlainly h (newest_options search) old.listed)
        (λ h. AreCandidates (follow h search) (time_of h) search.id names most found) (λ h b. are_candidates h b (λ lt. absurd (full lt))) begins

    pub searching_end : (new : Walk S All) → Gives state admits old None new → Told (state store) (λ h. AreCandidates (follow h search) (time_of h) search.id names most found)
    searching_end new g = told_both (state store) (λ h. BeginsPlainly h (newest_options search) old.listed) (λ h. EndsPlainly h (newest_options search) old.listed)
        (λ h. AreCandidates (follow h search) (time_of h) search.id names most found) (λ h b ends. are_candidates h b (λ lt. ends)) begins
        (subst (λ (o : WalkOptions). Told (state store) (λ h. EndsPlainly h o old.listed)) it.options_are
        (subst (λ (s : S). Told (state s) (λ h. EndsPlainly h old.options old.listed)) it.store_is (along_end state admits always old new is_plain it.along g)))

    pub searching_reached : Told (state store) (λ h. (x : ObjectId) → has_id found x ≡ true → IsReached h search x)
    searching_reached = told_then (state store) (λ h. BeginsPlainly h (newest_options search) old.listed) (λ h. (x : ObjectId) → has_id found x ≡ true → IsReached h search x)
        (λ h b x among. listed_plainly h (newest_options search) old.listed b x
        (and_parts (is_named names x) (has_id old.listed x) (sym (has_id-filter (is_named names) old.listed x) ∙ subst (λ l. has_id l x ≡ true) it.found_is among)).1) begins

-- ---- sizes

-- a set's test for a member
member_is : (xs : List ObjectId) (q : ObjectId) → list_any (eq_by_cmp id_cmp q) xs ≡ has_id xs q
member_is xs q = λ i. list_any (λ one. ((eq_by_cmp_equiv id_cmp_total).symm q one ∙ sym (id_eq-id_cmp one q)) i) xs

-- what is within the other is no larger
pub size_within : (P Q : ObjectId → Type 0) (n m : ℕ) → ((x : ObjectId) → P x → Q x) → HasSize P n → HasSize Q m → n ≤ m
size_within P Q n m on a b =
    let apart : IsDistinct (eq_by_cmp id_cmp) a.ids = subst (λ e. IsDistinct e a.ids) (λ i x y. id_eq-id_cmp x y i) a.distinct in
    let le : length a.ids ≤ length b.ids = length-le_from_is_member (eq_by_cmp_equiv id_cmp_total) a.ids b.ids apart (λ q among. member_is b.ids q ∙ (b.exact q).1 (on q ((a.exact q).0 (sym (member_is a.ids q) ∙ among)))) in
    let n_is : length a.ids ≡ n = a.long in
    let m_is : length b.ids ≡ m = b.long in
    omega (arith, le, n_is, m_is)

-- ---- the nearest of the candidates

module _ (h : History) (search : Search) where
  abbrev Depth : ObjectId → ℕ → Type 0
  Depth candidate depth = HasDepth (follow h search) search.id candidate depth

  same_depth : (c : ObjectId) (n m : ℕ) → Depth c n → Depth c m → n ≤ m
  same_depth c n m a b = size_within (IsBeyond (follow h search) search.id c) (IsBeyond (follow h search) search.id c) n m (λ x p. p) a b

  pub nearest_start : (first : Nearest) (id : ObjectId) → first.id ≡ id → IsMeasured h search first → IsNearestOf h search (id ∷ []) first
  nearest_start first id is m = record {
    measured = m;
    nearest = record {
      place = 0;
      here = ap (λ w. Some w) (sym is);
      depth_is = m.depth;
      least = λ j other far at_j d. only j other far at_j d;
      first = λ j other far lt. absurd (omega arith);
    };
  }
    where
      only : (j : ℕ) (other : ObjectId) (far : ℕ) → slice_get (id ∷ []) j ≡ Some other → Depth other far → first.depth ≤ far
      only zero other far at_j d = let e : id ≡ other = cc in same_depth other first.depth far (subst (λ w. Depth w first.depth) (is ∙ e) m.depth) d
      only (suc j) other far at_j d = cc

  module _ (before : List ObjectId) (old : Nearest) (other : ObjectId) (it : IsNearestOf h search before old) where
    place_below : it.nearest.place < length before
    place_below = slice_get_within before it.nearest.place old.id it.nearest.here

    -- the other one is no nearer
    pub nearest_stays : ((far : ℕ) → Depth other far → old.depth ≤ far) → IsNearestOf h search (before ++ other ∷ []) old
    nearest_stays no_nearer = record {
      measured = it.measured;
      nearest = record {
        place = it.nearest.place;
        here = get_front before (other ∷ []) it.nearest.place old.id it.nearest.here;
        depth_is = it.nearest.depth_is;
        least = λ j one far at_j d. elim (get_push before other j one at_j) [
          | inl both ↦ it.nearest.least j one far both.1 d
          | inr both ↦ no_nearer far (subst (λ w. Depth w far) (sym both.1) d)
        ];
        first = λ j one far lt at_j d. elim (get_push before other j one at_j) [
          | inl both ↦ it.nearest.first j one far lt both.1 d
          | inr both ↦ absurd (let p = place_below in let e : j ≡ length before = both.0 in omega (arith, p, e))
        ];
      };
    }

    -- one that the nearest reaches is no nearer
    pub nearest_reaches : IsReached h search other → has_id old.beyond other ≡ false → IsNearestOf h search (before ++ other ∷ []) old
    nearest_reaches here inside = nearest_stays (λ far d.
        size_within (IsBeyond (follow h search) search.id old.id) (IsBeyond (follow h search) search.id other) old.depth far
        (λ x p. (p.0, λ of_other. out (λ of_old. p.1 (reached_on (λ y among. subst (Reaches (follow h search) (old.id ∷ [])) (single other y among) of_old) of_other))))
        it.measured.depth d)
      where
        out : ¬ ¬ Reaches (follow h search) (old.id ∷ []) other
        out not_old = both_ways _ inside ((it.measured.beyond other).1 (here, not_old))

    pub nearest_keeps : (next : Nearest) → next.id ≡ other → IsMeasured h search next → ¬ (next.depth < old.depth) → IsNearestOf h search (before ++ other ∷ []) old
    nearest_keeps next is m not_less = nearest_stays (λ far d.
        let le : next.depth ≤ far = same_depth other next.depth far (subst (λ w. Depth w next.depth) is m.depth) d in omega (arith, not_less, le))

    pub nearest_moves : (next : Nearest) → next.id ≡ other → IsMeasured h search next → next.depth < old.depth → IsNearestOf h search (before ++ other ∷ []) next
    nearest_moves next is m less = record {
      measured = m;
      nearest = record {
        place = length before;
        here = get_last before other ∙ ap (λ w. Some w) (sym is);
        depth_is = m.depth;
        least = λ j one far at_j d. elim (get_push before other j one at_j) [
          | inl both ↦ let le : old.depth ≤ far = it.nearest.least j one far both.1 d in omega (arith, less, le)
          | inr both ↦ same_depth one next.depth far (subst (λ w. Depth w next.depth) (is ∙ both.1) m.depth) d
        ];
        first = λ j one far lt at_j d. elim (get_push before other j one at_j) [
          | inl both ↦ let le : old.depth ≤ far = it.nearest.least j one far both.1 d in omega (arith, less, le)
          | inr both ↦ absurd (let e : j ≡ length before = both.0 in omega (arith, lt, e))
        ];
      };
    }

-- ---- facts of the candidates that are reached

pub if_reached_on : (state : StoreState) (search : Search) (few many : List ObjectId) (P : History → Type 0)
    → ((x : ObjectId) → has_id few x ≡ true → has_id many x ≡ true) → IfReached state search few P → IfReached state search many P
if_reached_on state search few many P on told = told_then state (λ h. ((x : ObjectId) → has_id few x ≡ true → IsReached h search x) → P h)
    (λ h. ((x : ObjectId) → has_id many x ≡ true → IsReached h search x) → P h) (λ h p reached. p (λ x among. reached x (on x among))) told

pub causes_on : (state : StoreState) (search : Search) (few many : List ObjectId) (e : WalkError)
    → ((x : ObjectId) → has_id few x ≡ true → has_id many x ≡ true)
    → CommitCauses state (λ one. IfReached state search few (λ h. IsReached h search one)) e
    → CommitCauses state (λ one. IfReached state search many (λ h. IsReached h search one)) e
causes_on state search few many e on causes = causes_then state (λ one. IfReached state search few (λ h. IsReached h search one))
    (λ one. IfReached state search many (λ h. IsReached h search one)) e (λ one told. if_reached_on state search few many (λ h. IsReached h search one) on told) causes

-- an element of the list is one of its ids
pub one_of : (many : List ObjectId) (i : ℕ) (id x : ObjectId) → slice_get many i ≡ Some id → has_id (id ∷ []) x ≡ true → has_id many x ≡ true
one_of many i id x at_i among = subst (λ w. has_id many w ≡ true) (single id x among) (has_id_get many i id at_i)

-- one more of the others is compared
pub taken_more : (candidates others : List ObjectId) (first : ObjectId) (i : ℕ) (id : ObjectId) → candidates ≡ first ∷ others → i < length others → id ≡ get_or others i id
    → take (suc (i + 1)) candidates ≡ take (suc i) candidates ++ id ∷ []
taken_more candidates others first i id is lt at_i = ap (take (suc (i + 1))) is ∙ ap (λ w. first ∷ w) (next_taken others i id lt at_i)
    ∙ ap (λ w. take (suc i) w ++ id ∷ []) (sym is)

-- it is one of the candidates
pub other_of : (candidates others : List ObjectId) (first : ObjectId) (i : ℕ) (id : ObjectId) → candidates ≡ first ∷ others → i < length others → id ≡ get_or others i id
    → (x : ObjectId) → has_id (id ∷ []) x ≡ true → has_id candidates x ≡ true
other_of candidates others first i id is lt at_i x among = subst (λ w. has_id w x ≡ true) (sym is)
    (or_right (id_eq first x) (has_id others x) (one_of others i id x (slice_get_read others (length others) i id refl lt at_i) among))

pub first_of_all : (candidates others : List ObjectId) (first : ObjectId) → candidates ≡ first ∷ others → (x : ObjectId) → has_id (first ∷ []) x ≡ true → has_id candidates x ≡ true
first_of_all candidates others first is x among = one_of candidates 0 first x (ap (λ w. slice_get w 0) is) among

module _ (state : StoreState) (search : Search) (candidates others : List ObjectId) (first : ObjectId) (split : candidates ≡ first ∷ others) where
  abbrev NearestOf : List ObjectId → Nearest → Type 0
  NearestOf list nearest = IfReached state search candidates (λ h. IsNearestOf h search list nearest)

  pub compare_start : (nearest : Nearest) → nearest.id ≡ first → Told state (λ h. IsMeasured h search nearest) → NearestOf (take 1 candidates) nearest
  compare_start nearest is told = subst (λ w. NearestOf (take 1 w) nearest) (sym split) (told_then state (λ h. IsMeasured h search nearest)
      (λ h. ((x : ObjectId) → has_id candidates x ≡ true → IsReached h search x) → IsNearestOf h search (first ∷ []) nearest)
      (λ h m reached. nearest_start h search nearest first is m) told)

  pub compare_next : (i : ℕ) (id : ObjectId) (old new : Nearest) → i < length others → id ≡ get_or others i id → NearestOf (take (suc i) candidates) old
      → IfReached state search (id ∷ []) (λ h. (before : List ObjectId) → IsNearestOf h search before old → IsNearestOf h search (before ++ id ∷ []) new)
      → NearestOf (take (suc (i + 1)) candidates) new
  compare_next i id old new lt at_i it next = subst (λ w. NearestOf w new) (sym (taken_more candidates others first i id split lt at_i))
      (told_both state (λ h. ((x : ObjectId) → has_id candidates x ≡ true → IsReached h search x) → IsNearestOf h search (take (suc i) candidates) old)
      (λ h. ((x : ObjectId) → has_id (id ∷ []) x ≡ true → IsReached h search x) → (before : List ObjectId) → IsNearestOf h search before old → IsNearestOf h search (before ++ id ∷ []) new)
      (λ h. ((x : ObjectId) → has_id candidates x ≡ true → IsReached h search x) → IsNearestOf h search (take (suc i) candidates ++ id ∷ []) new)
      (λ h before step reached. step (λ x among. reached x (other_of candidates others first i id split lt at_i x among)) (take (suc i) candidates) (before reached)) it next)

  pub compare_end : (i : ℕ) (nearest : Nearest) → length others ≤ i → NearestOf (take (suc i) candidates) nearest → NearestOf candidates nearest
  compare_end i nearest le it = let long : length candidates ≡ suc (length others) = ap length split in let all : length candidates ≤ suc i = omega (arith, long, le) in
      subst (λ w. NearestOf w nearest) (take_all (suc i) candidates all) it
