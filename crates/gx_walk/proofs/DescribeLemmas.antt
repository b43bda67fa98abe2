-- The answer of a search is a description.
use Rattle.std.proofs.Common.{◌≡◌, ◌≢◌, ◌<◌, ℕ, ℤ, Bool, true, take, filter, length, arith, List, [], ◌∷◌, sym, ap, ◌∙◌, subst, Some, None, Option, Ok, Err, Result, IfOk, IfErr}
use Rattle.std.specs.Prelude.{IsSome}
use Rattle.std.proofs.lemmas.Bool.{false≢true}
use Rattle.gx_hash.specs.declared.oid.ObjectId.{ObjectId}
use Rattle.gx_store.specs.State.{StoreState}
use Rattle.gx_walk.specs.Causes.{CommitCauses}
use Rattle.gx_walk.specs.Describe.{parents_by, AreCandidates, bare, IsByNearest, IsByCandidates, IsByName, IsDescription, IsReadForDescription, followed_by, is_named, IsNearest}
use Rattle.gx_walk.specs.History.{History, Told, time_of, followed, Reaches, start}
use Rattle.gx_hash.specs.ObjectIds.{has_id}
use Rattle.gx_walk.specs.NameMap.{name_of}
use Rattle.gx_walk.specs.Search.{follow, IsReached, IfReached, IsFound, IsNearestOf}
use Rattle.gx_walk.specs.declared.commit.sorting.Parents.{Parents}
use Rattle.gx_walk.specs.declared.describe.name_map.NameMap.{NameMap}
use Rattle.gx_walk.specs.declared.describe.Options.{Options}
use Rattle.gx_walk.specs.declared.describe.Outcome.{Outcome}
use Rattle.gx_walk.specs.declared.describe.search.Nearest.{Nearest}
use Rattle.gx_walk.specs.declared.describe.search.Search.{Search}
use Rattle.gx_walk.specs.declared.error.WalkError.{WalkError}
use Rattle.gx_walk.proofs.IdLemmas.{has_self}
use Rattle.gx_walk.proofs.TellLemmas.{told_all, told_then, told_both, told_three, causes_then}

-- the answer with the nearest candidate's name
by_some : (follow : ObjectId → List ObjectId) (options : Options) (id nearest : ObjectId) (depth : ℕ) (among : List ObjectId) (name : Option (List ℕ))
    → IsNearest follow id among nearest depth → name ≡ name_of options.names nearest
    → IsByNearest follow options id among (Some (record { name = name; id = id; depth = depth }))
by_some follow options id nearest depth [] name it is = let none : None ≡ Some nearest = it.here in cc
by_some follow options id nearest depth (c ∷ cs) name it is = (nearest, depth, it, ap (λ (n : Option (List ℕ)). Some (record { name = n; id = id; depth = depth })) is)

-- and the answer without a candidate
by_none : (follow : ObjectId → List ObjectId) (options : Options) (id : ObjectId) (among : List ObjectId) (answer : Option Outcome)
    → among ≡ [] → answer ≡ bare options.fallback id → IsByNearest follow options id among answer
by_none follow options id [] answer none is = is
by_none follow options id (c ∷ cs) answer none is = cc

module _ (state : StoreState) (search : Search) (options : Options) (among : List ObjectId)
    (candidates : Told state (λ h. AreCandidates (follow h search) (time_of h) search.id options.names options.max_candidates among))
    (reached : Told state (λ h. (x : ObjectId) → has_id among x ≡ true → IsReached h search x)) where
  pub found_some : (found : Option Nearest) (nearest : Nearest) (name : Option (List ℕ)) → found ≡ Some nearest → name ≡ name_of options.names nearest.id
      → IfReached state search among (λ h. IsFound h search among found)
      → Told state (λ h. IsByCandidates (follow h search) (time_of h) options search.id (Some (record { name = name; id = search.id; depth = nearest.depth })))
  found_some found nearest name is named told = told_three state (λ h. AreCandidates (follow h search) (time_of h) search.id options.names options.max_candidates among)
      (λ h. (x : ObjectId) → has_id among x ≡ true → IsReached h search x)
      (λ h. ((x : ObjectId) → has_id among x ≡ true → IsReached h search x) → IsFound h search among found)
      (λ h. IsByCandidates (follow h search) (time_of h) options search.id (Some (record { name = name; id = search.id; depth = nearest.depth })))
      (λ h are here of. let it : IsNearestOf h search among nearest = subst (λ w. IsFound h search among w) is (of here) in
      (among, are, by_some (follow h search) options search.id nearest.id nearest.depth among name it.nearest named))
      candidates reached told

  pub found_none : (found : Option Nearest) (answer : Option Outcome) → found ≡ None → answer ≡ bare options.fallback search.id
      → IfReached state search among (λ h. IsFound h search among found)
      → Told state (λ h. IsByCandidates (follow h search) (time_of h) options search.id answer)
  found_none found answer is bare_is told = told_three state (λ h. AreCandidates (follow h search) (time_of h) search.id options.names options.max_candidates among)
      (λ h. (x : ObjectId) → has_id among x ≡ true → IsReached h search x)
      (λ h. ((x : ObjectId) → has_id among x ≡ true → IsReached h search x) → IsFound h search among found)
      (λ h. IsByCandidates (follow h search) (time_of h) options search.id answer)
      (λ h are here of. (among, are, by_none (follow h search) options search.id among answer (subst (λ w. IsFound h search among w) is (of here)) bare_is))
      candidates reached told

  pub found_causes : (e : WalkError) → CommitCauses state (λ one. IfReached state search among (λ h. IsReached h search one)) e
      → CommitCauses state (λ one. Told state (λ h. IsReached h search one)) e
  found_causes e causes = causes_then state (λ one. IfReached state search among (λ h. IsReached h search one)) (λ one. Told state (λ h. IsReached h search one)) e
      (λ one told. told_both state (λ h. (x : ObjectId) → has_id among x ≡ true → IsReached h search x)
      (λ h. ((x : ObjectId) → has_id among x ≡ true → IsReached h search x) → IsReached h search one) (λ h. IsReached h search one)
      (λ h here of. of here) reached told) causes

-- where no candidate is asked for, none is found
none_among : (follow : ObjectId → List ObjectId) (time : ObjectId → ℤ) (id : ObjectId) (names : NameMap) (most : ℕ) → most ≡ 0 → AreCandidates follow time id names most []
none_among follow time id names most none = record {
  walk = [];
  begins = λ i x at. cc;
  first = sym (ap (λ (n : ℕ). take n (filter (is_named names) [])) none);
  whole = λ less. absurd (omega (arith, less, none));
}

pub none_asked : (state : StoreState) (search : Search) (options : Options) (answer : Option Outcome) → options.max_candidates ≡ 0 → answer ≡ bare options.fallback search.id
    → Told state (λ h. IsByCandidates (follow h search) (time_of h) options search.id answer)
none_asked state search options answer none is = told_all state (λ h. IsByCandidates (follow h search) (time_of h) options search.id answer)
    (λ h. ([], none_among (follow h search) (time_of h) search.id options.names options.max_candidates none, is))

-- an error of a search in which candidates are asked for
pub asked_causes : (state : StoreState) (N : ObjectId → Type 0) (most : ℕ) (e : WalkError) → most ≢ 0 → CommitCauses state N e → CommitCauses state (λ one. (most ≢ 0) × N one) e
asked_causes state N most e some causes = causes_then state N (λ one. (most ≢ 0) × N one) e (λ one named. (some, named)) causes

-- the search follows the parents that the options say
module _ (state : StoreState) (search : Search) (options : Options) (shallow : List ObjectId)
    (parents_are : search.parents ≡ parents_by options.first_parent) (shallow_are : search.shallow ≡ shallow) where
  same_follow : (h : History) → follow h search ≡ followed_by h options (has_id shallow)
  same_follow h = ap (λ (p : Parents). followed h p (has_id search.shallow)) parents_are
      ∙ ap (λ (s : List ObjectId). followed h (parents_by options.first_parent) (has_id s)) shallow_are

  pub described : (answer : Option Outcome) → name_of options.names search.id ≡ None
      → Told state (λ h. IsByCandidates (follow h search) (time_of h) options search.id answer)
      → Told state (λ h. IsDescription h (has_id shallow) options search.id answer)
  described answer none told = told_then state (λ h. IsByCandidates (follow h search) (time_of h) options search.id answer)
      (λ h. IsDescription h (has_id shallow) options search.id answer)
      (λ h by. subst (λ own. IsByName (followed_by h options (has_id shallow)) (time_of h) options search.id own answer) (sym none)
      (subst (λ f. IsByCandidates f (time_of h) options search.id answer) (same_follow h) by)) told

  described_causes : (e : WalkError) → name_of options.names search.id ≡ None
      → CommitCauses state (λ one. (options.max_candidates ≢ 0) × Told state (λ h. IsReached h search one)) e
      → CommitCauses state (IsReadForDescription state (has_id shallow) options search.id) e
  described_causes e none causes = causes_then state (λ one. (options.max_candidates ≢ 0) × Told state (λ h. IsReached h search one))
      (IsReadForDescription state (has_id shallow) options search.id) e
      (λ one (some, told). record {
        own = λ named. absurd (false≢true (subst (λ (name : Option (List ℕ)). IsSome name) none named));
        none = λ zero_. absurd (some zero_);
        reached = told_then state (λ h. IsReached h search one) (λ h. Reaches (followed_by h options (has_id shallow)) (search.id ∷ []) one)
            (λ h here. subst (λ f. Reaches f (search.id ∷ []) one) (same_follow h) here) told;
      }) causes

  pub described_ok : (result : Result (Option Outcome) WalkError) → name_of options.names search.id ≡ None
      → IfOk result (λ answer. Told state (λ h. IsByCandidates (follow h search) (time_of h) options search.id answer))
      → IfOk result (λ answer. Told state (λ h. IsDescription h (has_id shallow) options search.id answer))
  described_ok (Ok answer) none told = described answer none told
  described_ok (Err e) none told = tt

  pub described_err : (result : Result (Option Outcome) WalkError) → name_of options.names search.id ≡ None
      → IfErr result (CommitCauses state (λ one. (options.max_candidates ≢ 0) × Told state (λ h. IsReached h search one)))
      → IfErr result (CommitCauses state (IsReadForDescription state (has_id shallow) options search.id))
  described_err (Ok answer) none causes = tt
  described_err (Err e) none causes = described_causes e none causes

-- the id itself is reached
pub own_causes : (state : StoreState) (is_shallow : ObjectId → Bool) (options : Options) (id : ObjectId) (e : WalkError)
    → CommitCauses state (λ one. one ≡ id) e → CommitCauses state (IsReadForDescription state is_shallow options id) e
own_causes state is_shallow options id e causes = causes_then state (λ one. one ≡ id) (IsReadForDescription state is_shallow options id) e
    (λ one is. record {
      own = λ named. is;
      none = λ zero_. is;
      reached = told_all state (λ h. Reaches (followed_by h options is_shallow) (id ∷ []) one) (λ h. subst (Reaches (followed_by h options is_shallow) (id ∷ [])) (sym is) (start (has_self id)));
    }) causes
