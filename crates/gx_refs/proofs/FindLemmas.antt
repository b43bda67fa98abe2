-- Candidates, in the order in which they are looked for.
use Rattle.std.proofs.Common.{◌≡◌, sym, ap, subst, ℕ, zero, suc, List, [], ◌∷◌, ◌++◌, take, drop, slice_get, Option, Some, None, IfSome}
use Rattle.std.specs.List.{AllByRecursion}
use Rattle.gx_rules.specs.Name.{IsFullName}
use Rattle.gx_store.specs.State.{StoreState, RefState}
use Rattle.gx_refs.specs.Finding.{candidates, MeansNothing, IsReference, IsReached, IsMeant, CandidateCauses, FindCauses}
use Rattle.gx_refs.specs.declared.error.RefError.{RefError}
use Rattle.gx_refs.specs.declared.error.RefError.TheVariants as refusal
use Rattle.gx_refs.specs.declared.reference.Reference.{Reference}
use Rattle.gx_refs.proofs.ChangeLemmas.{all_joined}

same : {X : Type 0} (x y : X) → Some x ≡ Some y → x ≡ y
same x y e = cc

cut_get : {X : Type 0} (xs : List X) (at : ℕ) (x : X) → slice_get xs at ≡ Some x → xs ≡ take at xs ++ x ∷ drop (suc at) xs
cut_get [] at x e = cc
cut_get (y ∷ xs) zero x e = ap (λ z. z ∷ xs) (same y x e)
cut_get (y ∷ xs) (suc at) x e = ap (λ zs. y ∷ zs) (cut_get xs at x e)

take_get : {X : Type 0} (xs : List X) (at : ℕ) (x : X) → slice_get xs at ≡ Some x → take (suc at) xs ≡ take at xs ++ x ∷ []
take_get [] at x e = cc
take_get (y ∷ xs) zero x e = ap (λ z. z ∷ []) (same y x e)
take_get (y ∷ xs) (suc at) x e = ap (λ zs. y ∷ zs) (take_get xs at x e)

module _ (space : List ℕ) (told : Option RefState) (name : List ℕ) (at : ℕ) (text : List ℕ) (here : slice_get (candidates name) at ≡ Some text) where
  reached : IfSome told (λ refs. AllByRecursion (MeansNothing space refs.targets) (take at (candidates name))) → IsReached space told name text
  reached others = record {
    before = take at (candidates name);
    after = drop (suc at) (candidates name);
    split = cut_get (candidates name) at text here;
    others = others;
  }

  pub found_at : (reference : Reference) → IsFullName text → IsReference space told text reference → IfSome told (λ refs. AllByRecursion (MeansNothing space refs.targets) (take at (candidates name))) → IsMeant space told name reference
  found_at reference full is others = record {
    reached = subst (IsReached space told name) (sym is.named) (reached others);
    full = subst IsFullName (sym is.named) full;
    is = subst (λ n. IsReference space told n reference) (sym is.named) is;
  }

  pub nothing_more : IfSome told (λ refs. MeansNothing space refs.targets text) → IfSome told (λ refs. AllByRecursion (MeansNothing space refs.targets) (take at (candidates name))) → IfSome told (λ refs. AllByRecursion (MeansNothing space refs.targets) (take (suc at) (candidates name)))
  nothing_more m others = go told m others
    where
      go : (told : Option RefState) → IfSome told (λ refs. MeansNothing space refs.targets text) → IfSome told (λ refs. AllByRecursion (MeansNothing space refs.targets) (take at (candidates name))) → IfSome told (λ refs. AllByRecursion (MeansNothing space refs.targets) (take (suc at) (candidates name)))
      go None m others = tt
      go (Some refs) m others = subst (AllByRecursion (MeansNothing space refs.targets)) (sym (take_get (candidates name) at text here)) (all_joined (MeansNothing space refs.targets) (take at (candidates name)) (text ∷ []) others (m, tt))

pub candidate_refused : (space : List ℕ) (state : StoreState) (name : List ℕ) (at : ℕ) (text : List ℕ) (e : RefError) → slice_get (candidates name) at ≡ Some text → IfSome state.references (λ refs. AllByRecursion (MeansNothing space refs.targets) (take at (candidates name))) → CandidateCauses space state text e → FindCauses space state name e
candidate_refused space state name at text (refusal.NameValidation error) here others h = absurd h
candidate_refused space state name at text (refusal.Store f) here others h = (text, reached space state.references name at text here others, h)
candidate_refused space state name at text refusal.NoMemory here others h = tt
candidate_refused space state name at text refusal.MissingCommitter here others h = absurd h
candidate_refused space state name at text (refusal.Unwritable f) here others h = absurd h
candidate_refused space state name at text (refusal.Cycle n) here others h = absurd h
candidate_refused space state name at text (refusal.DepthLimitExceeded n) here others h = absurd h
candidate_refused space state name at text (refusal.MustExist n) here others h = absurd h
candidate_refused space state name at text (refusal.MustNotExist n a) here others h = absurd h
candidate_refused space state name at text (refusal.ReferenceOutOfDate n x a) here others h = absurd h
candidate_refused space state name at text (refusal.NameConflict n w) here others h = absurd h
candidate_refused space state name at text (refusal.DuplicateEdit n) here others h = absurd h

pub all_looked : (space : List ℕ) (told : Option RefState) (name : List ℕ) (at : ℕ) → at ≡ 6 → IfSome told (λ refs. AllByRecursion (MeansNothing space refs.targets) (take at (candidates name))) → IfSome told (λ refs. AllByRecursion (MeansNothing space refs.targets) (candidates name))
all_looked space told name at e h = subst (λ k. IfSome told (λ refs. AllByRecursion (MeansNothing space refs.targets) (take k (candidates name)))) e h

pub ruleset finding = (found_at, nothing_more, all_looked)
