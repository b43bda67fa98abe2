-- Ways: the places along names, and a chain as a way.
use Rattle.std.proofs.Common.{◌≡◌, ◌≢◌, ◌∙◌, ◌<◌, ◌+◌, ◌-◌, ◌≤◌, sym, ap, refl, subst, ℕ, Bool, true, false, List, [], ◌∷◌, ◌++◌, length, take, get_or, Option, Some, None, IfSome}
use Rattle.std.specs.List.{AllZip}
use Rattle.std.proofs.lemmas.List.{take_more}
use Rattle.gx_store.specs.State.{StoreState, RefState}
use Rattle.gx_store.specs.declared.target.Target.{Target}
use Rattle.gx_refs.specs.Chain.{AreDistinct, IsChain, IsEnd, EndsIn, ChainCauses}
use Rattle.gx_refs.specs.EditCauses.{WayCauses, EditWayCauses}
use Rattle.gx_refs.specs.Errors.{of_chain, with_given_name}
use Rattle.gx_refs.specs.Plan.{ArePlaces, stored_names, names_of, GoesAlong, FollowsChain, IsWay}
use Rattle.gx_refs.specs.Shown.{IsShown, stored_name}
use Rattle.gx_refs.specs.declared.chain_error.ChainError.{ChainError}
use Rattle.gx_refs.specs.declared.chain_error.ChainError.TheVariants as chain_error
use Rattle.gx_refs.specs.declared.edit.RefEdit.{RefEdit}
use Rattle.gx_refs.specs.declared.error.RefError.{RefError}
use Rattle.gx_refs.specs.declared.error.RefError.TheVariants as refusal
use Rattle.gx_refs.specs.declared.plan.Place.{Place}
use Rattle.gx_refs.specs.declared.plan.Way.{Way}
use Rattle.gx_refs.proofs.MovingLemmas.{parted}
use Rattle.gx_refs.proofs.NameLemmas.{last_same}

-- ---- lists beside one another

pub zip_more : {A B : Type 0} (R : A → B → Type 0) (xs : List A) (ys : List B) (x : A) (y : B) → AllZip R xs ys → R x y → AllZip R (xs ++ x ∷ []) (ys ++ y ∷ [])
zip_more R [] [] x y h r = (r, tt)
zip_more R [] (b ∷ ys) x y h r = absurd h
zip_more R (a ∷ xs) [] x y h r = absurd h
zip_more R (a ∷ xs) (b ∷ ys) x y h r = (h.0, zip_more R xs ys x y h.1 r)

-- ---- places

abbrev IsPlace : List ℕ → List ℕ → Place → Type 0
IsPlace space name place = (place.name ≡ name) × IsShown space name place.shown

pub place_more : (space : List ℕ) (names : List (List ℕ)) (places : List Place) (i : ℕ) (name : List ℕ) (place : Place) → i < length names → name ≡ get_or names i name → ArePlaces space (take i names) places → place.name ≡ name → IsShown space name place.shown → ArePlaces space (take (i + 1) names) (places ++ place ∷ [])
place_more space names places i name place h is a n s =
    subst (λ xs. ArePlaces space xs (places ++ place ∷ [])) (sym (take_more names i name h ∙ ap (λ x. take i names ++ x ∷ []) (sym is))) (zip_more (IsPlace space) (take i names) places name place a (n, s))

names_are : (space : List ℕ) (names : List (List ℕ)) (places : List Place) → ArePlaces space names places → stored_names places ≡ names
names_are space [] [] h = refl
names_are space [] (p ∷ places) h = absurd h
names_are space (n ∷ names) [] h = absurd h
names_are space (n ∷ names) (p ∷ places) h = ap (λ x. x ∷ stored_names places) h.0.0 ∙ ap (λ xs. n ∷ xs) (names_are space names places h.1)

-- the places of names before an end, and of the end
pub places_to : (space : List ℕ) (names : List (List ℕ)) (end : List ℕ) (before : List Place) (place : Place) → 1 ≤ length names → end ≡ get_or names (length names - 1) end → ArePlaces space (take (length names - 1) names) before → place.name ≡ end → IsShown space end place.shown
    → (stored_names (before ++ place ∷ []) ≡ names) × ArePlaces space (stored_names (before ++ place ∷ [])) (before ++ place ∷ [])
places_to space names end before place some is a n s =
    let all : ArePlaces space names (before ++ place ∷ []) = subst (λ xs. ArePlaces space xs (before ++ place ∷ [])) (sym (parted names end some is)) (zip_more (IsPlace space) (take (length names - 1) names) before end place a (n, s)) in
    let same : stored_names (before ++ place ∷ []) ≡ names = names_are space names (before ++ place ∷ []) all in
    (same, subst (λ xs. ArePlaces space xs (before ++ place ∷ [])) (sym same) all)

pub no_chain : (name : List ℕ) (names : List (List ℕ)) → IsChain name names → names ≡ [] → ⊥
no_chain name names c e = let clash : name ∷ c.others ≡ [] = sym c.first ∙ e in cc

-- ---- a chain as a way

pub names_append : (before : List Place) (end : Place) → stored_names (before ++ end ∷ []) ≡ stored_names before ++ end.name ∷ []
names_append [] end = refl
names_append (p ∷ before) end = ap (λ xs. p.name ∷ xs) (names_append before end)

pub follows_chain : (told : Option RefState) (name : List ℕ) (names : List (List ℕ)) (found : Option Target) (way : Way) → IfSome told (λ refs. (end : List ℕ) × EndsIn refs.targets name names end found) → IsChain name names → IsEnd found → GoesAlong names found way → FollowsChain told name way
follows_chain told name names found way e c s (n, f) = record {
  chain = subst (IsChain name) (sym n) c;
  stops = subst IsEnd (sym f) s;
  ends = go told e;
}
  where
    go : (told : Option RefState) → IfSome told (λ refs. (end : List ℕ) × EndsIn refs.targets name names end found) → IfSome told (λ refs. EndsIn refs.targets name (names_of way) way.end.name way.found)
    go None e = tt
    go (Some refs) (end, e) =
        let same : end ≡ way.end.name = last_same e.walks.before (stored_names way.before) end way.end.name (sym e.walks.last ∙ sym n ∙ names_append way.before way.end) in
        let at_names : EndsIn refs.targets name (names_of way) end found = subst (λ xs. EndsIn refs.targets name xs end found) (sym n) e in
        let at_end : EndsIn refs.targets name (names_of way) way.end.name found = subst (λ x. EndsIn refs.targets name (names_of way) x found) same at_names in
        subst (EndsIn refs.targets name (names_of way) way.end.name) (sym f) at_end

pub distinct_way : (told : Option RefState) (deref : Bool) (name : List ℕ) (way : Way) → IsWay told deref name way → AreDistinct (names_of way)
distinct_way told true name way w = w.chain.distinct
distinct_way told false name way w = subst (λ (before : List Place). AreDistinct (stored_names (before ++ way.end ∷ []))) (sym w.alone) (refl, tt)

-- ---- refusals

pub chain_refused : (state : StoreState) (name : List ℕ) (e : ChainError) → ChainCauses state name e → WayCauses state true name (of_chain e)
chain_refused state name (chain_error.Cycle kept) h = (refl, h.0, h.1)
chain_refused state name (chain_error.DepthLimitExceeded kept) h = (refl, h.0, h.1)
chain_refused state name (chain_error.Store fault) h = h
chain_refused state name chain_error.NoMemory h = tt

pub way_refused : (space : List ℕ) (state : StoreState) (edit : RefEdit) (stored : List ℕ) (deref : Bool) (e : RefError) → stored ≡ stored_name space edit.name → deref ≡ edit.deref → WayCauses state deref stored e → EditWayCauses space state edit (with_given_name e edit.name)
way_refused space state edit stored deref e is same h = go e (subst (λ d. WayCauses state d (stored_name space edit.name) e) same (subst (λ n. WayCauses state deref n e) is h))
  where
    go : (e : RefError) → WayCauses state edit.deref (stored_name space edit.name) e → EditWayCauses space state edit (with_given_name e edit.name)
    go (refusal.Cycle n) h = (h.0, refl, h.2)
    go (refusal.DepthLimitExceeded n) h = (h.0, refl, h.2)
    go (refusal.Store f) h = h
    go refusal.NoMemory h = tt
    go (refusal.NameValidation error) h = absurd h
    go (refusal.MustExist n) h = absurd h
    go (refusal.MustNotExist n a) h = absurd h
    go (refusal.ReferenceOutOfDate n x a) h = absurd h
    go (refusal.NameConflict n w) h = absurd h
    go (refusal.DuplicateEdit n) h = absurd h
    go refusal.MissingCommitter h = absurd h
    go (refusal.Unwritable f) h = absurd h

pub other_kept : (e : RefError) (name : List ℕ) → ((n : List ℕ) → e ≢ refusal.Cycle n) → ((n : List ℕ) → e ≢ refusal.DepthLimitExceeded n) → e ≡ with_given_name e name
other_kept (refusal.Cycle n) name a b = absurd (a n refl)
other_kept (refusal.DepthLimitExceeded n) name a b = absurd (b n refl)
other_kept (refusal.Store f) name a b = refl
other_kept refusal.NoMemory name a b = refl
other_kept (refusal.NameValidation error) name a b = refl
other_kept (refusal.MustExist n) name a b = refl
other_kept (refusal.MustNotExist n x) name a b = refl
other_kept (refusal.ReferenceOutOfDate n x y) name a b = refl
other_kept (refusal.NameConflict n w) name a b = refl
other_kept (refusal.DuplicateEdit n) name a b = refl
other_kept refusal.MissingCommitter name a b = refl
other_kept (refusal.Unwritable f) name a b = refl
