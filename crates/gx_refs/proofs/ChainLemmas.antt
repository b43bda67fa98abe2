-- The loop that follows a chain.
use Rattle.std.proofs.Common.{◌≡◌, ◌<◌, sym, refl, subst, ℕ, true, false, List, [], ◌∷◌, ◌++◌, length, Option, Some, None, IfSome, arith}
use Rattle.std.specs.FinMap.{get}
use Rattle.gx_store.specs.State.{StoreState, RefState, IsUnreadable, OfFault}
use Rattle.gx_store.specs.declared.target.Target.{Target}
use Rattle.gx_store.specs.declared.target.Target.TheVariants as target
use Rattle.gx_store.specs.declared.error.What.TheVariants as what
use Rattle.gx_store.specs.declared.error.StoreError.{StoreError}
use Rattle.gx_store.specs.declared.error.StoreError.TheVariants as store_error
use Rattle.gx_refs.specs.Errors.{handed_on}
use Rattle.gx_refs.specs.Chain.{is_among, IsPath, IsChain, WalksTo, IsEnd, EndsIn, ChainCauses, IsChainFault}
use Rattle.gx_refs.specs.declared.chain_error.ChainError.TheVariants as error
use Rattle.gx_refs.proofs.PathLemmas.{path_more, chain_more}

-- Names were followed from the given one, where the references are told along them.
pub record IsFollowed (state : StoreState) (name : List ℕ) (names : List (List ℕ)) : Type 0 where
  pub chain : IsChain name names
  pub path : IfSome state.references (λ refs. IsPath refs.targets names)

pub followed_first : (state : StoreState) (name : List ℕ) → IsFollowed state name (name ∷ [])
followed_first state name = record { chain = record { others = []; first = refl; distinct = (refl, tt); short = omega arith }; path = go state.references }
  where
    go : (told : Option RefState) → IfSome told (λ refs. IsPath refs.targets (name ∷ []))
    go None = tt
    go (Some refs) = tt

told_with : (told : Option RefState) {P Q R : RefState → Type 0} → ((refs : RefState) → P refs → Q refs → R refs) → IfSome told P → IfSome told Q → IfSome told R
told_with None f p q = tt
told_with (Some refs) f p q = f refs p q

told_by : (told : Option RefState) {P Q : RefState → Type 0} → ((refs : RefState) → P refs → Q refs) → IfSome told P → IfSome told Q
told_by None f p = tt
told_by (Some refs) f p = f refs p

walks : (state : StoreState) (name : List ℕ) (before : List (List ℕ)) (end : List ℕ) → IsFollowed state name (before ++ end ∷ []) → IfSome state.references (λ refs. WalksTo refs.targets name (before ++ end ∷ []) end)
walks state name before end f = told_by state.references (λ refs p. record { walked = record { chain = f.chain; path = p }; before = before; last = refl }) f.path

pub followed_more : (state : StoreState) (name : List ℕ) (before : List (List ℕ)) (end next : List ℕ) → IsFollowed state name (before ++ end ∷ []) → IfSome state.references (λ refs. Some (target.Symbolic next) ≡ get refs.targets end) → is_among next (before ++ end ∷ []) ≡ false → length (before ++ end ∷ []) < 6 → IsFollowed state name ((before ++ end ∷ []) ++ next ∷ [])
followed_more state name before end next f found new room = record {
  chain = chain_more name (before ++ end ∷ []) next f.chain new room;
  path = told_with state.references (λ refs p e. path_more refs.targets before end next p (sym e)) f.path found;
}

pub ends : (state : StoreState) (name : List ℕ) (before : List (List ℕ)) (end : List ℕ) (found : Option Target) → IsFollowed state name (before ++ end ∷ []) → IfSome state.references (λ refs. found ≡ get refs.targets end) → IsEnd found
    → IfSome state.references (λ refs. (last : List ℕ) × EndsIn refs.targets name (before ++ end ∷ []) last found)
ends state name before end found f is stops = told_with state.references (λ refs w e. (end, record { walks = w; is = e; stops = stops })) (walks state name before end f) is

pub cycles : (state : StoreState) (name : List ℕ) (before : List (List ℕ)) (end next : List ℕ) → IsFollowed state name (before ++ end ∷ []) → IfSome state.references (λ refs. Some (target.Symbolic next) ≡ get refs.targets end) → is_among next (before ++ end ∷ []) ≡ true → ChainCauses state name (error.Cycle name)
cycles state name before end next f is known = (
  refl,
  told_with state.references (λ refs w e. (before ++ end ∷ [], record { end = end; walks = w; back = next; leads = sym e; known = known })) (walks state name before end f) is,
)

pub too_deep : (state : StoreState) (name : List ℕ) (before : List (List ℕ)) (end next : List ℕ) → IsFollowed state name (before ++ end ∷ []) → IfSome state.references (λ refs. Some (target.Symbolic next) ≡ get refs.targets end) → is_among next (before ++ end ∷ []) ≡ false → length (before ++ end ∷ []) ≡ 6 → ChainCauses state name (error.DepthLimitExceeded name)
too_deep state name before end next f is new full = (
  refl,
  told_with state.references (λ refs w e. (before ++ end ∷ [], record { end = end; walks = w; full = full; next = next; leads = sym e; new = new })) (walks state name before end f) is,
)

pub unreadable : (state : StoreState) (name : List ℕ) (before : List (List ℕ)) (end : List ℕ) (e : StoreError) → IsFollowed state name (before ++ end ∷ []) → OfFault e (IsUnreadable state (what.Name end)) → ChainCauses state name (handed_on e)
unreadable state name before end store_error.NoMemory f h = tt
unreadable state name before end (store_error.Fault fault) f h = subst (IsChainFault state name) (sym h.0)
    (h.1, told_by state.references (λ refs w. (before ++ end ∷ [], w)) (walks state name before end f))
