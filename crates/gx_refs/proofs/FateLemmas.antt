-- The fate of a name: there is one, and one alone.
use Rattle.std.proofs.Common.{◌≡◌, ◌∙◌, ◌+◌, ◌<◌, sym, ap, refl, subst, ℕ, zero, suc, Bool, true, false, List, [], ◌∷◌, ◌++◌, length, Option, Some, None, inl, inr, ◌⊎◌, arith}
use Rattle.std.proofs.lemmas.List.{length-append}
use Rattle.std.specs.FinMap.{FinMap, get}
use Rattle.gx_rules.specs.Name.{name_cmp}
use Rattle.gx_store.specs.declared.target.Target.{Target}
use Rattle.gx_store.specs.declared.target.Target.TheVariants as target
use Rattle.gx_refs.specs.Chain.{is_among, LeadsTo, IsPath, IsWalked, WalksTo, IsEnd, Ends, CyclesAlong, GoesTooDeep}
use Rattle.gx_refs.specs.Laws.{Fate, Ending, Cycling, TooDeep, Meets, EachMeets, MeetsOne}
use Rattle.gx_refs.proofs.NameLemmas.{distinct_new, last_same}
use Rattle.gx_refs.proofs.PathLemmas.{path_more, step_behind, one_target, one_way, GoesOn, chain_more}

walked_more : (targets : FinMap name_cmp Target) (name : List ℕ) (before : List (List ℕ)) (end next : List ℕ) → IsWalked targets name (before ++ end ∷ []) → LeadsTo targets end next → is_among next (before ++ end ∷ []) ≡ false → length before < 5 → IsWalked targets name ((before ++ end ∷ []) ++ next ∷ [])
walked_more targets name before end next w leads new room = record {
  chain = chain_more name (before ++ end ∷ []) next w.chain new (omega (arith, length-append before (end ∷ [])));
  path = path_more targets before end next w.path leads;
}

abbrev MeetsSome : FinMap name_cmp Target → List ℕ → Type 0
MeetsSome targets name = (fate : Fate) × (names : List (List ℕ)) × Meets targets name fate names

-- what the last of the walked names holds decides it, but for a step to a new name
meets : (targets : FinMap name_cmp Target) (name : List ℕ) (before : List (List ℕ)) (end : List ℕ) → IsWalked targets name (before ++ end ∷ []) → ((next : List ℕ) → LeadsTo targets end next → is_among next (before ++ end ∷ []) ≡ false → MeetsSome targets name) → MeetsSome targets name
meets targets name before end w on = go (get targets end) refl
  where
    walks : WalksTo targets name (before ++ end ∷ []) end
    walks = record { walked = w; before = before; last = refl }

    known : (next : List ℕ) → LeadsTo targets end next → (t : Bool) → is_among next (before ++ end ∷ []) ≡ t → MeetsSome targets name
    known next leads true e = (Cycling, before ++ end ∷ [], record { end = end; walks = walks; back = next; leads = leads; known = e })
    known next leads false e = on next leads e

    go : (found : Option Target) → get targets end ≡ found → MeetsSome targets name
    go None e = (Ending, before ++ end ∷ [], (end, None, record { walks = walks; is = sym e; stops = tt }))
    go (Some (target.Object id)) e = (Ending, before ++ end ∷ [], (end, Some (target.Object id), record { walks = walks; is = sym e; stops = tt }))
    go (Some (target.Symbolic next)) e = known next e _ refl

-- this many steps may still be taken
from : (steps : ℕ) (targets : FinMap name_cmp Target) (name : List ℕ) (before : List (List ℕ)) (end : List ℕ) → IsWalked targets name (before ++ end ∷ []) → length before + steps ≡ 5 → MeetsSome targets name
from zero targets name before end w room = meets targets name before end w (λ next leads new. (
  TooDeep,
  before ++ end ∷ [],
  record {
    end = end;
    walks = record { walked = w; before = before; last = refl };
    full = omega (arith, length-append before (end ∷ []), room);
    next = next;
    leads = leads;
    new = new;
  },
))
from (suc steps) targets name before end w room = meets targets name before end w (λ next leads new.
    from steps targets name (before ++ end ∷ []) next (walked_more targets name before end next w leads new (omega (arith, room))) (omega (arith, length-append before (end ∷ []), room)))

pub each_meets : EachMeets
each_meets targets name = from 5 targets name [] name (record { chain = record { others = []; first = refl; distinct = (refl, tt); short = omega arith }; path = tt }) refl

-- ---- one fate alone

walked_of : (targets : FinMap name_cmp Target) (name : List ℕ) (fate : Fate) (names : List (List ℕ)) → Meets targets name fate names → IsWalked targets name names
walked_of targets name Ending names (end, found, m) = m.walks.walked
walked_of targets name Cycling names m = m.walks.walked
walked_of targets name TooDeep names m = m.walks.walked

ends_leads : (targets : FinMap name_cmp Target) (end next : List ℕ) (found : Option Target) → found ≡ get targets end → IsEnd found → LeadsTo targets end next → ⊥
ends_leads targets end next found is stops leads = subst IsEnd (is ∙ leads) stops

-- after the names of a fate no further one is walked
stop : (targets : FinMap name_cmp Target) (name : List ℕ) (fate : Fate) (names : List (List ℕ)) → Meets targets name fate names → (next : List ℕ) (more : List (List ℕ)) → IsWalked targets name (names ++ next ∷ more) → ⊥
stop targets name Ending names (end, found, m) next more w =
    ends_leads targets end next found m.is m.stops (step_behind targets names m.walks.before end next more m.walks.last w.path)
stop targets name Cycling names m next more w =
    let same : next ≡ m.back = one_target targets m.end next m.back (step_behind targets names m.walks.before m.end next more m.walks.last w.path) m.leads in
    let new : is_among next names ≡ false = distinct_new names next more w.chain.distinct in
    let clash : true ≡ false = sym m.known ∙ ap (λ x. is_among x names) (sym same) ∙ new in
    cc
stop targets name TooDeep names m next more w = omega (arith, m.full, w.chain.short, length-append names (next ∷ more))

-- so the names are one list
one_list : (targets : FinMap name_cmp Target) (name : List ℕ) (one other : Fate) (names others : List (List ℕ)) → Meets targets name one names → Meets targets name other others → names ≡ others
one_list targets name one other names others m n = go (one_way targets name a.chain.others b.chain.others (subst (IsPath targets) a.chain.first a.path) (subst (IsPath targets) b.chain.first b.path))
  where
    a : IsWalked targets name names
    a = walked_of targets name one names m

    b : IsWalked targets name others
    b = walked_of targets name other others n

    go : (a.chain.others ≡ b.chain.others) ⊎ (GoesOn a.chain.others b.chain.others ⊎ GoesOn b.chain.others a.chain.others) → names ≡ others
    go (inl e) = a.chain.first ∙ ap (λ xs. name ∷ xs) e ∙ sym b.chain.first
    go (inr (inl (next, more, e))) = absurd (stop targets name one names m next more
        (subst (IsWalked targets name) (b.chain.first ∙ ap (λ xs. name ∷ xs) e ∙ ap (λ xs. xs ++ next ∷ more) (sym a.chain.first)) b))
    go (inr (inr (next, more, e))) = absurd (stop targets name other others n next more
        (subst (IsWalked targets name) (a.chain.first ∙ ap (λ xs. name ∷ xs) e ∙ ap (λ xs. xs ++ next ∷ more) (sym b.chain.first)) a))

same_end : (targets : FinMap name_cmp Target) (name : List ℕ) (names others : List (List ℕ)) (a b : List ℕ) → WalksTo targets name names a → WalksTo targets name others b → names ≡ others → a ≡ b
same_end targets name names others a b v w e = last_same v.before w.before a b (sym v.last ∙ e ∙ w.last)

-- along one list two fates can't differ
ends_or_goes : (targets : FinMap name_cmp Target) (name : List ℕ) (names others : List (List ℕ)) → names ≡ others → Ends targets name names → (end next : List ℕ) → WalksTo targets name others end → LeadsTo targets end next → ⊥
ends_or_goes targets name names others e (a, found, m) end next w leads =
    ends_leads targets a next found m.is m.stops (subst (λ x. LeadsTo targets x next) (sym (same_end targets name names others a end m.walks w e)) leads)

known_or_new : (targets : FinMap name_cmp Target) (name : List ℕ) (names others : List (List ℕ)) → names ≡ others → CyclesAlong targets name names → GoesTooDeep targets name others → ⊥
known_or_new targets name names others e m n =
    let same : m.end ≡ n.end = same_end targets name names others m.end n.end m.walks n.walks e in
    let next : m.back ≡ n.next = one_target targets n.end m.back n.next (subst (λ x. LeadsTo targets x m.back) same m.leads) n.leads in
    let clash : true ≡ false = sym m.known ∙ ap (λ xs. is_among m.back xs) e ∙ ap (λ x. is_among x others) next ∙ n.new in
    cc

one_fate : (targets : FinMap name_cmp Target) (name : List ℕ) (one other : Fate) (names others : List (List ℕ)) → names ≡ others → Meets targets name one names → Meets targets name other others → one ≡ other
one_fate targets name Ending Ending names others e m n = refl
one_fate targets name Cycling Cycling names others e m n = refl
one_fate targets name TooDeep TooDeep names others e m n = refl
one_fate targets name Ending Cycling names others e m n = absurd (ends_or_goes targets name names others e m n.end n.back n.walks n.leads)
one_fate targets name Ending TooDeep names others e m n = absurd (ends_or_goes targets name names others e m n.end n.next n.walks n.leads)
one_fate targets name Cycling Ending names others e m n = absurd (ends_or_goes targets name others names (sym e) n m.end m.back m.walks m.leads)
one_fate targets name TooDeep Ending names others e m n = absurd (ends_or_goes targets name others names (sym e) n m.end m.next m.walks m.leads)
one_fate targets name Cycling TooDeep names others e m n = absurd (known_or_new targets name names others e m n)
one_fate targets name TooDeep Cycling names others e m n = absurd (known_or_new targets name others names (sym e) n m)

pub meets_one : MeetsOne
meets_one targets name one other names others m n =
    let e = one_list targets name one other names others m n in
    (one_fate targets name one other names others e m n, e)
