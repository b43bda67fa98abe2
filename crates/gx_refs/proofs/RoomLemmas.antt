-- The names that edits make: above one another, and beside stored names.
use Rattle.std.proofs.Common.{◌≡◌, ◌∙◌, sym, ap, refl, subst, Bool, true, false, cond, List, [], ◌∷◌, ◌++◌, ℕ, zero, suc, ◌+◌, ◌<◌, length, take, drop, get_or, Option, Some, None, IsSome, IfSome, append_assoc, ◌≤◌, arith, ◌⊎◌, inl, inr, Contains}
use Rattle.std.specs.BTreeMap.{BTreeMap, is_at}
use Rattle.std.specs.Cmp.Lexicographic.{texts_ties}
use Rattle.std.specs.List.{AllByRecursion}
use Rattle.std.specs.Str.{bytes_eq}
use Rattle.std.proofs.lemmas.List.{take_more, append-nil, length-append}
use Rattle.std.proofs.lemmas.List.Elements.{Contains-append_left, Contains-push}
use Rattle.gx_rules.specs.Name.{name_cmp}
use Rattle.gx_store.specs.Conflict.{IsProperPrefix, Conflict}
use Rattle.gx_store.specs.State.{StoreState, RefState}
use Rattle.gx_refs.specs.Plan.{makes, HasRoom}
use Rattle.gx_refs.specs.Seen.{made_get, HasMade, IsMadeBy, IsAlone, HasRoomAbove, ConflictsWith, RoomCauses, AllRoomCauses}
use Rattle.gx_refs.specs.declared.error.RefError.{RefError}
use Rattle.gx_refs.specs.declared.error.RefError.TheVariants as refusal
use Rattle.gx_refs.specs.declared.plan.Plan.{Plan}
use Rattle.gx_refs.proofs.ChangeLemmas.{all_joined}
use Rattle.gx_refs.proofs.NameLemmas.{same_name, own_name}

-- ---- above a name

same_or_less : (a b : ℕ) → a ≤ b → (a ≡ b) ⊎ (a < b)
same_or_less zero zero h = inl refl
same_or_less zero (suc b) h = inr (omega arith)
same_or_less (suc a) zero h = absurd (omega (arith, h))
same_or_less (suc a) (suc b) h = go (same_or_less a b (omega (arith, h)))
  where
    go : (a ≡ b) ⊎ (a < b) → (suc a ≡ suc b) ⊎ (suc a < suc b)
    go (inl e) = inl (ap suc e)
    go (inr l) = inr (omega (arith, l))

front_there : (shorter more : List ℕ) → take (length shorter) (shorter ++ more) ≡ shorter
front_there [] more = refl
front_there (x ∷ xs) more = ap (λ ys. x ∷ ys) (front_there xs more)

behind_there : (shorter more : List ℕ) → drop (length shorter) (shorter ++ more) ≡ more
behind_there [] more = refl
behind_there (x ∷ xs) more = behind_there xs more

-- no proper prefix that is this long or longer is made
abbrev pub NoneFrom : BTreeMap (List ℕ) (List ℕ) → List ℕ → ℕ → Type 0
NoneFrom made name at = (other : List ℕ) → IsProperPrefix other name → at ≤ length other → made_get made other ≡ None

-- what is left of the name, and what was cut
pub record IsCut (made : BTreeMap (List ℕ) (List ℕ)) (name : List ℕ) (above : List ℕ) : Type 0 where
  pub rest : List ℕ
  pub whole : name ≡ above ++ rest
  pub none : NoneFrom made name (length above)

pub uncut : (made : BTreeMap (List ℕ) (List ℕ)) (name : List ℕ) (copy : List ℕ) → copy ≡ name → IsCut made name copy
uncut made name copy is = record {
  rest = [];
  whole = sym (append-nil copy ∙ is);
  none = λ other p less. absurd (omega (arith, less, ap length p.1, ap length is, length-append other (47 ∷ p.0)));
}

-- a byte is cut; where it is a slash, what is left is not made
pub cut_more : (made : BTreeMap (List ℕ) (List ℕ)) (name : List ℕ) (above next : List ℕ) (byte : ℕ) → above ≡ next ++ byte ∷ [] → (byte ≡ 47 → made_get made next ≡ None) → IsCut made name above → IsCut made name next
cut_more made name above next byte is slash c = record {
  rest = byte ∷ c.rest;
  whole = whole;
  none = λ other p less. go other p less (same_or_less (length next) (length other) less);
}
  where
    whole : name ≡ next ++ byte ∷ c.rest
    whole = c.whole ∙ ap (λ xs. xs ++ c.rest) is ∙ append_assoc next (byte ∷ []) c.rest

    go : (other : List ℕ) (p : IsProperPrefix other name) → length next ≤ length other → (length next ≡ length other) ⊎ (length next < length other) → made_get made other ≡ None
    go other p less (inl e) =
        let both : next ++ byte ∷ c.rest ≡ other ++ 47 ∷ p.0 = sym whole ∙ p.1 in
        let here : next ≡ other = sym (front_there next (byte ∷ c.rest)) ∙ ap (take (length next)) both ∙ ap (λ n. take n (other ++ 47 ∷ p.0)) e ∙ front_there other (47 ∷ p.0) in
        let there : byte ∷ c.rest ≡ 47 ∷ p.0 = sym (behind_there next (byte ∷ c.rest)) ∙ ap (drop (length next)) both ∙ ap (λ n. drop n (other ++ 47 ∷ p.0)) e ∙ behind_there other (47 ∷ p.0) in
        let at : byte ≡ 47 = cc in
        subst (λ x. made_get made x ≡ None) here (slash at)
    go other p less (inr l) = c.none other p (omega (arith, l, ap length is, length-append next (byte ∷ [])))

-- what is left before a slash is a proper prefix
pub made_there : (made : BTreeMap (List ℕ) (List ℕ)) (name : List ℕ) (above next : List ℕ) (byte : ℕ) (shown : List ℕ) → above ≡ next ++ byte ∷ [] → byte ≡ 47 → made_get made next ≡ Some shown → IsCut made name above → (other : List ℕ) × IsProperPrefix other name × (made_get made other ≡ Some shown)
made_there made name above next byte shown is slash e c =
    (next, (c.rest, c.whole ∙ ap (λ xs. xs ++ c.rest) is ∙ append_assoc next (byte ∷ []) c.rest ∙ ap (λ b. next ++ b ∷ c.rest) slash), e)

pub all_cut : (made : BTreeMap (List ℕ) (List ℕ)) (name : List ℕ) (above : List ℕ) → above ≡ [] → IsCut made name above → IsAlone made name
all_cut made name above is c other p = c.none other p (omega (arith, ap length is))

-- ---- the names that are made

still_made : (plans : List Plan) (plan : Plan) (name : List ℕ) (o : Option (List ℕ)) → IfSome o (IsMadeBy plans name) → IfSome o (IsMadeBy (plans ++ plan ∷ []) name)
still_made plans plan name None h = tt
still_made plans plan name (Some shown) h = record { plan = h.plan; among = Contains-append_left plans (plan ∷ []) h.plan h.among; made = h.made; named = h.named; is_shown = h.is_shown }

pub made_same : (made : BTreeMap (List ℕ) (List ℕ)) (plans : List Plan) (plan : Plan) → makes plan ≡ false → HasMade made plans → HasMade made (plans ++ plan ∷ [])
made_same made plans plan off h = record {
  each = λ name. still_made plans plan name (made_get made name) (h.each name);
  all = all_joined (λ p. makes p ≡ true → IsSome (made_get made p.way.end.name)) plans (plan ∷ []) h.all ((λ on. let no : true ≡ false = sym on ∙ off in cc), tt);
}

pub made_more : (old new : BTreeMap (List ℕ) (List ℕ)) (plans : List Plan) (plan : Plan) (key shown : List ℕ) → key ≡ plan.way.end.name → shown ≡ plan.way.end.shown → makes plan ≡ true → ((q : List ℕ) → made_get new q ≡ cond (is_at (name_cmp key) q) (Some shown) (made_get old q)) → HasMade old plans → HasMade new (plans ++ plan ∷ [])
made_more old new plans plan key shown k s on updates h = record {
  each = λ name. subst (λ o. IfSome o (IsMadeBy (plans ++ plan ∷ []) name)) (sym (got name)) (at name (bytes_eq key name) refl);
  all = all_joined (λ p. makes p ≡ true → IsSome (made_get new p.way.end.name)) plans (plan ∷ []) (kept plans h.all) ((λ t. here), tt);
}
  where
    got : (name : List ℕ) → made_get new name ≡ cond (bytes_eq key name) (Some shown) (made_get old name)
    got name = updates name ∙ ap (λ t. cond t (Some shown) (made_get old name)) (sym (texts_ties key name))

    at : (name : List ℕ) (t : Bool) → bytes_eq key name ≡ t → IfSome (cond t (Some shown) (made_get old name)) (IsMadeBy (plans ++ plan ∷ []) name)
    at name true e = record { plan = plan; among = Contains-push plans plan; made = on; named = sym k ∙ same_name key name e; is_shown = sym s }
    at name false e = still_made plans plan name (made_get old name) (h.each name)

    some : (t : Bool) (o : Option (List ℕ)) → IsSome o → IsSome (cond t (Some shown) o)
    some true o i = refl
    some false o i = i

    kept : (ps : List Plan) → AllByRecursion (λ p. makes p ≡ true → IsSome (made_get old p.way.end.name)) ps → AllByRecursion (λ p. makes p ≡ true → IsSome (made_get new p.way.end.name)) ps
    kept [] a = tt
    kept (p ∷ ps) a = (λ t. subst IsSome (sym (got p.way.end.name)) (some (bytes_eq key p.way.end.name) (made_get old p.way.end.name) (a.0 t)), kept ps a.1)

    here : IsSome (made_get new plan.way.end.name)
    here = subst IsSome (sym (got plan.way.end.name)) (subst (λ t. IsSome (cond t (Some shown) (made_get old plan.way.end.name))) (sym (ap (λ n. bytes_eq n plan.way.end.name) k ∙ own_name plan.way.end.name)) refl)

next_plan : (plans : List Plan) (i : ℕ) (plan : Plan) → i < length plans → plan ≡ get_or plans i plan → take (i + 1) plans ≡ take i plans ++ plan ∷ []
next_plan plans i plan h is = take_more plans i plan h ∙ ap (λ x. take i plans ++ x ∷ []) (sym is)

pub made_kept : (made : BTreeMap (List ℕ) (List ℕ)) (plans : List Plan) (i : ℕ) (plan : Plan) → i < length plans → plan ≡ get_or plans i plan → makes plan ≡ false → HasMade made (take i plans) → HasMade made (take (i + 1) plans)
made_kept made plans i plan h is off m = subst (HasMade made) (sym (next_plan plans i plan h is)) (made_same made (take i plans) plan off m)

pub made_next : (old new : BTreeMap (List ℕ) (List ℕ)) (plans : List Plan) (i : ℕ) (plan : Plan) (key shown : List ℕ) → i < length plans → plan ≡ get_or plans i plan → key ≡ plan.way.end.name → shown ≡ plan.way.end.shown → makes plan ≡ true → ((q : List ℕ) → made_get new q ≡ cond (is_at (name_cmp key) q) (Some shown) (made_get old q)) → HasMade old (take i plans) → HasMade new (take (i + 1) plans)
made_next old new plans i plan key shown h is k s on updates m =
    subst (HasMade new) (sym (next_plan plans i plan h is)) (made_more old new (take i plans) plan key shown k s on updates m)

-- ---- room

none_some : {X : Type 0} (o : Option X) → o ≡ None → IsSome o → ⊥
none_some None e i = let no : false ≡ true = i in cc
none_some (Some x) e i = cc

never : (made : BTreeMap (List ℕ) (List ℕ)) (a b : List ℕ) → IsAlone made a → IsAlone made b → IsSome (made_get made a) → IsSome (made_get made b) → Conflict a b → ⊥
never made a b alone_a alone_b some_a some_b (inl above) = none_some (made_get made a) (alone_b a above) some_a
never made a b alone_a alone_b some_a some_b (inr below) = none_some (made_get made b) (alone_a b below) some_b

module _ (told : Option RefState) (made : BTreeMap (List ℕ) (List ℕ)) where
  abbrev Above : Plan → Type 0
  Above plan = makes plan ≡ true → HasRoomAbove told made plan

  abbrev Made : Plan → Type 0
  Made plan = makes plan ≡ true → IsSome (made_get made plan.way.end.name)

  beside : (plan : Plan) → makes plan ≡ true → HasRoomAbove told made plan → IsSome (made_get made plan.way.end.name) → (others : List Plan) → AllByRecursion Above others → AllByRecursion Made others → AllByRecursion (λ other. makes other ≡ true → ¬ Conflict plan.way.end.name other.way.end.name) others
  beside plan on room some [] a m = tt
  beside plan on room some (other ∷ others) a m =
      (λ t conflict. never made plan.way.end.name other.way.end.name room.alone (a.0 t).alone some (m.0 t) conflict, beside plan on room some others a.1 m.1)

  rooms : (all : List Plan) → AllByRecursion Above all → AllByRecursion Made all → (plans : List Plan) → AllByRecursion Above plans → AllByRecursion Made plans → AllByRecursion (λ plan. makes plan ≡ true → HasRoom told all plan) plans
  rooms all a m [] b n = tt
  rooms all a m (plan ∷ plans) b n =
      (λ on. record { stored = (b.0 on).stored; made = beside plan on (b.0 on) (n.0 on) all a m }, rooms all a m plans b.1 n.1)

  pub have_room : (plans : List Plan) → HasMade made plans → AllByRecursion Above plans → AllByRecursion (λ plan. makes plan ≡ true → HasRoom told plans plan) plans
  have_room plans h a = rooms plans a h.all plans a h.all

-- ---- refusals

by_plan : (plans : List Plan) (name shown : List ℕ) (o : Option (List ℕ)) → o ≡ Some shown → IfSome o (IsMadeBy plans name) → IsMadeBy plans name shown
by_plan plans name shown None e h = cc
by_plan plans name shown (Some x) e h = let same : x ≡ shown = cc in subst (IsMadeBy plans name) same h

made_conflict : (space : List ℕ) (told : Option RefState) (made : BTreeMap (List ℕ) (List ℕ)) (plans : List Plan) (plan : Plan) (with : List ℕ) → HasMade made plans → ConflictsWith space told (λ other w. made_get made other ≡ Some w) plan with → ConflictsWith space told (IsMadeBy plans) plan with
made_conflict space told made plans plan with h c = record { other = c.other; conflict = c.conflict; stands = go c.stands }
  where
    go : {A : Type 0} → A ⊎ (made_get made c.other ≡ Some with) → A ⊎ IsMadeBy plans c.other with
    go (inl s) = inl s
    go (inr e) = inr (by_plan plans c.other with (made_get made c.other) e (h.each c.other))

pub room_refused : (space : List ℕ) (state : StoreState) (made : BTreeMap (List ℕ) (List ℕ)) (plans : List Plan) (plan : Plan) (e : RefError) → HasMade made plans → Contains plans plan → makes plan ≡ true → RoomCauses space state made plan e → AllRoomCauses space state plans e
room_refused space state made plans plan (refusal.NameConflict n w) h at on c = (plan, at, on, (c.0, made_conflict space state.references made plans plan w h c.1))
room_refused space state made plans plan (refusal.Store f) h at on c = (plan, at, on, c)
room_refused space state made plans plan refusal.NoMemory h at on c = tt
room_refused space state made plans plan refusal.MissingCommitter h at on c = absurd c
room_refused space state made plans plan (refusal.Unwritable f) h at on c = absurd c
room_refused space state made plans plan (refusal.NameValidation error) h at on c = absurd c
room_refused space state made plans plan (refusal.Cycle n) h at on c = absurd c
room_refused space state made plans plan (refusal.DepthLimitExceeded n) h at on c = absurd c
room_refused space state made plans plan (refusal.MustExist n) h at on c = absurd c
room_refused space state made plans plan (refusal.MustNotExist n a) h at on c = absurd c
room_refused space state made plans plan (refusal.ReferenceOutOfDate n x a) h at on c = absurd c
room_refused space state made plans plan (refusal.DuplicateEdit n) h at on c = absurd c

pub ruleset cutting = (uncut, cut_more, made_there, all_cut)
