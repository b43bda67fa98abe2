-- References that are found at names which are read one by one.
use Rattle.std.proofs.Common.{◌≡◌, ◌∙◌, sym, ap, refl, subst, arith, ℕ, zero, suc, ◌+◌, ◌<◌, List, [], ◌∷◌, ◌++◌, length, take, get_or, Option, Some, None, IfSome, IfNone, IsSome, Contains, inl, inr, ⊎_elim, Bool, true, false, cond, filter, IsTrue}
use Rattle.std.specs.FinMap.{get}
use Rattle.std.specs.List.{AllByRecursion}
use Rattle.std.proofs.lemmas.List.{take_more}
use Rattle.std.specs.List.Sorted.{IsStrictlySortedBy}
use Rattle.std.specs.declared.cmp.Ordering.TheVariants.{Less}
use Rattle.gx_hash.specs.declared.kind.HashKind.{HashKind}
use Rattle.gx_rules.specs.Name.{name_cmp}
use Rattle.gx_store.specs.Listing as listing
use Rattle.gx_store.specs.Kinds.{IsTargetOfKind}
use Rattle.gx_store.specs.State.{RefState, StoreState, IsUnreadable, OfFault}
use Rattle.gx_store.specs.declared.error.StoreError.{StoreError}
use Rattle.gx_store.specs.declared.error.StoreError.TheVariants.{Fault, NoMemory}
use Rattle.gx_store.specs.declared.error.What.{What}
use Rattle.gx_store.specs.declared.error.What.TheVariants as what
use Rattle.gx_store.specs.declared.target.Target.{Target}
use Rattle.gx_refs.specs.Finding.{IsListed, IsListing, IsReference}
use Rattle.gx_refs.specs.Shown.{stored_name}
use Rattle.gx_refs.specs.declared.reference.Reference.{Reference}
use Rattle.gix.specs.Found.{AreFound, IsFound}
use Rattle.gix.specs.References.{ArePseudo, AreReferences, ReadsPseudo, is_pseudo, names_of}
use Rattle.gix.proofs.Lists.{at_head, at_tail, first_or_later, none_in}

pub found_more : (space : List ℕ) (hash : HashKind) (told : Option RefState) (names : List (List ℕ)) (list : List Reference) (name : List ℕ) (reference : Reference) → AreFound space hash told names list → IsFound space hash told name reference → AreFound space hash told (names ++ name ∷ []) (list ++ reference ∷ [])
found_more space hash told [] list name reference none is = inl (reference, [], is, ap (λ xs. xs ++ reference ∷ []) none, refl)
found_more space hash told (x ∷ names) list name reference (inl (first, rest, found, whole, more)) is = inl (first, rest ++ reference ∷ [], found, ap (λ xs. xs ++ reference ∷ []) whole, found_more space hash told names rest name reference more is)
found_more space hash told (x ∷ names) list name reference (inr (none, more)) is = inr (none, found_more space hash told names list name reference more is)

pub found_same : (space : List ℕ) (hash : HashKind) (told : Option RefState) (names : List (List ℕ)) (list : List Reference) (name : List ℕ) → AreFound space hash told names list → IfSome told (λ refs. get refs.targets (stored_name space name) ≡ None) → AreFound space hash told (names ++ name ∷ []) list
found_same space hash told [] list name none absent = inr (absent, none)
found_same space hash told (x ∷ names) list name (inl (first, rest, found, whole, more)) absent = inl (first, rest, found, whole, found_same space hash told names rest name more absent)
found_same space hash told (x ∷ names) list name (inr (none, more)) absent = inr (none, found_same space hash told names list name more absent)

pub one_more : (space : List ℕ) (hash : HashKind) (told : Option RefState) (names : List (List ℕ)) (list : List Reference) (i : ℕ) (name : List ℕ) → i < length names → name ≡ get_or names i name → AreFound space hash told (take i names ++ name ∷ []) list → AreFound space hash told (take (i + 1) names) list
one_more space hash told names list i name less is found = subst (λ xs. AreFound space hash told xs list) (sym (take_more names i name less ∙ ap (λ x. take i names ++ x ∷ []) (sym is))) found

-- ---- what is found at the names of a listing

pub kinds_of : (space : List ℕ) (hash : HashKind) (told : Option RefState) (names : List (List ℕ)) (list : List Reference) → AreFound space hash told names list → AllByRecursion (λ (reference : Reference). IsTargetOfKind hash reference.target) list
kinds_of space hash told [] list none = subst (AllByRecursion (λ (reference : Reference). IsTargetOfKind hash reference.target)) (sym none) tt
kinds_of space hash told (x ∷ names) list (inl (first, rest, found, whole, more)) = subst (AllByRecursion (λ (reference : Reference). IsTargetOfKind hash reference.target)) (sym whole) (found.kind, kinds_of space hash told names rest more)
kinds_of space hash told (x ∷ names) list (inr (none, more)) = kinds_of space hash told names list more

-- what holds of each name holds of those that are found
found_each : (P : List ℕ → Type 0) (space : List ℕ) (hash : HashKind) (told : Option RefState) (names : List (List ℕ)) (list : List Reference) → AllByRecursion P names → AreFound space hash told names list → AllByRecursion P (names_of list)
found_each P space hash told [] list each none = subst (λ l. AllByRecursion P (names_of l)) (sym none) tt
found_each P space hash told (x ∷ names) list each (inl (first, rest, found, whole, more)) =
    subst (λ l. AllByRecursion P (names_of l)) (sym whole) (subst P (sym found.is.named) each.0, found_each P space hash told names rest each.1 more)
found_each P space hash told (x ∷ names) list each (inr (none, more)) = found_each P space hash told names list each.1 more

-- those that are found of rising names rise
found_rises : (space : List ℕ) (hash : HashKind) (told : Option RefState) (names : List (List ℕ)) (list : List Reference) → IsStrictlySortedBy name_cmp names → AreFound space hash told names list → IsStrictlySortedBy name_cmp (names_of list)
unfolding IsStrictlySortedBy
found_rises space hash told [] list rising none = subst (λ l. IsStrictlySortedBy name_cmp (names_of l)) (sym none) tt
found_rises space hash told (x ∷ names) list rising (inl (first, rest, found, whole, more)) =
    subst (λ l. IsStrictlySortedBy name_cmp (names_of l)) (sym whole) (
      subst (λ n. AllByRecursion (λ other. name_cmp n other ≡ Less) (names_of rest)) (sym found.is.named) (found_each _ space hash told names rest rising.0 more),
      found_rises space hash told names rest rising.1 more,
    )
found_rises space hash told (x ∷ names) list rising (inr (none, more)) = found_rises space hash told names list rising.1 more

-- the names that are found of a listing are one
pub found_listing : (space prefix : List ℕ) (hash : HashKind) (told : Option RefState) (names : List (List ℕ)) (list : List Reference) → listing.IsListing prefix names → AreFound space hash told names list → listing.IsListing prefix (names_of list)
found_listing space prefix hash told names list is found = record {
  prefixed = found_each _ space hash told names list is.prefixed found;
  rising = found_rises space hash told names list is.rising found;
}

AreThere : List ℕ → RefState → List (List ℕ) → Type 0
AreThere space refs names = AllByRecursion (λ name. IsSome (get refs.targets (stored_name space name))) names

there_from : (space : List ℕ) (refs : RefState) (names : List (List ℕ)) → ((name : List ℕ) → Contains names name → IsSome (get refs.targets (stored_name space name))) → AreThere space refs names
unfolding AreThere
there_from space refs [] h = tt
there_from space refs (x ∷ names) h = (h x (zero, omega arith, refl), there_from space refs names (λ name at. h name (suc at.0, omega (arith, at.1), at.2)))

not_there : (o : Option Target) → o ≡ None → IsSome o → ⊥
not_there None none some = cc
not_there (Some target) none some = cc

-- each name that is there is found, and no other
all_found : (space : List ℕ) (hash : HashKind) (refs : RefState) (names : List (List ℕ)) (list : List Reference) → AreThere space refs names → AreFound space hash (Some refs) names list → (names_of list ≡ names) × AllByRecursion (λ (reference : Reference). IsReference space (Some refs) reference.name reference) list
unfolding AreThere
all_found space hash refs [] list there none = (ap names_of none, subst (AllByRecursion (λ (reference : Reference). IsReference space (Some refs) reference.name reference)) (sym none) tt)
all_found space hash refs (x ∷ names) list there (inl (first, rest, found, whole, more)) =
    let later = all_found space hash refs names rest there.1 more in (
      ap names_of whole ∙ ap (λ n. n ∷ names_of rest) found.is.named ∙ ap (λ ns. x ∷ ns) later.0,
      subst (AllByRecursion (λ (reference : Reference). IsReference space (Some refs) reference.name reference)) (sym whole) (subst (λ n. IsReference space (Some refs) n first) (sym found.is.named) found.is, later.1),
    )
all_found space hash refs (x ∷ names) list there (inr (none, more)) = absurd (not_there _ none there.0)

pub listed : (space prefix : List ℕ) (hash : HashKind) (told : Option RefState) (names : List (List ℕ)) (list : List Reference) → IfSome told (λ refs. IsListing space prefix refs.targets names) → AreFound space hash told names list → IfSome told (λ refs. AreReferences space prefix refs list)
listed space prefix hash None names list listing found = tt
listed space prefix hash (Some refs) names list listing found =
    let all = all_found space hash refs names list (there_from space refs names (λ name at. ((listing.each name).0 at).there)) found in
    record { names = subst (IsListing space prefix refs.targets) (sym all.0) listing; each = all.1 }

-- a name of a listing is one that it reads
pub listed_name : (space prefix : List ℕ) (told : Option RefState) (names : List (List ℕ)) (name : List ℕ) → IfSome told (λ refs. IsListing space prefix refs.targets names) → Contains names name → IfSome told (λ refs. IsListed space prefix refs.targets name)
listed_name space prefix None names name listing at = tt
listed_name space prefix (Some refs) names name listing at = (listing.each name).0 at

-- ---- names that are kept

-- what a filter keeps was there, and passes
pub kept_in : (p : List ℕ → Bool) (names : List (List ℕ)) (name : List ℕ) → Contains (filter p names) name → (p name ≡ true) × Contains names name
kept_in p [] name at = absurd (none_in name at)
kept_in p (x ∷ names) name at = go (p x) refl (λ later. kept_in p names name later) at
  where
    go : (b : Bool) → p x ≡ b → (Contains (filter p names) name → (p name ≡ true) × Contains names name) → Contains (cond b (x ∷ filter p names) (filter p names)) name → (p name ≡ true) × Contains (x ∷ names) name
    go true is more at = ⊎_elim
        (λ same. (subst (λ n. p n ≡ true) same is, subst (Contains (x ∷ names)) same (at_head x names)))
        (λ later. ((more later).0, at_tail x names name (more later).1))
        (first_or_later x (filter p names) name at)
    go false is more at = ((more at).0, at_tail x names name (more at).1)

pub pseudo_listed : (space : List ℕ) (hash : HashKind) (told : Option RefState) (names : List (List ℕ)) (list : List Reference) → IfSome told (λ refs. IsListing space [] refs.targets names) → AreFound space hash told (filter is_pseudo names) list → IfSome told (λ refs. ArePseudo space refs list)
pseudo_listed space hash None names list listing found = tt
pseudo_listed space hash (Some refs) names list listing found =
    let all = all_found space hash refs (filter is_pseudo names) list (there_from space refs (filter is_pseudo names) (λ name at. ((listing.each name).0 (kept_in is_pseudo names name at).1).there)) found in
    record { all = names; listing = listing; names = all.0; each = all.1 }

-- a kept name is one that the listing reads
pub pseudo_read : (space : List ℕ) (told : Option RefState) (names : List (List ℕ)) (name : List ℕ) (part : What) → IfSome told (λ refs. IsListing space [] refs.targets names) → Contains (filter is_pseudo names) name → part ≡ what.Name (stored_name space name) → ReadsPseudo space told part
pseudo_read space told names name part listing at is =
    let kept = kept_in is_pseudo names name at in
    inr (name, is, kept.0, listed_name space [] told names name listing kept.1)

-- a fault at a kept name is one of what is read
pub pseudo_fault : (space : List ℕ) (state : StoreState) (names kept : List (List ℕ)) (e : StoreError) → kept ≡ filter is_pseudo names → IfSome state.references (λ refs. IsListing space [] refs.targets names) → OfFault e (λ fault. (name : List ℕ) × Contains kept name × IsUnreadable state (what.Name (stored_name space name)) fault) → OfFault e (λ fault. IsUnreadable state fault fault × ReadsPseudo space state.references fault)
pseudo_fault space state names kept (Fault fault) same listing h = (
  (refl, subst (λ part. IsTrue (state.unreadable part)) (sym h.2.0) h.2.1),
  pseudo_read space state.references names h.0 fault listing (subst (λ ns. Contains ns h.0) same h.1) h.2.0,
)
pseudo_fault space state names kept NoMemory same listing h = tt

-- ---- at one name

pub none_of : (o : Option Reference) (P : Type 0) → IfNone o P → ((reference : Reference) → o ≡ Some reference → ⊥) → P
none_of None P h not_some = h
none_of (Some reference) P h not_some = absurd (not_some reference refl)

pub some_of : (o : Option Reference) (reference : Reference) (P : Reference → Type 0) → IfSome o P → o ≡ Some reference → P reference
some_of o reference P h is = subst (λ p. IfSome p P) is h

fault_of : (names : List (List ℕ)) (name : List ℕ) (P : List ℕ → What → Type 0) (e : StoreError) → Contains names name → OfFault e (P name) → OfFault e (λ fault. (other : List ℕ) × Contains names other × P other fault)
fault_of names name P (Fault fault) at h = (name, at, h)
fault_of names name P NoMemory at h = tt

-- a fault at one of the names
pub fault_among : (names : List (List ℕ)) (i : ℕ) (name : List ℕ) (P : List ℕ → What → Type 0) (e : StoreError) → i < length names → name ≡ get_or names i name → OfFault e (P name) → OfFault e (λ fault. (other : List ℕ) × Contains names other × P other fault)
fault_among names i name P e less is h = fault_of names name P e (i, less, sym is) h
