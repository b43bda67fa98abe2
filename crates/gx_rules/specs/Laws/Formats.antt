-- A name is partial just where it is well formed.
use Rattle.std.proofs.Common.{◌≡◌, ◌≢◌, ℕ, suc, zero, ◌+◌, ◌-◌, ◌<◌, ◌≤◌, ◌⊎◌, inl, inr, Bool, true, false, cond, List, [], ◌∷◌, ◌++◌, length, take, drop, All, codes, refl, sym, ap, subst, ◌∙◌, arith, ◌==◌, nat_eq, eq-eqb}
use Rattle.std.proofs.Math.Seq.{drop-append-add}
use Rattle.std.proofs.lemmas.Bool.{and_parts, and_from, cases_lt, eqb-true}
use Rattle.std.proofs.lemmas.List.{take-append-drop, length-take-le, length-drop, length-append, nil_from_length}
use Rattle.std.proofs.lemmas.List.Elements.{All-head, All-tail, All-cons}
use Rattle.std.specs.List.{starts_with}
use Rattle.gx_rules.specs.Name.{StandsAt, ForbiddenAt, EndsComponent, HiddenAt, LockAt, Nowhere, IsFirstPlace, IsPartialName}
use Rattle.gx_rules.specs.declared.name_error.NameError.TheVariants.{Empty, InvalidByte, RepeatedDot, ReflogPortion, StartsWithSlash, EndsWithSlash, RepeatedSlash, StartsWithDot, LockFileSuffix, EndsWithDot, SingleAt, SomeLowercase, NoMemory}
use Rattle.gx_rules.specs.Path.{Path, components, at_front}
use Rattle.gx_rules.specs.RefFormat.{Begins, Ends, IsWellFormed}
use Rattle.gx_rules.specs.Laws.Paths.{components_some}

-- ---- places

-- what has no first place has none
below : (P : ℕ → Type 0) → ((at : ℕ) → IsFirstPlace P at → ⊥) → (n k : ℕ) → k < n → P k → ⊥
below P none zero k h p = omega (arith, h)
below P none (suc n) k h p = elim (cases_lt k n) [
  | inl less ↦ below P none n k less p
  | inr more ↦ none k (record { here = p; before = λ j less. below P none n j (omega (arith, h, less)) })
]

nowhere : (P : ℕ → Type 0) → ((at : ℕ) → IsFirstPlace P at → ⊥) → Nowhere P
nowhere P none k p = below P none (suc k) k (omega arith) p

pub begins_parts : (text xs : List ℕ) → starts_with nat_eq xs text ≡ true → xs ≡ text ++ drop (length text) xs
begins_parts [] xs h = refl
begins_parts (t ∷ text) [] h = absurd cc
begins_parts (t ∷ text) (x ∷ xs) h =
    let both : (nat_eq t x ≡ true) × (starts_with nat_eq xs text ≡ true) = and_parts _ _ h in
    let same : t ≡ x = eqb-true t x both.0 in
    let more : xs ≡ text ++ drop (length text) xs = begins_parts text xs both.1 in
    cc

pub begins_back : (text rest : List ℕ) → starts_with nat_eq (text ++ rest) text ≡ true
begins_back [] rest = refl
begins_back (t ∷ text) rest = and_from _ _ (eq-eqb t t refl) (begins_back text rest)

-- a text at a place splits the name into what is before it, the text, and what is after it
pub stands_parts : (t : ℕ) (text name : List ℕ) (at : ℕ) → StandsAt (t ∷ text) name at → (front : List ℕ) × (rest : List ℕ) × (name ≡ front ++ ((t ∷ text) ++ rest)) × (length front ≡ at)
stands_parts t text name at h =
    let rest : List ℕ = drop (length (t ∷ text)) (drop at name) in
    let behind : drop at name ≡ (t ∷ text) ++ rest = begins_parts (t ∷ text) (drop at name) h in
    let size : length name - at ≡ length (t ∷ (text ++ rest)) = sym (length-drop at name) ∙ ap length behind in
    let within : at ≤ length name = omega (arith, size) in
    (take at name, rest, sym (take-append-drop at name) ∙ ap (λ (xs : List ℕ). take at name ++ xs) behind, length-take-le at name within)

-- and back, at any place in what is after
pub stands_place : (front more text : List ℕ) (at k : ℕ) → at ≡ length front + k → StandsAt text more k → StandsAt text (front ++ more) at
stands_place front more text at k e h = rw e (ap (λ (xs : List ℕ). starts_with nat_eq xs text) (drop-append-add front more k) ∙ h)

stands_behind : (front more text : List ℕ) (at k : ℕ) → at ≡ length front + k → StandsAt text (front ++ more) at → StandsAt text more k
stands_behind front more text at k e h = ap (λ (xs : List ℕ). starts_with nat_eq xs text) (sym (drop-append-add front more k)) ∙ (rw e at h)

stands_at_end : (c : ℕ) (front : List ℕ) → StandsAt (c ∷ []) (front ++ (c ∷ [])) (length (front ++ (c ∷ [])) - 1)
stands_at_end c front = stands_place front (c ∷ []) (c ∷ []) _ 0 (let size : length (front ++ (c ∷ [])) ≡ length front + 1 = length-append front (c ∷ []) in omega (arith, size)) (begins_back (c ∷ []) [])

ends_from : (c : ℕ) (name : List ℕ) → StandsAt (c ∷ []) name (length name - 1) → (front : List ℕ) × (name ≡ front ++ (c ∷ []))
ends_from c name h =
    let parts = stands_parts c [] name (length name - 1) h in
    let size : length name ≡ length parts.0 + length (c ∷ parts.1) = ap length parts.2 ∙ length-append parts.0 (c ∷ parts.1) in
    let none : parts.1 ≡ [] = nil_from_length parts.1 (omega (arith, size, parts.3)) in
    (parts.0, parts.2 ∙ ap (λ (xs : List ℕ). parts.0 ++ (c ∷ xs)) none)

-- ---- components

abbrev tail : Path → Path
tail [] = []
tail (name ∷ path) = path

-- the first has the property
abbrev HeadHas : (List ℕ → Type 0) → Path → Type 0
HeadHas P [] = Unit {0}
HeadHas P (name ∷ path) = P name

pub all_none : (P : List ℕ → Type 0) → All P []
all_none P k d within = absurd (omega (arith, within))

all_tail : (P : List ℕ → Type 0) (path : Path) → All P path → All P (tail path)
all_tail P [] all = all
all_tail P (name ∷ path) all = All-tail P name path all

all_whole : (P : List ℕ → Type 0) (path : Path) → HeadHas P path → All P (tail path) → All P path
all_whole P [] head all = all
all_whole P (name ∷ path) head all = All-cons P name path head all

tail_front : (b : ℕ) (path : Path) → tail (at_front b path) ≡ tail path
tail_front b [] = refl
tail_front b (name ∷ path) = refl

-- the components after a slash are those of the text after it
all_behind : (P : List ℕ → Type 0) (front rest : List ℕ) → All P (tail (components (front ++ (47 ∷ rest)))) → All P (components rest)
all_behind P [] rest all = all
all_behind P (b ∷ front) rest all = go (b == 47) (all_behind P front rest) all
  where
    go : (t : Bool) → (All P (tail (components (front ++ (47 ∷ rest)))) → All P (components rest)) → All P (tail (cond t ([] ∷ components (front ++ (47 ∷ rest))) (at_front b (components (front ++ (47 ∷ rest)))))) → All P (components rest)
    go true ih all = ih (all_tail P _ all)
    go false ih all = ih (subst (All P) (tail_front b (components (front ++ (47 ∷ rest)))) all)

-- and each component but the first begins after a slash
tail_from : (P : List ℕ → Type 0) (name : List ℕ) → ((front rest : List ℕ) → name ≡ front ++ (47 ∷ rest) → HeadHas P (components rest)) → All P (tail (components name))
tail_from P [] given = all_none P
tail_from P (b ∷ bytes) given = go (b == 47) refl (tail_from P bytes (λ front rest e. given (b ∷ front) rest (ap (λ (xs : List ℕ). b ∷ xs) e)))
  where
    go : (t : Bool) → (b == 47) ≡ t → All P (tail (components bytes)) → All P (tail (cond t ([] ∷ components bytes) (at_front b (components bytes))))
    go true e ih = all_whole P (components bytes) (given [] bytes (ap (λ (c : ℕ). c ∷ bytes) (eqb-true b 47 e))) ih
    go false e ih = subst (All P) (sym (tail_front b (components bytes))) ih

-- ---- no component is empty

abbrev Some : List ℕ → Type 0
Some part = part ≢ []

front_some : (b : ℕ) (path : Path) → HeadHas Some (at_front b path)
front_some b [] = λ (e : b ∷ [] ≡ []). cc
front_some b (name ∷ path) = λ (e : b ∷ name ≡ []). cc

head_some : (bytes : List ℕ) → (bytes ≡ [] → ⊥) → ((rest : List ℕ) → bytes ≡ 47 ∷ rest → ⊥) → HeadHas Some (components bytes)
head_some [] some apart = absurd (some refl)
head_some (b ∷ bytes) some apart = go (b == 47) refl
  where
    go : (t : Bool) → (b == 47) ≡ t → HeadHas Some (cond t ([] ∷ components bytes) (at_front b (components bytes)))
    go true e = absurd (apart bytes (ap (λ (c : ℕ). c ∷ bytes) (eqb-true b 47 e)))
    go false e = front_some b (components bytes)

-- ---- no component begins with a dot

abbrev Shown : List ℕ → Type 0
Shown part = Begins (codes ".") part → ⊥

nil_shown : Shown []
nil_shown = λ (w : Begins (codes ".") []). let e : [] ≡ 46 ∷ w.0 = w.1 in cc

front_shown : (b : ℕ) (path : Path) → (b ≡ 46 → ⊥) → HeadHas Shown (at_front b path)
front_shown b [] other = λ (w : Begins (codes ".") (b ∷ [])). let e : b ∷ [] ≡ 46 ∷ w.0 = w.1 in other cc
front_shown b (name ∷ path) other = λ (w : Begins (codes ".") (b ∷ name)). let e : b ∷ name ≡ 46 ∷ w.0 = w.1 in other cc

head_shown : (bytes : List ℕ) → ((rest : List ℕ) → bytes ≡ 46 ∷ rest → ⊥) → HeadHas Shown (components bytes)
head_shown [] apart = nil_shown
head_shown (b ∷ bytes) apart = go (b == 47)
  where
    go : (t : Bool) → HeadHas Shown (cond t ([] ∷ components bytes) (at_front b (components bytes)))
    go true = nil_shown
    go false = front_shown b (components bytes) (λ e. apart bytes (ap (λ (c : ℕ). c ∷ bytes) e))

-- a text that begins with a dot has such a component
dot_found : (rest : List ℕ) → All Shown (components (46 ∷ rest)) → ⊥
dot_found rest all = go (components rest) all
  where
    go : (path : Path) → All Shown (at_front 46 path) → ⊥
    go [] all = All-head Shown (46 ∷ []) [] all ([], refl)
    go (name ∷ path) all = All-head Shown (46 ∷ name) path all (name, refl)

-- ---- no component ends with `.lock`

abbrev Unlocked : List ℕ → Type 0
Unlocked part = Ends (codes ".lock") part → ⊥

-- nothing, or a slash first
abbrev EndsThere : List ℕ → Type 0
EndsThere rest = (rest ≡ []) ⊎ ((more : List ℕ) × (rest ≡ 47 ∷ more))

ends_nil : (front : List ℕ) → [] ≡ front ++ codes ".lock" → ⊥
ends_nil [] e = cc
ends_nil (b ∷ front) e = cc

back_unlocked : (b : ℕ) (path : Path) → All Unlocked (at_front b path) → All Unlocked path
back_unlocked b [] all = all_none Unlocked
back_unlocked b (name ∷ path) all = All-cons Unlocked name path (λ w. All-head Unlocked (b ∷ name) path all (b ∷ w.0, ap (λ (xs : List ℕ). b ∷ xs) w.1)) (All-tail Unlocked (b ∷ name) path all)

lock_found : (front rest : List ℕ) → EndsThere rest → All Unlocked (components (front ++ (codes ".lock" ++ rest))) → ⊥
lock_found [] rest (inl none) all = All-head Unlocked (codes ".lock") [] (subst (λ (r : List ℕ). All Unlocked (components (codes ".lock" ++ r))) none all) ([], refl)
lock_found [] rest (inr slash) all = All-head Unlocked (codes ".lock") (components slash.0) (subst (λ (r : List ℕ). All Unlocked (components (codes ".lock" ++ r))) slash.1 all) ([], refl)
lock_found (b ∷ front) rest end all = go (b == 47) (lock_found front rest end) all
  where
    go : (t : Bool) → (All Unlocked (components (front ++ (codes ".lock" ++ rest))) → ⊥) → All Unlocked (cond t ([] ∷ components (front ++ (codes ".lock" ++ rest))) (at_front b (components (front ++ (codes ".lock" ++ rest))))) → ⊥
    go true ih all = ih (All-tail Unlocked [] _ all)
    go false ih all = ih (back_unlocked b _ all)

-- a text is its first component, and then nothing or a slash
first_part : (bytes name : List ℕ) (path : Path) → components bytes ≡ name ∷ path → (rest : List ℕ) × (bytes ≡ name ++ rest) × EndsThere rest
first_part [] name path e = let none : name ≡ [] = cc in ([], rw none refl, inl refl)
first_part (b ∷ bytes) name path e = go (b == 47) refl (components bytes) refl (first_part bytes) e
  where
    go : (t : Bool) → (b == 47) ≡ t → (parts : Path) → components bytes ≡ parts → ((m : List ℕ) (q : Path) → components bytes ≡ m ∷ q → (rest : List ℕ) × (bytes ≡ m ++ rest) × EndsThere rest) → cond t ([] ∷ parts) (at_front b parts) ≡ name ∷ path → (rest : List ℕ) × (b ∷ bytes ≡ name ++ rest) × EndsThere rest
    go true slash parts is ih e = let none : name ≡ [] = cc in (b ∷ bytes, rw none refl, inr (bytes, ap (λ (c : ℕ). c ∷ bytes) (eqb-true b 47 slash)))
    go false slash [] is ih e = absurd (components_some bytes is)
    go false slash (m ∷ q) is ih e = let same : name ≡ b ∷ m = cc in let more = ih m q is in (more.0, rw same (ap (λ (xs : List ℕ). b ∷ xs) more.1), more.2)

lock_front : (b : ℕ) (bytes name : List ℕ) (path : Path) → components bytes ≡ name ∷ path → Unlocked name → ((rest : List ℕ) → b ∷ bytes ≡ codes ".lock" ++ rest → EndsThere rest → ⊥) → (front : List ℕ) → b ∷ name ≡ front ++ codes ".lock" → ⊥
lock_front b bytes name path is unlocked given [] e =
    let dot : b ≡ 46 = cc in
    let word : name ≡ codes "lock" = cc in
    let parts = first_part bytes name path is in
    given parts.0 (rw dot (ap (λ (xs : List ℕ). 46 ∷ xs) (parts.1 ∙ ap (λ (xs : List ℕ). xs ++ parts.0) word))) parts.2
lock_front b bytes name path is unlocked given (f ∷ front) e = unlocked (front, (let rest : name ≡ front ++ codes ".lock" = cc in rest))

lock_none : (name : List ℕ) → ((front rest : List ℕ) → name ≡ front ++ (codes ".lock" ++ rest) → EndsThere rest → ⊥) → All Unlocked (components name)
lock_none [] given = All-cons Unlocked [] [] (λ w. ends_nil w.0 w.1) (all_none Unlocked)
lock_none (b ∷ bytes) given = go (b == 47) (components bytes) refl (lock_none bytes (λ front rest e end. given (b ∷ front) rest (ap (λ (xs : List ℕ). b ∷ xs) e) end))
  where
    go : (t : Bool) (parts : Path) → components bytes ≡ parts → All Unlocked parts → All Unlocked (cond t ([] ∷ parts) (at_front b parts))
    go true parts is ih = All-cons Unlocked [] parts (λ w. ends_nil w.0 w.1) ih
    go false [] is ih = absurd (components_some bytes is)
    go false (name ∷ path) is ih = All-cons Unlocked (b ∷ name) path (λ w. lock_front b bytes name path is (All-head Unlocked name path ih) (given []) w.0 w.1) (All-tail Unlocked name path ih)

-- ---- both ways

-- the name breaks no rule that partial names keep
some_parts : (name : List ℕ) → IsPartialName name → All Some (components name)
some_parts name keeps = all_whole Some (components name) (head_some name empty (λ rest e. keeps StartsWithSlash (λ same. cc) (subst (λ (xs : List ℕ). StandsAt (codes "/") xs 0) (sym e) refl))) (tail_from Some name (λ front rest e. head_some rest (last front rest e) (twice front rest e)))
  where
    empty : name ≡ [] → ⊥
    empty = keeps Empty (λ same. cc)

    last : (front rest : List ℕ) → name ≡ front ++ (47 ∷ rest) → rest ≡ [] → ⊥
    last front rest e none =
        let whole : name ≡ front ++ (47 ∷ []) = e ∙ ap (λ (xs : List ℕ). front ++ (47 ∷ xs)) none in
        keeps EndsWithSlash (λ same. cc) (subst (λ (xs : List ℕ). StandsAt (codes "/") xs (length xs - 1)) (sym whole) (stands_at_end 47 front))

    twice : (front rest : List ℕ) → name ≡ front ++ (47 ∷ rest) → (more : List ℕ) → rest ≡ 47 ∷ more → ⊥
    twice front rest e more next =
        let whole : name ≡ front ++ (47 ∷ 47 ∷ more) = e ∙ ap (λ (xs : List ℕ). front ++ (47 ∷ xs)) next in
        nowhere (StandsAt (codes "//") name) (λ at. keeps (RepeatedSlash at) (λ same. cc)) (length front)
        (subst (λ (xs : List ℕ). StandsAt (codes "//") xs (length front)) (sym whole) (stands_place front (47 ∷ 47 ∷ more) (codes "//") (length front) 0 (omega arith) (begins_back (codes "//") more)))

shown_parts : (name : List ℕ) → IsPartialName name → All Shown (components name)
shown_parts name keeps = all_whole Shown (components name) (head_shown name first) (tail_from Shown name (λ front rest e. head_shown rest (later front rest e)))
  where
    hidden : Nowhere (HiddenAt name)
    hidden = nowhere (HiddenAt name) (λ at. keeps (StartsWithDot at) (λ same. cc))

    first : (rest : List ℕ) → name ≡ 46 ∷ rest → ⊥
    first rest e = hidden 0 (subst (λ (xs : List ℕ). StandsAt (codes ".") xs 0) (sym e) refl, inl refl)

    later : (front rest : List ℕ) → name ≡ front ++ (47 ∷ rest) → (more : List ℕ) → rest ≡ 46 ∷ more → ⊥
    later front rest e more dot =
        let whole : name ≡ front ++ (47 ∷ 46 ∷ more) = e ∙ ap (λ (xs : List ℕ). front ++ (47 ∷ xs)) dot in
        hidden (length front + 1) (
          subst (λ (xs : List ℕ). StandsAt (codes ".") xs (length front + 1)) (sym whole) (stands_place front (47 ∷ 46 ∷ more) (codes ".") (length front + 1) 1 refl refl),
          inr (subst (λ (xs : List ℕ). StandsAt (codes "/") xs (length front + 1 - 1)) (sym whole) (stands_place front (47 ∷ 46 ∷ more) (codes "/") (length front + 1 - 1) 0 (omega arith) refl)),
        )

unlocked_parts : (name : List ℕ) → IsPartialName name → All Unlocked (components name)
unlocked_parts name keeps = lock_none name locked
  where
    ends : (front rest : List ℕ) → EndsThere rest → EndsComponent (front ++ (codes ".lock" ++ rest)) (length front + 5)
    ends front rest (inl none) =
        let size : length (front ++ (codes ".lock" ++ rest)) ≡ length front + length (codes ".lock" ++ rest) = length-append front (codes ".lock" ++ rest) in
        let short : length (codes ".lock" ++ rest) ≡ 5 = ap (λ (xs : List ℕ). length (codes ".lock" ++ xs)) none in
        inl (omega (arith, size, short))
    ends front rest (inr slash) = inr (stands_place front (codes ".lock" ++ rest) (codes "/") (length front + 5) 5 refl (subst (λ (xs : List ℕ). StandsAt (codes "/") (codes ".lock" ++ xs) 5) (sym slash.1) refl))

    locked : (front rest : List ℕ) → name ≡ front ++ (codes ".lock" ++ rest) → EndsThere rest → ⊥
    locked front rest e end = nowhere (LockAt name) (λ at. keeps (LockFileSuffix at) (λ same. cc)) (length front)
        (subst (λ (xs : List ℕ). LockAt xs (length front)) (sym e) (stands_place front (codes ".lock" ++ rest) (codes ".lock") (length front) 0 (omega arith) (begins_back (codes ".lock") rest), ends front rest end))

pub well_formed : (name : List ℕ) → IsPartialName name → IsWellFormed name
well_formed name keeps = record {
  parts = λ k part within. record { some = some_parts name keeps k part within; shown = shown_parts name keeps k part within; unlocked = unlocked_parts name keeps k part within };
  no_range = nowhere (StandsAt (codes "..") name) (λ at. keeps (RepeatedDot at) (λ same. cc));
  allowed = nowhere (ForbiddenAt name) (λ at. keeps (InvalidByte at) (λ same. cc));
  no_end = λ w. keeps EndsWithDot (λ same. cc) (subst (λ (xs : List ℕ). StandsAt (codes ".") xs (length xs - 1)) (sym w.1) (stands_at_end 46 w.0));
  no_log = nowhere (StandsAt (codes "@{") name) (λ at. keeps (ReflogPortion at) (λ same. cc));
  not_at = keeps SingleAt (λ same. cc);
}

-- ---- a text with such components breaks none of the rules on them

dot_first : (name : List ℕ) → All Shown (components name) → StandsAt (codes ".") name 0 → ⊥
dot_first name shown dot =
    let rest : List ℕ = drop (length (codes ".")) name in
    dot_found rest (subst (λ (xs : List ℕ). All Shown (components xs)) (begins_parts (codes ".") name dot) shown)

dot_behind : (name : List ℕ) → All Shown (components name) → (at : ℕ) → StandsAt (codes ".") name (suc at) → StandsAt (codes "/") name (suc at - 1) → ⊥
dot_behind name shown at dot slash =
    let parts = stands_parts 47 [] name (suc at - 1) slash in
    let there : StandsAt (codes ".") (parts.0 ++ (47 ∷ parts.1)) (suc at) = subst (λ (xs : List ℕ). StandsAt (codes ".") xs (suc at)) parts.2 dot in
    let first : StandsAt (codes ".") (47 ∷ parts.1) 1 = stands_behind parts.0 (47 ∷ parts.1) (codes ".") (suc at) 1 (omega (arith, parts.3)) there in
    dot_first parts.1 (all_behind Shown parts.0 parts.1 (subst (λ (xs : List ℕ). All Shown (tail (components xs))) parts.2 (all_tail Shown (components name) shown))) first

never_hidden : (name : List ℕ) → All Shown (components name) → (at : ℕ) → HiddenAt name at → ⊥
never_hidden name shown zero hidden = dot_first name shown hidden.0
never_hidden name shown (suc at) hidden = elim (hidden.1) [
  | inl front ↦ omega (arith, front)
  | inr slash ↦ dot_behind name shown at hidden.0 slash
]

never_locked : (name : List ℕ) → All Unlocked (components name) → (at : ℕ) → LockAt name at → ⊥
never_locked name unlocked at locked = lock_found parts.0 parts.1 (there (locked.1)) (subst (λ (xs : List ℕ). All Unlocked (components xs)) parts.2 unlocked)
  where
    parts : (front : List ℕ) × (rest : List ℕ) × (name ≡ front ++ (codes ".lock" ++ rest)) × (length front ≡ at)
    parts = stands_parts 46 (codes "lock") name at locked.0

    there : EndsComponent name (at + 5) → EndsThere parts.1
    there (inl end) =
        let size : length name ≡ length parts.0 + length (codes ".lock" ++ parts.1) = ap length parts.2 ∙ length-append parts.0 (codes ".lock" ++ parts.1) in
        let word : length (codes ".lock" ++ parts.1) ≡ 5 + length parts.1 = length-append (codes ".lock") parts.1 in
        inl (nil_from_length parts.1 (omega (arith, size, word, end, parts.3)))
    there (inr slash) =
        let whole : StandsAt (codes "/") (parts.0 ++ (codes ".lock" ++ parts.1)) (at + 5) = subst (λ (xs : List ℕ). StandsAt (codes "/") xs (at + 5)) parts.2 slash in
        let behind : StandsAt (codes "/") (codes ".lock" ++ parts.1) 5 = stands_behind parts.0 (codes ".lock" ++ parts.1) (codes "/") (at + 5) 5 (omega (arith, parts.3)) whole in
        inr (drop (length (codes "/")) parts.1, begins_parts (codes "/") parts.1 behind)

never_empty : (rest : List ℕ) → All Some (components rest) → rest ≡ [] → ⊥
never_empty rest some e = All-head Some [] [] (subst (λ (xs : List ℕ). All Some (components xs)) e some) refl

no_slash_first : (rest : List ℕ) → All Some (components rest) → StandsAt (codes "/") rest 0 → ⊥
no_slash_first rest some slash =
    let more : List ℕ = drop (length (codes "/")) rest in
    All-head Some [] (components more) (subst (λ (xs : List ℕ). All Some (components xs)) (begins_parts (codes "/") rest slash) some) refl

some_behind : (name front rest : List ℕ) → All Some (components name) → name ≡ front ++ (47 ∷ rest) → All Some (components rest)
some_behind name front rest some e = all_behind Some front rest (subst (λ (xs : List ℕ). All Some (tail (components xs))) e (all_tail Some (components name) some))

no_slash_last : (name : List ℕ) → All Some (components name) → StandsAt (codes "/") name (length name - 1) → ⊥
no_slash_last name some slash = let end = ends_from 47 name slash in never_empty [] (some_behind name end.0 [] some end.1) refl

no_slash_twice : (name : List ℕ) → All Some (components name) → (at : ℕ) → StandsAt (codes "//") name at → ⊥
no_slash_twice name some at slashes = let parts = stands_parts 47 (47 ∷ []) name at slashes in no_slash_first (47 ∷ parts.1) (some_behind name parts.0 (47 ∷ parts.1) some parts.2) refl

pub partial_again : (name : List ℕ) → IsWellFormed name → IsPartialName name
partial_again name formed Empty apart = never_empty name (λ k part within. (formed.parts k part within).some)
partial_again name formed (InvalidByte at) apart = λ first. formed.allowed at first.here
partial_again name formed (RepeatedDot at) apart = λ first. formed.no_range at first.here
partial_again name formed (ReflogPortion at) apart = λ first. formed.no_log at first.here
partial_again name formed StartsWithSlash apart = no_slash_first name (λ k part within. (formed.parts k part within).some)
partial_again name formed EndsWithSlash apart = no_slash_last name (λ k part within. (formed.parts k part within).some)
partial_again name formed (RepeatedSlash at) apart = λ first. no_slash_twice name (λ k part within. (formed.parts k part within).some) at first.here
partial_again name formed (StartsWithDot at) apart = λ first. never_hidden name (λ k part within. (formed.parts k part within).shown) at first.here
partial_again name formed (LockFileSuffix at) apart = λ first. never_locked name (λ k part within. (formed.parts k part within).unlocked) at first.here
partial_again name formed EndsWithDot apart = λ dot. formed.no_end (ends_from 46 name dot)
partial_again name formed SingleAt apart = formed.not_at
partial_again name formed SomeLowercase apart = absurd (apart refl)
partial_again name formed NoMemory apart = λ broken. broken
