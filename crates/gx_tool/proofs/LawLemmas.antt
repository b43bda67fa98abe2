-- What the end of a run says of its script.
use Rattle.std.proofs.Common.{◌≡◌, ◌∙◌, sym, ap, refl, subst, ℕ, ◌+◌, ◌≤◌, List, [], ◌∷◌, ◌++◌, length, Option, Some, None, arith, append_assoc, length-append, ◌⊎◌, inl, inr, ◌↔◌, Bool, true, false}
use Rattle.std.specs.List.{flat_map}
use Rattle.std.proofs.lemmas.List.{append-nil}
use Rattle.gx_hash.specs.declared.kind.HashKind.{HashKind}
use Rattle.gx_store.specs.Outside.{Takes, IsEnd}
use Rattle.gx_script.specs.declared.request.Request.{Request}
use Rattle.gx_script.specs.Laws.{HasNoRequest}
use Rattle.gx_script.specs.Spelling.{spelling}
use Rattle.gx_script.specs.Script.{IsScript, IsBad, StopsAt}
use Rattle.gx_tool.specs.declared.reply.Reply.{Reply}
use Rattle.gx_tool.specs.declared.status.Status.{Status}
use Rattle.gx_tool.specs.declared.status.Status.TheVariants.{Done, Refusals, Malformed, ReadFault, WriteFault, NoMemory, BadWords, StoreFault, TooLong}
use Rattle.gix.specs.Held.{Held, state_of}
use Rattle.gix.specs.View.{State}
use Rattle.gx_tool.specs.CallLaws.{CallLaws}
use Rattle.gx_tool.specs.Completeness.{IsFaultless, AreValid}
use Rattle.gx_tool.specs.Course.{Moment, Answers, Ends, code, taken_count}
use Rattle.gx_tool.specs.ReadsOnce.{ReadsOnce}
use Rattle.gx_tool.specs.Reply.{all_accepted}
use Rattle.gx_tool.proofs.FaultlessLemmas.{quiet}
use Rattle.gx_tool.proofs.ValidLemmas.{valid_accepted}

-- what was taken of a source that tells
taken_of : (old new : Option (List ℕ)) (bytes left taken : List ℕ) → old ≡ Some bytes → new ≡ Some left → Takes old new taken → bytes ≡ taken ++ left
taken_of old new bytes left taken o n t =
    let at_new : Takes old (Some left) taken = subst (λ (x : Option (List ℕ)). Takes old x taken) n t in
    subst (λ (x : Option (List ℕ)). Takes x (Some left) taken) o at_new

-- a source that tells what was left tells what is left
left_of : (bytes taken : List ℕ) (new : Option (List ℕ)) → Takes (Some bytes) new taken → (left : List ℕ) × (new ≡ Some left)
left_of bytes taken None t = absurd t
left_of bytes taken (Some left) t = (left, refl)

told_left : (old new : Option (List ℕ)) (bytes taken : List ℕ) → old ≡ Some bytes → Takes old new taken → (left : List ℕ) × (new ≡ Some left)
told_left old new bytes taken o t = left_of bytes taken new (subst (λ (x : Option (List ℕ)). Takes x new taken) o t)

passed : (limit : ℕ) (start now : Moment) (requests : List Request) (replies : List Reply) (rest out : List ℕ) (held : Held) (status : Status) → Ends limit start now requests replies rest out held status → code status ≡ 8 → taken_count requests rest ≡ limit + 1
passed limit start now requests replies rest out held Done e h = cc
passed limit start now requests replies rest out held Refusals e h = cc
passed limit start now requests replies rest out held Malformed e h = cc
passed limit start now requests replies rest out held ReadFault e h = cc
passed limit start now requests replies rest out held WriteFault e h = cc
passed limit start now requests replies rest out held NoMemory e h = cc
passed limit start now requests replies rest out held BadWords e h = absurd e
passed limit start now requests replies rest out held StoreFault e h = cc
passed limit start now requests replies rest out held TooLong e h = e.0

passing : (limit : ℕ) (start now : Moment) (requests : List Request) (replies : List Reply) (rest out : List ℕ) (held : Held) (status : Status) → Ends limit start now requests replies rest out held status → taken_count requests rest ≡ limit + 1 → code status ≡ 8
passing limit start now requests replies rest out held Done e k = absurd (omega (arith, e.0, k))
passing limit start now requests replies rest out held Refusals e k = absurd (omega (arith, e.0, k))
passing limit start now requests replies rest out held Malformed e k = absurd (omega (arith, e.0, k))
passing limit start now requests replies rest out held ReadFault e k = absurd (omega (arith, e.0, k))
passing limit start now requests replies rest out held WriteFault e k = absurd (omega (arith, e.0, k))
passing limit start now requests replies rest out held NoMemory e k = absurd (omega (arith, e.0, k))
passing limit start now requests replies rest out held BadWords e k = absurd e
passing limit start now requests replies rest out held StoreFault e k = absurd (omega (arith, e.0, k))
passing limit start now requests replies rest out held TooLong e k = refl

pub eight : (limit : ℕ) (start now : Moment) (number : ℕ) (taken left : List ℕ) → Answers limit start now number → start.left ≡ Some (taken ++ left) → now.left ≡ Some left → (number ≡ 8) ↔ (length taken ≡ limit + 1)
eight limit start now number taken left a o n =
    let text : List ℕ = flat_map spelling a.served.requests ++ a.served.rest in
    let same : taken ++ left ≡ text ++ left = taken_of start.left now.left (taken ++ left) left text o n a.served.course.takes in
    let count : length taken ≡ length text = omega (arith, ap length same, length-append taken left, length-append text left) in (
      λ h. count ∙ passed limit start now a.served.requests a.served.replies a.served.rest a.served.out a.served.held a.status a.served.ends (sym a.is ∙ h),
      λ h. a.is ∙ passing limit start now a.served.requests a.served.replies a.served.rest a.served.out a.served.held a.status a.served.ends (sym count ∙ h),
    )

-- a run that ended by itself took all, and all of it was requests
whole : (limit : ℕ) (start now : Moment) (requests : List Request) (replies : List Reply) (rest out : List ℕ) (held : Held) (status : Status) → Ends limit start now requests replies rest out held status → (code status ≡ 0) ⊎ (code status ≡ 1) → (rest ≡ []) × IsEnd now.left
whole limit start now requests replies rest out held Done e h = (e.1, e.2)
whole limit start now requests replies rest out held Refusals e h = (e.1, e.2)
whole limit start now requests replies rest out held Malformed e (inl h) = cc
whole limit start now requests replies rest out held Malformed e (inr h) = cc
whole limit start now requests replies rest out held ReadFault e (inl h) = cc
whole limit start now requests replies rest out held ReadFault e (inr h) = cc
whole limit start now requests replies rest out held WriteFault e (inl h) = cc
whole limit start now requests replies rest out held WriteFault e (inr h) = cc
whole limit start now requests replies rest out held NoMemory e (inl h) = cc
whole limit start now requests replies rest out held NoMemory e (inr h) = cc
whole limit start now requests replies rest out held BadWords e h = absurd e
whole limit start now requests replies rest out held StoreFault e (inl h) = cc
whole limit start now requests replies rest out held StoreFault e (inr h) = cc
whole limit start now requests replies rest out held TooLong e (inl h) = cc
whole limit start now requests replies rest out held TooLong e (inr h) = cc

of_status : (number : ℕ) (status : Status) → number ≡ code status → (number ≡ 0) ⊎ (number ≡ 1) → (code status ≡ 0) ⊎ (code status ≡ 1)
of_status number status is (inl h) = inl (sym is ∙ h)
of_status number status is (inr h) = inr (sym is ∙ h)

-- a run that ended by itself read all, and all of it was its requests
all_read : (limit : ℕ) (start now : Moment) (number : ℕ) (bytes : List ℕ) → (a : Answers limit start now number) → start.left ≡ Some bytes → (number ≡ 0) ⊎ (number ≡ 1) → (now.left ≡ Some []) × (bytes ≡ flat_map spelling a.served.requests)
all_read limit start now number bytes a o h =
    let w = whole limit start now a.served.requests a.served.replies a.served.rest a.served.out a.served.held a.status a.served.ends (of_status number a.status a.is h) in
    let left = told_left start.left now.left bytes (flat_map spelling a.served.requests ++ a.served.rest) o a.served.course.takes in
    let none : left.0 ≡ [] = subst IsEnd left.1 w.1 in
    let ended : now.left ≡ Some [] = left.1 ∙ ap Some none in
    let same : bytes ≡ (flat_map spelling a.served.requests ++ a.served.rest) ++ [] = taken_of start.left now.left bytes [] (flat_map spelling a.served.requests ++ a.served.rest) o ended a.served.course.takes in
    let all : bytes ≡ flat_map spelling a.served.requests = same ∙ append-nil (flat_map spelling a.served.requests ++ a.served.rest) ∙ ap (λ (r : List ℕ). flat_map spelling a.served.requests ++ r) w.0 ∙ append-nil (flat_map spelling a.served.requests) in
    (ended, all)

pub whole_script : (limit : ℕ) (start now : Moment) (number : ℕ) (bytes : List ℕ) → Answers limit start now number → start.left ≡ Some bytes → (number ≡ 0) ⊎ (number ≡ 1)
    → (now.left ≡ Some []) × ((requests : List Request) × IsScript start.held.store.hash bytes requests)
whole_script limit start now number bytes a o h =
    let all = all_read limit start now number bytes a o h in
    (all.0, (a.served.requests, record { each = a.served.course.each; whole = all.1 }))

-- bytes that go wrong go wrong with all that is behind them
bad_on : (reads : ReadsOnce) (hash : HashKind) (rest left : List ℕ) (newlines : ℕ) → IsBad hash rest (IsEnd (Some left)) newlines → HasNoRequest hash (rest ++ left)
bad_on reads hash rest left newlines h = go h.more h.split h.stops
  where
    go : (more : List ℕ) → rest ≡ h.front ++ more → StopsAt hash (IsEnd (Some left)) h.front more → HasNoRequest hash (rest ++ left)
    go [] split stops = subst (HasNoRequest hash) (sym (ap (λ (l : List ℕ). rest ++ l) stops.0 ∙ append-nil rest)) (reads.bad hash rest (Some left) newlines h)
    go (b ∷ more) split stops = reads.bad hash (rest ++ left) (Some left) newlines (record {
      front = h.front;
      more = b ∷ (more ++ left);
      split = ap (λ (l : List ℕ). l ++ left) split ∙ append_assoc h.front (b ∷ more) left;
      begins = h.begins;
      count = h.count;
      stops = stops;
    })

nil_front : (xs ys : List ℕ) → xs ++ ys ≡ [] → xs ≡ []
nil_front [] ys e = refl
nil_front (x ∷ xs) ys e = cc

nil_back : (xs ys : List ℕ) → xs ++ ys ≡ [] → ys ≡ []
nil_back [] ys e = e
nil_back (x ∷ xs) ys e = cc

-- no bytes do not go wrong
nothing_bad : (hash : HashKind) (rest : List ℕ) (ends : Type 0) (newlines : ℕ) → rest ≡ [] → IsBad hash rest ends newlines → ⊥
nothing_bad hash rest ends newlines none h = go h.more (nil_back h.front h.more (sym h.split ∙ none)) h.stops
  where
    go : (more : List ℕ) → more ≡ [] → StopsAt hash ends h.front more → ⊥
    go [] e stops = stops.1 (nil_front h.front h.more (sym h.split ∙ none))
    go (b ∷ more) e stops = cc

malformed : (limit : ℕ) (start now : Moment) (requests : List Request) (replies : List Reply) (rest out : List ℕ) (held : Held) (status : Status) → Ends limit start now requests replies rest out held status → code status ≡ 2 → (newlines : ℕ) × IsBad start.held.store.hash rest (IsEnd now.left) newlines
malformed limit start now requests replies rest out held Done e h = cc
malformed limit start now requests replies rest out held Refusals e h = cc
malformed limit start now requests replies rest out held Malformed e h = (e.1.0, e.1.1)
malformed limit start now requests replies rest out held ReadFault e h = cc
malformed limit start now requests replies rest out held WriteFault e h = cc
malformed limit start now requests replies rest out held NoMemory e h = cc
malformed limit start now requests replies rest out held BadWords e h = absurd e
malformed limit start now requests replies rest out held StoreFault e h = cc
malformed limit start now requests replies rest out held TooLong e h = cc

pub not_malformed : (reads : ReadsOnce) (limit : ℕ) (start now : Moment) (number : ℕ) (bytes : List ℕ) (requests : List Request) → Answers limit start now number → start.left ≡ Some bytes → IsScript start.held.store.hash bytes requests → number ≡ 2 → ⊥
not_malformed reads limit start now number bytes requests a o script h =
    let bad = malformed limit start now a.served.requests a.served.replies a.served.rest a.served.out a.served.held a.status a.served.ends (sym a.is ∙ h) in
    let left = told_left start.left now.left bytes (flat_map spelling a.served.requests ++ a.served.rest) o a.served.course.takes in
    let wrong : IsBad start.held.store.hash a.served.rest (IsEnd (Some left.0)) bad.0 = subst (λ (l : Option (List ℕ)). IsBad start.held.store.hash a.served.rest (IsEnd l) bad.0) left.1 bad.1 in
    let same : bytes ≡ (flat_map spelling a.served.requests ++ a.served.rest) ++ left.0 = taken_of start.left now.left bytes left.0 (flat_map spelling a.served.requests ++ a.served.rest) o left.1 a.served.course.takes in
    let both : flat_map spelling a.served.requests ++ (a.served.rest ++ left.0) ≡ flat_map spelling requests ++ [] = sym (append_assoc (flat_map spelling a.served.requests) a.served.rest left.0) ∙ sym same ∙ script.whole ∙ sym (append-nil (flat_map spelling requests)) in
    let one = reads.one start.held.store.hash a.served.requests requests (a.served.rest ++ left.0) [] a.served.course.each script.each (bad_on reads start.held.store.hash a.served.rest left.0 bad.0 wrong) (reads.nothing start.held.store.hash) both in
    nothing_bad start.held.store.hash a.served.rest (IsEnd (Some left.0)) bad.0 (nil_front a.served.rest left.0 one.1) wrong

pub answered : (reads : ReadsOnce) (laws : CallLaws) (limit : ℕ) (start now : Moment) (number : ℕ) (bytes : List ℕ) (requests : List Request) → Answers limit start now number → IsFaultless start now → start.left ≡ Some bytes → IsScript start.held.store.hash bytes requests → length bytes ≤ limit → (number ≡ 0) ⊎ ((number ≡ 1) ⊎ (number ≡ 5))
answered reads laws limit start now number bytes requests a f o script few = go (quiet laws limit start now number bytes a f o few)
  where
    go : (number ≡ 0) ⊎ ((number ≡ 1) ⊎ ((number ≡ 2) ⊎ (number ≡ 5))) → (number ≡ 0) ⊎ ((number ≡ 1) ⊎ (number ≡ 5))
    go (inl h) = inl h
    go (inr (inl h)) = inr (inl h)
    go (inr (inr (inl h))) = absurd (not_malformed reads limit start now number bytes requests a o script h)
    go (inr (inr (inr h))) = inr (inr h)

pub other_bytes : (laws : CallLaws) (limit : ℕ) (start now : Moment) (number : ℕ) (bytes : List ℕ) → Answers limit start now number → IsFaultless start now → start.left ≡ Some bytes → ((requests : List Request) → IsScript start.held.store.hash bytes requests → ⊥) → length bytes ≤ limit → (number ≡ 2) ⊎ (number ≡ 5)
other_bytes laws limit start now number bytes a f o none few = go (quiet laws limit start now number bytes a f o few)
  where
    script_of : (number ≡ 0) ⊎ (number ≡ 1) → ⊥
    script_of h = let w = whole_script limit start now number bytes a o h in none w.1.0 w.1.1

    go : (number ≡ 0) ⊎ ((number ≡ 1) ⊎ ((number ≡ 2) ⊎ (number ≡ 5))) → (number ≡ 2) ⊎ (number ≡ 5)
    go (inl h) = absurd (script_of (inl h))
    go (inr (inl h)) = absurd (script_of (inr h))
    go (inr (inr h)) = h

-- a reply that was no `ok`
refused_some : (limit : ℕ) (start now : Moment) (requests : List Request) (replies : List Reply) (rest out : List ℕ) (held : Held) (status : Status) → Ends limit start now requests replies rest out held status → code status ≡ 1 → all_accepted replies ≡ false
refused_some limit start now requests replies rest out held Done e h = cc
refused_some limit start now requests replies rest out held Refusals e h = e.5
refused_some limit start now requests replies rest out held Malformed e h = cc
refused_some limit start now requests replies rest out held ReadFault e h = cc
refused_some limit start now requests replies rest out held WriteFault e h = cc
refused_some limit start now requests replies rest out held NoMemory e h = cc
refused_some limit start now requests replies rest out held BadWords e h = absurd e
refused_some limit start now requests replies rest out held StoreFault e h = cc
refused_some limit start now requests replies rest out held TooLong e h = cc

true_not_false : (b : Bool) → b ≡ true → b ≡ false → ⊥
true_not_false b p q = cc

-- the requests of a run that ended by itself are those of the script
same_requests : (reads : ReadsOnce) (limit : ℕ) (start now : Moment) (number : ℕ) (bytes : List ℕ) (requests : List Request) → (a : Answers limit start now number) → start.left ≡ Some bytes → IsScript start.held.store.hash bytes requests → (number ≡ 0) ⊎ (number ≡ 1) → a.served.requests ≡ requests
same_requests reads limit start now number bytes requests a o script h =
    let all = all_read limit start now number bytes a o h in
    let both : flat_map spelling a.served.requests ++ [] ≡ flat_map spelling requests ++ [] = ap (λ (l : List ℕ). l ++ []) (sym all.1 ∙ script.whole) in
    (reads.one start.held.store.hash a.served.requests requests [] [] a.served.course.each script.each (reads.nothing start.held.store.hash) (reads.nothing start.held.store.hash) both).0

pub valid_requests : ReadsOnce → CallLaws → (limit : ℕ) (start now : Moment) (number : ℕ) (bytes : List ℕ) (requests : List Request) (state : State) → Answers limit start now number → IsFaultless start now → start.left ≡ Some bytes → IsScript start.held.store.hash bytes requests → length bytes ≤ limit → state_of start.held.store ≡ Some state → AreValid (record { settings = start.held.settings; state = state }) requests → (number ≡ 0) ⊎ (number ≡ 5)
valid_requests reads laws limit start now number bytes requests state a f o script few told valid = go (answered reads laws limit start now number bytes requests a f o script few)
  where
    some_refused : number ≡ 1 → ⊥
    some_refused h =
        let same = same_requests reads limit start now number bytes requests a o script (inr h) in
        let valid_run = subst (AreValid (record { settings = start.held.settings; state = state })) (sym same) valid in
        true_not_false (all_accepted a.served.replies) (valid_accepted laws state start.held a.served.held a.served.requests a.served.replies told valid_run a.served.machine)
        (refused_some limit start now a.served.requests a.served.replies a.served.rest a.served.out a.served.held a.status a.served.ends (sym a.is ∙ h))

    go : (number ≡ 0) ⊎ ((number ≡ 1) ⊎ (number ≡ 5)) → (number ≡ 0) ⊎ (number ≡ 5)
    go (inl h) = inl h
    go (inr (inl h)) = absurd (some_refused h)
    go (inr (inr h)) = inr h
