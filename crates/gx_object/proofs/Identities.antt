-- How identities are split.
use Rattle.std.proofs.Common.{◌≡◌, ◌≢◌, ◌<◌, ◌+◌, ◌-◌, ◌∙◌, ℕ, suc, Option, Some, None, List, [], ◌∷◌, ◌++◌, length, take, drop, get_or, MatchOption, unwrap_or, Bor, Contains, sym, ap, refl, inl, inr, arith}
use Rattle.std.proofs.lemmas.Bool.{eqb-true, eq-eqb, cases_order}
use Rattle.std.proofs.lemmas.List.{get_or_at, get_or-take, get_or-drop, get_or-append-add, length-take-le, length-drop, length-append, drop_more, take_at, take-append-drop, take-take, drop-take, drop-drop, get_or_default}
use Rattle.memchr.specs.Find.{Nowhere, NoneBefore, NoneAfter, Passes, is_byte}
use Rattle.gx_object.specs.IdentitySpelling.{IdentityText, SpellsIdentity, DropsSpaceBehind, DropsSpaceInFront}

passes : (b : ℕ) (text : List ℕ) (k : ℕ) → get_or text k 0 ≡ b → Passes (is_byte b) text k
passes b text k e = eq-eqb _ _ e

-- a text without a byte has it nowhere
pub nowhere_contains : (b : ℕ) (text : List ℕ) → Nowhere (Passes (is_byte b) text) 0 (length text) → Contains text b → ⊥
nowhere_contains b text nowhere (k, within, is) = nowhere k (omega arith) within (passes b text k (get_or_default text k 0 b within ∙ is))

-- in front of the first place of a byte there is none
pub none_in_front : (b : ℕ) (text : List ℕ) (at : ℕ) → NoneBefore (Passes (is_byte b) text) 0 (length text) at → Contains (take at text) b → ⊥
none_in_front b text at first (k, within, is) =
    let short : length (take at text) ≡ at = let high = first.high in length-take-le at text (omega arith) in
    let below : k < at = omega arith in
    let read : get_or text k 0 ≡ b = sym (get_or-take at text k 0 below) ∙ get_or_default (take at text) k 0 b within ∙ is in
    first.before k (omega arith) below (passes b text k read)

-- after the last place of a byte there is none
pub none_behind : (b : ℕ) (text : List ℕ) (at : ℕ) → NoneAfter (Passes (is_byte b) text) 0 (length text) at → Contains (drop (at + 1) text) b → ⊥
none_behind b text at last (k, within, is) =
    let room = length-drop (at + 1) text in
    let read : get_or text (at + 1 + k) 0 ≡ b = sym (get_or-drop (at + 1) text k 0) ∙ get_or_default (drop (at + 1) text) k 0 b within ∙ is in
    last.after (at + 1 + k) (omega arith) (omega arith) (passes b text (at + 1 + k) read)

contains_at : (front : List ℕ) (b : ℕ) (rest : List ℕ) → Contains (front ++ b ∷ rest) b
contains_at front b rest = let long = length-append front (b ∷ rest) in (length front, omega arith, get_or_at front b rest b (length front) refl)

-- the last `>` is the one that closes the brackets
closing : (front behind : List ℕ) (close : ℕ) → (Contains behind 62 → ⊥) → NoneAfter (Passes (is_byte 62) (front ++ 62 ∷ behind)) 0 (length (front ++ 62 ∷ behind)) close → Passes (is_byte 62) (front ++ 62 ∷ behind) close → close ≡ length front
closing front behind close none last here =
    let long = length-append front (62 ∷ behind) in
    let high = last.high in
    let there : Passes (is_byte 62) (front ++ 62 ∷ behind) (length front) = passes 62 (front ++ 62 ∷ behind) (length front) (get_or_at front 62 behind 0 (length front) refl) in
    elim (cases_order close (length front)) [
      | inl same ↦ same
      | inr apart ↦
          elim apart [
            | inl below ↦ absurd (last.after (length front) (omega arith) (omega arith) there)
            | inr above ↦
                let k : ℕ = close - length front - 1 in
                let place : close ≡ length front + suc k = omega arith in
                let read : get_or behind k 0 ≡ 62 = sym (get_or-append-add front (62 ∷ behind) (suc k) 0) ∙ ap (λ at. get_or (front ++ 62 ∷ behind) at 0) (sym place) ∙ eqb-true _ _ here in
                let within : k < length behind = omega arith in
                absurd (none (k, within, get_or_default behind k 62 0 within ∙ read))
          ]
    ]

-- an identity has a `>`
pub has_close : (line : List ℕ) (who : IdentityText) → SpellsIdentity line who → Contains line 62
has_close line who spelled = rw spelled.whole (contains_at (spelled.before ++ 60 ∷ who.email) 62 spelled.behind)

-- and in front of the last one a `<`
pub has_open : (line : List ℕ) (who : IdentityText) (close : ℕ) → SpellsIdentity line who → NoneAfter (Passes (is_byte 62) line) 0 (length line) close → Passes (is_byte 62) line close → Contains (take close line) 60
has_open line who close spelled last here =
    let front : List ℕ = spelled.before ++ 60 ∷ who.email in
    let place : close ≡ length front = closing front spelled.behind close spelled.closes (rw spelled.whole at last) (rw spelled.whole at here) in
    let cut : take close line ≡ front = ap (take close) spelled.whole ∙ take_at front (62 ∷ spelled.behind) close (sym place) in
    rw cut (contains_at spelled.before 60 who.email)

-- the text between the two brackets
pub bracketed : (line : List ℕ) (opening close : ℕ) → opening < close → close < length line → Passes (is_byte 62) line close → Passes (is_byte 60) (take close line) opening → line ≡ take opening line ++ 60 ∷ drop 1 (take (close - opening) (drop opening line)) ++ 62 ∷ drop (close + 1) line
bracketed line opening close order within here there =
    let front : List ℕ = take close line in
    let short : length front ≡ close = length-take-le close line (omega arith) in
    let behind : drop close line ≡ 62 ∷ drop (close + 1) line = drop_more line close 0 within ∙ ap (λ b. b ∷ drop (close + 1) line) (eqb-true _ _ here) in
    let sum : opening + (close - opening) ≡ close = omega arith in
    let cut : drop opening front ≡ take (close - opening) (drop opening line) = rw sum at (drop-take opening (close - opening) line) in
    let tail : drop (opening + 1) front ≡ drop 1 (take (close - opening) (drop opening line)) = sym (drop-drop 1 opening front) ∙ ap (drop 1) cut in
    let opened : drop opening front ≡ 60 ∷ drop (opening + 1) front = drop_more front opening 0 (omega arith) ∙ ap (λ b. b ∷ drop (opening + 1) front) (eqb-true _ _ there) in
    let name : take opening front ≡ take opening line = take-take opening close line (omega arith) in
    let parts : front ≡ take opening line ++ 60 ∷ drop 1 (take (close - opening) (drop opening line)) = sym (take-append-drop opening front) ∙ ap (λ x. x ++ drop opening front) name ∙ ap (λ x. take opening line ++ x) (opened ∙ ap (λ x. 60 ∷ x) tail) in
    sym (take-append-drop close line) ∙ ap (λ x. x ++ drop close line) parts ∙ ap (λ x. take opening line ++ 60 ∷ drop 1 (take (close - opening) (drop opening line)) ++ x) behind

pub drops_behind : (text space : List ℕ) (whole : Bor (List ℕ)) (r : Option (Bor (List ℕ))) → whole.now ≡ text → space ≡ 32 ∷ [] → MatchOption r ((front : List ℕ) → text ≢ front ++ space) (λ x. text ≡ x.now ++ space) → DropsSpaceBehind text (unwrap_or r whole).now
drops_behind text space whole None same one none = inr (sym same, λ more e. none more (e ∙ ap (λ s. more ++ s) (sym one)))
drops_behind text space whole (Some kept) same one some = inl (some ∙ ap (λ s. kept.now ++ s) one)

pub drops_in_front : (text space : List ℕ) (whole : Bor (List ℕ)) (r : Option (Bor (List ℕ))) → whole.now ≡ text → space ≡ 32 ∷ [] → MatchOption r ((rest : List ℕ) → text ≢ space ++ rest) (λ x. text ≡ space ++ x.now) → DropsSpaceInFront text (unwrap_or r whole).now
drops_in_front text space whole None same one none = inr (sym same, λ more e. none more (e ∙ ap (λ s. s ++ more) (sym one)))
drops_in_front text space whole (Some kept) same one some = inl (some ∙ ap (λ s. s ++ kept.now) one)

-- an identity's parts are those that the first `<` and the last `>` make
pub identity_by : (line name email time : List ℕ) (opening close : ℕ) → NoneAfter (Passes (is_byte 62) line) 0 (length line) close → Passes (is_byte 62) line close → NoneBefore (Passes (is_byte 60) (take close line)) 0 (length (take close line)) opening → Passes (is_byte 60) (take close line) opening → email ≡ drop 1 (take (close - opening) (drop opening line)) → DropsSpaceBehind (take opening line) name → DropsSpaceInFront (drop (close + 1) line) time → SpellsIdentity line (record { name = name; email = email; time = time })
identity_by line name email time opening close last here first there between front back =
    let within : close < length line = last.high in
    let short : length (take close line) ≡ close = length-take-le close line (omega arith) in
    let order : opening < close = let high = first.high in omega arith in
    let before : List ℕ = take opening line in
    let behind : List ℕ = drop (close + 1) line in
    let same : take opening (take close line) ≡ before = take-take opening close line (omega arith) in record {
      before = before;
      behind = behind;
      whole = bracketed line opening close order within here there ∙ ap (λ x. before ++ 60 ∷ x ++ 62 ∷ behind) (sym between);
      opens = rw same at (none_in_front 60 (take close line) opening first);
      closes = none_behind 62 line close last;
      name = front;
      time = back;
    }
