-- Texts of a mailmap's line: where they are cut, trimmed, and end.
use Rattle.std.proofs.Common.{◌≡◌, ◌+◌, ◌-◌, ◌<◌, ◌≤◌, ◌∙◌, ◌==◌, ℕ, zero, suc, Bool, true, false, not, cond, Option, Some, None, option_map, unwrap_or, List, [], ◌∷◌, ◌++◌, length, take, drop, reverse, refl, sym, ap, inl, inr, arith, nat_lt, append_assoc, length-append, if◌then◌else◌}
use Rattle.std.specs.List.{find, list_all, position_or_len}
use Rattle.std.specs.Option.{option_map_or}
use Rattle.std.proofs.Math.Seq.{drop-length}
use Rattle.std.proofs.lemmas.Bool.{and_parts, and_from, cases_Bool, eq-eqb, eqb-true, lt-ltb, ltb-true, ne_eqb, not-true}
use Rattle.std.proofs.lemmas.List.{append-nil, drop-drop, drop_at, length-reverse, length-take, reverse-append, take_at}
use Rattle.std.proofs.lemmas.List.Folds.{position_or_len_push}
use Rattle.std.proofs.lemmas.List.Sums.{prefix_len-le-length}
use Rattle.gx_object.specs.Message.{is_space, is_no_space, trim_end, trim_start, unless_empty}
use Rattle.gx_object.specs.Split.{Lacks}
use Rattle.gx_actor.specs.LineReading.{cut, is_end}
use Rattle.gx_actor.specs.MailmapLine.{IsBlank, IsEnd, trim}

-- the first place of a byte
abbrev place : ℕ → List ℕ → ℕ
place byte text = position_or_len (λ b. b == byte) text

place_step : (byte c : ℕ) (text : List ℕ) (t : Bool) → (c == byte) ≡ t → place byte (c ∷ text) ≡ cond (not t) (1 + place byte text) 0
place_step byte c text t e = ap (λ u. cond (not u) (1 + place byte text) 0) e

one_more : (n m : ℕ) → n ≡ m → 1 + n ≡ suc m
one_more n m e = omega arith

place_front : (byte : ℕ) (front back : List ℕ) → Lacks byte front → place byte (front ++ byte ∷ back) ≡ length front
place_front byte [] back lacks = place_step byte byte back true (eq-eqb byte byte refl)
place_front byte (c ∷ cs) back lacks =
    let parts = and_parts (not (c == byte)) (list_all (λ b. not (b == byte)) cs) lacks in
    place_step byte c (cs ++ byte ∷ back) false (not-true _ parts.0) ∙ one_more _ _ (place_front byte cs back parts.1)

place_lacks : (byte : ℕ) (text : List ℕ) → Lacks byte text → place byte text ≡ length text
place_lacks byte [] lacks = refl
place_lacks byte (c ∷ cs) lacks =
    let parts = and_parts (not (c == byte)) (list_all (λ b. not (b == byte)) cs) lacks in
    place_step byte c cs false (not-true _ parts.0) ∙ one_more _ _ (place_lacks byte cs parts.1)

-- what is before a place, and what is after its byte
abbrev cut_into : List ℕ → ℕ → List ℕ × List ℕ
cut_into text at = (take at text, drop (at + 1) text)

abbrev cut_by : List ℕ → Bool → ℕ → Option (List ℕ × List ℕ)
cut_by text t at = option_map (cut_into text) (cond t (Some at) None)

abbrev pair : List ℕ → List ℕ → Option (List ℕ × List ℕ)
pair front back = Some (front, back)

-- what is cut at a place
cut_at : (byte : ℕ) (text : List ℕ) (at : ℕ) → place byte text ≡ at → at < length text → cut byte text ≡ pair (take at text) (drop (at + 1) text)
cut_at byte text at here within =
    ap (λ n. cut_by text (nat_lt n (length text)) n) here ∙ ap (λ t. cut_by text t at) (lt-ltb at (length text) within)

same_pair : (a b x y : List ℕ) → a ≡ x → b ≡ y → pair a b ≡ pair x y
same_pair a b x y p q = ap (λ t. pair t b) p ∙ ap (pair x) q

-- a text is cut at the first such byte
pub cut_front : (byte : ℕ) (front back : List ℕ) → Lacks byte front → cut byte (front ++ byte ∷ back) ≡ pair front back
cut_front byte front back lacks =
    let within : length front < length (front ++ byte ∷ back) = omega (arith, length-append front (byte ∷ back)) in
    let behind : drop (length front + 1) (front ++ byte ∷ back) ≡ back = sym (drop-drop 1 (length front) (front ++ byte ∷ back)) ∙ ap (drop 1) (drop_at front (byte ∷ back) (length front) refl) in
    cut_at byte (front ++ byte ∷ back) (length front) (place_front byte front back lacks) within
    ∙ same_pair _ _ front back (take_at front (byte ∷ back) (length front) refl) behind

not_below : (n : ℕ) (t : Bool) → nat_lt n n ≡ t → t ≡ false
not_below n true e = let below = ltb-true n n e in absurd (omega arith)
not_below n false e = refl

-- and is not cut without one
pub cut_lacks : (byte : ℕ) (text : List ℕ) → Lacks byte text → cut byte text ≡ None
cut_lacks byte text lacks =
    ap (λ n. cut_by text (nat_lt n (length text)) n) (place_lacks byte text lacks)
    ∙ ap (λ t. cut_by text t (length text)) (not_below (length text) _ refl)

-- the text before the first such byte, and after it
pub record Cuts (byte : ℕ) (text front back : List ℕ) : Type 0 where
  pub is : text ≡ front ++ byte ∷ back
  pub lacks : Lacks byte front

cuts_step : (byte c : ℕ) (cs : List ℕ) (t : Bool) (at : ℕ) → (c == byte) ≡ t → cond (not t) (1 + place byte cs) 0 ≡ at → at < suc (length cs) → ((n : ℕ) → place byte cs ≡ n → n < length cs → Cuts byte cs (take n cs) (drop 1 (drop n cs))) → Cuts byte (c ∷ cs) (take at (c ∷ cs)) (drop 1 (drop at (c ∷ cs)))
cuts_step byte c cs true zero e here within rest = record { is = ap (λ x. x ∷ cs) (eqb-true c byte e); lacks = refl }
cuts_step byte c cs true (suc n) e here within rest = absurd (omega arith)
cuts_step byte c cs false zero e here within rest = absurd (omega arith)
cuts_step byte c cs false (suc n) e here within rest =
    let more = rest n (omega arith) (omega arith) in
    record { is = ap (λ x. c ∷ x) more.is; lacks = and_from (not (c == byte)) (list_all (λ b. not (b == byte)) (take n cs)) (ap not e) more.lacks }

cuts_at : (byte : ℕ) (text : List ℕ) (at : ℕ) → place byte text ≡ at → at < length text → Cuts byte text (take at text) (drop 1 (drop at text))
cuts_at byte [] at here within = absurd (omega arith)
cuts_at byte (c ∷ cs) at here within = cuts_step byte c cs (c == byte) at refl here within (λ n. cuts_at byte cs n)

cut_cases : (byte : ℕ) (text front back : List ℕ) (t : Bool) → nat_lt (place byte text) (length text) ≡ t → cut_by text t (place byte text) ≡ pair front back → Cuts byte text front back
cut_cases byte text front back true within some =
    let here = cuts_at byte text (place byte text) refl (ltb-true _ _ within) in
    let before : take (place byte text) text ≡ front = ap (λ (o : Option (List ℕ × List ℕ)). (unwrap_or o (front, back)).0) some in
    let behind : drop (place byte text + 1) text ≡ back = ap (λ (o : Option (List ℕ × List ℕ)). (unwrap_or o (front, back)).1) some in
    let behind_too : drop 1 (drop (place byte text) text) ≡ back = drop-drop 1 (place byte text) text ∙ behind in
    record { is = here.is ∙ ap (λ x. x ++ byte ∷ drop 1 (drop (place byte text) text)) before ∙ ap (λ x. front ++ byte ∷ x) behind_too; lacks = rw before at here.lacks }
cut_cases byte text front back false within some = cc

-- what is cut is as it was
pub cut_parts : (byte : ℕ) (text front back : List ℕ) → cut byte text ≡ pair front back → Cuts byte text front back
cut_parts byte text front back some = cut_cases byte text front back _ refl some

-- White space is trimmed away, and nothing else is.
blank_place : (text : List ℕ) → IsBlank text → position_or_len is_no_space text ≡ length text
blank_place [] blank = refl
blank_place (c ∷ cs) blank =
    let parts = and_parts (is_space c) (list_all is_space cs) blank in
    ap (λ t. cond (not (not t)) (1 + position_or_len is_no_space cs) 0) parts.0 ∙ one_more _ _ (blank_place cs parts.1)

pub blank_trims : (text : List ℕ) → IsBlank text → trim text ≡ []
blank_trims text blank = ap trim_end (ap (λ n. drop n text) (blank_place text blank) ∙ drop-length text)

push_bound : (k n : ℕ) (t u : Bool) → u ≡ true → k ≤ n → cond t (n + cond u 0 1) k ≤ n
push_bound k n true true e most = omega arith
push_bound k n true false e most = cc
push_bound k n false u e most = most

-- the first byte is not trimmed at the end
first_stays : (c : ℕ) (cs : List ℕ) → is_space c ≡ false → position_or_len is_no_space (reverse (c ∷ cs)) ≤ length cs
first_stays c cs text =
    let whole : reverse (c ∷ cs) ≡ reverse cs ++ c ∷ [] = reverse-append (c ∷ []) cs in
    let push = position_or_len_push is_no_space (reverse cs) c in
    let most = prefix_len-le-length (λ b. not (is_no_space b)) (reverse cs) in
    let bound = push_bound (position_or_len is_no_space (reverse cs)) (length (reverse cs)) (position_or_len is_no_space (reverse cs) == length (reverse cs)) (is_no_space c) (ap not text) most in
    rw whole (rw push (omega (arith, bound, length-reverse cs)))

trimmed_some : (c : ℕ) (cs : List ℕ) → is_space c ≡ false → trim_end (c ∷ cs) ≡ [] → ⊥
trimmed_some c cs text none =
    let stays = first_stays c cs text in
    let e = ap length none in
    let l = length-take (suc (length cs) - position_or_len is_no_space (reverse (c ∷ cs))) (c ∷ cs) in
    omega arith

start_step : (c : ℕ) (cs : List ℕ) (t : Bool) → is_space c ≡ t → trim_start (c ∷ cs) ≡ drop (cond (not (not t)) (1 + position_or_len is_no_space cs) 0) (c ∷ cs)
start_step c cs t e = ap (λ u. drop (cond (not (not u)) (1 + position_or_len is_no_space cs) 0) (c ∷ cs)) e

start_more : (c : ℕ) (cs : List ℕ) → is_space c ≡ true → trim_start (c ∷ cs) ≡ trim_start cs
start_more c cs space = start_step c cs true space ∙ ap (λ n. drop n (c ∷ cs)) (one_more (position_or_len is_no_space cs) _ refl)

trim_step : (c : ℕ) (cs : List ℕ) (t : Bool) → is_space c ≡ t → (trim cs ≡ [] → IsBlank cs) → trim (c ∷ cs) ≡ [] → IsBlank (c ∷ cs)
trim_step c cs true space rest none = and_from (is_space c) (list_all is_space cs) space (rest (sym (ap trim_end (start_more c cs space)) ∙ none))
trim_step c cs false text rest none = absurd (trimmed_some c cs text (sym (ap trim_end (start_step c cs false text)) ∙ none))

pub trim_blank : (text : List ℕ) → trim text ≡ [] → IsBlank text
trim_blank [] none = refl
trim_blank (c ∷ cs) none = trim_step c cs _ refl (trim_blank cs) none

-- a text with a byte is there
pub named : (text name : List ℕ) → text ≡ name → 0 < length name → unless_empty text ≡ Some name
named text name same some =
    let e = ap length same in
    let test : (length text == 0) ≡ false = ne_eqb (length text) 0 (λ none. omega arith) in
    ap (λ t. if t then None else Some text) test ∙ ap (λ x. Some x) same

pub record IsText (text name : List ℕ) : Type 0 where
  pub same : text ≡ name
  pub some : 0 < length name

unless_cases : (text name : List ℕ) (t : Bool) → (length text == 0) ≡ t → (if t then None else Some text) ≡ Some name → IsText text name
unless_cases text name true e some = cc
unless_cases text name false e some =
    let same : text ≡ name = cc in
    let positive : 0 < length text = elim (cases_Bool (length text == 0)) [
      | inl none ↦ cc
      | inr more ↦ above (length text) more
    ] in
    record { same = same; some = rw same at positive }
  where
    above : (n : ℕ) → (n == 0) ≡ false → 0 < n
    above zero e = cc
    above (suc n) e = omega arith

pub is_named : (text name : List ℕ) → unless_empty text ≡ Some name → IsText text name
is_named text name some = unless_cases text name _ refl some

nameless_cases : (text : List ℕ) (t : Bool) → (length text == 0) ≡ t → (if t then None else Some text) ≡ None → text ≡ []
nameless_cases [] t e none = refl
nameless_cases (c ∷ cs) true e none = let zero_long = eqb-true (length (c ∷ cs)) 0 e in absurd (omega arith)
nameless_cases (c ∷ cs) false e none = cc

pub is_nameless : (text : List ℕ) → unless_empty text ≡ None → text ≡ []
is_nameless text none = nameless_cases text _ refl none

pub blank_nameless : (text : List ℕ) → IsBlank text → unless_empty (trim text) ≡ None
blank_nameless text blank = ap unless_empty (blank_trims text blank)

-- White space before the end of a line is passed over.
find_more : (c : ℕ) (cs : List ℕ) → is_space c ≡ true → is_end (c ∷ cs) ≡ is_end cs
find_more c cs space = ap (λ t. option_map_or (λ b. b == 35) (cond (not t) (Some c) (find is_no_space cs)) true) space

find_here : (c : ℕ) (cs : List ℕ) → is_space c ≡ false → is_end (c ∷ cs) ≡ (c == 35)
find_here c cs text = ap (λ t. option_map_or (λ b. b == 35) (cond (not t) (Some c) (find is_no_space cs)) true) text

end_skips : (space text : List ℕ) → IsBlank space → is_end (space ++ text) ≡ is_end text
end_skips [] text blank = refl
end_skips (c ∷ cs) text blank =
    let parts = and_parts (is_space c) (list_all is_space cs) blank in find_more c (cs ++ text) parts.0 ∙ end_skips cs text parts.1

pub end_holds : (text : List ℕ) → IsEnd text → is_end text ≡ true
end_holds text (inl blank) = ap is_end (sym (append-nil text)) ∙ end_skips text [] blank
end_holds text (inr comment) = ap is_end comment.2 ∙ end_skips comment.0 (35 ∷ comment.1) comment.3

end_more : (c : ℕ) (cs : List ℕ) → is_space c ≡ true → IsEnd cs → IsEnd (c ∷ cs)
end_more c cs space (inl blank) = inl (and_from (is_space c) (list_all is_space cs) space blank)
end_more c cs space (inr comment) = inr (c ∷ comment.0, comment.1, ap (λ x. c ∷ x) comment.2, and_from (is_space c) (list_all is_space comment.0) space comment.3)

end_step : (c : ℕ) (cs : List ℕ) (t : Bool) → is_space c ≡ t → (is_end cs ≡ true → IsEnd cs) → is_end (c ∷ cs) ≡ true → IsEnd (c ∷ cs)
end_step c cs true space rest end = end_more c cs space (rest (sym (find_more c cs space) ∙ end))
end_step c cs false text rest end = inr ([], cs, ap (λ x. x ∷ cs) (eqb-true c 35 (sym (find_here c cs text) ∙ end)), refl)

pub end_is : (text : List ℕ) → is_end text ≡ true → IsEnd text
end_is [] end = inl refl
end_is (c ∷ cs) end = end_step c cs _ refl (end_is cs) end

-- A line goes on where an email is opened after white space, or after a name.
pub blank_opens : (space more : List ℕ) → IsBlank space → is_end (space ++ 60 ∷ more) ≡ false
blank_opens space more blank = end_skips space (60 ∷ more) blank

open_step : (c : ℕ) (cs more : List ℕ) (t : Bool) → is_space c ≡ t → (¬ IsEnd cs → is_end (cs ++ 60 ∷ more) ≡ false) → ¬ IsEnd (c ∷ cs) → is_end (c ∷ cs ++ 60 ∷ more) ≡ false
open_step c cs more true space rest opens = find_more c (cs ++ 60 ∷ more) space ∙ rest (λ end. opens (end_more c cs space end))
open_step c cs more false text rest opens =
    elim (cases_Bool (c == 35)) [
      | inl mark ↦ absurd (opens (inr ([], cs, ap (λ x. x ∷ cs) (eqb-true c 35 mark), refl)))
      | inr other ↦ find_here c (cs ++ 60 ∷ more) text ∙ other
    ]

pub name_opens : (text more : List ℕ) → ¬ IsEnd text → is_end (text ++ 60 ∷ more) ≡ false
name_opens [] more opens = absurd (opens (inl refl))
name_opens (c ∷ cs) more opens = open_step c cs more _ refl (name_opens cs more) opens

-- and where it goes on after a name, that is no comment
pub opens_name : (text more name : List ℕ) → is_end (text ++ more) ≡ false → unless_empty (trim text) ≡ Some name → ¬ IsEnd text
opens_name text more name opens some (inl blank) = let none = blank_nameless text blank in cc
opens_name text more name opens some (inr comment) =
    let regrouped : text ++ more ≡ comment.0 ++ 35 ∷ (comment.1 ++ more) = ap (λ x. x ++ more) comment.2 ∙ append_assoc comment.0 (35 ∷ comment.1) more in
    let end : is_end (text ++ more) ≡ true = ap is_end regrouped ∙ end_skips comment.0 (35 ∷ (comment.1 ++ more)) comment.3 in
    cc

-- white space has no bracket
space_step : (c : ℕ) (t : Bool) → (c == 60) ≡ t → is_space c ≡ true → not t ≡ true
space_step c true e space = let is : c ≡ 60 = eqb-true c 60 e in let same : is_space c ≡ is_space 60 = ap is_space is in cc
space_step c false e space = refl

pub blank_lacks : (text : List ℕ) → IsBlank text → Lacks 60 text
blank_lacks [] blank = refl
blank_lacks (c ∷ cs) blank =
    let parts = and_parts (is_space c) (list_all is_space cs) blank in
    and_from (not (c == 60)) (list_all (λ b. not (b == 60)) cs) (space_step c _ refl parts.0) (blank_lacks cs parts.1)
