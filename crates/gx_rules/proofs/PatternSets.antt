-- How a set of a pattern is read member by member.
use Rattle.std.proofs.Common.{◌≡◌, ℕ, ◌==◌, Bool, true, false, not, ◌&&◌, ◌||◌, List, [], ◌∷◌, Option, Some, None, refl, ap, inl, inr, eqb-true}
use Rattle.std.proofs.lemmas.Bool.{cases_Bool, and_parts, not-true}
use Rattle.gx_rules.specs.Pattern.{Letter, Bare, Escaped, byte_of, is_bare, holds}
use Rattle.gx_rules.specs.PatternReading.{in_front, closed, parts_hold, set_holds, or_held, spans, range_end, member_holds}

-- two members that may hold a byte are as one
pub or_held-or_held : (a b : Bool) (found : Option (Bool × List Letter)) → or_held a (or_held b found) ≡ or_held (a || b) found
or_held-or_held a b None = refl
or_held-or_held true b (Some found) = refl
or_held-or_held false b (Some found) = refl

pub or_held-false : (found : Option (Bool × List Letter)) → or_held false found ≡ found
or_held-false None = refl
or_held-false (Some found) = refl

pub closed-bracket : (letter : Letter) (all : List Letter) → is_bare 93 letter ≡ true → closed (letter ∷ all) ≡ Some ([], all)
unfolding closed
closed-bracket letter all h = rw (h, closed) refl

pub closed-member : (letter : Letter) (all : List Letter) → is_bare 93 letter ≡ false → closed (letter ∷ all) ≡ in_front letter (closed all)
unfolding closed
closed-member letter all h = rw (h, closed) refl

-- a bracket ends the set, which then has no more members
pub parts_hold-bracket : (letter : Letter) (all : List Letter) (byte : ℕ) → is_bare 93 letter ≡ true → parts_hold byte (closed (letter ∷ all)) ≡ Some (false, all)
unfolding holds
parts_hold-bracket letter all byte h = rw (closed-bracket letter all h) refl

-- any other letter is its next member
pub parts_hold-member : (letter : Letter) (all : List Letter) (byte : ℕ) → is_bare 93 letter ≡ false → parts_hold byte (closed (letter ∷ all)) ≡ set_holds (letter ∷ all) byte
unfolding set_holds
parts_hold-member letter all byte h = rw (closed-member letter all h) refl

or_false : (b : Bool) → b ≡ (b || false)
or_false true = refl
or_false false = refl

-- a dash is no bracket
dash_no_bracket : (letter : Letter) → is_bare 45 letter ≡ true → is_bare 93 letter ≡ false
dash_no_bracket (Bare byte) h = rw (eqb-true byte 45 h) refl
dash_no_bracket (Escaped byte) h = refl

-- a range and then the other members
holds-range : (first dash last : Letter) (more : List Letter) (byte : ℕ) → is_bare 45 dash ≡ true → holds (first ∷ dash ∷ last ∷ more) byte ≡ (spans (byte_of first) (byte_of last) byte || holds more byte)
unfolding holds
holds-range first dash last more byte h = rw (h, holds) refl

-- a letter and then the other members, of which no dash makes a range
holds-letter : (first dash last : Letter) (more : List Letter) (byte : ℕ) → is_bare 45 dash ≡ false → holds (first ∷ dash ∷ last ∷ more) byte ≡ (byte_of first == byte || holds (dash ∷ last ∷ more) byte)
unfolding holds
holds-letter first dash last more byte h = rw (h, holds) refl

range_end-some : (dash last : Letter) (all : List Letter) → is_bare 45 dash ≡ true → is_bare 93 last ≡ false → range_end (dash ∷ last ∷ all) ≡ Some (last, all)
unfolding range_end
range_end-some dash last all h k = rw (h, k, range_end) refl

range_end-none : (dash last : Letter) (all : List Letter) → (is_bare 45 dash && not (is_bare 93 last)) ≡ false → range_end (dash ∷ last ∷ all) ≡ None
unfolding range_end
range_end-none dash last all h = rw (h, range_end) refl

member_holds-single : (first : Letter) (all : List Letter) (byte : ℕ) → range_end all ≡ None → member_holds first all byte ≡ (byte_of first == byte, all)
unfolding member_holds
member_holds-single first all byte h = rw (h, member_holds) refl

member_holds-range : (first last : Letter) (all rest : List Letter) (byte : ℕ) → range_end all ≡ Some (last, rest) → member_holds first all byte ≡ (spans (byte_of first) (byte_of last) byte, rest)
unfolding member_holds
member_holds-range first last all rest byte h = rw (h, member_holds) refl

-- the set goes on as a member by itself and what follows
single : (first : Letter) (all : List Letter) (byte : ℕ) → range_end all ≡ None → parts_hold byte (in_front first (closed all)) ≡ or_held (byte_of first == byte) (parts_hold byte (closed all))
unfolding closed holds
single first [] byte h = refl
single first (dash ∷ []) byte h =
    elim (cases_Bool (is_bare 93 dash)) [
      | inl bracket ↦ rw (closed-bracket dash [] bracket) (ap (λ held. Some (held, [])) (or_false (byte_of first == byte)))
      | inr member ↦ rw (closed-member dash [] member) refl
    ]
single first (dash ∷ last ∷ all) byte h =
    elim (cases_Bool (is_bare 93 dash)) [
      | inl bracket ↦ rw (closed-bracket dash (last ∷ all) bracket) (ap (λ held. Some (held, last ∷ all)) (or_false (byte_of first == byte)))
      | inr member ↦ elim (cases_Bool (is_bare 93 last)) [
        | inl bracket ↦ rw (closed-member dash (last ∷ all) member, closed-bracket last all bracket) refl
        | inr further ↦ rw (closed-member dash (last ∷ all) member, closed-member last all further) (elim (cases_Bool (is_bare 45 dash)) [
          | inl is_dash ↦ absurd (let e = range_end-some dash last all is_dash further in cc)
          | inr no_dash ↦ elim (closed all) as (λ parts. parts_hold byte (in_front first (in_front dash (in_front last parts))) ≡ or_held (byte_of first == byte) (parts_hold byte (in_front dash (in_front last parts)))) [
            | None ↦ refl
            | Some parts ↦ ap (λ found. Some (found, parts.1)) (holds-letter first dash last parts.0 byte no_dash)
          ]
        ])
      ]
    ]

-- the set goes on as a range and what follows
range : (first dash last : Letter) (all : List Letter) (byte : ℕ) → is_bare 45 dash ≡ true → is_bare 93 last ≡ false → parts_hold byte (in_front first (closed (dash ∷ last ∷ all))) ≡ or_held (spans (byte_of first) (byte_of last) byte) (parts_hold byte (closed all))
range first dash last all byte h k =
    rw (closed-member dash (last ∷ all) (dash_no_bracket dash h), closed-member last all k)
    (elim (closed all) as (λ parts. parts_hold byte (in_front first (in_front dash (in_front last parts))) ≡ or_held (spans (byte_of first) (byte_of last) byte) (parts_hold byte parts)) [
      | None ↦ refl
      | Some parts ↦ ap (λ found. Some (found, parts.1)) (holds-range first dash last parts.0 byte h)
    ])

-- a set holds what its first member holds, and what the others do
pub set_holds-member : (first : Letter) (all : List Letter) (byte : ℕ) → set_holds (first ∷ all) byte ≡ or_held (member_holds first all byte).0 (parts_hold byte (closed (member_holds first all byte).1))
unfolding set_holds range_end
set_holds-member first [] byte = rw (member_holds-single first [] byte refl) (single first [] byte refl)
set_holds-member first (dash ∷ []) byte = rw (member_holds-single first (dash ∷ []) byte refl) (single first (dash ∷ []) byte refl)
set_holds-member first (dash ∷ last ∷ all) byte =
    elim (cases_Bool (is_bare 45 dash && not (is_bare 93 last))) [
      | inl both ↦
          let parts = and_parts (is_bare 45 dash) (not (is_bare 93 last)) both in
          let further = not-true (is_bare 93 last) parts.1 in
          rw (member_holds-range first last (dash ∷ last ∷ all) all byte (range_end-some dash last all parts.0 further)) (range first dash last all byte parts.0 further)
      | inr none ↦
          let alone = range_end-none dash last all none in
          rw (member_holds-single first (dash ∷ last ∷ all) byte alone) (single first (dash ∷ last ∷ all) byte alone)
    ]

pub set_holds-none : (all : List Letter) (byte : ℕ) → all ≡ [] → set_holds all byte ≡ None
unfolding set_holds
set_holds-none all byte h = rw h refl

pub parts_hold-none : (all : List Letter) (byte : ℕ) → all ≡ [] → parts_hold byte (closed all) ≡ None
unfolding closed
parts_hold-none all byte h = rw h refl

pub ruleset members = (set_holds-member, or_held-or_held, or_held-false, parts_hold-bracket, parts_hold-member, set_holds-none, parts_hold-none)
