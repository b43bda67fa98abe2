-- The one way in which letters begin with a piece.
use Rattle.std.proofs.Common.{◌≡◌, ℕ, ◌==◌, Bool, true, false, not, cond, ◌||◌, List, [], ◌∷◌, ◌++◌, Option, Some, None, unwrap_or, refl, ap, sym, ◌∙◌, inl, inr, arith, eqb-true, eq-eqb}
use Rattle.std.specs.List.{list_any}
use Rattle.std.proofs.lemmas.Bool.{cases_Bool, or_parts, not-true, false≢true}
use Rattle.gx_rules.specs.Pattern.{Letter, Bare, Escaped, Piece, Plain, AnyByte, AnyBytes, OneOf, NoneOf, byte_of, is_bare, is_negation, AreMembers, begins_negated, holds, Begins, Takes}
use Rattle.gx_rules.specs.PatternReading.{in_front, closed, parts_hold, set_holds, set_takes, negated, kept, taken}
use Rattle.gx_rules.proofs.PatternSets.{closed-bracket, closed-member}

pub none_some : {A : Type 0} (x : A) → None ≡ Some x → ⊥
none_some x h = cc

-- what is in equal options is equal
pub lefts : {A B : Type 0} (p q : A × B) → Some p ≡ Some q → p.0 ≡ q.0
lefts {A} {B} p q h = ap (λ (o : Option (A × B)). (unwrap_or o p).0) h

pub rights : {A B : Type 0} (p q : A × B) → Some p ≡ Some q → p.1 ≡ q.1
rights {A} {B} p q h = ap (λ (o : Option (A × B)). (unwrap_or o p).1) h

-- a letter that is the byte, with its meaning
pub bare_is : (byte : ℕ) (letter : Letter) → is_bare byte letter ≡ true → letter ≡ Bare byte
bare_is byte (Bare other) h = ap Bare (eqb-true other byte h)
bare_is byte (Escaped other) h = absurd (false≢true h)

-- letters without a bracket, a bracket and a rest are closed there
pub closed-of : (members rest : List Letter) → list_any (is_bare 93) members ≡ false → closed (members ++ Bare 93 ∷ rest) ≡ Some (members, rest)
closed-of [] rest h = closed-bracket (Bare 93) rest refl
closed-of (first ∷ more) rest h =
    let parts = or_parts (is_bare 93 first) (list_any (is_bare 93) more) h in
    rw (closed-member first (more ++ Bare 93 ∷ rest) parts.0, closed-of more rest parts.1) refl

-- what is closed is letters without a bracket, and a bracket after them
record IsClosed (all members rest : List Letter) : Type 0 where
  free : list_any (is_bare 93) members ≡ false
  same : all ≡ members ++ Bare 93 ∷ rest

-- what has a letter in front has it in front of what is closed
record InFront (letter : Letter) (found : Option (List Letter × List Letter)) (members rest : List Letter) : Type 0 where
  inner : List Letter
  found_is : found ≡ Some (inner, rest)
  members_are : members ≡ letter ∷ inner

in_front-some : (letter : Letter) (found : Option (List Letter × List Letter)) (members rest : List Letter) → in_front letter found ≡ Some (members, rest) → InFront letter found members rest
in_front-some letter None members rest h = absurd (none_some _ h)
in_front-some letter (Some parts) members rest h = record {
  inner = parts.0;
  found_is = ap (λ r. Some (parts.0, r)) (rights (letter ∷ parts.0, parts.1) (members, rest) h);
  members_are = sym (lefts (letter ∷ parts.0, parts.1) (members, rest) h);
}

closed-some : (all members rest : List Letter) → closed all ≡ Some (members, rest) → IsClosed all members rest
unfolding closed
closed-some [] members rest h = absurd (none_some _ h)
closed-some (letter ∷ all) members rest h =
    elim (cases_Bool (is_bare 93 letter)) [
      | inl bracket ↦
          let e : Some ([], all) ≡ Some (members, rest) = sym (closed-bracket letter all bracket) ∙ h in
          let none : members ≡ [] = sym (lefts ([], all) (members, rest) e) in
          let same : all ≡ rest = rights ([], all) (members, rest) e in
          let is : letter ≡ Bare 93 = bare_is 93 letter bracket in
          record { free = rw none refl; same = rw none (ap (λ first. first ∷ all) is ∙ ap (λ more. Bare 93 ∷ more) same) }
      | inr member ↦
          let front = in_front-some letter (closed all) members rest (sym (closed-member letter all member) ∙ h) in
          let inner = closed-some all front.inner rest front.found_is in
          record {
            free = rw (front.members_are, member) inner.free;
            same = rw front.members_are (ap (λ more. letter ∷ more) inner.same);
          }
    ]

-- the set that letters begin with, as far as its bracket
record HasHeld (all rest : List Letter) (byte : ℕ) (held : Bool) : Type 0 where
  members : List Letter
  are : AreMembers members
  same : all ≡ members ++ Bare 93 ∷ rest
  holds_is : holds members byte ≡ held

parts_hold-some : (byte : ℕ) (held : Bool) (rest : List Letter) (found : Option (List Letter × List Letter)) → parts_hold byte found ≡ Some (held, rest) → (members : List Letter) × (found ≡ Some (members, rest)) × (holds members byte ≡ held)
parts_hold-some byte held rest None h = absurd (none_some _ h)
parts_hold-some byte held rest (Some parts) h =
    (parts.0, ap (λ r. Some (parts.0, r)) (rights (holds parts.0 byte, parts.1) (held, rest) h), lefts (holds parts.0 byte, parts.1) (held, rest) h)

set_holds-some : (all rest : List Letter) (byte : ℕ) (held : Bool) → set_holds all byte ≡ Some (held, rest) → HasHeld all rest byte held
unfolding set_holds
set_holds-some [] rest byte held h = absurd (none_some _ h)
set_holds-some (first ∷ all) rest byte held h =
    let found = parts_hold-some byte held rest (in_front first (closed all)) h in
    let front = in_front-some first (closed all) found.0 rest found.1 in
    let inner = closed-some all front.inner rest front.found_is in
    record {
      members = first ∷ front.inner;
      are = inner.free;
      same = ap (λ more. first ∷ more) inner.same;
      holds_is = rw (sym front.members_are) found.2;
    }

set_holds-of : (first : Letter) (more rest : List Letter) (byte : ℕ) → list_any (is_bare 93) more ≡ false → set_holds (first ∷ (more ++ Bare 93 ∷ rest)) byte ≡ Some (holds (first ∷ more) byte, rest)
unfolding set_holds
set_holds-of first more rest byte h = rw (closed-of more rest h) refl

set_takes-plain : (first : Letter) (all : List Letter) (byte : ℕ) → is_negation first ≡ false → set_takes (first ∷ all) byte ≡ set_holds (first ∷ all) byte
unfolding set_takes
set_takes-plain first all byte h = rw (h, set_takes) refl

set_takes-negated : (sign : Letter) (all : List Letter) (byte : ℕ) → is_negation sign ≡ true → set_takes (sign ∷ all) byte ≡ negated (set_holds all byte)
unfolding set_takes
set_takes-negated sign all byte h = rw (h, set_takes) refl

negated-some : (found : Option (Bool × List Letter)) (rest : List Letter) → negated found ≡ Some (true, rest) → found ≡ Some (false, rest)
negated-some None rest h = absurd (none_some _ h)
negated-some (Some found) rest h =
    let no = not-true found.0 (lefts (not found.0, found.1) (true, rest) h) in
    let same = rights (not found.0, found.1) (true, rest) h in
    ap (λ r. Some (found.0, r)) same ∙ ap (λ held. Some (held, rest)) no

kept-some : (found : Option (Bool × List Letter)) (rest : List Letter) → kept found ≡ Some rest → found ≡ Some (true, rest)
kept-some None rest h = absurd (none_some _ h)
kept-some (Some found) rest h =
    elim (cases_Bool found.0) [
      | inl yes_ ↦
          let e : Some found.1 ≡ Some rest = sym (ap (λ held. cond held (Some found.1) None) yes_) ∙ h in
          ap (λ r. Some (found.0, r)) (ap (λ o. unwrap_or o rest) e) ∙ ap (λ held. Some (held, rest)) yes_
      | inr no_ ↦ absurd (none_some rest (sym (ap (λ held. cond held (Some found.1) None) no_) ∙ h))
    ]

-- whether a piece other than `*` takes the byte
abbrev pub takes : Piece → ℕ → Bool
takes (Plain letter) byte = byte_of letter == byte
takes AnyByte byte = true
takes AnyBytes byte = false
takes (OneOf members) byte = holds members byte
takes (NoneOf members) byte = not (holds members byte)

abbrev pub is_one : Piece → Bool
is_one (Plain letter) = true
is_one AnyByte = true
is_one AnyBytes = false
is_one (OneOf members) = true
is_one (NoneOf members) = true

-- letters that begin with a piece are read as it
pub taken-begins : (piece : Piece) (all rest : List Letter) (byte : ℕ) → is_one piece ≡ true → Begins piece all rest → taken all byte ≡ cond (takes piece byte) (Some rest) None
unfolding Begins taken
taken-begins (Plain letter) all rest byte one h =
    let stars = or_parts (is_bare 42 letter) _ h.0 in
    let asks = or_parts (is_bare 63 letter) _ stars.1 in
    let sets = or_parts (is_bare 91 letter) _ asks.1 in
    let ends = or_parts (is_bare 92 letter) false sets.1 in
    rw (h.1, asks.0, sets.0, stars.0, ends.0, taken) refl
taken-begins AnyByte all rest byte one h = rw h refl
taken-begins AnyBytes all rest byte one h = absurd (false≢true one)
taken-begins (OneOf []) all rest byte one h = absurd h.0
taken-begins (OneOf (first ∷ more)) all rest byte one h =
    ap (λ x. taken x byte) h.2 ∙ ap kept (set_takes-plain first (more ++ Bare 93 ∷ rest) byte h.1 ∙ set_holds-of first more rest byte h.0)
taken-begins (NoneOf []) all rest byte one h = absurd h.1
taken-begins (NoneOf (first ∷ more)) all rest byte one h =
    ap (λ x. taken x byte) h.3 ∙ ap kept (set_takes-negated h.0 (first ∷ (more ++ Bare 93 ∷ rest)) byte h.2 ∙ ap negated (set_holds-of first more rest byte h.1))

-- what is read as a piece that takes the byte
pub record HasTaken (all rest : List Letter) (byte : ℕ) : Type 0 where
  pub piece : Piece
  pub begins : Begins piece all rest
  pub takes : Takes piece (byte ∷ [])

-- members that begin with a letter which is no sign
unnegated : (sign : Letter) (all rest members : List Letter) → AreMembers members → (sign ∷ all) ≡ (members ++ Bare 93 ∷ rest) → is_negation sign ≡ false → begins_negated members ≡ false
unnegated sign all rest [] are same h = absurd are
unnegated sign all rest (first ∷ more) are same h = let e : first ≡ sign = cc in rw e h

-- a set that takes the byte
set_taken : (letter : Letter) (all rest : List Letter) (byte : ℕ) → is_bare 91 letter ≡ true → set_takes all byte ≡ Some (true, rest) → HasTaken (letter ∷ all) rest byte
unfolding Begins Takes set_takes
set_taken letter [] rest byte bracket h = absurd (none_some _ h)
set_taken letter (sign ∷ all) rest byte bracket h =
    let is = bare_is 91 letter bracket in
    elim (cases_Bool (is_negation sign)) [
      | inl negation ↦
          let found = negated-some (set_holds all byte) rest (sym (set_takes-negated sign all byte negation) ∙ h) in
          let held = set_holds-some all rest byte false found in
          record {
            piece = NoneOf held.members;
            begins = (sign, held.are, negation, ap (λ first. first ∷ sign ∷ all) is ∙ ap (λ more. Bare 91 ∷ sign ∷ more) held.same);
            takes = (byte, refl, held.holds_is);
          }
      | inr plain ↦
          let held = set_holds-some (sign ∷ all) rest byte true (sym (set_takes-plain sign all byte plain) ∙ h) in
          record {
            piece = OneOf held.members;
            begins = (held.are, unnegated sign all rest held.members held.are held.same plain, ap (λ first. first ∷ sign ∷ all) is ∙ ap (λ more. Bare 91 ∷ more) held.same);
            takes = (byte, refl, held.holds_is);
          }
    ]

-- a letter that stands for its byte
byte_taken : (letter : Letter) (all rest : List Letter) (byte : ℕ) → is_bare 63 letter ≡ false → is_bare 91 letter ≡ false → cond (is_bare 42 letter || is_bare 92 letter) None (cond (byte_of letter == byte) (Some all) None) ≡ Some rest → HasTaken (letter ∷ all) rest byte
unfolding Begins Takes
byte_taken letter all rest byte no_ask no_bracket h =
    elim (cases_Bool (is_bare 42 letter || is_bare 92 letter)) [
      | inl special ↦ absurd (none_some rest (rw special at h))
      | inr plain ↦ elim (cases_Bool (byte_of letter == byte)) [
        | inl same ↦
            let parts = or_parts (is_bare 42 letter) (is_bare 92 letter) plain in
            let behind : all ≡ rest = ap (λ o. unwrap_or o rest) (rw (plain, same) at h) in
            record {
              piece = Plain letter;
              begins = (rw (parts.0, no_ask, no_bracket, parts.1) refl, ap (λ more. letter ∷ more) behind);
              takes = ap (λ b. b ∷ []) (sym (eqb-true (byte_of letter) byte same));
            }
        | inr other ↦ absurd (none_some rest (rw (plain, other) at h))
      ]
    ]

pub begins-taken : (all rest : List Letter) (byte : ℕ) → taken all byte ≡ Some rest → HasTaken all rest byte
unfolding Begins Takes taken
begins-taken [] rest byte h = absurd (none_some _ h)
begins-taken (letter ∷ all) rest byte h =
    elim (cases_Bool (is_bare 63 letter)) [
      | inl ask ↦
          let same : all ≡ rest = ap (λ o. unwrap_or o rest) (rw (ask, taken) at h) in
          record { piece = AnyByte; begins = rw (bare_is 63 letter ask, same) refl; takes = refl }
      | inr no_ask ↦ elim (cases_Bool (is_bare 91 letter)) [
        | inl bracket ↦ set_taken letter all rest byte bracket (kept-some (set_takes all byte) rest (rw (no_ask, bracket, taken) at h))
        | inr no_bracket ↦ byte_taken letter all rest byte no_ask no_bracket (rw (no_ask, no_bracket, taken) at h)
      ]
    ]

-- a piece other than `*` takes one byte
pub record TakesOne (piece : Piece) (front : List ℕ) : Type 0 where
  pub byte : ℕ
  pub same : front ≡ byte ∷ []
  pub takes : takes piece byte ≡ true

pub takes_one : (piece : Piece) (front : List ℕ) → is_one piece ≡ true → Takes piece front → TakesOne piece front
unfolding Takes
takes_one (Plain letter) front one h = record { byte = byte_of letter; same = h; takes = eq-eqb (byte_of letter) (byte_of letter) refl }
takes_one AnyByte [] one h = absurd (omega (arith, h))
takes_one AnyByte (byte ∷ []) one h = record { byte = byte; same = refl; takes = refl }
takes_one AnyByte (byte ∷ other ∷ more) one h = absurd (omega (arith, h))
takes_one AnyBytes front one h = absurd (false≢true one)
takes_one (OneOf members) front one h = record { byte = h.0; same = h.1; takes = h.2 }
takes_one (NoneOf members) front one h = record { byte = h.0; same = h.1; takes = rw h.2 refl }
