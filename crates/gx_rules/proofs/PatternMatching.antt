-- Why a walk that goes back to the last star alone finds each match.
use Rattle.std.proofs.Common.{zero, suc, ◌≡◌, ℕ, ◌+◌, ◌<◌, Bool, true, false, cond, ◌⊎◌, List, [], ◌∷◌, ◌++◌, Some, None, length, drop, unwrap_or, refl, ap, sym, ◌∙◌, inl, inr, arith, add-one, length-append}
use Rattle.std.proofs.lemmas.Bool.{cases_Bool, false≢true}
use Rattle.gx_rules.specs.Pattern.{Letter, Bare, Piece, Plain, AnyByte, AnyBytes, OneOf, NoneOf, is_bare, is_special, Begins, Spells, Takes, Matches, AreMatch}
use Rattle.gx_rules.specs.PatternReading.{taken, IsLater, Lives, Keeps}
use Rattle.gx_rules.proofs.PatternPieces.{none_some, bare_is, takes, is_one, taken-begins, begins-taken, takes_one}

-- letters that begin with two bytes of their own differ
differ : (byte : ℕ) (a b : Letter) (x y : List Letter) → (a ∷ x) ≡ (b ∷ y) → is_bare byte a ≡ true → is_bare byte b ≡ false → ⊥
differ byte a b x y e h k = let same : a ≡ b = cc in false≢true (sym k ∙ ap (is_bare byte) (sym same) ∙ h)

-- no letters match the empty name alone
nil_nil : AreMatch [] []
unfolding AreMatch Spells Matches
nil_nil = ([], refl, refl)

pub both_end : (all : List Letter) (name : List ℕ) → all ≡ [] → length name ≡ 0 → AreMatch all name
both_end all [] e h = rw e nil_nil
both_end all (byte ∷ name) e h = absurd (omega (arith, h))

nil_empty : (name : List ℕ) → AreMatch [] name → name ≡ []
unfolding AreMatch Spells Matches Begins
nil_empty name ([], spells, matches) = matches
nil_empty name (Plain letter ∷ pieces, spells, matches) = absurd (let e = spells.1.1 in cc)
nil_empty name (AnyByte ∷ pieces, spells, matches) = absurd (let e = spells.1 in cc)
nil_empty name (AnyBytes ∷ pieces, spells, matches) = absurd (let e = spells.1 in cc)
nil_empty name (OneOf members ∷ pieces, spells, matches) = absurd (let e = spells.1.2 in cc)
nil_empty name (NoneOf members ∷ pieces, spells, matches) = absurd (let e = spells.1.3 in cc)

-- a star takes no byte, or more of them
star_none : (all : List Letter) (name : List ℕ) → AreMatch all name → AreMatch (Bare 42 ∷ all) name
unfolding AreMatch Spells Matches Begins Takes
star_none all name h = (AnyBytes ∷ h.0, (all, refl, h.1), ([], name, refl, tt, h.2))

-- what letters that begin with a star match
record StarTakes (all : List Letter) (name : List ℕ) : Type 0 where
  front : List ℕ
  rest : List ℕ
  same : name ≡ front ++ rest
  match : AreMatch all rest

star_takes : (all : List Letter) (name : List ℕ) → AreMatch (Bare 42 ∷ all) name → StarTakes all name
unfolding AreMatch Spells Matches Begins
star_takes all name ([], spells, matches) = absurd (let e = spells in cc)
star_takes all name (Plain letter ∷ pieces, spells, matches) =
    let e = spells.1.1 in
    let same : letter ≡ Bare 42 = cc in
    absurd (false≢true (sym spells.1.0 ∙ ap is_special same))
star_takes all name (AnyByte ∷ pieces, spells, matches) = absurd (differ 42 (Bare 42) (Bare 63) all spells.0 spells.1 refl refl)
star_takes all name (AnyBytes ∷ pieces, spells, matches) =
    let e = spells.1 in
    let same : all ≡ spells.0 = cc in
    record { front = matches.0; rest = matches.1; same = matches.2; match = rw same (pieces, spells.2, matches.4) }
star_takes all name (OneOf members ∷ pieces, spells, matches) = absurd (differ 42 (Bare 42) (Bare 91) all _ spells.1.2 refl refl)
star_takes all name (NoneOf members ∷ pieces, spells, matches) = absurd (differ 42 (Bare 42) (Bare 91) all _ spells.1.3 refl refl)

star_any : (all : List Letter) (front rest : List ℕ) → AreMatch all rest → AreMatch (Bare 42 ∷ all) (front ++ rest)
unfolding AreMatch Spells Matches Begins Takes
star_any all front rest h = (AnyBytes ∷ h.0, (all, refl, h.1), (front, rest, refl, tt, h.2))

star_more : (all : List Letter) (byte : ℕ) (name : List ℕ) → AreMatch (Bare 42 ∷ all) name → AreMatch (Bare 42 ∷ all) (byte ∷ name)
star_more all byte name h =
    let star = star_takes all name h in
    rw star.same (star_any all (byte ∷ star.front) star.rest star.match)

star_drop : (k : ℕ) (all : List Letter) (name : List ℕ) → AreMatch (Bare 42 ∷ all) (drop k name) → AreMatch (Bare 42 ∷ all) name
star_drop zero all name h = h
star_drop (suc k) all [] h = h
star_drop (suc k) all (byte ∷ name) h = star_more all byte name (star_drop k all name h)

drop_front : (front rest : List ℕ) → drop (length front) (front ++ rest) ≡ rest
drop_front [] rest = refl
drop_front (byte ∷ front) rest = drop_front front rest

split_match : (all : List Letter) (front rest : List ℕ) → AreMatch all rest → AreMatch all (front ++ rest) ⊎ IsLater all (front ++ rest)
split_match all [] rest h = inl h
split_match all (byte ∷ front) rest h = inr (record {
  place = length front;
  within = omega (arith, length-append front rest);
  match = rw (add-one, drop_front front rest) h;
})

star_out : (all : List Letter) (name : List ℕ) → AreMatch (Bare 42 ∷ all) name → AreMatch all name ⊎ IsLater all name
star_out all name h =
    let star = star_takes all name h in
    rw star.same (split_match all star.front star.rest star.match)

pub star_is : (letter : Letter) (all rest : List Letter) → all ≡ letter ∷ rest → is_bare 42 letter ≡ true → all ≡ Bare 42 ∷ rest
star_is letter all rest e h = e ∙ ap (λ first. first ∷ rest) (bare_is 42 letter h)

pub star_onward : (all rest behind : List Letter) (name from : List ℕ) → all ≡ Bare 42 ∷ rest → Keeps all name behind from → Lives all name behind from → Lives rest name rest name
star_onward all rest behind name from e keeps (inl match) = star_out rest name (rw e at match)
star_onward all rest behind name from e keeps (inr later) = star_out rest name (star_drop (later.place + 1) rest name (rw e at (keeps later.place later.within later.match)))

pub star_back : (all rest behind : List Letter) (name from : List ℕ) → all ≡ Bare 42 ∷ rest → Lives rest name rest name → Lives all name behind from
star_back all rest behind name from e (inl match) = inl (rw e (star_none rest name match))
star_back all rest behind name from e (inr later) = inl (rw e (star_drop (later.place + 1) rest name (star_none rest (drop (later.place + 1) name) later.match)))

-- what letters match whose first piece takes one byte
record TookByte (all : List Letter) (name : List ℕ) : Type 0 where
  rest : List Letter
  byte : ℕ
  more : List ℕ
  piece : Piece
  one : is_one piece ≡ true
  begins : Begins piece all rest
  took : takes piece byte ≡ true
  same : name ≡ byte ∷ more
  match : AreMatch rest more

took_of : (all : List Letter) (name : List ℕ) (piece : Piece) (pieces : List Piece) (rest : List Letter) (front more : List ℕ) → is_one piece ≡ true → Begins piece all rest → Spells pieces rest → name ≡ front ++ more → Takes piece front → Matches pieces more → TookByte all name
unfolding AreMatch
took_of all name piece pieces rest front more one begins spells same takes_front matches =
    let one_byte = takes_one piece front one takes_front in
    record {
      rest = rest;
      byte = one_byte.byte;
      more = more;
      piece = piece;
      one = one;
      begins = begins;
      took = one_byte.takes;
      same = same ∙ ap (λ bytes. bytes ++ more) one_byte.same;
      match = (pieces, spells, matches);
    }

no_star : (letter : Letter) (all rest : List Letter) → is_bare 42 letter ≡ false → Begins AnyBytes (letter ∷ all) rest → ⊥
unfolding Begins
no_star letter all rest h begins = differ 42 (Bare 42) letter rest all (sym begins) refl h

took_byte : (letter : Letter) (all : List Letter) (name : List ℕ) → is_bare 42 letter ≡ false → AreMatch (letter ∷ all) name → TookByte (letter ∷ all) name
unfolding AreMatch Spells Matches
took_byte letter all name h ([], spells, matches) = absurd (let e = spells in cc)
took_byte letter all name h (Plain other ∷ pieces, s, m) = took_of (letter ∷ all) name (Plain other) pieces s.0 m.0 m.1 refl s.1 s.2 m.2 m.3 m.4
took_byte letter all name h (AnyByte ∷ pieces, s, m) = took_of (letter ∷ all) name AnyByte pieces s.0 m.0 m.1 refl s.1 s.2 m.2 m.3 m.4
took_byte letter all name h (AnyBytes ∷ pieces, s, m) = absurd (no_star letter all s.0 h s.1)
took_byte letter all name h (OneOf members ∷ pieces, s, m) = took_of (letter ∷ all) name (OneOf members) pieces s.0 m.0 m.1 refl s.1 s.2 m.2 m.3 m.4
took_byte letter all name h (NoneOf members ∷ pieces, s, m) = took_of (letter ∷ all) name (NoneOf members) pieces s.0 m.0 m.1 refl s.1 s.2 m.2 m.3 m.4

took-taken : (all : List Letter) (name : List ℕ) (took : TookByte all name) (byte : ℕ) → taken all byte ≡ cond (takes took.piece byte) (Some took.rest) None
took-taken all name took byte = taken-begins took.piece all took.rest byte took.one took.begins

taken_in : (all rest : List Letter) (byte : ℕ) (name : List ℕ) → taken all byte ≡ Some rest → AreMatch rest name → AreMatch all (byte ∷ name)
unfolding AreMatch Spells Matches
taken_in all rest byte name h m =
    let has = begins-taken all rest byte h in
    (has.piece ∷ m.0, (rest, has.begins, m.1), (byte ∷ [], name, refl, has.takes, m.2))

cond_some : {A : Type 0} (b : Bool) (x y : A) → cond b (Some x) None ≡ Some y → x ≡ y
cond_some true x y h = ap (λ o. unwrap_or o y) h
cond_some false x y h = absurd (none_some y h)

-- the letters after a piece are the same for each byte
taken_out : (all rest : List Letter) (byte : ℕ) (name : List ℕ) → taken all byte ≡ Some rest → AreMatch all name → (other : ℕ) × (more : List ℕ) × (name ≡ other ∷ more) × AreMatch rest more
unfolding taken
taken_out [] rest byte name h m = absurd (none_some rest h)
taken_out (letter ∷ all) rest byte name h m =
    elim (cases_Bool (is_bare 42 letter)) [
      | inl star ↦ absurd (none_some rest (rw (bare_is 42 letter star) at h))
      | inr other ↦
          let took = took_byte letter all name other m in
          let same = cond_some (takes took.piece byte) took.rest rest (sym (took-taken (letter ∷ all) name took byte) ∙ h) in
          (took.byte, took.more, took.same, rw (sym same) took.match)
    ]

pub byte_onward : (all rest behind : List Letter) (byte : ℕ) (name more from : List ℕ) → taken all byte ≡ Some rest → name ≡ byte ∷ more → Lives all name behind from → Lives rest more behind from
byte_onward all rest behind byte name more from h e (inl match) =
    let out = taken_out all rest byte name h match in
    let same = out.2 in
    let behind_byte : more ≡ out.1 = cc in
    inl (rw behind_byte out.3)
byte_onward all rest behind byte name more from h e (inr later) = inr later

pub byte_back : (all rest behind : List Letter) (byte : ℕ) (name more from : List ℕ) → taken all byte ≡ Some rest → name ≡ byte ∷ more → Lives rest more behind from → Lives all name behind from
byte_back all rest behind byte name more from h e (inl match) = inl (rw e (taken_in all rest byte more h match))
byte_back all rest behind byte name more from h e (inr later) = inr later

drop_next : (k : ℕ) (all : List ℕ) (byte : ℕ) (more : List ℕ) → drop k all ≡ byte ∷ more → drop (suc k) all ≡ more
drop_next zero all byte more h = rw h refl
drop_next (suc k) [] byte more h = absurd (let e : [] ≡ byte ∷ more = h in cc)
drop_next (suc k) (one ∷ all) byte more h = drop_next k all byte more h

pub byte_sound : (all rest behind : List Letter) (byte : ℕ) (name more from : List ℕ) → taken all byte ≡ Some rest → name ≡ byte ∷ more → Keeps all name behind from → Keeps rest more behind from
byte_sound all rest behind byte name more from h e keeps k within match =
    let moved : AreMatch all (drop k more) = rw (e, add-one) at (keeps k within match) in
    let out = taken_out all rest byte (drop k more) h moved in
    rw (add-one, drop_next k more out.0 out.1 out.2) out.3

later_at : (behind : List Letter) (byte : ℕ) (rest : List ℕ) (place : ℕ) → place < length (byte ∷ rest) → AreMatch behind (drop (place + 1) (byte ∷ rest)) → AreMatch behind rest ⊎ IsLater behind rest
later_at behind byte rest zero within match = inl match
later_at behind byte rest (suc place) within match = inr (record { place = place; within = omega arith; match = rw add-one (rw add-one at match) })

later_out : (behind : List Letter) (byte : ℕ) (rest : List ℕ) → IsLater behind (byte ∷ rest) → AreMatch behind rest ⊎ IsLater behind rest
later_out behind byte rest later = later_at behind byte rest later.place later.within later.match

later_back : (behind : List Letter) (byte : ℕ) (rest : List ℕ) → AreMatch behind rest ⊎ IsLater behind rest → IsLater behind (byte ∷ rest)
later_back behind byte rest (inl match) = record { place = 0; within = omega arith; match = match }
later_back behind byte rest (inr later) = record { place = later.place + 1; within = (let w = later.within in omega arith); match = rw (add-one (later.place + 1)) later.match }

-- where the letters do not match, no match is left but after the last star
pub retry_onward : (all behind : List Letter) (name from : List ℕ) (byte : ℕ) (rest : List ℕ) → from ≡ byte ∷ rest → ¬ AreMatch all name → Lives all name behind from → Lives behind rest behind rest
retry_onward all behind name from byte rest e never (inl match) = absurd (never match)
retry_onward all behind name from byte rest e never (inr later) = later_out behind byte rest (rw e at later)

pub retry_back : (all behind : List Letter) (name from : List ℕ) (byte : ℕ) (rest : List ℕ) → from ≡ byte ∷ rest → Lives behind rest behind rest → Lives all name behind from
retry_back all behind name from byte rest e lives = inr (rw e (later_back behind byte rest lives))

pub ended : (all : List Letter) (name : List ℕ) → all ≡ [] → 0 < length name → ¬ AreMatch all name
ended all name e h match = absurd (let empty = nil_empty name (rw e at match) in omega (arith, ap length empty))

pub needs_byte : (letter : Letter) (all rest : List Letter) (name : List ℕ) → all ≡ letter ∷ rest → is_bare 42 letter ≡ false → length name ≡ 0 → ¬ AreMatch all name
needs_byte letter all rest name e h empty match =
    let took = took_byte letter rest name h (rw e at match) in
    absurd (omega (arith, ap length took.same))

pub takes_none : (letter : Letter) (all rest : List Letter) (byte : ℕ) (name more : List ℕ) → all ≡ letter ∷ rest → is_bare 42 letter ≡ false → taken (letter ∷ rest) byte ≡ None → name ≡ byte ∷ more → ¬ AreMatch all name
takes_none letter all rest byte name more e h none same match =
    let took = took_byte letter rest name h (rw e at match) in
    let at_front = took.same in
    let one : took.byte ≡ byte = cc in
    let takes_byte : takes took.piece byte ≡ true = rw (sym one) took.took in
    absurd (none_some took.rest (sym none ∙ took-taken (letter ∷ rest) name took byte ∙ ap (λ b. cond b (Some took.rest) None) takes_byte))
