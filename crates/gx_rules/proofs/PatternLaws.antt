-- Letters are one list of pieces at most.
use Rattle.std.proofs.Common.{◌≡◌, cond, List, [], ◌∷◌, Option, Some, None, refl, ap, sym, ◌∙◌}
use Rattle.std.proofs.lemmas.Bool.{or_parts}
use Rattle.gx_rules.specs.Pattern.{Letter, Piece, Plain, AnyByte, AnyBytes, OneOf, NoneOf, is_bare, is_negation, Begins, Spells}
use Rattle.gx_rules.specs.PatternReading.{in_front, closed}
use Rattle.gx_rules.proofs.PatternPieces.{none_some, lefts, rights, closed-of}

-- the piece that letters begin with, and those after it
abbrev set_at : (List Letter → Piece) → Option (List Letter × List Letter) → Option (Piece × List Letter)
set_at make None = None
set_at make (Some parts) = Some (make parts.0, parts.1)

abbrev members_at : (List Letter → Piece) → List Letter → Option (Piece × List Letter)
members_at make [] = None
members_at make (first ∷ all) = set_at make (in_front first (closed all))

abbrev signed_at : List Letter → Option (Piece × List Letter)
signed_at [] = None
signed_at (sign ∷ all) = cond (is_negation sign) (members_at NoneOf all) (members_at OneOf (sign ∷ all))

abbrev piece_at : List Letter → Option (Piece × List Letter)
piece_at [] = None
piece_at (letter ∷ all) = cond (is_bare 63 letter) (Some (AnyByte, all)) (cond (is_bare 42 letter) (Some (AnyBytes, all)) (cond (is_bare 91 letter) (signed_at all) (Some (Plain letter, all))))

piece_at-begins : (piece : Piece) (all rest : List Letter) → Begins piece all rest → piece_at all ≡ Some (piece, rest)
unfolding Begins
piece_at-begins (Plain letter) all rest h =
    let stars = or_parts (is_bare 42 letter) _ h.0 in
    let asks = or_parts (is_bare 63 letter) _ stars.1 in
    let sets = or_parts (is_bare 91 letter) _ asks.1 in
    rw (h.1, asks.0, stars.0, sets.0) refl
piece_at-begins AnyByte all rest h = rw h refl
piece_at-begins AnyBytes all rest h = rw h refl
piece_at-begins (OneOf []) all rest h = absurd h.0
piece_at-begins (OneOf (first ∷ more)) all rest h = rw (h.2, h.1, closed-of more rest h.0) refl
piece_at-begins (NoneOf []) all rest h = absurd h.1
piece_at-begins (NoneOf (first ∷ more)) all rest h = rw (h.3, h.2, closed-of more rest h.1) refl

pub one_list : (a b : List Piece) (all : List Letter) → Spells a all → Spells b all → a ≡ b
unfolding Spells
one_list [] [] all p q = refl
one_list [] (piece ∷ pieces) all p q = absurd (none_some _ (ap piece_at (sym p) ∙ piece_at-begins piece all q.0 q.1))
one_list (piece ∷ pieces) [] all p q = absurd (none_some _ (ap piece_at (sym q) ∙ piece_at-begins piece all p.0 p.1))
one_list (one ∷ more) (other ∷ others) all p q =
    let e = sym (piece_at-begins one all p.0 p.1) ∙ piece_at-begins other all q.0 q.1 in
    let behind = rights (one, p.0) (other, q.0) e in
    let rest = one_list more others q.0 (rw behind at p.2) q.2 in
    ap (λ piece. piece ∷ more) (lefts (one, p.0) (other, q.0) e) ∙ ap (λ pieces. other ∷ pieces) rest
