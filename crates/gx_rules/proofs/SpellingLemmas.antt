-- A word that is compared letter by letter.
use Rattle.std.proofs.Common.{◌≡◌, ℕ, Bool, false, List, [], ◌∷◌, length, drop, ap, refl, sym, eq-eqb, ne_eqb, nat_eq, ◌&&◌}
use Rattle.std.specs.Char.{to_ascii_lowercase}
use Rattle.std.specs.Str.{str_to_ascii_lowercase}
use Rattle.std.specs.List.{starts_with}
use Rattle.gx_rules.specs.Component.{spells, ends_at}

-- the first letter agrees
pub spells_same : (letter byte : ℕ) (word fill cut bytes : List ℕ) → to_ascii_lowercase byte ≡ letter → spells (letter ∷ word) fill cut (byte ∷ bytes) ≡ spells word fill cut bytes
spells_same letter byte word fill cut bytes e =
    ap (λ (t : Bool). t && starts_with nat_eq (str_to_ascii_lowercase bytes) word && ends_at fill cut (drop (length word) bytes)) (eq-eqb letter (to_ascii_lowercase byte) (sym e))

pub spells_other : (letter byte : ℕ) (word fill cut bytes : List ℕ) → (to_ascii_lowercase byte ≡ letter → ⊥) → spells (letter ∷ word) fill cut (byte ∷ bytes) ≡ false
spells_other letter byte word fill cut bytes e =
    ap (λ (t : Bool). t && starts_with nat_eq (str_to_ascii_lowercase bytes) word && ends_at fill cut (drop (length word) bytes)) (ne_eqb letter (to_ascii_lowercase byte) (λ same. e (sym same)))

pub spells_none : (letter : ℕ) (word fill cut : List ℕ) → spells (letter ∷ word) fill cut [] ≡ false
spells_none letter word fill cut = refl
