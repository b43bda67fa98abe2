-- How the first letter of a text is read.
use Rattle.std.proofs.Common.{◌≡◌, ◌≢◌, ℕ, List, [], ◌∷◌, length, refl, arith, ne_eqb}
use Rattle.gx_rules.specs.Pattern.{Bare, Escaped, letters}

pub letters-plain : (byte : ℕ) (text : List ℕ) → byte ≢ 92 → letters (byte ∷ text) ≡ Bare byte ∷ letters text
unfolding letters
letters-plain byte [] h = refl
letters-plain byte (next ∷ text) h = rw (ne_eqb byte 92 h, letters) refl

pub letters-escaped : (next : ℕ) (text : List ℕ) → letters (92 ∷ next ∷ text) ≡ Escaped next ∷ letters text
unfolding letters
letters-escaped next text = refl

-- a backslash may be the last byte
pub letters-last : (byte : ℕ) (text : List ℕ) → length text ≡ 0 → letters (byte ∷ text) ≡ Bare byte ∷ letters text
unfolding letters
letters-last byte [] h = refl
letters-last byte (next ∷ text) h = absurd (omega (arith, h))

pub letters-none : (text : List ℕ) → length text ≡ 0 → letters text ≡ []
unfolding letters
letters-none [] h = refl
letters-none (next ∷ text) h = absurd (omega (arith, h))

pub ruleset reading = (letters-plain, letters-escaped, letters-last, letters-none)
