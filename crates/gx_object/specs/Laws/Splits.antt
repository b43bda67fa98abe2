-- Texts that are cut at a byte.
use Rattle.std.proofs.Common.{◌≡◌, ◌≤◌, ◌<◌, ◌+◌, ◌==◌, ◌∙◌, ℕ, suc, not, List, [], ◌∷◌, ◌++◌, length, take, drop, get_or, sym, ap, refl, ne_eqb, arith}
use Rattle.std.proofs.lemmas.Bool.{eqb-true, eq-eqb, not_from_false, and_from, and_parts, not-true, eqb-false}
use Rattle.std.proofs.lemmas.List.{get_or-take, length-take-le, drop_more, take-append-drop}
use Rattle.std.specs.Str.Parse.{AllDigits}
use Rattle.std.proofs.lemmas.Str.Parse.{digit_from_value}
use Rattle.memchr.specs.Find.{Nowhere, NoneBefore, Passes, is_byte}
use Rattle.gx_object.specs.Split.{Lacks}

lacks_from : (byte : ℕ) (text : List ℕ) → ((k : ℕ) → k < length text → get_or text k 0 ≡ byte → ⊥) → Lacks byte text
lacks_from byte [] none = refl
lacks_from byte (b ∷ bs) none =
    let rest = lacks_from byte bs (λ k within. none (suc k) (omega arith)) in
    and_from (not (b == byte)) _ (not_from_false (b == byte) (ne_eqb b byte (none 0 (omega arith)))) rest

-- a byte that is found nowhere
pub lacks_nowhere : (byte : ℕ) (text : List ℕ) → Nowhere (Passes (is_byte byte) text) 0 (length text) → Lacks byte text
lacks_nowhere byte text nowhere = lacks_from byte text (λ k within is. nowhere k (omega arith) within (eq-eqb _ _ is))

-- the text before the first such byte
pub lacks_in_front : (byte : ℕ) (text : List ℕ) (at : ℕ) → NoneBefore (Passes (is_byte byte) text) 0 (length text) at → Lacks byte (take at text)
lacks_in_front byte text at first =
    let high = first.high in
    let short : length (take at text) ≡ at = length-take-le at text (omega arith) in
    lacks_from byte (take at text) (λ k within is. let below : k < at = omega arith in first.before k (omega arith) below (eq-eqb _ _ (sym (get_or-take at text k 0 below) ∙ is)))

-- a text is what is before a byte, that byte, and what follows it
pub cut_at : (byte : ℕ) (text : List ℕ) (at : ℕ) → at < length text → Passes (is_byte byte) text at → text ≡ take at text ++ byte ∷ drop (at + 1) text
cut_at byte text at within here = sym (take-append-drop at text) ∙ ap (λ rest. take at text ++ rest) (drop_more text at 0 within ∙ ap (λ b. b ∷ drop (at + 1) text) (eqb-true _ _ here))

lacks_here : (byte b : ℕ) (bs : List ℕ) → Lacks byte (b ∷ bs) → (b ≡ byte → ⊥) × Lacks byte bs
lacks_here byte b bs lacks = let parts = and_parts _ _ lacks in (eqb-false b byte (not-true _ parts.0), parts.1)

-- where two fronts lack a byte, each text is cut in one way
pub cut_once : (byte : ℕ) (a b x y : List ℕ) → Lacks byte a → Lacks byte b → a ++ byte ∷ x ≡ b ++ byte ∷ y → (a ≡ b) × (x ≡ y)
cut_once byte [] [] x y p q same = (refl, cc)
cut_once byte [] (d ∷ b) x y p q same = absurd ((lacks_here byte d b q).0 cc)
cut_once byte (c ∷ a) [] x y p q same = absurd ((lacks_here byte c a p).0 cc)
cut_once byte (c ∷ a) (d ∷ b) x y p q same =
    let head : c ≡ d = cc in
    let rest = cut_once byte a b x y (lacks_here byte c a p).1 (lacks_here byte d b q).1 cc in
    (cc (head, rest.0), rest.1)

-- a text that lacks a byte isn't cut there
pub never_cut : (byte : ℕ) (text front rest : List ℕ) → Lacks byte text → text ≡ front ++ byte ∷ rest → ⊥
never_cut byte [] [] rest lacks same = cc
never_cut byte [] (b ∷ front) rest lacks same = cc
never_cut byte (c ∷ text) [] rest lacks same = (lacks_here byte c text lacks).0 cc
never_cut byte (c ∷ text) (b ∷ front) rest lacks same = never_cut byte text front rest (lacks_here byte c text lacks).1 cc

pub lacks_more : (byte b : ℕ) (bs : List ℕ) → (b ≡ byte → ⊥) → Lacks byte bs → Lacks byte (b ∷ bs)
lacks_more byte b bs other lacks = and_from (not (b == byte)) _ (not_from_false (b == byte) (ne_eqb b byte other)) lacks

-- digits are no spaces, and no other byte below the digits
pub digits_lack : (radix byte : ℕ) → radix ≤ 10 → byte < 48 → (digits : List ℕ) → AllDigits radix digits → Lacks byte digits
digits_lack radix byte few low [] all = refl
digits_lack radix byte few low (c ∷ cs) all =
    let some = digit_from_value c (let here = all.0 in omega arith) in
    lacks_more byte c cs (λ same. omega (arith, some.0)) (digits_lack radix byte few low cs all.1)
