-- Lists of fields are read in one way only.
use Rattle.std.proofs.Common.{◌≡◌, ◌≢◌, ◌∙◌, sym, ap, refl, subst, ℕ, ◌+◌, ◌≤◌, ◌<◌, List, [], ◌∷◌, ◌++◌, length, map, arith, append_assoc, length-append}
use Rattle.std.specs.List.{AllByRecursion}
use Rattle.std.proofs.lemmas.List.{append-nil}
use Rattle.gx_script.specs.Items.{Without, NoNewline, IsField, spaced}
use Rattle.gx_script.specs.Lines.{IsNotBehind, IsTail, CutsField, AreSpaced, AreNotSpaced}
use Rattle.gx_script.proofs.LineLemmas.{without_front, without_back}

pub same_cut : (a b x y : List ℕ) → Without 32 a → Without 32 b → IsTail x → IsTail y → a ++ x ≡ b ++ y → (a ≡ b) × (x ≡ y)
same_cut [] [] x y p q t u e = (refl, e)
same_cut [] (b ∷ bs) [] y p q t u e = cc
same_cut [] (b ∷ bs) (c ∷ x) y p q t u e = let h : c ≡ b = cc in absurd (q.0 (sym h ∙ t))
same_cut (a ∷ as') [] x [] p q t u e = cc
same_cut (a ∷ as') [] x (c ∷ y) p q t u e = let h : a ≡ c = cc in absurd (p.0 (h ∙ u))
same_cut (a ∷ as') (b ∷ bs) x y p q t u e =
    let more : as' ++ x ≡ bs ++ y = cc in
    let r : (as' ≡ bs) × (x ≡ y) = same_cut as' bs x y p.1 q.1 t u more in
    let rest : as' ≡ bs = r.0 in
    (cc, r.1)

pub spaced_tail : {X : Type 0} (text : X → List ℕ) (xs : List X) → IsTail (spaced (map text xs))
spaced_tail text [] = tt
spaced_tail text (x ∷ xs) = refl

spaced_more : {X : Type 0} (text : X → List ℕ) (xs : List X) (x : X) → spaced (map text (xs ++ x ∷ [])) ≡ spaced (map text xs) ++ 32 ∷ text x
spaced_more text [] x = append-nil (32 ∷ text x)
spaced_more text (y ∷ xs) x = ap (λ (l : List ℕ). (32 ∷ text y) ++ l) (spaced_more text xs x) ∙ sym (append_assoc (32 ∷ text y) (spaced (map text xs)) (32 ∷ text x))

all_more : {X : Type 0} (Fits : X → Type 0) (xs : List X) (x : X) → AllByRecursion Fits xs → Fits x → AllByRecursion Fits (xs ++ x ∷ [])
all_more Fits [] x p q = (q, tt)
all_more Fits (y ∷ xs) x p q = (p.0, all_more Fits xs x p.1 q)

-- What stands after the fields that were read.
pub record Behind {X : Type 0} (text : X → List ℕ) (Fits : X → Type 0) (most : ℕ) (xs : List X) (rest : List ℕ) : Type 0 where
  pub values : List X
  pub each : AllByRecursion Fits values
  pub count : length xs + length values ≤ most
  pub is : rest ≡ spaced (map text values)

pub record ReadsSpaced {X : Type 0} (text : X → List ℕ) (Fits : X → Type 0) (most : ℕ) (bytes : List ℕ) (xs : List X) (rest : List ℕ) : Type 0 where
  pub is : bytes ≡ spaced (map text xs) ++ rest
  pub fits : AllByRecursion Fits xs
  pub few : length xs ≤ most
  pub only : (ys : List X) → AreSpaced text Fits most bytes ys → Behind text Fits most xs rest

pub spaced_first : {X : Type 0} (text : X → List ℕ) (Fits : X → Type 0) (most : ℕ) (bytes : List ℕ) → ReadsSpaced text Fits most bytes [] bytes
spaced_first text Fits most bytes = record { is = refl; fits = tt; few = omega arith; only = λ ys h. record { values = ys; each = h.fits; count = omega (arith, h.few); is = h.is } }

next_behind : {X : Type 0} (text : X → List ℕ) (Fits : X → Type 0) (most : ℕ) (xs : List X) (x : X) (rest field more : List ℕ) → ((x : X) → Fits x → Without 32 (text x)) → CutsField rest field more → Behind text Fits most xs rest → Behind text Fits most (xs ++ x ∷ []) more
next_behind {X} text Fits most xs x rest field more whole cut b = go b.values b.each b.count b.is
  where
    go : (values : List X) → AllByRecursion Fits values → length xs + length values ≤ most → rest ≡ spaced (map text values) → Behind text Fits most (xs ++ x ∷ []) more
    go [] each count is = let e : 32 ∷ (field ++ more) ≡ [] = sym cut.is ∙ is in absurd (cc)
    go (v ∷ values) each count is =
        let e : 32 ∷ (field ++ more) ≡ 32 ∷ (text v ++ spaced (map text values)) = sym cut.is ∙ is in
        let f : field ++ more ≡ text v ++ spaced (map text values) = cc in
        record { values = values; each = each.1; count = omega (arith, count, length-append xs (x ∷ [])); is = (same_cut field (text v) more (spaced (map text values)) cut.whole (whole v each.0) cut.tail (spaced_tail text values) f).1 }

-- One more field was read.
pub spaced_next : {X : Type 0} (text : X → List ℕ) (Fits : X → Type 0) (most : ℕ) (bytes : List ℕ) (xs : List X) (x : X) (rest field more : List ℕ) → ((x : X) → Fits x → Without 32 (text x)) → ReadsSpaced text Fits most bytes xs rest → CutsField rest field more → field ≡ text x → Fits x → length xs < most
    → ReadsSpaced text Fits most bytes (xs ++ x ∷ []) more
spaced_next text Fits most bytes xs x rest field more whole h cut e fits lt = record {
  is = h.is ∙ ap (λ (l : List ℕ). spaced (map text xs) ++ l) (cut.is ∙ ap (λ (f : List ℕ). 32 ∷ (f ++ more)) e) ∙ sym (append_assoc (spaced (map text xs)) (32 ∷ text x) more) ∙ ap (λ (l : List ℕ). l ++ more) (sym (spaced_more text xs x));
  fits = all_more Fits xs x h.fits fits;
  few = omega (arith, length-append xs (x ∷ []), lt);
  only = λ ys all. next_behind text Fits most xs x rest field more whole cut (h.only ys all);
}

-- What stands after is no list of fields.
pub spaced_stops : {X : Type 0} (text : X → List ℕ) (Fits : X → Type 0) (most : ℕ) (bytes : List ℕ) (xs : List X) (rest : List ℕ) → ReadsSpaced text Fits most bytes xs rest → rest ≢ [] → IsNotBehind (32 ∷ []) rest → AreNotSpaced text Fits most bytes
spaced_stops {X} text Fits most bytes xs rest h some none ys all = let b = h.only ys all in go b.values b.is
  where
    go : (values : List X) → rest ≡ spaced (map text values) → ⊥
    go [] is = some is
    go (v ∷ values) is = none (text v ++ spaced (map text values)) is

pub spaced_wrong : {X : Type 0} (text : X → List ℕ) (Fits : X → Type 0) (most : ℕ) (bytes : List ℕ) (xs : List X) (rest field more : List ℕ) → ((x : X) → Fits x → Without 32 (text x)) → ReadsSpaced text Fits most bytes xs rest → CutsField rest field more → ((x : X) → Fits x → field ≡ text x → ⊥) → AreNotSpaced text Fits most bytes
spaced_wrong {X} text Fits most bytes xs rest field more whole h cut none ys all = let b = h.only ys all in go b.values b.each b.is
  where
    go : (values : List X) → AllByRecursion Fits values → rest ≡ spaced (map text values) → ⊥
    go [] each is = let e : 32 ∷ (field ++ more) ≡ [] = sym cut.is ∙ is in cc
    go (v ∷ values) each is =
        let e : 32 ∷ (field ++ more) ≡ 32 ∷ (text v ++ spaced (map text values)) = sym cut.is ∙ is in
        let f : field ++ more ≡ text v ++ spaced (map text values) = cc in
        none v each.0 (same_cut field (text v) more (spaced (map text values)) cut.whole (whole v each.0) cut.tail (spaced_tail text values) f).0

pub spaced_full : {X : Type 0} (text : X → List ℕ) (Fits : X → Type 0) (most : ℕ) (bytes : List ℕ) (xs : List X) (rest : List ℕ) → ReadsSpaced text Fits most bytes xs rest → rest ≢ [] → most ≤ length xs → AreNotSpaced text Fits most bytes
spaced_full {X} text Fits most bytes xs rest h some le ys all = let b = h.only ys all in go b.values b.count b.is
  where
    go : (values : List X) → length xs + length values ≤ most → rest ≡ spaced (map text values) → ⊥
    go [] count is = some is
    go (v ∷ values) count is = omega (arith, count, le)

pub spaced_ends : {X : Type 0} (text : X → List ℕ) (Fits : X → Type 0) (most : ℕ) (bytes : List ℕ) (xs : List X) (rest : List ℕ) → ReadsSpaced text Fits most bytes xs rest → rest ≡ [] → AreSpaced text Fits most bytes xs
spaced_ends text Fits most bytes xs rest h none = record { is = h.is ∙ ap (λ (l : List ℕ). spaced (map text xs) ++ l) none ∙ append-nil (spaced (map text xs)); fits = h.fits; few = h.few }

-- A field has a space before it.
pub spaced_long : {X : Type 0} (text : X → List ℕ) (xs : List X) → length xs ≤ length (spaced (map text xs))
spaced_long text [] = omega arith
spaced_long text (x ∷ xs) = omega (arith, length-append (32 ∷ text x) (spaced (map text xs)), spaced_long text xs)

pub field_is : (bytes : List ℕ) (xs : List (List ℕ)) (rest field more : List ℕ) → NoNewline bytes → bytes ≡ spaced (map (λ (f : List ℕ). f) xs) ++ rest → CutsField rest field more → IsField field
field_is bytes xs rest field more open_line is cut =
    let behind : NoNewline rest = without_back 10 (spaced (map (λ (f : List ℕ). f) xs)) rest (subst NoNewline is open_line) in
    let both : NoNewline (32 ∷ (field ++ more)) = subst NoNewline cut.is behind in
    record { whole = cut.whole; open_line = without_front 10 field more both.1 }

pub same_fields : (xs : List (List ℕ)) → map (λ (f : List ℕ). f) xs ≡ xs
same_fields [] = refl
same_fields (x ∷ xs) = ap (λ (l : List (List ℕ)). x ∷ l) (same_fields xs)

-- Bytes are none where there are no more of them.
pub some_bytes : (xs : List ℕ) → 0 < length xs → xs ≢ []
some_bytes xs some none = omega (arith, ap length none)

pub no_bytes : (xs : List ℕ) → length xs ≡ 0 → xs ≡ []
no_bytes [] none = refl
no_bytes (x ∷ xs) none = absurd (omega arith)

pub cut_smaller : (rest field more : List ℕ) → CutsField rest field more → length more < length rest
cut_smaller rest field more cut = omega (arith, ap length cut.is, length-append field more)

-- Each field takes a byte at least, so there are fewer before one than bytes.
pub more_fields : (bytes : List ℕ) (xs : List (List ℕ)) (rest field more : List ℕ) → bytes ≡ spaced (map (λ (f : List ℕ). f) xs) ++ rest → CutsField rest field more → length xs < length bytes
more_fields bytes xs rest field more is cut =
    omega (arith, ap length is, length-append (spaced (map (λ (f : List ℕ). f) xs)) rest, spaced_long (λ (f : List ℕ). f) xs, cut_smaller rest field more cut)
