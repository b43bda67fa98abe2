-- The last line that begins a signature.
use Rattle.std.proofs.Common.{◌≡◌, nat_le, true, false, ◌∙◌, sym, ap, refl, subst, ℕ, ◌-◌, ◌<◌, ◌≤◌, List, [], ◌∷◌, ◌++◌, length, take, arith, append_assoc, length-append, Option, Some, None, ◌⊎◌, inl, inr}
use Rattle.std.proofs.lemmas.Bool.Decides.{nat_tests}
use Rattle.std.proofs.lemmas.List.{take_at}
use Rattle.gx_object.specs.CommitSpelling.{IsOneLine, IsWholeLines}
use Rattle.gx_object.specs.CommitLines.{HasLine, HasNoLine}
use Rattle.gx_object.specs.TagLines.{IsLastTo, ReadsSignature, HasLastSignature}
use Rattle.gx_object.specs.TagSpelling.{OpensSignature, SignedAt, SplitsSignature}
use Rattle.gx_object.specs.Laws.OneCommit.{first_line}

-- two fronts of one text
pub record Longer (a b x y : List ℕ) : Type 0 where
  pub more : List ℕ
  pub front : b ≡ a ++ more
  pub back : x ≡ more ++ y

pub longer : (a b x y : List ℕ) → a ++ x ≡ b ++ y → length a ≤ length b → Longer a b x y
longer [] b x y e p = record { more = b; front = refl; back = e }
longer (c ∷ a) [] x y e p = absurd (omega (arith, p))
longer (c ∷ a) (d ∷ b) x y e p =
    let same : c ≡ d = cc in
    let t : a ++ x ≡ b ++ y = cc in
    let r = longer a b x y t (omega (arith, p)) in
    let front : b ≡ a ++ r.more = r.front in
    record { more = r.more; front = cc; back = r.back }

-- what follows in whole lines is whole lines
pub whole_behind : (a o : List ℕ) → IsWholeLines (a ++ o) → IsWholeLines o
whole_behind [] o w = w
whole_behind (x ∷ xs) o (inl e) = absurd (cc)
whole_behind (x ∷ xs) o (inr ([], e)) = let t : xs ++ o ≡ [] = cc in whole_behind xs o (inl t)
whole_behind (x ∷ xs) o (inr (f ∷ fs, e)) = let t : xs ++ o ≡ fs ++ 10 ∷ [] = cc in whole_behind xs o (inr (fs, t))

before_newline : (line more f r : List ℕ) → IsOneLine line → line ++ 10 ∷ more ≡ f ++ 10 ∷ r → length line ≤ length f
before_newline [] more f r p e = omega arith
before_newline (x ∷ xs) more [] r p e = let h : x ≡ 10 = cc in absurd (p.0 h)
before_newline (x ∷ xs) more (y ∷ ys) r p e =
    let t : xs ++ 10 ∷ more ≡ ys ++ 10 ∷ r = cc in
    let h = before_newline xs more ys r p.1 t in
    omega (arith, h)

-- whole lines in front of a line's end are none
none_within : (line more o r : List ℕ) → IsOneLine line → line ++ 10 ∷ more ≡ o ++ r → IsWholeLines o → length o ≤ length line → length o ≡ 0
none_within line more o r p e (inl is) q = ap length is
none_within line more o r p e (inr (f, is)) q =
    let t : line ++ 10 ∷ more ≡ f ++ 10 ∷ r = e ∙ ap (λ l. l ++ r) is ∙ append_assoc f (10 ∷ []) r in
    let h = before_newline line more f r p t in
    absurd (omega (arith, h, q, ap length is, length-append f (10 ∷ [])))

-- whole lines in front of text without a line are none
none_at_all : (rest o r : List ℕ) → HasNoLine rest → rest ≡ o ++ r → IsWholeLines o → length o ≡ 0
none_at_all rest o r none e (inl is) = ap length is
none_at_all rest o r none e (inr (f, is)) =
    let l = first_line f r in
    absurd (none l.line l.rest (record { is = e ∙ ap (λ x. x ++ r) is ∙ append_assoc f (10 ∷ []) r ∙ l.is; one = l.one }))

cases : (a b : ℕ) → (a < b) ⊎ (b ≤ a)
cases a b = elim (nat_le b a) as (λ v. nat_le b a ≡ v → (a < b) ⊎ (b ≤ a)) [
  | true ↦ λ e. inr (grind (arith, nat_tests, e))
  | false ↦ λ e. inl (grind (arith, nat_tests, e))
] refl

-- no signature begins after what was read, before this
abbrev Reaches : List ℕ → List ℕ → (List ℕ → Type 0) → Type 0
Reaches text read Before = (front r : List ℕ) → SignedAt text front r → Before front → length front ≤ length read

reaches_line : (text read rest line behind : List ℕ) → text ≡ read ++ rest → HasLine rest line behind → Reaches text read (λ front. length front < length (read ++ (line ++ 10 ∷ [])))
reaches_line text read rest line behind e has front r s lt = elim (cases (length front) (length read)) [
  | inl h ↦ omega (arith, h)
  | inr h ↦
      let l = longer read front rest r (sym e ∙ s.whole) h in
      let n = none_within line behind l.more r has.one (sym has.is ∙ l.back) (whole_behind read l.more (subst IsWholeLines l.front s.lines)) (omega (arith, lt, ap length l.front, length-append read l.more, length-append read (line ++ 10 ∷ []), length-append line (10 ∷ []))) in
      omega (arith, n, ap length l.front, length-append read l.more)
]

reaches_end : (text read rest : List ℕ) → text ≡ read ++ rest → HasNoLine rest → Reaches text read (λ front. Unit {0})
reaches_end text read rest e none front r s lt = elim (cases (length front) (length read)) [
  | inl h ↦ omega (arith, h)
  | inr h ↦
      let l = longer read front rest r (sym e ∙ s.whole) h in
      let n = none_at_all rest l.more r none l.back (whole_behind read l.more (subst IsWholeLines l.front s.lines)) in
      omega (arith, n, ap length l.front, length-append read l.more)
]

-- no signature begins where the rest begins
strictly : (text read rest : List ℕ) (Before : List ℕ → Type 0) → text ≡ read ++ rest → Reaches text read Before → (OpensSignature rest → ⊥)
    → (front r : List ℕ) → SignedAt text front r → Before front → length front < length read
strictly text read rest Before e reaches none front r s b = elim (cases (length front) (length read)) [
  | inl h ↦ h
  | inr h ↦
      let short = reaches front r s b in
      let l = longer read front rest r (sym e ∙ s.whole) h in
      let n : length l.more ≡ 0 = omega (arith, short, ap length l.front, length-append read l.more) in
      absurd (none (subst OpensSignature (sym (l.back ∙ ap (λ x. x ++ r) (empty l.more n))) s.opens))
]
  where
    empty : (o : List ℕ) → length o ≡ 0 → o ≡ []
    empty [] h = refl
    empty (b ∷ bs) h = absurd (omega (arith, h))

-- Reading.
pub reads_none : (text : List ℕ) → ReadsSignature text text None
reads_none text = record { read = []; whole = refl; lines = inl refl; last_is = λ front r s lt. absurd (omega (arith, lt)) }

lines_more : (read line : List ℕ) → IsWholeLines (read ++ (line ++ 10 ∷ []))
lines_more read line = inr (read ++ line, sym (append_assoc read line (10 ∷ [])))

whole_more : (text read rest line behind : List ℕ) → text ≡ read ++ rest → HasLine rest line behind → text ≡ (read ++ (line ++ 10 ∷ [])) ++ behind
whole_more text read rest line behind e has = e ∙ ap (λ l. read ++ l) (has.is ∙ sym (append_assoc line (10 ∷ []) behind)) ∙ sym (append_assoc read (line ++ 10 ∷ []) behind)

pub reads_signed : (text rest line behind : List ℕ) (last : Option (List ℕ)) → ReadsSignature text rest last → HasLine rest line behind → OpensSignature rest → ReadsSignature text behind (Some rest)
reads_signed text rest line behind last p has opens = record {
  read = p.read ++ (line ++ 10 ∷ []);
  whole = whole_more text p.read rest line behind p.whole has;
  lines = lines_more p.read line;
  last_is = (p.read, record { whole = p.whole; lines = p.lines; opens = opens }, reaches_line text p.read rest line behind p.whole has);
}

last_more : (text read : List ℕ) (end : ℕ) (last : Option (List ℕ)) → ((front r : List ℕ) → SignedAt text front r → length front < end → length front < length read) → IsLastTo text (length read) last → IsLastTo text end last
last_more text read end None before p = λ front r s lt. p front r s (before front r s lt)
last_more text read end (Some signature) before p = (p.0, p.1, λ front r s lt. p.2 front r s (before front r s lt))

pub reads_unsigned : (text rest line behind : List ℕ) (last : Option (List ℕ)) → ReadsSignature text rest last → HasLine rest line behind → (OpensSignature rest → ⊥) → ReadsSignature text behind last
reads_unsigned text rest line behind last p has none = record {
  read = p.read ++ (line ++ 10 ∷ []);
  whole = whole_more text p.read rest line behind p.whole has;
  lines = lines_more p.read line;
  last_is = last_more text p.read (length (p.read ++ (line ++ 10 ∷ []))) last
      (strictly text p.read rest (λ front. length front < length (p.read ++ (line ++ 10 ∷ []))) p.whole (reaches_line text p.read rest line behind p.whole has) none) p.last_is;
}

pub ends_signed : (text rest : List ℕ) (last : Option (List ℕ)) → ReadsSignature text rest last → HasNoLine rest → OpensSignature rest → HasLastSignature text (Some rest)
ends_signed text rest last p none opens = (p.read, record { whole = p.whole; lines = p.lines; opens = opens }, λ front r s. reaches_end text p.read rest p.whole none front r s tt)

last_of_all : (text read : List ℕ) (last : Option (List ℕ)) → ((front r : List ℕ) → SignedAt text front r → length front < length read) → IsLastTo text (length read) last → HasLastSignature text last
last_of_all text read None before p = λ front r s. p front r s (before front r s)
last_of_all text read (Some signature) before p = (p.0, p.1, λ front r s. p.2 front r s (before front r s))

pub ends_unsigned : (text rest : List ℕ) (last : Option (List ℕ)) → ReadsSignature text rest last → HasNoLine rest → (OpensSignature rest → ⊥) → HasLastSignature text last
ends_unsigned text rest last p none closed = last_of_all text p.read last (λ front r s. strictly text p.read rest (λ front. Unit {0}) p.whole (reaches_end text p.read rest p.whole none) closed front r s tt) p.last_is

-- Where a text is split.
pub signature_shorter : (text signature : List ℕ) → HasLastSignature text (Some signature) → length signature ≤ length text
signature_shorter text signature (message, s, last) = omega (arith, ap length s.whole, length-append message signature)

pub split_found : (text signature message : List ℕ) → HasLastSignature text (Some signature) → message ≡ take (length text - length signature) text → SplitsSignature text message (Some signature)
split_found text signature message (front, s, last) is =
    let same : message ≡ front = is ∙ ap (take (length text - length signature)) s.whole ∙ take_at front signature (length text - length signature) (omega (arith, ap length s.whole, length-append front signature)) in
    subst (λ m. SplitsSignature text m (Some signature)) (sym same) (s, last)
