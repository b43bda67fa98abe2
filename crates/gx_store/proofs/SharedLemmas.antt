-- How many first digits texts of bytes share.
use Rattle.std.proofs.Common.{◌≡◌, ◌≢◌, ◌∙◌, sym, ap, refl, subst, ℕ, suc, ◌+◌, ◌*◌, ◌/◌, ◌%◌, ◌<◌, ◌≤◌, min, Bool, true, false, cond, List, [], ◌∷◌, length, drop, slice_index, slice_index_or, nat_eq, Option, Some, None, arith, inl, inr}
use Rattle.std.specs.declared.cmp.Ordering.{Ordering}
use Rattle.std.specs.declared.cmp.Ordering.TheVariants.{Less, Equal, Greater}
use Rattle.std.specs.Ordering.{nat_cmp, ordering_then, is_gt}
use Rattle.std.specs.Int.{from_bool}
use Rattle.std.specs.Cmp.{ranked}
use Rattle.std.specs.Cmp.Lexicographic.{slice_cmp}
use Rattle.std.specs.List.{common_prefix_len}
use Rattle.std.proofs.lemmas.Bool.{cases_lt}
use Rattle.std.proofs.lemmas.List.{get_or_past, drop_more, drop_all}
use Rattle.hex.specs.Hex.{IsBytes, encode_with, encode_lower, lower_digits, hex_digit_value}
use Rattle.hex.proofs.HexLemmas.{IsDigits-lower_digits}

-- how many first digits the texts share
abbrev pub alike : List ℕ → List ℕ → ℕ
alike xs ys = common_prefix_len nat_eq (encode_lower xs) (encode_lower ys)

unfoldable pub digit : ℕ → ℕ
digit n = slice_index lower_digits n

same_some : {A : Type 0} (a b : A) → Some a ≡ Some b → a ≡ b
same_some a b e = cc

no_some : {A : Type 0} (a : A) → Some a ≡ None → ⊥
no_some a e = cc

-- a digit is that of one number
pub same_digit : (m n : ℕ) → m < 16 → digit m ≡ digit n → m ≡ n
unfolding digit
same_digit m n small e = elim (cases_lt n 16) [
  | inl p ↦ same_some m n (sym (IsDigits-lower_digits m small) ∙ ap hex_digit_value e ∙ IsDigits-lower_digits n p)
  | inr p ↦ absurd (no_some m (sym (IsDigits-lower_digits m small) ∙ ap hex_digit_value (e ∙ get_or_past lower_digits n 0 p)))
]

pub eq_same : (m n : ℕ) → m ≡ n → nat_eq m n ≡ true
eq_same m n e = grind (arith)

eq_apart : (m n : ℕ) → m ≢ n → nat_eq m n ≡ false
eq_apart m n e = grind (arith)

pub same_eq : (m n : ℕ) → nat_eq m n ≡ true → m ≡ n
same_eq m n e = grind (arith)

-- the digits of one byte more
more : (x y : ℕ) (xs ys : List ℕ) → alike (x ∷ xs) (y ∷ ys) ≡ cond (nat_eq (digit (x / 16)) (digit (y / 16))) (1 + cond (nat_eq (digit (x % 16)) (digit (y % 16))) (1 + alike xs ys) 0) 0
unfolding encode_with digit
more x y xs ys = refl

none_left : (xs : List ℕ) → alike xs [] ≡ 0
unfolding encode_with
none_left [] = refl
none_left (x ∷ xs) = refl

none_right : (ys : List ℕ) → alike [] ys ≡ 0
unfolding encode_with
none_right ys = refl

both : (xs ys : List ℕ) (i : ℕ) → i < length xs → i < length ys → alike (drop i xs) (drop i ys) ≡ alike (slice_index xs i ∷ drop (i + 1) xs) (slice_index ys i ∷ drop (i + 1) ys)
both xs ys i p q = λ k. alike (drop_more xs i 0 p k) (drop_more ys i 0 q k)

same_byte : (x y : ℕ) (xs ys : List ℕ) → x ≡ y → alike (x ∷ xs) (y ∷ ys) ≡ 1 + (1 + alike xs ys)
same_byte x y xs ys e = more x y xs ys
    ∙ ap (λ b. cond b (1 + cond (nat_eq (digit (x % 16)) (digit (y % 16))) (1 + alike xs ys) 0) 0) (eq_same _ _ (ap (λ n. digit (n / 16)) e))
    ∙ ap (λ b. 1 + cond b (1 + alike xs ys) 0) (eq_same _ _ (ap (λ n. digit (n % 16)) e))

-- texts that differ at a byte
apart_bit : (x y : ℕ) (xs ys : List ℕ) → x < 256 → x ≢ y → (b : Bool) → nat_eq (x / 16) (y / 16) ≡ b → alike (x ∷ xs) (y ∷ ys) ≡ from_bool b
apart_bit x y xs ys small e true h = more x y xs ys
    ∙ ap (λ b. cond b (1 + cond (nat_eq (digit (x % 16)) (digit (y % 16))) (1 + alike xs ys) 0) 0) (eq_same _ _ (ap digit (same_eq _ _ h)))
    ∙ ap (λ b. 1 + cond b (1 + alike xs ys) 0) (eq_apart _ _ (λ same. e (let low : x % 16 ≡ y % 16 = same_digit (x % 16) (y % 16) (omega arith) same in let high : x / 16 ≡ y / 16 = same_eq _ _ h in omega arith)))
apart_bit x y xs ys small e false h = more x y xs ys
    ∙ ap (λ b. cond b (1 + cond (nat_eq (digit (x % 16)) (digit (y % 16))) (1 + alike xs ys) 0) 0) (eq_apart _ _ (λ same. true_false (sym (eq_same _ _ (same_digit (x / 16) (y / 16) (omega arith) same)) ∙ h)))
  where
    true_false : true ≡ false → ⊥
    true_false e = cc

-- ---- a loop over both texts
module _ (xs ys : List ℕ) (i whole : ℕ) where
  pub alike_more : i < length xs → i < length ys → slice_index xs i ≡ slice_index ys i → 2 * i + alike (drop i xs) (drop i ys) ≡ whole → 2 * (i + 1) + alike (drop (i + 1) xs) (drop (i + 1) ys) ≡ whole
  alike_more p q same so = let step = both xs ys i p q ∙ same_byte _ _ (drop (i + 1) xs) (drop (i + 1) ys) same in omega (arith, step, so)

  pub alike_apart : i < length xs → i < length ys → slice_index xs i < 256 → slice_index xs i ≢ slice_index ys i → 2 * i + alike (drop i xs) (drop i ys) ≡ whole → 2 * i + from_bool (nat_eq (slice_index xs i / 16) (slice_index ys i / 16)) ≡ whole
  alike_apart p q small e so = ap (λ n. 2 * i + n) (sym (both xs ys i p q ∙ apart_bit _ _ (drop (i + 1) xs) (drop (i + 1) ys) small e _ refl)) ∙ so

  pub alike_left : length xs ≤ i → 2 * i + alike (drop i xs) (drop i ys) ≡ whole → 2 * i ≡ whole
  alike_left p so = let none = ap (λ zs. alike zs (drop i ys)) (drop_all i xs p) ∙ none_right (drop i ys) in omega (arith, none, so)

  pub alike_right : length ys ≤ i → 2 * i + alike (drop i xs) (drop i ys) ≡ whole → 2 * i ≡ whole
  alike_right p so = let none = ap (λ zs. alike (drop i xs) zs) (drop_all i ys p) ∙ none_left (drop i xs) in omega (arith, none, so)

pub alike_start : (xs ys us vs : List ℕ) → xs ≡ us → ys ≡ vs → 2 * 0 + alike (drop 0 xs) (drop 0 ys) ≡ alike us vs
alike_start xs ys us vs e f = let whole : alike xs ys ≡ alike us vs = λ k. alike (e k) (f k) in omega (arith, whole)

-- where the loop has seen the shorter text whole
pub alike_all : (xs ys : List ℕ) (i most whole : ℕ) → most ≡ min (length xs) (length ys) → most ≤ i → i ≤ most → 2 * i + alike (drop i xs) (drop i ys) ≡ whole → 2 * most ≡ whole
alike_all xs ys i most whole e past at so =
    let is : i ≡ most = omega (arith, past, at) in
    elim (cases_lt i (length xs)) [
      | inl p ↦ ap (λ n. 2 * n) (sym is) ∙ alike_right xs ys i whole (omega (arith, e, is, p)) so
      | inr p ↦ ap (λ n. 2 * n) (sym is) ∙ alike_left xs ys i whole p so
    ]

-- ---- of texts in order, the nearer one shares more

head_le : (x y : ℕ) (s r : Ordering) → nat_cmp x y ≡ r → is_gt (ordering_then r s) ≡ false → (x ≤ y) × (x ≡ y → is_gt s ≡ false)
head_le x y s Less e h = let lt = ranked x y Less (sym e) in (omega (arith, lt), λ same. absurd (omega (arith, lt, same)))
head_le x y s Equal e h = (omega (arith, ranked x y Equal (sym e)), λ same. h)
head_le x y s Greater e h = cc

bit_more : (b c d e : Bool) (m n : ℕ) → (b ≡ true → d ≡ true) → (b ≡ true → c ≡ true → (e ≡ true) × (m ≤ n)) → cond b (1 + cond c (1 + m) 0) 0 ≤ cond d (1 + cond e (1 + n) 0) 0
bit_more false c d e m n f g = omega arith
bit_more true false d e m n f g = ap_le d (f refl)
  where
    ap_le : (d : Bool) → d ≡ true → 1 + 0 ≤ cond d (1 + cond e (1 + n) 0) 0
    ap_le true p = omega arith
    ap_le false p = cc
bit_more true true d e m n f g = go d e (f refl) (g refl refl).0
  where
    go : (d e : Bool) → d ≡ true → e ≡ true → 1 + (1 + m) ≤ cond d (1 + cond e (1 + n) 0) 0
    go true true p q = omega (arith, (g refl refl).1)
    go false e p q = cc
    go true false p q = cc

-- where the first bytes agree in as many digits
step : (x y z : ℕ) (xs ys zs : List ℕ) → x < 256 → (x / 16 ≡ z / 16 → x / 16 ≡ y / 16) → (x ≡ z → (x ≡ y) × (alike xs zs ≤ alike xs ys)) → alike (x ∷ xs) (z ∷ zs) ≤ alike (x ∷ xs) (y ∷ ys)
step x y z xs ys zs small high whole = subst (λ n. n ≤ alike (x ∷ xs) (y ∷ ys)) (sym (more x z xs zs)) (subst (λ n. cond (nat_eq (digit (x / 16)) (digit (z / 16))) (1 + cond (nat_eq (digit (x % 16)) (digit (z % 16))) (1 + alike xs zs) 0) 0 ≤ n) (sym (more x y xs ys))
    (bit_more _ _ _ _ _ _ (λ e. eq_same _ _ (ap digit (high (high_of e)))) (λ e f. let w = whole (same_of (high_of e) (same_digit (x % 16) (z % 16) (omega arith) (same_eq _ _ f))) in (eq_same _ _ (ap (λ n. digit (n % 16)) w.0), w.1))))
  where
    high_of : nat_eq (digit (x / 16)) (digit (z / 16)) ≡ true → x / 16 ≡ z / 16
    high_of e = same_digit (x / 16) (z / 16) (omega arith) (same_eq _ _ e)

    same_of : x / 16 ≡ z / 16 → x % 16 ≡ z % 16 → x ≡ z
    same_of e f = omega (arith, e, f)

tail_bytes : (x : ℕ) (xs : List ℕ) → IsBytes (x ∷ xs) → IsBytes xs
tail_bytes x xs h i = h (suc i)

pub nearer_after : (a b c : List ℕ) → IsBytes a → is_gt (slice_cmp nat_cmp a b) ≡ false → is_gt (slice_cmp nat_cmp b c) ≡ false → alike a c ≤ alike a b
nearer_after [] b c h p q = subst (λ n. n ≤ alike [] b) (sym (none_right c)) (omega arith)
nearer_after (x ∷ xs) b [] h p q = subst (λ n. n ≤ alike (x ∷ xs) b) (sym (none_left (x ∷ xs))) (omega arith)
nearer_after (x ∷ xs) [] (z ∷ zs) h p q = cc
nearer_after (x ∷ xs) (y ∷ ys) (z ∷ zs) h p q =
    let first = head_le x y _ _ refl p in
    let second = head_le y z _ _ refl q in
    step x y z xs ys zs (h 0) (λ e. omega (arith, first.0, second.0, e)) (λ e.
    let same : x ≡ y = omega (arith, first.0, second.0, e) in
    (same, nearer_after xs ys zs (tail_bytes x xs h) (first.1 same) (second.1 (sym same ∙ e))))

pub nearer_before : (a b c : List ℕ) → IsBytes a → is_gt (slice_cmp nat_cmp c b) ≡ false → is_gt (slice_cmp nat_cmp b a) ≡ false → alike a c ≤ alike a b
nearer_before [] b c h p q = subst (λ n. n ≤ alike [] b) (sym (none_right c)) (omega arith)
nearer_before (x ∷ xs) b [] h p q = subst (λ n. n ≤ alike (x ∷ xs) b) (sym (none_left (x ∷ xs))) (omega arith)
nearer_before (x ∷ xs) [] (z ∷ zs) h p q = cc
nearer_before (x ∷ xs) (y ∷ ys) (z ∷ zs) h p q =
    let first = head_le z y _ _ refl p in
    let second = head_le y x _ _ refl q in
    step x y z xs ys zs (h 0) (λ e. omega (arith, first.0, second.0, e)) (λ e.
    let same : x ≡ y = omega (arith, first.0, second.0, e) in
    (same, nearer_before xs ys zs (tail_bytes x xs h) (first.1 (sym e ∙ same)) (second.1 (sym same))))
