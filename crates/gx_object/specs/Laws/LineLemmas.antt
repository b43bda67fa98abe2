-- Lines at the front of bytes.
use Rattle.std.proofs.Common.{◌≡◌, ◌≢◌, ◌∙◌, sym, ap, refl, subst, ℕ, ◌+◌, ◌-◌, ◌<◌, List, [], ◌∷◌, ◌++◌, length, take, drop, get_or, arith, eq-eqb, take-append-drop, append_assoc, Some, None, length-append}
use Rattle.std.specs.List.{flat_map, AllByRecursion}
use Rattle.std.proofs.lemmas.Bool.{eqb-true, ne_eqb}
use Rattle.std.proofs.lemmas.List.{drop_more, get_or_default, get_or-take, length-take, append_cancel_left, take_at, drop_at, take_rest, append-nil}
use Rattle.std.proofs.lemmas.List.Concat.{flat_map-append}
use Rattle.std.proofs.lemmas.List.Elements.{recursion_from_All}
use Rattle.memchr.specs.Find.{IsFirstByte, is_byte}
use Rattle.gx_hash.specs.declared.kind.HashKind.{HashKind}
use Rattle.gx_object.specs.IdentitySpelling.{IdentityText, SpellsIdentity}
use Rattle.gx_hash.specs.IdDigits.{IsHexId}
use Rattle.gx_object.specs.CommitSpelling.{IsOneLine, HeaderText, raw_line, text_line, folded}
use Rattle.gx_object.specs.CommitLines.{IsNotBehind, HasLine, HasNoLine, IsNoIdLine, IsNoIdentityLine, HasIdentityLine, IsHeaderLine, IsNoFold, IsFold, HasHeader, IsNoHeader, SplitsName, Folds, SkipsFolds, fold_line}

-- the text has no such byte
abbrev pub Without : ℕ → List ℕ → Type 0
Without byte text = AllByRecursion (λ b. b ≢ byte) text

pub without_at : (byte : ℕ) (bytes : List ℕ) → IsFirstByte (is_byte byte) bytes None → Without byte bytes
without_at byte bytes none = recursion_from_All (λ b. b ≢ byte) bytes (λ k d in' is. none k (omega arith) in' (eq-eqb (get_or bytes k 0) byte (get_or_default bytes k 0 d in' ∙ is)))

split_at : (xs : List ℕ) (k : ℕ) → k < length xs → xs ≡ take k xs ++ get_or xs k 0 ∷ drop (k + 1) xs
split_at xs k lt = sym (ap (λ l. take k xs ++ l) (sym (drop_more xs k 0 lt)) ∙ take-append-drop k xs)

-- the bytes are split at the first such byte
pub record Splits (byte : ℕ) (bytes front back : List ℕ) : Type 0 where
  pub is : bytes ≡ front ++ byte ∷ back
  pub first : Without byte front

pub splits_at : (byte : ℕ) (bytes : List ℕ) (k : ℕ) → IsFirstByte (is_byte byte) bytes (Some k) → Splits byte bytes (take k bytes) (drop (k + 1) bytes)
splits_at byte bytes k found = record {
  is = split_at bytes k found.0.high ∙ ap (λ b. take k bytes ++ b ∷ drop (k + 1) bytes) (eqb-true (get_or bytes k 0) byte found.1);
  first = recursion_from_All (λ b. b ≢ byte) (take k bytes) (λ j d in' is.
      let below : j < k = omega (arith, length-take k bytes) in
      let within : j < length bytes = omega (arith, found.0.high) in
      found.0.before j (omega arith) below (eq-eqb (get_or bytes j 0) byte (get_or_default bytes j 0 d within ∙ sym (get_or-take k bytes j d below) ∙ is)));
}

pub has_byte : (c : ℕ) (a x : List ℕ) → Without c (a ++ c ∷ x) → ⊥
has_byte c [] x p = p.0 refl
has_byte c (y ∷ a) x p = has_byte c a x p.1

pub same_split : (c : ℕ) (a b x y : List ℕ) → Without c a → Without c b → a ++ c ∷ x ≡ b ++ c ∷ y → (a ≡ b) × (x ≡ y)
same_split c [] [] x y p q e = (refl, cc)
same_split c [] (b ∷ bs) x y p q e = let h : c ≡ b = cc in absurd (q.0 (sym h))
same_split c (a ∷ as') [] x y p q e = let h : a ≡ c = cc in absurd (p.0 h)
same_split c (a ∷ as') (b ∷ bs) x y p q e =
    let t : as' ++ c ∷ x ≡ bs ++ c ∷ y = cc in
    let r : (as' ≡ bs) × (x ≡ y) = same_split c as' bs x y p.1 q.1 t in
    let rest : as' ≡ bs = r.0 in
    (cc, r.1)

pub without_append : (c : ℕ) (xs ys : List ℕ) → Without c xs → Without c ys → Without c (xs ++ ys)
without_append c [] ys p q = q
without_append c (x ∷ xs) ys p q = (p.0, without_append c xs ys p.1 q)

pub without_front : (c : ℕ) (xs ys : List ℕ) → Without c (xs ++ ys) → Without c xs
without_front c [] ys p = tt
without_front c (x ∷ xs) ys p = (p.0, without_front c xs ys p.1)

pub without_back : (c : ℕ) (xs ys : List ℕ) → Without c (xs ++ ys) → Without c ys
without_back c [] ys p = p
without_back c (x ∷ xs) ys p = without_back c xs ys p.1

-- Bytes begin with one line.
pub one_line : (bytes a b x y : List ℕ) → HasLine bytes a x → HasLine bytes b y → (a ≡ b) × (x ≡ y)
one_line bytes a b x y p q = same_split 10 a b x y p.one q.one (sym p.is ∙ q.is)

pub no_line : (bytes : List ℕ) → IsFirstByte (is_byte 10) bytes None → HasNoLine bytes
no_line bytes none line rest has = has_byte 10 line rest (subst (Without 10) has.is (without_at 10 bytes none))

pub line_at : (bytes : List ℕ) (k : ℕ) → IsFirstByte (is_byte 10) bytes (Some k) → HasLine bytes (take k bytes) (take (length bytes - (k + 1)) (drop (k + 1) bytes))
line_at bytes k found =
    let s = splits_at 10 bytes k found in
    record { is = s.is ∙ ap (λ l. take k bytes ++ 10 ∷ l) (sym (take_rest bytes (k + 1))); one = s.first }

pub not_behind : (bytes line rest word : List ℕ) → HasLine bytes line rest → IsNotBehind word line → (text more : List ℕ) → HasLine bytes (word ++ text) more → ⊥
not_behind bytes line rest word has none text more other = none text (one_line bytes line (word ++ text) rest more has other).0

pub same_behind : (bytes line rest word text : List ℕ) → HasLine bytes line rest → line ≡ word ++ text → (other more : List ℕ) → HasLine bytes (word ++ other) more → text ≡ other
same_behind bytes line rest word text has is other more it = append_cancel_left word text other (sym is ∙ (one_line bytes line (word ++ other) rest more has it).0)

pub no_id : (hash : HashKind) (bytes line rest word text : List ℕ) → HasLine bytes line rest → line ≡ word ++ text → (IsHexId hash text → ⊥) → IsNoIdLine hash word bytes
no_id hash bytes line rest word text has is none other more id it = none (subst (IsHexId hash) (sym (same_behind bytes line rest word text has is other more it)) id)

pub no_identity : (bytes line rest word text : List ℕ) → HasLine bytes line rest → line ≡ word ++ text → ((who : IdentityText) → SpellsIdentity text who → ⊥) → IsNoIdentityLine word bytes
no_identity bytes line rest word text has is none other more who spells it = none who (subst (λ l. SpellsIdentity l who) (sym (same_behind bytes line rest word text has is other more it)) spells)

pub line_of : (bytes line rest word text : List ℕ) → HasLine bytes line rest → line ≡ word ++ text → bytes ≡ text_line word text ++ rest
line_of bytes line rest word text has is = has.is ∙ ap (λ l. l ++ 10 ∷ rest) is ∙ append_assoc word text (10 ∷ rest) ∙ ap (λ l. word ++ l) (sym (append_assoc text (10 ∷ []) rest)) ∙ sym (append_assoc word (text ++ 10 ∷ []) rest)

pub identity_at : (bytes line rest word text : List ℕ) (who : IdentityText) → HasLine bytes line rest → line ≡ word ++ text → SpellsIdentity text who → HasIdentityLine word bytes who rest
identity_at bytes line rest word text who has is spells = record {
  line = text;
  is = line_of bytes line rest word text has is;
  one = without_back 10 word text (subst (Without 10) is has.one);
  spells = spells;
}

-- Names of headers.
pub name_without_space : (name : List ℕ) → AllByRecursion (λ b. (b ≢ 32) × (b ≢ 10)) name → Without 32 name
name_without_space [] p = tt
name_without_space (b ∷ bs) p = (p.0.0, name_without_space bs p.1)

pub name_without_newline : (name : List ℕ) → AllByRecursion (λ b. (b ≢ 32) × (b ≢ 10)) name → Without 10 name
name_without_newline [] p = tt
name_without_newline (b ∷ bs) p = (p.0.1, name_without_newline bs p.1)

open_name : (name : List ℕ) → Without 32 name → Without 10 name → AllByRecursion (λ b. (b ≢ 32) × (b ≢ 10)) name
open_name [] p q = tt
open_name (b ∷ bs) p q = ((p.0, q.0), open_name bs p.1 q.1)

pub no_name : (line : List ℕ) → IsFirstByte (is_byte 32) line None → IsHeaderLine line → ⊥
no_name line none (name, text, is, e) = has_byte 32 name text (subst (Without 32) e (without_at 32 line none))

pub empty_name : (line : List ℕ) → IsFirstByte (is_byte 32) line (Some 0) → IsHeaderLine line → ⊥
empty_name line found (name, text, is, e) =
    let s = splits_at 32 line 0 found in
    is.0 (sym (same_split 32 [] name (drop 1 line) text tt (name_without_space name is.1) (sym s.is ∙ e)).0)

pub name_at : (line : List ℕ) (k : ℕ) → 0 < k → IsOneLine line → IsFirstByte (is_byte 32) line (Some k) → SplitsName line (take k line) (take (length line - (k + 1)) (drop (k + 1) line))
name_at line k some open_ found =
    let s = splits_at 32 line k found in
    record {
      is = s.is ∙ ap (λ l. take k line ++ 32 ∷ l) (sym (take_rest line (k + 1)));
      name_is = (
        (λ e. absurd (omega (arith, ap length e, length-take k line, found.0.high))),
        open_name (take k line) s.first (without_front 10 (take k line) (32 ∷ drop (k + 1) line) (subst (Without 10) s.is open_)),
      );
    }

-- Lines that go on with a header.
pub fold_shorter : (bytes rest : List ℕ) → IsFold bytes rest → length rest < length bytes
fold_shorter bytes rest f = omega (arith, ap length f.has.is, length-append (32 ∷ f.line) (10 ∷ rest))

pub no_fold : (bytes line rest : List ℕ) → HasLine bytes line rest → IsNotBehind (32 ∷ []) line → IsNoFold bytes
no_fold bytes line rest has none text more other = not_behind bytes line rest (32 ∷ []) has none text more other

pub no_line_fold : (bytes : List ℕ) → HasNoLine bytes → IsNoFold bytes
no_line_fold bytes none text more has = none (32 ∷ text) more has

pub folds_none : (bytes : List ℕ) → Folds bytes bytes
folds_none bytes = record { lines = []; is = refl; each = tt }

each_more : (lines : List (List ℕ)) (line : List ℕ) → AllByRecursion IsOneLine lines → IsOneLine line → AllByRecursion IsOneLine (lines ++ line ∷ [])
each_more [] line p q = (q, tt)
each_more (l ∷ ls) line p q = (p.0, each_more ls line p.1 q)

fold_text : (line more : List ℕ) → (32 ∷ line) ++ 10 ∷ more ≡ fold_line line ++ more
fold_text line more = ap (λ l. 32 ∷ l) (sym (append_assoc line (10 ∷ []) more))

pub folds_more : (bytes rest more : List ℕ) → Folds bytes rest → IsFold rest more → Folds bytes more
folds_more bytes rest more p f = record {
  lines = p.lines ++ f.line ∷ [];
  is = p.is ∙ ap (λ l. flat_map fold_line p.lines ++ l) (f.has.is ∙ fold_text f.line more)
      ∙ sym (append_assoc (flat_map fold_line p.lines) (fold_line f.line) more)
      ∙ ap (λ l. l ++ more) (sym (flat_map-append fold_line p.lines (f.line ∷ []) ∙ ap (λ l. flat_map fold_line p.lines ++ l) (append-nil (fold_line f.line))));
  each = each_more p.lines f.line p.each (f.has.one.1);
}

-- a folded value contains a line as it is
pub folded_line : (line more : List ℕ) → IsOneLine line → folded (line ++ more) ≡ line ++ folded more
folded_line [] more p = refl
folded_line (b ∷ bs) more p = rw (ne_eqb b 10 p.0) (ap (λ l. b ∷ l) (folded_line bs more p.1))

-- the lines after newlines
abbrev pub behind_newlines : List (List ℕ) → List ℕ
behind_newlines lines = flat_map (λ line. 10 ∷ line) lines

pub folded_lines : (lines : List (List ℕ)) → AllByRecursion IsOneLine lines → 10 ∷ flat_map fold_line lines ≡ folded (behind_newlines lines) ++ 10 ∷ []
folded_lines [] p = refl
folded_lines (l ∷ ls) p =
    ap (λ r. 10 ∷ 32 ∷ r) (append_assoc l (10 ∷ []) (flat_map fold_line ls) ∙ ap (λ r. l ++ r) (folded_lines ls p.1) ∙ sym (append_assoc l (folded (behind_newlines ls)) (10 ∷ [])) ∙ ap (λ r. r ++ 10 ∷ []) (sym (folded_line l (behind_newlines ls) p.0)))

pub no_header : (bytes line behind : List ℕ) → HasLine bytes line behind → (IsHeaderLine line → ⊥) → IsNoHeader bytes
no_header bytes line behind has none other rest is it = none (subst IsHeaderLine (sym (one_line bytes line other behind rest has it).0) is)

pub raw_line_open : (h : HeaderText) (rest : List ℕ) → raw_line h ++ rest ≡ h.name ++ 32 ∷ (h.raw ++ 10 ∷ rest)
raw_line_open h rest = append_assoc h.name (32 ∷ h.raw ++ 10 ∷ []) rest ∙ ap (λ l. h.name ++ 32 ∷ l) (append_assoc h.raw (10 ∷ []) rest)

-- a header's lines are its folded value
value_lines : (first rest : List ℕ) (lines : List (List ℕ)) → IsOneLine first → AllByRecursion IsOneLine lines → first ++ 10 ∷ (flat_map fold_line lines ++ rest) ≡ folded (first ++ behind_newlines lines) ++ 10 ∷ rest
value_lines first rest lines open_ each =
    ap (λ l. first ++ l) (ap (λ l. l ++ rest) (folded_lines lines each) ∙ append_assoc (folded (behind_newlines lines)) (10 ∷ []) rest)
    ∙ sym (append_assoc first (folded (behind_newlines lines)) (10 ∷ rest))
    ∙ ap (λ l. l ++ 10 ∷ rest) (sym (folded_line first (behind_newlines lines) open_))

-- what is between two parts whose lengths are known
between : (bytes front mid back : List ℕ) → bytes ≡ front ++ (mid ++ back) → take (length bytes - length back - length front) (drop (length front) bytes) ≡ mid
between bytes front mid back e =
    ap (take (length bytes - length back - length front)) (ap (drop (length front)) e ∙ drop_at front (mid ++ back) (length front) refl)
    ∙ take_at mid back (length bytes - length back - length front) (omega (arith, ap length e, length-append front (mid ++ back), length-append mid back))

pub header_at : (bytes line behind name first rest raw : List ℕ) → HasLine bytes line behind → SplitsName line name first → SkipsFolds behind rest
    → raw ≡ take (length bytes - length rest - 1 - (length name + 1)) (drop (length name + 1) bytes) → HasHeader bytes (record { name = name; raw = raw }) rest
header_at bytes line behind name first rest raw has split skips cut =
    let lines = skips.0.lines in
    let value = first ++ behind_newlines lines in
    let open_ : IsOneLine first = (without_back 10 name (32 ∷ first) (subst (Without 10) split.is has.one)).1 in
    let whole : bytes ≡ name ++ 32 ∷ (folded value ++ 10 ∷ rest) =
    has.is ∙ ap (λ l. l ++ 10 ∷ behind) split.is ∙ append_assoc name (32 ∷ first) (10 ∷ behind)
    ∙ ap (λ l. name ++ 32 ∷ (first ++ 10 ∷ l)) skips.0.is ∙ ap (λ l. name ++ 32 ∷ l) (value_lines first rest lines open_ skips.0.each) in
    let parts : bytes ≡ (name ++ 32 ∷ []) ++ (folded value ++ 10 ∷ rest) = whole ∙ sym (append_assoc name (32 ∷ []) (folded value ++ 10 ∷ rest)) in
    let front : length (name ++ 32 ∷ []) ≡ length name + 1 = length-append name (32 ∷ []) in
    let same : raw ≡ folded value =
    cut ∙ ap (λ n. take (length bytes - length rest - 1 - n) (drop n bytes)) (sym front)
    ∙ ap (λ n. take (n - length (name ++ 32 ∷ [])) (drop (length (name ++ 32 ∷ [])) bytes)) (omega (arith))
    ∙ between bytes (name ++ 32 ∷ []) (folded value) (10 ∷ rest) parts in
    record {
      is = whole ∙ ap (λ l. name ++ 32 ∷ (l ++ 10 ∷ rest)) (sym same) ∙ sym (raw_line_open (record { name = name; raw = raw }) rest);
      header = (split.name_is, (value, same));
      ends = skips.1;
    }
