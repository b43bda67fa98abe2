-- What a reader holds, moves and finds.
use Rattle.std.proofs.Common.{◌≡◌, ◌≢◌, ◌∙◌, sym, ap, refl, subst, ℕ, ◌+◌, ◌-◌, ◌^◌, ◌≤◌, ◌<◌, min, List, [], ◌∷◌, ◌++◌, length, take, drop, get_or, add-zero, cond, Option, Some, None, arith, append_assoc, length-append, eq-eqb, nat_eq, take-append-drop, inl, inr}
use Rattle.std.proofs.lemmas.List.{append-nil, drop_more, take_at, length-take-le, get_or_default, get_or-take, length-take}
use Rattle.std.proofs.lemmas.List.Elements.{recursion_from_All, All-from_recursion}
use Rattle.std.proofs.lemmas.Bool.{eqb-true}
use Rattle.std.proofs.lemmas.Bool.Decides.{eqb_tells}
use Rattle.std.proofs.lemmas.List.Sums.{sum_by-append}
use Rattle.memchr.specs.Find.{IsFirstByte, is_byte}
use Rattle.gx_script.specs.declared.error.ScriptError.{ScriptError}
use Rattle.gx_script.specs.declared.error.ScriptError.TheVariants.{Malformed, ReadFault, TooLong, NoMemory}
use Rattle.gx_store.specs.Outside.{Takes}
use Rattle.gx_script.specs.Items.{NoNewline, line_limit}
use Rattle.gx_script.specs.Script.{IsPartialLine, newlines_in}
use Rattle.gx_script.specs.Reading.{Reading, Moves, Stays, Overruns, Fails, Anything, line_number}
use Rattle.gx_script.specs.Steps.{TookOne, BeginsLine, FoundNewline, GivesLine, BadPieceAt, StopsPiece, LineStops, LineFails, given}
use Rattle.gx_script.specs.Items.{ended}
use Rattle.gx_script.proofs.OutsideLemmas.{takes_none, takes_then, rose_before}

-- A line is longer than its limit.
pub record IsLongLine (bytes : List ℕ) : Type 0 where
  pub front : List ℕ
  pub last : ℕ
  pub more : List ℕ
  pub split : bytes ≡ front ++ last ∷ more
  pub short : IsPartialLine front
  pub full : length front ≡ line_limit
  pub other : last ≢ 10

abbrev pub LongLineAt : Reading → ℕ → List ℕ → Type 0
LongLineAt old line bytes = IsLongLine bytes × (line ≡ line_number old 0)

pub overruns_now : (old : Reading) (left left' : Option (List ℕ)) → old.room ≡ 0 → TookOne left left' → Overruns (λ bytes. bytes ≡ old.held) old left left'
overruns_now old left left' none t = record { taken = []; last = t.last; takes = t.takes; room = sym none; part = append-nil old.held }

pub newlines_append : (xs ys : List ℕ) → newlines_in (xs ++ ys) ≡ newlines_in xs + newlines_in ys
newlines_append xs ys = sum_by-append (λ b. cond (nat_eq b 10) 1 0) xs ys

pub moves_then : (a b c : Reading) (l m n : Option (List ℕ)) (t u : List ℕ) → Moves a b l m t → Moves b c m n u → Moves a c l n (t ++ u)
moves_then a b c l m n t u p q = record {
  taken = p.taken ++ q.taken;
  takes = takes_then l m n p.taken q.taken p.takes q.takes;
  split = sym (append_assoc a.held p.taken q.taken) ∙ ap (λ x. x ++ q.taken) p.split ∙ append_assoc t b.held q.taken ∙ ap (λ x. t ++ x) q.split ∙ sym (append_assoc t u c.held);
  room = omega (arith, length-append p.taken q.taken, p.room, q.room);
  newlines = omega (arith, newlines_append t u, p.newlines, q.newlines);
  failed = q.failed ∙ p.failed;
  hash = q.hash ∙ p.hash;
}

pub moves_none : (a : Reading) (l : Option (List ℕ)) → Moves a a l l []
moves_none a l = record { taken = []; takes = takes_none l; split = append-nil a.held; room = omega arith; newlines = omega arith; failed = refl; hash = refl }

pub stays_after : (P Q : List ℕ → Type 0) (a b : Reading) (l m n : Option (List ℕ)) (t : List ℕ) → Moves a b l m t → ((bytes : List ℕ) → Q bytes → P (t ++ bytes)) → Stays Q b m n → Stays P a l n
stays_after P Q a b l m n t p f s = record {
  taken = p.taken ++ s.taken;
  takes = takes_then l m n p.taken s.taken p.takes s.takes;
  room = omega (arith, length-append p.taken s.taken, p.room, s.room);
  part = subst P (sym (sym (append_assoc a.held p.taken s.taken) ∙ ap (λ x. x ++ s.taken) p.split ∙ append_assoc t b.held s.taken)) (f (b.held ++ s.taken) s.part);
}

overruns_after : (P Q : List ℕ → Type 0) (a b : Reading) (l m n : Option (List ℕ)) (t : List ℕ) → Moves a b l m t → ((bytes : List ℕ) → Q bytes → P (t ++ bytes)) → Overruns Q b m n → Overruns P a l n
overruns_after P Q a b l m n t p f s = record {
  taken = p.taken ++ s.taken;
  last = s.last;
  takes = subst (Takes l n) (sym (append_assoc p.taken s.taken (s.last ∷ []))) (takes_then l m n p.taken (s.taken ++ s.last ∷ []) p.takes s.takes);
  room = omega (arith, length-append p.taken s.taken, p.room, s.room);
  part = subst P (sym (sym (append_assoc a.held p.taken s.taken) ∙ ap (λ x. x ++ s.taken) p.split ∙ append_assoc t b.held s.taken)) (f (b.held ++ s.taken) s.part);
}

-- a failure of a later call is one of the whole
pub fails_after : (P Q : List ℕ → Type 0) (B C : ℕ → List ℕ → Type 0) (a b : Reading) (l m n : Option (List ℕ)) (f g h : ℕ) (t : List ℕ) (e : ScriptError) → Moves a b l m t → ((bytes : List ℕ) → Q bytes → P (t ++ bytes)) → ((line : ℕ) (bytes : List ℕ) → C line bytes → B line (t ++ bytes)) → f ≤ g → Fails Q C b m n g h e → Fails P B a l n f h e
fails_after P Q B C a b l m n f g h t (Malformed line) p part bad le s = stays_after (B line) (C line) a b l m n t p (bad line) s
fails_after P Q B C a b l m n f g h t ReadFault p part bad le s = (stays_after P Q a b l m n t p part s.0, rose_before f g h le s.1)
fails_after P Q B C a b l m n f g h t TooLong p part bad le s = overruns_after P Q a b l m n t p part s
fails_after P Q B C a b l m n f g h t NoMemory p part bad le s = stays_after Anything Anything a b l m n t p (λ bytes any. tt) s

-- lines
pub no_newline_append : (xs ys : List ℕ) → NoNewline xs → NoNewline ys → NoNewline (xs ++ ys)
no_newline_append [] ys p q = q
no_newline_append (x ∷ xs) ys p q = (p.0, no_newline_append xs ys p.1 q)

pub no_newline_front : (xs ys : List ℕ) → NoNewline (xs ++ ys) → NoNewline xs
no_newline_front [] ys p = tt
no_newline_front (x ∷ xs) ys p = (p.0, no_newline_front xs ys p.1)

no_newline_at : (xs : List ℕ) (k d : ℕ) → NoNewline xs → k < length xs → get_or xs k d ≢ 10
no_newline_at xs k d p lt = All-from_recursion (λ b. b ≢ 10) xs p k d lt

split_at : (xs : List ℕ) (k : ℕ) → k < length xs → xs ≡ take k xs ++ get_or xs k 0 ∷ drop (k + 1) xs
split_at xs k lt = sym (ap (λ l. take k xs ++ l) (sym (drop_more xs k 0 lt)) ∙ take-append-drop k xs)

-- where the newline is
pub newline_first : (bytes : List ℕ) (r : Option ℕ) → IsFirstByte (is_byte 10) bytes r → FoundNewline bytes r
newline_first bytes None none = recursion_from_All (λ b. b ≢ 10) bytes (λ k d in' is. none k (omega arith) in' (eq-eqb (get_or bytes k 0) 10 (get_or_default bytes k 0 d in' ∙ is)))
newline_first bytes (Some k) found = record {
  line = take k bytes;
  more = drop (k + 1) bytes;
  split = split_at bytes k found.0.high ∙ ap (λ b. take k bytes ++ b ∷ drop (k + 1) bytes) (eqb-true (get_or bytes k 0) 10 found.1);
  open_line = recursion_from_All (λ b. b ≢ 10) (take k bytes) (λ j d in' is.
      let below : j < k = omega (arith, length-take k bytes) in
      let within : j < length bytes = omega (arith, found.0.high) in
      found.0.before j (omega arith) below (eq-eqb (get_or bytes j 0) 10 (get_or_default bytes j 0 d within ∙ sym (get_or-take k bytes j d below) ∙ is)));
  long = length-take-le k bytes (omega (arith, found.0.high));
}

-- the rest of a line after what was scanned
pub found_line : (held bytes : List ℕ) (scanned count : ℕ) → bytes ≡ drop scanned held → scanned ≤ length held → NoNewline (take scanned held) → BeginsLine bytes count → BeginsLine held (scanned + count)
found_line held bytes scanned count e le p l = record {
  line = take scanned held ++ l.line;
  more = l.more;
  split = sym (take-append-drop scanned held) ∙ ap (λ x. take scanned held ++ x) (sym e ∙ l.split) ∙ sym (append_assoc (take scanned held) l.line (10 ∷ l.more));
  open_line = no_newline_append (take scanned held) l.line p l.open_line;
  long = omega (arith, length-append (take scanned held) l.line, length-take-le scanned held le, l.long);
}

pub found_none : (held bytes : List ℕ) (scanned : ℕ) → bytes ≡ drop scanned held → NoNewline (take scanned held) → NoNewline bytes → NoNewline held
found_none held bytes scanned e p q = subst NoNewline (ap (λ x. take scanned held ++ x) e ∙ take-append-drop scanned held) (no_newline_append (take scanned held) bytes p q)

cut_long : (n : ℕ) (line rest : List ℕ) → n ≡ line_limit → NoNewline line → n < length line → IsLongLine (line ++ rest)
cut_long n line rest e p lt = record {
  front = take n line;
  last = get_or line n 0;
  more = drop (n + 1) line ++ rest;
  split = ap (λ x. x ++ rest) (split_at line n lt) ∙ append_assoc (take n line) (get_or line n 0 ∷ drop (n + 1) line) rest;
  short = record {
    open_line = no_newline_front (take n line) (drop n line) (subst NoNewline (sym (take-append-drop n line)) p);
    short = omega (arith, length-take-le n line (omega arith), e);
  };
  full = length-take-le n line (omega arith) ∙ e;
  other = no_newline_at line n 0 p lt;
}

pub long_line : (held : List ℕ) (count : ℕ) → BeginsLine held count → line_limit < count → IsLongLine held
long_line held count l lt = subst IsLongLine (sym l.split) (cut_long line_limit l.line (10 ∷ l.more) refl l.open_line (omega (arith, l.long)))

pub long_open : (held : List ℕ) → NoNewline held → line_limit < length held → IsLongLine held
long_open held p lt = subst IsLongLine (append-nil held) (cut_long line_limit held [] refl p lt)

-- a failure with what is held now
pub stays_now : (P : List ℕ → Type 0) (a b : Reading) (l m : Option (List ℕ)) → Moves a b l m [] → P b.held → Stays P a l m
stays_now P a b l m p h = record { taken = p.taken; takes = p.takes; room = omega (arith, p.room); part = subst P (sym p.split) h }

pub line_number_same : (a b : Reading) (l m : Option (List ℕ)) (line : ℕ) → Moves a b l m [] → line ≡ line_number b 0 → line ≡ line_number a 0
line_number_same a b l m line p e = e ∙ ap (λ n. min (n + 0 + 1) (2 ^ 64 - 1)) (p.newlines ∙ add-zero a.newlines)

pub line_number_at : (a b : Reading) (l m : Option (List ℕ)) (line n : ℕ) → Moves a b l m [] → line ≡ line_number b n → line ≡ line_number a n
line_number_at a b l m line n p e = e ∙ ap (λ k. min (k + n + 1) (2 ^ 64 - 1)) (p.newlines ∙ add-zero a.newlines)

pub scanned_all : (a b : Reading) (l m : Option (List ℕ)) → Moves a b l m [] → NoNewline a.held → NoNewline (take (length a.held) b.held)
scanned_all a b l m p h = subst NoNewline (sym (ap (take (length a.held)) (sym p.split) ∙ take_at a.held p.taken (length a.held) refl)) h

pub held_more : (a b : Reading) (l m : Option (List ℕ)) → Moves a b l m [] → length a.held ≤ length b.held
held_more a b l m p = omega (arith, ap length p.split, length-append a.held p.taken)

pub scanned_open : (a b : Reading) (l m : Option (List ℕ)) (seen : List ℕ) → seen ≡ a.held → Moves a b l m [] → NoNewline a.held → NoNewline (take (length seen) b.held)
scanned_open a b l m seen e p h = subst (λ (s : List ℕ). NoNewline (take (length s) b.held)) (sym e) (scanned_all a b l m p h)

pub partial_line : (held seen : List ℕ) → seen ≡ held → NoNewline held → length seen ≤ line_limit → IsPartialLine held
partial_line held seen e h le = record { open_line = h; short = omega (arith, ap length e) }

other_count : (x : ℕ) → x ≢ 10 → newlines_in (x ∷ []) ≡ 0
other_count x ne = elim (eqb_tells x 10) [ inl p ↦ absurd (ne p.1) | inr p ↦ rw p.0 refl ]

pub no_newline_count : (xs : List ℕ) → NoNewline xs → newlines_in xs ≡ 0
no_newline_count [] p = refl
no_newline_count (x ∷ xs) p = omega (arith, newlines_append (x ∷ []) xs, other_count x p.0, no_newline_count xs p.1)

-- the byte after a block is no newline
pub bad_block : (Ends : List ℕ → Type 0) (a b : Reading) (l m : Option (List ℕ)) (count line : ℕ) → Moves a b l m [] → count < length b.held → get_or b.held count 0 ≢ 10 → line ≡ line_number b (newlines_in (take count b.held))
    → Stays (BadPieceAt (λ bytes. length bytes ≤ count) Ends (λ front byte. (length front ≡ count) × (byte ≢ 10)) a line) a l m
bad_block Ends a b l m count line p lt ne e = stays_now (BadPieceAt (λ bytes. length bytes ≤ count) Ends (λ front byte. (length front ≡ count) × (byte ≢ 10)) a line) a b l m p (
  newlines_in (take count b.held),
  record {
    front = take count b.held;
    more = get_or b.held count 0 ∷ drop (count + 1) b.held;
    split = split_at b.held count lt;
    part = omega (arith, length-take-le count b.held (omega arith));
    count = refl;
    stops = (length-take-le count b.held (omega arith), ne);
  },
  line_number_at a b l m line (newlines_in (take count b.held)) p e,
)

-- the input ends in a line
pub line_ends : (Ends : List ℕ → Type 0) (Stop : List ℕ → ℕ → Type 0) (a b : Reading) (l m : Option (List ℕ)) (line : ℕ) → Moves a b l m [] → IsPartialLine b.held → Ends b.held → line ≡ line_number b 0 → Stays (BadPieceAt IsPartialLine Ends Stop a line) a l m
line_ends Ends Stop a b l m line p part ends e = stays_now (BadPieceAt IsPartialLine Ends Stop a line) a b l m p
    (0, record { front = b.held; more = []; split = sym (append-nil b.held); part = part; count = sym (no_newline_count b.held part.open_line); stops = ends }, line_number_at a b l m line 0 p e)

-- a line is wrong
pub line_wrong : (Wrong Ends : List ℕ → Type 0) (a b : Reading) (l m : Option (List ℕ)) (size line : ℕ) → Moves a b l m [] → BeginsLine b.held size → size ≤ line_limit → Wrong (take size b.held) → line ≡ line_number b 0 → Stays (BadPieceAt IsPartialLine Ends (LineStops Wrong) a line) a l m
line_wrong Wrong Ends a b l m size line p found short wrong e = stays_now (BadPieceAt IsPartialLine Ends (LineStops Wrong) a line) a b l m p (
  0,
  record {
    front = found.line;
    more = 10 ∷ found.more;
    split = found.split;
    part = record { open_line = found.open_line; short = omega (arith, found.long) };
    count = sym (no_newline_count found.line found.open_line);
    stops = inl (refl, subst Wrong (ap (take size) found.split ∙ take_at found.line (10 ∷ found.more) size found.long) wrong);
  },
  line_number_at a b l m line 0 p e,
)

-- a line is too long
long_bad : (Wrong Ends : List ℕ → Type 0) (a : Reading) (line : ℕ) (bytes : List ℕ) → LongLineAt a line bytes → BadPieceAt IsPartialLine Ends (LineStops Wrong) a line bytes
long_bad Wrong Ends a line bytes (long, e) = (0, record { front = long.front; more = long.last ∷ long.more; split = long.split; part = long.short; count = sym (no_newline_count long.front long.short.open_line); stops = inr (long.other, long.full) }, e)

pub long_now : (Wrong Ends : List ℕ → Type 0) (a b : Reading) (l m : Option (List ℕ)) (line : ℕ) → Moves a b l m [] → IsLongLine b.held → line ≡ line_number b 0 → Stays (BadPieceAt IsPartialLine Ends (LineStops Wrong) a line) a l m
long_now Wrong Ends a b l m line p h e = stays_now (BadPieceAt IsPartialLine Ends (LineStops Wrong) a line) a b l m p (long_bad Wrong Ends a line b.held (h, line_number_at a b l m line 0 p e))

-- what a line fails for may be said more weakly
line_stops : (Ends Ends' Wrong Wrong' : List ℕ → Type 0) → ((front : List ℕ) → Ends front → Ends' front) → ((line : List ℕ) → Wrong line → Wrong' line) → (front more : List ℕ) → StopsPiece Ends (LineStops Wrong) front more → StopsPiece Ends' (LineStops Wrong') front more
line_stops Ends Ends' Wrong Wrong' f g front [] s = f front s
line_stops Ends Ends' Wrong Wrong' f g front (b ∷ more) (inl s) = inl (s.0, g front s.1)
line_stops Ends Ends' Wrong Wrong' f g front (b ∷ more) (inr s) = inr s

pub line_fails : (Ends Ends' Wrong Wrong' : List ℕ → Type 0) (a : Reading) (l m : Option (List ℕ)) (f g : ℕ) (e : ScriptError) → ((front : List ℕ) → Ends front → Ends' front) → ((line : List ℕ) → Wrong line → Wrong' line) → LineFails Ends Wrong a l m f g e → LineFails Ends' Wrong' a l m f g e
line_fails Ends Ends' Wrong Wrong' a l m f g (Malformed line) p q s = record {
  taken = s.taken;
  takes = s.takes;
  room = s.room;
  part = let (newlines, bad, e) = s.part in (newlines, record { front = bad.front; more = bad.more; split = bad.split; part = bad.part; count = bad.count; stops = line_stops Ends Ends' Wrong Wrong' p q bad.front bad.more bad.stops }, e);
}
line_fails Ends Ends' Wrong Wrong' a l m f g ReadFault p q s = s
line_fails Ends Ends' Wrong Wrong' a l m f g TooLong p q s = s
line_fails Ends Ends' Wrong Wrong' a l m f g NoMemory p q s = s

-- the front of what is held is given
pub moves_given : (b c : Reading) (m : Option (List ℕ)) (count : ℕ) → c ≡ given b count → Moves b c m m (take count b.held)
moves_given b c m count new = record {
  taken = [];
  takes = takes_none m;
  split = append-nil b.held ∙ sym (take-append-drop count b.held) ∙ ap (λ (r : Reading). take count b.held ++ r.held) (sym new);
  room = omega (arith, ap (λ (r : Reading). r.room) new);
  newlines = ap (λ (r : Reading). r.newlines) new;
  failed = ap (λ (r : Reading). r.failed) new;
  hash = ap (λ (r : Reading). r.hash) new;
}

pub line_given : (a b c : Reading) (l m : Option (List ℕ)) (size : ℕ) → Moves a b l m [] → BeginsLine b.held size → c ≡ given b (size + 1) → Moves a c l m (ended (take size b.held))
line_given a b c l m size p found new =
    let line : take size b.held ≡ found.line = ap (take size) found.split ∙ take_at found.line (10 ∷ found.more) size found.long in
    let front : take (size + 1) b.held ≡ ended (take size b.held) =
    ap (take (size + 1)) (found.split ∙ sym (append_assoc found.line (10 ∷ []) found.more)) ∙ take_at (found.line ++ 10 ∷ []) found.more (size + 1) (length-append found.line (10 ∷ []) ∙ ap (λ n. n + 1) found.long) ∙ ap ended (sym line) in
    moves_then a b c l m m [] (ended (take size b.held)) p (subst (Moves b c m m) front (moves_given b c m (size + 1) new))

pub line_held : (held : List ℕ) (size : ℕ) → BeginsLine held size → NoNewline (take size held) × (length (take size held) ≡ size)
line_held held size found =
    let line : take size held ≡ found.line = ap (take size) found.split ∙ take_at found.line (10 ∷ found.more) size found.long in
    (subst NoNewline (sym line) found.open_line, ap length line ∙ found.long)

-- a block and the newline after it are given
pub block_given : (a b c d : Reading) (l m : Option (List ℕ)) (count : ℕ) (block : List ℕ) → Moves a b l m [] → count < length b.held → get_or b.held count 0 ≡ 10 → block ≡ take count b.held → c ≡ given b count → d ≡ given c 1 → (length block ≡ count) × Moves a d l m (ended block)
block_given a b c d l m count block p lt is e new newer =
    let rest : take 1 c.held ≡ 10 ∷ [] = ap (λ (r : Reading). take 1 r.held) new ∙ ap (take 1) (drop_more b.held count 0 lt) ∙ ap (λ x. x ∷ []) is in
    let text : take count b.held ++ take 1 c.held ≡ ended block = ap (λ x. take count b.held ++ x) rest ∙ ap ended (sym e) in (
      ap length e ∙ length-take-le count b.held (omega arith),
      moves_then a b d l m m [] (ended block) p (subst (Moves b d m m) text (moves_then b c d m m m (take count b.held) (take 1 c.held) (moves_given b c m count new) (moves_given c d m 1 newer))),
    )

pub gives_line : (Spelled : List ℕ → Type 0) (a b c : Reading) (l m : Option (List ℕ)) (size : ℕ) → Moves a b l m [] → BeginsLine b.held size → size ≤ line_limit → c ≡ given b (size + 1) → Spelled (take size b.held) → GivesLine Spelled a c l m
gives_line Spelled a b c l m size p found short new spelled = record {
  line = take size b.held;
  spelled = spelled;
  open_line = (line_held b.held size found).0;
  short = omega (arith, (line_held b.held size found).1);
  moves = line_given a b c l m size p found new;
}
