-- From a state on, bytes are read in one way only, and what goes wrong after good items goes wrong before them.
use Rattle.std.proofs.Common.{◌≡◌, ◌∙◌, sym, ap, refl, subst, ℕ, ◌+◌, ◌-◌, ◌^◌, ◌≤◌, min, List, [], ◌∷◌, ◌++◌, length, take, drop, arith, append_assoc, length-append, Option, inl, inr}
use Rattle.std.proofs.lemmas.List.{append-nil, take_at, drop_at}
use Rattle.std.proofs.lemmas.Grind.{flat_map-append}
use Rattle.gx_hash.specs.declared.kind.HashKind.{HashKind}
use Rattle.gx_store.specs.Outside.{IsEnd}
use Rattle.gx_script.specs.declared.error.ScriptError.{ScriptError}
use Rattle.gx_script.specs.Grammar.{State, AtFirst, AtAuthor, AtCommitter, AtParent, AtContent, AtEdit, AtFile, AtPerson, AtMessage, AtText, AtEnd, AtNote, AtOver, Goes, Wants, Good, after, Leads, BeginsFrom, Stands, IsWrongFrom, StopsFrom, IsBadFrom, BadFromAt, FailsFrom}
use Rattle.gx_script.specs.Items.{Item, Line, Block, item_text, items_text, ended, NoNewline}
use Rattle.gx_script.specs.Script.{IsPartialLine, IsPart, newlines_in}
use Rattle.gx_script.specs.Reading.{Reading, Moves, Fails, line_number}
use Rattle.gx_script.specs.Steps.{BadPieceAt, StopsPiece, LineStops, LineFails, BlockStops, BlockFails}
use Rattle.gx_script.proofs.LineLemmas.{has_byte, same_split, without_append}
use Rattle.gx_script.proofs.ReaderLemmas.{moves_then, moves_none, fails_after, newlines_append}

-- Both are lines, or both are blocks of one length.
abbrev pub SameKind : Item → Item → Type 0
SameKind (Line a) (Line b) = NoNewline a × NoNewline b
SameKind (Line a) (Block b) = ⊥
SameKind (Block a) (Line b) = ⊥
SameKind (Block a) (Block b) = length a ≡ length b

-- As long as two lists have the same items, the next ones are of one kind.
abbrev pub AreAlike : List Item → List Item → Type 0
AreAlike [] [] = Unit {0}
AreAlike [] (y ∷ ys) = ⊥
AreAlike (x ∷ xs) [] = ⊥
AreAlike (x ∷ xs) (y ∷ ys) = SameKind x y × (x ≡ y → AreAlike xs ys)

pub open_ended : (l x : List ℕ) → ended l ++ x ≡ l ++ 10 ∷ x
open_ended l x = append_assoc l (10 ∷ []) x

same_front : (a b x y : List ℕ) → length a ≡ length b → a ++ x ≡ b ++ y → (a ≡ b) × (x ≡ y)
same_front a b x y l e = (sym (take_at a x (length a) refl) ∙ ap (take (length a)) e ∙ take_at b y (length a) (sym l), sym (drop_at a x (length a) refl) ∙ ap (drop (length a)) e ∙ drop_at b y (length a) (sym l))

pub stands_part : (before : List Item) (next : Item) (after : List Item) (part : List ℕ) → IsPart next part → Stands (before ++ next ∷ after) (items_text before ++ part)
stands_part [] next after part h = inl h
stands_part (x ∷ xs) next after part h = inr (items_text xs ++ part, append_assoc (item_text x) (items_text xs) part, stands_part xs next after part h)

pub stands_whole : (items : List Item) (rest : List ℕ) → Stands items (items_text items ++ rest)
stands_whole [] rest = tt
stands_whole (x ∷ xs) rest = inr (items_text xs ++ rest, append_assoc (item_text x) (items_text xs) rest, stands_whole xs rest)

no_part : (x y : Item) (more : List ℕ) → SameKind x y → IsPart y (item_text x ++ more) → ⊥
no_part (Line a) (Line b) more k p = has_byte 10 a more (subst NoNewline (open_ended a more) p.open_line)
no_part (Line a) (Block b) more k p = absurd k
no_part (Block a) (Line b) more k p = absurd k
no_part (Block a) (Block b) more k p = absurd (omega (arith, length-append (ended a) more, length-append a (10 ∷ [])))

pub same_item : (x y : Item) (s t : List ℕ) → SameKind x y → item_text x ++ s ≡ item_text y ++ t → (x ≡ y) × (s ≡ t)
same_item (Line a) (Line b) s t k e =
    let r = same_split 10 a b s t k.0 k.1 (sym (open_ended a s) ∙ e ∙ open_ended b t) in (ap Line r.0, r.1)
same_item (Line a) (Block b) s t k e = absurd k
same_item (Block a) (Line b) s t k e = absurd k
same_item (Block a) (Block b) s t k e =
    let r = same_front a b (10 ∷ s) (10 ∷ t) k (sym (open_ended a s) ∙ e ∙ open_ended b t) in
    let tail : 10 ∷ s ≡ 10 ∷ t = r.1 in
    let rest : s ≡ t = cc in (ap Block r.0, rest)

wrong_line : (Wrong : List ℕ → Type 0) (line : List ℕ) (after ys : List Item) (front : List ℕ) (b : ℕ) → IsPartialLine front → AreAlike (Line line ∷ after) ys → Stands ys (front ++ b ∷ []) → LineStops Wrong front b → ((ys' : List Item) → ys ≡ Line front ∷ ys' → Wrong front → ⊥) → ⊥
wrong_line Wrong line after [] front b part alike stands stops f = absurd alike
wrong_line Wrong line after ((Block c) ∷ ys) front b part alike stands stops f = absurd alike.0
wrong_line Wrong line after ((Line l) ∷ ys) front b part alike (inl p) (inl (is, wrong)) f = has_byte 10 front [] (subst (λ x. NoNewline (front ++ x ∷ [])) is p.open_line)
wrong_line Wrong line after ((Line l) ∷ ys) front b part alike (inl p) (inr (other, full)) f = absurd (omega (arith, p.short, length-append front (b ∷ []), full))
wrong_line Wrong line after ((Line l) ∷ ys) front b part alike (inr (more, e, s)) (inl (is, wrong)) f =
    let r = same_split 10 front l [] more part.open_line alike.0.1 (ap (λ x. front ++ x ∷ []) (sym is) ∙ e ∙ open_ended l more) in
    f ys (ap (λ (x : List ℕ). Line x ∷ ys) (sym r.0)) wrong
wrong_line Wrong line after ((Line l) ∷ ys) front b part alike (inr (more, e, s)) (inr (other, full)) f =
    has_byte 10 l more (subst NoNewline (e ∙ open_ended l more) (without_append 10 front (b ∷ []) part.open_line (other, tt)))

wrong_block : (block : List ℕ) (after ys : List Item) (front : List ℕ) (b : ℕ) → AreAlike (Block block ∷ after) ys → Stands ys (front ++ b ∷ []) → BlockStops (length block) front b → ⊥
wrong_block block after [] front b alike stands stops = absurd alike
wrong_block block after ((Line l) ∷ ys) front b alike stands stops = absurd alike.0
wrong_block block after ((Block c) ∷ ys) front b alike (inl p) stops = absurd (omega (arith, alike.0, p, stops.0, length-append front (b ∷ [])))
wrong_block block after ((Block c) ∷ ys) front b alike (inr (more, e, s)) stops =
    let r = same_front front c (b ∷ []) (10 ∷ more) (stops.0 ∙ alike.0) (e ∙ open_ended c more) in
    let tail : b ∷ [] ≡ 10 ∷ more = r.1 in
    let is : b ≡ 10 = cc in stops.1 is

-- What a state wants is a line, or a block of one size.
apart : (hash : HashKind) (q : State) (line : List ℕ) (n : ℕ) → Goes hash q line → Wants q n → ⊥
apart hash AtFirst line n g w = w
apart hash AtAuthor line n g w = w
apart hash AtCommitter line n g w = w
apart hash (AtParent k) line n g w = w
apart hash (AtContent s) line n g w = g
apart hash (AtEdit k r) line n g w = w
apart hash (AtFile s k r) line n g w = g
apart hash (AtPerson word) line n g w = w
apart hash AtMessage line n g w = w
apart hash (AtText s) line n g w = g
apart hash AtEnd line n g w = w
apart hash (AtNote s) line n g w = g
apart hash AtOver line n g w = w

same_wants : (q : State) (n m : ℕ) → Wants q n → Wants q m → n ≡ m
same_wants AtFirst n m p w = absurd w
same_wants AtAuthor n m p w = absurd w
same_wants AtCommitter n m p w = absurd w
same_wants (AtParent k) n m p w = absurd w
same_wants (AtContent s) n m p w = p.0 ∙ sym w.0
same_wants (AtEdit k r) n m p w = absurd w
same_wants (AtFile s k r) n m p w = p.0 ∙ sym w.0
same_wants (AtPerson word) n m p w = absurd w
same_wants AtMessage n m p w = absurd w
same_wants (AtText s) n m p w = p.0 ∙ sym w.0
same_wants AtEnd n m p w = absurd w
same_wants (AtNote s) n m p w = p.0 ∙ sym w.0
same_wants AtOver n m p w = absurd w

good_alike : (hash : HashKind) (q : State) (x y : Item) → Good hash q x → Good hash q y → SameKind x y
good_alike hash q (Line a) (Line b) g h = (g.open_line, h.open_line)
good_alike hash q (Line a) (Block b) g h = apart hash q a (length b) g.goes h
good_alike hash q (Block a) (Line b) g h = apart hash q b (length a) h.goes g
good_alike hash q (Block a) (Block b) g h = same_wants q (length a) (length b) g h

none_over : (hash : HashKind) (y : Item) → Good hash AtOver y → ⊥
none_over hash (Line l) g = g.goes
none_over hash (Block b) g = g

pub over_none : (hash : HashKind) (q : State) (y : Item) → q ≡ AtOver → Good hash q y → ⊥
over_none hash q y e g = none_over hash y (subst (λ (z : State). Good hash z y) e g)

pub leads_alike : (hash : HashKind) (q : State) (xs ys : List Item) → Leads hash q xs AtOver → Leads hash q ys AtOver → AreAlike xs ys
leads_alike hash q [] [] p g = tt
leads_alike hash q [] (y ∷ ys) p g = over_none hash q y p g.0
leads_alike hash q (x ∷ xs) [] p g = over_none hash q x g p.0
leads_alike hash q (x ∷ xs) (y ∷ ys) p g = (good_alike hash q x y p.0 g.0, λ e. leads_alike hash (after q x) xs ys p.1 (subst (λ (z : Item). Leads hash (after q z) ys AtOver) (sym e) g.1))

pub leads_append : (hash : HashKind) (xs ys : List Item) (q r s : State) → Leads hash q xs r → Leads hash r ys s → Leads hash q (xs ++ ys) s
leads_append hash [] ys q r s e g = subst (λ (z : State). Leads hash z ys s) (sym e) g
leads_append hash (x ∷ xs) ys q r s p g = (p.0, leads_append hash xs ys (after q x) r s p.1 g)

pub begins_after : (hash : HashKind) (q r : State) (before : List Item) (bytes : List ℕ) → Leads hash q before r → BeginsFrom hash r bytes → BeginsFrom hash q (items_text before ++ bytes)
begins_after hash q r before bytes leads b = record {
  before = before ++ b.before;
  next = b.next;
  rest = b.rest;
  part = b.part;
  leads = subst (λ (items : List Item). Leads hash q items AtOver) (sym (append_assoc before b.before (b.next ∷ b.rest))) (leads_append hash before (b.before ++ b.next ∷ b.rest) q r AtOver leads b.leads);
  begun = b.begun;
  is = ap (λ (x : List ℕ). items_text before ++ x) b.is ∙ sym (append_assoc (items_text before) (items_text b.before) b.part) ∙ ap (λ (x : List ℕ). x ++ b.part) (sym (flat_map-append item_text before b.before));
}

pub wrong_after : (hash : HashKind) (q r : State) (before : List Item) (bytes : List ℕ) → Leads hash q before r → IsWrongFrom hash r bytes → IsWrongFrom hash q (items_text before ++ bytes)
wrong_after hash q r [] bytes e wrong items leads stands = wrong items (subst (λ (z : State). Leads hash z items AtOver) e leads) stands
wrong_after hash q r (x ∷ xs) bytes p wrong [] leads stands = over_none hash q x leads p.0
wrong_after hash q r (x ∷ xs) bytes p wrong (y ∷ ys) leads (inl part) =
    no_part x y (items_text xs ++ bytes) (good_alike hash q x y p.0 leads.0) (subst (IsPart y) (append_assoc (item_text x) (items_text xs) bytes) part)
wrong_after hash q r (x ∷ xs) bytes p wrong (y ∷ ys) leads (inr (more, is, s)) =
    let same = same_item x y (items_text xs ++ bytes) more (good_alike hash q x y p.0 leads.0) (sym (append_assoc (item_text x) (items_text xs) bytes) ∙ is) in
    wrong_after hash (after q x) r xs bytes p.1 wrong ys (subst (λ (z : Item). Leads hash (after q z) ys AtOver) (sym same.0) leads.1) (subst (Stands ys) (sym same.1) s)

bad_after : (hash : HashKind) (q r : State) (before : List Item) (a b : Reading) (l m k : Option (List ℕ)) → Leads hash q before r → Moves a b l m (items_text before)
    → (line : ℕ) (bytes : List ℕ) → (newlines : ℕ) × IsBadFrom hash r bytes (IsEnd k) newlines × (line ≡ line_number b newlines)
    → (newlines : ℕ) × IsBadFrom hash q (items_text before ++ bytes) (IsEnd k) newlines × (line ≡ line_number a newlines)
bad_after hash q r before a b l m k leads p line bytes (newlines, bad, e) = (
  newlines_in (items_text before) + newlines,
  record {
    front = items_text before ++ bad.front;
    more = bad.more;
    split = ap (λ x. items_text before ++ x) bad.split ∙ sym (append_assoc (items_text before) bad.front bad.more);
    begins = begins_after hash q r before bad.front leads bad.begins;
    count = omega (arith, newlines_append (items_text before) bad.front, bad.count);
    stops = stop bad.front bad.more bad.stops;
  },
  e ∙ line_is,
)
  where
    stop : (front more : List ℕ) → StopsFrom hash r (IsEnd k) front more → StopsFrom hash q (IsEnd k) (items_text before ++ front) more
    stop front [] s = s
    stop front (x ∷ more) s = subst (IsWrongFrom hash q) (sym (append_assoc (items_text before) front (x ∷ []))) (wrong_after hash q r before (front ++ x ∷ []) leads s)

    line_is : min (b.newlines + newlines + 1) (2 ^ 64 - 1) ≡ min (a.newlines + (newlines_in (items_text before) + newlines) + 1) (2 ^ 64 - 1)
    line_is = omega (arith, p.newlines)

-- A failure after good items is one before them.
pub fails_behind : (q r : State) (before : List Item) (a b : Reading) (l m k : Option (List ℕ)) (f g h : ℕ) (e : ScriptError) → Leads a.hash q before r → Moves a b l m (items_text before) → f ≤ g → FailsFrom r b m k g h e → FailsFrom q a l k f h e
fails_behind q r before a b l m k f g h e leads p le fails =
    fails_after (BeginsFrom a.hash q) (BeginsFrom a.hash r) (BadFromAt q a k) (λ line bytes. (newlines : ℕ) × IsBadFrom a.hash r bytes (IsEnd k) newlines × (line ≡ line_number b newlines)) a b l m k f g h (items_text before) e p
    (λ bytes begins. begins_after a.hash q r before bytes leads begins)
    (bad_after a.hash q r before a b l m k leads p)
    le
    (subst (λ (hash : HashKind). Fails (BeginsFrom hash r) (λ line bytes. (newlines : ℕ) × IsBadFrom hash r bytes (IsEnd k) newlines × (line ≡ line_number b newlines)) b m k g h e) p.hash fails)

-- Some line comes next, or a block of a size.
pub record HasLineNext (hash : HashKind) (q : State) : Type 0 where
  pub line : List ℕ
  pub rest : List Item
  pub leads : Leads hash q (Line line ∷ rest) AtOver

pub record HasBlockNext (hash : HashKind) (q : State) (count : ℕ) : Type 0 where
  pub block : List ℕ
  pub rest : List Item
  pub size : length block ≡ count
  pub leads : Leads hash q (Block block ∷ rest) AtOver

pub line_wrong_from : (hash : HashKind) (q : State) (Wrong : List ℕ → Type 0) (front : List ℕ) (b : ℕ) → HasLineNext hash q → ((line : List ℕ) → Wrong line → Goes hash q line → ⊥) → IsPartialLine front → LineStops Wrong front b → IsWrongFrom hash q (front ++ b ∷ [])
line_wrong_from hash q Wrong front b w none part stops items leads stands =
    wrong_line Wrong w.line w.rest items front b part (leads_alike hash q (Line w.line ∷ w.rest) items w.leads leads) stands stops
    (λ ys e wrong. let here : Leads hash q (Line front ∷ ys) AtOver = subst (λ (z : List Item). Leads hash q z AtOver) e leads in none front wrong here.0.goes)

pub line_begins : (hash : HashKind) (q : State) (part : List ℕ) → HasLineNext hash q → IsPartialLine part → BeginsFrom hash q part
line_begins hash q part w h = record { before = []; next = Line w.line; rest = w.rest; part = part; leads = w.leads; begun = h; is = refl }

block_begins : (hash : HashKind) (q : State) (count : ℕ) (part : List ℕ) → HasBlockNext hash q count → length part ≤ count → BeginsFrom hash q part
block_begins hash q count part w h = record { before = []; next = Block w.block; rest = w.rest; part = part; leads = w.leads; begun = omega (arith, w.size); is = refl }

block_wrong_from : (hash : HashKind) (q : State) (count : ℕ) (front : List ℕ) (b : ℕ) → HasBlockNext hash q count → BlockStops count front b → IsWrongFrom hash q (front ++ b ∷ [])
block_wrong_from hash q count front b w stops items leads stands =
    wrong_block w.block w.rest items front b (leads_alike hash q (Block w.block ∷ w.rest) items w.leads leads) stands (stops.0 ∙ sym w.size, stops.1)

piece_bad : (q : State) (Part Ends : List ℕ → Type 0) (Stop : List ℕ → ℕ → Type 0) (a : Reading) (k : Option (List ℕ)) → ((front : List ℕ) → Part front → BeginsFrom a.hash q front) → ((front : List ℕ) (x : ℕ) → Part front → Stop front x → IsWrongFrom a.hash q (front ++ x ∷ []))
    → ((front : List ℕ) → Ends front → IsEnd k) → (line : ℕ) (bytes : List ℕ) → BadPieceAt Part Ends Stop a line bytes → BadFromAt q a k line bytes
piece_bad q Part Ends Stop a k begins stops ends line bytes (newlines, bad, e) = (
  newlines,
  record { front = bad.front; more = bad.more; split = bad.split; begins = begins bad.front bad.part; count = bad.count; stops = stop bad.front bad.more bad.part bad.stops },
  e,
)
  where
    stop : (front more : List ℕ) → Part front → StopsPiece Ends Stop front more → StopsFrom a.hash q (IsEnd k) front more
    stop front [] part s = ends front s
    stop front (x ∷ more) part s = stops front x part s

-- A line that fails, fails from its state.
pub line_fails_from : (q : State) (Wrong : List ℕ → Type 0) (a : Reading) (l k : Option (List ℕ)) (f h : ℕ) (e : ScriptError) → HasLineNext a.hash q → ((line : List ℕ) → Wrong line → Goes a.hash q line → ⊥) → LineFails (λ front. IsEnd k) Wrong a l k f h e → FailsFrom q a l k f h e
line_fails_from q Wrong a l k f h e w none fails =
    fails_after (BeginsFrom a.hash q) IsPartialLine (BadFromAt q a k) (BadPieceAt IsPartialLine (λ front. IsEnd k) (LineStops Wrong) a) a a l l k f f h [] e (moves_none a l)
    (λ bytes part. line_begins a.hash q bytes w part)
    (piece_bad q IsPartialLine (λ front. IsEnd k) (LineStops Wrong) a k (λ front part. line_begins a.hash q front w part) (λ front x part stop. line_wrong_from a.hash q Wrong front x w none part stop) (λ front end. end))
    (omega arith) fails

-- A block that fails, fails from its state.
pub block_fails_from : (q : State) (count : ℕ) (a : Reading) (l k : Option (List ℕ)) (f h : ℕ) (e : ScriptError) → HasBlockNext a.hash q count → BlockFails count a l k f h e → FailsFrom q a l k f h e
block_fails_from q count a l k f h e w fails =
    fails_after (BeginsFrom a.hash q) (λ bytes. length bytes ≤ count) (BadFromAt q a k) (BadPieceAt (λ bytes. length bytes ≤ count) (λ front. IsEnd k) (BlockStops count) a) a a l l k f f h [] e (moves_none a l)
    (λ bytes part. block_begins a.hash q count bytes w part)
    (piece_bad q (λ bytes. length bytes ≤ count) (λ front. IsEnd k) (BlockStops count) a k (λ front part. block_begins a.hash q count front w part) (λ front x part stop. block_wrong_from a.hash q count front x w stop) (λ front end. end))
    (omega arith) fails

items_text_more : (before : List Item) (x : Item) → items_text (before ++ x ∷ []) ≡ items_text before ++ item_text x
items_text_more before x = flat_map-append item_text before (x ∷ []) ∙ ap (λ l. items_text before ++ l) (append-nil (item_text x))

pub moves_item : (before : List Item) (x : Item) (a b c : Reading) (l m n : Option (List ℕ)) → Moves a b l m (items_text before) → Moves b c m n (item_text x) → Moves a c l n (items_text (before ++ x ∷ []))
moves_item before x a b c l m n p q = subst (Moves a c l n) (sym (items_text_more before x)) (moves_then a b c l m n (items_text before) (item_text x) p q)
