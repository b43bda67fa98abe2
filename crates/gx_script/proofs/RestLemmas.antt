-- From what was read of a request to the request.
use Rattle.std.proofs.Common.{◌≡◌, ◌≢◌, ◌∙◌, sym, ap, subst, ℕ, ◌+◌, ◌-◌, ◌^◌, min, ◌≤◌, List, [], ◌∷◌, ◌++◌, length, arith, append_assoc, Option}
use Rattle.std.specs.Prelude.{sum_by}
use Rattle.std.specs.List.{AllByRecursion}
use Rattle.std.proofs.lemmas.List.Sums.{sum_by-cons}
use Rattle.std.proofs.lemmas.List.{append-nil}
use Rattle.gx_hash.specs.declared.kind.HashKind.{HashKind}
use Rattle.gx_store.specs.Outside.{IsEnd}
use Rattle.gx_script.specs.declared.error.ScriptError.{ScriptError}
use Rattle.gx_script.specs.declared.change.Change.{Change}
use Rattle.gx_script.specs.declared.change.Change.TheVariants as change
use Rattle.gx_script.specs.declared.lines.ParentLine.{ParentLine}
use Rattle.gx_script.specs.declared.lines.ParentLine.TheVariants as parent_line
use Rattle.gx_script.specs.declared.lines.PersonLine.{PersonLine}
use Rattle.gx_script.specs.declared.lines.PersonLine.TheVariants as person_line
use Rattle.gx_script.specs.declared.opening.Opening.{Opening}
use Rattle.gx_script.specs.declared.opening.Opening.TheVariants as opening
use Rattle.gx_script.specs.declared.request.Request.{Request}
use Rattle.gx_script.specs.Grammar.{State, AtFirst, AtAuthor, AtCommitter, AtParent, AtContent, AtEdit, AtFile, AtPerson, AtMessage, AtText, AtEnd, AtNote, AtOver, Goes, Wants, after, after_line, after_first, after_block, Leads, BeginsFrom, Stands, IsWrongFrom, StopsFrom, IsBadFrom, FailsFrom, SaysPerson, SaysChange, IsOpening, SaysOpening, after_opening, ReadsRest, IsNo}
use Rattle.gx_script.specs.Items.{Item, Line, Block, items_text, ended, block_limit, blocks_limit}
use Rattle.gx_script.specs.Reading.{Reading, Moves, Fails, BadAt, line_number}
use Rattle.gx_script.specs.Script.{IsPartialLine, newlines_in, IsForm, IsShort, IsRequest, Begins, IsMalformed, IsBad, StopsAt, block_size}
use Rattle.gx_script.specs.Spelling.{items_of, spelling}
use Rattle.gx_script.specs.Steps.{GivesLine, LineFails, LineStops, BadPieceAt, StopsPiece}
use Rattle.gx_script.proofs.FormLemmas.{request_leads}
use Rattle.gx_script.proofs.GrammarLemmas.{begins_after, wrong_after, line_begins, line_wrong_from, stands_part, stands_whole}
use Rattle.gx_script.proofs.ReaderLemmas.{fails_after, moves_none, moves_then, newlines_append}
use Rattle.gx_script.proofs.RequestLemmas.{requested, says_opening, says_parent, says_person, says_message, says_change, parent_state, person_state, change_state}
use Rattle.gx_script.proofs.StateLemmas.{has_first, lead}

-- Items that come one after the other are within the limits.
leads_short : (hash : HashKind) (q : State) (xs : List Item) (end : State) → Leads hash q xs end → AllByRecursion IsShort xs
leads_short hash q [] end p = tt
leads_short hash q ((Line l) ∷ xs) end p = (p.0.short, leads_short hash (after q (Line l)) xs end p.1)
leads_short hash q ((Block b) ∷ xs) end p = (block_short q (length b) p.0, leads_short hash (after q (Block b)) xs end p.1)
  where
    block_short : (q : State) (n : ℕ) → Wants q n → n ≤ block_limit
    block_short AtFirst n w = absurd w
    block_short AtAuthor n w = absurd w
    block_short AtCommitter n w = absurd w
    block_short (AtParent k) n w = absurd w
    block_short (AtContent s) n w = w.1
    block_short (AtEdit k r) n w = absurd w
    block_short (AtFile s k r) n w = w.1
    block_short (AtPerson word) n w = absurd w
    block_short AtMessage n w = absurd w
    block_short (AtText s) n w = w.1
    block_short AtEnd n w = absurd w
    block_short (AtNote s) n w = w.1
    block_short AtOver n w = absurd w

-- How many bytes the blocks may still have.
abbrev budget : State → ℕ
budget AtFirst = blocks_limit
budget AtAuthor = blocks_limit
budget AtCommitter = blocks_limit
budget (AtParent k) = blocks_limit
budget (AtContent s) = blocks_limit
budget (AtEdit k r) = r
budget (AtFile s k r) = s + r
budget (AtPerson word) = blocks_limit
budget AtMessage = blocks_limit
budget (AtText s) = s
budget AtEnd = 0
budget (AtNote s) = s
budget AtOver = 0

opening_budget : (hash : HashKind) (o : Opening) → IsOpening hash o → budget (after_opening o) ≤ blocks_limit
opening_budget hash (opening.OneLine r) h = omega arith
opening_budget hash (opening.Commit name) h = omega arith
opening_budget hash (opening.Tag name target kind) h = omega arith
opening_budget hash (opening.Ref name target expect) h = omega arith
opening_budget hash (opening.NoteSet reference object size) h = omega (arith, h.1)

parent_budget : (hash : HashKind) (k : ℕ) (next : ParentLine) → budget (parent_state k next) ≤ blocks_limit
parent_budget hash k (parent_line.Parent id) = omega arith
parent_budget hash k (parent_line.Message size) = omega arith

person_budget : (word : List ℕ) (next : PersonLine) (line : List ℕ) → SaysPerson word next line → budget (person_state next) ≤ blocks_limit
person_budget word (person_line.Who who) line s = omega arith
person_budget word (person_line.Message size) line s = omega (arith, s.0)

change_budget : (hash : HashKind) (c r : ℕ) (next : Change) (line : List ℕ) → SaysChange hash c r next line → budget (change_state c r next) ≤ r
change_budget hash c r (change.Put kind size path) line s = omega (arith, s.2)
change_budget hash c r (change.Whole edit) line s = omega arith
change_budget hash c r change.End line s = omega arith

within : (q r : State) (n : ℕ) → q ≡ r → budget r ≤ n → budget q ≤ n
within q r n e le = subst (λ (z : State). budget z ≤ n) (sym e) le

line_budget : (hash : HashKind) (q : State) (line : List ℕ) → Goes hash q line → budget (after_line q line) ≤ budget q
line_budget hash AtFirst line g = within (after_first line) (after_opening g.0) blocks_limit (says_opening hash g.0 line g.1) (opening_budget hash g.0 g.1.0)
line_budget hash AtAuthor line g = omega arith
line_budget hash AtCommitter line g = omega arith
line_budget hash (AtParent k) line g = within (after_line (AtParent k) line) (parent_state k g.0) blocks_limit (says_parent hash k g.0 line g.1) (parent_budget hash k g.0)
line_budget hash (AtContent s) line g = absurd g
line_budget hash (AtEdit c r) line g = within (after_line (AtEdit c r) line) (change_state c r g.0) r (says_change hash c r g.0 line g.1) (change_budget hash c r g.0 line g.1)
line_budget hash (AtFile s k r) line g = absurd g
line_budget hash (AtPerson word) line g = within (after_line (AtPerson word) line) (person_state g.0) blocks_limit (says_person word g.0 line g.1 g.2) (person_budget word g.0 line g.2)
line_budget hash AtMessage line g = within (after_line AtMessage line) (AtText g.0) blocks_limit (says_message g.0 line g.1) (omega (arith, g.1.0))
line_budget hash (AtText s) line g = absurd g
line_budget hash AtEnd line g = omega arith
line_budget hash (AtNote s) line g = absurd g
line_budget hash AtOver line g = absurd g

block_budget : (q : State) (n : ℕ) → Wants q n → n + budget (after_block q) ≤ budget q
block_budget AtFirst n w = absurd w
block_budget AtAuthor n w = absurd w
block_budget AtCommitter n w = absurd w
block_budget (AtParent k) n w = absurd w
block_budget (AtContent s) n w = omega (arith, w.0, w.1)
block_budget (AtEdit k r) n w = absurd w
block_budget (AtFile s k r) n w = omega (arith, w.0)
block_budget (AtPerson word) n w = absurd w
block_budget AtMessage n w = absurd w
block_budget (AtText s) n w = omega (arith, w.0)
block_budget AtEnd n w = absurd w
block_budget (AtNote s) n w = omega (arith, w.0)
block_budget AtOver n w = absurd w

leads_blocks : (hash : HashKind) (q : State) (xs : List Item) (end : State) → Leads hash q xs end → sum_by block_size xs ≤ budget q
leads_blocks hash q [] end p = omega arith
leads_blocks hash q ((Line l) ∷ xs) end p = omega (arith, sum_by-cons block_size (Line l) xs, leads_blocks hash (after q (Line l)) xs end p.1, line_budget hash q l p.0.goes)
leads_blocks hash q ((Block b) ∷ xs) end p = omega (arith, sum_by-cons block_size (Block b) xs, leads_blocks hash (after q (Block b)) xs end p.1, block_budget q (length b) p.0)

pub is_request : (hash : HashKind) (r : Request) → IsForm hash r → Leads hash AtFirst (items_of r) AtOver → IsRequest hash r
is_request hash r form p = record { form = form; short = leads_short hash AtFirst (items_of r) AtOver p; blocks = leads_blocks hash AtFirst (items_of r) AtOver p }

-- From the first state on, the language is that of requests.
begins_of : (hash : HashKind) (bytes : List ℕ) → BeginsFrom hash AtFirst bytes → Begins hash bytes
begins_of hash bytes b =
    let t = requested hash (b.before ++ b.next ∷ b.rest) b.leads in
    record { request = t.request; before = b.before; next = b.next; after = b.rest; part = b.part; fits = is_request hash t.request t.form (subst (λ (xs : List Item). Leads hash AtFirst xs AtOver) (sym t.is) b.leads); place = t.is; begun = b.begun; is = b.is }

malformed_of : (hash : HashKind) (bytes : List ℕ) → IsWrongFrom hash AtFirst bytes → IsMalformed hash bytes
unfolding spelling
malformed_of hash bytes wrong = record {
  part = λ b. wrong (items_of b.request) (request_leads hash b.request b.fits) (subst (λ (items : List Item). Stands items bytes) (sym b.place) (subst (Stands (b.before ++ b.next ∷ b.after)) (sym b.is) (stands_part b.before b.next b.after b.part b.begun)));
  whole = λ r rest fits e. wrong (items_of r) (request_leads hash r fits) (subst (Stands (items_of r)) (sym e) (stands_whole (items_of r) rest));
}

-- A failure after the first line is one of the request.
bad_of : (hash : HashKind) (a b : Reading) (l m k : Option (List ℕ)) (line text : List ℕ) (q : State) → Leads hash AtFirst (Line line ∷ []) q → Moves a b l m (ended line)
    → (at_ : ℕ) (bytes : List ℕ) → (newlines : ℕ) × IsBadFrom hash q bytes (IsEnd k) newlines × (at_ ≡ line_number b newlines) → (newlines : ℕ) × IsBad hash (ended line ++ bytes) (IsEnd k) newlines × (at_ ≡ line_number a newlines)
bad_of hash a b l m k line text q leads p at_ bytes (newlines, bad, e) = (
  newlines_in (ended line) + newlines,
  record {
    front = ended line ++ bad.front;
    more = bad.more;
    split = ap (λ x. ended line ++ x) bad.split ∙ sym (append_assoc (ended line) bad.front bad.more);
    begins = begins_of hash (ended line ++ bad.front) (behind_line bad.front bad.begins);
    count = omega (arith, newlines_append (ended line) bad.front, bad.count);
    stops = stop bad.front bad.more bad.stops;
  },
  e ∙ line_is,
)
  where
    behind_line : (front : List ℕ) → BeginsFrom hash q front → BeginsFrom hash AtFirst (ended line ++ front)
    behind_line front h = subst (λ (x : List ℕ). BeginsFrom hash AtFirst (x ++ front)) (append-nil (ended line)) (begins_after hash AtFirst q (Line line ∷ []) front leads h)

    wrong_line : (front : List ℕ) → IsWrongFrom hash q front → IsWrongFrom hash AtFirst (ended line ++ front)
    wrong_line front h = subst (λ (x : List ℕ). IsWrongFrom hash AtFirst (x ++ front)) (append-nil (ended line)) (wrong_after hash AtFirst q (Line line ∷ []) front leads h)

    some_front : (line front : List ℕ) → ended line ++ front ≢ []
    some_front [] front h = cc
    some_front (x ∷ line) front h = cc

    stop : (front more : List ℕ) → StopsFrom hash q (IsEnd k) front more → StopsAt hash (IsEnd k) (ended line ++ front) more
    stop front [] s = (s, some_front line front)
    stop front (x ∷ more) s = subst (IsMalformed hash) (sym (append_assoc (ended line) front (x ∷ []))) (malformed_of hash (ended line ++ (front ++ x ∷ [])) (wrong_line (front ++ x ∷ []) s))

    line_is : min (b.newlines + newlines + 1) (2 ^ 64 - 1) ≡ min (a.newlines + (newlines_in (ended line) + newlines) + 1) (2 ^ 64 - 1)
    line_is = omega (arith, p.newlines)

pub rest_fails : (o : Opening) (a b : Reading) (l m k : Option (List ℕ)) (f g h : ℕ) (e : ScriptError) → GivesLine (SaysOpening a.hash o) a b l m → f ≤ g → FailsFrom (after_opening o) b m k g h e → Fails (Begins a.hash) (BadAt a k) a l k f h e
rest_fails o a b l m k f g h e given le fails =
    let leads : Leads a.hash AtFirst (Line given.line ∷ []) (after_opening o) = (record { open_line = given.open_line; short = given.short; goes = (o, given.spelled) }, says_opening a.hash o given.line given.spelled) in
    fails_after (Begins a.hash) (BeginsFrom a.hash (after_opening o)) (BadAt a k) (λ line bytes. (newlines : ℕ) × IsBadFrom a.hash (after_opening o) bytes (IsEnd k) newlines × (line ≡ line_number b newlines)) a b l m k f g h (ended given.line) e given.moves
    (λ bytes begins. begins_of a.hash (ended given.line ++ bytes) (subst (λ (x : List ℕ). BeginsFrom a.hash AtFirst (x ++ bytes)) (append-nil (ended given.line)) (begins_after a.hash AtFirst (after_opening o) (Line given.line ∷ []) bytes leads begins)))
    (bad_of a.hash a b l m k given.line [] (after_opening o) leads given.moves)
    le
    (subst (λ (hash : HashKind). Fails (BeginsFrom hash (after_opening o)) (λ line bytes. (newlines : ℕ) × IsBadFrom hash (after_opening o) bytes (IsEnd k) newlines × (line ≡ line_number b newlines)) b m k g h e) given.moves.hash fails)

-- The first line fails.
pub first_fails : (a : Reading) (l k : Option (List ℕ)) (f h : ℕ) (e : ScriptError) → LineFails (λ front. IsEnd k × (front ≢ [])) (IsNo (SaysOpening a.hash)) a l k f h e → Fails (Begins a.hash) (BadAt a k) a l k f h e
first_fails a l k f h e fails =
    fails_after (Begins a.hash) IsPartialLine (BadAt a k) (BadPieceAt IsPartialLine (λ front. IsEnd k × (front ≢ [])) (LineStops (IsNo (SaysOpening a.hash))) a) a a l l k f f h [] e (moves_none a l)
    (λ bytes part. begins_of a.hash bytes (line_begins a.hash AtFirst bytes (has_first a.hash) part))
    bad (omega arith) fails
  where
    stop : (front more : List ℕ) → IsPartialLine front → StopsPiece (λ front. IsEnd k × (front ≢ [])) (LineStops (IsNo (SaysOpening a.hash))) front more → StopsAt a.hash (IsEnd k) front more
    stop front [] part s = s
    stop front (x ∷ more) part s = malformed_of a.hash (front ++ x ∷ []) (line_wrong_from a.hash AtFirst (IsNo (SaysOpening a.hash)) front x (has_first a.hash) (λ line no goes. no goes.0 goes.1) part s)

    bad : (line : ℕ) (bytes : List ℕ) → BadPieceAt IsPartialLine (λ front. IsEnd k × (front ≢ [])) (LineStops (IsNo (SaysOpening a.hash))) a line bytes → BadAt a k line bytes
    bad line bytes (newlines, found, e) = (
      newlines,
      record { front = found.front; more = found.more; split = found.split; begins = begins_of a.hash found.front (line_begins a.hash AtFirst found.front (has_first a.hash) found.part); count = found.count; stops = stop found.front found.more found.part found.stops },
      e,
    )

-- The whole request.
pub rest_given : (o : Opening) (a b c : Reading) (l m n : Option (List ℕ)) (r : Request) → GivesLine (SaysOpening a.hash o) a b l m → ReadsRest o b c m n r → IsRequest a.hash r × Moves a c l n (spelling r)
unfolding spelling
rest_given o a b c l m n r given rest =
    let items : items_of r ≡ Line given.line ∷ rest.tail = rest.items given.line given.spelled.1 in
    let leads : Leads a.hash (after_opening o) rest.tail AtOver = subst (λ (hash : HashKind). Leads hash (after_opening o) rest.tail AtOver) given.moves.hash rest.leads in
    let all : Leads a.hash AtFirst (Line given.line ∷ rest.tail) AtOver = lead a.hash AtFirst (after_opening o) AtOver (Line given.line) rest.tail (record { open_line = given.open_line; short = given.short; goes = (o, given.spelled) }) (says_opening a.hash o given.line given.spelled) leads in
    let form : IsForm a.hash r = subst (λ (hash : HashKind). IsForm hash r) given.moves.hash (rest.form (subst (λ (hash : HashKind). IsOpening hash o) (sym given.moves.hash) given.spelled.0)) in (
      is_request a.hash r form (subst (λ (xs : List Item). Leads a.hash AtFirst xs AtOver) (sym items) all),
      subst (λ (xs : List Item). Moves a c l n (items_text xs)) (sym items) (moves_then a b c l m n (ended given.line) (items_text rest.tail) given.moves rest.moves),
    )
