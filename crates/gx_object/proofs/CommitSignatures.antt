-- How the signature of a commit is found.
use Rattle.std.proofs.Common.{◌≡◌, ◌≢◌, ◌∙◌, sym, ap, refl, subst, ℕ, ◌-◌, List, [], ◌∷◌, ◌++◌, length, take, codes, arith, append_assoc, length-append, Option, Some, None, MatchOption, Result, Ok, Err, MatchResult, IfOk, IfErr}
use Rattle.std.specs.List.{flat_map, AllByRecursion}
use Rattle.std.proofs.lemmas.List.{take_at}
use Rattle.std.proofs.lemmas.List.Concat.{flat_map-append}
use Rattle.gx_hash.specs.declared.kind.HashKind.{HashKind}
use Rattle.gx_hash.specs.declared.kind.HashKind.TheVariants as hash_kind
use Rattle.gx_object.specs.PartsRead.{ObjectText}
use Rattle.gx_object.specs.declared.decode.DecodeError.{DecodeError}
use Rattle.gx_object.specs.declared.decode.DecodeError.TheVariants.{Decode, NoMemory}
use Rattle.gx_object.specs.Commit.{encoding_line}
use Rattle.gx_object.specs.IdentitySpelling.{IdentityText}
use Rattle.gx_object.specs.CommitSpelling.{HeaderText, CommitText, IsHeader, HasEncoding, SpellsCommit, raw_line, text_line, folded}
use Rattle.gx_object.specs.CommitLines.{HasHeader, IsNoHeader}
use Rattle.gx_object.specs.CommitItems.{HasCommitter, SpellsMessage, SpellsNone, author_front, committer_front}
use Rattle.gx_object.specs.CommitSignature.{signature_name, IsOther, lines_to_end, HasSignature, HasNoSignature, IsSignature, IsUnsigned, IsSignedBy, TellsSignature, SpellsSome, RefusesCommit, MissesSignature, FirstNamed, PassesOthers}
use Rattle.gx_object.proofs.CommitParts.{all_push}
use Rattle.gx_object.specs.Laws.CommitPlace.{encoding_name}
use Rattle.gx_object.proofs.CommitFronts.{further}
use Rattle.gx_object.proofs.FieldLemmas.{author_and_rest}
use Rattle.gx_object.specs.Laws.LineLemmas.{raw_line_open, without_append, name_without_newline}
use Rattle.gx_object.specs.Laws.OneCommit.{first_line, header_in_front, no_header_here, open_folds, one_commit, one_header, one_who}

-- Headers, one after another.
pub passes_none : (name : List ℕ) (headers : List HeaderText) (message bytes : List ℕ) → bytes ≡ lines_to_end headers message → PassesOthers name headers message bytes
passes_none name headers message bytes e = record { before = []; behind = headers; headers_are = refl; others = tt; rest_is = e }

each_behind : (xs ys : List HeaderText) → AllByRecursion IsHeader (xs ++ ys) → AllByRecursion IsHeader ys
each_behind [] ys p = p
each_behind (x ∷ xs) ys p = each_behind xs ys p.1

record NextHeader (headers : List HeaderText) (message : List ℕ) (h : HeaderText) (more : List ℕ) : Type 0 where
  behind : List HeaderText
  headers_are : headers ≡ h ∷ behind
  more_is : more ≡ lines_to_end behind message

next_header : (headers : List HeaderText) (message rest : List ℕ) (h : HeaderText) (more : List ℕ) → AllByRecursion IsHeader headers → rest ≡ lines_to_end headers message → HasHeader rest h more → NextHeader headers message h more
next_header [] message rest h more each e has = absurd (no_header_here rest h more message has e)
next_header (k ∷ ks) message rest h more each e has =
    let r = one_header rest h k more (lines_to_end ks message) has (subst (λ b. HasHeader b k (lines_to_end ks message)) (sym e) (header_in_front k ks message each.0 each.1)) in
    record { behind = ks; headers_are = ap (λ x. x ∷ ks) (sym r.0); more_is = r.1 }

pub passes_more : (name : List ℕ) (headers : List HeaderText) (message rest : List ℕ) (h : HeaderText) (more : List ℕ) → AllByRecursion IsHeader headers → PassesOthers name headers message rest → HasHeader rest h more → h.name ≢ name
    → PassesOthers name headers message more
passes_more name headers message rest h more each p has other =
    let n = next_header p.behind message rest h more (each_behind p.before p.behind (subst (AllByRecursion IsHeader) p.headers_are each)) p.rest_is has in
    record {
      before = p.before ++ h ∷ [];
      behind = n.behind;
      headers_are = p.headers_are ∙ ap (λ l. p.before ++ l) n.headers_are ∙ sym (append_assoc p.before (h ∷ []) n.behind);
      others = all_push (IsOther name) p.before h p.others other;
      rest_is = n.more_is;
    }

pub finds_first : (name : List ℕ) (headers : List HeaderText) (message rest : List ℕ) (h : HeaderText) (more : List ℕ) → AllByRecursion IsHeader headers → PassesOthers name headers message rest → HasHeader rest h more → h.name ≡ name
    → FirstNamed name headers message h rest more
finds_first name headers message rest h more each p has named =
    let n = next_header p.behind message rest h more (each_behind p.before p.behind (subst (AllByRecursion IsHeader) p.headers_are each)) p.rest_is has in
    record {
      before = p.before;
      behind = n.behind;
      headers_are = p.headers_are ∙ ap (λ l. p.before ++ l) n.headers_are;
      named = named;
      first = p.others;
      lines_are = p.rest_is ∙ ap (λ l. lines_to_end l message) n.headers_are;
      rest_is = n.more_is;
    }

header_here : (h : HeaderText) (hs : List HeaderText) (message : List ℕ) → IsHeader h → IsNoHeader (lines_to_end (h ∷ hs) message) → ⊥
header_here h hs message is none =
    let more = lines_to_end hs message in
    let f = first_line h.raw more in
    none (h.name ++ 32 ∷ f.line) f.rest (h.name, f.line, is.0, refl) (record {
      is = append_assoc (raw_line h) (flat_map raw_line hs) (10 ∷ message) ∙ raw_line_open h more ∙ ap (λ l. h.name ++ 32 ∷ l) f.is ∙ sym (append_assoc h.name (32 ∷ f.line) (10 ∷ f.rest));
      one = without_append 10 h.name (32 ∷ f.line) (name_without_newline h.name is.0.1) ((λ e. absurd (omega (arith, e))), f.one);
    })

all_other : (name : List ℕ) (before behind : List HeaderText) (message : List ℕ) → AllByRecursion IsHeader behind → AllByRecursion (IsOther name) before → IsNoHeader (lines_to_end behind message) → AllByRecursion (IsOther name) (before ++ behind)
all_other name [] [] message each p none = tt
all_other name [] (h ∷ hs) message each p none = absurd (header_here h hs message each.0 none)
all_other name (b ∷ bs) behind message each p none = (p.0, all_other name bs behind message each p.1 none)

pub finds_none : (name : List ℕ) (headers : List HeaderText) (message rest : List ℕ) → AllByRecursion IsHeader headers → PassesOthers name headers message rest → IsNoHeader rest → AllByRecursion (IsOther name) headers
finds_none name headers message rest each p none =
    subst (AllByRecursion (IsOther name)) (sym p.headers_are)
    (all_other name p.before p.behind message (each_behind p.before p.behind (subst (AllByRecursion IsHeader) p.headers_are each)) p.others (subst IsNoHeader p.rest_is none))

-- An encoding, as if it were one of the headers.
abbrev pub late_headers : Option (List ℕ) → List HeaderText → List HeaderText
late_headers None hs = hs
late_headers (Some text) hs = (record { name = codes "encoding"; raw = text }) ∷ hs

late_are : (encoding : Option (List ℕ)) (hs : List HeaderText) → HasEncoding encoding hs → AllByRecursion IsHeader hs → AllByRecursion IsHeader (late_headers encoding hs)
late_are None hs e p = p
late_are (Some text) hs e p = ((encoding_name, (text, open_folds text e.1)), p)

late_lines : (encoding : Option (List ℕ)) (hs : List HeaderText) (message : List ℕ) → encoding_line encoding ++ lines_to_end hs message ≡ lines_to_end (late_headers encoding hs) message
late_lines None hs message = refl
late_lines (Some text) hs message = sym (append_assoc (encoding_line (Some text)) (flat_map raw_line hs) (10 ∷ message))

is_no_signature : (hash : HashKind) → codes "encoding" ≢ signature_name hash
is_no_signature hash_kind.Sha1 e = cc
is_no_signature hash_kind.Sha256 e = cc

unsigned : (hash : HashKind) (encoding : Option (List ℕ)) (hs : List HeaderText) → AllByRecursion (IsOther (signature_name hash)) (late_headers encoding hs) → AllByRecursion (IsOther (signature_name hash)) hs
unsigned hash None hs p = p
unsigned hash (Some text) hs p = p.1

record Located (name : List ℕ) (hs : List HeaderText) (h : HeaderText) (behind : List HeaderText) : Type 0 where
  before : List HeaderText
  headers_are : hs ≡ before ++ h ∷ behind
  first : AllByRecursion (IsOther name) before

behind_encoding : (hash : HashKind) (text : List ℕ) (hs before : List HeaderText) (h : HeaderText) (behind : List HeaderText) → h.name ≡ signature_name hash → AllByRecursion (IsOther (signature_name hash)) before
    → late_headers (Some text) hs ≡ before ++ h ∷ behind → Located (signature_name hash) hs h behind
behind_encoding hash text hs [] h behind named first e =
    let same : (let k : HeaderText = record { name = codes "encoding"; raw = text } in k) ≡ h = cc in
    absurd (is_no_signature hash (ap (λ k. k.name) same ∙ named))
behind_encoding hash text hs (b ∷ bs) h behind named first e =
    let rest : hs ≡ bs ++ h ∷ behind = cc in
    record { before = bs; headers_are = rest; first = first.1 }

located : (hash : HashKind) (encoding : Option (List ℕ)) (hs : List HeaderText) (message : List ℕ) (h : HeaderText) (lines rest : List ℕ) → (p : FirstNamed (signature_name hash) (late_headers encoding hs) message h lines rest)
    → Located (signature_name hash) hs h p.behind
located hash None hs message h lines rest p = record { before = p.before; headers_are = p.headers_are; first = p.first }
located hash (Some text) hs message h lines rest p = behind_encoding hash text hs p.before h p.behind p.named p.first p.headers_are

lines_behind : (name : List ℕ) (headers : List HeaderText) (message : List ℕ) (h : HeaderText) (lines rest : List ℕ) → (p : FirstNamed name headers message h lines rest) → lines_to_end headers message ≡ flat_map raw_line p.before ++ lines
lines_behind name headers message h lines rest p =
    ap (λ l. lines_to_end l message) p.headers_are
    ∙ ap (λ l. l ++ 10 ∷ message) (flat_map-append raw_line p.before (h ∷ p.behind))
    ∙ append_assoc (flat_map raw_line p.before) (flat_map raw_line (h ∷ p.behind)) (10 ∷ message)
    ∙ ap (λ l. flat_map raw_line p.before ++ l) (sym p.lines_are)

-- The commit.
late_is : (it : ObjectText) (who : IdentityText) (rest : List ℕ) → HasCommitter it who rest → (c : CommitText) → SpellsCommit it.hash it.bytes c → rest ≡ lines_to_end (late_headers c.encoding c.extra_headers) c.message
late_is it who rest k c s =
    let f = k.lines in
    let late = text_line (codes "committer ") f.line ++ rest in
    let r = author_and_rest it f.before.who late (record { lines = f.before; whole = k.whole ∙ append_assoc (author_front f.before) (text_line (codes "committer ") f.line) rest; who_is = refl }) c s in
    let q = one_who (codes "committer ") late f.who c.committer rest (encoding_line c.encoding ++ lines_to_end c.extra_headers c.message)
    (record { line = f.line; is = refl; one = f.one; spells = f.spells }) (record { line = s.committer_line; is = r.1; one = s.committer_open; spells = s.committer_is }) in
    q.1 ∙ late_lines c.encoding c.extra_headers c.message

front_is : (bytes front lines : List ℕ) → bytes ≡ front ++ lines → take (length bytes - length lines) bytes ≡ front
front_is bytes front lines e = ap (take (length bytes - length lines)) e ∙ take_at front lines (length bytes - length lines) (omega (arith, ap length e, length-append front lines))

-- an iterator over these bytes
abbrev pub Over : ObjectText → HashKind → List ℕ → Type 0
Over it hash bytes = (it.bytes ≡ bytes) × (it.hash ≡ hash)

-- from the place where an iterator begins
pub over : {it begun : ObjectText} → it ≡ begun → Over it begun.hash begun.bytes
over e = (ap (λ (p : ObjectText). p.bytes) e, ap (λ (p : ObjectText). p.hash) e)

said_of : (P : HashKind → List ℕ → Type 0) (it : ObjectText) (hash : HashKind) (bytes : List ℕ) → Over it hash bytes → P it.hash it.bytes → P hash bytes
said_of P it hash bytes same p = subst (λ h. P h bytes) same.1 (subst (P it.hash) same.0 p)

abbrev OthersIn : List ℕ → HashKind → Type 0
OthersIn rest hash = (headers : List HeaderText) (message : List ℕ) → AllByRecursion IsHeader headers → rest ≡ lines_to_end headers message → AllByRecursion (IsOther (signature_name hash)) headers

pub no_signature : (it : ObjectText) (hash : HashKind) (bytes : List ℕ) (who : IdentityText) (rest text : List ℕ) → Over it hash bytes → SpellsMessage it text → HasCommitter it who rest
    → ((headers : List HeaderText) (message : List ℕ) → AllByRecursion IsHeader headers → rest ≡ lines_to_end headers message → AllByRecursion (IsOther (signature_name hash)) headers)
    → IsUnsigned hash bytes
no_signature it hash bytes who rest text same m k none =
    let c = m.commit in
    let others : OthersIn rest it.hash = subst (OthersIn rest) (sym same.1) none in
    let p = others (late_headers c.encoding c.extra_headers) c.message (late_are c.encoding c.extra_headers m.spells.encoding_is m.spells.headers) (late_is it who rest k c m.spells) in
    said_of IsUnsigned it hash bytes same (record { commit = c; spells = m.spells; is = unsigned it.hash c.encoding c.extra_headers p })

abbrev FirstIn : List ℕ → HeaderText → List ℕ → List ℕ → HashKind → Type 0
FirstIn rest h lines more hash = (headers : List HeaderText) (message : List ℕ) → AllByRecursion IsHeader headers → rest ≡ lines_to_end headers message → FirstNamed (signature_name hash) headers message h lines more

abbrev pub IsFound : HeaderText → List ℕ → HashKind → List ℕ → Type 0
IsFound h signed hash bytes = SpellsSome hash bytes (λ c. HasSignature hash bytes c h signed)

pub a_signature : (it : ObjectText) (hash : HashKind) (bytes : List ℕ) (who : IdentityText) (rest text : List ℕ) (h : HeaderText) (lines more signed : List ℕ) → Over it hash bytes → SpellsMessage it text → HasCommitter it who rest
    → ((headers : List HeaderText) (message : List ℕ) → AllByRecursion IsHeader headers → rest ≡ lines_to_end headers message → FirstNamed (signature_name hash) headers message h lines more)
    → signed ≡ take (length bytes - length lines) bytes ++ more → IsFound h signed hash bytes
a_signature it hash bytes who rest text h lines more signed same m k found e =
    let c = m.commit in
    let late = late_is it who rest k c m.spells in
    let first : FirstIn rest h lines more it.hash = subst (FirstIn rest h lines more) (sym same.1) found in
    let p = first (late_headers c.encoding c.extra_headers) c.message (late_are c.encoding c.extra_headers m.spells.encoding_is m.spells.headers) late in
    let l = located it.hash c.encoding c.extra_headers c.message h lines more p in
    let whole = further it.bytes (committer_front k.lines) (flat_map raw_line p.before) rest lines k.whole (late ∙ lines_behind _ _ c.message h lines more p) in
    let front = committer_front k.lines ++ flat_map raw_line p.before in
    said_of (IsFound h signed) it hash bytes same (record {
      commit = c;
      spells = m.spells;
      is = record {
        before = l.before;
        behind = p.behind;
        front = front;
        headers = l.headers_are;
        named = p.named;
        first = l.first;
        whole = whole ∙ ap (λ x. front ++ x) (p.lines_are ∙ append_assoc (raw_line h) (flat_map raw_line p.behind) (10 ∷ c.message));
        signed_is = e ∙ ap (λ x. x ++ more) (front_is bytes front lines (sym same.0 ∙ whole)) ∙ ap (λ x. front ++ x) p.rest_is;
      };
    })

pub none_refused : (it : ObjectText) (hash : HashKind) (bytes : List ℕ) (e : DecodeError) → Over it hash bytes → SpellsNone it e → RefusesCommit hash bytes e
none_refused it hash bytes e same p = said_of (λ h b. RefusesCommit h b e) it hash bytes same (p.at, p.error, p.none)

pub refused_missed : (hash : HashKind) (bytes : List ℕ) (e : DecodeError) → RefusesCommit hash bytes e → MissesSignature hash bytes e
refused_missed hash bytes e (at, is, none) = subst (MissesSignature hash bytes) (sym is) none

-- What is told of a commit holds of the one that was spelled.
pub tells_only : (hash : HashKind) (bytes : List ℕ) (r : Result (Option (List ℕ × List ℕ)) DecodeError) → IfOk r (λ told. MatchOption told (IsUnsigned hash bytes) (λ p. IsSignedBy hash bytes p.0 p.1)) → IfErr r (MissesSignature hash bytes)
    → (c : CommitText) → SpellsCommit hash bytes c → MatchResult r (TellsSignature hash bytes c) (λ e. e ≡ NoMemory)
tells_only hash bytes (Ok None) p q c s = subst (HasNoSignature hash) (one_commit hash bytes p.commit c p.spells s) p.is
tells_only hash bytes (Ok (Some told)) p q c s = subst (λ d. IsSignature hash bytes d told.0 told.1) (one_commit hash bytes p.commit c p.spells s) p.is
tells_only hash bytes (Err (Decode at)) p q c s = absurd (q.none c s)
tells_only hash bytes (Err NoMemory) p q c s = refl

-- the header has a value
pub signature_value : (hash : HashKind) (bytes : List ℕ) (h : HeaderText) (signed : List ℕ) → (p : SpellsSome hash bytes (λ c. HasSignature hash bytes c h signed)) → (value : List ℕ) × (h.raw ≡ folded value)
signature_value hash bytes h signed p = (each_behind p.is.before (h ∷ p.is.behind) (subst (AllByRecursion IsHeader) p.is.headers p.spells.headers)).0.1

pub signed_by : (hash : HashKind) (bytes : List ℕ) (h : HeaderText) (value signed : List ℕ) → SpellsSome hash bytes (λ c. HasSignature hash bytes c h signed) → h.raw ≡ folded value → IsSignedBy hash bytes value signed
signed_by hash bytes h value signed p e = record { commit = p.commit; spells = p.spells; is = (h, p.is, e) }

pub signed_by_value : (hash : HashKind) (bytes : List ℕ) (h : HeaderText) (value signed : List ℕ) → SpellsSome hash bytes (λ c. HasSignature hash bytes c h signed) → ((text : List ℕ) → h.raw ≡ folded text → value ≡ text) → IsSignedBy hash bytes value signed
signed_by_value hash bytes h value signed p same =
    let v = signature_value hash bytes h signed p in
    signed_by hash bytes h value signed p (v.1 ∙ ap folded (sym (same v.0 v.1)))

pub memory_missed : (hash : HashKind) (bytes : List ℕ) (h : HeaderText) (signed : List ℕ) → SpellsSome hash bytes (λ c. HasSignature hash bytes c h signed) → MissesSignature hash bytes NoMemory
memory_missed hash bytes h signed p = let v = signature_value hash bytes h signed p in (v.0, signed, signed_by hash bytes h v.0 signed p v.1)
