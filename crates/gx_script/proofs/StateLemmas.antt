-- What comes after each line, and that each state can be gone on from.
use Rattle.std.proofs.Common.{◌≡◌, ◌∙◌, sym, ap, refl, subst, ℕ, pos, ◌+◌, ◌-◌, ◌≤◌, List, [], ◌∷◌, ◌++◌, length, codes, replicate, arith, length-append, inl, inr}
use Rattle.std.specs.Fmt.{decimal}
use Rattle.std.specs.Str.Parse.{digits_value}
use Rattle.std.proofs.lemmas.Bool.Decides.{eqb_tells}
use Rattle.std.proofs.lemmas.Fmt.{decimal_is_IsNumeral, decimal_digit, length-decimal-le}
use Rattle.std.proofs.lemmas.List.{length-replicate}
use Rattle.gx_hash.specs.ObjectId.{hex_of}
use Rattle.gx_hash.specs.declared.kind.HashKind.{HashKind}
use Rattle.gx_hash.specs.declared.oid.ObjectId.{ObjectId}
use Rattle.gx_object.specs.declared.signature.Signature.{Signature}
use Rattle.gx_script.specs.declared.change.PutKind.{PutKind}
use Rattle.gx_script.specs.declared.change.PutKind.TheVariants.{File, Executable, Link}
use Rattle.gx_script.specs.Commits.{put_line}
use Rattle.gx_script.specs.Fields.{IsIdentity, who_text, author_word, committer_word, message_line, end_line}
use Rattle.gx_script.specs.Grammar.{State, AtFirst, AtAuthor, AtCommitter, AtParent, AtContent, AtEdit, AtFile, AtPerson, AtMessage, AtText, AtEnd, AtNote, AtOver, GoodLine, Good, after, after_line, Leads, before_space, behind_space, message_size, put_size, note_size, put_word, IsPersonWord}
use Rattle.gx_script.specs.Items.{Item, Line, Block, Without, NoNewline, line_limit, block_limit, blocks_limit}
use Rattle.gx_script.specs.Notes.{note_set_line}
use Rattle.gx_script.specs.References.{head_line}
use Rattle.gx_script.specs.declared.lines.ParentLine.TheVariants as parent_line
use Rattle.gx_script.specs.declared.lines.PersonLine.TheVariants as person_line
use Rattle.gx_script.specs.declared.change.Change.TheVariants as change
use Rattle.gx_script.specs.declared.opening.Opening.TheVariants as opening
use Rattle.gx_script.specs.declared.request.Request.TheVariants as request
use Rattle.gx_script.proofs.GrammarLemmas.{HasLineNext, HasBlockNext}
use Rattle.gx_script.proofs.LineLemmas.{opens, without_append, decimal_without, no_space, no_line, who_line_open}

pub before_space_at : (a x : List ℕ) → Without 32 a → before_space (a ++ 32 ∷ x) ≡ a
before_space_at [] x p = refl
before_space_at (b ∷ a) x p = elim (eqb_tells b 32) [ inl e ↦ absurd (p.0 e.1) | inr e ↦ rw e.0 (ap (λ (l : List ℕ). b ∷ l) (before_space_at a x p.1)) ]

pub behind_space_at : (a x : List ℕ) → Without 32 a → behind_space (a ++ 32 ∷ x) ≡ x
behind_space_at [] x p = refl
behind_space_at (b ∷ a) x p = elim (eqb_tells b 32) [ inl e ↦ absurd (p.0 e.1) | inr e ↦ rw e.0 (behind_space_at a x p.1) ]

value_is : (n : ℕ) → n ≤ block_limit → digits_value 10 (decimal n) ≡ n
value_is n le = (decimal_is_IsNumeral n (omega arith)).1

pub message_size_is : (n : ℕ) → n ≤ block_limit → message_size (message_line n) ≡ n
message_size_is n le = value_is n le

decimal_space : (n : ℕ) → n ≤ block_limit → Without 32 (decimal n)
decimal_space n le = decimal_without 32 n no_space (omega arith)

pub put_size_is : (kind : PutKind) (n : ℕ) (path : List ℕ) → n ≤ block_limit → put_size (put_line (put_word kind) n path) ≡ n
put_size_is File n path le = ap (digits_value 10) (before_space_at (decimal n) path (decimal_space n le)) ∙ value_is n le
put_size_is Executable n path le = ap (digits_value 10) (before_space_at (decimal n) path (decimal_space n le)) ∙ value_is n le
put_size_is Link n path le = ap (digits_value 10) (before_space_at (decimal n) path (decimal_space n le)) ∙ value_is n le

pub note_size_is : (name : List ℕ) (object : ObjectId) (n : ℕ) → Without 32 name → Without 32 (hex_of object) → n ≤ block_limit → note_size (note_set_line name object n) ≡ n
note_size_is name object n p q le =
    ap (λ (l : List ℕ). digits_value 10 (behind_space l)) (behind_space_at name (hex_of object ++ 32 ∷ decimal n) p)
    ∙ ap (digits_value 10) (behind_space_at (hex_of object) (decimal n) q) ∙ value_is n le

pub parent_then : (k : ℕ) (digits : List ℕ) → after_line (AtParent k) (codes "parent " ++ digits) ≡ AtParent (k + 1)
parent_then k digits = refl

pub parents_then : (k n : ℕ) → n ≤ block_limit → after_line (AtParent k) (message_line n) ≡ AtContent n
parents_then k n le = ap AtContent (message_size_is n le)

pub message_then : (n : ℕ) → n ≤ block_limit → after_line AtMessage (message_line n) ≡ AtText n
message_then n le = ap AtText (message_size_is n le)

pub person_then : (word text : List ℕ) → IsPersonWord word → after_line (AtPerson word) (word ++ text) ≡ AtMessage
person_then word text (inl e) = subst (λ (w : List ℕ). after_line (AtPerson w) (w ++ text) ≡ AtMessage) (sym e) refl
person_then word text (inr e) = subst (λ (w : List ℕ). after_line (AtPerson w) (w ++ text) ≡ AtMessage) (sym e) refl

pub nobody_then : (word : List ℕ) (n : ℕ) → IsPersonWord word → n ≤ block_limit → after_line (AtPerson word) (message_line n) ≡ AtText n
nobody_then word n (inl e) le = subst (λ (w : List ℕ). after_line (AtPerson w) (message_line n) ≡ AtText n) (sym e) (ap AtText (message_size_is n le))
nobody_then word n (inr e) le = subst (λ (w : List ℕ). after_line (AtPerson w) (message_line n) ≡ AtText n) (sym e) (ap AtText (message_size_is n le))

pub put_then : (c r : ℕ) (kind : PutKind) (n : ℕ) (path : List ℕ) → n ≤ block_limit → after_line (AtEdit c r) (put_line (put_word kind) n path) ≡ AtFile n (c + 1) (r - n)
put_then c r kind n path le = ap (λ (s : ℕ). AtFile s (c + 1) (r - s)) (put_size_is kind n path le)

-- Lines without a newline.
pub message_open : (n : ℕ) → n ≤ block_limit → NoNewline (message_line n)
message_open n le = without_append 10 (codes "message ") (decimal n) (opens (codes "message ") refl) (decimal_without 10 n no_line (omega arith))

pub message_short : (n : ℕ) → n ≤ block_limit → length (message_line n) ≤ line_limit
message_short n le = omega (arith, length-append (codes "message ") (decimal n), length-decimal-le 9 n (omega arith) (omega arith) (omega arith))

pub person_open : (word : List ℕ) (who : Signature) → NoNewline word → IsIdentity who → NoNewline (word ++ who_text who)
person_open word who p h = without_append 10 word (who_text who) p (who_line_open who h)

pub end_good : (hash : HashKind) → GoodLine hash AtEnd end_line
end_good hash = record { open_line = opens end_line refl; short = omega arith; goes = refl }

pub last_good : (hash : HashKind) (c r : ℕ) → GoodLine hash (AtEdit c r) end_line
last_good hash c r = record { open_line = opens end_line refl; short = omega arith; goes = (change.End, refl) }

-- One more item in front.
pub lead : (hash : HashKind) (q r s : State) (x : Item) (xs : List Item) → Good hash q x → after q x ≡ r → Leads hash r xs s → Leads hash q (x ∷ xs) s
lead hash q r s x xs g e p = (g, subst (λ (z : State). Leads hash z xs s) (sym e) p)

zero_bytes : ℕ → List ℕ
zero_bytes n = replicate n 0

zeros_size : (n : ℕ) → length (zero_bytes n) ≡ n
unfolding zero_bytes
zeros_size n = length-replicate n 0

zeros : (n : ℕ) → n ≤ block_limit → (length (zero_bytes n) ≡ n) × (length (zero_bytes n) ≤ block_limit)
zeros n le = (zeros_size n, omega (arith, zeros_size n))

text_leads : (hash : HashKind) (n : ℕ) → n ≤ block_limit → Leads hash (AtText n) (Block (zero_bytes n) ∷ Line end_line ∷ []) AtOver
text_leads hash n le = (zeros n le, (end_good hash, refl))

content_leads : (hash : HashKind) (n : ℕ) → n ≤ block_limit → Leads hash (AtContent n) (Block (zero_bytes n) ∷ Line end_line ∷ []) AtOver
content_leads hash n le = (zeros n le, (last_good hash 0 (blocks_limit - n), refl))

pub has_end : (hash : HashKind) → HasLineNext hash AtEnd
has_end hash = record { line = end_line; rest = []; leads = (end_good hash, refl) }

pub has_text : (hash : HashKind) (n : ℕ) → n ≤ block_limit → HasBlockNext hash (AtText n) n
has_text hash n le = record { block = zero_bytes n; rest = Line end_line ∷ []; size = zeros_size n; leads = text_leads hash n le }

pub has_note : (hash : HashKind) (n : ℕ) → n ≤ block_limit → HasBlockNext hash (AtNote n) n
has_note hash n le = record { block = zero_bytes n; rest = []; size = zeros_size n; leads = (zeros n le, refl) }

pub has_content : (hash : HashKind) (n : ℕ) → n ≤ block_limit → HasBlockNext hash (AtContent n) n
has_content hash n le = record { block = zero_bytes n; rest = Line end_line ∷ []; size = zeros_size n; leads = content_leads hash n le }

pub has_file : (hash : HashKind) (n c r : ℕ) → n ≤ block_limit → HasBlockNext hash (AtFile n c r) n
has_file hash n c r le = record { block = zero_bytes n; rest = Line end_line ∷ []; size = zeros_size n; leads = (zeros n le, (last_good hash c r, refl)) }

pub has_edit : (hash : HashKind) (c r : ℕ) → HasLineNext hash (AtEdit c r)
has_edit hash c r = record { line = end_line; rest = []; leads = (last_good hash c r, refl) }

none_sent : 0 ≤ block_limit
none_sent = omega arith

pub has_message : (hash : HashKind) → HasLineNext hash AtMessage
has_message hash = record {
  line = message_line 0;
  rest = Block (zero_bytes 0) ∷ Line end_line ∷ [];
  leads = lead hash AtMessage (AtText 0) AtOver (Line (message_line 0)) (Block (zero_bytes 0) ∷ Line end_line ∷ []) (record { open_line = message_open 0 none_sent; short = message_short 0 none_sent; goes = (0, (none_sent, refl)) }) (message_then 0 none_sent) (text_leads hash 0 none_sent);
}

pub has_person : (hash : HashKind) (word : List ℕ) → IsPersonWord word → HasLineNext hash (AtPerson word)
has_person hash word h = record {
  line = message_line 0;
  rest = Block (zero_bytes 0) ∷ Line end_line ∷ [];
  leads = lead hash (AtPerson word) (AtText 0) AtOver (Line (message_line 0)) (Block (zero_bytes 0) ∷ Line end_line ∷ []) (record { open_line = message_open 0 none_sent; short = message_short 0 none_sent; goes = (person_line.Message 0, h, (none_sent, refl)) }) (nobody_then word 0 h none_sent) (text_leads hash 0 none_sent);
}

parent_leads : (hash : HashKind) (k : ℕ) → Leads hash (AtParent k) (Line (message_line 0) ∷ Block (zero_bytes 0) ∷ Line end_line ∷ []) AtOver
parent_leads hash k = lead hash (AtParent k) (AtContent 0) AtOver (Line (message_line 0)) (Block (zero_bytes 0) ∷ Line end_line ∷ []) (record { open_line = message_open 0 none_sent; short = message_short 0 none_sent; goes = (parent_line.Message 0, (none_sent, refl)) }) (parents_then k 0 none_sent) (content_leads hash 0 none_sent)

pub has_parent : (hash : HashKind) (k : ℕ) → HasLineNext hash (AtParent k)
has_parent hash k = record { line = message_line 0; rest = Block (zero_bytes 0) ∷ Line end_line ∷ []; leads = parent_leads hash k }

-- A person is made up.
nobody : Signature
nobody = record { name = []; email = []; time = record { seconds = pos 0; offset = pos 0 } }

nobody_fits : IsIdentity nobody
unfolding nobody
nobody_fits = record { seconds = record { sfits = omega arith }; offset = record { sfits = omega arith }; name = tt; name_line = tt; email = tt; email_line = tt }

nobody_text : who_text nobody ≡ 48 ∷ 32 ∷ 48 ∷ 32 ∷ 9 ∷ []
unfolding nobody
nobody_text = ap (λ x. x ++ 32 ∷ (x ++ 32 ∷ (9 ∷ []))) (decimal_digit 0 (omega arith))

author_short : length (author_word ++ who_text nobody) ≤ line_limit
author_short = subst (λ t. length (author_word ++ t) ≤ line_limit) (sym nobody_text) (omega arith)

committer_short : length (committer_word ++ who_text nobody) ≤ line_limit
committer_short = subst (λ t. length (committer_word ++ t) ≤ line_limit) (sym nobody_text) (omega arith)

committer_leads : (hash : HashKind) → Leads hash AtCommitter (Line (committer_word ++ who_text nobody) ∷ Line (message_line 0) ∷ Block (zero_bytes 0) ∷ Line end_line ∷ []) AtOver
committer_leads hash = (record { open_line = person_open committer_word nobody (opens committer_word refl) nobody_fits; short = committer_short; goes = (nobody, (nobody_fits, refl)) }, parent_leads hash 0)

pub has_committer : (hash : HashKind) → HasLineNext hash AtCommitter
has_committer hash = record { line = committer_word ++ who_text nobody; rest = Line (message_line 0) ∷ Block (zero_bytes 0) ∷ Line end_line ∷ []; leads = committer_leads hash }

pub has_author : (hash : HashKind) → HasLineNext hash AtAuthor
has_author hash = record {
  line = author_word ++ who_text nobody;
  rest = Line (committer_word ++ who_text nobody) ∷ Line (message_line 0) ∷ Block (zero_bytes 0) ∷ Line end_line ∷ [];
  leads = (record { open_line = person_open author_word nobody (opens author_word refl) nobody_fits; short = author_short; goes = (nobody, (nobody_fits, refl)) }, committer_leads hash);
}

pub has_first : (hash : HashKind) → HasLineNext hash AtFirst
has_first hash = record { line = head_line; rest = []; leads = (record { open_line = opens head_line refl; short = omega arith; goes = (opening.OneLine request.Head, (tt, refl)) }, refl) }
