-- The steps of reading what stands after a first line.
use Rattle.std.proofs.Common.{◌≡◌, ◌≢◌, sym, ap, refl, subst, ℕ, ◌+◌, ◌-◌, ◌≤◌, List, [], ◌∷◌, ◌++◌, length, map, codes, arith, length-append, Option, Some, None}
use Rattle.std.proofs.lemmas.List.{append-nil}
use Rattle.std.proofs.lemmas.Grind.{flat_map-append}
use Rattle.gx_hash.specs.ObjectId.{hex_of}
use Rattle.gx_hash.specs.declared.kind.HashKind.{HashKind}
use Rattle.gx_hash.specs.declared.oid.ObjectId.{ObjectId}
use Rattle.gx_object.specs.declared.signature.Signature.{Signature}
use Rattle.gx_store.specs.Outside.{IsEnd}
use Rattle.gx_script.specs.declared.change.Change.TheVariants as change
use Rattle.gx_script.specs.declared.change.PutKind.{PutKind}
use Rattle.gx_script.specs.declared.error.ScriptError.{ScriptError}
use Rattle.gx_script.specs.declared.lines.ParentLine.TheVariants as parent_line
use Rattle.gx_script.specs.declared.lines.PersonLine.TheVariants as person_line
use Rattle.gx_script.specs.Commits.{parent_item, put_line}
use Rattle.gx_script.specs.Fields.{IsPerson, who_text, message_line, end_line}
use Rattle.gx_script.specs.Grammar.{State, AtParent, AtContent, AtEdit, AtFile, AtPerson, AtMessage, AtText, AtEnd, AtOver, Goes, Wants, after_line, after_block, Leads, FailsFrom, IsNo, SaysMessage, SaysPerson, SaysParent, SaysChange, IsPersonWord, put_word, text_items, HasSize, described_items}
use Rattle.gx_script.specs.Items.{Item, Line, Block, item_text, items_text, ended, block_limit}
use Rattle.gx_script.specs.Reading.{Reading, Moves, Stays, Anything}
use Rattle.gx_script.specs.References.{message_items}
use Rattle.gx_script.specs.Steps.{GivesLine, LineFails, BlockFails}
use Rattle.gx_script.proofs.GrammarLemmas.{fails_behind, line_fails_from, block_fails_from, leads_append}
use Rattle.gx_script.proofs.ReaderLemmas.{moves_then}
use Rattle.gx_script.proofs.RequestLemmas.{says_parent, says_message, says_person, says_change}
use Rattle.gx_script.proofs.StateLemmas.{has_end, has_text, has_message, has_person, has_parent, has_edit, end_good}

-- One item was given.
pub one_moved : (a b : Reading) (l m : Option (List ℕ)) (x : Item) → Moves a b l m (item_text x) → Moves a b l m (items_text (x ∷ []))
one_moved a b l m x p = subst (Moves a b l m) (sym (append-nil (item_text x))) p

line_moved : (a b : Reading) (l m : Option (List ℕ)) (line said : List ℕ) → line ≡ said → Moves a b l m (ended line) → Moves a b l m (ended said)
line_moved a b l m line said e p = subst (λ (x : List ℕ). Moves a b l m (ended x)) e p

-- An item is given, and then others.
pub moves_more : (a b c : Reading) (l m n : Option (List ℕ)) (x : Item) (xs : List Item) → Moves a b l m (item_text x) → Moves b c m n (items_text xs) → Moves a c l n (items_text (x ∷ xs))
moves_more a b c l m n x xs p q = moves_then a b c l m n (item_text x) (items_text xs) p q

pub text_fails : (n : ℕ) (a : Reading) (l k : Option (List ℕ)) (f h : ℕ) (e : ScriptError) → n ≤ block_limit → BlockFails n a l k f h e → FailsFrom (AtText n) a l k f h e
text_fails n a l k f h e le fails = block_fails_from (AtText n) n a l k f h e (has_text a.hash n le) fails

text_leads : (hash : HashKind) (n : ℕ) (block : List ℕ) → n ≤ block_limit → length block ≡ n → Leads hash (AtText n) (Block block ∷ []) AtEnd
text_leads hash n block le e = ((e, omega (arith, e, le)), refl)

pub end_fails : (n : ℕ) (a b : Reading) (l m k : Option (List ℕ)) (f g h : ℕ) (e : ScriptError) (block : List ℕ) → n ≤ block_limit → length block ≡ n → Moves a b l m (ended block) → f ≤ g → LineFails (λ front. IsEnd k) (λ line. line ≢ end_line) b m k g h e → FailsFrom (AtText n) a l k f h e
end_fails n a b l m k f g h e block le long p later fails =
    fails_behind (AtText n) AtEnd (Block block ∷ []) a b l m k f g h e (text_leads a.hash n block le long) (one_moved a b l m (Block block) p) later
    (line_fails_from AtEnd (λ line. line ≢ end_line) b m k g h e (has_end b.hash) (λ line other goes. other goes) fails)

pub text_reads : (n : ℕ) (a b c : Reading) (l m k : Option (List ℕ)) (block : List ℕ) → n ≤ block_limit → length block ≡ n → Moves a b l m (ended block) → GivesLine (λ line. line ≡ end_line) b c m k
    → HasSize n block × Leads a.hash (AtText n) (text_items block) AtOver × Moves a c l k (items_text (text_items block))
text_reads n a b c l m k block le long p g = (
  long,
  ((long, omega (arith, long, le)), (end_good a.hash, refl)),
  moves_more a b c l m k (Block block) (Line end_line ∷ []) p (one_moved b c m k (Line end_line) (line_moved b c m k g.line end_line g.spelled g.moves)),
)

-- Items were read from a state to another.
pub record Step (q r : State) (a b : Reading) (l m : Option (List ℕ)) (xs : List Item) : Type 0 where
  pub leads : Leads a.hash q xs r
  pub moved : Moves a b l m (items_text xs)

pub step_line : (Spelled : List ℕ → Type 0) (q r : State) (a b : Reading) (l m : Option (List ℕ)) (said : List ℕ) (g : GivesLine Spelled a b l m) → g.line ≡ said → Goes a.hash q g.line → after_line q g.line ≡ r → Step q r a b l m (Line said ∷ [])
step_line Spelled q r a b l m said g e goes then = record {
  leads = subst (λ (x : List ℕ). Leads a.hash q (Line x ∷ []) r) e (record { open_line = g.open_line; short = g.short; goes = goes }, then);
  moved = one_moved a b l m (Line said) (line_moved a b l m g.line said e g.moves);
}

pub step_block : (q r : State) (a b : Reading) (l m : Option (List ℕ)) (block : List ℕ) → Wants q (length block) → after_block q ≡ r → Moves a b l m (ended block) → Step q r a b l m (Block block ∷ [])
step_block q r a b l m block wants then p = record { leads = (wants, then); moved = one_moved a b l m (Block block) p }

pub step_then : (q r s : State) (a b c : Reading) (l m n : Option (List ℕ)) (xs ys : List Item) → Step q r a b l m xs → Step r s b c m n ys → Step q s a c l n (xs ++ ys)
step_then q r s a b c l m n xs ys p t = record {
  leads = leads_append a.hash xs ys q r s p.leads (subst (λ (hash : HashKind). Leads hash r ys s) p.moved.hash t.leads);
  moved = subst (Moves a c l n) (sym (flat_map-append item_text xs ys)) (moves_then a b c l m n (items_text xs) (items_text ys) p.moved t.moved);
}

pub step_fails : (q r : State) (a b : Reading) (l m k : Option (List ℕ)) (f g h : ℕ) (e : ScriptError) (xs : List Item) → Step q r a b l m xs → f ≤ g → FailsFrom r b m k g h e → FailsFrom q a l k f h e
step_fails q r a b l m k f g h e xs p le fails = fails_behind q r xs a b l m k f g h e p.leads p.moved le fails

-- The person and the message of a tag or a reference.
pub person_fails : (word : List ℕ) (a : Reading) (l k : Option (List ℕ)) (f h : ℕ) (e : ScriptError) → IsPersonWord word → LineFails (λ front. IsEnd k) (IsNo (SaysPerson word)) a l k f h e → FailsFrom (AtPerson word) a l k f h e
person_fails word a l k f h e w fails = line_fails_from (AtPerson word) (IsNo (SaysPerson word)) a l k f h e (has_person a.hash word w) (λ line no goes. no goes.0 goes.2) fails

pub message_fails : (a : Reading) (l k : Option (List ℕ)) (f h : ℕ) (e : ScriptError) → LineFails (λ front. IsEnd k) (IsNo SaysMessage) a l k f h e → FailsFrom AtMessage a l k f h e
message_fails a l k f h e fails = line_fails_from AtMessage (IsNo SaysMessage) a l k f h e (has_message a.hash) (λ line no goes. no goes.0 goes.1) fails

pub step_who : (word : List ℕ) (who : Signature) (a b : Reading) (l m : Option (List ℕ)) → IsPersonWord word → GivesLine (SaysPerson word (person_line.Who who)) a b l m → Step (AtPerson word) AtMessage a b l m (Line (word ++ who_text who) ∷ [])
step_who word who a b l m w g = step_line _ (AtPerson word) AtMessage a b l m (word ++ who_text who) g g.spelled.1 (person_line.Who who, w, g.spelled) (says_person word (person_line.Who who) g.line w g.spelled)

pub step_nobody : (word : List ℕ) (size : ℕ) (a b : Reading) (l m : Option (List ℕ)) → IsPersonWord word → GivesLine (SaysPerson word (person_line.Message size)) a b l m → Step (AtPerson word) (AtText size) a b l m (Line (message_line size) ∷ [])
step_nobody word size a b l m w g = step_line _ (AtPerson word) (AtText size) a b l m (message_line size) g g.spelled.1 (person_line.Message size, w, g.spelled) (says_person word (person_line.Message size) g.line w g.spelled)

pub step_message : (size : ℕ) (a b : Reading) (l m : Option (List ℕ)) → GivesLine (SaysMessage size) a b l m → Step AtMessage (AtText size) a b l m (Line (message_line size) ∷ [])
step_message size a b l m g = step_line _ AtMessage (AtText size) a b l m (message_line size) g g.spelled.1 (size, g.spelled) (says_message size g.line g.spelled)

pub step_text : (size : ℕ) (a b : Reading) (l m : Option (List ℕ)) (message : List ℕ) → HasSize size message × Leads a.hash (AtText size) (text_items message) AtOver × Moves a b l m (items_text (text_items message)) → Step (AtText size) AtOver a b l m (text_items message)
step_text size a b l m message t = record { leads = t.1; moved = t.2 }

sized : (q s : State) (a b : Reading) (l m : Option (List ℕ)) (size n : ℕ) (xs : List Item) → n ≡ size → Step q s a b l m (Line (message_line size) ∷ xs) → Step q s a b l m (Line (message_line n) ∷ xs)
sized q s a b l m size n xs e p = subst (λ (k : ℕ). Step q s a b l m (Line (message_line k) ∷ xs)) (sym e) p

pub described_who : (word : List ℕ) (who : Signature) (size : ℕ) (message : List ℕ) (a b c d : Reading) (l m n k : Option (List ℕ)) → IsPersonWord word → GivesLine (SaysPerson word (person_line.Who who)) a b l m → GivesLine (SaysMessage size) b c m n
    → HasSize size message × Leads c.hash (AtText size) (text_items message) AtOver × Moves c d n k (items_text (text_items message))
    → IsPerson (Some who) × Leads a.hash (AtPerson word) (described_items word (Some who, message)) AtOver × Moves a d l k (items_text (described_items word (Some who, message)))
described_who word who size message a b c d l m n k w g h t =
    let more = sized AtMessage AtOver b d m k size (length message) (text_items message) t.0 (step_then AtMessage (AtText size) AtOver b c d m n k (Line (message_line size) ∷ []) (text_items message) (step_message size b c m n h) (step_text size c d n k message t)) in
    let all = step_then (AtPerson word) AtMessage AtOver a b d l m k (Line (word ++ who_text who) ∷ []) (message_items message) (step_who word who a b l m w g) more in
    (g.spelled.0, all.leads, all.moved)

pub described_nobody : (word : List ℕ) (size : ℕ) (message : List ℕ) (a b c : Reading) (l m n : Option (List ℕ)) → IsPersonWord word → GivesLine (SaysPerson word (person_line.Message size)) a b l m
    → HasSize size message × Leads b.hash (AtText size) (text_items message) AtOver × Moves b c m n (items_text (text_items message))
    → IsPerson None × Leads a.hash (AtPerson word) (described_items word (None, message)) AtOver × Moves a c l n (items_text (described_items word (None, message)))
described_nobody word size message a b c l m n w g t =
    let all = sized (AtPerson word) AtOver a c l n size (length message) (text_items message) t.0 (step_then (AtPerson word) (AtText size) AtOver a b c l m n (Line (message_line size) ∷ []) (text_items message) (step_nobody word size a b l m w g) (step_text size b c m n message t)) in
    (tt, all.leads, all.moved)

-- The parents of a commit.
pub parents_fail : (a b : Reading) (l m n : Option (List ℕ)) (f g h : ℕ) (e : ScriptError) (k : ℕ) (xs : List Item) → Step (AtParent 0) (AtParent k) a b l m xs → f ≤ g → LineFails (λ front. IsEnd n) (IsNo (SaysParent b.hash k)) b m n g h e → FailsFrom (AtParent 0) a l n f h e
parents_fail a b l m n f g h e k xs s le fails =
    step_fails (AtParent 0) (AtParent k) a b l m n f g h e xs s le (line_fails_from (AtParent k) (IsNo (SaysParent b.hash k)) b m n g h e (has_parent b.hash k) (λ line no goes. no goes.0 goes.1) fails)

step_parent : (k : ℕ) (id : ObjectId) (a b : Reading) (l m : Option (List ℕ)) → GivesLine (SaysParent a.hash k (parent_line.Parent id)) a b l m → Step (AtParent k) (AtParent (k + 1)) a b l m (parent_item id ∷ [])
step_parent k id a b l m g = step_line _ (AtParent k) (AtParent (k + 1)) a b l m (codes "parent " ++ hex_of id) g g.spelled.2 (parent_line.Parent id, g.spelled) (says_parent a.hash k (parent_line.Parent id) g.line g.spelled)

pub parents_more : (a b c : Reading) (l m n : Option (List ℕ)) (ids : List ObjectId) (id : ObjectId) → Step (AtParent 0) (AtParent (length ids)) a b l m (map parent_item ids) → GivesLine (SaysParent b.hash (length ids) (parent_line.Parent id)) b c m n → Step (AtParent 0) (AtParent (length (ids ++ id ∷ []))) a c l n (map parent_item (ids ++ id ∷ []))
parents_more a b c l m n ids id s g =
    subst (λ (xs : List Item). Step (AtParent 0) (AtParent (length (ids ++ id ∷ []))) a c l n xs) (sym (map_more ids))
    (subst (λ (k : ℕ). Step (AtParent 0) (AtParent k) a c l n (map parent_item ids ++ parent_item id ∷ [])) (sym (length-append ids (id ∷ [])))
    (step_then (AtParent 0) (AtParent (length ids)) (AtParent (length ids + 1)) a b c l m n (map parent_item ids) (parent_item id ∷ []) s (step_parent (length ids) id b c m n g)))
  where
    map_more : (xs : List ObjectId) → map parent_item (xs ++ id ∷ []) ≡ map parent_item xs ++ parent_item id ∷ []
    map_more [] = refl
    map_more (x ∷ xs) = ap (λ (z : List Item). parent_item x ∷ z) (map_more xs)

pub parents_end : (a b c : Reading) (l m n : Option (List ℕ)) (k size : ℕ) (xs : List Item) → Step (AtParent 0) (AtParent k) a b l m xs → GivesLine (SaysParent b.hash k (parent_line.Message size)) b c m n → Step (AtParent 0) (AtContent size) a c l n (xs ++ Line (message_line size) ∷ [])
parents_end a b c l m n k size xs s g = step_then (AtParent 0) (AtParent k) (AtContent size) a b c l m n xs (Line (message_line size) ∷ []) s
    (step_line _ (AtParent k) (AtContent size) b c m n (message_line size) g g.spelled.1 (parent_line.Message size, g.spelled) (says_parent b.hash k (parent_line.Message size) g.line g.spelled))

pub step_stays : (q r : State) (a b : Reading) (l m : Option (List ℕ)) (xs : List Item) → Step q r a b l m xs → Stays Anything a l m
step_stays q r a b l m xs s = record { taken = s.moved.taken; takes = s.moved.takes; room = omega (arith, s.moved.room); part = tt }

-- The edits of a commit.
pub edits_fail : (most : ℕ) (a b : Reading) (l m n : Option (List ℕ)) (f g h : ℕ) (e : ScriptError) (k room : ℕ) (xs : List Item) → Step (AtEdit 0 most) (AtEdit k room) a b l m xs → f ≤ g → LineFails (λ front. IsEnd n) (IsNo (SaysChange b.hash k room)) b m n g h e → FailsFrom (AtEdit 0 most) a l n f h e
edits_fail most a b l m n f g h e k room xs s le fails =
    step_fails (AtEdit 0 most) (AtEdit k room) a b l m n f g h e xs s le (line_fails_from (AtEdit k room) (IsNo (SaysChange b.hash k room)) b m n g h e (has_edit b.hash k room) (λ line no goes. no goes.0 goes.1) fails)

pub step_put : (k room size : ℕ) (kind : PutKind) (path : List ℕ) (a b : Reading) (l m : Option (List ℕ)) → GivesLine (SaysChange a.hash k room (change.Put kind size path)) a b l m → Step (AtEdit k room) (AtFile size (k + 1) (room - size)) a b l m (Line (put_line (put_word kind) size path) ∷ [])
step_put k room size kind path a b l m g = step_line _ (AtEdit k room) (AtFile size (k + 1) (room - size)) a b l m (put_line (put_word kind) size path) g g.spelled.4 (change.Put kind size path, g.spelled) (says_change a.hash k room (change.Put kind size path) g.line g.spelled)

pub step_end : (k room : ℕ) (a b : Reading) (l m : Option (List ℕ)) → GivesLine (SaysChange a.hash k room change.End) a b l m → Step (AtEdit k room) AtOver a b l m (Line end_line ∷ [])
step_end k room a b l m g = step_line _ (AtEdit k room) AtOver a b l m end_line g g.spelled (change.End, g.spelled) (says_change a.hash k room change.End g.line g.spelled)
