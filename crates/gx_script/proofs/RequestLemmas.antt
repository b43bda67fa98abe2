-- Items that come one after the other are those of a request.
use Rattle.std.proofs.Common.{◌≡◌, ◌∙◌, sym, ap, refl, subst, ℕ, zero, suc, ◌+◌, ◌-◌, ◌≤◌, List, [], ◌∷◌, ◌++◌, length, map, codes, arith, append_assoc, Bool, true, false, Option, Some, None, inl, inr}
use Rattle.std.specs.List.{AllByRecursion, flat_map}
use Rattle.gx_edit.specs.declared.path_edit.PathEdit.{PathEdit}
use Rattle.gx_edit.specs.declared.path_edit.PathEdit.TheVariants as path_edit
use Rattle.gx_hash.specs.ObjectId.{hex_of}
use Rattle.gx_hash.specs.declared.kind.HashKind.{HashKind}
use Rattle.gx_hash.specs.declared.oid.ObjectId.{ObjectId}
use Rattle.gx_object.specs.declared.signature.Signature.{Signature}
use Rattle.gx_script.specs.declared.change.Change.{Change}
use Rattle.gx_script.specs.declared.change.Change.TheVariants as change
use Rattle.gx_script.specs.declared.change.PutKind.{PutKind}
use Rattle.gx_script.specs.declared.change.PutKind.TheVariants as put_kind
use Rattle.gx_script.specs.declared.lines.ParentLine.{ParentLine}
use Rattle.gx_script.specs.declared.lines.ParentLine.TheVariants as parent_line
use Rattle.gx_script.specs.declared.lines.PersonLine.{PersonLine}
use Rattle.gx_script.specs.declared.lines.PersonLine.TheVariants as person_line
use Rattle.gx_script.specs.declared.opening.Opening.{Opening}
use Rattle.gx_script.specs.declared.opening.Opening.TheVariants as opening
use Rattle.gx_script.specs.declared.request.Request.{Request}
use Rattle.gx_script.specs.declared.request.Request.TheVariants.{Commit, Identity, Tag, Ref, Delete, Refs, Log, Paths, Walk, Bases, Octopus, Describe, NoteSet, NoteDrop, NoteGet, Head, Namespace}
use Rattle.gx_script.specs.Commits.{commit_line, put_line, edit_items, edits_items, content_items, parent_item, IsEdit}
use Rattle.gx_script.specs.Fields.{IsId, IsPerson, person_items, author_word, committer_word, tagger_word, who_text, message_line, end_line}
use Rattle.gx_script.specs.Grammar.{State, AtFirst, AtAuthor, AtCommitter, AtParent, AtContent, AtEdit, AtFile, AtPerson, AtMessage, AtText, AtEnd, AtNote, AtOver, after, after_line, after_first, after_opening, Leads, SaysOpening, SaysParent, SaysPerson, SaysMessage, SaysChange, put_word, edit_of, IsPersonWord}
use Rattle.gx_script.specs.Notes.{note_set_line}
use Rattle.gx_script.specs.Items.{Item, Line, Block, NoNewline, blocks_limit, edit_limit, parent_limit}
use Rattle.gx_script.specs.References.{message_items, refs_line, namespace_line}
use Rattle.gx_script.specs.Script.{IsForm}
use Rattle.gx_script.specs.Spelling.{items_of}
use Rattle.gx_script.proofs.GrammarLemmas.{over_none}
use Rattle.gx_script.proofs.IdLemmas.{hex_space}
use Rattle.gx_script.proofs.NameLemmas.{partial_space}
use Rattle.gx_script.proofs.StateLemmas.{message_then, nobody_then, person_then, parent_then, parents_then, put_then, note_size_is}

-- The state after what a line says.
abbrev pub parent_state : ℕ → ParentLine → State
parent_state k (parent_line.Parent id) = AtParent (k + 1)
parent_state k (parent_line.Message size) = AtContent size

pub says_parent : (hash : HashKind) (k : ℕ) (next : ParentLine) (line : List ℕ) → SaysParent hash k next line → after_line (AtParent k) line ≡ parent_state k next
says_parent hash k (parent_line.Parent id) line s = subst (λ (l : List ℕ). after_line (AtParent k) l ≡ AtParent (k + 1)) (sym s.2) (parent_then k (hex_of id))
says_parent hash k (parent_line.Message size) line s = subst (λ (l : List ℕ). after_line (AtParent k) l ≡ AtContent size) (sym s.1) (parents_then k size s.0)

pub says_message : (size : ℕ) (line : List ℕ) → SaysMessage size line → after_line AtMessage line ≡ AtText size
says_message size line s = subst (λ (l : List ℕ). after_line AtMessage l ≡ AtText size) (sym s.1) (message_then size s.0)

abbrev pub person_state : PersonLine → State
person_state (person_line.Who who) = AtMessage
person_state (person_line.Message size) = AtText size

pub says_person : (word : List ℕ) (next : PersonLine) (line : List ℕ) → IsPersonWord word → SaysPerson word next line → after_line (AtPerson word) line ≡ person_state next
says_person word (person_line.Who who) line h s = subst (λ (l : List ℕ). after_line (AtPerson word) l ≡ AtMessage) (sym s.1) (person_then word (who_text who) h)
says_person word (person_line.Message size) line h s = subst (λ (l : List ℕ). after_line (AtPerson word) l ≡ AtText size) (sym s.1) (nobody_then word size h s.0)

abbrev pub change_state : ℕ → ℕ → Change → State
change_state c r (change.Put kind size path) = AtFile size (c + 1) (r - size)
change_state c r (change.Whole edit) = AtEdit (c + 1) r
change_state c r change.End = AtOver

whole_then : (c r : ℕ) (edit : PathEdit) (line : List ℕ) → edit_items edit ≡ Line line ∷ [] → after_line (AtEdit c r) line ≡ AtEdit (c + 1) r
whole_then c r (path_edit.File path bytes x) line e = absurd (cc)
whole_then c r (path_edit.Link path bytes) line e = absurd (cc)
whole_then c r (path_edit.Module path id) line e = let h : codes "module " ++ (hex_of id ++ 32 ∷ path) ≡ line = cc in subst (λ (l : List ℕ). after_line (AtEdit c r) l ≡ AtEdit (c + 1) r) h refl
whole_then c r (path_edit.Remove path) line e = let h : codes "drop " ++ path ≡ line = cc in subst (λ (l : List ℕ). after_line (AtEdit c r) l ≡ AtEdit (c + 1) r) h refl

pub says_change : (hash : HashKind) (c r : ℕ) (next : Change) (line : List ℕ) → SaysChange hash c r next line → after_line (AtEdit c r) line ≡ change_state c r next
says_change hash c r (change.Put kind size path) line s = subst (λ (l : List ℕ). after_line (AtEdit c r) l ≡ AtFile size (c + 1) (r - size)) (sym s.4) (put_then c r kind size path s.1)
says_change hash c r (change.Whole edit) line s = whole_then c r edit line s.2
says_change hash c r change.End line s = subst (λ (l : List ℕ). after_line (AtEdit c r) l ≡ AtOver) (sym s) refl

over : (l line : List ℕ) → Line l ∷ [] ≡ Line line ∷ [] → after_first l ≡ AtOver → after_first line ≡ AtOver
over l line e p = let h : l ≡ line = cc in subst (λ (x : List ℕ). after_first x ≡ AtOver) h p

refs_over : (prefix : Option (List ℕ)) → after_first (refs_line prefix) ≡ AtOver
refs_over None = refl
refs_over (Some prefix) = refl

namespace_over : (name : Option (List ℕ)) → after_first (namespace_line name) ≡ AtOver
namespace_over None = refl
namespace_over (Some name) = refl

person_left : (line : List ℕ) (person : Option Signature) (word message l : List ℕ) → Line l ∷ (person_items word person ++ message_items message) ≡ Line line ∷ [] → ⊥
person_left line None word message l h = cc
person_left line (Some who) word message l h = cc

one_over : (r : Request) (line : List ℕ) → items_of r ≡ Line line ∷ [] → after_first line ≡ AtOver
one_over (Commit r) line e = absurd (cc)
one_over (Identity who) line e = over _ line e refl
one_over (Tag r) line e = absurd (person_left line r.tagger tagger_word r.message _ e)
one_over (Ref r) line e = absurd (person_left line r.committer committer_word r.message _ e)
one_over (Delete name expect) line e = over _ line e refl
one_over (Refs prefix) line e = over _ line e (refs_over prefix)
one_over (Log name) line e = over _ line e refl
one_over (Paths id) line e = over _ line e refl
one_over (Walk order ids) line e = over _ line e refl
one_over (Bases first others) line e = over _ line e refl
one_over (Octopus ids) line e = over _ line e refl
one_over (Describe names max id) line e = over _ line e refl
one_over (NoteSet r) line e = absurd (cc)
one_over (NoteDrop reference object) line e = over _ line e refl
one_over (NoteGet object patterns) line e = over _ line e refl
one_over Head line e = over _ line e refl
one_over (Namespace name) line e = over _ line e (namespace_over name)

pub says_opening : (hash : HashKind) (o : Opening) (line : List ℕ) → SaysOpening hash o line → after_first line ≡ after_opening o
says_opening hash (opening.OneLine r) line s = one_over r line s.1
says_opening hash (opening.Commit name) line s = subst (λ (l : List ℕ). after_first l ≡ AtAuthor) (sym s.1) refl
says_opening hash (opening.Tag name target kind) line s = subst (λ (l : List ℕ). after_first l ≡ AtPerson tagger_word) (sym s.1) refl
says_opening hash (opening.Ref name target expect) line s = subst (λ (l : List ℕ). after_first l ≡ AtPerson committer_word) (sym s.1) refl
says_opening hash (opening.NoteSet reference object size) line s =
    subst (λ (l : List ℕ). after_first l ≡ AtNote size) (sym s.1) (ap AtNote (note_size_is reference object size (partial_space reference s.0.0.0) (hex_space hash object s.0.0.1) s.0.1))

over_nothing : (hash : HashKind) (xs : List Item) → Leads hash AtOver xs AtOver → xs ≡ []
over_nothing hash [] p = refl
over_nothing hash (x ∷ xs) p = absurd (over_none hash AtOver x refl p.0)

-- The same, where only an equation tells the state.
at_state : (hash : HashKind) (q r : State) (xs : List Item) → q ≡ r → Leads hash q xs AtOver → Leads hash r xs AtOver
at_state hash q r xs e p = subst (λ (z : State). Leads hash z xs AtOver) e p

-- No state but the last is the last.
abbrev is_over : State → Bool
is_over AtFirst = false
is_over AtAuthor = false
is_over AtCommitter = false
is_over (AtParent k) = false
is_over (AtContent n) = false
is_over (AtEdit c r) = false
is_over (AtFile n c r) = false
is_over (AtPerson word) = false
is_over AtMessage = false
is_over (AtText n) = false
is_over AtEnd = false
is_over (AtNote n) = false
is_over AtOver = true

not_over : (q : State) → is_over q ≡ false → q ≡ AtOver → ⊥
not_over q p e = let h : false ≡ true = sym p ∙ ap is_over e in absurd (cc)

-- The end of a tag or a reference.
end_is : (hash : HashKind) (xs : List Item) → Leads hash AtEnd xs AtOver → xs ≡ Line end_line ∷ []
end_is hash [] p = absurd (not_over AtEnd refl p)
end_is hash ((Line l) ∷ xs) p = let e : l ≡ end_line = p.0.goes in let n : xs ≡ [] = over_nothing hash xs p.1 in ap (λ (z : List ℕ). Line z ∷ xs) e ∙ ap (λ (z : List Item). Line end_line ∷ z) n
end_is hash ((Block b) ∷ xs) p = absurd p.0

record TextIs (n : ℕ) (xs : List Item) : Type 0 where
  message : List ℕ
  size : length message ≡ n
  is : xs ≡ Block message ∷ Line end_line ∷ []

text_is : (hash : HashKind) (n : ℕ) (xs : List Item) → Leads hash (AtText n) xs AtOver → TextIs n xs
text_is hash n [] p = absurd (not_over (AtText n) refl p)
text_is hash n ((Line l) ∷ xs) p = absurd p.0.goes
text_is hash n ((Block b) ∷ xs) p = record { message = b; size = p.0.0; is = ap (λ (l : List Item). Block b ∷ l) (end_is hash xs p.1) }

record MessageIs (xs : List Item) : Type 0 where
  message : List ℕ
  is : xs ≡ message_items message

with_text : (n : ℕ) (line : List ℕ) (xs : List Item) → line ≡ message_line n → (t : TextIs n xs) → Line line ∷ xs ≡ message_items t.message
with_text n line xs e t = ap (λ (l : List ℕ). Line l ∷ xs) e ∙ ap (λ (s : ℕ). Line (message_line s) ∷ xs) (sym t.size) ∙ ap (λ (l : List Item). Line (message_line (length t.message)) ∷ l) t.is

message_is : (hash : HashKind) (xs : List Item) → Leads hash AtMessage xs AtOver → MessageIs xs
message_is hash [] p = absurd (not_over AtMessage refl p)
message_is hash ((Line l) ∷ xs) p =
    let s = p.0.goes in
    let t = text_is hash s.0 xs (at_state hash (after_line AtMessage l) (AtText s.0) xs (says_message s.0 l s.1) p.1) in
    record { message = t.message; is = with_text s.0 l xs s.1.1 t }
message_is hash ((Block b) ∷ xs) p = absurd p.0

record DescribedIs (word : List ℕ) (xs : List Item) : Type 0 where
  person : Option Signature
  message : List ℕ
  fits : IsPerson person
  is : xs ≡ person_items word person ++ message_items message

described_line : (hash : HashKind) (word line : List ℕ) (xs : List Item) (next : PersonLine) → IsPersonWord word → SaysPerson word next line → Leads hash (after_line (AtPerson word) line) xs AtOver → DescribedIs word (Line line ∷ xs)
described_line hash word line xs (person_line.Who who) h s p =
    let m = message_is hash xs (at_state hash (after_line (AtPerson word) line) AtMessage xs (says_person word (person_line.Who who) line h s) p) in
    record { person = Some who; message = m.message; fits = s.0; is = ap (λ (l : List ℕ). Line l ∷ xs) s.1 ∙ ap (λ (l : List Item). Line (word ++ who_text who) ∷ l) m.is }
described_line hash word line xs (person_line.Message size) h s p =
    let t = text_is hash size xs (at_state hash (after_line (AtPerson word) line) (AtText size) xs (says_person word (person_line.Message size) line h s) p) in
    record { person = None; message = t.message; fits = tt; is = with_text size line xs s.1 t }

described_is : (hash : HashKind) (word : List ℕ) (xs : List Item) → IsPersonWord word → Leads hash (AtPerson word) xs AtOver → DescribedIs word xs
described_is hash word [] h p = absurd (not_over (AtPerson word) refl p)
described_is hash word ((Line l) ∷ xs) h p = described_line hash word l xs p.0.goes.0 h p.0.goes.2 p.1
described_is hash word ((Block b) ∷ xs) h p = absurd p.0

-- The edits of a commit.
record EditsAre (hash : HashKind) (c : ℕ) (xs : List Item) : Type 0 where
  edits : List PathEdit
  each : AllByRecursion (IsEdit hash) edits
  count : c + length edits ≤ edit_limit
  is : xs ≡ edits_items edits

edit_fits : (hash : HashKind) (kind : PutKind) (path bytes : List ℕ) → NoNewline path → IsEdit hash (edit_of kind path bytes)
edit_fits hash put_kind.File path bytes h = h
edit_fits hash put_kind.Executable path bytes h = h
edit_fits hash put_kind.Link path bytes h = h

pub put_items : (kind : PutKind) (path bytes : List ℕ) → edit_items (edit_of kind path bytes) ≡ Line (put_line (put_word kind) (length bytes) path) ∷ Block bytes ∷ []
put_items put_kind.File path bytes = refl
put_items put_kind.Executable path bytes = refl
put_items put_kind.Link path bytes = refl

with_put : (hash : HashKind) (c n : ℕ) (kind : PutKind) (path bytes line : List ℕ) (xs : List Item) → NoNewline path → line ≡ put_line (put_word kind) n path → length bytes ≡ n → EditsAre hash (c + 1) xs → EditsAre hash c (Line line ∷ Block bytes ∷ xs)
with_put hash c n kind path bytes line xs open_path e long more = record {
  edits = edit_of kind path bytes ∷ more.edits;
  each = (edit_fits hash kind path bytes open_path, more.each);
  count = omega (arith, more.count);
  is = ap (λ (l : List ℕ). Line l ∷ Block bytes ∷ xs) (e ∙ ap (λ (s : ℕ). put_line (put_word kind) s path) (sym long))
      ∙ ap (λ (l : List Item). Line (put_line (put_word kind) (length bytes) path) ∷ Block bytes ∷ l) more.is
      ∙ ap (λ (l : List Item). l ++ edits_items more.edits) (sym (put_items kind path bytes))
      ∙ sym (append_assoc (edit_items (edit_of kind path bytes)) (flat_map edit_items more.edits) (Line end_line ∷ []));
}

with_whole : (hash : HashKind) (c : ℕ) (edit : PathEdit) (line : List ℕ) (xs : List Item) → IsEdit hash edit → edit_items edit ≡ Line line ∷ [] → EditsAre hash (c + 1) xs → EditsAre hash c (Line line ∷ xs)
with_whole hash c edit line xs fits e more = record {
  edits = edit ∷ more.edits;
  each = (fits, more.each);
  count = omega (arith, more.count);
  is = ap (λ (l : List Item). Line line ∷ l) more.is ∙ ap (λ (l : List Item). l ++ edits_items more.edits) (sym e) ∙ sym (append_assoc (edit_items edit) (flat_map edit_items more.edits) (Line end_line ∷ []));
}

no_edits : (hash : HashKind) (c : ℕ) (line : List ℕ) (xs : List Item) → c ≤ edit_limit → line ≡ end_line → xs ≡ [] → EditsAre hash c (Line line ∷ xs)
no_edits hash c line xs le e n = record { edits = []; each = tt; count = omega (arith, le); is = ap (λ (l : List ℕ). Line l ∷ xs) e ∙ ap (λ (l : List Item). Line end_line ∷ l) n }

behind_change : (hash : HashKind) (xs : List Item) (c r : ℕ) (next : Change) (line : List ℕ) → c ≤ edit_limit → SaysChange hash c r next line → Leads hash (change_state c r next) xs AtOver
    → ((ys : List Item) (k room : ℕ) → length ys ≤ length xs → k ≤ edit_limit → Leads hash (AtEdit k room) ys AtOver → EditsAre hash k ys) → EditsAre hash c (Line line ∷ xs)
behind_change hash xs c r change.End line le s p more = no_edits hash c line xs le s (over_nothing hash xs p)
behind_change hash xs c r (change.Whole edit) line le s p more = with_whole hash c edit line xs s.1 s.2 (more xs (c + 1) r (omega arith) (omega (arith, s.0)) p)
behind_change hash [] c r (change.Put kind size path) line le s p more = absurd (not_over (AtFile size (c + 1) (r - size)) refl p)
behind_change hash ((Line l) ∷ xs) c r (change.Put kind size path) line le s p more = absurd p.0.goes
behind_change hash ((Block b) ∷ xs) c r (change.Put kind size path) line le s p more = with_put hash c size kind path b line xs s.3 s.4 p.0.0 (more xs (c + 1) (r - size) (omega arith) (omega (arith, s.0)) p.1)

edits_within : (n : ℕ) (hash : HashKind) (xs : List Item) (c r : ℕ) → length xs ≤ n → c ≤ edit_limit → Leads hash (AtEdit c r) xs AtOver → EditsAre hash c xs
edits_within n hash [] c r small le p = absurd (not_over (AtEdit c r) refl p)
edits_within n hash ((Block b) ∷ xs) c r small le p = absurd p.0
edits_within zero hash ((Line l) ∷ xs) c r small le p = absurd (omega (arith, small))
edits_within (suc n) hash ((Line l) ∷ xs) c r small le p =
    behind_change hash xs c r p.0.goes.0 l le p.0.goes.1 (at_state hash (after_line (AtEdit c r) l) (change_state c r p.0.goes.0) xs (says_change hash c r p.0.goes.0 l p.0.goes.1) p.1)
    (λ ys k room few below q. edits_within n hash ys k room (omega (arith, few, small)) below q)

edits_are : (hash : HashKind) (xs : List Item) (c r : ℕ) → c ≤ edit_limit → Leads hash (AtEdit c r) xs AtOver → EditsAre hash c xs
edits_are hash xs c r le p = edits_within (length xs) hash xs c r (omega arith) le p

-- The parents of a commit, and what stands after them.
record ContentIs (hash : HashKind) (n : ℕ) (xs : List Item) : Type 0 where
  message : List ℕ
  size : length message ≡ n
  edits : List PathEdit
  each : AllByRecursion (IsEdit hash) edits
  count : length edits ≤ edit_limit
  is : xs ≡ Block message ∷ edits_items edits

content_is : (hash : HashKind) (n : ℕ) (xs : List Item) → Leads hash (AtContent n) xs AtOver → ContentIs hash n xs
content_is hash n [] p = absurd (not_over (AtContent n) refl p)
content_is hash n ((Line l) ∷ xs) p = absurd p.0.goes
content_is hash n ((Block b) ∷ xs) p =
    let t = edits_are hash xs 0 (blocks_limit - n) (omega arith) p.1 in
    record { message = b; size = p.0.0; edits = t.edits; each = t.each; count = omega (arith, t.count); is = ap (λ (l : List Item). Block b ∷ l) t.is }

record ParentsAre (hash : HashKind) (k : ℕ) (xs : List Item) : Type 0 where
  ids : List ObjectId
  message : List ℕ
  edits : List PathEdit
  kind : AllByRecursion (IsId hash) ids
  few : k + length ids ≤ parent_limit
  each : AllByRecursion (IsEdit hash) edits
  count : length edits ≤ edit_limit
  is : xs ≡ map parent_item ids ++ content_items message edits

behind_parent : (hash : HashKind) (xs : List Item) (k : ℕ) (next : ParentLine) (line : List ℕ) → k ≤ parent_limit → SaysParent hash k next line → Leads hash (parent_state k next) xs AtOver
    → ((n : ℕ) → n ≤ parent_limit → Leads hash (AtParent n) xs AtOver → ParentsAre hash n xs) → ParentsAre hash k (Line line ∷ xs)
behind_parent hash xs k (parent_line.Parent id) line le s p more =
    let t = more (k + 1) (omega (arith, s.0)) p in
    record { ids = id ∷ t.ids; message = t.message; edits = t.edits; kind = (s.1, t.kind); few = omega (arith, t.few); each = t.each; count = t.count; is = ap (λ (l : List ℕ). Line l ∷ xs) s.2 ∙ ap (λ (l : List Item). parent_item id ∷ l) t.is }
behind_parent hash xs k (parent_line.Message size) line le s p more =
    let t = content_is hash size xs p in
    record { ids = []; message = t.message; edits = t.edits; kind = tt; few = omega (arith, le); each = t.each; count = t.count; is = ap (λ (l : List ℕ). Line l ∷ xs) s.1 ∙ ap (λ (n : ℕ). Line (message_line n) ∷ xs) (sym t.size) ∙ ap (λ (l : List Item). Line (message_line (length t.message)) ∷ l) t.is }

parents_are : (hash : HashKind) (xs : List Item) (k : ℕ) → k ≤ parent_limit → Leads hash (AtParent k) xs AtOver → ParentsAre hash k xs
parents_are hash [] k le p = absurd (not_over (AtParent k) refl p)
parents_are hash ((Line l) ∷ xs) k le p = behind_parent hash xs k p.0.goes.0 l le p.0.goes.1 (at_state hash (after_line (AtParent k) l) (parent_state k p.0.goes.0) xs (says_parent hash k p.0.goes.0 l p.0.goes.1) p.1) (λ n below q. parents_are hash xs n below q)
parents_are hash ((Block b) ∷ xs) k le p = absurd p.0

-- A request of these items.
pub record Requested (hash : HashKind) (xs : List Item) : Type 0 where
  pub request : Request
  pub form : IsForm hash request
  pub is : items_of request ≡ xs

note_is : (hash : HashKind) (reference : List ℕ) (object : ObjectId) (n : ℕ) (line : List ℕ) (xs : List Item) → SaysOpening hash (opening.NoteSet reference object n) line → Leads hash (AtNote n) xs AtOver → Requested hash (Line line ∷ xs)
note_is hash reference object n line [] s p = absurd (not_over (AtNote n) refl p)
note_is hash reference object n line ((Line l) ∷ xs) s p = absurd p.0.goes
note_is hash reference object n line ((Block b) ∷ xs) s p = record {
  request = NoteSet (record { reference = reference; object = object; note = b });
  form = s.0.0;
  is = ap (λ (k : ℕ). Line (note_set_line reference object k) ∷ Block b ∷ []) p.0.0 ∙ ap (λ (l : List ℕ). Line l ∷ Block b ∷ []) (sym s.1) ∙ ap (λ (l : List Item). Line line ∷ Block b ∷ l) (sym (over_nothing hash xs p.1));
}

commit_is : (hash : HashKind) (name line : List ℕ) (xs : List Item) → SaysOpening hash (opening.Commit name) line → Leads hash AtAuthor xs AtOver → Requested hash (Line line ∷ xs)
commit_is hash name line [] s p = absurd (not_over AtAuthor refl p)
commit_is hash name line ((Block b) ∷ xs) s p = absurd p.0
commit_is hash name line ((Line a) ∷ []) s p = absurd (not_over AtCommitter refl p.1)
commit_is hash name line ((Line a) ∷ (Block b) ∷ xs) s p = absurd p.1.0
commit_is hash name line ((Line a) ∷ (Line b) ∷ xs) s p =
    let t = parents_are hash xs 0 (omega arith) p.1.1 in
    let author = p.0.goes in
    let committer = p.1.0.goes in
    record {
      request = Commit (record { name = name; author = author.0; committer = committer.0; parents = t.ids; message = t.message; edits = t.edits });
      form = record { name = s.0; author = author.1.0; committer = committer.1.0; ids = t.kind; parents = omega (arith, t.few); edits = t.each; count = t.count };
      is = ap (λ (l : List Item). Line (commit_line name) ∷ Line (author_word ++ who_text author.0) ∷ Line (committer_word ++ who_text committer.0) ∷ l) (sym t.is)
          ∙ ap (λ (l : List ℕ). Line l ∷ Line (author_word ++ who_text author.0) ∷ Line (committer_word ++ who_text committer.0) ∷ xs) (sym s.1)
          ∙ ap (λ (l : List ℕ). Line line ∷ Line l ∷ Line (committer_word ++ who_text committer.0) ∷ xs) (sym author.1.1)
          ∙ ap (λ (l : List ℕ). Line line ∷ Line a ∷ Line l ∷ xs) (sym committer.1.1);
    }

opened : (hash : HashKind) (o : Opening) (line : List ℕ) (xs : List Item) → SaysOpening hash o line → Leads hash (after_opening o) xs AtOver → Requested hash (Line line ∷ xs)
opened hash (opening.OneLine r) line xs s p = record { request = r; form = s.0; is = s.1 ∙ ap (λ (l : List Item). Line line ∷ l) (sym (over_nothing hash xs p)) }
opened hash (opening.Commit name) line xs s p = commit_is hash name line xs s p
opened hash (opening.Tag name target kind) line xs s p =
    let t = described_is hash tagger_word xs (inl refl) p in
    record { request = Tag (record { name = name; target = target; kind = kind; tagger = t.person; message = t.message }); form = record { some = s.0.0; name = s.0.1; target = s.0.2; tagger = t.fits }; is = ap (λ (l : List ℕ). Line l ∷ (person_items tagger_word t.person ++ message_items t.message)) (sym s.1) ∙ ap (λ (l : List Item). Line line ∷ l) (sym t.is) }
opened hash (opening.Ref name target expect) line xs s p =
    let t = described_is hash committer_word xs (inr refl) p in
    record { request = Ref (record { name = name; target = target; expect = expect; committer = t.person; message = t.message }); form = record { name = s.0.0; target = s.0.1; expect = s.0.2; committer = t.fits }; is = ap (λ (l : List ℕ). Line l ∷ (person_items committer_word t.person ++ message_items t.message)) (sym s.1) ∙ ap (λ (l : List Item). Line line ∷ l) (sym t.is) }
opened hash (opening.NoteSet reference object size) line xs s p = note_is hash reference object size line xs s p

pub requested : (hash : HashKind) (xs : List Item) → Leads hash AtFirst xs AtOver → Requested hash xs
requested hash [] p = absurd (not_over AtFirst refl p)
requested hash ((Block b) ∷ xs) p = absurd p.0
requested hash ((Line l) ∷ xs) p = opened hash p.0.goes.0 l xs p.0.goes.1 (at_state hash (after_first l) (after_opening p.0.goes.0) xs (says_opening hash p.0.goes.0 l p.0.goes.1) p.1)
