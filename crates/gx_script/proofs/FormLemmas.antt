-- The items of a request may come one after the other.
use Rattle.std.proofs.Common.{◌≡◌, ◌∙◌, sym, ap, refl, subst, ℕ, ◌+◌, ◌-◌, ◌≤◌, ◌<◌, ◌^◌, List, [], ◌∷◌, ◌++◌, length, map, codes, arith, Bool, true, false, Option, Some, None, zero-add, inl, inr}
use Rattle.std.specs.Prelude.{sum_by}
use Rattle.std.specs.Fmt.{decimal, signed_decimal}
use Rattle.std.specs.List.{AllByRecursion}
use Rattle.std.proofs.lemmas.List.Sums.{sum_by-cons}
use Rattle.gx_edit.specs.declared.path_edit.PathEdit.{PathEdit}
use Rattle.gx_edit.specs.declared.path_edit.PathEdit.TheVariants.{File, Link, Module, Remove}
use Rattle.gx_hash.specs.ObjectId.{hex_of}
use Rattle.gx_hash.specs.declared.kind.HashKind.{HashKind}
use Rattle.gx_hash.specs.declared.oid.ObjectId.{ObjectId}
use Rattle.gx_object.specs.Kind.{kind_name}
use Rattle.gx_object.specs.declared.kind.Kind.{Kind}
use Rattle.gx_object.specs.declared.kind.Kind.TheVariants as kinds
use Rattle.gx_object.specs.declared.signature.Signature.{Signature}
use Rattle.gx_store.specs.declared.target.Target.{Target}
use Rattle.gx_store.specs.declared.target.Target.TheVariants.{Object, Symbolic}
use Rattle.gx_script.specs.declared.change.Change.TheVariants as change
use Rattle.gx_script.specs.declared.change.PutKind.{PutKind}
use Rattle.gx_script.specs.declared.change.PutKind.TheVariants as put_kind
use Rattle.gx_script.specs.declared.lines.ParentLine.TheVariants as parent_line
use Rattle.gx_script.specs.declared.lines.PersonLine.TheVariants as person_line
use Rattle.gx_script.specs.declared.lists.WalkId.{WalkId}
use Rattle.gx_script.specs.declared.opening.Opening.TheVariants as opening
use Rattle.gx_script.specs.declared.request.Expect.{Expect}
use Rattle.gx_script.specs.declared.request.Expect.TheVariants.{Any, Exists, Absent, Match, MatchOrAbsent}
use Rattle.gx_script.specs.declared.request.NameSet.{NameSet}
use Rattle.gx_script.specs.declared.request.NameSet.TheVariants.{Tags, AllTags, AllRefs}
use Rattle.gx_script.specs.declared.request.Order.{Order}
use Rattle.gx_script.specs.declared.request.Order.TheVariants.{Breadth, Newest, Oldest, NewestFrom, OldestFrom}
use Rattle.gx_script.specs.declared.request.Request.{Request}
use Rattle.gx_script.specs.declared.request.Request.TheVariants.{Commit, Identity, Tag, Ref, Delete, Refs, Log, Paths, Walk, Bases, Octopus, Describe, NoteSet, NoteDrop, NoteGet, Head, Namespace}
use Rattle.gx_script.specs.Commits.{commit_line, put_line, module_line, drop_line, edits_items, content_items, parent_item, IsEdit}
use Rattle.gx_script.specs.Fields.{IsId, IsPerson, IsTarget, IsExpect, IsOrder, who_text, person_items, author_word, committer_word, tagger_word, message_line, end_line, target_text, expect_text, order_text, set_text, walk_id_text, hidden_text}
use Rattle.gx_script.specs.Grammar.{AtFirst, AtParent, AtContent, AtEdit, AtFile, AtPerson, AtMessage, AtText, AtNote, AtOver, after_first, Leads, put_word, IsPersonWord}
use Rattle.gx_script.specs.Items.{Item, Line, Block, NoNewline, IsField, spaced, line_limit, block_limit, blocks_limit, edit_limit, parent_limit}
use Rattle.gx_script.specs.References.{message_items, IsPrefix, IsNamespace, refs_line, namespace_line}
use Rattle.gx_script.specs.Script.{IsForm, IsShort, IsRequest, block_size}
use Rattle.gx_script.specs.Spelling.{items_of, identity_word}
use Rattle.gx_script.proofs.IdLemmas.{hex_open, hex_space}
use Rattle.gx_script.proofs.LineLemmas.{opens, without_append, decimal_without, signed_line, no_line}
use Rattle.gx_script.proofs.NameLemmas.{full_open, partial_open, partial_space}
use Rattle.gx_script.proofs.StateLemmas.{lead, message_open, message_short, person_open, end_good, last_good, message_then, nobody_then, person_then, parents_then, put_then, note_size_is}

-- Fields without a newline.
pub field_open : (a b : List ℕ) → NoNewline a → NoNewline b → NoNewline (a ++ 32 ∷ b)
field_open a b p q = without_append 10 a (32 ∷ b) p ((λ e. absurd (omega arith)), q)

spaced_open : {X : Type 0} (text : X → List ℕ) (Fits : X → Type 0) (xs : List X) → ((x : X) → Fits x → NoNewline (text x)) → AllByRecursion Fits xs → NoNewline (spaced (map text xs))
spaced_open text Fits [] f p = tt
spaced_open text Fits (x ∷ xs) f p = ((λ e. absurd (omega arith)), without_append 10 (text x) (spaced (map text xs)) (f x p.0) (spaced_open text Fits xs f p.1))

patterns_open : (fields : List (List ℕ)) → AllByRecursion IsField fields → NoNewline (spaced fields)
patterns_open [] p = tt
patterns_open (x ∷ xs) p = ((λ e. absurd (omega arith)), without_append 10 x (spaced xs) p.0.open_line (patterns_open xs p.1))

target_open : (hash : HashKind) (target : Target) → IsTarget hash target → NoNewline (target_text target)
target_open hash (Object id) h = hex_open hash id h
target_open hash (Symbolic name) h = ((λ e. absurd (omega arith)), full_open name h)

expect_open : (hash : HashKind) (expect : Expect) → IsExpect hash expect → NoNewline (expect_text expect)
expect_open hash Any h = opens (codes "any") refl
expect_open hash Exists h = opens (codes "exists") refl
expect_open hash Absent h = opens (codes "absent") refl
expect_open hash (Match target) h = ((λ e. absurd (omega arith)), target_open hash target h)
expect_open hash (MatchOrAbsent target) h = ((λ e. absurd (omega arith)), target_open hash target h)

order_open : (order : Order) → IsOrder order → NoNewline (order_text order)
order_open Breadth h = opens (codes "breadth") refl
order_open Newest h = opens (codes "newest") refl
order_open Oldest h = opens (codes "oldest") refl
order_open (NewestFrom seconds) h = without_append 10 (codes "newest:") (signed_decimal seconds) (opens (codes "newest:") refl) (signed_line seconds h)
order_open (OldestFrom seconds) h = without_append 10 (codes "oldest:") (signed_decimal seconds) (opens (codes "oldest:") refl) (signed_line seconds h)

set_open : (names : NameSet) → NoNewline (set_text names)
set_open Tags = opens (codes "tags") refl
set_open AllTags = opens (codes "all-tags") refl
set_open AllRefs = opens (codes "all-refs") refl

kind_open : (kind : Kind) → NoNewline (kind_name kind)
kind_open kinds.Blob = opens (codes "blob") refl
kind_open kinds.Tree = opens (codes "tree") refl
kind_open kinds.Commit = opens (codes "commit") refl
kind_open kinds.Tag = opens (codes "tag") refl

hidden_open : (hidden : Bool) → NoNewline (hidden_text hidden)
hidden_open true = opens (codes "^") refl
hidden_open false = tt

walk_id_open : (hash : HashKind) (walked : WalkId) → IsId hash walked.id → NoNewline (walk_id_text walked)
walk_id_open hash walked h = without_append 10 (hidden_text walked.hidden) (hex_of walked.id) (hidden_open walked.hidden) (hex_open hash walked.id h)

-- A message and the end after it.
text_lead : (hash : HashKind) (m : List ℕ) → length m ≤ block_limit → Leads hash (AtText (length m)) (Block m ∷ Line end_line ∷ []) AtOver
text_lead hash m le = ((refl, le), (end_good hash, refl))

message_lead : (hash : HashKind) (m : List ℕ) → length m ≤ block_limit → Leads hash AtMessage (message_items m) AtOver
message_lead hash m le = lead hash AtMessage (AtText (length m)) AtOver (Line (message_line (length m))) (Block m ∷ Line end_line ∷ []) (record { open_line = message_open (length m) le; short = message_short (length m) le; goes = (length m, (le, refl)) }) (message_then (length m) le) (text_lead hash m le)

word_open : (word : List ℕ) → IsPersonWord word → NoNewline word
word_open word (inl e) = subst NoNewline (sym e) (opens tagger_word refl)
word_open word (inr e) = subst NoNewline (sym e) (opens committer_word refl)

pub described_lead : (hash : HashKind) (word : List ℕ) (person : Option Signature) (m : List ℕ) → IsPersonWord word → IsPerson person → AllByRecursion IsShort (person_items word person ++ message_items m) → Leads hash (AtPerson word) (person_items word person ++ message_items m) AtOver
described_lead hash word None m h p s = lead hash (AtPerson word) (AtText (length m)) AtOver (Line (message_line (length m))) (Block m ∷ Line end_line ∷ []) (record { open_line = message_open (length m) s.1.0; short = s.0; goes = (person_line.Message (length m), h, (s.1.0, refl)) }) (nobody_then word (length m) h s.1.0) (text_lead hash m s.1.0)
described_lead hash word (Some who) m h p s = lead hash (AtPerson word) AtMessage AtOver (Line (word ++ who_text who)) (message_items m) (record { open_line = person_open word who (word_open word h) p; short = s.0; goes = (person_line.Who who, h, (p, refl)) }) (person_then word (who_text who) h) (message_lead hash m s.1.1.0)

-- The edits of a commit.
file_sum : (line bytes : List ℕ) (items : List Item) → sum_by block_size (Line line ∷ Block bytes ∷ items) ≡ length bytes + sum_by block_size items
file_sum line bytes items = sum_by-cons block_size (Line line) (Block bytes ∷ items) ∙ zero-add (sum_by block_size (Block bytes ∷ items)) ∙ sum_by-cons block_size (Block bytes) items

put_open : (kind : PutKind) (n : ℕ) (path : List ℕ) → n ≤ block_limit → NoNewline path → NoNewline (put_line (put_word kind) n path)
put_open kind n path le h = without_append 10 (codes "put ") (put_word kind ++ 32 ∷ (decimal n ++ 32 ∷ path)) (opens (codes "put ") refl) (field_open (put_word kind) (decimal n ++ 32 ∷ path) (word kind) (field_open (decimal n) path (decimal_without 10 n no_line (omega arith)) h))
  where
    word : (k : PutKind) → NoNewline (put_word k)
    word put_kind.File = opens (codes "file") refl
    word put_kind.Executable = opens (codes "exec") refl
    word put_kind.Link = opens (codes "link") refl

put_lead : (hash : HashKind) (c r : ℕ) (kind : PutKind) (path bytes : List ℕ) (rest : List Item) → c < edit_limit → length bytes ≤ block_limit → length bytes ≤ r → NoNewline path → length (put_line (put_word kind) (length bytes) path) ≤ line_limit
    → Leads hash (AtEdit (c + 1) (r - length bytes)) rest AtOver → Leads hash (AtEdit c r) (Line (put_line (put_word kind) (length bytes) path) ∷ Block bytes ∷ rest) AtOver
put_lead hash c r kind path bytes rest few small fits open_path short more =
    lead hash (AtEdit c r) (AtFile (length bytes) (c + 1) (r - length bytes)) AtOver (Line (put_line (put_word kind) (length bytes) path)) (Block bytes ∷ rest)
    (record { open_line = put_open kind (length bytes) path small open_path; short = short; goes = (change.Put kind (length bytes) path, (few, small, fits, open_path, refl)) })
    (put_then c r kind (length bytes) path small) ((refl, small), more)

pub edits_lead : (hash : HashKind) (es : List PathEdit) (c r : ℕ) → AllByRecursion (IsEdit hash) es → AllByRecursion IsShort (edits_items es) → c + length es ≤ edit_limit → sum_by block_size (edits_items es) ≤ r → Leads hash (AtEdit c r) (edits_items es) AtOver
edits_lead hash [] c r p s few sum = (last_good hash c r, refl)
edits_lead hash ((File path bytes false) ∷ es) c r p s few sum =
    let total = file_sum (put_line (codes "file") (length bytes) path) bytes (edits_items es) in
    put_lead hash c r put_kind.File path bytes (edits_items es) (omega (arith, few)) s.1.0 (omega (arith, sum, total)) p.0 s.0 (edits_lead hash es (c + 1) (r - length bytes) p.1 s.1.1 (omega (arith, few)) (omega (arith, sum, total)))
edits_lead hash ((File path bytes true) ∷ es) c r p s few sum =
    let total = file_sum (put_line (codes "exec") (length bytes) path) bytes (edits_items es) in
    put_lead hash c r put_kind.Executable path bytes (edits_items es) (omega (arith, few)) s.1.0 (omega (arith, sum, total)) p.0 s.0 (edits_lead hash es (c + 1) (r - length bytes) p.1 s.1.1 (omega (arith, few)) (omega (arith, sum, total)))
edits_lead hash ((Link path bytes) ∷ es) c r p s few sum =
    let total = file_sum (put_line (codes "link") (length bytes) path) bytes (edits_items es) in
    put_lead hash c r put_kind.Link path bytes (edits_items es) (omega (arith, few)) s.1.0 (omega (arith, sum, total)) p.0 s.0 (edits_lead hash es (c + 1) (r - length bytes) p.1 s.1.1 (omega (arith, few)) (omega (arith, sum, total)))
edits_lead hash ((Module path id) ∷ es) c r p s few sum = (
  record {
    open_line = without_append 10 (codes "module ") (hex_of id ++ 32 ∷ path) (opens (codes "module ") refl) (field_open (hex_of id) path (hex_open hash id p.0.0) p.0.2);
    short = s.0;
    goes = (change.Whole (Module path id), (omega (arith, few), p.0, refl));
  },
  edits_lead hash es (c + 1) r p.1 s.1 (omega (arith, few)) (omega (arith, sum, sum_by-cons block_size (Line (module_line id path)) (edits_items es))),
)
edits_lead hash ((Remove path) ∷ es) c r p s few sum = (
  record {
    open_line = without_append 10 (codes "drop ") path (opens (codes "drop ") refl) p.0;
    short = s.0;
    goes = (change.Whole (Remove path), (omega (arith, few), p.0, refl));
  },
  edits_lead hash es (c + 1) r p.1 s.1 (omega (arith, few)) (omega (arith, sum, sum_by-cons block_size (Line (drop_line path)) (edits_items es))),
)

pub parents_lead : (hash : HashKind) (ids : List ObjectId) (k : ℕ) (m : List ℕ) (es : List PathEdit) → AllByRecursion (IsId hash) ids → k + length ids ≤ parent_limit → AllByRecursion (IsEdit hash) es → length es ≤ edit_limit
    → AllByRecursion IsShort (map parent_item ids ++ content_items m es) → sum_by block_size (map parent_item ids ++ content_items m es) ≤ blocks_limit → Leads hash (AtParent k) (map parent_item ids ++ content_items m es) AtOver
parents_lead hash [] k m es p few q count s sum =
    let total = file_sum (message_line (length m)) m (edits_items es) in
    lead hash (AtParent k) (AtContent (length m)) AtOver (Line (message_line (length m))) (Block m ∷ edits_items es)
    (record { open_line = message_open (length m) s.1.0; short = s.0; goes = (parent_line.Message (length m), (s.1.0, refl)) })
    (parents_then k (length m) s.1.0)
    ((refl, s.1.0), edits_lead hash es 0 (blocks_limit - length m) q s.1.1 (omega (arith, count)) (omega (arith, sum, total)))
parents_lead hash (id ∷ ids) k m es p few q count s sum = (
  record {
    open_line = without_append 10 (codes "parent ") (hex_of id) (opens (codes "parent ") refl) (hex_open hash id p.0);
    short = s.0;
    goes = (parent_line.Parent id, (omega (arith, few), p.0, refl));
  },
  parents_lead hash ids (k + 1) m es p.1 (omega (arith, few)) q count s.1 (omega (arith, sum, sum_by-cons block_size (parent_item id) (map parent_item ids ++ content_items m es))),
)

-- A form of one line.
one_lead : (hash : HashKind) (r : Request) (line : List ℕ) → IsForm hash r → items_of r ≡ Line line ∷ [] → NoNewline line → length line ≤ line_limit → after_first line ≡ AtOver → Leads hash AtFirst (Line line ∷ []) AtOver
one_lead hash r line form is open_line short then = (record { open_line = open_line; short = short; goes = (opening.OneLine r, (form, is)) }, then)

behind : (word rest : List ℕ) → NoNewline word → NoNewline rest → NoNewline (word ++ rest)
behind word rest p q = without_append 10 word rest p q

prefix_lead : (hash : HashKind) (prefix : Option (List ℕ)) → IsPrefix prefix → length (refs_line prefix) ≤ line_limit → Leads hash AtFirst (Line (refs_line prefix) ∷ []) AtOver
prefix_lead hash None form short = one_lead hash (Refs None) _ tt refl (opens (codes "refs") refl) short refl
prefix_lead hash (Some prefix) form short = one_lead hash (Refs (Some prefix)) _ form refl (behind (codes "refs ") prefix (opens (codes "refs ") refl) form) short refl

namespace_lead : (hash : HashKind) (name : Option (List ℕ)) → IsNamespace name → length (namespace_line name) ≤ line_limit → Leads hash AtFirst (Line (namespace_line name) ∷ []) AtOver
namespace_lead hash None form short = one_lead hash (Namespace None) _ tt refl (opens (codes "namespace") refl) short refl
namespace_lead hash (Some name) form short = one_lead hash (Namespace (Some name)) _ form refl (behind (codes "namespace ") name (opens (codes "namespace ") refl) (partial_open name form)) short refl

pub request_leads : (hash : HashKind) (r : Request) → IsRequest hash r → Leads hash AtFirst (items_of r) AtOver
request_leads hash (Commit r) p =
    let rest : List Item = map parent_item r.parents ++ content_items r.message r.edits in
    let more : List Item = Line (committer_word ++ who_text r.committer) ∷ rest in
    let all : sum_by block_size rest ≤ blocks_limit = omega (arith, p.blocks, sum_by-cons block_size (Line (commit_line r.name)) (Line (author_word ++ who_text r.author) ∷ more), sum_by-cons block_size (Line (author_word ++ who_text r.author)) more, sum_by-cons block_size (Line (committer_word ++ who_text r.committer)) rest) in (
      record { open_line = behind (codes "commit ") r.name (opens (codes "commit ") refl) (full_open r.name p.form.name); short = p.short.0; goes = (opening.Commit r.name, (p.form.name, refl)) },
      (
        record { open_line = person_open author_word r.author (opens author_word refl) p.form.author; short = p.short.1.0; goes = (r.author, (p.form.author, refl)) },
        (
          record { open_line = person_open committer_word r.committer (opens committer_word refl) p.form.committer; short = p.short.1.1.0; goes = (r.committer, (p.form.committer, refl)) },
          parents_lead hash r.parents 0 r.message r.edits p.form.ids (omega (arith, p.form.parents)) p.form.edits p.form.count p.short.1.1.1 all,
        ),
      ),
    )
request_leads hash (Identity who) p = one_lead hash (Identity who) _ p.form refl (person_open identity_word who (opens identity_word refl) p.form) p.short.0 refl
request_leads hash (Tag r) p = (
  record {
    open_line = behind (codes "tag ") (r.name ++ 32 ∷ (hex_of r.target ++ 32 ∷ kind_name r.kind)) (opens (codes "tag ") refl) (field_open r.name (hex_of r.target ++ 32 ∷ kind_name r.kind) p.form.name.open_line (field_open (hex_of r.target) (kind_name r.kind) (hex_open hash r.target p.form.target) (kind_open r.kind)));
    short = p.short.0;
    goes = (opening.Tag r.name r.target r.kind, ((p.form.some, p.form.name, p.form.target), refl));
  },
  described_lead hash tagger_word r.tagger r.message (inl refl) p.form.tagger p.short.1,
)
request_leads hash (Ref r) p = (
  record {
    open_line = behind (codes "ref ") (r.name ++ 32 ∷ (target_text r.target ++ 32 ∷ expect_text r.expect)) (opens (codes "ref ") refl) (field_open r.name (target_text r.target ++ 32 ∷ expect_text r.expect) (full_open r.name p.form.name) (field_open (target_text r.target) (expect_text r.expect) (target_open hash r.target p.form.target) (expect_open hash r.expect p.form.expect)));
    short = p.short.0;
    goes = (opening.Ref r.name r.target r.expect, ((p.form.name, p.form.target, p.form.expect), refl));
  },
  described_lead hash committer_word r.committer r.message (inr refl) p.form.committer p.short.1,
)
request_leads hash (Delete name expect) p = one_lead hash (Delete name expect) _ p.form refl (behind (codes "delete ") (name ++ 32 ∷ expect_text expect) (opens (codes "delete ") refl) (field_open name (expect_text expect) (full_open name p.form.0) (expect_open hash expect p.form.1))) p.short.0 refl
request_leads hash (Refs prefix) p = prefix_lead hash prefix p.form p.short.0
request_leads hash (Log name) p = one_lead hash (Log name) _ p.form refl (behind (codes "log ") name (opens (codes "log ") refl) (full_open name p.form)) p.short.0 refl
request_leads hash (Paths id) p = one_lead hash (Paths id) _ p.form refl (behind (codes "paths ") (hex_of id) (opens (codes "paths ") refl) (hex_open hash id p.form)) p.short.0 refl
request_leads hash (Walk order ids) p = one_lead hash (Walk order ids) _ p.form refl (behind (codes "walk ") (order_text order ++ spaced (map walk_id_text ids)) (opens (codes "walk ") refl) (behind (order_text order) (spaced (map walk_id_text ids)) (order_open order p.form.order_fits) (spaced_open walk_id_text (λ (walked : WalkId). IsId hash walked.id) ids (walk_id_open hash) p.form.kind))) p.short.0 refl
request_leads hash (Bases first others) p = one_lead hash (Bases first others) _ p.form refl (behind (codes "bases ") (hex_of first ++ spaced (map hex_of others)) (opens (codes "bases ") refl) (behind (hex_of first) (spaced (map hex_of others)) (hex_open hash first p.form.first_kind) (spaced_open hex_of (IsId hash) others (hex_open hash) p.form.kind))) p.short.0 refl
request_leads hash (Octopus ids) p = one_lead hash (Octopus ids) _ p.form refl (behind (codes "octopus") (spaced (map hex_of ids)) (opens (codes "octopus") refl) (spaced_open hex_of (IsId hash) ids (hex_open hash) p.form.kind)) p.short.0 refl
request_leads hash (Describe names max id) p = one_lead hash (Describe names max id) _ p.form refl (behind (codes "describe ") (set_text names ++ 32 ∷ (decimal max ++ 32 ∷ hex_of id)) (opens (codes "describe ") refl) (field_open (set_text names) (decimal max ++ 32 ∷ hex_of id) (set_open names) (field_open (decimal max) (hex_of id) (decimal_without 10 max no_line p.form.0) (hex_open hash id p.form.1)))) p.short.0 refl
request_leads hash (NoteSet r) p = lead hash AtFirst (AtNote (length r.note)) AtOver (Line _) (Block r.note ∷ []) (record {
  open_line = behind (codes "note-set ") (r.reference ++ 32 ∷ (hex_of r.object ++ 32 ∷ decimal (length r.note))) (opens (codes "note-set ") refl) (field_open r.reference (hex_of r.object ++ 32 ∷ decimal (length r.note)) (partial_open r.reference p.form.0) (field_open (hex_of r.object) (decimal (length r.note)) (hex_open hash r.object p.form.1) (decimal_without 10 (length r.note) no_line (omega (arith, p.short.1.0)))));
  short = p.short.0;
  goes = (opening.NoteSet r.reference r.object (length r.note), ((p.form, p.short.1.0), refl));
}) (ap AtNote (note_size_is r.reference r.object (length r.note) (partial_space r.reference p.form.0) (hex_space hash r.object p.form.1) p.short.1.0)) ((refl, p.short.1.0), refl)
request_leads hash (NoteDrop reference object) p = one_lead hash (NoteDrop reference object) _ p.form refl (behind (codes "note-drop ") (reference ++ 32 ∷ hex_of object) (opens (codes "note-drop ") refl) (field_open reference (hex_of object) (partial_open reference p.form.0) (hex_open hash object p.form.1))) p.short.0 refl
request_leads hash (NoteGet object patterns) p = one_lead hash (NoteGet object patterns) _ p.form refl (behind (codes "note-get ") (hex_of object ++ spaced patterns) (opens (codes "note-get ") refl) (behind (hex_of object) (spaced patterns) (hex_open hash object p.form.0) (patterns_open patterns p.form.1))) p.short.0 refl
request_leads hash Head p = one_lead hash Head _ tt refl (opens (codes "head") refl) p.short.0 refl
request_leads hash (Namespace name) p = namespace_lead hash name p.form p.short.0
