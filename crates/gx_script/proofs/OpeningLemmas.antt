-- A line that is of no form opens no request.
use Rattle.std.proofs.Common.{◌≡◌, sym, ap, ℕ, List, [], ◌∷◌, ◌++◌, length, length-append, arith, Option}
use Rattle.gx_hash.specs.declared.kind.HashKind.{HashKind}
use Rattle.gx_object.specs.declared.signature.Signature.{Signature}
use Rattle.gx_script.specs.declared.opening.Opening.TheVariants as opening
use Rattle.gx_script.specs.declared.request.Request.{Request}
use Rattle.gx_script.specs.declared.request.Request.TheVariants.{Commit, Identity, Tag, Ref, Delete, Refs, Log, Paths, Walk, Bases, Octopus, Describe, NoteSet, NoteDrop, NoteGet, Head, Namespace}
use Rattle.gx_script.specs.Fields.{person_items, tagger_word, committer_word}
use Rattle.gx_script.specs.Grammar.{SaysOpening, IsNo}
use Rattle.gx_script.specs.Items.{Item, Line}
use Rattle.gx_script.specs.Lines.{IsNoCommit, IsNoTag, IsNoRef, IsNoNoteSet, IsNoOneLine}
use Rattle.gx_script.specs.References.{message_items}
use Rattle.gx_script.specs.Script.{IsForm}
use Rattle.gx_script.specs.Spelling.{items_of}

line_is : (a line : List ℕ) → Line a ∷ [] ≡ Line line ∷ [] → line ≡ a
line_is a line e = let same : a ≡ line = cc in sym same

two_items : (x y : Item) (xs : List Item) (line : List ℕ) → x ∷ y ∷ xs ≡ Line line ∷ [] → ⊥
two_items x y xs line e = let long : length (x ∷ y ∷ xs) ≡ 1 = ap length e in omega (arith, long)

with_message : (x : Item) (word : List ℕ) (person : Option Signature) (message line : List ℕ) → x ∷ (person_items word person ++ message_items message) ≡ Line line ∷ [] → ⊥
with_message x word person message line e =
    let long : length (x ∷ (person_items word person ++ message_items message)) ≡ 1 = ap length e in
    omega (arith, long, length-append (person_items word person) (message_items message))

-- It is no request of one line.
no_whole : (hash : HashKind) (line : List ℕ) → IsNoOneLine hash line → (request : Request) → IsForm hash request → items_of request ≡ Line line ∷ [] → ⊥
no_whole hash line none (Commit request) form e = two_items _ _ _ line e
no_whole hash line none (Identity who) form e = none.reference.identity who form (line_is _ line e)
no_whole hash line none (Tag request) form e = with_message _ tagger_word request.tagger request.message line e
no_whole hash line none (Ref request) form e = with_message _ committer_word request.committer request.message line e
no_whole hash line none (Delete name expect) form e = none.reference.delete name expect form (line_is _ line e)
no_whole hash line none (Refs prefix) form e = none.reference.refs prefix form (line_is _ line e)
no_whole hash line none (Log name) form e = none.reference.log name form (line_is _ line e)
no_whole hash line none (Paths id) form e = none.history.paths id form (line_is _ line e)
no_whole hash line none (Walk order ids) form e = none.history.walk order ids form (line_is _ line e)
no_whole hash line none (Bases first others) form e = none.history.bases first others form (line_is _ line e)
no_whole hash line none (Octopus ids) form e = none.history.octopus ids form (line_is _ line e)
no_whole hash line none (Describe names max id) form e = none.history.describe names max id form (line_is _ line e)
no_whole hash line none (NoteSet request) form e = two_items _ _ _ line e
no_whole hash line none (NoteDrop reference object) form e = none.note.note_drop reference object form (line_is _ line e)
no_whole hash line none (NoteGet object patterns) form e = none.note.note_get object patterns form (line_is _ line e)
no_whole hash line none Head form e = none.reference.head (line_is _ line e)
no_whole hash line none (Namespace name) form e = none.reference.namespace name form (line_is _ line e)

pub no_opening : (hash : HashKind) (line : List ℕ) → IsNoCommit line → IsNoTag hash line → IsNoRef hash line → IsNoNoteSet hash line → IsNoOneLine hash line → IsNo (SaysOpening hash) line
no_opening hash line commit tag ref note one (opening.OneLine request) says = no_whole hash line one request says.0 says.1
no_opening hash line commit tag ref note one (opening.Commit name) says = commit name says.0 says.1
no_opening hash line commit tag ref note one (opening.Tag name target kind) says = tag name target kind says.0 says.1
no_opening hash line commit tag ref note one (opening.Ref name target expect) says = ref name target expect says.0 says.1
no_opening hash line commit tag ref note one (opening.NoteSet reference object size) says = note reference object size says.0 says.1
