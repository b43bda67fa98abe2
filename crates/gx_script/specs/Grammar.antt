-- The language from left to right: what may come next, given what was read.
use Rattle.std.specs.Prelude.{◌≡◌, ◌≢◌, ℕ, ◌+◌, ◌-◌, ◌≤◌, ◌<◌, Bool, true, false, if◌then◌else◌, List, [], ◌∷◌, ◌++◌, length, drop, codes, nat_eq, map, Option, Some, None, ◌⊎◌, Result, Ok, Err}
use Rattle.std.specs.List.{starts_with, AllByRecursion}
use Rattle.std.specs.Str.Parse.{digits_value}
use Rattle.gx_hash.specs.ObjectId.{hex_of}
use Rattle.gx_hash.specs.declared.kind.HashKind.{HashKind}
use Rattle.gx_hash.specs.declared.oid.ObjectId.{ObjectId}
use Rattle.gx_object.specs.Kind.{kind_name}
use Rattle.gx_object.specs.declared.kind.Kind.{Kind}
use Rattle.gx_object.specs.declared.signature.Signature.{Signature}
use Rattle.gx_rules.specs.Name.{IsFullName}
use Rattle.gx_store.specs.declared.target.Target.{Target}
use Rattle.gx_script.specs.declared.change.Change.{Change}
use Rattle.gx_script.specs.declared.change.Change.TheVariants.{Put, Whole, End}
use Rattle.gx_script.specs.declared.change.PutKind.{PutKind}
use Rattle.gx_script.specs.declared.change.PutKind.TheVariants.{File, Executable, Link}
use Rattle.gx_script.specs.declared.lines.ParentLine.{ParentLine}
use Rattle.gx_script.specs.declared.lines.ParentLine.TheVariants.{Parent, Message}
use Rattle.gx_script.specs.declared.lines.PersonLine.{PersonLine}
use Rattle.gx_script.specs.declared.lines.PersonLine.TheVariants as person_line
use Rattle.gx_script.specs.declared.opening.Opening.{Opening}
use Rattle.gx_script.specs.declared.opening.Opening.TheVariants.{OneLine, Commit, Tag, Ref, NoteSet}
use Rattle.gx_script.specs.declared.request.Expect.{Expect}
use Rattle.gx_script.specs.declared.request.Request.{Request}
use Rattle.gx_edit.specs.declared.path_edit.PathEdit.{PathEdit}
use Rattle.gx_edit.specs.declared.path_edit.PathEdit.TheVariants as path_edit
use Rattle.gx_script.specs.Commits.{commit_line, put_line, edit_items, edits_items, content_items, parent_item, IsEdit, IsCommit}
use Rattle.gx_script.specs.Fields.{IsId, IsIdentity, IsPerson, person_items, IsTarget, IsExpect, who_text, author_word, committer_word, tagger_word, message_line, end_line, target_text, expect_text}
use Rattle.gx_store.specs.Outside.{IsEnd}
use Rattle.gx_script.specs.declared.error.ScriptError.{ScriptError}
use Rattle.gx_script.specs.Reading.{Reading, Moves, Fails, line_number}
use Rattle.gx_script.specs.Items.{Item, Line, Block, NoNewline, item_text, IsField, items_text, line_limit, block_limit, blocks_limit, edit_limit, parent_limit}
use Rattle.gx_script.specs.Notes.{note_set_line, IsNote}
use Rattle.gx_script.specs.References.{message_items}
use Rattle.gx_script.specs.declared.request.CommitRequest.{CommitRequest}
use Rattle.gx_script.specs.Steps.{GivesLine, LineFails, ReadsLine}
use Rattle.gx_script.specs.Script.{IsForm, IsPart, newlines_in}
use Rattle.gx_script.specs.Spelling.{items_of}

-- What may come next. Numbers are the parents or edits so far, the bytes of a block, and the bytes that blocks may
-- still have.
pub data State : Type 0 where
  AtFirst : State
  AtAuthor : State
  AtCommitter : State
  AtParent : ℕ → State
  AtContent : ℕ → State
  AtEdit : ℕ → ℕ → State
  AtFile : ℕ → ℕ → ℕ → State
  AtPerson : List ℕ → State
  AtMessage : State
  AtText : ℕ → State
  AtEnd : State
  AtNote : ℕ → State
  AtOver : State

-- The first line of a tag.
abbrev pub tag_text : List ℕ → ObjectId → Kind → List ℕ
tag_text name target kind = codes "tag " ++ (name ++ 32 ∷ (hex_of target ++ 32 ∷ kind_name kind))

-- The first line of a reference to be set.
abbrev pub ref_text : List ℕ → Target → Expect → List ℕ
ref_text name target expect = codes "ref " ++ (name ++ 32 ∷ (target_text target ++ 32 ∷ expect_text expect))

-- The line is spelled by what it says.
abbrev pub opens_with : Opening → List ℕ → Type 0
opens_with (OneLine request) line = items_of request ≡ Line line ∷ []
opens_with (Commit name) line = line ≡ commit_line name
opens_with (Tag name target kind) line = line ≡ tag_text name target kind
opens_with (Ref name target expect) line = line ≡ ref_text name target expect
opens_with (NoteSet reference object size) line = line ≡ note_set_line reference object size

-- What a first line says is well-formed.
abbrev pub IsOpening : HashKind → Opening → Type 0
IsOpening hash (OneLine request) = IsForm hash request
IsOpening hash (Commit name) = IsFullName name
IsOpening hash (Tag name target kind) = (name ≢ []) × IsField name × IsId hash target
IsOpening hash (Ref name target expect) = IsFullName name × IsTarget hash target × IsExpect hash expect
IsOpening hash (NoteSet reference object size) = IsNote hash reference object × (size ≤ block_limit)

-- The line is a first line that says this.
abbrev pub SaysOpening : HashKind → Opening → List ℕ → Type 0
SaysOpening hash opening line = IsOpening hash opening × opens_with opening line

-- The line is the word and the identity.
abbrev pub SaysWho : List ℕ → Signature → List ℕ → Type 0
SaysWho word who line = IsIdentity who × (line ≡ word ++ who_text who)

-- The line declares a message of this length, within the limit of a block.
abbrev pub SaysMessage : ℕ → List ℕ → Type 0
SaysMessage size line = (size ≤ block_limit) × (line ≡ message_line size)

-- A person, or where there is none the length of the message.
abbrev pub SaysPerson : List ℕ → PersonLine → List ℕ → Type 0
SaysPerson word (person_line.Who who) line = SaysWho word who line
SaysPerson word (person_line.Message size) line = SaysMessage size line

-- A parent after this many, or after the last the length of the message.
abbrev pub SaysParent : HashKind → ℕ → ParentLine → List ℕ → Type 0
SaysParent hash count (Parent id) line = (count < parent_limit) × IsId hash id × (line ≡ codes "parent " ++ hex_of id)
SaysParent hash count (Message size) line = SaysMessage size line

-- The word of what is put.
abbrev pub put_word : PutKind → List ℕ
put_word File = codes "file"
put_word Executable = codes "exec"
put_word Link = codes "link"

-- What is put, as an edit.
abbrev pub edit_of : PutKind → List ℕ → List ℕ → PathEdit
edit_of File path bytes = path_edit.File path bytes false
edit_of Executable path bytes = path_edit.File path bytes true
edit_of Link path bytes = path_edit.Link path bytes

-- An edit after this many, of which the block may have this many bytes, or the end of the request.
abbrev pub SaysChange : HashKind → ℕ → ℕ → Change → List ℕ → Type 0
SaysChange hash count room (Put kind size path) line = (count < edit_limit) × (size ≤ block_limit) × (size ≤ room)
    × NoNewline path × (line ≡ put_line (put_word kind) size path)
SaysChange hash count room (Whole edit) line = (count < edit_limit) × IsEdit hash edit
    × (edit_items edit ≡ Line line ∷ [])
SaysChange hash count room End line = line ≡ end_line

-- The words of persons who may be left out.
abbrev pub IsPersonWord : List ℕ → Type 0
IsPersonWord word = (word ≡ tagger_word) ⊎ (word ≡ committer_word)

-- The line may come next.
abbrev pub Goes : HashKind → State → List ℕ → Type 0
Goes hash AtFirst line = (opening : Opening) × SaysOpening hash opening line
Goes hash AtAuthor line = (who : Signature) × SaysWho author_word who line
Goes hash AtCommitter line = (who : Signature) × SaysWho committer_word who line
Goes hash (AtParent count) line = (next : ParentLine) × SaysParent hash count next line
Goes hash (AtContent size) line = ⊥
Goes hash (AtEdit count room) line = (change : Change) × SaysChange hash count room change line
Goes hash (AtFile size count room) line = ⊥
Goes hash (AtPerson word) line = (next : PersonLine) × IsPersonWord word × SaysPerson word next line
Goes hash AtMessage line = (size : ℕ) × SaysMessage size line
Goes hash (AtText size) line = ⊥
Goes hash AtEnd line = line ≡ end_line
Goes hash (AtNote size) line = ⊥
Goes hash AtOver line = ⊥

-- A block of this many bytes comes next.
abbrev pub Wants : State → ℕ → Type 0
Wants AtFirst size = ⊥
Wants AtAuthor size = ⊥
Wants AtCommitter size = ⊥
Wants (AtParent count) size = ⊥
Wants (AtContent wanted) size = (size ≡ wanted) × (size ≤ block_limit)
Wants (AtEdit count room) size = ⊥
Wants (AtFile wanted count room) size = (size ≡ wanted) × (size ≤ block_limit)
Wants (AtPerson word) size = ⊥
Wants AtMessage size = ⊥
Wants (AtText wanted) size = (size ≡ wanted) × (size ≤ block_limit)
Wants AtEnd size = ⊥
Wants (AtNote wanted) size = (size ≡ wanted) × (size ≤ block_limit)
Wants AtOver size = ⊥

-- The line may come next, and is within its limit.
pub record GoodLine (hash : HashKind) (state : State) (line : List ℕ) : Type 0 where
  pub open_line : NoNewline line
  pub short : length line ≤ line_limit
  pub goes : Goes hash state line

-- The line or block may come next.
abbrev pub Good : HashKind → State → Item → Type 0
Good hash state (Line line) = GoodLine hash state line
Good hash state (Block block) = Wants state (length block)

-- The first field, and what stands after it.
abbrev pub before_space : List ℕ → List ℕ
before_space [] = []
before_space (b ∷ rest) = if nat_eq b 32 then [] else b ∷ before_space rest

-- What stands after the first space.
abbrev pub behind_space : List ℕ → List ℕ
behind_space [] = []
behind_space (b ∷ rest) = if nat_eq b 32 then rest else behind_space rest

-- The line begins with the word.
abbrev pub begins_with : List ℕ → List ℕ → Bool
begins_with line word = starts_with nat_eq line word

-- The length that the line of a message declares.
abbrev pub message_size : List ℕ → ℕ
message_size line = digits_value 10 (drop 8 line)

-- The length that the line of a file or a link declares.
abbrev pub put_size : List ℕ → ℕ
put_size line = digits_value 10 (before_space (drop 9 line))

-- The length that the line of a note declares.
abbrev pub note_size : List ℕ → ℕ
note_size line = digits_value 10 (behind_space (behind_space (drop 9 line)))

-- What may come after a line, which its first word tells.
abbrev pub after_first : List ℕ → State
after_first line =
    if begins_with line (codes "commit ") then AtAuthor
    else if begins_with line (codes "tag ") then AtPerson tagger_word
    else if begins_with line (codes "ref ") then AtPerson committer_word
    else if begins_with line (codes "note-set ") then AtNote (note_size line)
    else AtOver

-- After the parents comes the message.
abbrev pub after_parent : ℕ → List ℕ → State
after_parent count line =
    if begins_with line (codes "parent ") then AtParent (count + 1) else AtContent (message_size line)

-- After the person, who may be left out, comes the message.
abbrev pub after_person : List ℕ → List ℕ → State
after_person word line = if begins_with line word then AtMessage else AtText (message_size line)

-- After an edit comes its block, another edit, or the end.
abbrev pub after_change : ℕ → ℕ → List ℕ → State
after_change count room line =
    if begins_with line (codes "put ") then AtFile (put_size line) (count + 1) (room - put_size line)
    else if begins_with line (codes "end") then AtOver
    else AtEdit (count + 1) room

-- What may come after a line.
abbrev pub after_line : State → List ℕ → State
after_line AtFirst line = after_first line
after_line AtAuthor line = AtCommitter
after_line AtCommitter line = AtParent 0
after_line (AtParent count) line = after_parent count line
after_line (AtContent size) line = AtOver
after_line (AtEdit count room) line = after_change count room line
after_line (AtFile size count room) line = AtOver
after_line (AtPerson word) line = after_person word line
after_line AtMessage line = AtText (message_size line)
after_line (AtText size) line = AtOver
after_line AtEnd line = AtOver
after_line (AtNote size) line = AtOver
after_line AtOver line = AtOver

-- What may come after a block.
abbrev pub after_block : State → State
after_block AtFirst = AtOver
after_block AtAuthor = AtOver
after_block AtCommitter = AtOver
after_block (AtParent count) = AtOver
after_block (AtContent size) = AtEdit 0 (blocks_limit - size)
after_block (AtEdit count room) = AtOver
after_block (AtFile size count room) = AtEdit count room
after_block (AtPerson word) = AtOver
after_block AtMessage = AtOver
after_block (AtText size) = AtEnd
after_block AtEnd = AtOver
after_block (AtNote size) = AtOver
after_block AtOver = AtOver

-- What may come after a line or block.
abbrev pub after : State → Item → State
after state (Line line) = after_line state line
after state (Block block) = after_block state

-- The items may come one after the other, and lead from a state to another.
abbrev pub Leads : HashKind → State → List Item → State → Type 0
Leads hash state [] end = state ≡ end
Leads hash state (item ∷ items) end = Good hash state item × Leads hash (after state item) items end

-- The bytes are whole items and a part of the next, and may go on to the end of a request.
pub record BeginsFrom (hash : HashKind) (state : State) (bytes : List ℕ) : Type 0 where
  pub before : List Item
  pub next : Item
  pub rest : List Item
  pub part : List ℕ
  pub leads : Leads hash state (before ++ next ∷ rest) AtOver
  pub begun : IsPart next part
  pub is : bytes ≡ items_text before ++ part

-- The bytes are whole items of the list and a part of the next, or all of them and anything.
abbrev pub Stands : List Item → List ℕ → Type 0
Stands [] bytes = Unit {0}
Stands (y ∷ ys) bytes = IsPart y bytes ⊎ ((more : List ℕ) × (bytes ≡ item_text y ++ more) × Stands ys more)

-- The bytes stand at the front of nothing that may come from the state on.
abbrev pub IsWrongFrom : HashKind → State → List ℕ → Type 0
IsWrongFrom hash state bytes = (items : List Item) → Leads hash state items AtOver → Stands items bytes → ⊥

-- After the front the input ends, or the next byte is wrong.
abbrev pub StopsFrom : HashKind → State → Type 0 → List ℕ → List ℕ → Type 0
StopsFrom hash state ends front [] = ends
StopsFrom hash state ends front (b ∷ more) = IsWrongFrom hash state (front ++ b ∷ [])

-- From the state on the bytes go wrong after a front that may stand there.
pub record IsBadFrom (hash : HashKind) (state : State) (bytes : List ℕ) (ends : Type 0) (newlines : ℕ) : Type 0 where
  pub front : List ℕ
  pub more : List ℕ
  pub split : bytes ≡ front ++ more
  pub begins : BeginsFrom hash state front
  pub count : newlines ≡ newlines_in front
  pub stops : StopsFrom hash state ends front more

-- From the state on the bytes go wrong at the line.
abbrev pub BadFromAt : State → Reading → Option (List ℕ) → ℕ → List ℕ → Type 0
BadFromAt state old left' line bytes = (newlines : ℕ) × IsBadFrom old.hash state bytes (IsEnd left') newlines
    × (line ≡ line_number old newlines)

-- From a state on, no request was read.
abbrev pub FailsFrom : State → Reading → Option (List ℕ) → Option (List ℕ) → ℕ → ℕ → ScriptError → Type 0
FailsFrom state old left left' faults faults' e =
    Fails (BeginsFrom old.hash state) (BadFromAt state old left') old left left' faults faults' e

-- The items of a value were read from a state on, and lead to another.
abbrev pub ReadsFrom : {X : Type 0} → State → (X → State) → (X → List Item) → (X → Type 0) → Reading → Reading
    → Option (List ℕ) → Option (List ℕ) → ℕ → ℕ → Result X ScriptError → Type 0
ReadsFrom state end items Fits old new left left' faults faults' (Ok x) = Fits x
    × Leads old.hash state (items x) (end x) × Moves old new left left' (items_text (items x))
ReadsFrom state end items Fits old new left left' faults faults' (Err e) =
    FailsFrom state old left left' faults faults' e

-- Every other line is wrong.
abbrev pub IsNo : {X : Type 0} → (X → List ℕ → Type 0) → List ℕ → Type 0
IsNo {X} Says line = (value : X) → Says value line → ⊥

-- What a line says was read, or the line says nothing of the kind.
abbrev pub ReadsSaid : {X : Type 0} → (X → List ℕ → Type 0) → Reading → Reading → Option (List ℕ) → Option (List ℕ)
    → ℕ → ℕ → Result X ScriptError → Type 0
ReadsSaid Says old new left left' faults faults' result =
    ReadsLine Says (IsNo Says) old new left left' faults faults' result

-- There is no more request.
abbrev pub IsFinished : Reading → Reading → Option (List ℕ) → Option (List ℕ) → Type 0
IsFinished old new left left' = Moves old new left left' [] × (new.held ≡ []) × IsEnd left'

-- The first line of a request was read, or there is no more request.
abbrev pub ReadsFirst : Reading → Reading → Option (List ℕ) → Option (List ℕ)
    → ℕ → ℕ → Result (Option Opening) ScriptError → Type 0
ReadsFirst old new left left' faults faults' (Ok (Some opening)) =
    GivesLine (SaysOpening old.hash opening) old new left left'
ReadsFirst old new left left' faults faults' (Ok None) = IsFinished old new left left'
ReadsFirst old new left left' faults faults' (Err e) =
    LineFails (λ front. IsEnd left' × (front ≢ [])) (IsNo (SaysOpening old.hash)) old left left' faults faults' e

-- What may come after a first line.
abbrev pub after_opening : Opening → State
after_opening (OneLine request) = AtOver
after_opening (Commit name) = AtAuthor
after_opening (Tag name target kind) = AtPerson tagger_word
after_opening (Ref name target expect) = AtPerson committer_word
after_opening (NoteSet reference object size) = AtNote size

-- The rest of a request was read, after its first line.
pub record ReadsRest (opening : Opening) (old new : Reading) (left left' : Option (List ℕ)) (request : Request)
    : Type 0 where
  pub tail : List Item
  pub items : (line : List ℕ) → opens_with opening line → items_of request ≡ Line line ∷ tail
  pub form : IsOpening old.hash opening → IsForm old.hash request
  pub leads : Leads old.hash (after_opening opening) tail AtOver
  pub moves : Moves old new left left' (items_text tail)

-- A request was read after its first line, or why not.
abbrev pub ReadsBehind : Opening → Reading → Reading → Option (List ℕ) → Option (List ℕ)
    → ℕ → ℕ → Result Request ScriptError → Type 0
ReadsBehind opening old new left left' faults faults' (Ok request) = ReadsRest opening old new left left' request
ReadsBehind opening old new left left' faults faults' (Err e) =
    FailsFrom (after_opening opening) old left left' faults faults' e

-- The parents, and the line of the message after them.
abbrev pub parents_items : List ObjectId × ℕ → List Item
parents_items (ids, size) = map parent_item ids ++ Line (message_line size) ∷ []

-- The ids are of the kind, and they and the length of the message are within their limits.
abbrev pub FitParents : HashKind → List ObjectId × ℕ → Type 0
FitParents hash (ids, size) = AllByRecursion (IsId hash) ids × (length ids ≤ parent_limit) × (size ≤ block_limit)

-- The message comes next.
abbrev pub at_content : List ObjectId × ℕ → State
at_content (ids, size) = AtContent size

-- The request is over.
abbrev pub at_over : {X : Type 0} → X → State
at_over x = AtOver

-- The edits are well-formed, and within their limit.
abbrev pub FitEdits : HashKind → List PathEdit → Type 0
FitEdits hash edits = AllByRecursion (IsEdit hash) edits × (length edits ≤ edit_limit)

-- The block of a message, and the end of its request.
abbrev pub text_items : List ℕ → List Item
text_items message = Block message ∷ Line end_line ∷ []

-- The message has the length that was declared.
abbrev pub HasSize : ℕ → List ℕ → Type 0
HasSize size message = length message ≡ size

-- A person who may be left out, a message, and the end of their request.
abbrev pub described_items : List ℕ → Option Signature × List ℕ → List Item
described_items word (person, message) = person_items word person ++ message_items message

-- The person is well-formed.
abbrev pub FitsDescribed : Option Signature × List ℕ → Type 0
FitsDescribed (person, message) = IsPerson person

-- The block of a message, the edits, and the end of their request.
abbrev pub content_of : List ℕ × List PathEdit → List Item
content_of (message, edits) = Block message ∷ edits_items edits

-- The message has the length that was declared, and the edits fit.
abbrev pub FitsContent : HashKind → ℕ → List ℕ × List PathEdit → Type 0
FitsContent hash size (message, edits) = (length message ≡ size) × FitEdits hash edits

-- A commit from its author on.
abbrev pub commit_tail : CommitRequest → List Item
commit_tail request =
    Line (author_word ++ who_text request.author) ∷ Line (committer_word ++ who_text request.committer)
    ∷ (map parent_item request.parents ++ content_items request.message request.edits)

-- The commit is on the reference of this name.
abbrev pub FitsCommit : HashKind → List ℕ → CommitRequest → Type 0
FitsCommit hash name request = (request.name ≡ name) × (IsFullName name → IsCommit hash request)
