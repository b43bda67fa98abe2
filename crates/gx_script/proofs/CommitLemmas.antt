-- A commit is read line by line: its parents, its message and its edits.
use Rattle.std.proofs.Common.{◌≡◌, ◌∙◌, sym, ap, refl, subst, ℕ, ◌+◌, ◌-◌, ◌≤◌, ◌<◌, List, [], ◌∷◌, ◌++◌, length, map, codes, arith, append_assoc, length-append, Option, Some, None}
use Rattle.std.specs.List.{AllByRecursion, flat_map}
use Rattle.std.proofs.lemmas.List.{append-nil}
use Rattle.std.proofs.lemmas.Grind.{flat_map-append}
use Rattle.gx_edit.specs.declared.path_edit.PathEdit.{PathEdit}
use Rattle.gx_edit.specs.declared.path_edit.PathEdit.TheVariants as path_edit
use Rattle.gx_hash.specs.declared.kind.HashKind.{HashKind}
use Rattle.gx_hash.specs.declared.oid.ObjectId.{ObjectId}
use Rattle.gx_object.specs.declared.signature.Signature.{Signature}
use Rattle.gx_rules.specs.Name.{IsFullName}
use Rattle.gx_store.specs.Outside.{IsEnd}
use Rattle.gx_script.specs.declared.change.Change.TheVariants as change
use Rattle.gx_script.specs.declared.change.PutKind.{PutKind}
use Rattle.gx_script.specs.declared.change.PutKind.TheVariants as put_kind
use Rattle.gx_script.specs.declared.error.ScriptError.{ScriptError}
use Rattle.gx_script.specs.declared.lines.ParentLine.TheVariants as parent_line
use Rattle.gx_script.specs.declared.request.CommitRequest.{CommitRequest}
use Rattle.gx_script.specs.Commits.{edit_items, edits_items, content_items, parent_item, file_word, put_line, module_line, drop_line, IsEdit}
use Rattle.gx_script.specs.Fields.{IsId, who_text, author_word, committer_word, message_line, end_line}
use Rattle.gx_script.specs.Grammar.{State, AtAuthor, AtCommitter, AtParent, AtContent, AtEdit, AtFile, AtOver, Leads, FailsFrom, IsNo, SaysWho, SaysParent, SaysChange, put_word, edit_of, parents_items, FitParents, FitEdits, content_of, FitsContent, commit_tail, FitsCommit}
use Rattle.gx_script.specs.Items.{Item, Line, Block, NoNewline, items_text, ended, block_limit, blocks_limit, edit_limit, parent_limit}
use Rattle.gx_script.specs.NextEdit.{found_items, FitsFound}
use Rattle.gx_script.specs.Reading.{Reading, Moves, Stays, Anything}
use Rattle.gx_script.specs.Steps.{GivesLine, LineFails, BlockFails}
use Rattle.gx_script.proofs.BodyLemmas.{Step, step_line, step_block, step_then, step_fails, step_stays, step_put, step_end, parents_more, parents_end, parents_fail}
use Rattle.gx_script.proofs.GrammarLemmas.{line_fails_from, block_fails_from}
use Rattle.gx_script.proofs.ReaderLemmas.{moves_none}
use Rattle.gx_script.proofs.RequestLemmas.{says_change, put_items}
use Rattle.gx_script.proofs.StateLemmas.{has_author, has_committer, has_content, has_edit, has_file}

pub step_none : (q : State) (a : Reading) (l : Option (List ℕ)) → Step q q a a l l []
step_none q a l = record { leads = refl; moved = moves_none a l }

all_more : {X : Type 0} (Fits : X → Type 0) (xs : List X) (x : X) → AllByRecursion Fits xs → Fits x → AllByRecursion Fits (xs ++ x ∷ [])
all_more Fits [] x p q = (q, tt)
all_more Fits (y ∷ xs) x p q = (p.0, all_more Fits xs x p.1 q)

-- Bytes that are given are neither held nor still to come.
pub moves_smaller : (a b : Reading) (l m : Option (List ℕ)) (text : List ℕ) → Moves a b l m text → length text + (length b.held + b.room) ≡ length a.held + a.room
moves_smaller a b l m text p = omega (arith, ap length p.split, length-append a.held p.taken, length-append text b.held, p.room)

pub line_smaller : (Spelled : List ℕ → Type 0) (a b : Reading) (l m : Option (List ℕ)) → GivesLine Spelled a b l m → length b.held + b.room < length a.held + a.room
line_smaller Spelled a b l m g = omega (arith, moves_smaller a b l m (ended g.line) g.moves, length-append g.line (10 ∷ []))

-- The parents so far.
pub record ParentsRead (a b : Reading) (l m : Option (List ℕ)) (ids : List ObjectId) : Type 0 where
  pub step : Step (AtParent 0) (AtParent (length ids)) a b l m (map parent_item ids)
  pub each : AllByRecursion (IsId a.hash) ids
  pub few : length ids ≤ parent_limit

pub parents_first : (a : Reading) (l : Option (List ℕ)) → ParentsRead a a l l []
parents_first a l = record { step = step_none (AtParent 0) a l; each = tt; few = omega arith }

pub parents_wrong : (a b : Reading) (l m n : Option (List ℕ)) (f g h : ℕ) (e : ScriptError) (ids : List ObjectId) (k : ℕ) → ParentsRead a b l m ids → k ≡ length ids → f ≤ g → LineFails (λ front. IsEnd n) (IsNo (SaysParent b.hash k)) b m n g h e → FailsFrom (AtParent 0) a l n f h e
parents_wrong a b l m n f g h e ids k read count le fails =
    parents_fail a b l m n f g h e k (map parent_item ids) (subst (λ (k : ℕ). Step (AtParent 0) (AtParent k) a b l m (map parent_item ids)) (sym count) read.step) le fails

pub parents_next : (a b c : Reading) (l m n : Option (List ℕ)) (ids : List ObjectId) (id : ObjectId) (k : ℕ) → ParentsRead a b l m ids → k ≡ length ids → GivesLine (SaysParent b.hash k (parent_line.Parent id)) b c m n → ParentsRead a c l n (ids ++ id ∷ [])
parents_next a b c l m n ids id k read count g =
    let given : GivesLine (SaysParent b.hash (length ids) (parent_line.Parent id)) b c m n = subst (λ (k : ℕ). GivesLine (SaysParent b.hash k (parent_line.Parent id)) b c m n) count g in
    record {
      step = parents_more a b c l m n ids id read.step given;
      each = all_more (IsId a.hash) ids id read.each (subst (λ (hash : HashKind). IsId hash id) read.step.moved.hash g.spelled.1);
      few = omega (arith, length-append ids (id ∷ []), g.spelled.0, count);
    }

pub parents_stay : (a b c : Reading) (l m n : Option (List ℕ)) (ids : List ObjectId) (id : ObjectId) (k : ℕ) → ParentsRead a b l m ids → k ≡ length ids → GivesLine (SaysParent b.hash k (parent_line.Parent id)) b c m n → Stays Anything a l n
parents_stay a b c l m n ids id k read count g =
    let all = parents_next a b c l m n ids id k read count g in
    step_stays (AtParent 0) (AtParent (length (ids ++ id ∷ []))) a c l n (map parent_item (ids ++ id ∷ [])) all.step

pub parents_done : (a b c : Reading) (l m n : Option (List ℕ)) (ids : List ObjectId) (size k : ℕ) → ParentsRead a b l m ids → k ≡ length ids → GivesLine (SaysParent b.hash k (parent_line.Message size)) b c m n
    → FitParents a.hash (ids, size) × Leads a.hash (AtParent 0) (parents_items (ids, size)) (AtContent size) × Moves a c l n (items_text (parents_items (ids, size)))
parents_done a b c l m n ids size k read count g =
    let all = parents_end a b c l m n k size (map parent_item ids) (subst (λ (k : ℕ). Step (AtParent 0) (AtParent k) a b l m (map parent_item ids)) (sym count) read.step) g in
    ((read.each, read.few, g.spelled.0), all.leads, all.moved)

-- The next of the edits.
pub next_fails : (count room : ℕ) (a : Reading) (l n : Option (List ℕ)) (f h : ℕ) (e : ScriptError) → LineFails (λ front. IsEnd n) (IsNo (SaysChange a.hash count room)) a l n f h e → FailsFrom (AtEdit count room) a l n f h e
next_fails count room a l n f h e fails = line_fails_from (AtEdit count room) (IsNo (SaysChange a.hash count room)) a l n f h e (has_edit a.hash count room) (λ line no goes. no goes.0 goes.1) fails

-- No block came.
pub next_cut : (count room size : ℕ) (kind : PutKind) (path : List ℕ) (a b : Reading) (l m n : Option (List ℕ)) (f g h : ℕ) (e : ScriptError) → GivesLine (SaysChange a.hash count room (change.Put kind size path)) a b l m → f ≤ g → BlockFails size b m n g h e → FailsFrom (AtEdit count room) a l n f h e
next_cut count room size kind path a b l m n f g h e given le fails =
    step_fails (AtEdit count room) (AtFile size (count + 1) (room - size)) a b l m n f g h e (Line (put_line (put_word kind) size path) ∷ []) (step_put count room size kind path a b l m given) le
    (block_fails_from (AtFile size (count + 1) (room - size)) size b m n g h e (has_file b.hash size (count + 1) (room - size) given.spelled.1) fails)

edit_fits : (hash : HashKind) (kind : PutKind) (path bytes : List ℕ) → NoNewline path → IsEdit hash (edit_of kind path bytes)
edit_fits hash put_kind.File path bytes h = h
edit_fits hash put_kind.Executable path bytes h = h
edit_fits hash put_kind.Link path bytes h = h

put_step : (k room size : ℕ) (kind : PutKind) (path bytes : List ℕ) (b c d : Reading) (m n o : Option (List ℕ)) → GivesLine (SaysChange b.hash k room (change.Put kind size path)) b c m n → length bytes ≡ size → Moves c d n o (ended bytes)
    → Step (AtEdit k room) (AtEdit (k + 1) (room - size)) b d m o (edit_items (edit_of kind path bytes))
put_step k room size kind path bytes b c d m n o g long p =
    let block = step_block (AtFile size (k + 1) (room - size)) (AtEdit (k + 1) (room - size)) c d n o bytes (long, omega (arith, long, g.spelled.1)) refl p in
    let both = step_then (AtEdit k room) (AtFile size (k + 1) (room - size)) (AtEdit (k + 1) (room - size)) b c d m n o (Line (put_line (put_word kind) size path) ∷ []) (Block bytes ∷ []) (step_put k room size kind path b c m n g) block in
    subst (λ (xs : List Item). Step (AtEdit k room) (AtEdit (k + 1) (room - size)) b d m o xs) (sym (put_items kind path bytes))
    (subst (λ (n : ℕ). Step (AtEdit k room) (AtEdit (k + 1) (room - size)) b d m o (Line (put_line (put_word kind) n path) ∷ Block bytes ∷ [])) (sym long) both)

pub next_put : (count room size : ℕ) (kind : PutKind) (path bytes : List ℕ) (a b c : Reading) (l m n : Option (List ℕ)) → GivesLine (SaysChange a.hash count room (change.Put kind size path)) a b l m → (length bytes ≡ size) × Moves b c m n (ended bytes)
    → FitsFound a.hash count (Some (edit_of kind path bytes)) × Leads a.hash (AtEdit count room) (edit_items (edit_of kind path bytes)) (AtEdit (count + 1) (room - size)) × Moves a c l n (items_text (edit_items (edit_of kind path bytes)))
next_put count room size kind path bytes a b c l m n given block =
    let s = put_step count room size kind path bytes a b c l m n given block.0 block.1 in
    ((given.spelled.0, edit_fits a.hash kind path bytes given.spelled.3), s.leads, s.moved)

pub next_whole : (count room : ℕ) (edit : PathEdit) (a b : Reading) (l m : Option (List ℕ)) → GivesLine (SaysChange a.hash count room (change.Whole edit)) a b l m
    → FitsFound a.hash count (Some edit) × Leads a.hash (AtEdit count room) (edit_items edit) (AtEdit (count + 1) room) × Moves a b l m (items_text (edit_items edit))
next_whole count room edit a b l m given =
    let s : Step (AtEdit count room) (AtEdit (count + 1) room) a b l m (edit_items edit) = subst (λ (xs : List Item). Step (AtEdit count room) (AtEdit (count + 1) room) a b l m xs) (sym given.spelled.2)
    (step_line _ (AtEdit count room) (AtEdit (count + 1) room) a b l m given.line given refl (change.Whole edit, given.spelled) (says_change a.hash count room (change.Whole edit) given.line given.spelled)) in
    ((given.spelled.0, given.spelled.1), s.leads, s.moved)

pub next_end : (count room : ℕ) (a b : Reading) (l m : Option (List ℕ)) → GivesLine (SaysChange a.hash count room change.End) a b l m → FitsFound a.hash count None × Leads a.hash (AtEdit count room) (found_items None) AtOver × Moves a b l m (items_text (found_items None))
next_end count room a b l m given = let s = step_end count room a b l m given in (tt, s.leads, s.moved)

-- An edit has a line at least.
line_long : (line : List ℕ) (items : List Item) → 0 < length (items_text (Line line ∷ items))
line_long line items = omega (arith, length-append (ended line) (items_text items), length-append line (10 ∷ []))

edit_long : (edit : PathEdit) → 0 < length (items_text (edit_items edit))
edit_long (path_edit.File path bytes executable) = line_long (put_line (file_word executable) (length bytes) path) (Block bytes ∷ [])
edit_long (path_edit.Link path bytes) = line_long (put_line (codes "link") (length bytes) path) (Block bytes ∷ [])
edit_long (path_edit.Module path id) = line_long (module_line id path) []
edit_long (path_edit.Remove path) = line_long (drop_line path) []

pub edit_smaller : (a b : Reading) (l m : Option (List ℕ)) (edit : PathEdit) → Moves a b l m (items_text (edit_items edit)) → length b.held + b.room < length a.held + a.room
edit_smaller a b l m edit p = omega (arith, moves_smaller a b l m (items_text (edit_items edit)) p, edit_long edit)

-- The edits so far, and how many bytes blocks may still have.
pub record EditsRead (most : ℕ) (a b : Reading) (l m : Option (List ℕ)) (edits : List PathEdit) (room : ℕ) : Type 0 where
  pub step : Step (AtEdit 0 most) (AtEdit (length edits) room) a b l m (flat_map edit_items edits)
  pub each : AllByRecursion (IsEdit a.hash) edits
  pub few : length edits ≤ edit_limit

pub edits_first : (most : ℕ) (a : Reading) (l : Option (List ℕ)) → EditsRead most a a l l [] most
edits_first most a l = record { step = step_none (AtEdit 0 most) a l; each = tt; few = omega arith }

counted : (most : ℕ) (a b : Reading) (l m : Option (List ℕ)) (edits : List PathEdit) (room k : ℕ) → EditsRead most a b l m edits room → k ≡ length edits → Step (AtEdit 0 most) (AtEdit k room) a b l m (flat_map edit_items edits)
counted most a b l m edits room k read count = subst (λ (k : ℕ). Step (AtEdit 0 most) (AtEdit k room) a b l m (flat_map edit_items edits)) (sym count) read.step

pub edits_fail : (most : ℕ) (a b : Reading) (l m n : Option (List ℕ)) (f g h : ℕ) (e : ScriptError) (edits : List PathEdit) (room k : ℕ) → EditsRead most a b l m edits room → k ≡ length edits → f ≤ g → FailsFrom (AtEdit k room) b m n g h e → FailsFrom (AtEdit 0 most) a l n f h e
edits_fail most a b l m n f g h e edits room k read count le fails = step_fails (AtEdit 0 most) (AtEdit k room) a b l m n f g h e (flat_map edit_items edits) (counted most a b l m edits room k read count) le fails

flat_more : (edits : List PathEdit) (edit : PathEdit) → flat_map edit_items (edits ++ edit ∷ []) ≡ flat_map edit_items edits ++ edit_items edit
flat_more edits edit = flat_map-append edit_items edits (edit ∷ []) ∙ ap (λ (xs : List Item). flat_map edit_items edits ++ xs) (append-nil (edit_items edit))

-- One more edit was read.
pub edits_more : (most : ℕ) (a b c : Reading) (l m n : Option (List ℕ)) (edits : List PathEdit) (edit : PathEdit) (room left k : ℕ) → EditsRead most a b l m edits room → k ≡ length edits
    → FitsFound b.hash k (Some edit) × Leads b.hash (AtEdit k room) (edit_items edit) (AtEdit (k + 1) left) × Moves b c m n (items_text (edit_items edit)) → EditsRead most a c l n (edits ++ edit ∷ []) left
edits_more most a b c l m n edits edit room left k read count found =
    let longer : k + 1 ≡ length (edits ++ edit ∷ []) = omega (arith, length-append edits (edit ∷ []), count) in
    let both = step_then (AtEdit 0 most) (AtEdit k room) (AtEdit (k + 1) left) a b c l m n (flat_map edit_items edits) (edit_items edit) (counted most a b l m edits room k read count) (record { leads = found.1; moved = found.2 }) in
    record {
      step = subst (λ (k : ℕ). Step (AtEdit 0 most) (AtEdit k left) a c l n (flat_map edit_items (edits ++ edit ∷ []))) longer
          (subst (λ (xs : List Item). Step (AtEdit 0 most) (AtEdit (k + 1) left) a c l n xs) (sym (flat_more edits edit)) both);
      each = all_more (IsEdit a.hash) edits edit read.each (subst (λ (hash : HashKind). IsEdit hash edit) read.step.moved.hash found.0.1);
      few = omega (arith, found.0.0, longer);
    }

pub edits_stay : (most : ℕ) (a b c : Reading) (l m n : Option (List ℕ)) (edits : List PathEdit) (edit : PathEdit) (room left k : ℕ) → EditsRead most a b l m edits room → k ≡ length edits
    → FitsFound b.hash k (Some edit) × Leads b.hash (AtEdit k room) (edit_items edit) (AtEdit (k + 1) left) × Moves b c m n (items_text (edit_items edit)) → Stays Anything a l n
edits_stay most a b c l m n edits edit room left k read count found =
    let all = edits_more most a b c l m n edits edit room left k read count found in
    step_stays (AtEdit 0 most) (AtEdit (length (edits ++ edit ∷ [])) left) a c l n (flat_map edit_items (edits ++ edit ∷ [])) all.step

pub edits_done : (most : ℕ) (a b c : Reading) (l m n : Option (List ℕ)) (edits : List PathEdit) (room k : ℕ) → EditsRead most a b l m edits room → k ≡ length edits
    → FitsFound b.hash k None × Leads b.hash (AtEdit k room) (found_items None) AtOver × Moves b c m n (items_text (found_items None))
    → FitEdits a.hash edits × Leads a.hash (AtEdit 0 most) (edits_items edits) AtOver × Moves a c l n (items_text (edits_items edits))
edits_done most a b c l m n edits room k read count found =
    let all = step_then (AtEdit 0 most) (AtEdit k room) AtOver a b c l m n (flat_map edit_items edits) (Line end_line ∷ []) (counted most a b l m edits room k read count) (record { leads = found.1; moved = found.2 }) in
    ((read.each, read.few), all.leads, all.moved)

-- The message of a commit, and its edits.
pub content_cut : (size : ℕ) (a : Reading) (l n : Option (List ℕ)) (f h : ℕ) (e : ScriptError) → size ≤ block_limit → BlockFails size a l n f h e → FailsFrom (AtContent size) a l n f h e
content_cut size a l n f h e le fails = block_fails_from (AtContent size) size a l n f h e (has_content a.hash size le) fails

content_step : (size : ℕ) (a b : Reading) (l m : Option (List ℕ)) (message : List ℕ) → size ≤ block_limit → (length message ≡ size) × Moves a b l m (ended message) → Step (AtContent size) (AtEdit 0 (blocks_limit - size)) a b l m (Block message ∷ [])
content_step size a b l m message le block = step_block (AtContent size) (AtEdit 0 (blocks_limit - size)) a b l m message (block.0, omega (arith, block.0, le)) refl block.1

pub content_fails : (size most : ℕ) (a b : Reading) (l m n : Option (List ℕ)) (f g h : ℕ) (e : ScriptError) (message : List ℕ) → size ≤ block_limit → most ≡ blocks_limit - size → (length message ≡ size) × Moves a b l m (ended message) → f ≤ g → FailsFrom (AtEdit 0 most) b m n g h e → FailsFrom (AtContent size) a l n f h e
content_fails size most a b l m n f g h e message le room block later fails =
    step_fails (AtContent size) (AtEdit 0 (blocks_limit - size)) a b l m n f g h e (Block message ∷ []) (content_step size a b l m message le block) later (subst (λ (most : ℕ). FailsFrom (AtEdit 0 most) b m n g h e) room fails)

pub content_done : (size most : ℕ) (a b c : Reading) (l m n : Option (List ℕ)) (message : List ℕ) (edits : List PathEdit) → size ≤ block_limit → most ≡ blocks_limit - size → (length message ≡ size) × Moves a b l m (ended message)
    → FitEdits b.hash edits × Leads b.hash (AtEdit 0 most) (edits_items edits) AtOver × Moves b c m n (items_text (edits_items edits))
    → FitsContent a.hash size (message, edits) × Leads a.hash (AtContent size) (content_of (message, edits)) AtOver × Moves a c l n (items_text (content_of (message, edits)))
content_done size most a b c l m n message edits le room block rest =
    let more : Step (AtEdit 0 (blocks_limit - size)) AtOver b c m n (edits_items edits) = subst (λ (most : ℕ). Step (AtEdit 0 most) AtOver b c m n (edits_items edits)) room (record { leads = rest.1; moved = rest.2 }) in
    let all = step_then (AtContent size) (AtEdit 0 (blocks_limit - size)) AtOver a b c l m n (Block message ∷ []) (edits_items edits) (content_step size a b l m message le block) more in
    ((block.0, subst (λ (hash : HashKind). FitEdits hash edits) block.1.hash rest.0), all.leads, all.moved)

-- A commit from its author on.
pub author_fails : (a : Reading) (l k : Option (List ℕ)) (f h : ℕ) (e : ScriptError) → LineFails (λ front. IsEnd k) (IsNo (SaysWho author_word)) a l k f h e → FailsFrom AtAuthor a l k f h e
author_fails a l k f h e fails = line_fails_from AtAuthor (IsNo (SaysWho author_word)) a l k f h e (has_author a.hash) (λ line no goes. no goes.0 goes.1) fails

pub committer_fails : (a : Reading) (l k : Option (List ℕ)) (f h : ℕ) (e : ScriptError) → LineFails (λ front. IsEnd k) (IsNo (SaysWho committer_word)) a l k f h e → FailsFrom AtCommitter a l k f h e
committer_fails a l k f h e fails = line_fails_from AtCommitter (IsNo (SaysWho committer_word)) a l k f h e (has_committer a.hash) (λ line no goes. no goes.0 goes.1) fails

pub step_author : (who : Signature) (a b : Reading) (l m : Option (List ℕ)) → GivesLine (SaysWho author_word who) a b l m → Step AtAuthor AtCommitter a b l m (Line (author_word ++ who_text who) ∷ [])
step_author who a b l m g = step_line _ AtAuthor AtCommitter a b l m (author_word ++ who_text who) g g.spelled.1 (who, g.spelled) refl

pub step_committer : (who : Signature) (a b : Reading) (l m : Option (List ℕ)) → GivesLine (SaysWho committer_word who) a b l m → Step AtCommitter (AtParent 0) a b l m (Line (committer_word ++ who_text who) ∷ [])
step_committer who a b l m g = step_line _ AtCommitter (AtParent 0) a b l m (committer_word ++ who_text who) g g.spelled.1 (who, g.spelled) refl

pub step_people : (author committer : Signature) (a b c : Reading) (l m n : Option (List ℕ)) → GivesLine (SaysWho author_word author) a b l m → GivesLine (SaysWho committer_word committer) b c m n → Step AtAuthor (AtParent 0) a c l n (Line (author_word ++ who_text author) ∷ Line (committer_word ++ who_text committer) ∷ [])
step_people author committer a b c l m n g h = step_then AtAuthor AtCommitter (AtParent 0) a b c l m n (Line (author_word ++ who_text author) ∷ []) (Line (committer_word ++ who_text committer) ∷ []) (step_author author a b l m g) (step_committer committer b c m n h)

pub step_parents : (size : ℕ) (ids : List ObjectId) (a b : Reading) (l m : Option (List ℕ)) → FitParents a.hash (ids, size) × Leads a.hash (AtParent 0) (parents_items (ids, size)) (AtContent size) × Moves a b l m (items_text (parents_items (ids, size))) → Step (AtParent 0) (AtContent size) a b l m (parents_items (ids, size))
step_parents size ids a b l m p = record { leads = p.1; moved = p.2 }

content_follows : (ids : List ObjectId) (size : ℕ) (message : List ℕ) (edits : List PathEdit) → length message ≡ size → parents_items (ids, size) ++ content_of (message, edits) ≡ map parent_item ids ++ content_items message edits
content_follows ids size message edits long =
    append_assoc (map parent_item ids) (Line (message_line size) ∷ []) (content_of (message, edits)) ∙ ap (λ (n : ℕ). map parent_item ids ++ (Line (message_line n) ∷ Block message ∷ edits_items edits)) (sym long)

pub commit_done : (name : List ℕ) (request : CommitRequest) (size : ℕ) (a b c d e : Reading) (l m n o p : Option (List ℕ)) → request.name ≡ name → GivesLine (SaysWho author_word request.author) a b l m → GivesLine (SaysWho committer_word request.committer) b c m n
    → FitParents c.hash (request.parents, size) × Leads c.hash (AtParent 0) (parents_items (request.parents, size)) (AtContent size) × Moves c d n o (items_text (parents_items (request.parents, size)))
    → FitsContent d.hash size (request.message, request.edits) × Leads d.hash (AtContent size) (content_of (request.message, request.edits)) AtOver × Moves d e o p (items_text (content_of (request.message, request.edits)))
    → FitsCommit a.hash name request × Leads a.hash AtAuthor (commit_tail request) AtOver × Moves a e l p (items_text (commit_tail request))
commit_done name request size a b c d e l m n o p same author committer parents content =
    let people = step_people request.author request.committer a b c l m n author committer in
    let body : Step (AtParent 0) AtOver c e n p (map parent_item request.parents ++ content_items request.message request.edits) =
    subst (λ (xs : List Item). Step (AtParent 0) AtOver c e n p xs) (content_follows request.parents size request.message request.edits content.0.0)
    (step_then (AtParent 0) (AtContent size) AtOver c d e n o p (parents_items (request.parents, size)) (content_of (request.message, request.edits)) (step_parents size request.parents c d n o parents) (record { leads = content.1; moved = content.2 })) in
    let all = step_then AtAuthor (AtParent 0) AtOver a c e l n p (Line (author_word ++ who_text request.author) ∷ Line (committer_word ++ who_text request.committer) ∷ []) (map parent_item request.parents ++ content_items request.message request.edits) people body in
    let hash : c.hash ≡ a.hash = people.moved.hash in
    let hash' : d.hash ≡ a.hash = parents.2.hash ∙ hash in
    let ids : AllByRecursion (IsId a.hash) request.parents = subst (λ (h : HashKind). AllByRecursion (IsId h) request.parents) hash parents.0.0 in
    let edits : AllByRecursion (IsEdit a.hash) request.edits = subst (λ (h : HashKind). AllByRecursion (IsEdit h) request.edits) hash' content.0.1.0 in (
      (
        same,
        λ named. record {
          name = subst IsFullName (sym same) named;
          author = author.spelled.0;
          committer = committer.spelled.0;
          ids = ids;
          parents = parents.0.1;
          edits = edits;
          count = content.0.1.1;
        },
      ),
      all.leads,
      all.moved,
    )
