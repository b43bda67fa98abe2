-- Requests of the same items are the same.
use Rattle.std.proofs.Common.{◌≡◌, ◌∙◌, sym, ap, refl, subst, ℕ, List, [], ◌∷◌, ◌++◌, length, map, get_or, codes, arith, if◌then◌else◌, Option, Some, None}
use Rattle.std.specs.Fmt.{decimal}
use Rattle.std.specs.List.{AllByRecursion}
use Rattle.std.proofs.lemmas.Fmt.{decimal_injective}
use Rattle.std.proofs.lemmas.List.{append_cancel_left}
use Rattle.gx_hash.specs.ObjectId.{hex_of}
use Rattle.gx_hash.specs.declared.kind.HashKind.{HashKind}
use Rattle.gx_hash.specs.declared.oid.ObjectId.{ObjectId}
use Rattle.gx_object.specs.Kind.{kind_name}
use Rattle.gx_object.specs.declared.signature.Signature.{Signature}
use Rattle.gx_script.specs.declared.lists.WalkId.{WalkId}
use Rattle.gx_script.specs.declared.request.CommitRequest.{CommitRequest}
use Rattle.gx_script.specs.declared.request.Expect.{Expect}
use Rattle.gx_script.specs.declared.request.NameSet.{NameSet}
use Rattle.gx_script.specs.declared.request.NoteRequest.{NoteRequest}
use Rattle.gx_script.specs.declared.request.Order.{Order}
use Rattle.gx_script.specs.declared.request.RefRequest.{RefRequest}
use Rattle.gx_script.specs.declared.request.Request.{Request}
use Rattle.gx_script.specs.declared.request.Request.TheVariants.{Commit, Identity, Tag, Ref, Delete, Refs, Log, Paths, Walk, Bases, Octopus, Describe, NoteSet, NoteDrop, NoteGet, Head, Namespace}
use Rattle.gx_script.specs.declared.request.TagRequest.{TagRequest}
use Rattle.gx_script.specs.Commits.{commit_line, content_items, parent_item}
use Rattle.gx_script.specs.Fields.{IsId, who_text, author_word, committer_word, tagger_word, message_line, target_text, expect_text, order_text, set_text, walk_id_text, person_items}
use Rattle.gx_script.specs.Grammar.{begins_with}
use Rattle.gx_script.specs.History.{walk_line, bases_line, octopus_line, describe_line, paths_line}
use Rattle.gx_script.specs.Items.{Item, Line, Block, Without, IsField, spaced}
use Rattle.gx_script.specs.Lines.{IsTail}
use Rattle.gx_script.specs.Notes.{note_drop_line, note_get_line, note_set_line}
use Rattle.gx_script.specs.References.{tag_line, ref_line, delete_line, log_line, message_items, refs_line, namespace_line}
use Rattle.gx_script.specs.Script.{IsForm, IsRequest}
use Rattle.gx_script.specs.Spelling.{items_of, identity_word}
use Rattle.gx_script.proofs.FieldLemmas.{target_space, set_space, order_space, walk_id_space}
use Rattle.gx_script.proofs.IdLemmas.{same_id, hex_space}
use Rattle.gx_script.proofs.LineLemmas.{same_split, decimal_without, no_space}
use Rattle.gx_script.proofs.NameLemmas.{full_space, partial_space}
use Rattle.gx_script.proofs.SameFields.{same_who, same_kind, same_target, same_expect, same_order, same_set, same_walk_id, same_spaced, same_described, same_content}
use Rattle.gx_script.proofs.SpacedLemmas.{same_cut, spaced_tail, same_fields}

-- A request is its form, and what it has of it.
data Form : Type 0 where
  OfCommit : Form
  OfIdentity : Form
  OfTag : Form
  OfRef : Form
  OfDelete : Form
  OfLog : Form
  OfPaths : Form
  OfWalk : Form
  OfBases : Form
  OfOctopus : Form
  OfDescribe : Form
  OfNoteSet : Form
  OfNoteDrop : Form
  OfNoteGet : Form
  OfRefs : Form
  OfNamespace : Form
  OfHead : Form

abbrev Has : Form → Type 0
Has OfCommit = CommitRequest
Has OfIdentity = Signature
Has OfTag = TagRequest
Has OfRef = RefRequest
Has OfDelete = List ℕ × Expect
Has OfLog = List ℕ
Has OfPaths = ObjectId
Has OfWalk = Order × List WalkId
Has OfBases = ObjectId × List ObjectId
Has OfOctopus = List ObjectId
Has OfDescribe = NameSet × ℕ × ObjectId
Has OfNoteSet = NoteRequest
Has OfNoteDrop = List ℕ × ObjectId
Has OfNoteGet = ObjectId × List (List ℕ)
Has OfRefs = Option (List ℕ)
Has OfNamespace = Option (List ℕ)
Has OfHead = Unit {0}

abbrev form_of : Request → Form
form_of (Commit r) = OfCommit
form_of (Identity r) = OfIdentity
form_of (Tag r) = OfTag
form_of (Ref r) = OfRef
form_of (Delete a b) = OfDelete
form_of (Log a) = OfLog
form_of (Paths a) = OfPaths
form_of (Walk a b) = OfWalk
form_of (Bases a b) = OfBases
form_of (Octopus a) = OfOctopus
form_of (Describe a b c) = OfDescribe
form_of (NoteSet r) = OfNoteSet
form_of (NoteDrop a b) = OfNoteDrop
form_of (NoteGet a b) = OfNoteGet
form_of (Refs a) = OfRefs
form_of (Namespace a) = OfNamespace
form_of Head = OfHead

abbrev had : (r : Request) → Has (form_of r)
had (Commit r) = r
had (Identity r) = r
had (Tag r) = r
had (Ref r) = r
had (Delete a b) = (a, b)
had (Log a) = a
had (Paths a) = a
had (Walk a b) = (a, b)
had (Bases a b) = (a, b)
had (Octopus a) = a
had (Describe a b c) = (a, b, c)
had (NoteSet r) = r
had (NoteDrop a b) = (a, b)
had (NoteGet a b) = (a, b)
had (Refs a) = a
had (Namespace a) = a
had Head = tt

abbrev made : (f : Form) → Has f → Request
made OfCommit r = Commit r
made OfIdentity r = Identity r
made OfTag r = Tag r
made OfRef r = Ref r
made OfDelete (a, b) = Delete a b
made OfLog a = Log a
made OfPaths a = Paths a
made OfWalk (a, b) = Walk a b
made OfBases (a, b) = Bases a b
made OfOctopus a = Octopus a
made OfDescribe (a, b, c) = Describe a b c
made OfNoteSet r = NoteSet r
made OfNoteDrop (a, b) = NoteDrop a b
made OfNoteGet (a, b) = NoteGet a b
made OfRefs a = Refs a
made OfNamespace a = Namespace a
made OfHead a = Head

made_again : (r : Request) → made (form_of r) (had r) ≡ r
made_again (Commit r) = refl
made_again (Identity r) = refl
made_again (Tag r) = refl
made_again (Ref r) = refl
made_again (Delete a b) = refl
made_again (Log a) = refl
made_again (Paths a) = refl
made_again (Walk a b) = refl
made_again (Bases a b) = refl
made_again (Octopus a) = refl
made_again (Describe a b c) = refl
made_again (NoteSet r) = refl
made_again (NoteDrop a b) = refl
made_again (NoteGet a b) = refl
made_again (Refs a) = refl
made_again (Namespace a) = refl
made_again Head = refl

-- The first line tells the form.
abbrev line_form : List ℕ → Form
line_form line =
    if begins_with line (codes "commit ") then OfCommit
    else if begins_with line (codes "identity ") then OfIdentity
    else if begins_with line (codes "tag ") then OfTag
    else if begins_with line (codes "ref ") then OfRef
    else if begins_with line (codes "delete ") then OfDelete
    else if begins_with line (codes "log ") then OfLog
    else if begins_with line (codes "paths ") then OfPaths
    else if begins_with line (codes "walk ") then OfWalk
    else if begins_with line (codes "bases ") then OfBases
    else if begins_with line (codes "octopus") then OfOctopus
    else if begins_with line (codes "describe ") then OfDescribe
    else if begins_with line (codes "note-set ") then OfNoteSet
    else if begins_with line (codes "note-drop ") then OfNoteDrop
    else if begins_with line (codes "note-get ") then OfNoteGet
    else if begins_with line (codes "refs") then OfRefs
    else if begins_with line (codes "namespace") then OfNamespace
    else OfHead

abbrev items_form : List Item → Form
items_form [] = OfHead
items_form ((Line line) ∷ items) = line_form line
items_form ((Block block) ∷ items) = OfHead

told : (r : Request) → items_form (items_of r) ≡ form_of r
told (Commit r) = refl
told (Identity r) = refl
told (Tag r) = refl
told (Ref r) = refl
told (Delete a b) = refl
told (Log a) = refl
told (Paths a) = refl
told (Walk a b) = refl
told (Bases a b) = refl
told (Octopus a) = refl
told (Describe a b c) = refl
told (NoteSet r) = refl
told (NoteDrop a b) = refl
told (NoteGet a b) = refl
told (Refs None) = refl
told (Refs (Some a)) = refl
told (Namespace None) = refl
told (Namespace (Some a)) = refl
told Head = refl

only_line : (a b : List ℕ) → Line a ∷ [] ≡ Line b ∷ [] → a ≡ b
only_line a b e = cc

two_fields : (word a b x y : List ℕ) → Without 32 a → Without 32 x → word ++ (a ++ 32 ∷ b) ≡ word ++ (x ++ 32 ∷ y) → (a ≡ x) × (b ≡ y)
two_fields word a b x y p q e = same_split 32 a x b y p q (append_cancel_left word (a ++ 32 ∷ b) (x ++ 32 ∷ y) e)

record ThreeFields (a b c x y z : List ℕ) : Type 0 where
  first : a ≡ x
  second : b ≡ y
  third : c ≡ z

three_fields : (word a b c x y z : List ℕ) → Without 32 a → Without 32 x → Without 32 b → Without 32 y → word ++ (a ++ 32 ∷ (b ++ 32 ∷ c)) ≡ word ++ (x ++ 32 ∷ (y ++ 32 ∷ z)) → ThreeFields a b c x y z
three_fields word a b c x y z p q r s e =
    let outer = two_fields word a (b ++ 32 ∷ c) x (y ++ 32 ∷ z) p q e in
    let inner = same_split 32 b y c z r s outer.1 in
    record { first = outer.0; second = inner.0; third = inner.1 }

same_prefix : (a b : Option (List ℕ)) → refs_line a ≡ refs_line b → a ≡ b
same_prefix None None e = refl
same_prefix None (Some b) e = absurd (cc)
same_prefix (Some a) None e = absurd (cc)
same_prefix (Some a) (Some b) e = ap Some (append_cancel_left (codes "refs ") a b e)

same_namespace : (a b : Option (List ℕ)) → namespace_line a ≡ namespace_line b → a ≡ b
same_namespace None None e = refl
same_namespace None (Some b) e = absurd (cc)
same_namespace (Some a) None e = absurd (cc)
same_namespace (Some a) (Some b) e = ap Some (append_cancel_left (codes "namespace ") a b e)

no_tagger : (k : ℕ) (who : Signature) → tagger_word ++ who_text who ≡ message_line k → ⊥
no_tagger k who e = let h : 116 ≡ 109 = ap (λ (l : List ℕ). get_or l 0 0) e in omega (arith, h)

no_committer : (k : ℕ) (who : Signature) → committer_word ++ who_text who ≡ message_line k → ⊥
no_committer k who e = let h : 99 ≡ 109 = ap (λ (l : List ℕ). get_or l 0 0) e in omega (arith, h)

same_commit : (hash : HashKind) (r q : CommitRequest) → IsForm hash (Commit r) → IsForm hash (Commit q) → items_of (Commit r) ≡ items_of (Commit q) → r ≡ q
same_commit hash r q p s e =
    let name_line : commit_line r.name ≡ commit_line q.name = cc in
    let author_line : author_word ++ who_text r.author ≡ author_word ++ who_text q.author = cc in
    let committer_line : committer_word ++ who_text r.committer ≡ committer_word ++ who_text q.committer = cc in
    let rest : map parent_item r.parents ++ content_items r.message r.edits ≡ map parent_item q.parents ++ content_items q.message q.edits = cc in
    let name : r.name ≡ q.name = append_cancel_left (codes "commit ") r.name q.name name_line in
    let author : r.author ≡ q.author = same_who r.author q.author p.author s.author (append_cancel_left author_word (who_text r.author) (who_text q.author) author_line) in
    let committer : r.committer ≡ q.committer = same_who r.committer q.committer p.committer s.committer (append_cancel_left committer_word (who_text r.committer) (who_text q.committer) committer_line) in
    let content = same_content hash r.parents q.parents r.message q.message r.edits q.edits p.ids s.ids p.edits s.edits rest in
    let parents = content.parents in
    let message = content.message in
    let edits = content.edits in
    λ i. record { name = name i; author = author i; committer = committer i; parents = parents i; message = message i; edits = edits i }

same_tag : (hash : HashKind) (r q : TagRequest) → IsForm hash (Tag r) → IsForm hash (Tag q) → items_of (Tag r) ≡ items_of (Tag q) → r ≡ q
same_tag hash r q p s e =
    let line : tag_line r ≡ tag_line q = cc in
    let rest : person_items tagger_word r.tagger ++ message_items r.message ≡ person_items tagger_word q.tagger ++ message_items q.message = cc in
    let t = three_fields (codes "tag ") r.name (hex_of r.target) (kind_name r.kind) q.name (hex_of q.target) (kind_name q.kind) p.name.whole s.name.whole (hex_space hash r.target p.target) (hex_space hash q.target s.target) line in
    let name : r.name ≡ q.name = t.first in
    let target : r.target ≡ q.target = same_id hash r.target q.target p.target s.target t.second in
    let kind : r.kind ≡ q.kind = same_kind r.kind q.kind t.third in
    let d = same_described tagger_word r.tagger q.tagger r.message q.message no_tagger p.tagger s.tagger rest in
    let tagger : r.tagger ≡ q.tagger = d.0 in
    let message : r.message ≡ q.message = d.1 in
    λ i. record { name = name i; target = target i; kind = kind i; tagger = tagger i; message = message i }

same_ref : (hash : HashKind) (r q : RefRequest) → IsForm hash (Ref r) → IsForm hash (Ref q) → items_of (Ref r) ≡ items_of (Ref q) → r ≡ q
same_ref hash r q p s e =
    let line : ref_line r ≡ ref_line q = cc in
    let rest : person_items committer_word r.committer ++ message_items r.message ≡ person_items committer_word q.committer ++ message_items q.message = cc in
    let t = three_fields (codes "ref ") r.name (target_text r.target) (expect_text r.expect) q.name (target_text q.target) (expect_text q.expect) (full_space r.name p.name) (full_space q.name s.name) (target_space hash r.target p.target) (target_space hash q.target s.target) line in
    let name : r.name ≡ q.name = t.first in
    let target : r.target ≡ q.target = same_target hash r.target q.target p.target s.target t.second in
    let expect : r.expect ≡ q.expect = same_expect hash r.expect q.expect p.expect s.expect t.third in
    let d = same_described committer_word r.committer q.committer r.message q.message no_committer p.committer s.committer rest in
    let committer : r.committer ≡ q.committer = d.0 in
    let message : r.message ≡ q.message = d.1 in
    λ i. record { name = name i; target = target i; expect = expect i; committer = committer i; message = message i }

same_note : (hash : HashKind) (r q : NoteRequest) → IsForm hash (NoteSet r) → IsForm hash (NoteSet q) → items_of (NoteSet r) ≡ items_of (NoteSet q) → r ≡ q
same_note hash r q p s e =
    let line : note_set_line r.reference r.object (length r.note) ≡ note_set_line q.reference q.object (length q.note) = cc in
    let note : r.note ≡ q.note = cc in
    let t = three_fields (codes "note-set ") r.reference (hex_of r.object) (decimal (length r.note)) q.reference (hex_of q.object) (decimal (length q.note)) (partial_space r.reference p.0) (partial_space q.reference s.0) (hex_space hash r.object p.1) (hex_space hash q.object s.1) line in
    let reference : r.reference ≡ q.reference = t.first in
    let object : r.object ≡ q.object = same_id hash r.object q.object p.1 s.1 t.second in
    λ i. record { reference = reference i; object = object i; note = note i }

two : {A B C : Type 0} (f : A → B → C) (a a' : A) (b b' : B) → a ≡ a' → b ≡ b' → f a b ≡ f a' b'
two f a a' b b' p q = ap (λ x. f x b) p ∙ ap (λ y. f a' y) q

same_patterns : (xs ys : List (List ℕ)) → AllByRecursion IsField xs → AllByRecursion IsField ys → spaced xs ≡ spaced ys → xs ≡ ys
same_patterns xs ys p q e = same_spaced (λ (f : List ℕ). f) IsField (λ f h. h.whole) (λ a b h k same. same) xs ys p q (ap spaced (same_fields xs) ∙ e ∙ ap spaced (sym (same_fields ys)))

same : (hash : HashKind) (f : Form) (x y : Has f) → IsForm hash (made f x) → IsForm hash (made f y) → items_of (made f x) ≡ items_of (made f y) → made f x ≡ made f y
same hash OfCommit r q p s e = ap Commit (same_commit hash r q p s e)
same hash OfIdentity r q p s e = ap Identity (same_who r q p s (append_cancel_left identity_word (who_text r) (who_text q) (only_line (identity_word ++ who_text r) (identity_word ++ who_text q) e)))
same hash OfTag r q p s e = ap Tag (same_tag hash r q p s e)
same hash OfRef r q p s e = ap Ref (same_ref hash r q p s e)
same hash OfDelete (a, b) (x, y) p s e =
    let t = two_fields (codes "delete ") a (expect_text b) x (expect_text y) (full_space a p.0) (full_space x s.0) (only_line (delete_line a b) (delete_line x y) e) in
    two Delete a x b y t.0 (same_expect hash b y p.1 s.1 t.1)
same hash OfLog a x p s e = ap Log (append_cancel_left (codes "log ") a x (only_line (log_line a) (log_line x) e))
same hash OfPaths a x p s e = ap Paths (same_id hash a x p s (append_cancel_left (codes "paths ") (hex_of a) (hex_of x) (only_line (paths_line a) (paths_line x) e)))
same hash OfWalk (a, b) (x, y) p s e =
    let t = same_cut (order_text a) (order_text x) (spaced (map walk_id_text b)) (spaced (map walk_id_text y)) (order_space a p.order_fits) (order_space x s.order_fits) (spaced_tail walk_id_text b) (spaced_tail walk_id_text y) (append_cancel_left (codes "walk ") (order_text a ++ spaced (map walk_id_text b)) (order_text x ++ spaced (map walk_id_text y)) (only_line (walk_line a b) (walk_line x y) e)) in
    two Walk a x b y (same_order a x p.order_fits s.order_fits t.0) (same_spaced walk_id_text (λ (walked : WalkId). IsId hash walked.id) (walk_id_space hash) (same_walk_id hash) b y p.kind s.kind t.1)
same hash OfBases (a, b) (x, y) p s e =
    let t = same_cut (hex_of a) (hex_of x) (spaced (map hex_of b)) (spaced (map hex_of y)) (hex_space hash a p.first_kind) (hex_space hash x s.first_kind) (spaced_tail hex_of b) (spaced_tail hex_of y) (append_cancel_left (codes "bases ") (hex_of a ++ spaced (map hex_of b)) (hex_of x ++ spaced (map hex_of y)) (only_line (bases_line a b) (bases_line x y) e)) in
    two Bases a x b y (same_id hash a x p.first_kind s.first_kind t.0) (same_spaced hex_of (IsId hash) (hex_space hash) (same_id hash) b y p.kind s.kind t.1)
same hash OfOctopus a x p s e = ap Octopus (same_spaced hex_of (IsId hash) (hex_space hash) (same_id hash) a x p.kind s.kind (append_cancel_left (codes "octopus") (spaced (map hex_of a)) (spaced (map hex_of x)) (only_line (octopus_line a) (octopus_line x) e)))
same hash OfDescribe (a, b, c) (x, y, z) p s e =
    let t = three_fields (codes "describe ") (set_text a) (decimal b) (hex_of c) (set_text x) (decimal y) (hex_of z) (set_space a) (set_space x) (decimal_without 32 b no_space p.0) (decimal_without 32 y no_space s.0) (only_line (describe_line a b c) (describe_line x y z) e) in
    let names : a ≡ x = same_set a x t.first in
    let max : b ≡ y = decimal_injective b y p.0 s.0 t.second in
    let id : c ≡ z = same_id hash c z p.1 s.1 t.third in
    λ i. Describe (names i) (max i) (id i)
same hash OfNoteSet r q p s e = ap NoteSet (same_note hash r q p s e)
same hash OfNoteDrop (a, b) (x, y) p s e =
    let t = two_fields (codes "note-drop ") a (hex_of b) x (hex_of y) (partial_space a p.0) (partial_space x s.0) (only_line (note_drop_line a b) (note_drop_line x y) e) in
    two NoteDrop a x b y t.0 (same_id hash b y p.1 s.1 t.1)
same hash OfNoteGet (a, b) (x, y) p s e =
    let tail = λ (l : List (List ℕ)). subst (λ (z : List (List ℕ)). IsTail (spaced z)) (same_fields l) (spaced_tail (λ (f : List ℕ). f) l) in
    let t = same_cut (hex_of a) (hex_of x) (spaced b) (spaced y) (hex_space hash a p.0) (hex_space hash x s.0) (tail b) (tail y) (append_cancel_left (codes "note-get ") (hex_of a ++ spaced b) (hex_of x ++ spaced y) (only_line (note_get_line a b) (note_get_line x y) e)) in
    two NoteGet a x b y (same_id hash a x p.0 s.0 t.0) (same_patterns b y p.1 s.1 t.1)
same hash OfRefs a x p s e = ap Refs (same_prefix a x (only_line (refs_line a) (refs_line x) e))
same hash OfNamespace a x p s e = ap Namespace (same_namespace a x (only_line (namespace_line a) (namespace_line x) e))
same hash OfHead a x p s e = refl

across : (hash : HashKind) (f g : Form) (x : Has f) (y : Has g) → f ≡ g → IsForm hash (made f x) → IsForm hash (made g y) → items_of (made f x) ≡ items_of (made g y) → made f x ≡ made g y
across hash f g x y e = subst (λ (h : Form). (z : Has h) → IsForm hash (made f x) → IsForm hash (made h z) → items_of (made f x) ≡ items_of (made h z) → made f x ≡ made h z) e (λ z. same hash f x z) y

pub same_request : (hash : HashKind) (r q : Request) → IsRequest hash r → IsRequest hash q → items_of r ≡ items_of q → r ≡ q
same_request hash r q p s e =
    sym (made_again r)
    ∙ across hash (form_of r) (form_of q) (had r) (had q) (sym (told r) ∙ ap items_form e ∙ told q)
    (subst (IsForm hash) (sym (made_again r)) p.form)
    (subst (IsForm hash) (sym (made_again q)) s.form)
    (ap items_of (made_again r) ∙ e ∙ ap items_of (sym (made_again q)))
    ∙ made_again q
