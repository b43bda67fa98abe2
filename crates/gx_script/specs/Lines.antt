-- What the parts of a line say, and when they say nothing. (Ours; docs/SCRIPT.md.)
use Rattle.std.specs.Prelude.{◌≡◌, ◌≢◌, ℕ, ℤ, ◌≤◌, ◌<◌, ◌^◌, List, [], ◌∷◌, ◌++◌, length, map, Option, FitsSigned, MatchOption}
use Rattle.std.specs.Int.{Width}
use Rattle.std.specs.Fmt.{decimal, signed_decimal}
use Rattle.std.specs.List.{AllByRecursion}
use Rattle.gx_hash.specs.ObjectId.{hex_of}
use Rattle.gx_hash.specs.declared.kind.HashKind.{HashKind}
use Rattle.gx_hash.specs.declared.oid.ObjectId.{ObjectId}
use Rattle.gx_object.specs.Kind.{kind_name}
use Rattle.gx_object.specs.declared.kind.Kind.{Kind}
use Rattle.gx_object.specs.declared.signature.Signature.{Signature}
use Rattle.gx_object.specs.declared.signature.Time.{Time}
use Rattle.gx_rules.specs.Name.{IsFullName}
use Rattle.gx_store.specs.declared.target.Target.{Target}
use Rattle.gx_script.specs.declared.lists.WalkId.{WalkId}
use Rattle.gx_script.specs.declared.request.Expect.{Expect}
use Rattle.gx_script.specs.declared.request.NameSet.{NameSet}
use Rattle.gx_script.specs.declared.request.Order.{Order}
use Rattle.gx_script.specs.declared.request.Request.{Request}
use Rattle.gx_script.specs.Commits.{commit_line}
use Rattle.gx_script.specs.Fields.{IsId, IsIdentity, IsTarget, IsExpect, IsOrder, who_text, target_text, expect_text, order_text, set_text, walk_id_text}
use Rattle.gx_script.specs.Grammar.{tag_text, ref_text}
use Rattle.gx_script.specs.History.{paths_line, walk_line, IsWalk, bases_line, IsBases, octopus_line, IsOctopus, describe_line, IsDescribe}
use Rattle.gx_script.specs.Items.{Line, Without, IsField, spaced, block_limit}
use Rattle.gx_script.specs.Notes.{note_set_line, IsNote, note_drop_line, note_get_line, IsNoteGet}
use Rattle.gx_script.specs.References.{delete_line, refs_line, IsPrefix, log_line, head_line, namespace_line, IsNamespace}
use Rattle.gx_script.specs.Script.{IsForm}
use Rattle.gx_script.specs.Spelling.{items_of, identity_word}

-- The bytes spell no number of 64 bits.
abbrev pub IsNoNumber : List ℕ → Type 0
IsNoNumber bytes = (n : ℕ) → n < 2 ^ 64 → bytes ≡ decimal n → ⊥

-- The bytes spell no signed number of the width.
abbrev pub IsNoSigned : Width → List ℕ → Type 0
IsNoSigned w bytes = (z : ℤ) → FitsSigned w z → bytes ≡ signed_decimal z → ⊥

-- The bytes do not begin with the prefix.
abbrev pub IsNotBehind : List ℕ → List ℕ → Type 0
IsNotBehind prefix bytes = (rest : List ℕ) → bytes ≡ prefix ++ rest → ⊥

-- The first such byte stands between the parts.
pub record Splits (byte : ℕ) (bytes front back : List ℕ) : Type 0 where
  pub is : bytes ≡ front ++ byte ∷ back
  pub first : Without byte front

-- The bytes after the word have no field with a space after it.
abbrev pub IsNoPair : List ℕ → List ℕ → Type 0
IsNoPair word line = (first rest : List ℕ) → Without 32 first → line ≡ word ++ (first ++ 32 ∷ rest) → ⊥

-- A field after the word, and what stands after its space.
pub record IsPair (word line first rest : List ℕ) : Type 0 where
  pub is : line ≡ word ++ (first ++ 32 ∷ rest)
  pub whole : Without 32 first

-- The bytes after the word have no two fields with spaces after them.
abbrev pub IsNoTriple : List ℕ → List ℕ → Type 0
IsNoTriple word line = (first second rest : List ℕ) → Without 32 first → Without 32 second
    → line ≡ word ++ (first ++ 32 ∷ (second ++ 32 ∷ rest)) → ⊥

-- Two fields after the word, and what stands after their spaces.
pub record IsTriple (word line first second rest : List ℕ) : Type 0 where
  pub is : line ≡ word ++ (first ++ 32 ∷ (second ++ 32 ∷ rest))
  pub whole : Without 32 first
  pub also : Without 32 second

-- Nothing, or a space and more.
abbrev pub IsTail : List ℕ → Type 0
IsTail [] = Unit {0}
IsTail (b ∷ rest) = b ≡ 32

-- The field after the space in front, and what stands after it.
pub record CutsField (bytes field rest : List ℕ) : Type 0 where
  pub is : bytes ≡ 32 ∷ (field ++ rest)
  pub whole : Without 32 field
  pub tail : IsTail rest

-- The line is not the word and an identity.
abbrev pub IsNoWho : List ℕ → List ℕ → Type 0
IsNoWho word line = (who : Signature) → IsIdentity who → line ≡ word ++ who_text who → ⊥

-- An identity of these parts.
abbrev pub signature_of : Time → List ℕ → List ℕ → Signature
signature_of time name email = record { name = name; email = email; time = time }

-- The bytes spell no length within the limit of a block.
abbrev pub IsNoSize : List ℕ → Type 0
IsNoSize bytes = (size : ℕ) → size ≤ block_limit → bytes ≡ decimal size → ⊥

-- The bytes spell no id of the kind.
abbrev pub IsNoId : HashKind → List ℕ → Type 0
IsNoId hash bytes = (id : ObjectId) → IsId hash id → bytes ≡ hex_of id → ⊥

-- The bytes are no kind of objects.
abbrev pub IsNoKind : List ℕ → Type 0
IsNoKind bytes = (kind : Kind) → bytes ≡ kind_name kind → ⊥

-- The bytes spell no target.
abbrev pub IsNoTarget : HashKind → List ℕ → Type 0
IsNoTarget hash bytes = (target : Target) → IsTarget hash target → bytes ≡ target_text target → ⊥

-- The bytes spell nothing that a reference may have to be.
abbrev pub IsNoExpect : HashKind → List ℕ → Type 0
IsNoExpect hash bytes = (expect : Expect) → IsExpect hash expect → bytes ≡ expect_text expect → ⊥

-- The bytes spell no order of a walk.
abbrev pub IsNoOrder : List ℕ → Type 0
IsNoOrder bytes = (order : Order) → IsOrder order → bytes ≡ order_text order → ⊥

-- The bytes are no set of names.
abbrev pub IsNoSet : List ℕ → Type 0
IsNoSet bytes = (names : NameSet) → bytes ≡ set_text names → ⊥

-- The bytes spell no id of a walk.
abbrev pub IsNoWalkId : HashKind → List ℕ → Type 0
IsNoWalkId hash bytes = (walked : WalkId) → IsId hash walked.id → bytes ≡ walk_id_text walked → ⊥

-- Fields after spaces, each of which spells a value.
pub record AreSpaced {X : Type 0} (text : X → List ℕ) (Fits : X → Type 0) (most : ℕ) (bytes : List ℕ) (values : List X)
    : Type 0 where
  pub is : bytes ≡ spaced (map text values)
  pub fits : AllByRecursion Fits values
  pub few : length values ≤ most

-- The bytes are no such fields, or too many.
abbrev pub AreNotSpaced : {X : Type 0} → (X → List ℕ) → (X → Type 0) → ℕ → List ℕ → Type 0
AreNotSpaced {X} text Fits most bytes = (values : List X) → AreSpaced text Fits most bytes values → ⊥

-- The line names no one who commits from now on: it is no `identity` with who that is. (Ours)
abbrev pub IsNoIdentity : List ℕ → Type 0
IsNoIdentity line = (who : Signature) → IsIdentity who → line ≡ identity_word ++ who_text who → ⊥

-- The line asks for no deletion: it is no `delete` with a full name and what the reference has to be. (Ours)
abbrev pub IsNoDelete : HashKind → List ℕ → Type 0
IsNoDelete hash line = (name : List ℕ) (expect : Expect) → IsFullName name × IsExpect hash expect
    → line ≡ delete_line name expect → ⊥

-- The line asks for no list of references: it is no `refs`, alone or with a prefix. (Ours)
abbrev pub IsNoRefs : List ℕ → Type 0
IsNoRefs line = (prefix : Option (List ℕ)) → IsPrefix prefix → line ≡ refs_line prefix → ⊥

-- The line asks for no log: it is no `log` with a full name. (Ours)
abbrev pub IsNoLog : List ℕ → Type 0
IsNoLog line = (name : List ℕ) → IsFullName name → line ≡ log_line name → ⊥

-- The line asks for no paths of a tree: it is no `paths` with an id of the kind. (Ours)
abbrev pub IsNoPaths : HashKind → List ℕ → Type 0
IsNoPaths hash line = (id : ObjectId) → IsId hash id → line ≡ paths_line id → ⊥

-- The line asks for no walk: it is no `walk` with an order and one or more ids of the kind, within the limit. (Ours)
abbrev pub IsNoWalk : HashKind → List ℕ → Type 0
IsNoWalk hash line = (order : Order) (ids : List WalkId) → IsWalk hash order ids → line ≡ walk_line order ids → ⊥

-- The line asks for no merge bases: it is no `bases` with ids of the kind, within their limit. (Ours)
abbrev pub IsNoBases : HashKind → List ℕ → Type 0
IsNoBases hash line = (first : ObjectId) (others : List ObjectId) → IsBases hash first others
    → line ≡ bases_line first others → ⊥

-- The line asks for no merge base of all: it is no `octopus` with ids of the kind, within their limit. (Ours)
abbrev pub IsNoOctopus : HashKind → List ℕ → Type 0
IsNoOctopus hash line = (ids : List ObjectId) → IsOctopus hash ids → line ≡ octopus_line ids → ⊥

-- The line asks for no description: it is no `describe` with a set of names, a number and an id of the kind. (Ours)
abbrev pub IsNoDescribe : HashKind → List ℕ → Type 0
IsNoDescribe hash line = (names : NameSet) (max : ℕ) (id : ObjectId) → IsDescribe hash max id
    → line ≡ describe_line names max id → ⊥

-- The line asks that no note be removed: it is no `note-drop` with a partial name and an id of the kind. (Ours)
abbrev pub IsNoNoteDrop : HashKind → List ℕ → Type 0
IsNoNoteDrop hash line = (reference : List ℕ) (object : ObjectId) → IsNote hash reference object
    → line ≡ note_drop_line reference object → ⊥

-- The line asks for no notes: it is no `note-get` with an id of the kind and patterns. (Ours)
abbrev pub IsNoNoteGet : HashKind → List ℕ → Type 0
IsNoNoteGet hash line = (object : ObjectId) (patterns : List (List ℕ)) → IsNoteGet hash object patterns
    → line ≡ note_get_line object patterns → ⊥

-- The line sets no namespace: it is no `namespace`, alone or with a partial name. (Ours)
abbrev pub IsNoNamespace : List ℕ → Type 0
IsNoNamespace line = (name : Option (List ℕ)) → IsNamespace name → line ≡ namespace_line name → ⊥

-- The line begins no commit: it is no `commit` with a full name. (Ours)
abbrev pub IsNoCommit : List ℕ → Type 0
IsNoCommit line = (name : List ℕ) → IsFullName name → line ≡ commit_line name → ⊥

-- The line begins no tag: it is no `tag` with a field for the name, an id of the kind and the kind of an object. (Ours)
abbrev pub IsNoTag : HashKind → List ℕ → Type 0
IsNoTag hash line = (name : List ℕ) (target : ObjectId) (kind : Kind) → (name ≢ []) × IsField name × IsId hash target
    → line ≡ tag_text name target kind → ⊥

-- The line sets no reference: it is no `ref` with a full name, a target and what the reference has to be. (Ours)
abbrev pub IsNoRef : HashKind → List ℕ → Type 0
IsNoRef hash line = (name : List ℕ) (target : Target) (expect : Expect)
    → IsFullName name × IsTarget hash target × IsExpect hash expect → line ≡ ref_text name target expect → ⊥

-- The line puts no note: it is no `note-set` with a partial name, an id of the kind and the size of a block. (Ours)
abbrev pub IsNoNoteSet : HashKind → List ℕ → Type 0
IsNoNoteSet hash line = (reference : List ℕ) (object : ObjectId) (size : ℕ)
    → IsNote hash reference object × (size ≤ block_limit) → line ≡ note_set_line reference object size → ⊥

-- A line is no request of the forms of references that are one line. (Ours)
pub record IsNoReference (hash : HashKind) (line : List ℕ) : Type 0 where
  pub identity : IsNoIdentity line
  pub delete : IsNoDelete hash line
  pub refs : IsNoRefs line
  pub log : IsNoLog line
  pub head : line ≢ head_line
  pub namespace : IsNoNamespace line

-- A line is no request of the forms of history. (Ours)
pub record IsNoHistory (hash : HashKind) (line : List ℕ) : Type 0 where
  pub paths : IsNoPaths hash line
  pub walk : IsNoWalk hash line
  pub bases : IsNoBases hash line
  pub octopus : IsNoOctopus hash line
  pub describe : IsNoDescribe hash line

-- A line is no request of the forms of notes that are one line. (Ours)
pub record IsNoNote (hash : HashKind) (line : List ℕ) : Type 0 where
  pub note_drop : IsNoNoteDrop hash line
  pub note_get : IsNoNoteGet hash line

-- A line is no whole request of any form. (Ours)
pub record IsNoOneLine (hash : HashKind) (line : List ℕ) : Type 0 where
  pub reference : IsNoReference hash line
  pub history : IsNoHistory hash line
  pub note : IsNoNote hash line

-- A line is the whole request, or it is none of a form.
abbrev pub IsOneLine : HashKind → List ℕ → Type 0 → Option Request → Type 0
IsOneLine hash line Else found =
    MatchOption found Else (λ request. IsForm hash request × (items_of request ≡ Line line ∷ []))
