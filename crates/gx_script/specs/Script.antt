-- Scripts: which bytes are requests one after another, and where other bytes go wrong. (Ours; docs/SCRIPT.md.)
use Rattle.std.specs.Prelude.{◌≡◌, ◌≢◌, ℕ, ◌≤◌, List, [], ◌∷◌, ◌++◌, length, sum_by, count_by, nat_eq}
use Rattle.std.specs.List.{flat_map, AllByRecursion}
use Rattle.gx_hash.specs.declared.kind.HashKind.{HashKind}
use Rattle.gx_rules.specs.Name.{IsFullName}
use Rattle.gx_script.specs.declared.request.Request.{Request}
use Rattle.gx_script.specs.declared.request.Request.TheVariants.{Commit, Identity, Tag, Ref, Delete, Refs, Log, Paths, Walk, Bases, Octopus, Describe, NoteSet, NoteDrop, NoteGet, Head, Namespace}
use Rattle.gx_script.specs.Commits.{IsCommit}
use Rattle.gx_script.specs.Fields.{IsId, IsIdentity, IsExpect}
use Rattle.gx_script.specs.History.{IsWalk, IsBases, IsOctopus, IsDescribe}
use Rattle.gx_script.specs.Items.{Item, Line, Block, NoNewline, items_text, line_limit, block_limit, blocks_limit}
use Rattle.gx_script.specs.Notes.{IsNote, IsNoteGet}
use Rattle.gx_script.specs.References.{IsTag, IsRef, IsPrefix, IsNamespace}
use Rattle.gx_script.specs.Spelling.{items_of, spelling}

-- The fields of a request have their forms: names are well-formed, ids are of the kind, numbers and counts within
-- their limits.
abbrev pub IsForm : HashKind → Request → Type 0
IsForm hash (Commit request) = IsCommit hash request
IsForm hash (Identity who) = IsIdentity who
IsForm hash (Tag request) = IsTag hash request
IsForm hash (Ref request) = IsRef hash request
IsForm hash (Delete name expect) = IsFullName name × IsExpect hash expect
IsForm hash (Refs prefix) = IsPrefix prefix
IsForm hash (Log name) = IsFullName name
IsForm hash (Paths id) = IsId hash id
IsForm hash (Walk order ids) = IsWalk hash order ids
IsForm hash (Bases first others) = IsBases hash first others
IsForm hash (Octopus ids) = IsOctopus hash ids
IsForm hash (Describe names max id) = IsDescribe hash max id
IsForm hash (NoteSet request) = IsNote hash request.reference request.object
IsForm hash (NoteDrop reference object) = IsNote hash reference object
IsForm hash (NoteGet object patterns) = IsNoteGet hash object patterns
IsForm hash Head = Unit {0}
IsForm hash (Namespace name) = IsNamespace name

-- A line and a block have their limits.
abbrev pub IsShort : Item → Type 0
IsShort (Line bytes) = length bytes ≤ line_limit
IsShort (Block bytes) = length bytes ≤ block_limit

-- How many bytes an item adds to the blocks of its request.
abbrev pub block_size : Item → ℕ
block_size (Line bytes) = 0
block_size (Block bytes) = length bytes

-- A request that the language of a repository of this kind can spell within its limits.
pub record IsRequest (hash : HashKind) (request : Request) : Type 0 where
  pub form : IsForm hash request
  pub short : AllByRecursion IsShort (items_of request)
  pub blocks : sum_by block_size (items_of request) ≤ blocks_limit

-- The bytes are spelled by these requests.
pub record IsScript (hash : HashKind) (bytes : List ℕ) (requests : List Request) : Type 0 where
  pub each : AllByRecursion (IsRequest hash) requests
  pub whole : bytes ≡ flat_map spelling requests

-- A line of which the newline has not come, within its limit.
pub record IsPartialLine (bytes : List ℕ) : Type 0 where
  pub open_line : NoNewline bytes
  pub short : length bytes ≤ line_limit

-- A part of a line is any bytes of one line, and a part of a block any bytes that are not more than the block.
abbrev pub IsPart : Item → List ℕ → Type 0
IsPart (Line bytes) part = IsPartialLine part
IsPart (Block bytes) part = length part ≤ length bytes

-- Whole lines and blocks at the front of a request, and a part of the next.
pub record Begins (hash : HashKind) (bytes : List ℕ) : Type 0 where
  pub request : Request
  pub before : List Item
  pub next : Item
  pub after : List Item
  pub part : List ℕ
  pub fits : IsRequest hash request
  pub place : items_of request ≡ before ++ next ∷ after
  pub begun : IsPart next part
  pub is : bytes ≡ items_text before ++ part

-- The bytes begin no request, and have no whole one at their front.
pub record IsMalformed (hash : HashKind) (bytes : List ℕ) : Type 0 where
  pub part : Begins hash bytes → ⊥
  pub whole : (request : Request) (rest : List ℕ) → IsRequest hash request → bytes ≡ spelling request ++ rest → ⊥

-- How many newlines the bytes have.
abbrev pub newlines_in : List ℕ → ℕ
newlines_in bytes = count_by (λ b. nat_eq b 10) bytes

-- After the front the input ends inside a request, or the next byte is wrong.
abbrev pub StopsAt : HashKind → Type 0 → List ℕ → List ℕ → Type 0
StopsAt hash ends front [] = ends × (front ≢ [])
StopsAt hash ends front (b ∷ more) = IsMalformed hash (front ++ b ∷ [])

-- The bytes go wrong after their longest front that begins a request, which has this many newlines.
pub record IsBad (hash : HashKind) (bytes : List ℕ) (ends : Type 0) (newlines : ℕ) : Type 0 where
  pub front : List ℕ
  pub more : List ℕ
  pub split : bytes ≡ front ++ more
  pub begins : Begins hash front
  pub count : newlines ≡ newlines_in front
  pub stops : StopsAt hash ends front more
