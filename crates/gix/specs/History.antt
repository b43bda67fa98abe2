-- Histories of commits: requests that were answered one after another, what each left stored, and the first-parent
-- lines of its commits.
use Rattle.std.specs.Prelude.{◌≡◌, ◌⊎◌, ℕ, List, [], ◌∷◌, ◌++◌, Option, Some, None, Result, Ok, Err, Contains}
use Rattle.std.specs.List.{AllByRecursion}
use Rattle.std.specs.FinMap.{get}
use Rattle.gx_hash.specs.declared.kind.HashKind.{HashKind}
use Rattle.gx_hash.specs.declared.oid.ObjectId.{ObjectId}
use Rattle.gx_hash.specs.ObjectId.{bytes_of, hex_of, id_from_bytes}
use Rattle.gx_object.specs.declared.kind.Kind.{Kind}
use Rattle.gx_hash.specs.IdDigits.{IsHexId}
use Rattle.gx_object.specs.WrittenText.{HasSeconds}
use Rattle.gx_store.specs.Content.{Adds, AreApart}
use Rattle.gx_edit.specs.PathMap.{PathMap, no_paths, edited}
use Rattle.gx_edit.specs.Output.{Output}
use Rattle.gx_edit.specs.declared.path_edit.PathEdit.{PathEdit}
use Rattle.gx_edit.specs.declared.path_edit.PathEdit.TheVariants.{File, Link, Module, Remove}
use Rattle.gix.specs.declared.settings.Settings.{Settings}
use Rattle.gix.specs.declared.error.CommitEditsError.{CommitEditsError}
use Rattle.gix.specs.CommitRequest.{CommitRequest, HaveModuleIds}
use Rattle.gix.specs.View.{State, whole}
use Rattle.gix.specs.Trees.{Makes, brought}
use Rattle.gix.specs.Admission.{IsAdmitted}
use Rattle.gix.specs.CommitEdits.{written_objects}
use Rattle.gix.specs.NewCommit.{commit_id}
use Rattle.gix.specs.Machine.{Accepts}

-- A request that was answered, and the commit that the call left stored, if any: the one that it made, or one whose
-- refusal came only once it was stored.
pub record Call : Type 0 where
  pub request : CommitRequest
  pub answer : Result ObjectId CommitEditsError
  pub stored : Option ObjectId

-- ---- what a call leaves of its objects

-- All objects of a request that may be made were added, and this is the id of its commit.
pub record AddsCommit (settings : Settings) (r : CommitRequest) (old : State) (id : ObjectId)
    (new : State) : Type 0 where
  pub output : Output
  pub admitted : IsAdmitted settings r (whole old) output
  pub is_id : id ≡ commit_id old.hash r output
  pub adds : Adds old.hash (written_objects r output) old.content new.content

-- The first of the blobs and trees of a request that may be made were added, and its commit was not.
pub record AddsFirst (settings : Settings) (r : CommitRequest) (old new : State) : Type 0 where
  pub output : Output
  pub admitted : IsAdmitted settings r (whole old) output
  pub first : List (Kind × List ℕ)
  pub rest : List (Kind × List ℕ)
  pub split : brought r output ≡ first ++ rest
  pub adds : Adds old.hash first old.content new.content

-- What a call left: an accepted request its commit, with all that it names; a refused one nothing, some first objects,
-- or its commit too, where moving its reference failed.
abbrev pub Left : Settings → CommitRequest → State → Result ObjectId CommitEditsError → Option ObjectId → State → Type 0
Left settings r old (Ok id) (Some stored) new = (stored ≡ id) × Accepts settings r old id new
Left settings r old (Ok id) None new = ⊥
Left settings r old (Err refusal) (Some stored) new = AddsCommit settings r old stored new
Left settings r old (Err refusal) None new = (new.content ≡ old.content) ⊎ AddsFirst settings r old new

-- A call leads from one state to the next, of the same hash kind. After a refusal any references may follow, since a
-- fault may leave some of them old and some new.
pub record CallStep (settings : Settings) (call : Call) (old new : State) : Type 0 where
  pub hash : new.hash ≡ old.hash
  pub left : Left settings call.request old call.answer call.stored new

-- ---- premises

-- An id of the kind: its bytes and its digits are those of one. Every id of a program is such an id of its own kind.
-- (git-init(1), "--object-format")
pub record IsWholeId (hash : HashKind) (id : ObjectId) : Type 0 where
  pub bytes : id_from_bytes hash (bytes_of id) ≡ Some id
  pub digits : IsHexId hash (hex_of id)

-- a submodule's id is one of the kind
abbrev pub HasWholeId : HashKind → PathEdit → Type 0
HasWholeId hash (File path bytes executable) = Unit {0}
HasWholeId hash (Link path bytes) = Unit {0}
HasWholeId hash (Module path id) = IsWholeId hash id
HasWholeId hash (Remove path) = Unit {0}

-- What is assumed of a request whose trees can be made: no two different objects of it and of what is stored share an
-- id, and none of it has the null id; the ids that it names are of the one kind of the repository, and no submodule's
-- is null; its times are numbers of 64 bits. (hash-function-transition, "Background"; git-fsck(1), "nullSha1")
pub record Premises (r : CommitRequest) (state : State) (output : Output) : Type 0 where
  pub ids : AreApart state.hash state.content (written_objects r output)
  pub parents : AllByRecursion (IsWholeId state.hash) r.parents
  pub modules : AllByRecursion (HasWholeId state.hash) r.edits
  pub named : HaveModuleIds r.edits
  pub author : HasSeconds r.author.time
  pub committer : HasSeconds r.committer.time

-- ---- histories

-- The calls lead from the start to the end, each from the state that the one before it left, and each request meets the
-- premises in its own state.
abbrev pub History : Settings → State → List Call → State → Type 0
History settings start [] end = end ≡ start
History settings start (call ∷ calls) end = (mid : State)
    × ((output : Output) → Makes call.request (whole start) output → Premises call.request start output)
    × CallStep settings call start mid × History settings mid calls end

-- No object is stored, as in a new repository. (git-init(1))
abbrev pub IsEmpty : State → Type 0
IsEmpty state = (id : ObjectId) → get state.content id ≡ None

-- ---- first-parent lines

-- one of the calls had this request, and left this commit stored
pub record Stores (calls : List Call) (r : CommitRequest) (id : ObjectId) : Type 0 where
  pub call : Call
  pub among : Contains calls call
  pub requested : call.request ≡ r
  pub left : call.stored ≡ Some id

-- a fact of the first parent, or where there is none another
abbrev pub ByParent : List ObjectId → Type 0 → (ObjectId → Type 0) → Type 0
ByParent [] Alone Of = Alone
ByParent (parent ∷ parents) Alone Of = Of parent

-- The first-parent line of a commit, newest first: the request of a call that left it stored, and then the line of that
-- request's first parent, up to a request without a parent. (git-rev-list(1), "--first-parent";
-- gitglossary(7), "parent")
abbrev pub IsLine : List Call → ObjectId → List CommitRequest → Type 0
IsLine calls id [] = ⊥
IsLine calls id (r ∷ line) = Stores calls r id × ByParent r.parents (line ≡ []) (λ parent. IsLine calls parent line)

-- The map that the edits along a line make: those of the oldest request first, on the map of the empty tree.
abbrev pub line_map : HashKind → List CommitRequest → PathMap
line_map hash [] = no_paths
line_map hash (r ∷ line) = edited hash (line_map hash line) r.edits
