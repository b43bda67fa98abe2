-- The history in a store: the parents and the time of each commit.
use Rattle.std.specs.Prelude.{◌≡◌, ℕ, ℤ, pos, Bool, true, List, [], map, take, Option, Some, None, IfSome, MatchOption, Ok, if◌then◌else◌}
use Rattle.std.specs.FinMap.{get}
use Rattle.gx_hash.specs.ObjectId.{id_from_hex}
use Rattle.gx_hash.specs.declared.kind.HashKind.{HashKind}
use Rattle.gx_hash.specs.declared.oid.ObjectId.{ObjectId}
use Rattle.gx_object.specs.declared.kind.Kind.TheVariants as kind
use Rattle.gx_object.specs.CommitSpelling.{CommitText, SpellsCommit}
use Rattle.gx_object.specs.TimeSpelling.{BeginsWithSeconds}
use Rattle.gx_store.specs.Content.{Content}
use Rattle.gx_store.specs.State.{StoreState}
use Rattle.gx_hash.specs.ObjectIds.{has_id}
use Rattle.gx_walk.specs.declared.commit.sorting.Parents.{Parents}
use Rattle.gx_walk.specs.declared.commit.sorting.Parents.TheVariants.{All, First}

-- A commit of a history: its parents in order, and the seconds of its committer's time. (Pro Git, "Git Objects",
-- "Commit Objects")
pub record Node : Type 0 where
  pub parents : List ObjectId
  pub time : ℤ

-- the commit that each id names, if it names one
abbrev pub History : Type 0
History = ObjectId → Option Node

-- The id is that of a stored commit with these parents, made at this time; a time that can't be read is 0. (Git,
-- commit.c, "parse_commit_date")
pub record IsNode (hash : HashKind) (content : Content) (id : ObjectId) (node : Node) : Type 0 where
  pub bytes : List ℕ
  pub text : CommitText
  pub stored : get content id ≡ Some (kind.Commit, bytes)
  pub spelled : SpellsCommit hash bytes text
  pub parents : map id_from_hex text.parents ≡ map Ok node.parents
  pub time : BeginsWithSeconds text.committer.time node.time

-- The history of a content has a node for each stored commit, and for nothing else.
abbrev pub IsHistoryOf : HashKind → Content → History → Type 0
IsHistoryOf hash content history = (id : ObjectId)
    → MatchOption (history id) ((node : Node) → ¬ IsNode hash content id node) (IsNode hash content id)

-- a fact of the history in a store, where the store tells its content
abbrev pub Told : StoreState → (History → Type 0) → Type 0
Told state P = IfSome state.content (λ content. (history : History)
    → IsHistoryOf state.hash content history → P history)

-- the parents of a commit, if there is one
abbrev pub parents_in : Option Node → List ObjectId
parents_in (Some node) = node.parents
parents_in None = []

-- the time of a commit, if there is one
abbrev pub time_in : Option Node → ℤ
time_in (Some node) = node.time
time_in None = pos 0

-- the parents of the commit at an id; an object of another kind has none
abbrev pub parents_of : History → ObjectId → List ObjectId
parents_of history id = parents_in (history id)

-- when the commit at an id was made
abbrev pub time_of : History → ObjectId → ℤ
time_of history id = time_in (history id)

-- all parents, or only the first (git-rev-list(1), "--first-parent")
abbrev pub cut : Parents → List ObjectId → List ObjectId
cut All parents = parents
cut First parents = take 1 parents

-- The parents that a walk follows: a shallow commit counts as one without parents. (gitglossary(7), "shallow")
abbrev pub followed : History → Parents → (ObjectId → Bool) → ObjectId → List ObjectId
followed history parents is_shallow id = if is_shallow id then [] else cut parents (parents_of history id)

-- What some ids reach is the least set that has the ids and, with each commit, the parents that are followed from it.
-- (gitglossary(7), "reachable")
pub data Reaches (follow : ObjectId → List ObjectId) (ids : List ObjectId) : ObjectId → Type 0 where
  start : {x : ObjectId} → has_id ids x ≡ true → Reaches follow ids x
  step : {x y : ObjectId} → Reaches follow ids x → has_id (follow x) y ≡ true → Reaches follow ids y
