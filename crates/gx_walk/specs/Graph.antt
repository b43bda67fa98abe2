-- Commits that were read before.
use Rattle.std.specs.Prelude.{◌≡◌, ℕ, Option, Some, None, IsSome, if◌then◌else◌}
use Rattle.std.specs.BTreeMap.{btree_map_len, get, is_at}
use Rattle.gx_hash.specs.ObjectId.{id_cmp}
use Rattle.gx_hash.specs.declared.oid.ObjectId.{ObjectId}
use Rattle.gx_store.specs.State.{StoreState}
use Rattle.gx_walk.specs.History.{History, Node, Told}
use Rattle.gx_walk.specs.declared.graph.Graph.{Graph}
use Rattle.gx_walk.specs.declared.graph.GraphCommit.{GraphCommit}

module _ {T : Type 0} where
  -- the commit that the graph has at an id
  abbrev pub commit_in : Graph T → ObjectId → Option (GraphCommit T)
  commit_in graph id = get id_cmp graph.commits id

  -- how many commits the graph has
  abbrev pub graph_len : Graph T → ℕ
  graph_len graph = btree_map_len graph.commits

  -- the graph has no commit
  abbrev pub IsEmpty : Graph T → Type 0
  IsEmpty graph = (id : ObjectId) → commit_in graph id ≡ None

  -- the commit is at the id, and at all other ids the graph is as before
  abbrev pub Puts : Graph T → Graph T → ObjectId → GraphCommit T → Type 0
  Puts old new id commit = (one : ObjectId)
      → commit_in new one ≡ (if is_at (id_cmp id) one then Some commit else commit_in old one)

  -- the commit of a history that an entry stands for
  abbrev pub node_in : Option (GraphCommit T) → Option Node
  node_in None = None
  node_in (Some commit) = Some (record { parents = commit.parents; time = commit.commit_time })

  -- the commits of the graph, as a history
  abbrev pub history_in : Graph T → History
  history_in graph id = node_in (commit_in graph id)

  -- Each commit of the graph is what the history has.
  abbrev pub IsGraphOf : History → Graph T → Type 0
  IsGraphOf history graph = (id : ObjectId) → IsSome (history_in graph id) → history id ≡ history_in graph id

  -- Each commit of the graph is what the store has, where it tells its content.
  abbrev pub IsGraphIn : StoreState → Graph T → Type 0
  IsGraphIn state graph = Told state (λ history. IsGraphOf history graph)

  -- each commit of the old graph is in the new one as it was
  abbrev pub Extends : Graph T → Graph T → Type 0
  Extends old new = (id : ObjectId) → IsSome (history_in old id) → history_in new id ≡ history_in old id
