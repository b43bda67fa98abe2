-- What a graph has is what the history has.
use Rattle.std.proofs.Common.{◌≡◌, Bool, true, false, length, arith, List, [], ◌∷◌, ◌++◌, sym, refl, ap, ◌∙◌, subst, Some, None, Option, IsSome, Bor, if◌then◌else◌, ◌⊎◌, inl, inr}
use Rattle.std.specs.Prelude.{◌||◌}
use Rattle.std.specs.BTreeMap.{is_at}
use Rattle.std.specs.Map.{lookup}
use Rattle.std.specs.Option.{is_some, option_copied}
use Rattle.std.proofs.lemmas.Bool.{false≢true}
use Rattle.gx_hash.specs.ObjectId.{id_cmp}
use Rattle.gx_hash.specs.declared.oid.ObjectId.{ObjectId}
use Rattle.gx_store.specs.State.{StoreState}
use Rattle.gx_walk.specs.Graph.{commit_in, history_in, node_in, IsEmpty, IsGraphIn, IsGraphOf, Extends, Puts}
use Rattle.gx_walk.specs.History.{History, Node}
use Rattle.gx_walk.specs.declared.graph.Graph.{Graph}
use Rattle.gx_walk.specs.declared.graph.GraphCommit.{GraphCommit}
use Rattle.gx_walk.proofs.IdLemmas.{itself_at, cases_at}
use Rattle.gx_walk.proofs.TellLemmas.{told_all}

module _ {T : Type 0} (old new : Graph T) (id : ObjectId) (commit : GraphCommit T) (puts : Puts old new id commit) where
  pub put_here : history_in new id ≡ node_in (Some commit)
  put_here = ap node_in (puts id ∙ ap (λ b. if b then Some commit else commit_in old id) (itself_at id))

  put_there : (one : ObjectId) → is_at (id_cmp id) one ≡ false → history_in new one ≡ history_in old one
  put_there one ne = ap node_in (puts one ∙ ap (λ b. if b then Some commit else commit_in old one) ne)

  -- what is put is what the history has
  pub graph_put : (history : History) → IsGraphOf history old → history id ≡ node_in (Some commit) → IsGraphOf history new
  graph_put history it is one some = elim (cases_at id one) [
    | inl e ↦ subst (λ w. history w ≡ history_in new w) e (is ∙ sym put_here)
    | inr ne ↦ it one (subst (λ o. IsSome o) (put_there one ne) some) ∙ sym (put_there one ne)
  ]

  -- where nothing was, nothing is lost
  pub extends_put : history_in old id ≡ None → Extends old new
  extends_put none one some = elim (cases_at id one) [
    | inl e ↦ absurd (false≢true (subst (λ o. IsSome o) none (subst (λ w. IsSome (history_in old w)) (sym e) some)))
    | inr ne ↦ put_there one ne
  ]

-- a graph with the same commits
pub graph_same : {T : Type 0} (history : History) (old new : Graph T) → ((one : ObjectId) → commit_in new one ≡ commit_in old one) → IsGraphOf history old → IsGraphOf history new
graph_same history old new same it one some =
    let e : history_in new one ≡ history_in old one = ap node_in (same one) in
    it one (subst (λ o. IsSome o) e some) ∙ sym e

-- a look-up that finds nothing
pub not_in : {T : Type 0} (got : Option (Bor (GraphCommit T))) (found : Option (GraphCommit T)) → option_copied got ≡ found → is_some got ≡ false → node_in found ≡ None
not_in None found is h = ap node_in (sym is)
not_in (Some commit) found is h = absurd (false≢true (sym h))

pub extends_then : {T : Type 0} (old now new : Graph T) → Extends old now → Extends now new → Extends old new
extends_then old now new f g id some = let at = f id some in g id (subst (λ o. IsSome o) (sym at) some) ∙ at

-- a graph without commits is of every history
pub graph_empty : {T : Type 0} (history : History) (graph : Graph T) → IsEmpty graph → IsGraphOf history graph
graph_empty {T} history graph empty id some = absurd (false≢true (subst (λ (o : Option (GraphCommit T)). IsSome (node_in o)) (empty id) some))

pub known_empty : {T : Type 0} (state : StoreState) (graph : Graph T) → IsEmpty graph → IsGraphIn state graph
known_empty state graph empty = told_all state (λ h. IsGraphOf h graph) (λ h. graph_empty h graph empty)

-- where there is no entry, there is no commit
pub no_entries : {T : Type 0} (graph : Graph T) → graph.commits.entries ≡ [] → IsEmpty graph
no_entries {T} graph none id = ap (λ (es : List (ObjectId × GraphCommit T)). lookup (is_at (id_cmp id)) es) none

no_first : {X : Type 0} (entries : List (ObjectId × X)) → ((id : ObjectId) → lookup (is_at (id_cmp id)) entries ≡ None) → entries ≡ []
no_first [] none = refl
no_first ((k, v) ∷ rest) none =
    let e : Some v ≡ None = sym (ap (λ (b : Bool). if b then Some v else lookup (is_at (id_cmp k)) rest) (itself_at k)) ∙ none k in cc

pub none_left : {T : Type 0} (graph : Graph T) → IsEmpty graph → graph.commits.entries ≡ []
none_left graph empty = no_first graph.commits.entries empty

pub no_length : {X : Type 0} (entries : List X) → length entries ≡ 0 → entries ≡ []
no_length [] h = refl
no_length (e ∷ es) h = absurd (omega (arith, h))
