-- A request has one base, and makes one view.
use Rattle.std.proofs.Common.{◌≡◌, ◌∙◌, sym, ap, subst, List, [], ◌∷◌, ℕ, Option, Some, Result, Ok}
use Rattle.gx_hash.specs.declared.kind.HashKind.{HashKind}
use Rattle.gx_hash.specs.declared.oid.ObjectId.{ObjectId}
use Rattle.gx_hash.specs.ObjectId.{id_from_hex}
use Rattle.gx_object.specs.declared.kind.Kind.{Kind}
use Rattle.gx_object.specs.declared.kind.Kind.TheVariants as kind
use Rattle.gx_object.specs.declared.tree.Entry.{Entry}
use Rattle.gx_object.specs.CommitSpelling.{CommitText, SpellsCommit}
use Rattle.gx_object.specs.TreeSpelling.{SpellsTree}
use Rattle.gx_object.specs.Laws.{one_commit, tree_once}
use Rattle.gx_store.specs.Content.{Content, lookup}
use Rattle.gx_edit.specs.LawsView.{LoadExists}
use Rattle.gx_edit.specs.PathMap.{PathMap}
use Rattle.gx_edit.specs.StandsForMap.{HasMap}
use Rattle.gx_edit.specs.View as directories
use Rattle.gx_edit.specs.View.{only, names_of}
use Rattle.gx_edit.specs.ViewOfEdits.{edited_view}
use Rattle.gix.specs.CommitRequest.{CommitRequest}
use Rattle.gix.specs.View.{State, whole}
use Rattle.gix.specs.Base.{HasTree, HasRoot, IsMapOf, IsBaseTree}
use Rattle.gix.specs.Trees.{EditsView}
use Rattle.gix.specs.LawsBelow.{MapIsUnique}

-- ---- what is stored under an id

pub one_kind : (k l : Kind) (a b : List ℕ) → ◌≡◌ {A = Option (Kind × List ℕ)} (Some (k, a)) (Some (l, b)) → k ≡ l
one_kind k l a b same = let pair : ◌≡◌ {A = Kind × List ℕ} (k, a) (l, b) = cc in ap (λ (p : Kind × List ℕ). p.0) pair

pub one_text : (k l : Kind) (a b : List ℕ) → ◌≡◌ {A = Option (Kind × List ℕ)} (Some (k, a)) (Some (l, b)) → a ≡ b
one_text k l a b same = let pair : ◌≡◌ {A = Kind × List ℕ} (k, a) (l, b) = cc in ap (λ (p : Kind × List ℕ). p.1) pair

one_answer : {A E : Type 0} (a b : A) → ◌≡◌ {A = Result A E} (Ok a) (Ok b) → a ≡ b
one_answer a b same = cc

-- ---- the base

module _ (hash : HashKind) (content : Content) where
  pub one_tree : (commit tree other : ObjectId) → HasTree hash content commit tree → HasTree hash content commit other → tree ≡ other
  one_tree commit tree other a b =
      let bytes : a.bytes ≡ b.bytes = one_text kind.Commit kind.Commit a.bytes b.bytes (sym a.stored ∙ b.stored) in
      let text : a.text ≡ b.text = one_commit hash b.bytes a.text b.text (subst (λ x. SpellsCommit hash x a.text) bytes a.spelled) b.spelled in
      one_answer tree other (sym a.named ∙ ap (λ (t : CommitText). id_from_hex t.tree) text ∙ b.named)

  one_list : (commit : ObjectId) (es fs : List Entry) → HasRoot hash content commit es → HasRoot hash content commit fs → es ≡ fs
  one_list commit es fs a b =
      let tree : a.tree ≡ b.tree = one_tree commit a.tree b.tree a.has_tree b.has_tree in
      let bytes : a.has.bytes ≡ b.has.bytes = one_text kind.Tree kind.Tree a.has.bytes b.has.bytes (sym a.has.stored ∙ ap (lookup content) tree ∙ b.has.stored) in
      tree_once hash b.has.bytes es fs (subst (λ x. SpellsTree hash x es) bytes a.has.spelled) b.has.spelled

  pub one_map : (unique : MapIsUnique) (commit : ObjectId) (m n : PathMap) → IsMapOf hash content commit m → IsMapOf hash content commit n → m ≡ n
  one_map unique commit m n a b =
      let same : b.tree ≡ a.tree = one_tree commit b.tree a.tree b.has_tree a.has_tree in
      let other : HasMap hash content a.tree n = subst (λ t. HasMap hash content t n) same b.has_map in
      λ i p. unique hash content a.tree m n a.has_map.ids other.ids a.has_map.represents other.represents p i

pub one_root : (state : State) (parents : List ObjectId) (es fs : List Entry) → IsBaseTree (whole state) parents es → IsBaseTree (whole state) parents fs → es ≡ fs
one_root state [] es fs a b = a ∙ sym b
one_root state (parent ∷ parents) es fs a b = one_list state.hash state.content parent es fs a b

-- ---- what the edits make of it

pub one_view : (exists : LoadExists) (r : CommitRequest) (state : State) (v w : directories.View) → EditsView r (whole state) v → EditsView r (whole state) w → v ≡ w
one_view exists r state v w a b =
    let load = exists state.hash state.content in
    a.is_end load.0 load.1
    ∙ ap (λ es. edited_view state.hash load.0 (only (names_of es)) r.edits) (one_root state r.parents a.entries b.entries a.is_base b.is_base)
    ∙ sym (b.is_end load.0 load.1)
