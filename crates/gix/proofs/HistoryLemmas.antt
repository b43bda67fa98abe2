-- Along a history each commit that a call left stored keeps its map, and that is the map of its first-parent line.
use Rattle.std.proofs.Common.{◌≡◌, ◌∙◌, sym, ap, refl, subst, arith, List, [], ◌∷◌, ◌++◌, map, append-nil, append_assoc, ℕ, suc, zero, Bool, true, false, cond, Option, Some, None, IfSome, Contains, inl, inr, ◌⊎◌, ⊎_elim, Result, Ok, Err}
use Rattle.std.specs.List.{AllByRecursion}
use Rattle.std.specs.Option.{option_or}
use Rattle.std.specs.FinMap.{get}
use Rattle.gx_hash.specs.declared.kind.HashKind.{HashKind}
use Rattle.gx_hash.specs.declared.oid.ObjectId.{ObjectId}
use Rattle.gx_hash.specs.HashKind.{kind_of}
use Rattle.gx_hash.specs.ObjectId.{empty_tree_id}
use Rattle.gx_hash.specs.ObjectIds.{id_eq}
use Rattle.gx_hash.specs.Laws.{same_id}
use Rattle.gx_object.specs.declared.kind.Kind.{Kind}
use Rattle.gx_object.specs.declared.kind.Kind.TheVariants as kind
use Rattle.gx_object.specs.declared.tree.Entry.{Entry}
use Rattle.gx_store.specs.Content.{Content, lookup, id_of, object_at, HoldsAll, Adds, AreOfOwnIds, AreApart}
use Rattle.gx_store.specs.Laws.{FoundStays}
use Rattle.gx_edit.specs.PathMap.{PathMap, no_paths, edited, blobs_in, blobs_of}
use Rattle.gx_edit.specs.CanonicalTree.{trees_of}
use Rattle.gx_edit.specs.Output.{Output}
use Rattle.gx_edit.specs.Written.{tree_with}
use Rattle.gx_edit.specs.declared.path_edit.PathEdit.{PathEdit}
use Rattle.gx_edit.specs.declared.path_edit.PathEdit.TheVariants as edit
use Rattle.gix.specs.declared.settings.Settings.{Settings}
use Rattle.gix.specs.declared.error.CommitEditsError.{CommitEditsError}
use Rattle.gix.specs.CommitRequest.{CommitRequest}
use Rattle.gix.specs.View.{View, State, whole}
use Rattle.gix.specs.Base.{IsMapOf, IsBaseTree, IsBase}
use Rattle.gix.specs.Trees.{Makes, brought}
use Rattle.gix.specs.LawsBelow.{LawsBelow, MapIsUnique}
use Rattle.gix.specs.CommitEdits.{written_objects}
use Rattle.gix.specs.NewCommit.{commit_text, commit_id}
use Rattle.gix.specs.Machine.{Accepts}
use Rattle.gix.specs.History.{Call, AddsCommit, AddsFirst, Left, CallStep, Premises, History, IsEmpty, ByParent, IsLine, line_map}
use Rattle.gix.proofs.Lists.{none_in, at_head, at_tail, all_before, all_both}
use Rattle.gix.proofs.OnceLemmas.{one_kind, one_map}
use Rattle.gix.proofs.NewMaps.{new_map}

-- ---- what stays found

abbrev IsKept : Content → Content → Type 0
IsKept old new = (id : ObjectId) (object : Kind × List ℕ) → lookup old id ≡ Some object → lookup new id ≡ Some object

of_some : {X : Type 0} (P : X → Type 0) (o : Option X) (x : X) → IfSome o P → o ≡ Some x → P x
of_some P o x h is = subst (λ o. IfSome o P) is h

kept : (found : FoundStays) (hash : HashKind) (objects : List (Kind × List ℕ)) (old new : Content) → AreApart hash old objects → Adds hash objects old new → IsKept old new
kept found hash objects old new apart adds id object is = of_some (λ object. lookup new id ≡ Some object) (lookup old id) object (found hash objects old new apart adds id) is

all_kept : (hash : HashKind) (objects : List (Kind × List ℕ)) (old new : Content) → IsKept old new → HoldsAll hash objects old → HoldsAll hash objects new
all_kept hash [] old new keeps h = tt
all_kept hash (object ∷ objects) old new keeps h = (keeps (id_of hash object) object h.0, all_kept hash objects old new keeps h.1)

map_kept : (hash : HashKind) (old new : Content) (id : ObjectId) (m : PathMap) → IsKept old new → IsMapOf hash old id m → IsMapOf hash new id m
map_kept hash old new id m keeps is =
    let rep = is.has_map.represents in
    record {
      tree = is.tree;
      has_tree = record { bytes = is.has_tree.bytes; text = is.has_tree.text; stored = keeps id (kind.Commit, is.has_tree.bytes) is.has_tree.stored; spelled = is.has_tree.spelled; named = is.has_tree.named };
      has_map = record {
        represents = record { directory = rep.directory; stands = rep.stands; is_root = rep.is_root; stored = all_kept hash (trees_of hash rep.directory) old new keeps rep.stored };
        ids = is.has_map.ids;
        own = is.has_map.own;
      };
    }

-- ---- the first of objects that are apart

own_before : (hash : HashKind) (xs ys : List (Kind × List ℕ)) → AreOfOwnIds hash (xs ++ ys) → AreOfOwnIds hash xs
own_before hash [] ys h = tt
own_before hash (x ∷ xs) ys h = (all_before (λ other. id_of hash other ≡ id_of hash x → other ≡ x) xs ys h.0, own_before hash xs ys h.1)

apart_before : (hash : HashKind) (content : Content) (xs ys : List (Kind × List ℕ)) → AreApart hash content (xs ++ ys) → AreApart hash content xs
apart_before hash content xs ys h = record {
  named = all_before _ xs ys h.named;
  own = own_before hash xs ys h.own;
  agreed = all_before _ xs ys h.agreed;
}

-- ---- commits that are new

old_or_new : {X : Type 0} (o p e : Option X) (x : X) → option_or (option_or o p) e ≡ Some x → (option_or o e ≡ Some x) ⊎ (p ≡ Some x)
old_or_new (Some y) p e x h = inl h
old_or_new None (Some y) e x h = inr h
old_or_new None None e x h = inl h

found_among : (hash : HashKind) (P : Kind × List ℕ → Type 0) (objects : List (Kind × List ℕ)) (id : ObjectId) (object : Kind × List ℕ) → AllByRecursion P objects → object_at hash objects id ≡ Some object → P object × (id_of hash object ≡ id)
found_among hash P [] id object all h = absurd (none h)
  where
    none : ◌≡◌ {A = Option (Kind × List ℕ)} None (Some object) → ⊥
    none e = cc
found_among hash P (o ∷ objects) id object all h = go (id_eq (id_of hash o) id) refl h (found_among hash P objects id object all.1)
  where
    one : (a b : Kind × List ℕ) → Some a ≡ Some b → a ≡ b
    one a b e = cc

    go : (t : Bool) → id_eq (id_of hash o) id ≡ t → cond t (Some o) (object_at hash objects id) ≡ Some object → (object_at hash objects id ≡ Some object → P object × (id_of hash object ≡ id)) → P object × (id_of hash object ≡ id)
    go true e is more = subst (λ x. P x × (id_of hash x ≡ id)) (one o object is) (all.0, same_id (id_of hash o) id e)
    go false e is more = more is

blob_is_none : ◌≡◌ {A = Kind} kind.Blob kind.Commit → ⊥
blob_is_none e = cc

tree_is_none : ◌≡◌ {A = Kind} kind.Tree kind.Commit → ⊥
tree_is_none e = cc

module _ (hash : HashKind) (r : CommitRequest) (output : Output) where
  -- a commit among what a request writes is its own
  abbrev IsOwnCommit : Kind × List ℕ → Type 0
  IsOwnCommit object = object.0 ≡ kind.Commit → id_of hash object ≡ commit_id hash r output

  abbrev IsNoCommit : Kind × List ℕ → Type 0
  IsNoCommit object = object.0 ≡ kind.Commit → ⊥

  blob_in : (one : PathEdit) → AllByRecursion IsNoCommit (blobs_in one)
  blob_in (edit.File path bytes executable) = (blob_is_none, tt)
  blob_in (edit.Link path bytes) = (blob_is_none, tt)
  blob_in (edit.Module path id) = tt
  blob_in (edit.Remove path) = tt

  no_blobs : (edits : List PathEdit) → AllByRecursion IsNoCommit (blobs_of edits)
  no_blobs [] = tt
  no_blobs (one ∷ edits) = all_both IsNoCommit (blobs_in one) (blobs_of edits) (blob_in one) (no_blobs edits)

  no_trees : (listed : List (List Entry)) → AllByRecursion IsNoCommit (map tree_with listed)
  no_trees [] = tt
  no_trees (rows ∷ listed) = (tree_is_none, no_trees listed)

  module _ (view : View) (m : Makes r view output) where
    none_brought : AllByRecursion IsNoCommit (brought r output)
    none_brought = all_both IsNoCommit (blobs_of r.edits) output.trees (no_blobs r.edits) (subst (AllByRecursion IsNoCommit) (sym m.written.trees) (no_trees m.written.listed))

    all_own : (xs : List (Kind × List ℕ)) → AllByRecursion IsNoCommit xs → AllByRecursion IsOwnCommit xs
    all_own [] h = tt
    all_own (x ∷ xs) h = ((λ e. absurd (h.0 e)), all_own xs h.1)

    own_written : AllByRecursion IsOwnCommit (written_objects r output)
    own_written = all_both IsOwnCommit (brought r output) ((kind.Commit, commit_text r output) ∷ []) (all_own (brought r output) none_brought) ((λ e. refl), tt)

module _ (hash : HashKind) (objects : List (Kind × List ℕ)) (old new : Content) (adds : Adds hash objects old new) (id : ObjectId) (bytes : List ℕ) (is : lookup new id ≡ Some (kind.Commit, bytes)) where
  else_tree : Option (Kind × List ℕ)
  else_tree = cond (id_eq id (empty_tree_id (kind_of id))) (Some (kind.Tree, [])) None

  -- a commit that is stored was stored, or is among the objects that were added
  was_or_added : (lookup old id ≡ Some (kind.Commit, bytes)) ⊎ (object_at hash objects id ≡ Some (kind.Commit, bytes))
  unfolding else_tree
  was_or_added = old_or_new (get old id) (object_at hash objects id) else_tree (kind.Commit, bytes) (sym (ap (λ o. option_or o else_tree) (adds id)) ∙ is)

-- ---- what is known of the calls so far

-- the base of a request, in a content
abbrev IsFrom : HashKind → Content → List ObjectId → PathMap → Type 0
IsFrom hash content [] base = base ≡ no_paths
IsFrom hash content (parent ∷ parents) base = IsMapOf hash content parent base

record IsMade (hash : HashKind) (content : Content) (r : CommitRequest) (id : ObjectId) : Type 0 where
  base : PathMap
  from : IsFrom hash content r.parents base
  is_map : IsMapOf hash content id (edited hash base r.edits)

record Known (hash : HashKind) (content : Content) (calls : List Call) : Type 0 where
  all : (id : ObjectId) (bytes : List ℕ) → lookup content id ≡ Some (kind.Commit, bytes) → (call : Call) × Contains calls call × (call.stored ≡ Some id)
  made : (call : Call) (id : ObjectId) → Contains calls call → call.stored ≡ Some id → IsMade hash content call.request id
  lines : (call : Call) (id : ObjectId) → Contains calls call → call.stored ≡ Some id → (line : List CommitRequest) × IsLine calls id (call.request ∷ line)

-- ---- lists

before_last : {X : Type 0} (xs : List X) (x y : X) → Contains xs y → Contains (xs ++ x ∷ []) y
before_last [] x y h = absurd (none_in y h)
before_last (z ∷ xs) x y (zero, less, is) = (0, omega arith, is)
before_last (z ∷ xs) x y (suc k, less, is) = at_tail z (xs ++ x ∷ []) y (before_last xs x y (k, omega (arith, less), is))

last_in : {X : Type 0} (xs : List X) (x : X) → Contains (xs ++ x ∷ []) x
last_in [] x = at_head x []
last_in (z ∷ xs) x = at_tail z (xs ++ x ∷ []) x (last_in xs x)

before_or_last : {X : Type 0} (xs : List X) (x y : X) → Contains (xs ++ x ∷ []) y → Contains xs y ⊎ (x ≡ y)
before_or_last [] x y (zero, less, is) = inr is
before_or_last [] x y (suc k, less, is) = absurd (omega (arith, less))
before_or_last (z ∷ xs) x y (zero, less, is) = inl (0, omega arith, is)
before_or_last (z ∷ xs) x y (suc k, less, is) = ⊎_elim (λ h. inl (at_tail z xs y h)) (λ e. inr e) (before_or_last xs x y (k, omega (arith, less), is))

-- ---- lines

by_parent : (parents : List ObjectId) (A B : Type 0) (P Q : ObjectId → Type 0) → (A → B) → ((parent : ObjectId) → P parent → Q parent) → ByParent parents A P → ByParent parents B Q
by_parent [] A B P Q f g h = f h
by_parent (parent ∷ parents) A B P Q f g h = g parent h

line_longer : (calls : List Call) (call : Call) (line : List CommitRequest) (id : ObjectId) → IsLine calls id line → IsLine (calls ++ call ∷ []) id line
line_longer calls call [] id h = h
line_longer calls call (r ∷ line) id h = (
  record { call = h.0.call; among = before_last calls call h.0.call h.0.among; requested = h.0.requested; left = h.0.left },
  by_parent r.parents (line ≡ []) (line ≡ []) (λ parent. IsLine calls parent line) (λ parent. IsLine (calls ++ call ∷ []) parent line) (λ e. e) (λ parent. line_longer calls call line parent) h.1,
)

-- ---- one call

from_kept : (hash : HashKind) (old new : Content) (parents : List ObjectId) (base : PathMap) → IsKept old new → IsFrom hash old parents base → IsFrom hash new parents base
from_kept hash old new [] base keeps h = h
from_kept hash old new (parent ∷ parents) base keeps h = map_kept hash old new parent base keeps h

is_base : (state : State) (parents : List ObjectId) (base : PathMap) → IsFrom state.hash state.content parents base → IsBase (whole state) parents base
is_base state [] base h = h
is_base state (parent ∷ parents) base h = h

-- the base of a request has a map, since each commit that is stored has one
base_known : (state : State) (calls : List Call) → Known state.hash state.content calls → (parents : List ObjectId) (entries : List Entry) → IsBaseTree (whole state) parents entries → (base : PathMap) × IsFrom state.hash state.content parents base
base_known state calls known [] entries is = (no_paths, refl)
base_known state calls known (parent ∷ parents) entries is =
    let one = known.all parent is.has_tree.bytes is.has_tree.stored in
    let m = known.made one.0 parent one.1 one.2 in
    (edited state.hash m.base one.0.request.edits, m.is_map)

-- what a call that left a commit says of it, over the content before
record MadeFrom (hash : HashKind) (old new : Content) (r : CommitRequest) (id : ObjectId) : Type 0 where
  base : PathMap
  from : IsFrom hash old r.parents base
  is_map : IsMapOf hash new id (edited hash base r.edits)

module _ (hash : HashKind) (old new : Content) (calls : List Call) (call : Call) (known : Known hash old calls) (keeps : IsKept old new) where
  abbrev more : List Call
  more = calls ++ call ∷ []

  made_kept : (r : CommitRequest) (id : ObjectId) → IsMade hash old r id → IsMade hash new r id
  made_kept r id m = record { base = m.base; from = from_kept hash old new r.parents m.base keeps m.from; is_map = map_kept hash old new id (edited hash m.base r.edits) keeps m.is_map }

  -- the line of a first parent is one of the calls before
  above : (parents : List ObjectId) (base : PathMap) → IsFrom hash old parents base → (line : List CommitRequest) × ByParent parents (line ≡ []) (λ parent. IsLine more parent line)
  above [] base h = ([], refl)
  above (parent ∷ parents) base h =
      let one = known.all parent h.has_tree.bytes h.has_tree.stored in
      let line = known.lines one.0 parent one.1 one.2 in
      (one.0.request ∷ line.0, line_longer calls call (one.0.request ∷ line.0) parent line.1)

  new_line : (id : ObjectId) → call.stored ≡ Some id → MadeFrom hash old new call.request id → (line : List CommitRequest) × IsLine more id (call.request ∷ line)
  new_line id left m =
      let up = above call.request.parents m.base m.from in
      (up.0, (record { call = call; among = last_in calls call; requested = refl; left = left }, up.1))

  known_after : ((id : ObjectId) (bytes : List ℕ) → lookup new id ≡ Some (kind.Commit, bytes) → (lookup old id ≡ Some (kind.Commit, bytes)) ⊎ (call.stored ≡ Some id))
      → ((id : ObjectId) → call.stored ≡ Some id → MadeFrom hash old new call.request id) → Known hash new more
  known_after back own = record {
    all = λ id bytes is. ⊎_elim
        (λ was. let one = known.all id bytes was in (one.0, before_last calls call one.0 one.1, one.2))
        (λ left. (call, last_in calls call, left))
        (back id bytes is);
    made = λ other id among left. ⊎_elim
        (λ before. made_kept other.request id (known.made other id before left))
        (λ is. subst (λ (c : Call). IsMade hash new c.request id) is (made_now id (ap (λ (c : Call). c.stored) is ∙ left)))
        (before_or_last calls call other among);
    lines = λ other id among left. ⊎_elim
        (λ before. let line = known.lines other id before left in (line.0, line_longer calls call (other.request ∷ line.0) id line.1))
        (λ is. let l : call.stored ≡ Some id = ap (λ (c : Call). c.stored) is ∙ left in
        subst (λ (c : Call). (line : List CommitRequest) × IsLine more id (c.request ∷ line)) is (new_line id l (own id l)))
        (before_or_last calls call other among);
  }
    where
      made_now : (id : ObjectId) → call.stored ≡ Some id → IsMade hash new call.request id
      made_now id left = let m = own id left in record { base = m.base; from = from_kept hash old new call.request.parents m.base keeps m.from; is_map = m.is_map }

-- ---- the cases of a call

module _ (laws : LawsBelow) (settings : Settings) (calls : List Call) (call : Call) (old new : State) (known : Known old.hash old.content calls) (premises : (output : Output) → Makes call.request (whole old) output → Premises call.request old output) where
  no_id : (o : Option ObjectId) (id : ObjectId) → o ≡ None → o ≡ Some id → ⊥
  no_id o id none some = let both : ◌≡◌ {A = Option ObjectId} None (Some id) = sym none ∙ some in cc

  after_commit : (id : ObjectId) → call.stored ≡ Some id → AddsCommit settings call.request old id new → Known old.hash new.content (calls ++ call ∷ [])
  after_commit id left a =
      let hash = old.hash in
      let r = call.request in
      let makes = a.admitted.objects.trees.makes in
      let p = premises a.output makes in
      let objects = written_objects r a.output in
      let base = base_known old calls known r.parents makes.edits.entries makes.edits.is_base in
      known_after hash old.content new.content calls call known (kept laws.found hash objects old.content new.content p.ids a.adds)
      (λ other bytes is. ⊎_elim (λ was. inl was)
      (λ added. inr (let found = found_among hash (IsOwnCommit hash r a.output) objects other (kind.Commit, bytes) (own_written hash r a.output (whole old) makes) added in
      left ∙ ap Some (a.is_id ∙ sym (found.0 refl) ∙ found.1)))
      (was_or_added hash objects old.content new.content a.adds other bytes is))
      (λ other is. record {
        base = base.0;
        from = base.1;
        is_map = subst (λ i. IsMapOf hash new.content i (edited hash base.0 r.edits)) (sym a.is_id ∙ same other is)
            (new_map laws settings r old a.output a.admitted.objects.trees a.admitted.objects.identities p new.content a.adds base.0 (is_base old r.parents base.0 base.1));
      })
    where
      one : (x y : ObjectId) → Some x ≡ Some y → x ≡ y
      one x y e = cc

      same : (other : ObjectId) → call.stored ≡ Some other → id ≡ other
      same other is = one id other (sym left ∙ is)

  after_first : call.stored ≡ None → AddsFirst settings call.request old new → Known old.hash new.content (calls ++ call ∷ [])
  after_first none a =
      let hash = old.hash in
      let r = call.request in
      let makes = a.admitted.objects.trees.makes in
      let p = premises a.output makes in
      let apart : AreApart hash old.content (brought r a.output) = apart_before hash old.content (brought r a.output) ((kind.Commit, commit_text r a.output) ∷ []) p.ids in
      let first_apart : AreApart hash old.content a.first = apart_before hash old.content a.first a.rest (subst (AreApart hash old.content) a.split apart) in
      let no_commit : AllByRecursion (IsNoCommit hash r a.output) a.first = all_before (IsNoCommit hash r a.output) a.first a.rest (subst (AllByRecursion (IsNoCommit hash r a.output)) a.split (none_brought hash r a.output (whole old) makes)) in
      known_after hash old.content new.content calls call known (kept laws.found hash a.first old.content new.content first_apart a.adds)
      (λ other bytes is. ⊎_elim (λ was. inl was)
      (λ added. absurd ((found_among hash (IsNoCommit hash r a.output) a.first other (kind.Commit, bytes) no_commit added).0 refl))
      (was_or_added hash a.first old.content new.content a.adds other bytes is))
      (λ other is. absurd (no_id call.stored other none is))

  after_nothing : call.stored ≡ None → new.content ≡ old.content → Known old.hash new.content (calls ++ call ∷ [])
  after_nothing none same =
      known_after old.hash old.content new.content calls call known
      (λ id object is. ap (λ (c : Content). lookup c id) same ∙ is)
      (λ id bytes is. inl (sym (ap (λ (c : Content). lookup c id) same) ∙ is))
      (λ id is. absurd (no_id call.stored id none is))

  accepted : (stored id : ObjectId) → stored ≡ id → Accepts settings call.request old id new → AddsCommit settings call.request old stored new
  accepted stored id same a = record { output = a.output; admitted = a.admitted; is_id = same ∙ a.is_id; adds = a.adds }

  after_left : (answer : Result ObjectId CommitEditsError) (stored : Option ObjectId) → call.stored ≡ stored → Left settings call.request old answer stored new → Known old.hash new.content (calls ++ call ∷ [])
  after_left (Ok id) (Some stored) is left = after_commit stored is (accepted stored id left.0 left.1)
  after_left (Ok id) None is left = absurd left
  after_left (Err refusal) (Some stored) is left = after_commit stored is left
  after_left (Err refusal) None is left = ⊎_elim (after_nothing is) (after_first is) left

  after_call : CallStep settings call old new → Known new.hash new.content (calls ++ call ∷ [])
  after_call step = subst (λ h. Known h new.content (calls ++ call ∷ [])) (sym step.hash) (after_left call.answer call.stored refl step.left)

-- ---- a history

nothing_known : (state : State) → IsEmpty state → Known state.hash state.content []
nothing_known state empty = record {
  all = λ id bytes is. absurd (tree_only (id_eq id (empty_tree_id (kind_of id))) bytes (sym (ap (λ found. option_or found (cond (id_eq id (empty_tree_id (kind_of id))) (Some (kind.Tree, [])) None)) (empty id)) ∙ is));
  made = λ call id among left. absurd (none_in call among);
  lines = λ call id among left. absurd (none_in call among);
}
  where
    tree_only : (t : Bool) (bytes : List ℕ) → cond {A = Option (Kind × List ℕ)} t (Some (kind.Tree, [])) None ≡ Some (kind.Commit, bytes) → ⊥
    tree_only true bytes e = tree_is_none (one_kind kind.Tree kind.Commit [] bytes e)
    tree_only false bytes e = cc

known_along : (laws : LawsBelow) (settings : Settings) (calls done : List Call) (start end : State) → Known start.hash start.content done → History settings start calls end → Known end.hash end.content (done ++ calls)
known_along laws settings [] done start end known h = subst (λ (s : State). Known s.hash s.content (done ++ [])) (sym h) (subst (Known start.hash start.content) (sym (append-nil done)) known)
known_along laws settings (call ∷ calls) done start end known h =
    subst (Known end.hash end.content) (append_assoc done (call ∷ []) calls)
    (known_along laws settings calls (done ++ call ∷ []) h.0 end (after_call laws settings done call start h.0 known h.1 h.2) h.3)

known_at_end : (laws : LawsBelow) (settings : Settings) (start end : State) (calls : List Call) → IsEmpty start → History settings start calls end → Known end.hash end.content calls
known_at_end laws settings start end calls empty h = known_along laws settings calls [] start end (nothing_known start empty) h

-- ---- the law

module _ (unique : MapIsUnique) (hash : HashKind) (content : Content) (calls : List Call) (known : Known hash content calls) where
  base_of_line : (parents : List ObjectId) (line : List CommitRequest) (base : PathMap) → IsFrom hash content parents base → ((parent : ObjectId) → IsLine calls parent line → IsMapOf hash content parent (line_map hash line))
      → ByParent parents (line ≡ []) (λ parent. IsLine calls parent line) → base ≡ line_map hash line
  base_of_line [] line base from same h = from ∙ ap (line_map hash) (sym h)
  base_of_line (parent ∷ parents) line base from same h = one_map hash content unique parent base (line_map hash line) from (same parent h)

  map_of_line : (line : List CommitRequest) (id : ObjectId) → IsLine calls id line → IsMapOf hash content id (line_map hash line)
  map_of_line [] id h = absurd h
  map_of_line (r ∷ line) id h =
      let m : IsMade hash content r id = subst (λ q. IsMade hash content q id) h.0.requested (known.made h.0.call id h.0.among h.0.left) in
      subst (λ base. IsMapOf hash content id (edited hash base r.edits)) (base_of_line r.parents line m.base m.from (λ parent. map_of_line line parent) h.1) m.is_map

module _ (laws : LawsBelow) (settings : Settings) (start end : State) (calls : List Call) (empty : IsEmpty start) (h : History settings start calls end) where
  pub each_line : (id : ObjectId) (line : List CommitRequest) → IsLine calls id line → IsMapOf end.hash end.content id (line_map end.hash line)
  each_line id line is = map_of_line laws.unique end.hash end.content calls (known_at_end laws settings start end calls empty h) line id is

  pub some_line : (call : Call) (id : ObjectId) → Contains calls call → call.stored ≡ Some id → (earlier : List CommitRequest) × IsLine calls id (call.request ∷ earlier)
  some_line call id among left = (known_at_end laws settings start end calls empty h).lines call id among left

  pub stored_line : (call : Call) (id : ObjectId) → Contains calls call → call.stored ≡ Some id
      → (earlier : List CommitRequest) × IsLine calls id (call.request ∷ earlier) × IsMapOf end.hash end.content id (line_map end.hash (call.request ∷ earlier))
  stored_line call id among left =
      let line = some_line call id among left in
      (line.0, line.1, each_line id (call.request ∷ line.0) line.1)

-- an accepted request left the commit that was answered
answered : (settings : Settings) (r : CommitRequest) (old new : State) (answer : Result ObjectId CommitEditsError) (stored : Option ObjectId) (id : ObjectId) → Left settings r old answer stored new → answer ≡ Ok id → stored ≡ Some id
answered settings r old new (Ok other) (Some stored) id left is = ap Some (left.0 ∙ one is)
  where
    one : ◌≡◌ {A = Result ObjectId CommitEditsError} (Ok other) (Ok id) → other ≡ id
    one e = cc
answered settings r old new (Ok other) None id left is = absurd left
answered settings r old new (Err refusal) stored id left is = absurd (none is)
  where
    none : ◌≡◌ {A = Result ObjectId CommitEditsError} (Err refusal) (Ok id) → ⊥
    none e = cc

accepted_stored : (settings : Settings) (calls : List Call) (start end : State) → History settings start calls end → (call : Call) (id : ObjectId) → Contains calls call → call.answer ≡ Ok id → call.stored ≡ Some id
accepted_stored settings [] start end h call id among is = absurd (none_in call among)
accepted_stored settings (one ∷ calls) start end h call id (zero, less, at) is =
    subst (λ (c : Call). c.answer ≡ Ok id → c.stored ≡ Some id) at (answered settings one.request start h.0 one.answer one.stored id h.2.left) is
accepted_stored settings (one ∷ calls) start end h call id (suc k, less, at) is = accepted_stored settings calls h.0 end h.3 call id (k, omega (arith, less), at) is

pub accepted_line : (laws : LawsBelow) (settings : Settings) (start end : State) (calls : List Call) → IsEmpty start → History settings start calls end → (call : Call) (id : ObjectId) → Contains calls call → call.answer ≡ Ok id
    → (earlier : List CommitRequest) × IsLine calls id (call.request ∷ earlier) × IsMapOf end.hash end.content id (line_map end.hash (call.request ∷ earlier))
accepted_line laws settings start end calls empty h call id among is = stored_line laws settings start end calls empty h call id among (accepted_stored settings calls start end h call id among is)
