-- Directories as they are loaded.
use Rattle.std.proofs.Common.{◌≡◌, ◌↔◌, inl, inr, ◌∙◌, sym, ap, refl, subst, cond, List, ℕ, Bool, true, false, true≢false, IsTrue, Option, Some, None, IfSome}
use Rattle.std.specs.FinMap as fin
use Rattle.std.specs.FinMap.{FinMap, get-empty}
use Rattle.gx_hash.specs.declared.kind.HashKind.{HashKind}
use Rattle.gx_hash.specs.declared.oid.ObjectId.{ObjectId}
use Rattle.gx_hash.specs.HashKind.{kind_of}
use Rattle.gx_hash.specs.ObjectId.{null_id}
use Rattle.gx_hash.specs.ObjectIds.{id_eq}
use Rattle.gx_hash.specs.Laws.{same_id, own_id}
use Rattle.gx_rules.specs.Name.{name_cmp}
use Rattle.gx_object.specs.declared.kind.Kind.TheVariants as kind
use Rattle.gx_object.specs.declared.tree.Entry.{Entry}
use Rattle.gx_object.specs.Mode.{is_tree_mode}
use Rattle.gx_object.specs.TreeSpelling.{SpellsTree}
use Rattle.gx_store.specs.Content.{Content, lookup}
use Rattle.gx_store.specs.State.{StoreState}
use Rattle.gx_edit.specs.StoredTree.{HasEntries, TellsEntries}
use Rattle.gx_edit.specs.View.{Names, IsLoad, WhereLoaded, names_of, names_for, is_null}
use Rattle.gx_edit.specs.OpenTree.{LoadCauses, OpenCauses}
use Rattle.std.specs.Prelude.{Result, Ok, Err, IfOk}
use Rattle.gx_edit.specs.declared.editor.nodes.Node.{Node}
use Rattle.gx_edit.specs.Nodes.{Place, place_of, tree_in, IsLoaded, IsNotLoaded, LoadRefused}
use Rattle.gx_edit.specs.declared.editor.item.Item.{Item}
use Rattle.gx_edit.specs.declared.error.EditError.{EditError}
use Rattle.gx_edit.specs.declared.error.EditError.TheVariants as edit_error

one : {X : Type 0} (a b : X) → ◌≡◌ {A = Option X} (Some a) (Some b) → a ≡ b
one a b e = cc

pub told_map : {P Q : Content → Type 0} (told : Option Content) → ((content : Content) → P content → Q content) → IfSome told P → IfSome told Q
told_map None f h = tt
told_map (Some content) f h = f content h

-- what keeps a tree from being loaded keeps it from being opened
pub not_opened : (state : StoreState) (id : ObjectId) (error : EditError) → LoadCauses state id error → OpenCauses state id error
not_opened state id edit_error.NoMemory h = tt
not_opened state id (edit_error.Store fault) h = h
not_opened state id (edit_error.FindExistingObject named) h = h
not_opened state id (edit_error.ObjectKind named actual) h = h
not_opened state id (edit_error.Decode named) h = (h.0, told_map state.content (λ content bad. (bad.0, bad.1, inl (λ entries s. bad.2 entries s.spelled))) h.1)
not_opened state id error h = absurd h

pub null_test : (id : ObjectId) (b : Bool) → (IsTrue b ↔ (id ≡ null_id (kind_of id))) → is_null id ≡ b
null_test id true h = ap (id_eq id) (sym (h.0 refl)) ∙ own_id id
null_test id false h = go (is_null id) refl
  where
    go : (t : Bool) → is_null id ≡ t → is_null id ≡ false
    go true e = absurd (true≢false (sym (h.1 (same_id id (null_id (kind_of id)) e))))
    go false e = e

-- the tree of a directory's item
pub record IsTreeOf (item : Option Item) (id : ObjectId) : Type 0 where
  pub tree : Item
  pub there : item ≡ Some tree
  pub is_tree : is_tree_mode tree.mode.value ≡ true
  pub known : is_null tree.id ≡ false
  pub is_id : tree.id ≡ id

pub tree_of : (item : Option Item) (id : ObjectId) → tree_in item ≡ Some id → IsTreeOf item id
tree_of None id e = cc
tree_of (Some tree) id e = go (is_tree_mode tree.mode.value) refl (is_null tree.id) refl e
  where
    go : (t : Bool) → is_tree_mode tree.mode.value ≡ t → (u : Bool) → is_null tree.id ≡ u → cond t (cond u None (Some tree.id)) None ≡ Some id → IsTreeOf (Some tree) id
    go false m u n e = cc
    go true m true n e = cc
    go true m false n e = record { tree = tree; there = refl; is_tree = m; known = n; is_id = one tree.id id e }

pub names_of_tree : (hash : HashKind) (load : ObjectId → Names) (item : Option Item) (id : ObjectId) → tree_in item ≡ Some id → names_for hash load item ≡ load id
names_of_tree hash load None id e = cc
names_of_tree hash load (Some tree) id e = go (is_tree_mode tree.mode.value) (is_null tree.id) e
  where
    go : (t u : Bool) → cond t (cond u None (Some tree.id)) None ≡ Some id → cond t (cond u fin.empty (load tree.id)) fin.empty ≡ load id
    go false u e = cc
    go true true e = cc
    go true false e = ap load (one tree.id id e)

pub names_of_none : (hash : HashKind) (load : ObjectId → Names) (item : Option Item) → tree_in item ≡ None → names_for hash load item ≡ fin.empty
names_of_none hash load None e = refl
names_of_none hash load (Some tree) e = go (is_tree_mode tree.mode.value) (is_null tree.id) e
  where
    go : (t u : Bool) → cond t (cond u None (Some tree.id)) None ≡ None → cond t (cond u fin.empty (load tree.id)) fin.empty ≡ fin.empty
    go false u e = refl
    go true true e = refl
    go true false e = cc

empty_inside : (p : Place) → p.inner ≡ fin.empty → (n : List ℕ) → fin.get p.inner n ≡ None
empty_inside p none n = ap (λ (m : FinMap name_cmp ℕ). fin.get m n) none ∙ get-empty name_cmp n

pub loaded_tree : (state : StoreState) (item : Option Item) (id : ObjectId) (p : Place) → tree_in item ≡ Some id → p.inner ≡ fin.empty → WhereLoaded state (λ load. p.names ≡ load id) → IsLoaded state item p
loaded_tree state item id p tree none names = record {
  none_inside = empty_inside p none;
  names = told_map state.content (λ content h load is. h load is ∙ sym (names_of_tree state.hash load item id tree)) names;
}

pub loaded_none : (state : StoreState) (item : Option Item) (p : Place) → tree_in item ≡ None → p ≡ record { names = fin.empty; inner = fin.empty } → IsLoaded state item p
loaded_none state item p none is = record {
  none_inside = empty_inside p (ap (λ (x : Place). x.inner) is);
  names = go state.content;
}
  where
    go : (told : Option Content) → IfSome told (λ content. (load : ObjectId → Names) → IsLoad state.hash content load → p.names ≡ names_for state.hash load item)
    go None = tt
    go (Some content) = λ load l. ap (λ (x : Place). x.names) is ∙ sym (names_of_none state.hash load item none)

pub not_loaded : (state : StoreState) (item : Option Item) (id : ObjectId) (error : EditError) → tree_in item ≡ Some id → LoadCauses state id error → IsNotLoaded state item error
not_loaded state item id error tree h =
    let t = tree_of item id tree in
    record { tree = t.tree; there = t.there; is_tree = t.is_tree; known = t.known; why = subst (λ (x : ObjectId). LoadCauses state x error) (sym t.is_id) h }

pub misspelt : (state : StoreState) (hash : HashKind) (id : ObjectId) (bytes : List ℕ) → hash ≡ state.hash → IfSome state.content (λ content. lookup content id ≡ Some (kind.Tree, bytes)) → ((entries : List Entry) → ¬ SpellsTree hash bytes entries) → LoadCauses state id (edit_error.Decode id)
misspelt state hash id bytes same stored never = (refl, told_map state.content (λ content there. (bytes, there, subst (λ h. (entries : List Entry) → ¬ SpellsTree h bytes entries) same never)) stored)

pub refused_item : (state : StoreState) (item there : Option Item) (error : EditError) → item ≡ there → IsNotLoaded state item error → LoadRefused state there error
refused_item state item there error is h = inr (subst (λ (o : Option Item). IsNotLoaded state o error) is h)

pub loaded_result : (state : StoreState) (item : Option Item) (id : ObjectId) (r : Result Node EditError) → tree_in item ≡ Some id → IfOk r (λ node. (place_of node).inner ≡ fin.empty) → IfOk r (λ node. WhereLoaded state (λ load. (place_of node).names ≡ load id)) → IfOk r (λ node. IsLoaded state item (place_of node))
loaded_result state item id (Ok node) tree none names = loaded_tree state item id (place_of node) tree none names
loaded_result state item id (Err error) tree none names = tt
