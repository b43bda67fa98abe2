-- Planned trees stored one by one.
use Rattle.std.proofs.Common.{◌≡◌, ◌∙◌, ◌<◌, ◌+◌, suc, zero, sym, ap, refl, subst, List, [], ◌∷◌, ◌++◌, ℕ, length, take, get_or, Option, Some, None, arith}
use Rattle.std.specs.Prelude.{option_map}
use Rattle.std.proofs.lemmas.List.{take_more, map-append}
use Rattle.std.proofs.lemmas.List.Elements.{All-from_recursion}
use Rattle.gx_hash.specs.declared.kind.HashKind.{HashKind}
use Rattle.gx_object.specs.declared.kind.Kind.{Kind}
use Rattle.gx_object.specs.declared.kind.Kind.TheVariants as object_kind
use Rattle.gx_store.specs.Content.{Content, id_of, with_object, with_objects}
use Rattle.gx_store.specs.State.{StoreState, Becomes, all_stored, stored}
use Rattle.gx_store.specs.Laws.{StoredAfter}
use Rattle.gx_edit.specs.Planning.{ArePlanned, objects_of}
use Rattle.gx_edit.specs.declared.output.PlannedTree.{PlannedTree}

pub id_planned : (trees : List PlannedTree) (i : ℕ) (tree : PlannedTree) (bytes : List ℕ) (s t : StoreState) → ArePlanned s.hash trees → Becomes (all_stored (take i (objects_of trees)) s) t
    → i < length trees → tree ≡ get_or trees i tree → bytes ≡ tree.bytes → tree.id ≡ id_of t.hash (object_kind.Tree, bytes)
id_planned trees i tree bytes s t all before within is same =
    subst (λ (x : PlannedTree). x.id ≡ id_of s.hash (object_kind.Tree, x.bytes)) (sym is) (All-from_recursion (λ (x : PlannedTree). x.id ≡ id_of s.hash (object_kind.Tree, x.bytes)) trees all i tree within)
    ∙ ap (λ h. id_of h (object_kind.Tree, tree.bytes)) (sym (ap (λ (u : StoreState). u.hash) before.same)) ∙ ap (λ b. id_of t.hash (object_kind.Tree, b)) (sym same)

take_objects : (trees : List PlannedTree) (i : ℕ) → take i (objects_of trees) ≡ objects_of (take i trees)
take_objects [] zero = refl
take_objects [] (suc i) = refl
take_objects (t ∷ trees) zero = refl
take_objects (t ∷ trees) (suc i) = ap (λ l. (object_kind.Tree, t.bytes) ∷ l) (take_objects trees i)

-- what is written after other objects
objects_then : (hash : HashKind) (first second : List (Kind × List ℕ)) (content : Content) → with_objects hash (first ++ second) content ≡ with_objects hash second (with_objects hash first content)
objects_then hash [] second content = refl
objects_then hash (o ∷ first) second content = objects_then hash first second (with_object (id_of hash o) o content)

told_then : (hash : HashKind) (first second : List (Kind × List ℕ)) (content : Option Content) → option_map (with_objects hash (first ++ second)) content ≡ option_map (with_objects hash second) (option_map (with_objects hash first) content)
told_then hash first second None = refl
told_then hash first second (Some content) = ap Some (objects_then hash first second content)

-- from what became the state with the first ones, storing goes on as from that state
goes_on : StoredAfter → (first second : List (Kind × List ℕ)) (s t u : StoreState) → Becomes (all_stored first s) t → Becomes (all_stored second t) u → Becomes (all_stored (first ++ second) s) u
goes_on law first second s t u before after =
    let later = law second (all_stored first s) t u before after in record {
      same = later.same ∙ ap (λ content. record s { content = content; faults = u.faults }) (sym (told_then s.hash first second s.content));
      later = later.later;
    }

-- one tree more is stored
pub tree_more : StoredAfter → (trees : List PlannedTree) (i : ℕ) (tree : PlannedTree) (bytes : List ℕ) (s t u : StoreState) → ArePlanned s.hash trees → i < length trees → tree ≡ get_or trees i tree → bytes ≡ tree.bytes
    → Becomes (all_stored (take i (objects_of trees)) s) t → Becomes (stored tree.id (object_kind.Tree, bytes) t) u → Becomes (all_stored (take (i + 1) (objects_of trees)) s) u
tree_more law trees i tree bytes s t u all within is same before after =
    let object : Kind × List ℕ = (object_kind.Tree, tree.bytes) in
    let next : take (i + 1) (objects_of trees) ≡ take i (objects_of trees) ++ object ∷ [] =
    take_objects trees (i + 1) ∙ ap objects_of (take_more trees i tree within ∙ ap (λ x. take i trees ++ x ∷ []) (sym is))
    ∙ map-append (λ (x : PlannedTree). (object_kind.Tree, x.bytes)) (take i trees) (tree ∷ []) ∙ ap (λ l. l ++ object ∷ []) (sym (take_objects trees i)) in
    let one : Becomes (all_stored (object ∷ []) t) u =
    subst (λ b. Becomes (all_stored ((object_kind.Tree, b) ∷ []) t) u) same (subst (λ x. Becomes (stored x (object_kind.Tree, bytes) t) u) (id_planned trees i tree bytes s t all before within is same) after) in
    subst (λ l. Becomes (all_stored l s) u) (sym next) (goes_on law (take i (objects_of trees)) (object ∷ []) s t u before one)

pub none_stored : (s : StoreState) → Becomes (all_stored [] s) s
none_stored s = record { same = ap (λ c. record s { content = c }) (go s.content); later = omega arith }
  where
    go : (c : Option Content) → c ≡ option_map (with_objects s.hash []) c
    go None = refl
    go (Some c) = refl

take_all : {X : Type 0} (xs : List X) → take (length xs) xs ≡ xs
take_all [] = refl
take_all (x ∷ xs) = ap (λ l. x ∷ l) (take_all xs)
