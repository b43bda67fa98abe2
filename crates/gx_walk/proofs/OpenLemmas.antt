-- Trees that are opened, and their ids.
use Rattle.std.proofs.Common.{◌≡◌, ◌↔◌, ℕ, suc, zero, Bool, true, false, ◌||◌, ◌++◌, List, [], ◌∷◌, map, Option, Some, None, IfSome, IsTrue, Contains, refl, sym, ap, ◌∙◌, subst, arith, append_assoc, inl, inr, ◌⊎◌, ⊎_elim}
use Rattle.std.proofs.lemmas.List.Elements.{Contains-append_right, Contains-append_left, Contains-append_cases}
use Rattle.std.specs.List.{list_any}
use Rattle.gx_hash.specs.declared.kind.HashKind.{HashKind}
use Rattle.gx_hash.specs.declared.oid.ObjectId.{ObjectId}
use Rattle.gx_object.specs.declared.kind.Kind.TheVariants as kind
use Rattle.gx_object.specs.declared.tree.Entry.{Entry}
use Rattle.gx_object.specs.TreeSpelling.{SpellsTree}
use Rattle.gx_store.specs.Content.{Content, lookup}
use Rattle.gx_hash.specs.ObjectIds.{id_eq}
use Rattle.gx_hash.specs.Laws.{same_id, own_id}
use Rattle.gx_walk.specs.OpenTree.{above_of}
use Rattle.gx_walk.specs.declared.tree.open_tree.OpenTree.{OpenTree}

pub misspelt : (told : Option Content) (hash : HashKind) (id : ObjectId) (bytes text : List ℕ) → text ≡ bytes → IfSome told (λ content. lookup content id ≡ Some (kind.Tree, bytes)) → ((entries : List Entry) → ¬ SpellsTree hash text entries)
    → IfSome told (λ content. (bytes : List ℕ) × (lookup content id ≡ Some (kind.Tree, bytes)) × ((entries : List Entry) → ¬ SpellsTree hash bytes entries))
misspelt None hash id bytes text same found bad = tt
misspelt (Some content) hash id bytes text same found bad = (bytes, found, subst (λ (b : List ℕ). (entries : List Entry) → ¬ SpellsTree hash b entries) same bad)

head : {A : Type 0} (x : A) (xs : List A) → Contains (x ∷ xs) x
head x xs = (0, omega arith, refl)

tail : {A : Type 0} (x y : A) (xs : List A) → Contains xs y → Contains (x ∷ xs) y
tail x y xs h = Contains-append_right (x ∷ []) xs y h

-- an element of a list with one in front
front_or : {A : Type 0} (x y : A) (xs : List A) → Contains (x ∷ xs) y → (x ≡ y) ⊎ Contains xs y
front_or x y xs (zero, less, is) = inl is
front_or x y xs (suc i, less, is) = inr (i, omega (arith, less), is)

abbrev ids_of : List OpenTree → List ObjectId
ids_of levels = map (λ (t : OpenTree). t.id) levels

pub above_is : (front : List ObjectId) (levels : List OpenTree) (t : OpenTree) → above_of front levels t ≡ front ++ (ids_of levels ++ t.id ∷ [])
above_is front [] t = refl
above_is front (l ∷ ls) t = above_is (front ++ l.id ∷ []) ls t ∙ append_assoc front (l.id ∷ []) (ids_of ls ++ t.id ∷ [])

pub id_among : (ids : List ObjectId) (id : ObjectId) → list_any (λ i. id_eq i id) ids ≡ true → Contains ids id
id_among [] id h = cc
id_among (x ∷ ids) id h = go (id_eq x id) refl h (id_among ids id)
  where
    go : (b : Bool) → id_eq x id ≡ b → (b || list_any (λ i. id_eq i id) ids) ≡ true → (list_any (λ i. id_eq i id) ids ≡ true → Contains ids id) → Contains (x ∷ ids) id
    go true e h more = subst (Contains (x ∷ ids)) (same_id x id e) (head x ids)
    go false e h more = tail x id ids (more h)

pub id_found : (ids : List ObjectId) (id : ObjectId) → Contains ids id → list_any (λ i. id_eq i id) ids ≡ true
id_found [] id (i, less, is) = absurd (omega (arith, less))
id_found (x ∷ ids) id h = ⊎_elim (λ same. ap (λ b. b || list_any (λ i. id_eq i id) ids) (ap (λ (i : ObjectId). id_eq i id) same ∙ own_id id)) (λ later. either (id_eq x id) (list_any (λ i. id_eq i id) ids) (id_found ids id later)) (front_or x id ids h)
  where
    either : (a b : Bool) → b ≡ true → (a || b) ≡ true
    either true b h = refl
    either false b h = h
