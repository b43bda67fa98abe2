-- A listing of references goes by those of its namespace alone.
use Rattle.std.proofs.Common.{◌≡◌, ◌∙◌, sym, ap, refl, subst, ℕ, List, [], ◌∷◌, ◌++◌, Some, is_some, Contains, inl, inr}
use Rattle.std.specs.FinMap.{get}
use Rattle.std.specs.List.{AllByRecursion}
use Rattle.gx_rules.specs.Name.{IsFullName}
use Rattle.gx_store.specs.State.{RefState}
use Rattle.gx_store.specs.declared.target.Target.{Target}
use Rattle.gx_store.specs.declared.target.Target.TheVariants as target
use Rattle.gx_refs.specs.EditLaws.{ListsItsOwn}
use Rattle.gx_refs.specs.Finding.{IsReference}
use Rattle.gx_refs.specs.Shown.{stored_name, IsShown, IsShownTarget}
use Rattle.gx_refs.specs.declared.reference.Reference.{Reference}
use Rattle.gix.specs.ListingLaws.{ListsItsOwnReferences}
use Rattle.gix.specs.References.{names_of}
use Rattle.gix.proofs.Lists.{at_head, at_tail}

rest_same : (space a b : List ℕ) → space ++ a ≡ space ++ b → a ≡ b
rest_same [] a b e = e
rest_same (x ∷ space) a b e = let rest : space ++ a ≡ space ++ b = cc in rest_same space a b rest

shown_same : (space stored a b : List ℕ) → IsShown space stored a → IsShown space stored b → a ≡ b
shown_same space stored a b (inl v) (inl w) = rest_same space a b (sym v.0 ∙ w.0)
shown_same space stored a b (inl v) (inr w) = absurd (w.1 a v)
shown_same space stored a b (inr v) (inl w) = absurd (v.1 b w)
shown_same space stored a b (inr v) (inr w) = v.0 ∙ sym w.0

target_same : (space : List ℕ) (stored a b : Target) → IsShownTarget space stored a → IsShownTarget space stored b → a ≡ b
target_same space (target.Object id) a b v w = v ∙ sym w
target_same space (target.Symbolic name) a b v w = v.2 ∙ ap target.Symbolic (shown_same space name v.0 w.0 v.1 w.1) ∙ sym w.2

some_same : (a b : Target) → Some a ≡ Some b → a ≡ b
some_same a b e = cc

-- at one name there is one reference
reference_same : (space name : List ℕ) (one other : RefState) (a b : Reference) → get one.targets (stored_name space name) ≡ get other.targets (stored_name space name) → IsReference space (Some one) name a → IsReference space (Some other) name b → a ≡ b
reference_same space name one other a b same v w =
    let stored = some_same v.stored w.stored (sym v.there ∙ same ∙ w.there) in
    let shown = target_same space v.stored a.target b.target v.shown (subst (λ t. IsShownTarget space t b.target) (sym stored) w.shown) in
    λ i. record { name = (v.named ∙ sym w.named) i; target = shown i; peeled = (v.unpeeled ∙ sym w.unpeeled) i }

all_full : (list : List Reference) → ((name : List ℕ) → Contains (names_of list) name → IsFullName name) → AllByRecursion (λ (reference : Reference). IsFullName reference.name) list
all_full [] f = tt
all_full (x ∷ list) f = (f x.name (at_head x.name (names_of list)), all_full list (λ name at. f name (at_tail x.name (names_of list) name at)))

list_same : (space : List ℕ) (one other : RefState) (same : (name : List ℕ) → IsFullName name → get one.targets (stored_name space name) ≡ get other.targets (stored_name space name)) (list others : List Reference) → names_of list ≡ names_of others → AllByRecursion (λ (reference : Reference). IsFullName reference.name) list → AllByRecursion (λ (reference : Reference). IsReference space (Some one) reference.name reference) list → AllByRecursion (λ (reference : Reference). IsReference space (Some other) reference.name reference) others → list ≡ others
list_same space one other same [] [] e full v w = refl
list_same space one other same [] (y ∷ others) e full v w = cc
list_same space one other same (x ∷ list) [] e full v w = cc
list_same space one other same (x ∷ list) (y ∷ others) e full v w =
    let head : x.name ≡ y.name = cc in
    let rest : names_of list ≡ names_of others = cc in
    ap (λ z. z ∷ list) (reference_same space x.name one other x y (same x.name full.0) v.0 (subst (λ n. IsReference space (Some other) n y) (sym head) w.0))
    ∙ ap (λ zs. y ∷ zs) (list_same space one other same list others rest full.1 v.1 w.1)

pub own_references : ListsItsOwn → ListsItsOwnReferences
own_references own space prefix one other list others same a b =
    list_same space one other same list others
    (own space prefix one.targets other.targets (names_of list) (names_of others) (λ name full. ap is_some (same name full)) a.names b.names)
    (all_full list (λ name at. ((a.names.each name).0 at).full)) a.each b.each
