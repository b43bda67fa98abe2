-- How a store goes on as objects are written to it.
use Rattle.std.proofs.Common.{◌≡◌, ◌∙◌, ◌≤◌, sym, ap, refl, subst, List, [], ◌∷◌, ◌++◌, ℕ, arith, Option, Some, None}
use Rattle.std.specs.Prelude.{option_map}
use Rattle.gx_hash.specs.declared.kind.HashKind.{HashKind}
use Rattle.gx_object.specs.declared.kind.Kind.{Kind}
use Rattle.gx_store.specs.Content.{Content, with_objects, with_object, id_of}
use Rattle.gx_store.specs.State.{StoreState, Becomes, all_stored}
use Rattle.gx_store.specs.Faults.{Rose}

-- one change of a state after another
pub becomes_then : (w s t : StoreState) → Becomes w s → Becomes s t → Becomes w t
becomes_then w s t before after = record {
  same = after.same ∙ ap {A = StoreState} {B = StoreState} (λ u. record u { faults = t.faults }) before.same;
  later = omega (arith, before.later, after.later);
}

pub becomes_itself : (s : StoreState) → Becomes s s
becomes_itself s = record { same = refl; later = omega arith }

with_objects-append : (hash : HashKind) (xs ys : List (Kind × List ℕ)) (c : Content) → with_objects hash (xs ++ ys) c ≡ with_objects hash ys (with_objects hash xs c)
with_objects-append hash [] ys c = refl
with_objects-append hash (x ∷ xs) ys c = with_objects-append hash xs ys (with_object (id_of hash x) x c)

option_map-then : (f g h : Content → Content) → ((c : Content) → h c ≡ g (f c)) → (o : Option Content) → option_map h o ≡ option_map g (option_map f o)
option_map-then f g h e None = refl
option_map-then f g h e (Some c) = ap Some (e c)

pub all_stored-append : (xs ys : List (Kind × List ℕ)) (s : StoreState) → all_stored (xs ++ ys) s ≡ all_stored ys (all_stored xs s)
all_stored-append xs ys s = ap {A = Option Content} {B = StoreState} (λ c. record s { content = c })
    (option_map-then (with_objects s.hash xs) (with_objects s.hash ys) (with_objects s.hash (xs ++ ys)) (with_objects-append s.hash xs ys) s.content)

-- more objects are written to what some were written to
pub stores_more : (xs ys : List (Kind × List ℕ)) (s t u : StoreState) → Becomes (all_stored xs s) t → Becomes (all_stored ys t) u → Becomes (all_stored (xs ++ ys) s) u
stores_more xs ys s t u before after = subst (λ w. Becomes w u) (sym (all_stored-append xs ys s)) (record {
  same = after.same ∙ ap {A = StoreState} {B = StoreState} (λ v. record (all_stored ys v) { faults = u.faults }) before.same;
  later = omega (arith, before.later, after.later);
})

-- a count that rose since the writing rose since before it
pub rose_since : (a b c : ℕ) → a ≤ b → Rose b c → Rose a c
rose_since a b c p q = omega arith
