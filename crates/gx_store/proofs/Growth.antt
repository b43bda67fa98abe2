-- How states go on as objects are stored.
use Rattle.std.proofs.Common.{◌≡◌, ◌∙◌, ◌<◌, ◌+◌, sym, ap, refl, subst, List, [], ◌∷◌, ◌++◌, ℕ, length, take, get_or, Option, Some, None, option_map}
use Rattle.std.proofs.lemmas.List.{take_more}
use Rattle.gx_hash.specs.declared.kind.HashKind.{HashKind}
use Rattle.gx_object.specs.declared.kind.Kind.{Kind}
use Rattle.gx_store.specs.Content.{Content, with_object, with_objects, id_of}
use Rattle.gx_store.specs.State.{StoreState, Becomes, HasCause, OfFault, all_stored}
use Rattle.gx_store.specs.declared.error.StoreError.{StoreError}
use Rattle.gx_store.specs.declared.error.StoreError.TheVariants.{NoMemory, Fault}
use Rattle.gx_store.proofs.Becoming.{stored_after, cause_after}

-- what is written after other objects
pub objects_then : (hash : HashKind) (first second : List (Kind × List ℕ)) (content : Content) → with_objects hash (first ++ second) content ≡ with_objects hash second (with_objects hash first content)
objects_then hash [] second content = refl
objects_then hash (o ∷ first) second content = objects_then hash first second (with_object (id_of hash o) o content)

told_then : (hash : HashKind) (first second : List (Kind × List ℕ)) (content : Option Content) → option_map (with_objects hash (first ++ second)) content ≡ option_map (with_objects hash second) (option_map (with_objects hash first) content)
told_then hash first second None = refl
told_then hash first second (Some content) = ap Some (objects_then hash first second content)

-- from what became w, storing goes on as from w
pub goes_on : (first second : List (Kind × List ℕ)) (s t u : StoreState) → Becomes (all_stored first s) t → Becomes (all_stored second t) u → Becomes (all_stored (first ++ second) s) u
goes_on first second s t u before after =
    let later = stored_after second (all_stored first s) t u before after in record {
      same = later.same ∙ ap (λ content. record s { content = content; faults = u.faults }) (sym (told_then s.hash first second s.content));
      later = later.later;
    }

-- one more object is stored
pub one_more : (objects : List (Kind × List ℕ)) (i : ℕ) (object : Kind × List ℕ) (s t u : StoreState) → i < length objects → object ≡ get_or objects i object
    → Becomes (all_stored (take i objects) s) t → Becomes (all_stored (object ∷ []) t) u → Becomes (all_stored (take (i + 1) objects) s) u
one_more objects i object s t u h there before after =
    let P : List (Kind × List ℕ) → Type 0 = λ xs. Becomes (all_stored xs s) u in
    subst P (sym (take_more objects i object h ∙ ap (λ x. take i objects ++ x ∷ []) (sym there))) (goes_on (take i objects) (object ∷ []) s t u before after)

-- a fault after objects were stored
pub fault_before : (objects : List (Kind × List ℕ)) (s t u : StoreState) (e : StoreError) → Becomes (all_stored objects s) t → OfFault e (HasCause t u) → OfFault e (HasCause s u)
fault_before objects s t u NoMemory b h = tt
fault_before objects s t u (Fault fault) b h = cause_after (all_stored objects s) t u fault b h
