-- What is stored and what changes make, look-up by look-up.
use Rattle.std.proofs.Common.{◌≡◌, ◌≢◌, ◌∙◌, sym, ap, refl, subst, Bool, true, false, cond, List, [], ◌∷◌, ◌++◌, ℕ, Option, Some, None, is_some, IfSome, IsTrue}
use Rattle.std.specs.Option.{option_or}
use Rattle.std.specs.Prelude.{option_map}
use Rattle.std.specs.Ordering.{eq_by_cmp}
use Rattle.std.specs.Cmp.{eq_by_cmp_equiv}
use Rattle.std.specs.Cmp.Lexicographic.{nat_list_cmp_total}
use Rattle.std.specs.List.{AllByRecursion}
use Rattle.std.specs.FinMap.{FinMap, get, insert, contains_key, get-insert}
use Rattle.gx_hash.specs.ObjectId.{id_cmp}
use Rattle.gx_hash.specs.declared.kind.HashKind.{HashKind}
use Rattle.gx_hash.specs.declared.oid.ObjectId.{ObjectId}
use Rattle.gx_hash.specs.Laws.{id_cmp_total, id_eq-id_cmp as ids_tied, same_id, own_id}
use Rattle.gx_object.specs.declared.kind.Kind.{Kind}
use Rattle.gx_rules.specs.Name.{name_cmp}
use Rattle.gx_hash.specs.ObjectIds.{id_eq}
use Rattle.gx_store.specs.Content.{Content, lookup, id_of, with_object, object_at, AreOfOwnIds}
use Rattle.gx_store.specs.State.{RefState, stored}
use Rattle.gx_store.specs.Change.{target_after, log_after}
use Rattle.gx_store.specs.Slots.{with_at, with_change}
use Rattle.gx_store.specs.declared.change.RefChange.{RefChange}
use Rattle.gx_store.specs.Laws.{WritesOnce, WritingAdds, AddsTogether, AddedIsFound, FoundStays, StoredStays, OthersAreKept, EachIsMade}
use Rattle.gx_store.proofs.MapLemmas.{exact_names}
use Rattle.gx_store.proofs.SlotLemmas.{tied, get_with_at, with_target-at, with_log-at}

all_with : {X : Type 0} {P Q R : X → Type 0} → ((x : X) → P x → Q x → R x) → (xs : List X) → AllByRecursion P xs → AllByRecursion Q xs → AllByRecursion R xs
all_with f [] p q = tt
all_with f (x ∷ xs) p q = (f x p.0 q.0, all_with f xs p.1 q.1)

-- ---- one object

once : (object : Kind × List ℕ) (content : Content) (id : ObjectId) (b : Bool) → b ≡ true → cond b content (insert content id object) ≡ content
once object content id true e = refl
once object content id false e = cc

pub writes_once : WritesOnce
writes_once id object state h = go state.content h refl
  where
    go : (told : Option Content) → IfSome told (λ content. IsTrue (contains_key content id)) → state.content ≡ told → stored id object state ≡ state
    go None k e = ap (λ c. record state { content = c }) (ap (λ t. option_map (with_object id object) t) e ∙ sym e)
    go (Some content) k e = ap (λ c. record state { content = c }) (ap (λ t. option_map (with_object id object) t) e ∙ ap Some (once object content id _ k) ∙ sym e)

added_at : {X : Type 0} (b t : Bool) (o : Option X) (v : X) → (t ≡ true → is_some o ≡ b) → cond b o (cond t (Some v) o) ≡ option_or o (cond t (Some v) None)
added_at true true None v h = let e : false ≡ true = h refl in cc
added_at false true None v h = refl
added_at true true (Some x) v h = refl
added_at false true (Some x) v h = let e : true ≡ false = h refl in cc
added_at true false None v h = refl
added_at false false None v h = refl
added_at true false (Some x) v h = refl
added_at false false (Some x) v h = refl

get_with_object : (id : ObjectId) (object : Kind × List ℕ) (content : Content) (q : ObjectId) → get (with_object id object content) q ≡ option_or (get content q) (cond (id_eq id q) (Some object) None)
get_with_object id object content q = go (contains_key content id) ∙ added_at (contains_key content id) (id_eq id q) (get content q) object (λ e. ap (λ x. is_some (get content x)) (sym (same_id id q e)))
  where
    turned : eq_by_cmp id_cmp q id ≡ id_eq id q
    turned = (eq_by_cmp_equiv id_cmp_total).symm q id ∙ sym (ids_tied id q)

    go : (b : Bool) → get (cond b content (insert content id object)) q ≡ cond b (get content q) (cond (id_eq id q) (Some object) (get content q))
    go true = refl
    go false = get-insert id_cmp_total content id object q ∙ ap (λ t. cond t (Some object) (get content q)) turned

-- ---- many objects

or_then : {X : Type 0} (a : Option X) (t : Bool) (v : X) (b : Option X) → option_or (option_or a (cond t (Some v) None)) b ≡ option_or a (cond t (Some v) b)
or_then None true v b = refl
or_then None false v b = refl
or_then (Some x) t v b = refl

pub writing_adds : WritingAdds
writing_adds hash [] content id = sym (no_more (get content id))
  where
    no_more : {X : Type 0} (o : Option X) → option_or o None ≡ o
    no_more None = refl
    no_more (Some x) = refl
writing_adds hash (o ∷ objects) content id =
    writing_adds hash objects (with_object (id_of hash o) o content) id
    ∙ ap (λ x. option_or x (object_at hash objects id)) (get_with_object (id_of hash o) o content id)
    ∙ or_then (get content id) (id_eq (id_of hash o) id) o (object_at hash objects id)

or_else : {X : Type 0} (a b c : Option X) → option_or (option_or a b) c ≡ option_or a (option_or b c)
or_else None b c = refl
or_else (Some x) b c = refl

first_or_second : {X : Type 0} (t : Bool) (v : X) (a b c : Option X) → a ≡ option_or b c → cond t (Some v) a ≡ option_or (cond t (Some v) b) c
first_or_second true v a b c e = refl
first_or_second false v a b c e = e

object_at-append : (hash : HashKind) (first second : List (Kind × List ℕ)) (id : ObjectId) → object_at hash (first ++ second) id ≡ option_or (object_at hash first id) (object_at hash second id)
object_at-append hash [] second id = refl
object_at-append hash (o ∷ first) second id = first_or_second (id_eq (id_of hash o) id) o _ _ _ (object_at-append hash first second id)

pub adds_together : AddsTogether
adds_together hash first second old middle new f g id =
    g id ∙ ap (λ x. option_or x (object_at hash second id)) (f id)
    ∙ or_else (get old id) (object_at hash first id) (object_at hash second id)
    ∙ ap (option_or (get old id)) (sym (object_at-append hash first second id))

-- ---- objects that share no digest

own_or_later : (t : Bool) (object x : Kind × List ℕ) (later : Option (Kind × List ℕ)) → (t ≡ true → x ≡ object) → later ≡ Some x → cond t (Some object) later ≡ Some x
own_or_later true object x later h e = ap Some (sym (h refl))
own_or_later false object x later h e = e

-- each object is the first with its id
at_own : (hash : HashKind) (objects : List (Kind × List ℕ)) → AreOfOwnIds hash objects → AllByRecursion (λ object. object_at hash objects (id_of hash object) ≡ Some object) objects
at_own hash [] h = tt
at_own hash (o ∷ objects) h = (
  ap (λ t. cond t (Some o) (object_at hash objects (id_of hash o))) (own_id (id_of hash o)),
  all_with (λ x same later. own_or_later (id_eq (id_of hash o) (id_of hash x)) o x (object_at hash objects (id_of hash x)) (λ e. same (sym (same_id _ _ e))) later) objects h.0 (at_own hash objects h.1),
)

found_after : {X : Type 0} (o e : Option X) (x : X) (new : Option X) → IfSome (option_or o e) (λ there. there ≡ x) → new ≡ option_or o (Some x) → option_or new e ≡ Some x
found_after None e x new h is = ap (λ n. option_or n e) is
found_after (Some y) e x new h is = ap (λ n. option_or n e) is ∙ ap Some h

pub added_is_found : AddedIsFound
added_is_found hash objects old new apart adds = all_with (λ object agreed own.
    found_after (get old (id_of hash object)) _ object (get new (id_of hash object)) agreed (adds (id_of hash object) ∙ ap (option_or (get old (id_of hash object))) own)) objects apart.agreed (at_own hash objects apart.own)

-- what stands at an id in the content is the object with that id
agrees : (hash : HashKind) (old : Content) (objects : List (Kind × List ℕ)) → AllByRecursion (λ object. IfSome (lookup old (id_of hash object)) (λ there. there ≡ object)) objects
    → (id : ObjectId) (y : Kind × List ℕ) → object_at hash objects id ≡ Some y → IfSome (lookup old id) (λ there. there ≡ y)
agrees hash old [] h id y e = cc
agrees hash old (o ∷ objects) h id y e = go (id_eq (id_of hash o) id) refl e (agrees hash old objects h.1 id y)
  where
    out : (a b : Kind × List ℕ) → Some a ≡ Some b → a ≡ b
    out a b f = cc

    here : id_of hash o ≡ id → o ≡ y → IfSome (lookup old id) (λ there. there ≡ y)
    here f g = subst (λ x. IfSome (lookup old id) (λ there. there ≡ x)) g (subst (λ x. IfSome (lookup old x) (λ there. there ≡ o)) f h.0)

    go : (t : Bool) → id_eq (id_of hash o) id ≡ t → cond t (Some o) (object_at hash objects id) ≡ Some y → (object_at hash objects id ≡ Some y → IfSome (lookup old id) (λ there. there ≡ y)) → IfSome (lookup old id) (λ there. there ≡ y)
    go true f g rest = here (same_id (id_of hash o) id f) (out o y g)
    go false f g rest = rest g

stays : {X : Type 0} (o e p new : Option X) → new ≡ option_or o p → ((y : X) → p ≡ Some y → IfSome (option_or o e) (λ there. there ≡ y)) → IfSome (option_or o e) (λ x. option_or new e ≡ Some x)
stays (Some x) e p new is h = ap (λ n. option_or n e) is
stays None None p new is h = tt
stays None (Some t) None new is h = ap (λ n. option_or n (Some t)) is
stays None (Some t) (Some y) new is h = ap (λ n. option_or n (Some t)) is ∙ ap Some (sym (h y refl))

pub found_stays : FoundStays
found_stays hash objects old new apart adds id = stays (get old id) _ (object_at hash objects id) (get new id) (adds id) (agrees hash old objects apart.agreed id)

pub stored_stays : StoredStays
stored_stays hash objects old new adds id object e = adds id ∙ ap (λ o. option_or o (object_at hash objects id)) e

-- ---- changes

apart_names : (b : Bool) (name q : List ℕ) → eq_by_cmp name_cmp q name ≡ b → name ≢ q → eq_by_cmp name_cmp q name ≡ false
apart_names true name q e h = absurd (h (sym (exact_names q name (tied _ e))))
apart_names false name q e h = e

get_other : {X : Type 0} (m : FinMap name_cmp X) (name : List ℕ) (o : Option X) (q : List ℕ) → name ≢ q → get (with_at m name o) q ≡ get m q
get_other m name o q h = get_with_at nat_list_cmp_total m name o q ∙ ap (λ b. cond b o (get m q)) (apart_names _ name q refl h)

get_own : {X : Type 0} (m : FinMap name_cmp X) (name : List ℕ) (o : Option X) → get (with_at m name o) name ≡ o
get_own m name o = get_with_at nat_list_cmp_total m name o name ∙ ap (λ b. cond b o (get m name)) ((eq_by_cmp_equiv nat_list_cmp_total).refl name)

target_kept : (change : RefChange) (refs : RefState) (q : List ℕ) → change.name ≢ q → get (with_change change refs).targets q ≡ get refs.targets q
target_kept change refs q h = ap (λ m. get m q) (with_target-at change.name change.target refs.targets) ∙ get_other refs.targets change.name (target_after change.target (get refs.targets change.name)) q h

log_kept : (change : RefChange) (refs : RefState) (q : List ℕ) → change.name ≢ q → get (with_change change refs).logs q ≡ get refs.logs q
log_kept change refs q h = ap (λ m. get m q) (with_log-at change.name change.log refs.logs) ∙ get_other refs.logs change.name (log_after change.log (get refs.logs change.name)) q h

pub others_are_kept : OthersAreKept
others_are_kept [] refs name h = (refl, refl)
others_are_kept (change ∷ changes) refs name h =
    let rest = others_are_kept changes (with_change change refs) name h.1 in
    (rest.0 ∙ target_kept change refs name h.0, rest.1 ∙ log_kept change refs name h.0)

pub each_is_made : EachIsMade
each_is_made [] refs h = tt
each_is_made (change ∷ changes) refs h =
    let kept = others_are_kept changes (with_change change refs) change.name h.0 in (
      (
        kept.0 ∙ ap (λ m. get m change.name) (with_target-at change.name change.target refs.targets) ∙ get_own refs.targets change.name (target_after change.target (get refs.targets change.name)),
        kept.1 ∙ ap (λ m. get m change.name) (with_log-at change.name change.log refs.logs) ∙ get_own refs.logs change.name (log_after change.log (get refs.logs change.name)),
      ),
      all_with (λ other apart made. (
        made.0 ∙ ap (target_after other.target) (target_kept change refs other.name (λ e. apart (sym e))),
        made.1 ∙ ap (log_after other.log) (log_kept change refs other.name (λ e. apart (sym e))),
      )) changes h.0 (each_is_made changes (with_change change refs) h.1),
    )
