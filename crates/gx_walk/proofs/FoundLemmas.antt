-- Ids that a search has found, as a set and as a list.
use Rattle.std.proofs.Common.{◌≡◌, Bool, true, false, List, [], ◌∷◌, ◌++◌, sym, refl, ap, ◌∙◌, subst, IsSome, ◌⊎◌, inl, inr}
use Rattle.std.specs.Prelude.{◌||◌}
use Rattle.std.proofs.lemmas.Bool.{or_cases, or_left, or_right, both_ways, false_from_ne_true}
use Rattle.gx_hash.specs.declared.oid.ObjectId.{ObjectId}
use Rattle.gx_hash.specs.Laws.{same_id, own_id}
use Rattle.gx_hash.specs.ObjectIds.{id_eq, has_id}
use Rattle.gx_walk.specs.Graph.{history_in, Extends}
use Rattle.gx_walk.specs.Reaching.{AreRead}
use Rattle.gx_walk.specs.declared.graph.Graph.{Graph}
use Rattle.gx_walk.proofs.IdLemmas.{cases_id, has_id-append, has_self, single, not_last}

module _ (found more : List ObjectId) (id : ObjectId) (added : (one : ObjectId) → has_id more one ≡ (id_eq id one || has_id found one)) where
  pub added_itself : (x : ObjectId) → id ≡ x → has_id more x ≡ true
  added_itself x e = added x ∙ or_left _ _ (subst (λ w. id_eq id w ≡ true) e (own_id id))

  added_other : (x : ObjectId) → id_eq id x ≡ false → has_id more x ≡ has_id found x
  added_other x ne = added x ∙ ap (λ b. b || has_id found x) ne

  -- an id that was there before changes nothing
  pub added_again : has_id found id ≡ true → (x : ObjectId) → has_id more x ≡ has_id found x
  added_again known x = elim (cases_id id x) [
    | inl e ↦ added_itself x e ∙ sym (subst (λ w. has_id found w ≡ true) e known)
    | inr ne ↦ added_other x ne
  ]

  -- the list has one more id, as the set
  pub listed_more : (list : List ObjectId) → ((x : ObjectId) → has_id list x ≡ has_id found x) → (x : ObjectId) → has_id (list ++ id ∷ []) x ≡ has_id more x
  listed_more list same x = has_id-append list (id ∷ []) x ∙ elim (cases_id id x) [
    | inl e ↦ or_right (has_id list x) (has_id (id ∷ []) x) (subst (λ w. has_id (id ∷ []) w ≡ true) e (has_self id)) ∙ sym (added_itself x e)
    | inr ne ↦ not_last (has_id list x) (has_id (id ∷ []) x) (false_from_ne_true _ (λ h. both_ways _ ne (subst (λ w. id_eq id w ≡ true) (single id x h) (own_id id)))) ∙ same x ∙ sym (added_other x ne)
  ]

  -- what was found is read, and so is one more
  pub read_more : {T : Type 0} (old new : Graph T) → Extends old new → IsSome (history_in new id) → AreRead old found → AreRead new more
  read_more old new extends here read x h = elim (or_cases _ _ (sym (added x) ∙ h)) [
    | inl e ↦ subst (λ w. IsSome (history_in new w)) (same_id id x e) here
    | inr f ↦ subst (λ o. IsSome o) (sym (extends x (read x f))) (read x f)
  ]
