-- What is found along parents is what some ids reach.
use Rattle.std.proofs.Common.{◌≡◌, Bool, true, false, not, List, [], ◌∷◌, ◌++◌, sym, refl, ◌∙◌, subst, ◌⊎◌, inl, inr, IsSome}
use Rattle.std.specs.Prelude.{◌||◌, ◌↔◌}
use Rattle.std.proofs.lemmas.Bool.{or_cases, or_left, or_right, false≢true}
use Rattle.gx_hash.specs.declared.oid.ObjectId.{ObjectId}
use Rattle.gx_hash.specs.ObjectIds.{id_eq, has_id}
use Rattle.gx_hash.specs.Laws.{same_id, own_id}
use Rattle.gx_walk.specs.History.{History, Reaches, start, step}
use Rattle.gx_walk.specs.Reaching.{IsReaching}
use Rattle.gx_walk.proofs.IdLemmas.{has_id-append, has_self, single}

pub reaching_start : (history : History) (follow : ObjectId → List ObjectId) (ids found : List ObjectId) → found ≡ [] → IsReaching history follow ids found ids
reaching_start history follow ids found empty = record {
  sound = λ x h. elim h [ inl missing ↦ absurd (false≢true (rw empty at missing)) | inr said ↦ start said ];
  starts = λ x h. inr h;
  steps = λ x y h k. absurd (false≢true (rw empty at h));
  read = λ x h. absurd (false≢true (rw empty at h));
}

module _ (history : History) (follow : ObjectId → List ObjectId) (ids found rest : List ObjectId) (id : ObjectId) (it : IsReaching history follow ids found (rest ++ id ∷ [])) (more : List ObjectId) (added : (one : ObjectId) → has_id more one ≡ (id_eq id one || has_id found one)) where
  found_cases : (x : ObjectId) → has_id more x ≡ true → (id ≡ x) ⊎ (has_id found x ≡ true)
  found_cases x h = elim (or_cases _ _ (sym (added x) ∙ h)) [ inl e ↦ inl (same_id id x e) | inr before ↦ inr before ]

  here : has_id more id ≡ true
  here = added id ∙ or_left _ _ (own_id id)

  stays : (x : ObjectId) → has_id found x ≡ true → has_id more x ≡ true
  stays x h = added x ∙ or_right _ _ h

  -- what was pending is found or stays so
  pending_cases : (x : ObjectId) → has_id (rest ++ id ∷ []) x ≡ true → (has_id more x ≡ true) ⊎ (has_id rest x ≡ true)
  pending_cases x h = elim (or_cases _ _ (rw has_id-append at h)) [
    | inl before ↦ inr before
    | inr last ↦ inl (subst (λ w. has_id more w ≡ true) (single id x last) here)
  ]

  moved : (x : ObjectId) → (has_id found x ≡ true) ⊎ (has_id (rest ++ id ∷ []) x ≡ true) → (has_id more x ≡ true) ⊎ (has_id rest x ≡ true)
  moved x h = elim h [ inl f ↦ inl (stays x f) | inr p ↦ pending_cases x p ]

  id_reached : Reaches follow ids id
  id_reached = it.sound id (inr (rw has_id-append (or_right _ _ (has_self id))))

  -- an id that was found before
  pub reaching_old : has_id found id ≡ true → IsReaching history follow ids more rest
  reaching_old known = record {
    sound = λ x h. elim h [
      | inl m ↦ elim (found_cases x m) [ inl e ↦ subst (Reaches follow ids) e id_reached | inr f ↦ it.sound x (inl f) ]
      | inr r ↦ it.sound x (inr (rw has_id-append (or_left _ _ r)))
    ];
    starts = λ x h. moved x (it.starts x h);
    steps = λ x y h k. elim (found_cases x h) [
      | inl e ↦ moved y (it.steps id y known (subst (λ w. has_id (follow w) y ≡ true) (sym e) k))
      | inr f ↦ moved y (it.steps x y f k)
    ];
    read = λ x h. elim (found_cases x h) [ inl e ↦ subst (λ w. IsSome (history w)) e (it.read id known) | inr f ↦ it.read x f ];
  }

  -- a new one, whose parents are still to be read
  pub reaching_new : (next : List ObjectId) → next ≡ follow id → IsSome (history id) → IsReaching history follow ids more (rest ++ next)
  reaching_new next is read =
      let on : (x : ObjectId) → (has_id more x ≡ true) ⊎ (has_id rest x ≡ true) → (has_id more x ≡ true) ⊎ (has_id (rest ++ next) x ≡ true) =
      λ x h. elim h [ inl m ↦ inl m | inr r ↦ inr (rw has_id-append (or_left _ _ r)) ] in
      record {
        sound = λ x h. elim h [
          | inl m ↦ elim (found_cases x m) [ inl e ↦ subst (Reaches follow ids) e id_reached | inr f ↦ it.sound x (inl f) ]
          | inr p ↦ elim (or_cases (has_id rest x) (has_id next x) (sym (has_id-append rest next x) ∙ p)) [
            | inl r ↦ it.sound x (inr (rw has_id-append (or_left _ _ r)))
            | inr n ↦ step id_reached (subst (λ w. has_id w x ≡ true) is n)
          ]
        ];
        starts = λ x h. on x (moved x (it.starts x h));
        steps = λ x y h k. elim (found_cases x h) [
          | inl e ↦ inr (has_id-append rest next y ∙ or_right (has_id rest y) (has_id next y) (subst (λ w. has_id w y ≡ true) (sym is) (subst (λ w. has_id (follow w) y ≡ true) (sym e) k)))
          | inr f ↦ on y (moved y (it.steps x y f k))
        ];
        read = λ x h. elim (found_cases x h) [ inl e ↦ subst (λ w. IsSome (history w)) e read | inr f ↦ it.read x f ];
      }

-- nothing is left to be read
pub reaching_end : (history : History) (follow : ObjectId → List ObjectId) (ids found pending : List ObjectId) → IsReaching history follow ids found pending → pending ≡ [] → (x : ObjectId) → (has_id found x ≡ true) ↔ Reaches follow ids x
reaching_end history follow ids found pending it empty x = (λ h. it.sound x (inl h), back) where
  left : (y : ObjectId) → (has_id found y ≡ true) ⊎ (has_id pending y ≡ true) → has_id found y ≡ true
  left y h = elim h [ inl f ↦ f | inr p ↦ absurd (false≢true (rw empty at p)) ]

  back : {y : ObjectId} → Reaches follow ids y → has_id found y ≡ true
  back (start among) = left _ (it.starts _ among)
  back (step before parent) = left _ (it.steps _ _ (back before) parent)

-- what is pending is reached
pub reaching_id : (history : History) (follow : ObjectId → List ObjectId) (ids found rest : List ObjectId) (id : ObjectId) → IsReaching history follow ids found (rest ++ id ∷ []) → Reaches follow ids id
reaching_id history follow ids found rest id it = it.sound id (inr (rw has_id-append (or_right _ _ (has_self id))))

pub not_old : (b : Bool) → not b ≡ false → b ≡ true
not_old true h = refl
not_old false h = absurd (false≢true (sym h))
