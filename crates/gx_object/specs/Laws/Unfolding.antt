-- Folded values are unfolded again.
use Rattle.std.proofs.Common.{◌≡◌, ◌∙◌, sym, ap, refl, ℕ, false, List, [], ◌∷◌, inl, inr}
use Rattle.std.proofs.lemmas.Bool.Decides.{eqb_tells}
use Rattle.gx_object.specs.CommitSpelling.{folded, unfolded_behind}

pub unfolded_again : (value : List ℕ) → unfolded_behind false (folded value) ≡ value
unfolded_again [] = refl
unfolded_again (b ∷ bs) = elim (eqb_tells b 10) [
  | inl h ↦ rw h.0 (ap (λ l. 10 ∷ l) (unfolded_again bs) ∙ ap (λ n. n ∷ bs) (sym h.1))
  | inr h ↦ rw h.0 (rw h.0 (ap (λ l. b ∷ l) (unfolded_again bs)))
]
