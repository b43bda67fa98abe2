-- Who acts, and when.
use Rattle.std.proofs.Common.{◌≡◌, ◌⊎◌, ◌++◌, ℕ, List, [], ◌∷◌, Option, Some, None, Result, Ok, Err, refl, sym, inl, inr}
use Rattle.std.specs.Result.{MatchResult, result_unwrap_or}
use Rattle.gx_object.specs.declared.signature.Time.{Time}
use Rattle.gx_actor.specs.declared.date.BadDate.{BadDate}
use Rattle.gx_actor.specs.Date.{SpellsDate}
use Rattle.gx_actor.specs.Persona.{first_set}

-- the time that a date says, or the given one
pub time_or_now : (date : List ℕ) (now : Time) (r : Result Time BadDate) → MatchResult r (SpellsDate now date) (λ _. (time : Time) → ¬ SpellsDate now date time) → SpellsDate now date (result_unwrap_or r now) ⊎ (((other : Time) → ¬ SpellsDate now date other) × (result_unwrap_or r now ≡ now))
time_or_now date now (Ok time) read = inl read
time_or_now date now (Err e) read = inr (read, refl)

only_first : (o : Option (List ℕ)) → o ≡ first_set (o ∷ [])
only_first None = refl
only_first (Some text) = refl

-- what is first of two lists is first of both in turn
pub first_of_both : (own others : List (Option (List ℕ))) → first_set (first_set own ∷ first_set others ∷ []) ≡ first_set (own ++ others)
first_of_both [] others = sym (only_first (first_set others))
first_of_both (None ∷ more) others = first_of_both more others
first_of_both (Some text ∷ more) others = refl
