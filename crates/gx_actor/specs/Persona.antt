-- Who commits and who wrote, as settings say.
use Rattle.std.specs.Prelude.{◌≡◌, ◌⊎◌, ℕ, List, [], ◌∷◌, Option, Some, None}
use Rattle.gx_object.specs.declared.signature.Signature.{Signature}
use Rattle.gx_object.specs.declared.signature.Time.{Time}
use Rattle.gx_actor.specs.Date.{SpellsDate}
use Rattle.gx_actor.specs.declared.persona.Entity.{Entity}
use Rattle.gx_actor.specs.declared.persona.PersonaSettings.{PersonaSettings}

-- the first text that is set (ours)
abbrev pub first_set : List (Option (List ℕ)) → Option (List ℕ)
first_set [] = None
first_set (None ∷ more) = first_set more
first_set (Some text ∷ more) = Some text

-- where the committer's name is looked up, in this order (gix, Personas::from_config_and_env)
abbrev pub committer_names : PersonaSettings → List (Option (List ℕ))
committer_names settings = settings.committer_name ∷ settings.committer_name_fallback ∷ []

-- where the committer's email is looked up, in this order (gix, Personas::from_config_and_env)
abbrev pub committer_emails : PersonaSettings → List (Option (List ℕ))
committer_emails settings = settings.committer_email ∷ settings.committer_email_fallback ∷ []

-- where the author's name is looked up, in this order (gix, Personas::from_config_and_env)
abbrev pub author_names : PersonaSettings → List (Option (List ℕ))
author_names settings = settings.author_name ∷ settings.author_name_fallback ∷ []

-- where the author's email is looked up, in this order (gix, Personas::from_config_and_env)
abbrev pub author_emails : PersonaSettings → List (Option (List ℕ))
author_emails settings = settings.author_email ∷ settings.author_email_fallback ∷ []

-- where the user's name is looked up (gix, Personas::from_config_and_env)
abbrev pub user_names : PersonaSettings → List (Option (List ℕ))
user_names settings = settings.user_name ∷ []

-- where the user's email is looked up, in this order (gix, Personas::from_config_and_env)
abbrev pub user_emails : PersonaSettings → List (Option (List ℕ))
user_emails settings = settings.user_email ∷ settings.user_email_fallback ∷ []

-- the time that the date says, or the given moment where there is no date, or none that can be read
-- (gix, Personas::from_config_and_env)
abbrev pub IsTimeBy : Option (List ℕ) → Time → Time → Type 0
IsTimeBy None now time = time ≡ now
IsTimeBy (Some date) now time =
    SpellsDate now date time ⊎ (((other : Time) → ¬ SpellsDate now date other) × (time ≡ now))

-- there is a time, which the date or the given moment says (ours)
abbrev pub HasTimeBy : Option (List ℕ) → Time → Option Time → Type 0
HasTimeBy date now None = ⊥
HasTimeBy date now (Some time) = IsTimeBy date now time

-- an entity has the first of these names and of these emails, and the time by the date (ours)
pub record IsEntity (names emails : List (Option (List ℕ))) (date : Option (List ℕ)) (now : Time)
    (entity : Entity) : Type 0 where
  pub name : entity.name ≡ first_set names
  pub email : entity.email ≡ first_set emails
  pub time : HasTimeBy date now entity.time

-- the signature of a name, an email and a time, where none of them is missing (ours)
abbrev pub with_parts : Option (List ℕ) → Option (List ℕ) → Option Time → Option Signature
with_parts (Some name) (Some email) (Some time) = Some (record { name = name; email = email; time = time })
with_parts name email time = None

-- A persona has its own name or else the user's, its own email or else the user's, and its own time. Where one of these
-- is missing there is none. (gix, Repository::committer and Repository::author)
abbrev pub persona : Entity → Entity → Option Signature
persona own user =
    with_parts (first_set (own.name ∷ user.name ∷ [])) (first_set (own.email ∷ user.email ∷ [])) own.time
