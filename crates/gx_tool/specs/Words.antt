-- What the words after the program's name ask for.
use Rattle.std.specs.declared.alloc.Global.{Global}
use Rattle.std.specs.Prelude.{String, string_bytes, codes, decimal, ◌≡◌, ◌⊎◌, ℕ, ◌≤◌, List, [], ◌∷◌}
use Rattle.gx_tool.specs.Course.{IsApply}
use Rattle.gx_tool.specs.declared.words.Job.{Job}
use Rattle.gx_tool.specs.declared.words.Job.TheVariants.{Apply, Generate}

-- A count of commits: a number without sign or leading zero, up to 20,000. (Ours; docs/SCRIPT.md.)
abbrev pub IsCount : ℕ → List ℕ → Type 0
IsCount count text = (count ≤ 20000) × (text ≡ decimal count)

-- the words that ask for commits of the generator: a store, `generate`, and their count (ours; docs/SCRIPT.md)
abbrev pub IsGenerate : ℕ → List (String Global) → Type 0
IsGenerate count [] = ⊥
IsGenerate count (store ∷ []) = ⊥
IsGenerate count (store ∷ word ∷ []) = ⊥
IsGenerate count (store ∷ word ∷ number ∷ []) =
    (string_bytes word ≡ codes "generate") × IsCount count (string_bytes number)
IsGenerate count (store ∷ word ∷ number ∷ more ∷ words) = ⊥

-- the lists of words that are allowed
abbrev pub AreAllowed : List (String Global) → Type 0
AreAllowed words = IsApply words ⊎ ((count : ℕ) × IsGenerate count words)

-- the words ask for the job
abbrev pub AskFor : List (String Global) → Job → Type 0
AskFor words Apply = IsApply words
AskFor words (Generate count) = IsGenerate count words
