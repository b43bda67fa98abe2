-- Which words ask for what.
use Rattle.std.proofs.Common.{◌≡◌, ◌∙◌, sym, ap, ℕ, ◌<◌, List, [], ◌∷◌, Result, Ok, arith}
use Rattle.std.proofs.lemmas.Fmt.{decimal_injective, parse-decimal}
use Rattle.std.specs.declared.alloc.Global.{Global}
use Rattle.std.specs.Prelude.{String, decimal}
use Rattle.std.specs.Str.Parse.{ParsesUnsigned}
use Rattle.gx_tool.specs.Course.{IsApply}
use Rattle.gx_tool.specs.Words.{IsCount, IsGenerate}

-- one count is spelled in one way
pub one_count : (a b : ℕ) (text : List ℕ) → IsCount a text → IsCount b text → a ≡ b
one_count a b text p q = decimal_injective a b (omega (arith, p.0)) (omega (arith, q.0)) (sym p.1 ∙ q.1)

-- a count is parsed as itself
pub count_is_parsed : {E : Type 0} (count : ℕ) (text : List ℕ) (r : Result ℕ E) → IsCount count text → ParsesUnsigned 32 10 text r → r ≡ Ok count
count_is_parsed count text r is parses = parse-decimal 32 count text r (omega (arith, is.0)) (omega (arith, is.0)) is.1 parses

-- a text that is no number, or a larger one, or another spelling, is no count
pub no_number : {E : Type 0} (text : List ℕ) (r : Result ℕ E) → ParsesUnsigned 32 10 text r → ((n : ℕ) → r ≡ Ok n → ⊥) → (count : ℕ) → IsCount count text → ⊥
no_number text r parses other count is = other count (count_is_parsed count text r is parses)

count_is : {E : Type 0} (text : List ℕ) (r : Result ℕ E) (n : ℕ) → ParsesUnsigned 32 10 text r → r ≡ Ok n → (count : ℕ) → IsCount count text → n ≡ count
count_is text r n parses told count is = let parsed : r ≡ Ok count = count_is_parsed count text r is parses in cc

pub too_large : {E : Type 0} (text : List ℕ) (r : Result ℕ E) (n : ℕ) → ParsesUnsigned 32 10 text r → r ≡ Ok n → 20000 < n → (count : ℕ) → IsCount count text → ⊥
too_large text r n parses told large count is = omega (arith, count_is text r n parses told count is, large, is.0)

pub other_spelling : {E : Type 0} (text : List ℕ) (r : Result ℕ E) (n : ℕ) → ParsesUnsigned 32 10 text r → r ≡ Ok n → (decimal n ≡ text → ⊥) → (count : ℕ) → IsCount count text → ⊥
other_spelling text r n parses told other count is = other (ap (λ (k : ℕ). decimal k) (count_is text r n parses told count is) ∙ sym is.1)

pub one_job : (a b : ℕ) (words : List (String Global)) → IsGenerate a words → IsGenerate b words → a ≡ b
one_job a b [] p q = absurd p
one_job a b (store ∷ []) p q = absurd p
one_job a b (store ∷ word ∷ []) p q = absurd p
one_job a b (store ∷ word ∷ number ∷ []) p q = one_count a b _ p.1 q.1
one_job a b (store ∷ word ∷ number ∷ more ∷ words) p q = absurd p

pub no_generate : (count : ℕ) (words : List (String Global)) → IsApply words → IsGenerate count words → ⊥
no_generate count [] p q = p
no_generate count (store ∷ []) p q = p
no_generate count (store ∷ word ∷ []) p q = q
no_generate count (store ∷ word ∷ number ∷ words) p q = p
