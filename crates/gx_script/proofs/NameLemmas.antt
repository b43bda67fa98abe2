-- Names have no space and no newline.
use Rattle.std.proofs.Common.{sym, refl, subst, ℕ, suc, List, [], ◌∷◌, IsTrue}
use Rattle.gx_rules.specs.Name.{IsFullName, IsPartialName, ForbiddenAt, is_forbidden}
use Rattle.gx_rules.specs.Laws.{well_formed}
use Rattle.gx_script.specs.Items.{Without, NoNewline}

allowed_without : (c : ℕ) (name : List ℕ) → IsTrue (is_forbidden c) → ((at_ : ℕ) → ForbiddenAt name at_ → ⊥) → Without c name
allowed_without c [] bad none = tt
allowed_without c (b ∷ rest) bad none = ((λ e. none 0 (subst (λ (x : ℕ). IsTrue (is_forbidden x)) (sym e) bad)), allowed_without c rest bad (λ at_. none (suc at_)))

pub partial_without : (c : ℕ) (name : List ℕ) → IsTrue (is_forbidden c) → IsPartialName name → Without c name
partial_without c name bad h = allowed_without c name bad (well_formed name h).allowed

pub partial_space : (name : List ℕ) → IsPartialName name → Without 32 name
partial_space name h = partial_without 32 name refl h

pub partial_open : (name : List ℕ) → IsPartialName name → NoNewline name
partial_open name h = partial_without 10 name refl h

pub is_partial : (name : List ℕ) → IsFullName name → IsPartialName name
is_partial name h error other = h error

pub full_space : (name : List ℕ) → IsFullName name → Without 32 name
full_space name h = partial_space name (is_partial name h)

pub full_open : (name : List ℕ) → IsFullName name → NoNewline name
full_open name h = partial_open name (is_partial name h)
