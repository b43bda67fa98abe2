-- The components of a path are the names without a slash that give it when they are joined.
use Rattle.std.proofs.Common.{◌≡◌, ◌≢◌, ℕ, suc, zero, ◌<◌, Bool, true, false, cond, List, [], ◌∷◌, length, get_or, Contains, All, refl, sym, ap, ◌∙◌, arith, ◌==◌, ne_eqb}
use Rattle.std.proofs.lemmas.Bool.{eqb-false}
use Rattle.std.specs.List.{join_with_byte, slice_split}
use Rattle.std.proofs.lemmas.List.Elements.{All-head, All-tail, All-cons}
use Rattle.std.proofs.lemmas.List.Splits.{slice_split_at, slice_split_none}
use Rattle.gx_rules.specs.Path.{Path, components, at_front, IsParted}
use Rattle.gx_rules.specs.Laws.Paths.{is_slash, components_some, components_split, components_joined}

-- a name holds no slash
abbrev NoSlash : List ℕ → Type 0
NoSlash name = Contains name 47 → ⊥

no_slash_more : (b : ℕ) (name : List ℕ) → (b ≡ 47 → ⊥) → NoSlash name → NoSlash (b ∷ name)
no_slash_more b name other none w = go w.0 w.1 w.2
  where
    go : (k : ℕ) → k < suc (length name) → get_or (b ∷ name) k 47 ≡ 47 → ⊥
    go zero within is = other is
    go (suc k) within is = none (k, omega (arith, within), is)

front_plain : (b : ℕ) (path : Path) → (b ≡ 47 → ⊥) → All NoSlash path → All NoSlash (at_front b path)
front_plain b [] other plain = All-cons NoSlash (b ∷ []) [] (no_slash_more b [] other (λ w. absurd (omega (arith, w.1)))) plain
front_plain b (name ∷ path) other plain = All-cons NoSlash (b ∷ name) path (no_slash_more b name other (All-head NoSlash name path plain)) (All-tail NoSlash name path plain)

components_plain : (bytes : List ℕ) → All NoSlash (components bytes)
components_plain [] = All-cons NoSlash [] [] (λ w. absurd (omega (arith, w.1))) (λ k d within. absurd (omega (arith, within)))
components_plain (b ∷ bytes) = go (b == 47) refl (components_plain bytes)
  where
    go : (t : Bool) → (b == 47) ≡ t → All NoSlash (components bytes) → All NoSlash (cond t ([] ∷ components bytes) (at_front b (components bytes)))
    go true e plain = All-cons NoSlash [] (components bytes) (λ w. absurd (omega (arith, w.1))) plain
    go false e plain = front_plain b (components bytes) (eqb-false b 47 e) plain

pub components_parted : (path : List ℕ) → IsParted path (components path)
components_parted path = record {
  some = components_some path;
  plain = components_plain path;
  joined = components_joined path;
}

-- no byte of such a name parts it
plain_passes : (name : List ℕ) → NoSlash name → All (λ b. is_slash b ≡ false) name
plain_passes [] none = λ k d within. absurd (omega (arith, within))
plain_passes (b ∷ name) none = All-cons (λ c. is_slash c ≡ false) b name (ne_eqb b 47 (λ is. none (0, omega arith, is))) (plain_passes name (λ w. none (suc w.0, omega (arith, w.1), w.2)))

split_joined : (names : Path) → names ≢ [] → All NoSlash names → slice_split is_slash (join_with_byte 47 names) ≡ names
split_joined [] some plain = absurd (some refl)
split_joined (name ∷ []) some plain = slice_split_none is_slash name (plain_passes name (All-head NoSlash name [] plain))
split_joined (name ∷ next ∷ names) some plain =
    slice_split_at is_slash name 47 (join_with_byte 47 (next ∷ names)) (plain_passes name (All-head NoSlash name (next ∷ names) plain)) refl
    ∙ ap (λ (path : Path). name ∷ path) (split_joined (next ∷ names) (λ e. absurd cc) (All-tail NoSlash name (next ∷ names) plain))

pub parted_once : (path : List ℕ) (names : Path) → IsParted path names → names ≡ components path
parted_once path names parted = sym (components_split path ∙ ap (slice_split is_slash) (sym parted.joined) ∙ split_joined names parted.some parted.plain)
