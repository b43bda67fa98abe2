use Rattle.std.proofs.Common.{◌≡◌, ◌∙◌, sym, subst, arith, ℕ, List, ◌∷◌, ◌++◌, codes, inl, inr}
use Rattle.gx_hash.specs.declared.kind.HashKind.{HashKind}
use Rattle.gx_hash.specs.IdDigits.{IsLowerHexDigit}
use Rattle.gx_rules.specs.Name.{IsFullName}
use Rattle.gx_store.specs.declared.target.Target.TheVariants.{Object, Symbolic}
use Rattle.gx_script.specs.Lines.{IsNoTarget}
use Rattle.gx_script.proofs.FieldLemmas.{no_target}
use Rattle.gx_script.proofs.IdLemmas.{hex_first}
use Rattle.gx_script.proofs.fields.target.Goals as goal

-- No id begins with `@`.
no_digit : IsLowerHexDigit 64 → ⊥
no_digit (inl p) = omega (arith, p.1)
no_digit (inr p) = omega (arith, p.0)

no_target_name : (hash : HashKind) (bytes name : List ℕ) → bytes ≡ codes "@" ++ name → (IsFullName name → ⊥) → IsNoTarget hash bytes
no_target_name hash bytes name is none (Object id) fits e = no_digit (hex_first hash id 64 name fits (sym e ∙ is))
no_target_name hash bytes name is none (Symbolic other) fits e =
    let both : codes "@" ++ name ≡ 64 ∷ other = sym is ∙ e in
    let same : name ≡ other = cc in
    none (subst IsFullName (sym same) fits)

pub returns-in-None : goal.returns-in-None
returns-in-None c = no_target_name c.args.hash c.args.bytes.now c.in-Some.name.now c.in-Some.ensures (rw c.in-None.is at c.in_ok-name.ensures)

pub returns-in-None-object_id : goal.returns-in-None-object_id
returns-in-None-object_id c = no_target c.args.hash c.args.bytes.now c.in_default.ensures c.in-None-object_id.ensures
