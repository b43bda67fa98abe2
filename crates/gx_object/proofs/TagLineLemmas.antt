-- Lines at the front of a tag.
use Rattle.std.proofs.Common.{◌≡◌, Bool, true, false, MatchBool, ◌∙◌, sym, ap, refl, ℕ, List, [], ◌∷◌, ◌++◌, length, codes, arith, Some, None, inl, inr}
use Rattle.gx_object.specs.declared.kind.Kind.{Kind}
use Rattle.gx_object.specs.declared.kind.Kind.TheVariants.{Blob, Tree, Commit, Tag}
use Rattle.gx_object.specs.Kind.{kind_name, kind_named}
use Rattle.gx_object.specs.CommitLines.{IsNotBehind, HasLine, HasNoLine}
use Rattle.gx_object.specs.TagLines.{IsNoTypeLine, IsNoNameLine}
use Rattle.gx_object.specs.TagSpelling.{BeginsWithText, OpensSignature}
use Rattle.gx_object.specs.Laws.LineLemmas.{not_behind, same_behind}

-- The line with a kind.
pub no_type_line : (bytes : List ℕ) → HasNoLine bytes → IsNoTypeLine bytes
no_type_line bytes none kind rest has = none (codes "type " ++ kind_name kind) rest has

pub no_type_word : (bytes line rest : List ℕ) → HasLine bytes line rest → IsNotBehind (codes "type ") line → IsNoTypeLine bytes
no_type_word bytes line rest has none kind more other = not_behind bytes line rest (codes "type ") has none (kind_name kind) more other

pub named_kind : (kind : Kind) → kind_named (kind_name kind) ≡ Some kind
named_kind Blob = refl
named_kind Tree = refl
named_kind Commit = refl
named_kind Tag = refl

pub no_type_name : (bytes line rest text : List ℕ) → HasLine bytes line rest → line ≡ codes "type " ++ text → None ≡ kind_named text → IsNoTypeLine bytes
no_type_name bytes line rest text has is none kind more other =
    let same : text ≡ kind_name kind = same_behind bytes line rest (codes "type ") text has is (kind_name kind) more other in
    let h : None ≡ Some kind = none ∙ ap kind_named same ∙ named_kind kind in
    absurd (cc)

-- The line with a name.
pub no_name_line : (bytes : List ℕ) → HasNoLine bytes → IsNoNameLine bytes
no_name_line bytes none name rest is has = none (codes "tag " ++ name) rest has

pub no_name_word : (bytes line rest : List ℕ) → HasLine bytes line rest → IsNotBehind (codes "tag ") line → IsNoNameLine bytes
no_name_word bytes line rest has none name more is other = not_behind bytes line rest (codes "tag ") has none name more other

empty_text : (text : List ℕ) → length text ≡ 0 → text ≡ []
empty_text [] e = refl
empty_text (b ∷ bs) e = absurd (omega (arith, e))

pub no_empty_name : (bytes line rest text : List ℕ) → HasLine bytes line rest → line ≡ codes "tag " ++ text → length text ≡ 0 → IsNoNameLine bytes
no_empty_name bytes line rest text has is none name more named other =
    named.0 (sym (same_behind bytes line rest (codes "tag ") text has is name more other) ∙ empty_text text none)

-- no marker stands in front
pub opens_none : (text : List ℕ) → (BeginsWithText text (codes "-----BEGIN PGP SIGNATURE-----") → ⊥) → (BeginsWithText text (codes "-----BEGIN PGP MESSAGE-----") → ⊥)
    → (BeginsWithText text (codes "-----BEGIN SSH SIGNATURE-----") → ⊥) → (BeginsWithText text (codes "-----BEGIN SIGNED MESSAGE-----") → ⊥) → OpensSignature text → ⊥
opens_none text a b d e (inl p) = a p
opens_none text a b d e (inr (inl p)) = b p
opens_none text a b d e (inr (inr (inl p))) = d p
opens_none text a b d e (inr (inr (inr p))) = e p

pub opens_last : (text : List ℕ) (here : Bool) → (BeginsWithText text (codes "-----BEGIN PGP SIGNATURE-----") → ⊥) → (BeginsWithText text (codes "-----BEGIN PGP MESSAGE-----") → ⊥)
    → (BeginsWithText text (codes "-----BEGIN SSH SIGNATURE-----") → ⊥) → MatchBool here (BeginsWithText text (codes "-----BEGIN SIGNED MESSAGE-----")) (BeginsWithText text (codes "-----BEGIN SIGNED MESSAGE-----") → ⊥)
    → MatchBool here (OpensSignature text) (OpensSignature text → ⊥)
opens_last text true a b d e = inr (inr (inr e))
opens_last text false a b d e = opens_none text a b d e
