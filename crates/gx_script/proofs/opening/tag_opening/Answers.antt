use Rattle.std.proofs.Common.{◌≡◌, ◌∙◌, sym, ap, subst, refl, arith, ℕ, List, [], ◌∷◌, ◌++◌, length, codes}
use Rattle.gx_hash.specs.ObjectId.{hex_of}
use Rattle.gx_hash.specs.declared.kind.HashKind.{HashKind}
use Rattle.gx_hash.specs.declared.oid.ObjectId.{ObjectId}
use Rattle.gx_object.specs.Kind.{kind_name}
use Rattle.gx_object.specs.declared.kind.Kind.{Kind}
use Rattle.gx_script.specs.declared.opening.Opening.TheVariants as opening
use Rattle.gx_script.specs.Fields.{IsId}
use Rattle.gx_script.specs.Grammar.{SaysOpening}
use Rattle.gx_script.specs.Items.{NoNewline}
use Rattle.gx_script.specs.Lines.{IsTriple}
use Rattle.gx_script.proofs.FieldLemmas.{no_tag, no_tag_id, no_tag_kind, no_tag_name}
use Rattle.gx_script.proofs.LineLemmas.{without_front, without_back}
use Rattle.gx_script.proofs.opening.tag_opening.Goals as goal

empty : (xs : List ℕ) → length xs ≡ 0 → xs ≡ []
empty [] e = refl
empty (x ∷ xs) e = absurd (omega arith)

is_tag : (hash : HashKind) (line a b c name : List ℕ) (target : ObjectId) (kind : Kind) → NoNewline line → IsTriple (codes "tag ") line a b c → (a ≡ [] → ⊥) → IsId hash target → b ≡ hex_of target → c ≡ kind_name kind → name ≡ a → SaysOpening hash (opening.Tag name target kind) line
is_tag hash line a b c name target kind open_line p some fits e f same =
    let tail : NoNewline (a ++ 32 ∷ (b ++ 32 ∷ c)) = without_back 10 (codes "tag ") (a ++ 32 ∷ (b ++ 32 ∷ c)) (subst NoNewline p.is open_line) in
    subst (λ (n : List ℕ). SaysOpening hash (opening.Tag n target kind) line) (sym same) (
      (some, record { whole = p.whole; open_line = without_front 10 a (32 ∷ (b ++ 32 ∷ c)) tail }, fits),
      p.is ∙ ap (λ (l : List ℕ). codes "tag " ++ (a ++ 32 ∷ (l ++ 32 ∷ c))) e ∙ ap (λ (l : List ℕ). codes "tag " ++ (a ++ 32 ∷ (hex_of target ++ 32 ∷ l))) f,
    )

pub returns-in_default : goal.returns-in_default
returns-in_default c = no_tag c.args.hash c.args.line.now c.in_default.ensures

pub returns-in_default-object_id : goal.returns-in_default-object_id
returns-in_default-object_id c = no_tag_id c.args.hash c.args.line.now c.in-Some.name.now c.in-Some.hex.now c.in-Some.word.now c.in-Some.ensures c.in_default-object_id.ensures

pub returns-in_default-kind : goal.returns-in_default-kind
returns-in_default-kind c = no_tag_kind c.args.hash c.args.line.now c.in-Some.name.now c.in-Some.hex.now c.in-Some.word.now c.in-Some.ensures c.in_default-kind.ensures

pub returns-then-is_empty : goal.returns-then-is_empty
returns-then-is_empty c = no_tag_name c.args.hash c.args.line.now c.in-Some.name.now c.in-Some.hex.now c.in-Some.word.now c.in-Some.ensures (empty c.in-Some.name.now (grind (arith, c.is_empty.ensures, c.if-is_empty.true)))

pub returns : goal.returns
returns c = is_tag c.args.hash c.args.line.now c.in-Some.name.now c.in-Some.hex.now c.in-Some.word.now c.in_ok-name.name c.in-Some-object_id.target c.in-Some-kind.kind c.requires c.in-Some.ensures
    (λ none. let long : length c.in-Some.name.now ≡ 0 = ap length none in absurd (grind (arith, c.is_empty.ensures, c.if-is_empty.false)))
    c.in-Some-object_id.ensures.0 c.in-Some-object_id.ensures.1 c.in-Some-kind.ensures c.in_ok-name.ensures
