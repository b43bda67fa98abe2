-- Fronts of a commit.
use Rattle.std.proofs.Common.{◌≡◌, ◌∙◌, sym, ap, ℕ, List, ◌++◌, codes, append_assoc}
use Rattle.std.specs.List.{flat_map}
use Rattle.gx_hash.specs.declared.kind.HashKind.{HashKind}
use Rattle.gx_object.specs.IdentitySpelling.{IdentityText}
use Rattle.gx_hash.specs.IdDigits.{IsHexId}
use Rattle.gx_object.specs.CommitSpelling.{text_line}
use Rattle.gx_object.specs.CommitLines.{HasIdentityLine, HasParents}
use Rattle.gx_object.specs.Laws.CommitPlace.{tree_text, author_text}

-- a front grows by what follows it
pub further : (bytes front part rest more : List ℕ) → bytes ≡ front ++ rest → rest ≡ part ++ more → bytes ≡ (front ++ part) ++ more
further bytes front part rest more p q = p ∙ ap (λ l. front ++ l) q ∙ sym (append_assoc front part more)

abbrev pub HasTree : HashKind → List ℕ → List ℕ → List ℕ → Type 0
HasTree hash bytes tree rest = IsHexId hash tree × (bytes ≡ text_line (codes "tree ") tree ++ rest)

-- a front with its author
pub with_author : (hash : HashKind) (bytes tree r r' rest : List ℕ) (parents : List (List ℕ)) (who : IdentityText) → HasTree hash bytes tree r → HasParents hash r parents r'
    → (a : HasIdentityLine (codes "author ") r' who rest) → bytes ≡ author_text tree parents a.line ++ rest
with_author hash bytes tree r r' rest parents who t p a =
    further bytes (tree_text tree parents) (text_line (codes "author ") a.line) r' rest (further bytes (text_line (codes "tree ") tree) (flat_map (text_line (codes "parent ")) parents) r r' t.1 p.0.is) a.is
