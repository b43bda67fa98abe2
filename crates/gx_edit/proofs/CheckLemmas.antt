-- Passes over entries.
use Rattle.std.proofs.Common.{◌≡◌, ◌+◌, ◌<◌, ℕ, Bool, true, false, List, ◌∷◌, length, drop, get_or, refl, sym, ap, ◌∙◌, subst, add-one, drop-cons}
use Rattle.std.specs.Prelude.{◌↔◌, IsTrue}
use Rattle.std.specs.List.{AllByRecursion}
use Rattle.gx_object.specs.declared.tree.EntryKind.{EntryKind}
use Rattle.gx_object.specs.declared.tree.EntryKind.TheVariants.{Tree, Blob, BlobExecutable, Link, Commit}
use Rattle.gx_edit.specs.Entries.{is_link_kind}

pub link_is : (b : Bool) (k : EntryKind) → (IsTrue b ↔ (k ≡ Link)) → b ≡ is_link_kind k
link_is true Link h = refl
link_is true Tree h = let no : Tree ≡ Link = h.0 refl in cc
link_is true Blob h = let no : Blob ≡ Link = h.0 refl in cc
link_is true BlobExecutable h = let no : BlobExecutable ≡ Link = h.0 refl in cc
link_is true Commit h = let no : Commit ≡ Link = h.0 refl in cc
link_is false Link h = let no : false ≡ true = h.1 refl in cc
link_is false Tree h = refl
link_is false Blob h = refl
link_is false BlobExecutable h = refl
link_is false Commit h = refl

-- one more passes
pub all_but : {X : Type 0} (P : X → Type 0) (xs : List X) (i : ℕ) (x : X) → i < length xs → x ≡ get_or xs i x → P x → (AllByRecursion P (drop i xs) → AllByRecursion P xs) → AllByRecursion P (drop (i + 1) xs) → AllByRecursion P xs
all_but P xs i x within is one before rest =
    before (subst (AllByRecursion P) (ap (λ y. y ∷ drop (i + 1) xs) is ∙ ap (λ k. get_or xs i x ∷ drop k xs) (add-one i) ∙ sym (drop-cons xs i x within)) (one, rest))
