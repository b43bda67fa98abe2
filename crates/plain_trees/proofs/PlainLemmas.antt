-- Steps of the plain program over edits, paths and directories.
use Rattle.std.proofs.Common.{◌≡◌, ◌⊎◌, inl, inr, ℕ, ◌+◌, ◌<◌, Bool, true, false, ◌&&◌, ◌||◌, cond, List, [], ◌∷◌, ◌++◌, length, take, get_or, append_assoc, Option, Some, None, refl, sym, ap, ◌∙◌, subst, true≢false}
use Rattle.std.specs.List.{AllByRecursion}
use Rattle.std.specs.Str.{bytes_eq}
use Rattle.std.specs.Cmp.Lexicographic.{pointwise_decides, bytes_decides}
use Rattle.std.proofs.lemmas.List.{take_more, append-nil}
use Rattle.gx_hash.specs.declared.kind.HashKind.{HashKind}
use Rattle.gx_object.specs.declared.kind.Kind.{Kind}
use Rattle.gx_edit.specs.Path.{Path, path_eq, leads_to, components}
use Rattle.gx_edit.specs.declared.leaf.Leaf.{Leaf}
use Rattle.gx_edit.specs.declared.path_edit.PathEdit.{PathEdit}
use Rattle.gx_edit.specs.PathMap.{PathMap, no_paths, put, with_edit, edited, blobs_in, blobs_of, path_of}
use Rattle.gx_edit.specs.CanonicalTree.{Directory, leaf_at, IsCanonical, StandsFor}
use Rattle.gx_edit.specs.CanonicalTree.Directory.{End, File, Sub}
use Rattle.gx_edit.specs.declared.path_edit.PathEdit.TheVariants as edit
use Rattle.plain_trees.specs.Plain.{StandsIn, AgreesAt}

path_eq-is : (p q : Path) → path_eq p q ≡ true → p ≡ q
path_eq-is p q = (pointwise_decides bytes_decides p q).0

bytes_eq-is : (a b : List ℕ) → bytes_eq a b ≡ true → a ≡ b
bytes_eq-is a b = (bytes_decides a b).0

-- no leaf stands at the root of a directory
leaf_at-root : (d : Directory) → leaf_at d [] ≡ None
leaf_at-root End = refl
leaf_at-root (File n x rest) = refl
leaf_at-root (Sub n inner rest) = refl

edited-snoc : (hash : HashKind) (m : PathMap) (es : List PathEdit) (e : PathEdit) → edited hash m (es ++ e ∷ []) ≡ with_edit hash (edited hash m es) e
edited-snoc hash m [] e = refl
edited-snoc hash m (x ∷ es) e = edited-snoc hash (with_edit hash m x) es e

-- one edit more
pub edits_more : (hash : HashKind) (es : List PathEdit) (i : ℕ) (e : PathEdit) (p : Path) (old new : Option Leaf) → i < length es → e ≡ get_or es i e → old ≡ edited hash no_paths (take i es) p
    → ((m : PathMap) → m p ≡ old → new ≡ with_edit hash m e p) → new ≡ edited hash no_paths (take (i + 1) es) p
edits_more hash es i e p old new within is before step =
    step (edited hash no_paths (take i es)) (sym before)
    ∙ ap (λ (m : PathMap). m p) (sym (edited-snoc hash no_paths (take i es) e))
    ∙ ap (λ l. edited hash no_paths l p) (sym (take_more es i e within ∙ ap (λ x. take i es ++ x ∷ []) (sym is)))

blobs_of-snoc : (es : List PathEdit) (e : PathEdit) → blobs_of (es ++ e ∷ []) ≡ blobs_of es ++ blobs_in e
blobs_of-snoc [] e = append-nil (blobs_in e)
blobs_of-snoc (x ∷ es) e = ap (λ l. blobs_in x ++ l) (blobs_of-snoc es e) ∙ sym (append_assoc (blobs_in x) (blobs_of es) (blobs_in e))

-- the blobs of one edit more
pub blobs_more : (es : List PathEdit) (i : ℕ) (e : PathEdit) (old new : List (Kind × List ℕ)) → i < length es → e ≡ get_or es i e → old ≡ blobs_of (take i es) → new ≡ old ++ blobs_in e → new ≡ blobs_of (take (i + 1) es)
blobs_more es i e old new within is before more =
    more ∙ ap (λ l. l ++ blobs_in e) before ∙ sym (blobs_of-snoc (take i es) e) ∙ ap blobs_of (sym (take_more es i e within ∙ ap (λ x. take i es ++ x ∷ []) (sym is)))

-- the leaf at a path of a directory that begins with a file
pub at_file : (n : List ℕ) (leaf : Leaf) (rest : Directory) (p : Path) → leaf_at (File n leaf rest) p ≡ cond (path_eq (n ∷ []) p) (Some leaf) (leaf_at rest p)
at_file n leaf rest [] = sym (leaf_at-root rest)
at_file n leaf rest (c ∷ []) = go (bytes_eq n c)
  where
    go : (t : Bool) → cond t (Some leaf) (leaf_at rest (c ∷ [])) ≡ cond (t && true) (Some leaf) (leaf_at rest (c ∷ []))
    go true = refl
    go false = refl
at_file n leaf rest (c ∷ d ∷ p) = go (bytes_eq n c)
  where
    go : (t : Bool) → leaf_at rest (c ∷ d ∷ p) ≡ cond (t && false) (Some leaf) (leaf_at rest (c ∷ d ∷ p))
    go true = refl
    go false = refl

-- the leaf at a path of a directory that begins with a file of another name
pub behind_file : (d : Directory) (n : List ℕ) (leaf : Leaf) (rest : Directory) (p : Path) (only : Bool) → d ≡ File n leaf rest → only ≡ path_eq (n ∷ []) p → only ≡ false → leaf_at rest p ≡ leaf_at d p
behind_file d n leaf rest p only is same other = subst (λ e. leaf_at rest p ≡ leaf_at e p) (sym is) (sym (at_file n leaf rest p ∙ ap (λ t. cond t (Some leaf) (leaf_at rest p)) (sym same ∙ other)))

-- no leaf stands at the root itself
pub sub_root : (p : Path) → length p ≡ 0 → (n : List ℕ) (inner rest : Directory) → leaf_at (Sub n inner rest) p ≡ leaf_at rest p
sub_root [] h n inner rest = sym (leaf_at-root rest)
sub_root (c ∷ p) h n inner rest = cc

-- ---- a directory that stands for what edits leave

pub in_end : (m : PathMap) (above : Path) → StandsIn m above End
in_end m above p x h = cc

pub in_file : (m : PathMap) (above : Path) (n : List ℕ) (leaf : Leaf) (rest : Directory) → m (above ++ n ∷ []) ≡ Some leaf → StandsIn m above rest → StandsIn m above (File n leaf rest)
in_file m above n leaf rest here others p x h = go (path_eq (n ∷ []) p) refl (sym (at_file n leaf rest p) ∙ h)
  where
    go : (t : Bool) → path_eq (n ∷ []) p ≡ t → cond t (Some leaf) (leaf_at rest p) ≡ Some x → m (above ++ p) ≡ Some x
    go true e k = subst (λ q. m (above ++ q) ≡ Some x) (path_eq-is (n ∷ []) p e) (here ∙ k)
    go false e k = others p x k

pub in_sub : (m : PathMap) (above : Path) (n : List ℕ) (inner rest : Directory) → StandsIn m (above ++ n ∷ []) inner → StandsIn m above rest → StandsIn m above (Sub n inner rest)
in_sub m above n inner rest below others [] x h = cc
in_sub m above n inner rest below others (c ∷ p) x h = go (bytes_eq n c) refl h
  where
    go : (t : Bool) → bytes_eq n c ≡ t → cond t (leaf_at inner p) (leaf_at rest (c ∷ p)) ≡ Some x → m (above ++ c ∷ p) ≡ Some x
    go true e k = subst (λ a. m (above ++ a ∷ p) ≡ Some x) (bytes_eq-is n c e) (ap m (sym (append_assoc above (n ∷ []) p)) ∙ below p x k)
    go false e k = others (c ∷ p) x k

-- none of the edits is made at the path
abbrev AreApart : Path → List PathEdit → Type 0
AreApart p edits = AllByRecursion (λ edit. path_eq (components (path_of edit)) p ≡ false) edits

put_none : (m : PathMap) (q : Path) (leaf : Leaf) (p : Path) → path_eq q p ≡ false → m p ≡ None → put m q leaf p ≡ None
put_none m q leaf p apart none = go (path_eq q p) (leads_to q p || leads_to p q) apart
  where
    go : (t u : Bool) → t ≡ false → cond t (Some leaf) (cond u None (m p)) ≡ None
    go true u e = absurd (true≢false e)
    go false true e = refl
    go false false e = none

with_edit_none : (hash : HashKind) (m : PathMap) (e : PathEdit) (p : Path) → path_eq (components (path_of e)) p ≡ false → m p ≡ None → with_edit hash m e p ≡ None
with_edit_none hash m (edit.File path bytes executable) p apart none = put_none m (components path) _ p apart none
with_edit_none hash m (edit.Link path bytes) p apart none = put_none m (components path) _ p apart none
with_edit_none hash m (edit.Module path id) p apart none = put_none m (components path) _ p apart none
with_edit_none hash m (edit.Remove path) p apart none = go (leads_to (components path) p)
  where
    go : (t : Bool) → cond t None (m p) ≡ None
    go true = refl
    go false = none

edited_none : (hash : HashKind) (m : PathMap) (es : List PathEdit) (p : Path) → AreApart p es → m p ≡ None → edited hash m es p ≡ None
edited_none hash m [] p apart none = none
edited_none hash m (e ∷ es) p apart none = edited_none hash (with_edit hash m e) es p apart.1 (with_edit_none hash m e p apart.0 none)

-- an edit is made at the path, or none is
find : (m : PathMap) (d : Directory) (es : List PathEdit) (p : Path) → AgreesAt m d es → (leaf_at d p ≡ m p) ⊎ AreApart p es
find m d [] p h = inr tt
find m d (e ∷ es) p h = go (path_eq (components (path_of e)) p) refl (find m d es p h.1)
  where
    go : (t : Bool) → path_eq (components (path_of e)) p ≡ t → (leaf_at d p ≡ m p) ⊎ AreApart p es → (leaf_at d p ≡ m p) ⊎ AreApart p (e ∷ es)
    go true q ih = inl (subst (λ x. leaf_at d x ≡ m x) (path_eq-is (components (path_of e)) p q) h.0)
    go false q (inl same) = inl same
    go false q (inr apart) = inr (q, apart)

pub stands : (hash : HashKind) (d : Directory) (es : List PathEdit) → IsCanonical d → StandsIn (edited hash no_paths es) [] d → AgreesAt (edited hash no_paths es) d es → StandsFor d (edited hash no_paths es)
stands hash d es canonical left agrees = record { canonical = canonical; leaves = λ p. go p (leaf_at d p) refl (find (edited hash no_paths es) d es p agrees) }
  where
    go : (p : Path) (found : Option Leaf) → leaf_at d p ≡ found → (leaf_at d p ≡ edited hash no_paths es p) ⊎ AreApart p es → leaf_at d p ≡ edited hash no_paths es p
    go p (Some x) e w = e ∙ sym (left p x e)
    go p None e (inl same) = same
    go p None e (inr apart) = e ∙ sym (edited_none hash no_paths es p apart refl)

-- what a directory's leaves stand in, by its first entry
pub ruleset standing = (in_end, in_file, in_sub)
