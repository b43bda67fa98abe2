-- The names on the paths of a map are not empty and hold no slash.
use Rattle.std.proofs.Common.{◌≡◌, ◌≢◌, ◌⊎◌, ◌∙◌, inl, inr, sym, ap, refl, subst, cond, List, [], ◌∷◌, ℕ, Bool, true, false, Option, Some, None, Contains}
use Rattle.std.specs.Str.{bytes_eq}
use Rattle.std.specs.List.{AllByRecursion}
use Rattle.gx_hash.specs.declared.kind.HashKind.{HashKind}
use Rattle.gx_edit.specs.Path.{Path, IsName, components}
use Rattle.gx_edit.specs.PathMap.{PathMap, put, dropped, edited, with_edit, path_of}
use Rattle.gx_edit.specs.PathList.{has_empty_name}
use Rattle.gx_edit.specs.CanonicalTree.{Directory, leaf_at, IsCanonical}
use Rattle.gx_edit.specs.CanonicalTree.Directory.{End, File, Sub}
use Rattle.gx_edit.specs.StandsForMap.{HasPlainNames}
use Rattle.gx_edit.specs.declared.leaf.Leaf.{Leaf}
use Rattle.gx_edit.specs.declared.path_edit.PathEdit.{PathEdit}
use Rattle.gx_edit.specs.declared.path_edit.PathEdit.TheVariants as edit
use Rattle.gx_edit.proofs.PathLemmas.{bytes_eq-is, PutCase, put_cases, dropped-some}
use Rattle.gx_edit.proofs.PathLemmas.PutCase.{same, near, apart}
use Rattle.gx_edit.proofs.KeptLemmas.{whole_path}
use Rattle.gx_edit.proofs.DirectoryParts.{Part, IsPart, part_at, part_is_part, leaf_in, leaf_of_part}

abbrev IsPlain : List ℕ → Type 0
IsPlain name = (name ≢ []) × (Contains name 47 → ⊥)

abbrev ArePlain : Path → Type 0
ArePlain p = AllByRecursion (λ name. (name ≢ []) × (Contains name 47 → ⊥)) p

-- ---- edits

put_plain : (m : PathMap) (p : Path) (leaf : Leaf) → HasPlainNames m → ArePlain p → HasPlainNames (put m p leaf)
put_plain m p leaf plain here q x at = go (put m p leaf q) (put_cases m p leaf q) at
  where
    go : (r : Option Leaf) → PutCase m p leaf q r → r ≡ Some x → ArePlain q
    go r (same e f) is = subst ArePlain e here
    go r (near h e) is = absurd (let gone : None ≡ Some x = sym e ∙ is in cc)
    go r (apart f g e) is = plain q x (sym e ∙ is)

dropped_plain : (m : PathMap) (p : Path) → HasPlainNames m → HasPlainNames (dropped m p)
dropped_plain m p plain q x at = plain q x (dropped-some m p q x at).1

edit_plain : (hash : HashKind) (m : PathMap) (one : PathEdit) → HasPlainNames m → ArePlain (components (path_of one)) → HasPlainNames (with_edit hash m one)
edit_plain hash m (edit.File path bytes executable) plain here = put_plain m (components path) _ plain here
edit_plain hash m (edit.Link path bytes) plain here = put_plain m (components path) _ plain here
edit_plain hash m (edit.Module path id) plain here = put_plain m (components path) _ plain here
edit_plain hash m (edit.Remove path) plain here = dropped_plain m (components path) plain

pub edits_plain : (hash : HashKind) (edits : List PathEdit) (m : PathMap) → HasPlainNames m → AllByRecursion (λ (one : PathEdit). has_empty_name (components (path_of one)) ≡ false) edits → HasPlainNames (edited hash m edits)
edits_plain hash [] m plain named = plain
edits_plain hash (one ∷ edits) m plain named = edits_plain hash edits (with_edit hash m one) (edit_plain hash m one plain (whole_path (path_of one) named.0).1) named.1

-- ---- directories

plain_of : (n : List ℕ) → IsName n → IsPlain n
plain_of n name = (name.not_empty, name.no_slash)

part_named : (d : Directory) (n : List ℕ) (part : Leaf ⊎ Directory) → IsCanonical d → part_at d n ≡ Some part → IsName n
part_named End n part ok is = cc
part_named (File m x rest) n part ok is = go (bytes_eq m n) refl is (λ more. part_named rest n part ok.2 more)
  where
    go : (t : Bool) → bytes_eq m n ≡ t → cond t (Some (inl x)) (part_at rest n) ≡ Some part → (part_at rest n ≡ Some part → IsName n) → IsName n
    go true e is later = subst IsName (bytes_eq-is m n e) ok.0
    go false e is later = later is
part_named (Sub m inner rest) n part ok is = go (bytes_eq m n) refl is (λ more. part_named rest n part ok.4 more)
  where
    go : (t : Bool) → bytes_eq m n ≡ t → cond t (Some (inr inner)) (part_at rest n) ≡ Some part → (part_at rest n ≡ Some part → IsName n) → IsName n
    go true e is later = subst IsName (bytes_eq-is m n e) ok.0
    go false e is later = later is

pub directory_plain : (p : Path) (d : Directory) (x : Leaf) → IsCanonical d → leaf_at d p ≡ Some x → ArePlain p
directory_plain [] d x ok at = tt
directory_plain (n ∷ q) d x ok at = go (part_at d n) refl (part_is_part d n ok) (λ inner fine more. directory_plain q inner x fine more)
  where
    look : (part : Part) → part_at d n ≡ part → leaf_in part q ≡ Some x
    look part is = sym (leaf_of_part d n q ok ∙ ap (λ y. leaf_in y q) is) ∙ at

    leaf_end : (y : Leaf) (q : Path) → leaf_in (Some (inl y)) q ≡ Some x → ArePlain q
    leaf_end y [] is = tt
    leaf_end y (c ∷ q) is = absurd (let gone : None ≡ Some x = is in cc)

    go : (part : Part) → part_at d n ≡ part → IsPart part → ((inner : Directory) → IsCanonical inner → leaf_at inner q ≡ Some x → ArePlain q) → ArePlain (n ∷ q)
    go None is sound deeper = absurd (let gone : None ≡ Some x = look None is in cc)
    go (Some (inl y)) is sound deeper = (plain_of n (part_named d n (inl y) ok is), leaf_end y q (look (Some (inl y)) is))
    go (Some (inr inner)) is sound deeper = (plain_of n (part_named d n (inr inner) ok is), deeper inner sound.1 (look (Some (inr inner)) is))
