-- A tree of which nothing is loaded but its root is written as it was read.
use Rattle.std.proofs.Common.{◌≡◌, ◌∙◌, inl, inr, sym, ap, refl, subst, cond, List, [], ◌∷◌, ℕ, Bool, true, false, true≢false, Option, Some, None}
use Rattle.std.specs.Str.{bytes_eq}
use Rattle.std.specs.List.{AllByRecursion}
use Rattle.std.specs.FinMap.{get, insert, get-empty}
use Rattle.gx_hash.specs.declared.kind.HashKind.{HashKind}
use Rattle.gx_rules.specs.Name.{name_cmp}
use Rattle.gx_object.specs.declared.tree.EntryKind.TheVariants as entry_kind
use Rattle.gx_object.specs.Mode.{mode_of}
use Rattle.gx_edit.specs.CanonicalTree.{Directory, IsCanonical, entries_of, entries_within, root_of}
use Rattle.gx_edit.specs.CanonicalTree.Directory.{End, File, Sub}
use Rattle.gx_edit.specs.View.{Names, names_of, only}
use Rattle.gx_edit.specs.StandsForMap.{item_of}
use Rattle.gx_edit.specs.Written.{IsListOf, IsWritten, entry_for, entry_in, entry_with}
use Rattle.gx_edit.specs.Written.IsWritten.{written}
use Rattle.gx_edit.specs.declared.editor.item.Item.{Item}
use Rattle.gx_edit.proofs.PathLemmas.{bytes_eq-is}
use Rattle.gx_edit.proofs.EntryOrder.{All-behind}
use Rattle.gx_edit.proofs.DirectoryParts.{Part, IsOwnPart, part_at, entry_of_part, entry_at, entries_listed}
use Rattle.gx_edit.proofs.FreshView.{NotNull, All-before}
use Rattle.gx_edit.proofs.NamesLemmas.{inserted_here, inserted_elsewhere, not_null_is}

module _ (hash : HashKind) where
  -- the item of a part
  abbrev item_of_part : Part → Option Item
  item_of_part None = None
  item_of_part (Some (inl x)) = Some (item_of x)
  item_of_part (Some (inr inner)) = Some (record { mode = record { value = mode_of entry_kind.Tree }; id = root_of hash inner })

  abbrev read : Directory → Names
  read d = names_of (entries_of hash d)

  item_there : (d : Directory) (n : List ℕ) → get (read d) n ≡ item_of_part (part_at d n)
  item_there End n = get-empty name_cmp n
  item_there (File m x rest) n = go (bytes_eq m n) refl (item_there rest n)
    where
      go : (t : Bool) → bytes_eq m n ≡ t → get (read rest) n ≡ item_of_part (part_at rest n) → get (insert (read rest) m (item_of x)) n ≡ item_of_part (cond t (Some (inl x)) (part_at rest n))
      go true e ih = ap (get (insert (read rest) m (item_of x))) (sym (bytes_eq-is m n e)) ∙ inserted_here (read rest) m (item_of x)
      go false e ih = inserted_elsewhere (read rest) m n (item_of x) e ∙ ih
  item_there (Sub m inner rest) n = go (bytes_eq m n) refl (item_there rest n)
    where
      it : Item
      it = record { mode = record { value = mode_of entry_kind.Tree }; id = root_of hash inner }

      go : (t : Bool) → bytes_eq m n ≡ t → get (read rest) n ≡ item_of_part (part_at rest n) → get (insert (read rest) m it) n ≡ item_of_part (cond t (Some (inr inner)) (part_at rest n))
      go true e ih = ap (get (insert (read rest) m it)) (sym (bytes_eq-is m n e)) ∙ inserted_here (read rest) m it
      go false e ih = inserted_elsewhere (read rest) m n it e ∙ ih

  own_part : (d : Directory) (n : List ℕ) → AllByRecursion NotNull (entries_within hash d) → IsOwnPart hash (part_at d n)
  own_part End n own = tt
  own_part (File m x rest) n own = go (bytes_eq m n) (own_part rest n own.1)
    where
      go : (t : Bool) → IsOwnPart hash (part_at rest n) → IsOwnPart hash (cond t (Some (inl x)) (part_at rest n))
      go true ih = own.0
      go false ih = ih
  own_part (Sub m inner rest) n own = go (bytes_eq m n) (own_part rest n behind.1)
    where
      behind : AllByRecursion NotNull (record { mode = record { value = mode_of entry_kind.Tree }; filename = m; oid = root_of hash inner } ∷ entries_within hash rest)
      behind = All-behind NotNull (entries_within hash inner) _ own

      go : (t : Bool) → IsOwnPart hash (part_at rest n) → IsOwnPart hash (cond t (Some (inr inner)) (part_at rest n))
      go true ih = (All-before NotNull (entries_within hash inner) _ own, behind.0)
      go false ih = ih

  part_entry : (n : List ℕ) (part : Part) → IsOwnPart hash part → entry_of_part hash n part ≡ entry_for hash n (item_of_part part) None
  part_entry n None own = refl
  part_entry n (Some (inl x)) own = sym (ap (λ t. cond t None (Some (entry_with n (item_of x) x.id))) (not_null_is x.id own))
  part_entry n (Some (inr inner)) own = sym (ap (λ t. cond t None (Some (entry_with n it (root_of hash inner)))) (not_null_is (root_of hash inner) own.1))
    where
      it : Item
      it = record { mode = record { value = mode_of entry_kind.Tree }; id = root_of hash inner }

  pub written_as_read : (d : Directory) → IsCanonical d → AllByRecursion NotNull (entries_within hash d) → IsWritten hash (only (read d)) (entries_of hash d)
  written_as_read d ok own = written (only (read d)) (read d) (λ n. []) (entries_of hash d) refl (λ n there. absurd (true≢false (sym there)))
      (subst (λ look. IsListOf look (entries_of hash d)) (λ i n. same n i) (entries_listed hash d ok))
    where
      same : (n : List ℕ) → entry_at hash d n ≡ entry_in hash (only (read d)) (read d) (λ n. []) n
      same n = part_entry n (part_at d n) (own_part d n own) ∙ ap (λ o. entry_for hash n o None) (sym (item_there d n))
