-- One directory more is planned, and the directories that the root leads to are marked.
use Rattle.std.proofs.Common.{◌≡◌, ◌∙◌, ◌<◌, sym, ap, refl, subst, cond, List, [], ◌∷◌, ◌++◌, ℕ, suc, Bool, true, false, Option, Some, None, IsSome, option_map, filter_map, length, map}
use Rattle.std.specs.Prelude.{slice_get}
use Rattle.std.specs.List.Sorted.{IsStrictlySortedBy, IsPermutation, IsSorted}
use Rattle.std.specs.FinMap.{from_entries}
use Rattle.gx_hash.specs.declared.kind.HashKind.{HashKind}
use Rattle.gx_hash.specs.declared.oid.ObjectId.{ObjectId}
use Rattle.gx_rules.specs.Name.{name_cmp}
use Rattle.gx_object.specs.declared.tree.Entry.{Entry}
use Rattle.gx_edit.specs.EditorPlan.{IsReached, IsPlannedFrom, id_done, id_for, id_if}
use Rattle.gx_edit.specs.Path.{Path}
use Rattle.gx_edit.specs.Nodes.{Place, AreLinked, inner_at, onward, walk, names_there, view_at}
use Rattle.gx_edit.specs.View.{View, below, is_null}
use Rattle.gx_edit.specs.Written.{IsWritten, entry_cmp, entry_for, entry_with}
use Rattle.gx_edit.specs.Written.IsWritten.{written}
use Rattle.gx_edit.specs.declared.editor.item.Item.{Item}
use Rattle.gx_edit.proofs.NodeLemmas.{walk_more}
use Rattle.gx_edit.proofs.SortedRows.{rows_listed}
use Rattle.gx_edit.proofs.WrittenEntries.{loaded}

-- what is planned of the directory that is loaded at a name
abbrev pub listed_in : (ℕ → List Entry) → Option ℕ → List Entry
listed_in listed None = []
listed_in listed (Some j) = listed j

module _ (hash : HashKind) (a : List Place) (links : AreLinked a) (k : ℕ) (listed : ℕ → List Entry) (order : List ℕ) (planned : IsPlannedFrom hash a (suc k) listed order) (reached : IsReached a k) where
  inner_reached : (n : List ℕ) (j : ℕ) → inner_at (slice_get a k) n ≡ Some j → IsReached a j
  inner_reached n j is = (reached.0 ++ n ∷ [], walk_more a 0 reached.0 k j n reached.1 is)

  abbrev rows_in : List ℕ → List Entry
  rows_in n = listed_in listed (inner_at (slice_get a k) n)

  inner_written : (n : List ℕ) → IsSome (view_at a k (n ∷ [])) → IsWritten hash (below (view_at a k) n) (rows_in n)
  inner_written n some = go (inner_at (slice_get a k) n) refl some
    where
      go : (o : Option ℕ) → inner_at (slice_get a k) n ≡ o → IsSome (names_there a (onward (λ inner. walk a inner []) o)) → IsWritten hash (below (view_at a k) n) (listed_in listed o)
      go None is some = cc
      go (Some j) is some =
          subst (λ (v : View). IsWritten hash v (listed j)) (λ i q. sym (ap (λ (o : Option ℕ). names_there a (onward (λ inner. walk a inner q) o)) is) i)
          (planned.written j (links.within k j n is).0 (inner_reached n j is))

  -- what is gathered from the names and sorted is what is written of the directory
  pub written_here : (es : List (List ℕ × Item)) (rows : List Entry) → view_at a k [] ≡ Some (from_entries es) → IsStrictlySortedBy name_cmp (map (λ (e : List ℕ × Item). e.0) es)
      → IsPermutation (filter_map (λ x. entry_for hash x.0 (Some x.1) (loaded (view_at a k (x.0 ∷ [])) (rows_in x.0))) es) rows → IsSorted entry_cmp rows → IsWritten hash (view_at a k) rows
  written_here es rows names sorted moved ordered =
      written (view_at a k) (from_entries es) rows_in rows names inner_written (rows_listed hash (view_at a k) rows_in es rows sorted moved ordered)

  -- the entry that the code makes of a name is the one that is written
  pub row_is : (done : List (Option ObjectId)) (n : List ℕ) (item : Item) → ((j : ℕ) → k < j → IsReached a j → (slice_get done j ≡ Some (id_if hash (listed j))) × IsSome (slice_get a j))
      → entry_for hash n (Some item) (loaded (view_at a k (n ∷ [])) (rows_in n)) ≡ option_map (entry_with n item) (id_for item (inner_at (slice_get a k) n) done)
  row_is done n item known = go (inner_at (slice_get a k) n) refl
    where
      placeholder : (t : Bool) → cond t None (Some (entry_with n item item.id)) ≡ option_map (entry_with n item) (cond t None (Some item.id))
      placeholder true = refl
      placeholder false = refl

      of_rows : (rows : List Entry) → entry_for hash n (Some item) (Some rows) ≡ option_map (entry_with n item) (id_if hash rows)
      of_rows [] = refl
      of_rows (entry ∷ entries) = refl

      there : (o : Option Place) (rows : List Entry) → IsSome o → loaded (option_map (λ (p : Place). p.names) o) rows ≡ Some rows
      there None rows some = cc
      there (Some p) rows some = refl

      go : (o : Option ℕ) → inner_at (slice_get a k) n ≡ o → entry_for hash n (Some item) (loaded (names_there a (onward (λ inner. walk a inner []) o)) (listed_in listed o)) ≡ option_map (entry_with n item) (id_for item o done)
      go None is = placeholder (is_null item.id)
      go (Some j) is =
          let h = known j (links.within k j n is).0 (inner_reached n j is) in
          ap (entry_for hash n (Some item)) (there (slice_get a j) (listed j) h.1) ∙ of_rows (listed j) ∙ ap (λ o. option_map (entry_with n item) (id_done o)) (sym h.0)

-- ---- marks

-- The root is marked; what is marked, the root leads to; and what is loaded in a marked directory before this place is
-- marked.
pub record AreMarked (a : List Place) (k : ℕ) (marks : List Bool) : Type 0 where
  pub len : length marks ≡ length a
  pub root : slice_get marks 0 ≡ Some true
  pub sound : (i : ℕ) → slice_get marks i ≡ Some true → IsReached a i
  pub inner : (i j : ℕ) (n : List ℕ) → i < k → slice_get marks i ≡ Some true → inner_at (slice_get a i) n ≡ Some j → slice_get marks j ≡ Some true

-- at the end all is marked that the root leads to
pub marked_all : (a : List Place) (links : AreLinked a) (marks : List Bool) → AreMarked a (length a) marks → (at : ℕ) (d : Path) (to : ℕ) → at < length a → slice_get marks at ≡ Some true → walk a at d ≡ Some to → slice_get marks to ≡ Some true
marked_all a links marks m at [] to less is e = subst (λ i. slice_get marks i ≡ Some true) (let same : at ≡ to = cc in same) is
marked_all a links marks m at (n ∷ d) to less is e = go (inner_at (slice_get a at) n) refl e (λ x. marked_all a links marks m x d to)
  where
    go : (o : Option ℕ) → inner_at (slice_get a at) n ≡ o → onward (λ inner. walk a inner d) o ≡ Some to → ((x : ℕ) → x < length a → slice_get marks x ≡ Some true → walk a x d ≡ Some to → slice_get marks to ≡ Some true) → slice_get marks to ≡ Some true
    go None step e ih = cc
    go (Some x) step e ih = ih x (links.within at x n step).1 (m.inner at x n less is step) e
