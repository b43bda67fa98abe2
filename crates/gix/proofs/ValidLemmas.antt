-- A valid request may be made: what is said of paths is said of the entries of its trees.
use Rattle.std.proofs.Common.{◌≡◌, ◌≢◌, ◌∙◌, sym, ap, refl, subst, arith, List, [], ◌∷◌, ◌++◌, map, length, ℕ, suc, Bool, true, false, not, ◌&&◌, ◌==◌, eqb-true, cond, ◌||◌, Option, Some, None, inl, inr, ◌⊎◌, Contains}
use Rattle.std.specs.List.{AllByRecursion, list_all}
use Rattle.gx_hash.specs.ObjectIds.{has_id}
use Rattle.gx_rules.specs.Component.{IsComponent}
use Rattle.gx_rules.specs.declared.component_error.ComponentError.TheVariants as rule
use Rattle.gx_rules.specs.declared.component_rules.Protect.{Protect}
use Rattle.gx_object.specs.declared.kind.Kind.{Kind}
use Rattle.gx_object.specs.declared.kind.Kind.TheVariants as kind
use Rattle.gx_object.specs.declared.tree.Entry.{Entry}
use Rattle.gx_object.specs.declared.tree.EntryKind.TheVariants as entry_kind
use Rattle.gx_object.specs.Mode.{mode_of, kind_of_mode}
use Rattle.gx_object.specs.Tree.{is_writable_filename}
use Rattle.gx_store.specs.Content.{IsStored, id_of}
use Rattle.gx_edit.specs.Path.{Path, path_eq, leads_to, components}
use Rattle.gx_edit.specs.PathMap.{PathMap, put, dropped, with_edit, edited, file_mode, blob_id, blobs_in, blobs_of}
use Rattle.gx_edit.specs.Entries.{IsSafe, is_link, is_link_kind}
use Rattle.gx_edit.specs.LawsView.{IsLeafOf, IsTreeOf}
use Rattle.gx_edit.specs.Output.{Output}
use Rattle.gx_edit.specs.StandsForMap.{StandsForMap}
use Rattle.gx_edit.specs.declared.leaf.Leaf.{Leaf}
use Rattle.gx_edit.specs.declared.path_edit.PathEdit.{PathEdit}
use Rattle.gx_edit.specs.declared.path_edit.PathEdit.TheVariants as edit
use Rattle.gix.specs.declared.settings.Settings.{Settings}
use Rattle.gix.specs.CommitRequest.{CommitRequest}
use Rattle.gix.specs.View.{State, whole}
use Rattle.gix.specs.Trees.{Makes, IsFound, brought}
use Rattle.gix.specs.LawsBelow.{LawsBelow}
use Rattle.gix.specs.NewCommit.{commit_id}
use Rattle.gix.specs.Admission.{AreComponents, IsAdmitted, IsValidCommit}
use Rattle.gix.proofs.Lists.{all_at, all_of, is_found, in_mapped, in_front, in_back}
use Rattle.gix.proofs.StandingLemmas.{end_stands}

no_leaf : (x : Leaf) → ◌≡◌ {A = Option Leaf} None (Some x) → ⊥
no_leaf x same = cc

-- ---- names that may be checked out

-- the name may be checked out, and holds no zero byte
abbrev IsFit : Protect → Bool → List ℕ → Type 0
IsFit protect link n = IsComponent n link protect × (Contains n 0 → ⊥)

module _ (protect : Protect) where
  fit_last : (link : Bool) (p : Path) (n : List ℕ) → AreComponents protect link (p ++ n ∷ []) → IsFit protect link n
  fit_last link [] n h = h
  fit_last link (m ∷ []) n h = h.2
  fit_last link (m ∷ c ∷ p) n h = fit_last link (c ∷ p) n h.2

  fit_first : (link : Bool) (n c : List ℕ) (q : Path) → AreComponents protect link (n ∷ c ∷ q) → IsFit protect false n
  fit_first link n c q h = (h.0, h.1)

  fit_inner : (link : Bool) (p : Path) (n c : List ℕ) (q : Path) → AreComponents protect link (p ++ n ∷ c ∷ q) → IsFit protect false n
  fit_inner link [] n c q h = (h.0, h.1)
  fit_inner link (m ∷ []) n c q h = (h.2.0, h.2.1)
  fit_inner link (m ∷ d ∷ p) n c q h = fit_inner link (d ∷ p) n c q h.2

no_zero : (n : List ℕ) → (Contains n 0 → ⊥) → list_all (λ b. not (b == 0)) n ≡ true
no_zero [] none = refl
no_zero (b ∷ n) none = go (b == 0) refl (no_zero n (λ h. none (suc h.0, (let less = h.1 in omega arith), h.2)))
  where
    go : (t : Bool) → (b == 0) ≡ t → list_all (λ b. not (b == 0)) n ≡ true → (not t && list_all (λ b. not (b == 0)) n) ≡ true
    go true e more = absurd (none (0, omega arith, eqb-true b 0 e))
    go false e more = more

writable : (protect : Protect) (link : Bool) (n : List ℕ) → IsFit protect link n → is_writable_filename n ≡ true
writable protect link [] fit = absurd (fit.0 rule.Empty refl)
writable protect link (b ∷ n) fit = go (length (b ∷ n) == 0) refl
  where
    go : (t : Bool) → (length (b ∷ n) == 0) ≡ t → (not t && list_all (λ b. not (b == 0)) (b ∷ n)) ≡ true
    go true e = absurd (let none = eqb-true (length (b ∷ n)) 0 e in omega (arith, none))
    go false e = no_zero (b ∷ n) fit.1

-- ---- what the leaves name

module _ (state : State) (objects : List (Kind × List ℕ)) where
  -- the object is among those
  abbrev Has : Kind × List ℕ → Type 0
  Has one = has_id (map (id_of state.hash) objects) (id_of state.hash one) ≡ true

  abbrev IsFoundAt : Leaf → Type 0
  IsFoundAt x = kind_of_mode x.mode.value ≢ entry_kind.Commit → IsStored state.content x.id ⊎ (has_id (map (id_of state.hash) objects) x.id ≡ true)

  put_found : (m : PathMap) (at : Path) (leaf : Leaf) → ((p : Path) (x : Leaf) → m p ≡ Some x → IsFoundAt x) → IsFoundAt leaf → (q : Path) (x : Leaf) → put m at leaf q ≡ Some x → IsFoundAt x
  put_found m at leaf found new q x h = go (path_eq at q) (leads_to at q || leads_to q at) h
    where
      one : (y x : Leaf) → ◌≡◌ {A = Option Leaf} (Some y) (Some x) → y ≡ x
      one y x same = cc

      go : (s t : Bool) → cond s (Some leaf) (cond t None (m q)) ≡ Some x → IsFoundAt x
      go true t is = subst IsFoundAt (one leaf x is) new
      go false true is = absurd (no_leaf x is)
      go false false is = found q x is

  dropped_found : (m : PathMap) (at : Path) → ((p : Path) (x : Leaf) → m p ≡ Some x → IsFoundAt x) → (q : Path) (x : Leaf) → dropped m at q ≡ Some x → IsFoundAt x
  dropped_found m at found q x h = go (leads_to at q) h
    where
      go : (t : Bool) → cond t None (m q) ≡ Some x → IsFoundAt x
      go true is = absurd (no_leaf x is)
      go false is = found q x is

  edit_found : (m : PathMap) (one : PathEdit) → ((p : Path) (x : Leaf) → m p ≡ Some x → IsFoundAt x) → ((object : Kind × List ℕ) → Contains (blobs_in one) object → Has object) → (p : Path) (x : Leaf) → with_edit state.hash m one p ≡ Some x → IsFoundAt x
  edit_found m (edit.File path bytes executable) found new = put_found m (components path) (record { mode = record { value = file_mode executable }; id = blob_id state.hash bytes }) found (λ other. inr (new (kind.Blob, bytes) (0, omega arith, refl)))
  edit_found m (edit.Link path bytes) found new = put_found m (components path) (record { mode = record { value = mode_of entry_kind.Link }; id = blob_id state.hash bytes }) found (λ other. inr (new (kind.Blob, bytes) (0, omega arith, refl)))
  edit_found m (edit.Module path id) found new = put_found m (components path) (record { mode = record { value = mode_of entry_kind.Commit }; id = id }) found (λ other. absurd (other refl))
  edit_found m (edit.Remove path) found new = dropped_found m (components path) found

  edits_found : (edits : List PathEdit) (m : PathMap) → ((p : Path) (x : Leaf) → m p ≡ Some x → IsFoundAt x) → ((object : Kind × List ℕ) → Contains (blobs_of edits) object → Has object) → (p : Path) (x : Leaf) → edited state.hash m edits p ≡ Some x → IsFoundAt x
  edits_found [] m found new = found
  edits_found (one ∷ edits) m found new = edits_found edits (with_edit state.hash m one) (edit_found m one found (λ object h. new object (in_front (blobs_in one) (blobs_of edits) object h))) (λ object h. new object (in_back (blobs_in one) (blobs_of edits) object h))

-- ---- a valid request

module _ (laws : LawsBelow) (settings : Settings) (r : CommitRequest) (state : State) (output : Output) (v : IsValidCommit settings r state) (m : Makes r (whole state) output) where
  stands : StandsForMap state.hash state.content m.end v.new_map
  stands = subst (StandsForMap state.hash state.content m.end) (sym v.edits.is_map) (end_stands laws r state v.edits.base m.end v.edits.is_base m.edits)

  -- an entry is a leaf of the new map, or a directory of it
  abbrev Stands : Entry → Type 0
  Stands entry = (p : Path) × (IsLeafOf v.new_map p entry ⊎ IsTreeOf state.hash state.content output v.new_map p entry)

  all_stand : AllByRecursion Stands output.entries
  all_stand = laws.entries state.hash state.content m.end v.new_map output stands m.written

  brought_has : (object : Kind × List ℕ) → Contains (brought r output) object → Has state (brought r output) object
  brought_has object h = is_found (map (id_of state.hash) (brought r output)) (id_of state.hash object) (in_mapped (id_of state.hash) (brought r output) object h)

  leaf_found : (p : Path) (x : Leaf) → v.new_map p ≡ Some x → IsFoundAt state (brought r output) x
  leaf_found p x h = edits_found state (brought r output) r.edits v.edits.base (λ q y at. λ other. inl (v.leaves q y at other))
      (λ object among. brought_has object (in_front (blobs_of r.edits) output.trees object among)) p x (sym (ap (λ (f : PathMap). f p) v.edits.is_map) ∙ h)

  tree_is_no_link : (mode : ℕ) → mode ≡ mode_of entry_kind.Tree → is_link_kind (kind_of_mode mode) ≡ false
  tree_is_no_link mode is = ap (λ k. is_link_kind (kind_of_mode k)) is

  fit : (entry : Entry) → Stands entry → IsFit settings.protect (is_link entry) entry.filename
  fit entry (p, inl leaf) = subst (λ k. IsFit settings.protect (is_link_kind (kind_of_mode k)) entry.filename) (ap (λ mode. mode.value) (sym leaf.mode))
      (fit_last settings.protect (is_link_kind (kind_of_mode leaf.leaf.mode.value)) p entry.filename (v.paths (p ++ entry.filename ∷ []) leaf.leaf leaf.there))
  fit entry (p, inr tree) = subst (λ t. IsFit settings.protect t entry.filename) (sym (tree_is_no_link entry.mode.value tree.mode))
      (fit_inner settings.protect (is_link_kind (kind_of_mode tree.leaf.mode.value)) p entry.filename tree.name tree.rest (v.paths (p ++ entry.filename ∷ tree.name ∷ tree.rest) tree.leaf tree.some))

  found : (entry : Entry) → Stands entry → IsFound (whole state) (brought r output) entry
  found entry (p, inl leaf) other = subst (λ id. IsStored state.content id ⊎ (has_id (map (id_of state.hash) (brought r output)) id ≡ true)) (sym leaf.id)
      (leaf_found (p ++ entry.filename ∷ []) leaf.leaf leaf.there (λ same. other (ap (λ mode. kind_of_mode mode.value) leaf.mode ∙ same)))
  found entry (p, inr tree) other = held tree.held
    where
      held : ((t : Kind × List ℕ) × Contains output.trees t × (entry.oid ≡ id_of state.hash t)) ⊎ IsStored state.content entry.oid → IsStored state.content entry.oid ⊎ (has_id (map (id_of state.hash) (brought r output)) entry.oid ≡ true)
      held (inl written) = inr (ap (has_id (map (id_of state.hash) (brought r output))) written.2 ∙ brought_has written.0 (in_back (blobs_of r.edits) output.trees written.0 written.1))
      held (inr stored) = inl stored

  pub admitted : IsAdmitted settings r (whole state) output
  admitted = record {
    objects = record {
      trees = record {
        makes = m;
        spelled = all_of (λ (entry : Entry). is_writable_filename entry.filename ≡ true) output.entries (λ entry among. writable settings.protect (is_link entry) entry.filename (fit entry (all_at Stands output.entries entry all_stand among)));
        safe = all_of (IsSafe (Some settings.protect)) output.entries (λ entry among. (fit entry (all_at Stands output.entries entry all_stand among)).0);
        found = all_of (IsFound (whole state) (brought r output)) output.entries (λ entry among. found entry (all_at Stands output.entries entry all_stand among));
      };
      identities = v.identities;
    };
    reference = v.reference (commit_id state.hash r output);
  }
