-- What the directories of a request stand for, where its base has a path map.
use Rattle.std.proofs.Common.{◌≡◌, ◌∙◌, sym, ap, refl, subst, List, [], ◌∷◌, Bool, true, false, not, ◌&&◌, true≢false, Option, Some, None}
use Rattle.std.specs.List.{AllByRecursion}
use Rattle.gx_hash.specs.declared.oid.ObjectId.{ObjectId}
use Rattle.gx_object.specs.declared.tree.Entry.{Entry}
use Rattle.gx_edit.specs.Path.{components}
use Rattle.gx_edit.specs.PathList.{has_empty_name}
use Rattle.gx_edit.specs.PathMap.{PathMap, no_paths, edited, path_of}
use Rattle.gx_edit.specs.CanonicalTree.{Directory, StandsFor}
use Rattle.gx_edit.specs.Output.{Output}
use Rattle.gx_edit.specs.StandsForMap.{StandsForMap, HasMap, HasPlainNames}
use Rattle.gx_edit.specs.View as directories
use Rattle.gx_edit.specs.View.{only, names_of}
use Rattle.gx_edit.specs.declared.leaf.Leaf.{Leaf}
use Rattle.gx_edit.specs.declared.path_edit.PathEdit.{PathEdit}
use Rattle.gix.specs.declared.settings.Settings.{Settings}
use Rattle.gix.specs.CommitRequest.{CommitRequest}
use Rattle.gix.specs.View.{State, whole}
use Rattle.gix.specs.Base.{IsBaseTree, IsBase}
use Rattle.gix.specs.Trees.{EditsView, MayWrite, has_gap, have_names}
use Rattle.gix.specs.LawsBelow.{LawsBelow}
use Rattle.gix.proofs.OnceLemmas.{one_tree}

no_leaf : (x : Leaf) → ◌≡◌ {A = Option Leaf} None (Some x) → ⊥
no_leaf x same = cc

pub all_named : (edits : List PathEdit) → have_names edits ≡ true → AllByRecursion (λ (edit : PathEdit). has_empty_name (components (path_of edit)) ≡ false) edits
all_named [] h = tt
all_named (edit ∷ edits) h = (first (has_gap edit) (have_names edits) h, all_named edits (later (has_gap edit) (have_names edits) h))
  where
    first : (a b : Bool) → (not a && b) ≡ true → a ≡ false
    first false b h = refl
    first true b h = absurd (true≢false (sym h))

    later : (a b : Bool) → (not a && b) ≡ true → b ≡ true
    later false b h = h
    later true b h = absurd (true≢false (sym h))

module _ (laws : LawsBelow) (r : CommitRequest) (state : State) (base : PathMap) where
  -- the base's root
  root_stands : (parents : List ObjectId) (entries : List Entry) → IsBaseTree (whole state) parents entries → IsBase (whole state) parents base → StandsForMap state.hash state.content (only (names_of entries)) base
  root_stands [] entries is b =
      subst (StandsForMap state.hash state.content (only (names_of entries))) (sym b)
      (subst (λ es. StandsForMap state.hash state.content (only (names_of es)) no_paths) (sym is) (laws.empty state.hash state.content))
  root_stands (parent ∷ parents) entries is b =
      let same = one_tree state.hash state.content parent b.tree is.tree b.has_tree is.has_tree in
      laws.read state.hash state.content is.tree entries base is.has (subst (λ t. HasMap state.hash state.content t base) same b.has_map)

  pub base_stands : (entries : List Entry) → IsBaseTree (whole state) r.parents entries → IsBase (whole state) r.parents base → StandsForMap state.hash state.content (only (names_of entries)) base
  base_stands entries is b = root_stands r.parents entries is b

  -- and what the edits make of it
  pub end_stands : (end : directories.View) → IsBase (whole state) r.parents base → EditsView r (whole state) end → StandsForMap state.hash state.content end (edited state.hash base r.edits)
  end_stands end b e =
      let load = laws.exists state.hash state.content in
      subst (λ v. StandsForMap state.hash state.content v (edited state.hash base r.edits)) (sym (e.is_end load.0 load.1))
      (laws.edited state.hash state.content load.0 (only (names_of e.entries)) base r.edits load.1 e.own (base_stands e.entries e.is_base b))

  plain_base : (parents : List ObjectId) → IsBase (whole state) parents base → HasPlainNames base
  plain_base [] b p leaf at = absurd (no_leaf leaf (sym (ap (λ (m : PathMap). m p) b) ∙ at))
  plain_base (parent ∷ parents) b p leaf at = laws.plain state.hash state.content b.tree base b.has_map.represents p leaf at

  pub end_plain : IsBase (whole state) r.parents base → have_names r.edits ≡ true → HasPlainNames (edited state.hash base r.edits)
  end_plain b named = laws.edits_plain state.hash base r.edits (plain_base r.parents b) (all_named r.edits named)

  -- the trees that may be written have a directory
  pub end_directory : (settings : Settings) (output : Output) → IsBase (whole state) r.parents base → MayWrite settings r (whole state) output → (directory : Directory) × StandsFor directory (edited state.hash base r.edits)
  end_directory settings output b w =
      let e = w.makes.edits in
      laws.directory state.hash state.content w.makes.end (edited state.hash base r.edits) output (end_stands w.makes.end b e) w.makes.written (end_plain b e.named) w.spelled
