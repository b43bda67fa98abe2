-- A valid request has no cause to be refused, and where the store has no fault it is made, but for lack of memory.
use Rattle.std.proofs.Common.{◌≡◌, ◌∙◌, sym, ap, refl, subst, List, [], ◌∷◌, true≢false, inl, inr}
use Rattle.gx_hash.specs.declared.oid.ObjectId.{ObjectId}
use Rattle.gx_object.specs.declared.encode.Field.{Field}
use Rattle.gx_object.specs.declared.encode.Field.TheVariants as field
use Rattle.gx_object.specs.declared.kind.Kind.{Kind}
use Rattle.gx_object.specs.declared.kind.Kind.TheVariants as kind
use Rattle.gx_store.specs.Content.{lookup}
use Rattle.gx_store.specs.State.{StoreState}
use Rattle.gx_store.specs.declared.error.What.{What}
use Rattle.gx_store.specs.declared.error.What.TheVariants as what
use Rattle.gx_edit.specs.Path.{components}
use Rattle.gx_edit.specs.PathMap.{PathMap, edited, path_of}
use Rattle.gx_edit.specs.Output.{Output}
use Rattle.gx_edit.specs.ReadMapCauses.IsAtOrBelow.{here}
use Rattle.gx_edit.specs.ReadMapCauses.HasNoMap.{spelling}
use Rattle.gx_edit.specs.StandsForMap.{HasMap}
use Rattle.gx_edit.specs.View.{only, names_of}
use Rattle.gx_edit.specs.ViewOfEdits.{edited_view}
use Rattle.gix.specs.declared.settings.Settings.{Settings}
use Rattle.gix.specs.declared.error.CommitEditsError.{CommitEditsError}
use Rattle.gix.specs.declared.error.CommitEditsError.TheVariants as error
use Rattle.gix.specs.CommitRequest.{CommitRequest}
use Rattle.gix.specs.View.{State, whole, view_of}
use Rattle.gix.specs.Base.{HasTree, IsBase, OfFirst}
use Rattle.gix.specs.Trees.{IsLoaded, Makes}
use Rattle.gix.specs.LawsBelow.{LawsBelow}
use Rattle.gix.specs.Admission.{IsValidCommit}
use Rattle.gix.specs.Causes.{IsReadAs, IsUnwritable, Cause, HasFault, IsFaultless, CommitEditsCauses}
use Rattle.gix.proofs.OnceLemmas.{one_tree}
use Rattle.gix.proofs.NoCauseLemmas.{IsKnown, never_absent, never_other, never_bad, never_gap, no_cause}
use Rattle.gix.proofs.StandingLemmas.{base_stands}
use Rattle.gix.proofs.ValidLemmas.{admitted}

-- a tree that has a path map is stored as one
tree_known : (laws : LawsBelow) (state : State) (id : ObjectId) (m : PathMap) → HasMap state.hash state.content id m → IsKnown state id kind.Tree
tree_known laws state id m h =
    let at = laws.have_maps state.hash state.content id m h.ids h.own h.represents id here in
    record { bytes = at.0.0; stored = at.0.1; spelled = λ none. at.1 (spelling at.0.0 at.0.1 (λ entries canonical. none entries canonical.spelled)) }

module _ (laws : LawsBelow) (state : State) (base : PathMap) where
  commit_known : (parents : List ObjectId) (id : ObjectId) → IsBase (whole state) parents base → OfFirst parents (λ parent. id ≡ parent) → IsKnown state id kind.Commit
  commit_known [] id is read = absurd read
  commit_known (parent ∷ parents) id is read = record { bytes = is.has_tree.bytes; stored = ap (lookup state.content) read ∙ is.has_tree.stored; spelled = λ none. none is.has_tree.text is.has_tree.spelled }

  root_known : (parents : List ObjectId) (id : ObjectId) → IsBase (whole state) parents base → OfFirst parents (λ parent. HasTree state.hash state.content parent id) → IsKnown state id kind.Tree
  root_known [] id is read = absurd read
  root_known (parent ∷ parents) id is read = subst (λ i. IsKnown state i kind.Tree) (one_tree state.hash state.content parent is.tree id is.has_tree read) (tree_known laws state is.tree base is.has_map)

  loaded_known : (r : CommitRequest) (id : ObjectId) → IsBase (whole state) r.parents base → IsLoaded r (whole state) id → IsKnown state id kind.Tree
  loaded_known r id is l =
      let load = laws.exists state.hash state.content in
      let start = base_stands laws r state base l.entries l.is_base is in
      let before = laws.edited state.hash state.content load.0 (only (names_of l.entries)) base l.loaded.before load.1 l.loaded.own start in
      let has = laws.loaded state.hash state.content load.0 (edited_view state.hash load.0 (only (names_of l.entries)) l.loaded.before) (edited state.hash base l.loaded.before) (components (path_of l.loaded.edit)) id load.1 before (l.loaded.on_way load.0 load.1) in
      tree_known laws state id has.0 has.1

  pub base_known : (r : CommitRequest) → IsBase (whole state) r.parents base → (id : ObjectId) (wanted : Kind) → IsReadAs r (whole state) id wanted → IsKnown state id wanted
  base_known r is id kind.Commit read = commit_known r.parents id is read
  base_known r is id kind.Tree (inl root) = root_known r.parents id is root
  base_known r is id kind.Tree (inr loaded) = loaded_known r id is loaded
  base_known r is id kind.Blob read = absurd read
  base_known r is id kind.Tag read = absurd read

module _ (laws : LawsBelow) (settings : Settings) (r : CommitRequest) (state : State) (v : IsValidCommit settings r state) where
  -- where trees can be made, the request may be made
  never_made : (output : Output) → Makes r (whole state) output → (e : CommitEditsError) → Cause settings r (whole state) e → ⊥
  never_made output makes e c = let a = admitted laws settings r state output v makes in no_cause laws settings r state output a e c

  never_unwritable : (part : Field) → IsUnwritable settings r (whole state) part → ⊥
  never_unwritable field.FileName c = never_made c.output c.makes (error.WriteObject field.FileName) c
  never_unwritable field.AuthorName c = never_made c.0 c.1.makes (error.WriteObject field.AuthorName) c
  never_unwritable field.AuthorEmail c = never_made c.0 c.1.makes (error.WriteObject field.AuthorEmail) c
  never_unwritable field.AuthorOffset c = never_made c.0 c.1.makes (error.WriteObject field.AuthorOffset) c
  never_unwritable field.CommitterName c = never_made c.0 c.1.makes (error.WriteObject field.CommitterName) c
  never_unwritable field.CommitterEmail c = never_made c.0 c.1.makes (error.WriteObject field.CommitterEmail) c
  never_unwritable field.CommitterOffset c = never_made c.0 c.1.makes (error.WriteObject field.CommitterOffset) c
  never_unwritable field.TaggerName c = never_made c.0 c.1.makes (error.WriteObject field.TaggerName) c
  never_unwritable field.TaggerEmail c = never_made c.0 c.1.makes (error.WriteObject field.TaggerEmail) c
  never_unwritable field.TaggerOffset c = never_made c.0 c.1.makes (error.WriteObject field.TaggerOffset) c
  never_unwritable field.TagName c = never_made c.0 c.1.makes (error.WriteObject field.TagName) c
  never_unwritable field.Encoding c = never_made c.0 c.1.makes (error.WriteObject field.Encoding) c
  never_unwritable field.HeaderName c = never_made c.0 c.1.makes (error.WriteObject field.HeaderName) c

  pub never_refused : (e : CommitEditsError) → Cause settings r (whole state) e → ⊥
  never_refused (error.FindExistingObject id) c = never_absent r state (base_known laws state v.edits.base r v.edits.is_base) id c
  never_refused (error.ObjectKind id actual) c = never_other r state (base_known laws state v.edits.base r v.edits.is_base) id actual c
  never_refused (error.Decode id) c = never_bad r state (base_known laws state v.edits.base r v.edits.is_base) id c
  never_refused (error.EmptyPathComponent path) c = never_gap r.edits path v.edits.named c.1
  never_refused (error.InvalidFilename filename entry_kind id source) c = never_made c.output c.makes (error.InvalidFilename filename entry_kind id source) c
  never_refused (error.MissingObject filename entry_kind id) c = never_made c.output c.makes (error.MissingObject filename entry_kind id) c
  never_refused (error.WriteObject part) c = never_unwritable part c
  never_refused (error.Cycle name) c = never_made c.output c.may.trees.makes (error.Cycle name) c
  never_refused (error.DepthLimitExceeded name) c = never_made c.output c.may.trees.makes (error.DepthLimitExceeded name) c
  never_refused (error.MustExist name) c = never_made c.output c.may.trees.makes (error.MustExist name) c
  never_refused (error.MustNotExist name actual) c = never_made c.output c.may.trees.makes (error.MustNotExist name actual) c
  never_refused (error.ReferenceOutOfDate name expected actual) c = never_made c.output c.may.trees.makes (error.ReferenceOutOfDate name expected actual) c
  never_refused (error.NameConflict name other) c = never_made c.output c.may.trees.makes (error.NameConflict name other) c
  never_refused (error.Store fault) c = c
  never_refused error.NoMemory c = c

-- a store without faults has none to tell
no_fault : (settings : Settings) (r : CommitRequest) (old new : StoreState) → IsFaultless old new → (fault : What) → HasFault settings r old new fault → ⊥
no_fault settings r old new quiet (what.Object id) c = true≢false (sym c.0 ∙ quiet.readable (what.Object id))
no_fault settings r old new quiet (what.Name name) c = true≢false (sym c.0 ∙ quiet.readable (what.Name name))
no_fault settings r old new quiet what.Index c = c
no_fault settings r old new quiet what.Listing c = true≢false (sym c.0 ∙ quiet.readable what.Listing)
no_fault settings r old new quiet what.Write c = quiet.quiet c

pub made : (laws : LawsBelow) (settings : Settings) (r : CommitRequest) (state : State) (old new : StoreState) (e : CommitEditsError) → view_of old ≡ whole state → IsFaultless old new → IsValidCommit settings r state → CommitEditsCauses settings r old new e → e ≡ error.NoMemory
made laws settings r state old new e same quiet v c = go e c
  where
    never : (e : CommitEditsError) → Cause settings r (view_of old) e → ⊥
    never e c = never_refused laws settings r state v e (subst (λ w. Cause settings r w e) same c)

    go : (e : CommitEditsError) → CommitEditsCauses settings r old new e → e ≡ error.NoMemory
    go (error.Store fault) c = absurd (no_fault settings r old new quiet fault c)
    go error.NoMemory c = refl
    go e c = absurd (never e c)
