-- A request that may be made has no cause to be refused.
use Rattle.std.proofs.Common.{◌≡◌, ◌∙◌, sym, ap, refl, subst, List, [], ◌∷◌, map, ℕ, Bool, true, false, true≢false, not, ◌&&◌, Option, Some, None, Contains, inl, inr, ◌⊎◌, ⊎_elim}
use Rattle.std.specs.List.{list_all}
use Rattle.std.proofs.lemmas.List.Folds.{list_all-append}
use Rattle.gx_hash.specs.declared.oid.ObjectId.{ObjectId}
use Rattle.gx_hash.specs.ObjectIds.{has_id}
use Rattle.gx_hash.specs.ObjectId.{object_id}
use Rattle.gx_object.specs.Commit.{plain_commit_bytes}
use Rattle.gx_object.specs.Kind.{kind_name}
use Rattle.gx_object.specs.declared.kind.Kind.{Kind}
use Rattle.gx_object.specs.declared.kind.Kind.TheVariants as kind
use Rattle.gx_object.specs.declared.encode.Field.{Field}
use Rattle.gx_object.specs.declared.encode.Field.TheVariants as field
use Rattle.gx_object.specs.declared.tree.Entry.{Entry}
use Rattle.gx_object.specs.declared.tree.EntryKind.{EntryKind}
use Rattle.gx_object.specs.Identity.{is_writable_text, is_writable_offset, is_writable_identity, are_writable}
use Rattle.gx_object.specs.Tree.{is_writable_filename}
use Rattle.gx_object.specs.declared.signature.Signature.{Signature}
use Rattle.gx_rules.specs.Component.{Violates, IsFirstViolated}
use Rattle.gx_rules.specs.declared.component_error.ComponentError.{ComponentError}
use Rattle.gx_store.specs.Content.{lookup, id_of}
use Rattle.gx_edit.specs.Entries.{IsSafe, IsEntry, is_link}
use Rattle.gx_edit.specs.Output.{Output}
use Rattle.gx_edit.specs.PathMap.{blobs_of}
use Rattle.gx_edit.specs.View.{only, names_of}
use Rattle.gx_edit.specs.Written.{IsOutputOfView}
use Rattle.gx_edit.specs.declared.path_edit.PathEdit.{PathEdit}
use Rattle.gx_refs.specs.EditCauses.{EditRefusal}
use Rattle.gx_refs.specs.declared.error.RefError.{RefError}
use Rattle.gx_refs.specs.declared.error.RefError.TheVariants as ref_error
use Rattle.gix.specs.declared.settings.Settings.{Settings}
use Rattle.gix.specs.declared.error.CommitEditsError.{CommitEditsError}
use Rattle.gix.specs.declared.error.CommitEditsError.TheVariants as error
use Rattle.gix.specs.CommitRequest.{CommitRequest}
use Rattle.gix.specs.View.{State, whole}
use Rattle.gix.specs.Base.{HasTree, IsBaseTree, OfFirst}
use Rattle.gix.specs.Trees.{IsLoadedBy, Makes, has_gap, have_names, brought, IsFound}
use Rattle.gix.specs.LawsBelow.{LawsBelow}
use Rattle.gix.specs.NewCommit.{commit_id}
use Rattle.gix.specs.Reference.{commit_terms, edits_of}
use Rattle.gix.specs.Admission.{AreWritable, IsAdmitted}
use Rattle.gix.specs.Causes.{IsReadAs, IsAbsent, IsOther, IsBad, SpellsNone, IsFirstGap, OfEntry, IsMissing, IsMoveRefused, IsUnwritable, Cause}
use Rattle.gix.proofs.Lists.{all_at, found_in, is_found, mapped_from, in_mapped, front_or_back, in_front, in_back}
use Rattle.gix.proofs.OnceLemmas.{one_kind, one_text, one_tree, one_root, one_view}
use Rattle.gix.proofs.OutputLemmas.{same_entry, same_root, same_tree}

both_left : (a b : Bool) → (a && b) ≡ true → a ≡ true
both_left true b h = refl
both_left false b h = absurd (true≢false (sym h))

both_right : (a b : Bool) → (a && b) ≡ true → b ≡ true
both_right true b h = h
both_right false b h = absurd (true≢false (sym h))

pub not_stored : {A : Type 0} (x : A) → ◌≡◌ {A = Option A} (Some x) None → ⊥
not_stored x same = cc

-- ---- what is read

-- an object is stored as one of the kind, and its bytes spell one
pub record IsKnown (state : State) (id : ObjectId) (wanted : Kind) : Type 0 where
  pub bytes : List ℕ
  pub stored : lookup state.content id ≡ Some (wanted, bytes)
  pub spelled : SpellsNone state.hash wanted bytes → ⊥

module _ (r : CommitRequest) (state : State) (known : (id : ObjectId) (wanted : Kind) → IsReadAs r (whole state) id wanted → IsKnown state id wanted) where
  pub never_absent : (id : ObjectId) → IsAbsent r (whole state) id → ⊥
  never_absent id c = let at = known id c.wanted c.read in not_stored (c.wanted, at.bytes) (sym at.stored ∙ c.absent)

  pub never_other : (id : ObjectId) (actual : Kind) → IsOther r (whole state) id actual → ⊥
  never_other id actual c = let at = known id c.wanted c.read in c.other.0 (one_kind actual c.wanted c.other.1 at.bytes (sym c.other.2 ∙ at.stored))

  pub never_bad : (id : ObjectId) → IsBad r (whole state) id → ⊥
  never_bad id c =
      let at = known id c.wanted c.read in
      at.spelled (subst (SpellsNone state.hash c.wanted) (one_text c.wanted c.wanted c.bad.0 at.bytes (sym c.bad.1 ∙ at.stored)) c.bad.2)

commit_known : (state : State) (parents : List ObjectId) (entries : List Entry) (id : ObjectId) → IsBaseTree (whole state) parents entries → OfFirst parents (λ parent. id ≡ parent) → IsKnown state id kind.Commit
commit_known state [] entries id is read = absurd read
commit_known state (parent ∷ parents) entries id is read = record { bytes = is.has_tree.bytes; stored = ap (lookup state.content) read ∙ is.has_tree.stored; spelled = λ none. none is.has_tree.text is.has_tree.spelled }

root_known : (state : State) (parents : List ObjectId) (entries : List Entry) (id : ObjectId) → IsBaseTree (whole state) parents entries → OfFirst parents (λ parent. HasTree state.hash state.content parent id) → IsKnown state id kind.Tree
root_known state [] entries id is read = absurd read
root_known state (parent ∷ parents) entries id is read =
    let same : id ≡ is.tree = one_tree state.hash state.content parent id is.tree read is.has_tree in
    record { bytes = is.has.bytes; stored = ap (lookup state.content) same ∙ is.has.stored; spelled = λ none. none entries is.has.spelled }

-- what a request reads is known where its base is, and what its edits load
pub known_of : (r : CommitRequest) (state : State) (entries : List Entry) → IsBaseTree (whole state) r.parents entries → ((id : ObjectId) → IsLoadedBy (whole state) (only (names_of entries)) r.edits id → IsKnown state id kind.Tree)
    → (id : ObjectId) (wanted : Kind) → IsReadAs r (whole state) id wanted → IsKnown state id wanted
known_of r state entries is loads id kind.Commit read = commit_known state r.parents entries id is read
known_of r state entries is loads id kind.Tree (inl root) = root_known state r.parents entries id is root
known_of r state entries is loads id kind.Tree (inr l) = loads id (subst (λ es. IsLoadedBy (whole state) (only (names_of es)) r.edits id) (one_root state r.parents l.entries entries l.is_base is) l.loaded)
known_of r state entries is loads id kind.Blob read = absurd read
known_of r state entries is loads id kind.Tag read = absurd read

-- ---- the edits

pub never_gap : (edits : List PathEdit) (path : List ℕ) → have_names edits ≡ true → IsFirstGap edits path → ⊥
never_gap edits path named c =
    let f : PathEdit → Bool = λ edit. not (has_gap edit) in
    let parts : (list_all f c.before && (f c.edit && list_all f c.after)) ≡ true = sym (list_all-append f c.before (c.edit ∷ c.after)) ∙ sym (ap have_names c.split) ∙ named in
    true≢false (sym (both_left (f c.edit) (list_all f c.after) (both_right (list_all f c.before) (f c.edit && list_all f c.after) parts)) ∙ ap not c.gap)

-- ---- identities

three : (a b c : Bool) → (a && b && c) ≡ true → (a ≡ true) × (b ≡ true) × (c ≡ true)
three true true true h = (refl, refl, refl)
three true true false h = absurd (true≢false (sym h))
three true false true h = absurd (true≢false (sym h))
three true false false h = absurd (true≢false (sym h))
three false true true h = absurd (true≢false (sym h))
three false true false h = absurd (true≢false (sym h))
three false false true h = absurd (true≢false (sym h))
three false false false h = absurd (true≢false (sym h))

parts_of : (who : Signature) → is_writable_identity who ≡ true → (is_writable_text who.name ≡ true) × (is_writable_text who.email ≡ true) × (is_writable_offset who.time.offset ≡ true)
parts_of who h = three (is_writable_text who.name) (is_writable_text who.email) (is_writable_offset who.time.offset) h

pub parts_are_writable : (r : CommitRequest) → AreWritable r → (part : Field) → are_writable r.author r.committer part ≡ true
parts_are_writable r w field.AuthorName = (parts_of r.author w.0).0
parts_are_writable r w field.AuthorEmail = (parts_of r.author w.0).1
parts_are_writable r w field.AuthorOffset = (parts_of r.author w.0).2
parts_are_writable r w field.CommitterName = (parts_of r.committer w.1).0
parts_are_writable r w field.CommitterEmail = (parts_of r.committer w.1).1
parts_are_writable r w field.CommitterOffset = (parts_of r.committer w.1).2
parts_are_writable r w field.FileName = refl
parts_are_writable r w field.TaggerName = refl
parts_are_writable r w field.TaggerEmail = refl
parts_are_writable r w field.TaggerOffset = refl
parts_are_writable r w field.TagName = refl
parts_are_writable r w field.Encoding = refl
parts_are_writable r w field.HeaderName = refl

-- ---- each cause

module _ (laws : LawsBelow) (settings : Settings) (r : CommitRequest) (state : State) (output : Output) (a : IsAdmitted settings r (whole state) output) where
  -- what is written of the request is written of one view
  as_here : (other : Output) → Makes r (whole state) other → IsOutputOfView state.hash a.objects.trees.makes.end other
  as_here other m = subst (λ v. IsOutputOfView state.hash v other) (one_view laws.exists r state m.end a.objects.trees.makes.end m.edits a.objects.trees.makes.edits) m.written

  entry_here : (other : Output) → Makes r (whole state) other → (entry : Entry) → Contains other.entries entry → Contains output.entries entry
  entry_here other m = same_entry laws.once state.hash a.objects.trees.makes.end other output (as_here other m) a.objects.trees.makes.written

  tree_there : (other : Output) → Makes r (whole state) other → (tree : Kind × List ℕ) → Contains output.trees tree → Contains other.trees tree
  tree_there other m = same_tree laws.once state.hash a.objects.trees.makes.end output other a.objects.trees.makes.written (as_here other m)

  brought_there : (other : Output) → Makes r (whole state) other → (id : ObjectId) → has_id (map (id_of state.hash) (brought r output)) id ≡ true → has_id (map (id_of state.hash) (brought r other)) id ≡ true
  brought_there other m id h =
      let from = mapped_from (id_of state.hash) (brought r output) id (found_in (map (id_of state.hash) (brought r output)) id h) in
      is_found (map (id_of state.hash) (brought r other)) id
      (subst (Contains (map (id_of state.hash) (brought r other))) from.2 (in_mapped (id_of state.hash) (brought r other) from.0 (move from.0 (front_or_back (blobs_of r.edits) output.trees from.0 from.1))))
    where
      move : (object : Kind × List ℕ) → Contains (blobs_of r.edits) object ⊎ Contains output.trees object → Contains (brought r other) object
      move object (inl blob) = in_front (blobs_of r.edits) other.trees object blob
      move object (inr tree) = in_back (blobs_of r.edits) other.trees object (tree_there other m object tree)

  pub not_unsafe : (filename : List ℕ) (entry_kind : EntryKind) (id : ObjectId) (source : ComponentError) → OfEntry r (whole state) (λ output entry. IsEntry entry filename entry_kind id × IsFirstViolated filename (is_link entry) settings.protect source) → ⊥
  not_unsafe filename entry_kind id source c =
      let safe : IsSafe (Some settings.protect) c.some.entry = all_at (IsSafe (Some settings.protect)) output.entries c.some.entry a.objects.trees.safe (entry_here c.output c.makes c.some.entry c.some.among) in
      safe source (subst (λ n. Violates n (is_link c.some.entry) settings.protect source) c.some.is.0.named c.some.is.1.broken)

  pub not_missing : (filename : List ℕ) (entry_kind : EntryKind) (id : ObjectId) → OfEntry r (whole state) (λ output entry. IsEntry entry filename entry_kind id × IsMissing r (whole state) output entry) → ⊥
  not_missing filename entry_kind id c =
      let found : IsFound (whole state) (brought r output) c.some.entry = all_at (IsFound (whole state) (brought r output)) output.entries c.some.entry a.objects.trees.found (entry_here c.output c.makes c.some.entry c.some.among) in
      ⊎_elim c.some.is.1.not_stored (λ new. true≢false (sym (brought_there c.output c.makes c.some.entry.oid new) ∙ c.some.is.1.not_brought)) (found c.some.is.1.no_submodule)

  pub not_unspelled : OfEntry r (whole state) (λ output entry. is_writable_filename entry.filename ≡ false) → ⊥
  not_unspelled c = true≢false (sym (all_at (λ (entry : Entry). is_writable_filename entry.filename ≡ true) output.entries c.some.entry a.objects.trees.spelled (entry_here c.output c.makes c.some.entry c.some.among)) ∙ c.some.is)

  known : (id : ObjectId) (wanted : Kind) → IsReadAs r (whole state) id wanted → IsKnown state id wanted
  known = known_of r state a.objects.trees.makes.edits.entries a.objects.trees.makes.edits.is_base
      (λ id loaded. let at = a.objects.trees.makes.edits.read id loaded in record { bytes = at.has.bytes; stored = at.has.stored; spelled = λ none. none at.entries at.has.spelled })

  not_part : (part : Field) → are_writable r.author r.committer part ≡ false → ⊥
  not_part part none = true≢false (sym (parts_are_writable r a.objects.identities part) ∙ none)

  pub not_unwritable : (part : Field) → IsUnwritable settings r (whole state) part → ⊥
  not_unwritable field.FileName c = not_unspelled c
  not_unwritable field.AuthorName c = not_part field.AuthorName c.2
  not_unwritable field.AuthorEmail c = not_part field.AuthorEmail c.2
  not_unwritable field.AuthorOffset c = not_part field.AuthorOffset c.2
  not_unwritable field.CommitterName c = not_part field.CommitterName c.2
  not_unwritable field.CommitterEmail c = not_part field.CommitterEmail c.2
  not_unwritable field.CommitterOffset c = not_part field.CommitterOffset c.2
  not_unwritable field.TaggerName c = not_part field.TaggerName c.2
  not_unwritable field.TaggerEmail c = not_part field.TaggerEmail c.2
  not_unwritable field.TaggerOffset c = not_part field.TaggerOffset c.2
  not_unwritable field.TagName c = not_part field.TagName c.2
  not_unwritable field.Encoding c = not_part field.Encoding c.2
  not_unwritable field.HeaderName c = not_part field.HeaderName c.2

  -- the commit over one output has the id of the commit over another
  one_commit : (other : Output) → Makes r (whole state) other → commit_id state.hash r other ≡ commit_id state.hash r output
  one_commit other m = ap (λ root. object_id state.hash (kind_name kind.Commit) (plain_commit_bytes root r.parents r.author r.committer r.message)) (same_root laws.once state.hash a.objects.trees.makes.end other output (as_here other m) a.objects.trees.makes.written)

  pub not_refused : (e : RefError) → IsMoveRefused settings r (whole state) e → ⊥
  not_refused e c = laws.not_refused (commit_terms settings r) state.references (edits_of r (commit_id state.hash r output)) e a.reference
      (subst (λ id. EditRefusal (commit_terms settings r) (Some state.references) (edits_of r id) e) (one_commit c.output c.may.trees.makes) c.refused)

  pub no_cause : (e : CommitEditsError) → Cause settings r (whole state) e → ⊥
  no_cause (error.FindExistingObject id) c = never_absent r state known id c
  no_cause (error.ObjectKind id actual) c = never_other r state known id actual c
  no_cause (error.Decode id) c = never_bad r state known id c
  no_cause (error.EmptyPathComponent path) c = never_gap r.edits path a.objects.trees.makes.edits.named c.1
  no_cause (error.InvalidFilename filename entry_kind id source) c = not_unsafe filename entry_kind id source c
  no_cause (error.MissingObject filename entry_kind id) c = not_missing filename entry_kind id c
  no_cause (error.WriteObject part) c = not_unwritable part c
  no_cause (error.Cycle name) c = not_refused (ref_error.Cycle name) c
  no_cause (error.DepthLimitExceeded name) c = not_refused (ref_error.DepthLimitExceeded name) c
  no_cause (error.MustExist name) c = not_refused (ref_error.MustExist name) c
  no_cause (error.MustNotExist name actual) c = not_refused (ref_error.MustNotExist name actual) c
  no_cause (error.ReferenceOutOfDate name expected actual) c = not_refused (ref_error.ReferenceOutOfDate name expected actual) c
  no_cause (error.NameConflict name other) c = not_refused (ref_error.NameConflict name other) c
  no_cause (error.Store fault) c = c
  no_cause error.NoMemory c = c
