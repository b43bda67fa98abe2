-- The path map of a commit whose objects were just added.
use Rattle.std.proofs.Common.{◌≡◌, ◌∙◌, sym, ap, refl, subst, List, [], ◌∷◌, map, ℕ, Bool, true, false, ◌||◌, cond, Option, Some, None, Ok, Contains}
use Rattle.std.specs.List.{AllByRecursion}
use Rattle.gx_hash.specs.declared.kind.HashKind.{HashKind}
use Rattle.gx_hash.specs.declared.oid.ObjectId.{ObjectId}
use Rattle.gx_hash.specs.ObjectId.{hex_of, bytes_of, id_from_hex, id_from_bytes}
use Rattle.gx_hash.specs.Laws.{object_id_is_whole, object_id_digits, computed_digits}
use Rattle.gx_object.specs.declared.kind.Kind.{Kind}
use Rattle.gx_object.specs.declared.kind.Kind.TheVariants as kind
use Rattle.gx_object.specs.declared.commit.Commit.{Commit}
use Rattle.gx_object.specs.declared.tree.Entry.{Entry}
use Rattle.gx_object.specs.declared.tree.EntryKind.TheVariants as entry_kind
use Rattle.gx_object.specs.Commit.{commit_bytes, plain_commit_bytes}
use Rattle.gx_hash.specs.IdDigits.{IsHexId}
use Rattle.gx_object.specs.CommitSpelling.{SpellsCommit}
use Rattle.gx_object.specs.Kind.{kind_name}
use Rattle.gx_object.specs.Mode.{mode_of}
use Rattle.gx_object.specs.Tree.{tree_bytes}
use Rattle.gx_object.specs.WrittenText.{written_commit, HasSeconds, CanWriteCommit}
use Rattle.gx_object.specs.Laws.{all_writable, commit_spelled}
use Rattle.gx_store.specs.Content.{Content, lookup, id_of, HoldsAll, Adds}
use Rattle.gx_edit.specs.Path.{Path, path_eq, leads_to, components}
use Rattle.gx_edit.specs.PathMap.{PathMap, put, dropped, with_edit, edited, file_mode, blob_id, blobs_of}
use Rattle.gx_edit.specs.Output.{Output}
use Rattle.gx_edit.specs.SharedIds.{HasIdsOf}
use Rattle.gx_edit.specs.Written.{id_with}
use Rattle.gx_edit.specs.declared.leaf.Leaf.{Leaf}
use Rattle.gx_edit.specs.declared.path_edit.PathEdit.{PathEdit}
use Rattle.gx_edit.specs.declared.path_edit.PathEdit.TheVariants as edit
use Rattle.gix.specs.declared.settings.Settings.{Settings}
use Rattle.gix.specs.CommitRequest.{CommitRequest}
use Rattle.gix.specs.View.{State, whole}
use Rattle.gix.specs.Base.{HasTree, IsMapOf, IsBase}
use Rattle.gix.specs.Trees.{MayWrite, brought}
use Rattle.gix.specs.LawsBelow.{LawsBelow}
use Rattle.gix.specs.Admission.{AreWritable}
use Rattle.gix.specs.CommitEdits.{written_objects}
use Rattle.gix.specs.NewCommit.{commit_text, commit_id}
use Rattle.gix.specs.History.{IsWholeId, HasWholeId, Premises}
use Rattle.gix.proofs.Lists.{all_of, all_behind, in_front, in_back}
use Rattle.gix.proofs.NoCauseLemmas.{parts_are_writable}
use Rattle.gix.proofs.StandingLemmas.{end_stands, end_directory}

-- ---- what its bytes spell

abbrev commit_of : ObjectId → CommitRequest → Commit
commit_of root r = record { tree = root; parents = r.parents; author = r.author; committer = r.committer; encoding = None; message = r.message; extra_headers = [] }

plain_is : (root : ObjectId) (r : CommitRequest) → commit_bytes (commit_of root r) ≡ plain_commit_bytes root r.parents r.author r.committer r.message
unfolding commit_bytes plain_commit_bytes
plain_is root r = refl

parent_digits : (hash : HashKind) (ids : List ObjectId) → AllByRecursion (IsWholeId hash) ids → AllByRecursion (IsHexId hash) (map hex_of ids)
parent_digits hash [] h = tt
parent_digits hash (id ∷ ids) h = (h.0.digits, parent_digits hash ids h.1)

module _ (hash : HashKind) (r : CommitRequest) (output : Output) (rows : List Entry) (is_root : output.root ≡ id_with hash rows) (writable : AreWritable r) (parents : AllByRecursion (IsWholeId hash) r.parents) (author : HasSeconds r.author.time) (committer : HasSeconds r.committer.time) where
  can_write : CanWriteCommit hash (commit_of output.root r)
  can_write = record {
    tree = subst (λ root. IsHexId hash (hex_of root)) (sym is_root) (computed_digits hash (kind_name kind.Tree) (tree_bytes rows));
    parents = parent_digits hash r.parents parents;
    fields = all_writable (commit_of output.root r) (parts_are_writable r writable) refl refl;
    author_seconds = author;
    committer_seconds = committer;
    encoding = tt;
  }

  spelled : SpellsCommit hash (commit_text r output) (written_commit (commit_of output.root r))
  spelled = subst (λ bytes. SpellsCommit hash bytes (written_commit (commit_of output.root r))) (plain_is output.root r) (commit_spelled hash (commit_of output.root r) can_write)

  has_new_tree : (content : Content) → lookup content (commit_id hash r output) ≡ Some (kind.Commit, commit_text r output) → HasTree hash content (commit_id hash r output) output.root
  has_new_tree content stored = record {
    bytes = commit_text r output;
    text = written_commit (commit_of output.root r);
    stored = stored;
    spelled = spelled;
    named = subst (λ root. id_from_hex (hex_of root) ≡ Ok root) (sym is_root) (object_id_digits hash (kind_name kind.Tree) (tree_bytes rows));
  }

-- ---- ids of the kind

no_leaf : (x : Leaf) → ◌≡◌ {A = Option Leaf} None (Some x) → ⊥
no_leaf x same = cc

one_leaf : (y x : Leaf) → ◌≡◌ {A = Option Leaf} (Some y) (Some x) → y ≡ x
one_leaf y x same = cc

module _ (hash : HashKind) where
  abbrev IsWhole : ObjectId → Type 0
  IsWhole id = id_from_bytes hash (bytes_of id) ≡ Some id

  put_whole : (m : PathMap) (at : Path) (leaf : Leaf) → HasIdsOf hash m → IsWhole leaf.id → HasIdsOf hash (put m at leaf)
  put_whole m at leaf ids new q x h = go (path_eq at q) (leads_to at q || leads_to q at) h
    where
      go : (s t : Bool) → cond s (Some leaf) (cond t None (m q)) ≡ Some x → IsWhole x.id
      go true t is = subst (λ (y : Leaf). IsWhole y.id) (one_leaf leaf x is) new
      go false true is = absurd (no_leaf x is)
      go false false is = ids q x is

  dropped_whole : (m : PathMap) (at : Path) → HasIdsOf hash m → HasIdsOf hash (dropped m at)
  dropped_whole m at ids q x h = go (leads_to at q) h
    where
      go : (t : Bool) → cond t None (m q) ≡ Some x → IsWhole x.id
      go true is = absurd (no_leaf x is)
      go false is = ids q x is

  edit_whole : (m : PathMap) (one : PathEdit) → HasIdsOf hash m → HasWholeId hash one → HasIdsOf hash (with_edit hash m one)
  edit_whole m (edit.File path bytes executable) ids fits = put_whole m (components path) (record { mode = record { value = file_mode executable }; id = blob_id hash bytes }) ids (object_id_is_whole hash (kind_name kind.Blob) bytes)
  edit_whole m (edit.Link path bytes) ids fits = put_whole m (components path) (record { mode = record { value = mode_of entry_kind.Link }; id = blob_id hash bytes }) ids (object_id_is_whole hash (kind_name kind.Blob) bytes)
  edit_whole m (edit.Module path id) ids fits = put_whole m (components path) (record { mode = record { value = mode_of entry_kind.Commit }; id = id }) ids fits.bytes
  edit_whole m (edit.Remove path) ids fits = dropped_whole m (components path) ids

  edits_whole : (edits : List PathEdit) (m : PathMap) → HasIdsOf hash m → AllByRecursion (HasWholeId hash) edits → HasIdsOf hash (edited hash m edits)
  edits_whole [] m ids fits = ids
  edits_whole (one ∷ edits) m ids fits = edits_whole edits (with_edit hash m one) (edit_whole m one ids fits.0) fits.1

base_whole : (state : State) (parents : List ObjectId) (base : PathMap) → IsBase (whole state) parents base → HasIdsOf state.hash base
base_whole state [] base is p x h = absurd (no_leaf x (sym (ap (λ (f : PathMap). f p) is) ∙ h))
base_whole state (parent ∷ parents) base is p x h = is.has_map.ids p x h

-- ---- the new map

module _ (laws : LawsBelow) (settings : Settings) (r : CommitRequest) (old : State) (output : Output) (w : MayWrite settings r (whole old) output) (writable : AreWritable r) (premises : Premises r old output)
    (new : Content) (adds : Adds old.hash (written_objects r output) old.content new) (base : PathMap) (is : IsBase (whole old) r.parents base) where
  abbrev new_paths : PathMap
  new_paths = edited old.hash base r.edits

  held : HoldsAll old.hash (written_objects r output) new
  held = laws.added old.hash (written_objects r output) old.content new premises.ids adds

  ids : HasIdsOf old.hash new_paths
  ids = edits_whole old.hash r.edits base (base_whole old r.parents base is) premises.modules

  trees_among : AllByRecursion (Contains (written_objects r output)) output.trees
  trees_among = all_of (Contains (written_objects r output)) output.trees
      (λ tree h. in_front (brought r output) ((kind.Commit, commit_text r output) ∷ []) tree (in_back (blobs_of r.edits) output.trees tree h))

  pub new_map : IsMapOf old.hash new (commit_id old.hash r output) new_paths
  new_map =
      let IsHeld : Kind × List ℕ → Type 0 = λ object. lookup new (id_of old.hash object) ≡ Some object in
      let last = all_behind IsHeld (brought r output) ((kind.Commit, commit_text r output) ∷ []) held in
      let root = w.makes.written.root in
      let directory = end_directory laws r old base settings output is w in
      record {
        tree = output.root;
        has_tree = has_new_tree old.hash r output root.0 root.2 writable premises.parents premises.author premises.committer new last.0;
        has_map = laws.has_map old.hash old.content new w.makes.end new_paths output directory.0 (written_objects r output)
            (end_stands laws r old base w.makes.end is w.makes.edits) w.makes.written directory.1 premises.ids adds trees_among ids;
      }
