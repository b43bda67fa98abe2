-- What is written of a commit.
use Rattle.std.proofs.Common.{◌≡◌, ◌∙◌, ◌<◌, ◌+◌, sym, ap, refl, subst, List, [], ◌∷◌, ◌++◌, ℕ, length, take, drop, get_or, append_assoc, take-append-drop, Result, Ok, Err, OnOk, OnErr}
use Rattle.std.proofs.lemmas.List.{take_more, drop_more, append-nil}
use Rattle.gx_hash.specs.declared.kind.HashKind.{HashKind}
use Rattle.gx_hash.specs.declared.oid.ObjectId.{ObjectId}
use Rattle.gx_hash.specs.ObjectId.{object_id}
use Rattle.gx_object.specs.Kind.{kind_name}
use Rattle.gx_object.specs.declared.kind.Kind.{Kind}
use Rattle.gx_object.specs.declared.kind.Kind.TheVariants as kind
use Rattle.gx_store.specs.State.{StoreState, Becomes, stored, all_stored}
use Rattle.gx_store.specs.declared.error.StoreError.{StoreError}
use Rattle.gx_edit.specs.PathMap.{blobs_in, blobs_of}
use Rattle.gx_edit.specs.Output.{Output}
use Rattle.gx_edit.specs.declared.path_edit.PathEdit.{PathEdit}
use Rattle.gix.specs.CommitRequest.{CommitRequest}
use Rattle.gix.specs.Trees.{brought}
use Rattle.gix.specs.CommitEdits.{Grows, written_objects}
use Rattle.gix.specs.NewCommit.{commit_text, commit_id}
use Rattle.gix.specs.Stages.{blob_ids}
use Rattle.gix.proofs.Growth.{stores_more, becomes_then, becomes_itself}
use Rattle.gix.proofs.EditLemmas.{blob_ids-cons}

-- ---- trees

-- the first of the trees
pub trees_begun : (s t : StoreState) (o : Output) (n : ℕ) → Becomes (all_stored (take n o.trees) s) t → Grows o.trees s t
trees_begun s t o n b = record { first = take n o.trees; rest = drop n o.trees; split = sym (take-append-drop n o.trees); becomes = b }

-- ---- blobs

pub ids_ahead : (hash : HashKind) (edits : List PathEdit) (i : ℕ) (edit : PathEdit) → i < length edits → edit ≡ get_or edits i edit → blob_ids hash (drop i edits) ≡ blob_ids hash (edit ∷ []) ++ blob_ids hash (drop (i + 1) edits)
ids_ahead hash edits i edit lt there = ap (blob_ids hash) (drop_more edits i edit lt ∙ ap (λ e. e ∷ drop (i + 1) edits) (sym there)) ∙ blob_ids-cons hash edit (drop (i + 1) edits)

blobs_of-append : (xs ys : List PathEdit) → blobs_of (xs ++ ys) ≡ blobs_of xs ++ blobs_of ys
blobs_of-append [] ys = refl
blobs_of-append (x ∷ xs) ys = ap (λ l. blobs_in x ++ l) (blobs_of-append xs ys) ∙ sym (append_assoc (blobs_in x) (blobs_of xs) (blobs_of ys))

pub blobs_more : (edits : List PathEdit) (i : ℕ) (edit : PathEdit) (s t u : StoreState) → i < length edits → edit ≡ get_or edits i edit → Becomes (all_stored (blobs_of (take i edits)) s) t → Becomes (all_stored (blobs_in edit) t) u → Becomes (all_stored (blobs_of (take (i + 1) edits)) s) u
blobs_more edits i edit s t u lt there before after = subst (λ l. Becomes (all_stored l s) u)
    (sym (ap blobs_of (take_more edits i edit lt ∙ ap (λ e. take i edits ++ e ∷ []) (sym there)) ∙ blobs_of-append (take i edits) (edit ∷ []) ∙ ap (λ l. blobs_of (take i edits) ++ l) (append-nil (blobs_in edit))))
    (stores_more (blobs_of (take i edits)) (blobs_in edit) s t u before after)

-- ---- all objects of a commit

module _ (r : CommitRequest) (s : StoreState) (output : Output) where
  abbrev commit : Kind × List ℕ
  commit = (kind.Commit, commit_text r output)

  grows_by_blobs : (n : ℕ) (t u : StoreState) → Becomes (all_stored (blobs_of (take n r.edits)) s) t → Becomes t u → Grows (written_objects r output) s u
  grows_by_blobs n t u b c = record {
    first = blobs_of (take n r.edits);
    rest = blobs_of (drop n r.edits) ++ (output.trees ++ commit ∷ []);
    split =
        append_assoc (blobs_of r.edits) output.trees (commit ∷ [])
        ∙ ap (λ l. l ++ (output.trees ++ commit ∷ [])) (ap blobs_of (sym (take-append-drop n r.edits)) ∙ blobs_of-append (take n r.edits) (drop n r.edits))
        ∙ append_assoc (blobs_of (take n r.edits)) (blobs_of (drop n r.edits)) (output.trees ++ commit ∷ []);
    becomes = becomes_then (all_stored (blobs_of (take n r.edits)) s) t u b c;
  }

  pub blobs_grow : (n : ℕ) (t : StoreState) → Becomes (all_stored (blobs_of (take n r.edits)) s) t → Grows (written_objects r output) s t
  blobs_grow n t b = grows_by_blobs n t t b (becomes_itself t)

  pub trees_grow : (t u : StoreState) → Becomes (all_stored (blobs_of r.edits) s) t → Grows output.trees t u → Grows (written_objects r output) s u
  trees_grow t u b g = record {
    first = blobs_of r.edits ++ g.first;
    rest = g.rest ++ commit ∷ [];
    split =
        append_assoc (blobs_of r.edits) output.trees (commit ∷ [])
        ∙ ap (λ l. blobs_of r.edits ++ (l ++ commit ∷ [])) g.split
        ∙ ap (λ l. blobs_of r.edits ++ l) (append_assoc g.first g.rest (commit ∷ []))
        ∙ sym (append_assoc (blobs_of r.edits) g.first (g.rest ++ commit ∷ []));
    becomes = stores_more (blobs_of r.edits) g.first s t u b g.becomes;
  }

  pub brought_stored : (t u : StoreState) → Becomes (all_stored (blobs_of r.edits) s) t → Becomes (all_stored output.trees t) u → Becomes (all_stored (brought r output) s) u
  brought_stored t u b c = stores_more (blobs_of r.edits) output.trees s t u b c

  pub brought_grow : (t u : StoreState) → Becomes (all_stored (brought r output) s) t → Becomes t u → Grows (written_objects r output) s u
  brought_grow t u b c = record {
    first = brought r output;
    rest = commit ∷ [];
    split = refl;
    becomes = becomes_then (all_stored (brought r output) s) t u b c;
  }

  pub all_written : (t u : StoreState) (bytes : List ℕ) → bytes ≡ commit_text r output → Becomes (all_stored (brought r output) s) t → Becomes (all_stored ((kind.Commit, bytes) ∷ []) t) u → Becomes (all_stored (written_objects r output) s) u
  all_written t u bytes is b c = subst (λ x. Becomes (all_stored (brought r output ++ (kind.Commit, x) ∷ []) s) u) is (stores_more (brought r output) ((kind.Commit, bytes) ∷ []) s t u b c)

  pub commit_written : (result : Result (Unit {0}) StoreError) (t u : StoreState) (id : ObjectId) (bytes : List ℕ) → bytes ≡ commit_text r output → id ≡ commit_id s.hash r output → Becomes (all_stored (brought r output) s) t
      → OnOk result (Becomes (stored id (kind.Commit, bytes) t) u) → OnOk result (Becomes (all_stored (written_objects r output) s) u)
  commit_written (Err e) t u id bytes is is_id b h = tt
  commit_written (Ok x) t u id bytes is is_id b h =
      let kept : t.hash ≡ s.hash = ap (λ (v : StoreState). v.hash) b.same in
      let own : id ≡ object_id t.hash (kind_name kind.Commit) bytes = is_id ∙ ap (object_id s.hash (kind_name kind.Commit)) (sym is) ∙ ap (λ k. object_id k (kind_name kind.Commit) bytes) (sym kept) in
      all_written t u bytes is b (subst (λ i. Becomes (stored i (kind.Commit, bytes) t) u) own h)

  pub commit_begun : (result : Result (Unit {0}) StoreError) (t u : StoreState) → Becomes (all_stored (brought r output) s) t → OnErr result (Becomes t u) → OnErr result (Grows (written_objects r output) s u)
  commit_begun (Ok x) t u b h = tt
  commit_begun (Err e) t u b h = brought_grow t u b h
