-- The trees of a request, as they are checked.
use Rattle.std.proofs.Common.{◌≡◌, ◌∙◌, sym, ap, subst, refl, List, [], ◌∷◌, ◌++◌, map, Bool, true, false, ◌||◌, Option, Some, None, IfSome, inl, inr, ◌⊎◌}
use Rattle.std.specs.List.{AllByRecursion}
use Rattle.std.proofs.lemmas.List.{map-append}
use Rattle.gx_hash.specs.declared.oid.ObjectId.{ObjectId}
use Rattle.gx_hash.specs.ObjectIds.{id_eq, has_id}
use Rattle.gx_rules.specs.Component.{IsFirstViolated}
use Rattle.gx_object.specs.declared.tree.Entry.{Entry}
use Rattle.gx_store.specs.Content.{Content, IsStored, id_of}
use Rattle.gx_store.specs.State.{StoreState}
use Rattle.gx_store.specs.declared.error.What.TheVariants as what
use Rattle.gx_edit.specs.CheckOutput.{IsNeeded, MayBeWritten, CheckCauses}
use Rattle.gx_edit.specs.Editor.{hash_of, view_of as directories_of}
use Rattle.gx_edit.specs.EditorWriting.{AreSpelled, PlanViewCauses}
use Rattle.gx_edit.specs.Entries.{is_link}
use Rattle.gx_edit.specs.Output.{Output}
use Rattle.gx_edit.specs.PathMap.{blobs_of}
use Rattle.gx_edit.specs.Written.{IsOutputOfView}
use Rattle.gx_edit.specs.declared.error.EditError.{EditError}
use Rattle.gx_edit.specs.declared.error.EditError.TheVariants as edit_error
use Rattle.gix.specs.declared.settings.Settings.{Settings}
use Rattle.gix.specs.declared.edits.Edited.{Edited}
use Rattle.gix.specs.declared.error.CommitEditsError.TheVariants as error
use Rattle.gix.specs.CommitRequest.{CommitRequest}
use Rattle.gix.specs.View.{view_of}
use Rattle.gix.specs.Trees.{Makes, IsFound, brought}
use Rattle.gix.specs.Lifting.{lifted}
use Rattle.gix.specs.Stages.{StageCauses, IsEditedBy, AreTreesOf, blob_ids}
use Rattle.gix.proofs.Told.{told_with}

-- ---- what has to be stored already

pub has_id-append : (xs ys : List ObjectId) (id : ObjectId) → has_id (xs ++ ys) id ≡ (has_id xs id || has_id ys id)
has_id-append [] ys id = refl
has_id-append (x ∷ xs) ys id = ap (λ t. id_eq x id || t) (has_id-append xs ys id) ∙ grouped (id_eq x id) (has_id xs id) (has_id ys id)
  where
    grouped : (a b c : Bool) → (a || (b || c)) ≡ ((a || b) || c)
    grouped true b c = refl
    grouped false b c = refl

module _ (r : CommitRequest) (s : StoreState) (given : List ObjectId) (output : Output) (own : output.hash ≡ s.hash) (ids : (id : ObjectId) → has_id given id ≡ has_id (blob_ids s.hash r.edits) id) where
  among_new : (id : ObjectId) → has_id (map (id_of s.hash) (brought r output)) id ≡ (has_id given id || has_id (map (id_of output.hash) output.trees) id)
  among_new id =
      ap (λ l. has_id l id) (map-append (id_of s.hash) (blobs_of r.edits) output.trees)
      ∙ has_id-append (blob_ids s.hash r.edits) (map (id_of s.hash) output.trees) id
      ∙ ap (λ t. t || has_id (map (id_of s.hash) output.trees) id) (sym (ids id))
      ∙ ap (λ h. has_id given id || has_id (map (id_of h) output.trees) id) (sym own)

  pub needed : (entry : Entry) → IsNeeded output given entry → has_id (map (id_of s.hash) (brought r output)) entry.oid ≡ false
  needed entry n = among_new entry.oid ∙ ap (λ t. t || has_id (map (id_of output.hash) output.trees) entry.oid) n.not_given ∙ n.no_tree

  found : (entry : Entry) → (IsNeeded output given entry → IfSome s.content (λ content. IsStored content entry.oid)) → IsFound (view_of s) (brought r output) entry
  found entry h other = go (has_id given entry.oid) refl (has_id (map (id_of output.hash) output.trees) entry.oid) refl
    where
      new : has_id (map (id_of s.hash) (brought r output)) entry.oid ≡ true → IfSome s.content (λ content. IsStored content entry.oid ⊎ (has_id (map (id_of s.hash) (brought r output)) entry.oid ≡ true))
      new e = always s.content
        where
          always : (told : Option Content) → IfSome told (λ content. IsStored content entry.oid ⊎ (has_id (map (id_of s.hash) (brought r output)) entry.oid ≡ true))
          always None = tt
          always (Some content) = inr e

      go : (a : Bool) → has_id given entry.oid ≡ a → (b : Bool) → has_id (map (id_of output.hash) output.trees) entry.oid ≡ b → IfSome s.content (λ content. IsStored content entry.oid ⊎ (has_id (map (id_of s.hash) (brought r output)) entry.oid ≡ true))
      go true e b f = new (among_new entry.oid ∙ ap (λ t. t || has_id (map (id_of output.hash) output.trees) entry.oid) e)
      go false e true f = new (among_new entry.oid ∙ ap (λ t. t || has_id (map (id_of output.hash) output.trees) entry.oid) e ∙ f)
      go false e false f = told_with s.content (λ content at. inl at) (h (record { no_submodule = other; not_given = e; no_tree = f }))

  pub all_found : (entries : List Entry) → AllByRecursion (λ entry. IsNeeded output given entry → IfSome s.content (λ content. IsStored content entry.oid)) entries → AllByRecursion (IsFound (view_of s) (brought r output)) entries
  all_found [] h = tt
  all_found (entry ∷ entries) h = (found entry h.0, all_found entries h.1)

-- ---- the trees pass, or are refused

module _ (settings : Settings) (r : CommitRequest) (s : StoreState) (edited : Edited) (by : IsEditedBy r s edited) where
  makes : (output : Output) → IsOutputOfView (hash_of edited.editor) (directories_of edited.editor) output → Makes r (view_of s) output
  makes output w = record { end = directories_of edited.editor; edits = by.edits; written = subst (λ h. IsOutputOfView h (directories_of edited.editor) output) by.hash w }

  -- there are no trees to write
  pub plan_refused : (e : EditError) → PlanViewCauses (hash_of edited.editor) (directories_of edited.editor) e → StageCauses settings r s (lifted e)
  plan_refused (edit_error.WriteObject field) c = subst (λ f. StageCauses settings r s (error.WriteObject f)) (sym c.0) (record { output = c.1; makes = makes c.1 c.2; some = c.3 })
  plan_refused (edit_error.InvalidFilename filename k id source) c = absurd c
  plan_refused (edit_error.MissingObject filename k id) c = absurd c
  plan_refused (edit_error.Store fault) c = absurd c
  plan_refused edit_error.NoMemory c = tt
  plan_refused edit_error.EmptyPathComponent c = absurd c
  plan_refused edit_error.IsTree c = absurd c
  plan_refused (edit_error.FindExistingObject id) c = absurd c
  plan_refused (edit_error.ObjectKind id actual) c = absurd c
  plan_refused (edit_error.Decode id) c = absurd c

  module _ (output : Output) (w : IsOutputOfView (hash_of edited.editor) (directories_of edited.editor) output) (given : List ObjectId) (ids : (id : ObjectId) → has_id given id ≡ has_id edited.blobs.items id) where
    own : output.hash ≡ s.hash
    own = w.same_hash ∙ by.hash

    known : (id : ObjectId) → has_id given id ≡ has_id (blob_ids s.hash r.edits) id
    known id = ids id ∙ ap (λ l. has_id l id) by.blobs

    pub trees_found : AreSpelled output → MayBeWritten output settings.protect given s → AreTreesOf settings r s output
    trees_found spelled m = record {
      may = record { makes = makes output w; spelled = spelled; safe = m.safe; found = all_found r s given output own known output.entries m.stored };
      hash = own;
    }

    pub trees_refused : (e : EditError) → CheckCauses output settings.protect given s e → StageCauses settings r s (lifted e)
    trees_refused (edit_error.WriteObject field) c = absurd c
    trees_refused (edit_error.InvalidFilename filename k id source) c = record {
      output = output;
      makes = makes output w;
      some = record { entry = c.entry; among = c.among; is = (c.is.0, subst (λ n. IsFirstViolated n (is_link c.entry) settings.protect source) (sym c.is.0.named) c.is.1) };
    }
    trees_refused (edit_error.MissingObject filename k id) c = record {
      output = output;
      makes = makes output w;
      some = record {
        entry = c.entry;
        among = c.among;
        is = (
          c.is.0,
          record {
            no_submodule = c.is.1.no_submodule;
            not_brought = needed r s given output own known c.entry c.is.1;
            not_stored = told_with s.content (λ content none. λ at. none (subst (IsStored content) (sym c.is.0.is_id) at)) c.is.2;
          },
        );
      };
    }
    trees_refused (edit_error.Store (what.Object id)) c = (
      c.0,
      inr (record {
        output = output;
        makes = makes output w;
        some = record { entry = c.1.entry; among = c.1.among; is = record { no_submodule = c.1.is.1.no_submodule; not_brought = needed r s given output own known c.1.entry c.1.is.1; is_id = c.1.is.0 } };
      }),
    )
    trees_refused (edit_error.Store (what.Name name)) c = absurd c
    trees_refused (edit_error.Store what.Index) c = absurd c
    trees_refused (edit_error.Store what.Listing) c = absurd c
    trees_refused (edit_error.Store what.Write) c = absurd c
    trees_refused edit_error.NoMemory c = tt
    trees_refused edit_error.EmptyPathComponent c = absurd c
    trees_refused edit_error.IsTree c = absurd c
    trees_refused (edit_error.FindExistingObject id) c = absurd c
    trees_refused (edit_error.ObjectKind id actual) c = absurd c
    trees_refused (edit_error.Decode id) c = absurd c
