-- What was checked of trees still holds when they are written.
use Rattle.std.proofs.Common.{◌≡◌, ◌≢◌, ◌∙◌, sym, ap, refl, subst, ℕ, Bool, true, false, true≢false, ◌||◌, cond, List, [], ◌∷◌, map, Option, Some, None, IsSome, IfSome, Contains}
use Rattle.std.specs.Prelude.{option_map}
use Rattle.std.specs.Option.{option_or}
use Rattle.std.specs.FinMap.{get}
use Rattle.std.proofs.lemmas.List.Elements.{All-from_recursion, All-contains}
use Rattle.gx_hash.specs.declared.kind.HashKind.{HashKind}
use Rattle.gx_hash.specs.declared.oid.ObjectId.{ObjectId}
use Rattle.gx_rules.specs.Component.{IsComponent}
use Rattle.gx_rules.specs.declared.component_rules.Protect.{Protect}
use Rattle.gx_object.specs.declared.kind.Kind.{Kind}
use Rattle.gx_object.specs.declared.tree.Entry.{Entry}
use Rattle.gx_object.specs.declared.tree.EntryKind.TheVariants as entry_kind
use Rattle.gx_object.specs.Mode.{kind_of_mode}
use Rattle.gx_hash.specs.ObjectIds.{id_eq, has_id}
use Rattle.gx_store.specs.Content.{Content, IsStored, id_of, object_at, with_objects}
use Rattle.gx_store.specs.State.{StoreState, Becomes, all_stored}
use Rattle.gx_store.specs.Laws.{WritingAdds}
use Rattle.gx_edit.specs.CheckOutput.{IsNeeded, MayBeWritten, IsReady, IsOfStore}
use Rattle.gx_edit.specs.Entries.{is_link, IsSafe}
use Rattle.gx_edit.specs.Output.{Output}
use Rattle.gx_edit.specs.Writing.{StoresTrees, WriteCauses}
use Rattle.gx_edit.specs.declared.error.EditError.{EditError}
use Rattle.gx_edit.specs.declared.error.EditError.TheVariants as error

-- ---- what is stored once objects are written

first_of : {X : Type 0} (old added empty new : Option X) → new ≡ option_or old added → IsSome (option_or old empty) → IsSome (option_or new empty)
first_of (Some x) added empty new is h = subst (λ o. IsSome (option_or o empty)) (sym is) refl
first_of None (Some x) empty new is h = subst (λ o. IsSome (option_or o empty)) (sym is) refl
first_of None None empty new is h = subst (λ o. IsSome (option_or o empty)) (sym is) h

second_of : {X : Type 0} (old added empty new : Option X) → new ≡ option_or old added → IsSome added → IsSome (option_or new empty)
second_of (Some x) added empty new is h = subst (λ o. IsSome (option_or o empty)) (sym is) refl
second_of None (Some x) empty new is h = subst (λ o. IsSome (option_or o empty)) (sym is) refl
second_of None None empty new is h = absurd (true≢false (sym h))

stored_kept : WritingAdds → (hash : HashKind) (objects : List (Kind × List ℕ)) (content : Content) (id : ObjectId) → IsStored content id → IsStored (with_objects hash objects content) id
stored_kept law hash objects content id h = first_of (get content id) (object_at hash objects id) _ (get (with_objects hash objects content) id) (law hash objects content id) h

object_there : (hash : HashKind) (objects : List (Kind × List ℕ)) (id : ObjectId) → has_id (map (id_of hash) objects) id ≡ true → IsSome (object_at hash objects id)
object_there hash [] id h = absurd (true≢false (sym h))
object_there hash (o ∷ objects) id h = go (id_eq (id_of hash o) id) (λ e. object_there hash objects id e) h
  where
    go : (t : Bool) → (has_id (map (id_of hash) objects) id ≡ true → IsSome (object_at hash objects id)) → (t || has_id (map (id_of hash) objects) id) ≡ true → IsSome (cond t (Some o) (object_at hash objects id))
    go true rest e = refl
    go false rest e = rest e

stored_brought : WritingAdds → (hash : HashKind) (objects : List (Kind × List ℕ)) (content : Content) (id : ObjectId) → has_id (map (id_of hash) objects) id ≡ true → IsStored (with_objects hash objects content) id
stored_brought law hash objects content id h = second_of (get content id) (object_at hash objects id) _ (get (with_objects hash objects content) id) (law hash objects content id) (object_there hash objects id h)

pub made_ready : WritingAdds → (given : List ObjectId) (objects : List (Kind × List ℕ)) (before : Content) (checked ready : StoreState) → ((id : ObjectId) → has_id given id ≡ true → has_id (map (id_of checked.hash) objects) id ≡ true) → checked.content ≡ Some before
    → Becomes (all_stored objects checked) ready → IsReady given checked ready
made_ready law given objects before checked ready ids told b = record {
  same_hash = ap (λ (s : StoreState). s.hash) b.same;
  before = before;
  after = with_objects checked.hash objects before;
  told_before = told;
  told_after = ap (λ (s : StoreState). s.content) b.same ∙ ap (option_map (with_objects checked.hash objects)) told;
  kept = λ id there. stored_kept law checked.hash objects before id there;
  brought = λ id there. stored_brought law checked.hash objects before id (ids id there);
}

-- ---- the entries that were checked

module _ (law : WritingAdds) (o : Output) (protect : Protect) (given : List ObjectId) (checked ready : StoreState) (own : o.hash ≡ checked.hash) (m : MayBeWritten o protect given checked) (r : IsReady given checked ready) where
  passes : (e : Entry) → Contains o.entries e → IsComponent e.filename (is_link e) protect
  passes e among = All-contains (IsSafe (Some protect)) o.entries e (All-from_recursion (IsSafe (Some protect)) o.entries m.safe) among

  abbrev Found : Entry → Type 0
  Found e = IsNeeded o given e → IfSome checked.content (λ content. IsStored content e.oid)

  found : (e : Entry) → Contains o.entries e → kind_of_mode e.mode.value ≢ entry_kind.Commit → IsStored (with_objects o.hash o.trees r.after) e.oid
  found e among other = go (has_id given e.oid) refl (has_id (map (id_of o.hash) o.trees) e.oid) refl
    where
      stored : Found e
      stored = All-contains Found o.entries e (All-from_recursion Found o.entries m.stored) among

      before : IsNeeded o given e → IsStored r.before e.oid
      before needed = subst (λ told. IfSome told (λ content. IsStored content e.oid)) r.told_before (stored needed)

      after : IsStored r.after e.oid → IsStored (with_objects o.hash o.trees r.after) e.oid
      after there = stored_kept law o.hash o.trees r.after e.oid there

      go : (b : Bool) → has_id given e.oid ≡ b → (t : Bool) → has_id (map (id_of o.hash) o.trees) e.oid ≡ t → IsStored (with_objects o.hash o.trees r.after) e.oid
      go true is t among = after (r.brought e.oid is)
      go false is true among = stored_brought law o.hash o.trees r.after e.oid among
      go false is false among = after (r.kept e.oid (before (record { no_submodule = other; not_given = is; no_tree = among })))

  told_new : (new : StoreState) → StoresTrees o (Some protect) ready new → new.content ≡ Some (with_objects o.hash o.trees r.after)
  told_new new x =
      ap (λ (s : StoreState). s.content) x.becomes.same ∙ ap (option_map (with_objects ready.hash o.trees)) r.told_after ∙ ap (λ h. Some (with_objects h o.trees r.after)) (r.same_hash ∙ sym own)

  pub no_fault : (new : StoreState) (e : EditError) → WriteCauses o (Some protect) ready new e → IsOfStore e
  no_fault new error.EmptyPathComponent c = c
  no_fault new (error.FindExistingObject id) c = c
  no_fault new (error.ObjectKind id actual) c = c
  no_fault new (error.Decode id) c = c
  no_fault new error.IsTree c = c
  no_fault new (error.InvalidFilename filename kind id source) c = passes c.1.entry c.1.among source c.1.is.1.broken
  no_fault new (error.MissingObject filename kind id) c =
      subst (λ told. IfSome told (λ content. IsStored content id → ⊥)) (told_new new c.1) c.2.is.2
      (subst (IsStored (with_objects o.hash o.trees r.after)) (sym c.2.is.0.is_id) (found c.2.entry c.2.among (λ is. c.2.is.1 (c.2.is.0.of_kind ∙ is))))
  no_fault new (error.WriteObject field) c = c
  no_fault new (error.Store fault) c = tt
  no_fault new error.NoMemory c = tt
