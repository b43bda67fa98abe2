-- What passes over the entries of a plan say of what is to be written.
use Rattle.std.proofs.Common.{◌≡◌, ◌∙◌, sym, refl, subst, List, [], ◌∷◌, map, Some, Contains, IfSome, Result, Ok, Err, OnOk, OnErr}
use Rattle.std.specs.Prelude.{IfErr}
use Rattle.std.specs.List.{AllByRecursion}
use Rattle.gx_hash.specs.declared.kind.HashKind.{HashKind}
use Rattle.gx_hash.specs.declared.oid.ObjectId.{ObjectId}
use Rattle.gx_rules.specs.declared.component_rules.Protect.{Protect}
use Rattle.gx_object.specs.declared.tree.Entry.{Entry}
use Rattle.gx_store.specs.Content.{IsStored, id_of}
use Rattle.gx_store.specs.State.{StoreState}
use Rattle.gx_store.specs.declared.error.What.TheVariants.{Object, Name, Index, Listing, Write}
use Rattle.gx_hash.specs.ObjectIds.{has_id}
use Rattle.gx_edit.specs.CheckOutput.{IsNeeded, MayBeWritten, CheckCauses}
use Rattle.gx_edit.specs.Checking.{OneOf, IsUnsafe, IsCompleteOutside, IsMissingOutside}
use Rattle.gx_edit.specs.Entries.{IsSafe}
use Rattle.gx_edit.specs.Output.{Output}
use Rattle.gx_edit.specs.Planning.{ArePlanned, objects_of}
use Rattle.gx_edit.specs.declared.error.EditError.{EditError}
use Rattle.gx_edit.specs.declared.error.EditError.TheVariants as error
use Rattle.gx_edit.specs.declared.output.PlannedTree.{PlannedTree}
use Rattle.gx_edit.proofs.NeededLemmas.{ids_in}

-- ---- facts under a result

pub on_ok : {T E : Type 0} {P Q : Type 0} (r : Result T E) → (P → Q) → OnOk r P → OnOk r Q
on_ok (Ok x) f h = f h
on_ok (Err e) f h = h

pub on_err : {T E : Type 0} {P Q : Type 0} (r : Result T E) → (P → Q) → OnErr r P → OnErr r Q
on_err (Ok x) f h = h
on_err (Err e) f h = f h

pub if_err : {T E : Type 0} {P Q : E → Type 0} (r : Result T E) → ((e : E) → P e → Q e) → IfErr r P → IfErr r Q
if_err (Ok x) f h = h
if_err (Err e) f h = f e h

-- planned trees have the ids of their objects
pub ids_planned : (hash : HashKind) (trees : List PlannedTree) → ArePlanned hash trees → ids_in trees ≡ map (id_of hash) (objects_of trees)
ids_planned hash [] h = refl
ids_planned hash (tree ∷ trees) h =
    let more : ids_in trees ≡ map (id_of hash) (objects_of trees) = ids_planned hash trees h.1 in
    let one = h.0 in
    λ i. one i ∷ more i

each : {X : Type 0} {P Q : X → Type 0} → ((x : X) → P x → Q x) → (xs : List X) → AllByRecursion P xs → AllByRecursion Q xs
each f [] p = tt
each f (x ∷ xs) p = (f x p.0, each f xs p.1)

module _ (o : Output) (s : StoreState) (given ids : List ObjectId) (has : (id : ObjectId) → has_id ids id ≡ has_id (map (id_of o.hash) o.trees) id) where
  complete : (entry : Entry) → IsCompleteOutside s given ids entry → IsNeeded o given entry → IfSome s.content (λ content. IsStored content entry.oid)
  complete entry outside needed = outside (needed.not_given, has entry.oid ∙ needed.no_tree) needed.no_submodule

  pub may_be_written : (protect : Protect) (names entries : List Entry) → names ≡ o.entries → AllByRecursion (IsSafe (Some protect)) names
      → entries ≡ o.entries → AllByRecursion (IsCompleteOutside s given ids) entries → MayBeWritten o protect given s
  may_be_written protect names entries names_are safe entries_are outside = record {
    safe = subst (AllByRecursion (IsSafe (Some protect))) names_are safe;
    stored = each complete o.entries (subst (AllByRecursion (IsCompleteOutside s given ids)) entries_are outside);
  }

  pub missing_cause : (protect : Protect) (entries : List Entry) (e : EditError) → entries ≡ o.entries → OneOf entries (IsMissingOutside s given ids) e → CheckCauses o protect given s e
  missing_cause protect entries error.EmptyPathComponent same x = absurd x.refused.1
  missing_cause protect entries (error.FindExistingObject id) same x = absurd x.refused.1
  missing_cause protect entries (error.ObjectKind id actual) same x = absurd x.refused.1
  missing_cause protect entries (error.Decode id) same x = absurd x.refused.1
  missing_cause protect entries error.IsTree same x = absurd x.refused.1
  missing_cause protect entries (error.InvalidFilename filename kind id source) same x = absurd x.refused.1
  missing_cause protect entries (error.MissingObject filename kind id) same x = record {
    entry = x.entry;
    among = subst (λ l. Contains l x.entry) same x.among;
    is = (
      x.refused.1.0,
      record { no_submodule = λ is. x.refused.1.1 (x.refused.1.0.of_kind ∙ is); not_given = x.refused.0.0; no_tree = sym (has x.entry.oid) ∙ x.refused.0.1 },
      x.refused.1.2,
    );
  }
  missing_cause protect entries (error.WriteObject field) same x = absurd x.refused.1
  missing_cause protect entries (error.Store (Object id)) same x = (
    x.refused.1.0,
    record {
      entry = x.entry;
      among = subst (λ l. Contains l x.entry) same x.among;
      is = (x.refused.1.1, record { no_submodule = x.refused.1.2; not_given = x.refused.0.0; no_tree = sym (has x.entry.oid) ∙ x.refused.0.1 });
    },
  )
  missing_cause protect entries (error.Store (Name name)) same x = absurd x.refused.1
  missing_cause protect entries (error.Store Index) same x = absurd x.refused.1
  missing_cause protect entries (error.Store Listing) same x = absurd x.refused.1
  missing_cause protect entries (error.Store Write) same x = absurd x.refused.1
  missing_cause protect entries error.NoMemory same x = tt

pub unsafe_cause : (o : Output) (s : StoreState) (given : List ObjectId) (protect : Protect) (entries : List Entry) (e : EditError) → entries ≡ o.entries → OneOf entries (IsUnsafe (Some protect)) e → CheckCauses o protect given s e
unsafe_cause o s given protect entries error.EmptyPathComponent same x = absurd x.refused
unsafe_cause o s given protect entries (error.FindExistingObject id) same x = absurd x.refused
unsafe_cause o s given protect entries (error.ObjectKind id actual) same x = absurd x.refused
unsafe_cause o s given protect entries (error.Decode id) same x = absurd x.refused
unsafe_cause o s given protect entries error.IsTree same x = absurd x.refused
unsafe_cause o s given protect entries (error.InvalidFilename filename kind id source) same x = record { entry = x.entry; among = subst (λ l. Contains l x.entry) same x.among; is = x.refused }
unsafe_cause o s given protect entries (error.MissingObject filename kind id) same x = absurd x.refused
unsafe_cause o s given protect entries (error.WriteObject field) same x = absurd x.refused
unsafe_cause o s given protect entries (error.Store fault) same x = absurd x.refused
unsafe_cause o s given protect entries error.NoMemory same x = tt
