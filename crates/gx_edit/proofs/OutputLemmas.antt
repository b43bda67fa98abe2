-- What a plan, its trees stored, and refusals say of what is written.
use Rattle.std.proofs.Common.{◌≡◌, ◌≢◌, ◌∙◌, ◌<◌, ℕ, zero, suc, false, sym, ap, refl, subst, List, [], ◌∷◌, ◌++◌, map, take, drop, take-append-drop, Option, Some, None, IsSome, IfSome, IsTrue, Contains, Result, Ok, Err, length, arith}
use Rattle.std.specs.Prelude.{IfOk, IfErr, option_map}
use Rattle.std.specs.List.{AllByRecursion}
use Rattle.std.proofs.lemmas.List.{append-nil, length-map}
use Rattle.gx_hash.specs.declared.kind.HashKind.{HashKind}
use Rattle.gx_hash.specs.declared.oid.ObjectId.{ObjectId}
use Rattle.gx_object.specs.declared.kind.Kind.{Kind}
use Rattle.gx_object.specs.declared.kind.Kind.TheVariants as object_kind
use Rattle.gx_object.specs.declared.tree.Entry.{Entry}
use Rattle.gx_rules.specs.declared.component_rules.Protect.{Protect}
use Rattle.gx_store.specs.Content.{Content, AreApart, id_of, with_objects}
use Rattle.gx_store.specs.State.{StoreState, Becomes, HasCause, OfFault, all_stored}
use Rattle.gx_store.specs.declared.error.StoreError.{StoreError}
use Rattle.gx_store.specs.declared.error.StoreError.TheVariants as store_error
use Rattle.gx_store.specs.declared.error.What.TheVariants.{Object, Name, Index, Listing, Write}
use Rattle.gx_store.specs.Laws.{WritingAdds, AddedIsFound}
use Rattle.gx_edit.specs.PathList.{PathList, map_of, has_zero, IsPathMap, IsRising}
use Rattle.gx_edit.specs.PathMap.{PathMap}
use Rattle.gx_edit.specs.CanonicalTree.{Directory, IsCanonical, StandsFor, Represents, tree_of, trees_below, trees_of}
use Rattle.gx_edit.specs.CanonicalTree.Directory.{End, File, Sub}
use Rattle.gx_edit.specs.Output.{Output, IsOutputOf, PlanCauses, output_of}
use Rattle.gx_edit.specs.Planning.{leaves_of, rows_at, texts_of, planned, ArePlanned, objects_of, IsPlan}
use Rattle.gx_edit.specs.Writing.{StoresTrees, BeginsTrees, StopsInTrees, Writes, WriteCauses, AreSafe, WritesMap, RepresentsMap, WriteMapCauses}
use Rattle.gx_edit.specs.Checking.{OneOf, IsUnsafe, IsMissing}
use Rattle.gx_edit.specs.Refusals.{handed_on}
use Rattle.gx_edit.specs.declared.error.EditError.{EditError}
use Rattle.gx_edit.specs.declared.error.EditError.TheVariants as error
use Rattle.gx_edit.specs.declared.output.PlannedTree.{PlannedTree}
use Rattle.gx_edit.specs.declared.writing.groups.Row.{Row}
use Rattle.gx_edit.specs.declared.writing.plan.Plan.{Plan}
use Rattle.gx_edit.proofs.DirectoryLemmas.{one_directory}
use Rattle.gx_edit.proofs.ExistsLemmas.{has_directory}
use Rattle.gx_edit.proofs.RowsLemmas.{leaves_are_rows}
use Rattle.gx_edit.proofs.StoringLemmas.{none_stored}

-- ---- the plan of a map

IsTree : Kind × List ℕ → Type 0
IsTree object = object.0 ≡ object_kind.Tree

All-both : {A : Type 0} (P : A → Type 0) (xs ys : List A) → AllByRecursion P xs → AllByRecursion P ys → AllByRecursion P (xs ++ ys)
All-both P [] ys a b = b
All-both P (x ∷ xs) ys a b = (a.0, All-both P xs ys a.1 b)

below_are_trees : (hash : HashKind) (d : Directory) → AllByRecursion IsTree (trees_below hash d)
unfolding IsTree
below_are_trees hash End = tt
below_are_trees hash (File n leaf rest) = below_are_trees hash rest
below_are_trees hash (Sub n inner rest) = All-both IsTree (trees_below hash inner ++ tree_of hash inner ∷ []) (trees_below hash rest)
    (All-both IsTree (trees_below hash inner) (tree_of hash inner ∷ []) (below_are_trees hash inner) (refl, tt)) (below_are_trees hash rest)

are_trees : (hash : HashKind) (d : Directory) → AllByRecursion IsTree (trees_of hash d)
unfolding IsTree
are_trees hash d = All-both IsTree (trees_below hash d) (tree_of hash d ∷ []) (below_are_trees hash d) (refl, tt)

objects_are : (hash : HashKind) (trees : List (Kind × List ℕ)) → AllByRecursion IsTree trees → objects_of (map (planned hash) trees) ≡ trees
unfolding IsTree
objects_are hash [] h = refl
objects_are hash (t ∷ trees) h =
    let more : objects_of (map (planned hash) trees) ≡ trees = objects_are hash trees h.1 in
    let kind : t.0 ≡ object_kind.Tree = h.0 in
    λ i. (sym kind i, t.1) ∷ more i

planned_are : (hash : HashKind) (trees : List (Kind × List ℕ)) → AllByRecursion IsTree trees → ArePlanned hash (map (planned hash) trees)
unfolding IsTree
planned_are hash [] h = tt
planned_are hash (t ∷ trees) h = (ap (λ k. id_of hash (k, t.1)) h.0, planned_are hash trees h.1)

-- the map of the paths is planned
pub record PlansPaths (paths : PathList) (hash : HashKind) (plan : Plan) (root : ObjectId) : Type 0 where
  pub directory : Directory
  pub stands : StandsFor directory (map_of paths)
  pub is : IsPlan hash directory plan root

pub plans_paths : (paths : PathList) (hash : HashKind) (plan : Plan) (root : ObjectId) (rs slice : List Row) → IsRising paths → IsPathMap (map_of paths) → has_zero paths ≡ false → texts_of rs ≡ paths → slice ≡ rs
    → ((d : Directory) → IsCanonical d → leaves_of d ≡ rows_at 0 slice → IsPlan hash d plan root) → PlansPaths paths hash plan root
plans_paths paths hash plan root rs slice rising m plain is same f =
    let d = has_directory paths rising m plain in
    record { directory = d.0; stands = d.1; is = f d.0 d.1.canonical (leaves_are_rows d.0 paths rs is rising d.1 ∙ ap (rows_at 0) (sym same)) }

module _ (paths : PathList) (hash : HashKind) (plan : Plan) (root : ObjectId) (w : PlansPaths paths hash plan root) where
  pub are_planned : ArePlanned hash plan.trees.items
  are_planned = subst (ArePlanned hash) (sym w.is.trees) (planned_are hash (trees_of hash w.directory) (are_trees hash w.directory))

  trees_planned : objects_of plan.trees.items ≡ trees_of hash w.directory
  trees_planned = ap objects_of w.is.trees ∙ objects_are hash (trees_of hash w.directory) (are_trees hash w.directory)

  pub output_planned : (output : Output) → output ≡ record { hash = hash; trees = objects_of plan.trees.items; entries = plan.entries.items; root = root } → IsOutputOf hash (map_of paths) output
  output_planned output is = record {
    directory = w.directory;
    stands = w.stands;
    is = is ∙ (λ i. record { hash = hash; trees = trees_planned i; entries = w.is.entries i; root = w.is.is_root i });
  }

-- ---- nothing stored, some trees, all trees

pub nothing_begun : (o : Output) (protect : Option Protect) (s : StoreState) → BeginsTrees o protect s s
nothing_begun o protect s = record { first = []; rest = o.trees; split = refl; becomes = none_stored s; safe = λ some. absurd (some refl) }

some_left : {X : Type 0} (n : ℕ) (xs : List X) → n < length xs → drop n xs ≢ []
some_left n [] less none = omega (arith, less)
some_left zero (x ∷ xs) less none = cc
some_left (suc n) (x ∷ xs) less none = some_left n xs (omega (arith, less)) none

module _ (o : Output) (s u : StoreState) (slice : List PlannedTree) (same : objects_of slice ≡ o.trees) where
  pub first_stored : ((n : ℕ) × (n < length slice) × Becomes (all_stored (take n (objects_of slice)) s) u) → (n : ℕ) × (n < length o.trees) × Becomes (all_stored (take n o.trees) s) u
  first_stored h = (h.0, subst (λ n. h.0 < n) (sym (length-map slice (λ (tree : PlannedTree). (object_kind.Tree, tree.bytes))) ∙ ap length same) h.1, subst (λ l. Becomes (all_stored (take h.0 l) s) u) same h.2)

  pub trees_stored : Becomes (all_stored (objects_of slice) s) u → Becomes (all_stored o.trees s) u
  trees_stored b = subst (λ l. Becomes (all_stored l s) u) same b

module _ (o : Output) (protect : Option Protect) (s u : StoreState) where
  pub stopped : AreSafe protect o → ((n : ℕ) × (n < length o.trees) × Becomes (all_stored (take n o.trees) s) u) → StopsInTrees o protect s u
  stopped safe h = record {
    begun = record {
      first = take h.0 o.trees;
      rest = drop h.0 o.trees;
      split = sym (take-append-drop h.0 o.trees);
      becomes = h.2;
      safe = λ some. safe;
    };
    left = some_left h.0 o.trees h.1;
    safe = safe;
  }

  all_begun : StoresTrees o protect s u → BeginsTrees o protect s u
  all_begun a = record { first = o.trees; rest = []; split = sym (append-nil o.trees); becomes = a.becomes; safe = λ some. a.safe }

  -- ---- refusals

  pub write_cause : (e : StoreError) → StopsInTrees o protect s u → OfFault e (HasCause s u) → WriteCauses o protect s u (handed_on e)
  write_cause store_error.NoMemory stops h = stops.begun
  write_cause (store_error.Fault fault) stops h = subst (λ f. WriteCauses o protect s u (error.Store f)) (sym h.0) (stops, h.1)

  pub stored_cause : (entries : List Entry) (e : EditError) → entries ≡ o.entries → u.unreadable ≡ s.unreadable → IsSome protect → StoresTrees o protect s u → OneOf entries (IsMissing u) e → WriteCauses o protect s u e
  stored_cause entries error.EmptyPathComponent same kept given stored x = absurd x.refused
  stored_cause entries (error.FindExistingObject id) same kept given stored x = absurd x.refused
  stored_cause entries (error.ObjectKind id actual) same kept given stored x = absurd x.refused
  stored_cause entries (error.Decode id) same kept given stored x = absurd x.refused
  stored_cause entries error.IsTree same kept given stored x = absurd x.refused
  stored_cause entries (error.InvalidFilename filename kind id source) same kept given stored x = absurd x.refused
  stored_cause entries (error.MissingObject filename kind id) same kept given stored x =
      (given, stored, record { entry = x.entry; among = subst (λ l. Contains l x.entry) same x.among; is = x.refused })
  stored_cause entries (error.WriteObject field) same kept given stored x = absurd x.refused
  stored_cause entries (error.Store (Object id)) same kept given stored x =
      (given, stored, subst (λ f. IsTrue (f (Object id))) kept x.refused.0, record { entry = x.entry; among = subst (λ l. Contains l x.entry) same x.among; is = (x.refused.1, x.refused.2) })
  stored_cause entries (error.Store (Name name)) same kept given stored x = absurd x.refused
  stored_cause entries (error.Store Index) same kept given stored x = absurd x.refused
  stored_cause entries (error.Store Listing) same kept given stored x = absurd x.refused
  stored_cause entries (error.Store Write) same kept given stored x = absurd x.refused
  stored_cause entries error.NoMemory same kept given stored x = all_begun stored

pub names_cause : (o : Output) (protect : Option Protect) (s : StoreState) (entries : List Entry) (e : EditError) → entries ≡ o.entries → OneOf entries (IsUnsafe protect) e → WriteCauses o protect s s e
names_cause o protect s entries error.EmptyPathComponent same x = absurd x.refused
names_cause o protect s entries (error.FindExistingObject id) same x = absurd x.refused
names_cause o protect s entries (error.ObjectKind id actual) same x = absurd x.refused
names_cause o protect s entries (error.Decode id) same x = absurd x.refused
names_cause o protect s entries error.IsTree same x = absurd x.refused
names_cause o protect s entries (error.InvalidFilename filename kind id source) same x = (refl, record { entry = x.entry; among = subst (λ l. Contains l x.entry) same x.among; is = x.refused })
names_cause o protect s entries (error.MissingObject filename kind id) same x = absurd x.refused
names_cause o protect s entries (error.WriteObject field) same x = absurd x.refused
names_cause o protect s entries (error.Store fault) same x = absurd x.refused
names_cause o protect s entries error.NoMemory same x = nothing_begun o protect s

pub kept_unreadable : (objects : List (Kind × List ℕ)) (s u : StoreState) → Becomes (all_stored objects s) u → u.unreadable ≡ s.unreadable
kept_unreadable objects s u b = ap (λ (v : StoreState). v.unreadable) b.same

-- ---- a map that is written

pub writes_map : (paths : PathList) (protect : Option Protect) (s u : StoreState) (o : Output) → IsOutputOf s.hash (map_of paths) o → (result : Result ObjectId EditError) → IfOk result (λ id. Writes o protect s id u) → IfOk result (λ id. WritesMap paths protect s id u)
writes_map paths protect s u o is (Ok id) h = record { output = o; is_output = is; is = h }
writes_map paths protect s u o is (Err e) h = tt

told_apart : (hash : HashKind) (objects : List (Kind × List ℕ)) (old new : Option Content) (P : Content → Type 0) → new ≡ option_map (with_objects hash objects) old
    → ((before : Content) → AreApart hash before objects → P (with_objects hash objects before)) → IfSome old (λ before. AreApart hash before objects → IfSome new P)
told_apart hash objects None new P is f = tt
told_apart hash objects (Some before) new P is f = λ apart. subst (λ t. IfSome t P) (sym is) (f before apart)

pub represents_map : WritingAdds → AddedIsFound → (m : PathMap) (protect : Option Protect) (s u : StoreState) (o : Output) → IsOutputOf s.hash m o → (result : Result ObjectId EditError) → IfOk result (λ id. Writes o protect s id u) → IfOk result (λ id. RepresentsMap m s id u)
represents_map adds found m protect s u o is (Err e) h = tt
represents_map adds found m protect s u o is (Ok id) h = λ directory stands.
    let one : is.directory ≡ directory = one_directory is.directory directory is.stands.canonical stands.canonical (λ p. is.stands.leaves p ∙ sym (stands.leaves p)) in
    let own : o ≡ output_of s.hash directory = is.is ∙ ap (output_of s.hash) one in
    told_apart s.hash (trees_of s.hash directory) s.content u.content (λ after. Represents s.hash after id m)
    (ap (λ (v : StoreState). v.content) h.becomes.same ∙ ap (λ (x : Output). option_map (with_objects s.hash x.trees) s.content) own)
    (λ before apart. record {
      directory = directory;
      stands = stands;
      is_root = h.is_root ∙ ap (λ (x : Output). x.root) own;
      stored = found s.hash (trees_of s.hash directory) before (with_objects s.hash (trees_of s.hash directory) before) apart (adds s.hash (trees_of s.hash directory) before);
    })

pub map_cause : (paths : PathList) (protect : Option Protect) (s u : StoreState) (o : Output) → IsOutputOf s.hash (map_of paths) o → (e : EditError) → WriteCauses o protect s u e → WriteMapCauses paths protect s u e
map_cause paths protect s u o is error.EmptyPathComponent c = absurd c
map_cause paths protect s u o is (error.FindExistingObject id) c = absurd c
map_cause paths protect s u o is (error.ObjectKind id actual) c = absurd c
map_cause paths protect s u o is (error.Decode id) c = absurd c
map_cause paths protect s u o is error.IsTree c = absurd c
map_cause paths protect s u o is (error.InvalidFilename filename kind id source) c = record { output = o; is_output = is; is = c }
map_cause paths protect s u o is (error.MissingObject filename kind id) c = record { output = o; is_output = is; is = c }
map_cause paths protect s u o is (error.WriteObject field) c = absurd c
map_cause paths protect s u o is (error.Store fault) c = record { output = o; is_output = is; is = c }
map_cause paths protect s u o is error.NoMemory c = record { output = o; is_output = is; is = c }

pub map_causes : (paths : PathList) (protect : Option Protect) (s u : StoreState) (o : Output) → IsOutputOf s.hash (map_of paths) o → (result : Result ObjectId EditError) → IfErr result (WriteCauses o protect s u) → IfErr result (WriteMapCauses paths protect s u)
map_causes paths protect s u o is (Ok id) h = tt
map_causes paths protect s u o is (Err e) h = map_cause paths protect s u o is e h

-- a map that is not planned
pub plan_cause : (paths : PathList) (protect : Option Protect) (s : StoreState) (e : EditError) → PlanCauses paths e → WriteMapCauses paths protect s s e
plan_cause paths protect s error.EmptyPathComponent c = absurd c
plan_cause paths protect s (error.FindExistingObject id) c = absurd c
plan_cause paths protect s (error.ObjectKind id actual) c = absurd c
plan_cause paths protect s (error.Decode id) c = absurd c
plan_cause paths protect s error.IsTree c = absurd c
plan_cause paths protect s (error.InvalidFilename filename kind id source) c = absurd c
plan_cause paths protect s (error.MissingObject filename kind id) c = absurd c
plan_cause paths protect s (error.WriteObject field) c = (c, refl)
plan_cause paths protect s (error.Store fault) c = absurd c
plan_cause paths protect s error.NoMemory c =
    record { output = output_of s.hash c.0; is_output = record { directory = c.0; stands = c.1; is = refl }; is = nothing_begun (output_of s.hash c.0) protect s }
