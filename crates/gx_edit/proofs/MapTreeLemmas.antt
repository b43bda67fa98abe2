-- The trees of a map: what stands at or below its root is one of them, and nothing is wrong with it.
use Rattle.std.proofs.Common.{◌≡◌, ◌≢◌, ◌<◌, ◌≤◌, ◌+◌, ◌++◌, inl, inr, ⊎_elim, ℕ, suc, zero, true, List, [], ◌∷◌, map, Contains, Option, Some, refl, sym, ap, ◌∙◌, subst, true≢false, arith}
use Rattle.std.specs.List.{AllByRecursion}
use Rattle.std.specs.List.Sorted.{IsStrictlySortedBy}
use Rattle.std.specs.declared.cmp.Ordering.TheVariants.{Less}
use Rattle.gx_hash.specs.declared.kind.HashKind.{HashKind}
use Rattle.gx_hash.specs.declared.oid.ObjectId.{ObjectId}
use Rattle.gx_hash.specs.HashKind.{kind_of}
use Rattle.gx_hash.specs.ObjectId.{object_id, null_id}
use Rattle.gx_rules.specs.Name.{name_cmp}
use Rattle.gx_object.specs.declared.kind.Kind.{Kind}
use Rattle.gx_object.specs.declared.kind.Kind.TheVariants as kind
use Rattle.gx_object.specs.declared.tree.Entry.{Entry}
use Rattle.gx_object.specs.declared.tree.EntryKind.{EntryKind}
use Rattle.gx_object.specs.declared.tree.EntryKind.TheVariants as entry_kind
use Rattle.gx_object.specs.Kind.{kind_name}
use Rattle.gx_object.specs.Mode.{mode_of, is_tree_mode}
use Rattle.gx_object.specs.Tree.{tree_bytes, sort_key}
use Rattle.gx_object.specs.TreeSpelling.{SpellsTree}
use Rattle.gx_object.specs.Laws.{tree_once, written_tree}
use Rattle.gx_store.specs.Content.{Content, lookup, HoldsAll}
use Rattle.gx_edit.specs.PathMap.{PathMap}
use Rattle.gx_edit.specs.CanonicalTree.{Directory, Follow, IsCanonical, IsLeafMode, Represents, entries_of, tree_of, root_of, trees_below, trees_of}
use Rattle.gx_edit.specs.CanonicalTree.Directory.{End, File, Sub}
use Rattle.gx_edit.specs.CanonicalTree.{entries_within}
use Rattle.gx_edit.specs.SharedIds.{HasIdsOf, HasNoNullId}
use Rattle.gx_edit.specs.ReadMapCauses.{IsSound, AreRising, HaveOwnNames, SpellsCanonically, HasSubtree, IsAtOrBelow, HasNoMap}
use Rattle.gx_edit.specs.ReadMapCauses.IsAtOrBelow.{here, below}
use Rattle.gx_edit.specs.ReadMapCauses.HasNoMap.{spelling, digest, empty, cycle}
use Rattle.gx_edit.proofs.EntryOrder.{key_of_leaf, All-behind}
use Rattle.gx_edit.proofs.RootLemmas.{FitAll, fit_all, all_spelled, decided, one_or_shared, last, held, never_shared}

-- ---- entries of a canonical directory

abbrev NotNull : Entry → Type 0
NotNull entry = entry.oid ≢ null_id (kind_of entry.oid)

abbrev IsOwn : HashKind → Directory → Type 0
IsOwn hash d = AllByRecursion NotNull (entries_within hash d)

All-before : {A : Type 0} (P : A → Type 0) (xs ys : List A) → AllByRecursion P (xs ++ ys) → AllByRecursion P xs
All-before P [] ys h = tt
All-before P (x ∷ xs) ys h = (h.0, All-before P xs ys h.1)

some_kind : (mode : ℕ) → IsLeafMode mode → (kind : EntryKind) × (mode ≡ mode_of kind)
some_kind mode (inl e) = (entry_kind.Blob, e)
some_kind mode (inr (inl e)) = (entry_kind.BlobExecutable, e)
some_kind mode (inr (inr (inl e))) = (entry_kind.Link, e)
some_kind mode (inr (inr (inr e))) = (entry_kind.Commit, e)

no_leaf : (mode : ℕ) → IsLeafMode mode → is_tree_mode mode ≡ true → ⊥
no_leaf mode (inl e) is = true≢false (sym is ∙ ap is_tree_mode e)
no_leaf mode (inr (inl e)) is = true≢false (sym is ∙ ap is_tree_mode e)
no_leaf mode (inr (inr (inl e))) is = true≢false (sym is ∙ ap is_tree_mode e)
no_leaf mode (inr (inr (inr e))) is = true≢false (sym is ∙ ap is_tree_mode e)

module _ (hash : HashKind) where
  sound_entries : (d : Directory) → IsCanonical d → IsOwn hash d → AllByRecursion IsSound (entries_of hash d)
  sound_entries End ok own = tt
  sound_entries (File n x rest) ok own = (record { name = ok.0; mode = some_kind x.mode.value ok.3; id = own.0 }, sound_entries rest ok.2 own.1)
  sound_entries (Sub n inner rest) ok own =
      let more = All-behind NotNull (entries_within hash inner) (record { mode = record { value = mode_of entry_kind.Tree }; filename = n; oid = root_of hash inner } ∷ entries_within hash rest) own in
      (record { name = ok.0; mode = (entry_kind.Tree, refl); id = more.0 }, sound_entries rest ok.4 more.1)

  keys_follow : (n key : List ℕ) (d : Directory) → IsCanonical d → Follow n key d → AllByRecursion (λ y. name_cmp key y ≡ Less) (map sort_key (entries_of hash d))
  keys_follow n key End ok f = tt
  keys_follow n key (File m x rest) ok f = (subst (λ k. name_cmp key k ≡ Less) (sym (key_of_leaf m x ok.3)) f.1, keys_follow n key rest ok.2 f.2)
  keys_follow n key (Sub m inner rest) ok f = (f.1, keys_follow n key rest ok.4 f.2)

  names_follow : (n key : List ℕ) (d : Directory) → Follow n key d → AllByRecursion (λ (other : Entry). n ≢ other.filename) (entries_of hash d)
  names_follow n key End f = tt
  names_follow n key (File m x rest) f = (f.0, names_follow n key rest f.2)
  names_follow n key (Sub m inner rest) f = (f.0, names_follow n key rest f.2)

  rising_entries : (d : Directory) → IsCanonical d → AreRising (entries_of hash d)
  unfolding IsStrictlySortedBy
  rising_entries End ok = tt
  rising_entries (File n x rest) ok = (subst (λ k. AllByRecursion (λ y. name_cmp k y ≡ Less) (map sort_key (entries_of hash rest))) (sym (key_of_leaf n x ok.3)) (keys_follow n n rest ok.2 ok.1), rising_entries rest ok.2)
  rising_entries (Sub n inner rest) ok = (keys_follow n (n ++ 47 ∷ []) rest ok.4 ok.3, rising_entries rest ok.4)

  own_names : (d : Directory) → IsCanonical d → HaveOwnNames (entries_of hash d)
  own_names End ok = tt
  own_names (File n x rest) ok = (names_follow n n rest ok.1, own_names rest ok.2)
  own_names (Sub n inner rest) ok = (names_follow n (n ++ 47 ∷ []) rest ok.3, own_names rest ok.4)

one_text : (a b : List ℕ) → ◌≡◌ {A = Option (Kind × List ℕ)} (Some (kind.Tree, a)) (Some (kind.Tree, b)) → b ≡ a
one_text a b same = let pair : ◌≡◌ {A = Kind × List ℕ} (kind.Tree, a) (kind.Tree, b) = cc in sym (ap (λ (p : Kind × List ℕ). p.1) pair)

-- ---- a directory that is stored whole

record IsHeld (hash : HashKind) (content : Content) (d : Directory) : Type 0 where
  pub canonical : IsCanonical d
  pub fits : FitAll hash d
  pub own : IsOwn hash d
  pub stored : HoldsAll hash (trees_of hash d) content

abbrev size_of : Directory → ℕ
size_of End = 0
size_of (File n x rest) = suc (size_of rest)
size_of (Sub n inner rest) = suc (size_of inner + size_of rest)

-- the id is the root of a directory below
record IsChild (hash : HashKind) (content : Content) (d : Directory) (id : ObjectId) : Type 0 where
  pub inner : Directory
  pub held : IsHeld hash content inner
  pub full : inner ≢ End
  pub is_root : id ≡ root_of hash inner
  pub smaller : size_of inner < size_of d

-- the id is the root of the directory or of one below
record IsWithin (hash : HashKind) (content : Content) (d : Directory) (id : ObjectId) : Type 0 where
  pub inner : Directory
  pub held : IsHeld hash content inner
  pub is_root : id ≡ root_of hash inner
  pub smaller : size_of inner ≤ size_of d

module _ (hash : HashKind) (content : Content) where
  stored_root : (d : Directory) → IsHeld hash content d → lookup content (root_of hash d) ≡ Some (tree_of hash d)
  stored_root d h = held hash content (trees_of hash d) (tree_of hash d) h.stored (last hash (trees_below hash d) (tree_of hash d))

  spelled_whole : (d : Directory) → IsHeld hash content d → SpellsTree hash (tree_bytes (entries_of hash d)) (entries_of hash d)
  spelled_whole d h = written_tree hash (entries_of hash d) (all_spelled hash d h.canonical h.fits)

  same_bytes : (d : Directory) (bytes : List ℕ) → IsHeld hash content d → lookup content (root_of hash d) ≡ Some (kind.Tree, bytes) → bytes ≡ tree_bytes (entries_of hash d)
  same_bytes d bytes h found = one_text (tree_bytes (entries_of hash d)) bytes (sym (stored_root d h) ∙ found)

  child_entry : (d : Directory) → IsCanonical d → FitAll hash d → IsOwn hash d → HoldsAll hash (trees_below hash d) content → (e : Entry) → Contains (entries_of hash d) e → is_tree_mode e.mode.value ≡ true → IsChild hash content d e.oid
  child_entry End ok fits own stored e (k, less, is) tree = absurd (omega (arith, less))
  child_entry (File n x rest) ok fits own stored e (zero, less, is) tree = absurd (no_leaf x.mode.value ok.3 (ap (λ (f : Entry). is_tree_mode f.mode.value) is ∙ tree))
  child_entry (File n x rest) ok fits own stored e (suc k, less, is) tree =
      let c = child_entry rest ok.2 fits.1 own.1 stored e (k, omega (arith, less), is) tree in
      record { inner = c.inner; held = c.held; full = c.full; is_root = c.is_root; smaller = let less = c.smaller in omega (arith, less) }
  child_entry (Sub n inner rest) ok fits own stored e (zero, less, is) tree =
      record {
        inner = inner;
        held = record { canonical = ok.2; fits = fits.0; own = All-before NotNull (entries_within hash inner) _ own; stored = All-before _ (trees_of hash inner) (trees_below hash rest) stored };
        full = ok.1;
        is_root = sym (ap (λ (f : Entry). f.oid) is);
        smaller = omega arith;
      }
  child_entry (Sub n inner rest) ok fits own stored e (suc k, less, is) tree =
      let more = All-behind NotNull (entries_within hash inner) (record { mode = record { value = mode_of entry_kind.Tree }; filename = n; oid = root_of hash inner } ∷ entries_within hash rest) own in
      let c = child_entry rest ok.4 fits.1 more.1 (All-behind _ (trees_of hash inner) (trees_below hash rest) stored) e (k, omega (arith, less), is) tree in
      record { inner = c.inner; held = c.held; full = c.full; is_root = c.is_root; smaller = let less = c.smaller in omega (arith, less) }

  child_of : (d : Directory) (above id : ObjectId) → IsHeld hash content d → above ≡ root_of hash d → HasSubtree hash content above id → IsChild hash content d id
  child_of d above id h is sub =
      let same : sub.has.bytes ≡ tree_bytes (entries_of hash d) = same_bytes d sub.has.bytes h (ap (lookup content) (sym is) ∙ sub.has.stored) in
      let entries : sub.entries ≡ entries_of hash d = tree_once hash sub.has.bytes sub.entries (entries_of hash d) sub.has.spelled (subst (λ b. SpellsTree hash b (entries_of hash d)) (sym same) (spelled_whole d h)) in
      subst (IsChild hash content d) sub.id_is
      (child_entry d h.canonical h.fits h.own (All-before _ (trees_below hash d) (tree_of hash d ∷ []) h.stored) sub.entry (subst (λ es. Contains es sub.entry) entries sub.among) sub.is_tree)

  within : (d : Directory) {root id : ObjectId} → IsHeld hash content d → root ≡ root_of hash d → IsAtOrBelow hash content root id → IsWithin hash content d id
  within d h is here = record { inner = d; held = h; is_root = is; smaller = omega arith }
  within d h is (below above id reach sub) =
      let w = within d h is reach in
      let c = child_of w.inner above id w.held w.is_root sub in
      record { inner = c.inner; held = c.held; is_root = c.is_root; smaller = (let less = c.smaller in let more = w.smaller in omega (arith, less, more)) }

  one_held : (d e : Directory) → IsHeld hash content d → IsHeld hash content e → root_of hash d ≡ root_of hash e → d ≡ e
  one_held d e h k same =
      ⊎_elim (λ is. is) (λ share. absurd (never_shared hash content (trees_of hash d) (trees_of hash e) h.stored k.stored share))
      (decided hash d e h.canonical k.canonical h.fits k.fits (one_or_shared hash d e h.canonical k.canonical h.fits k.fits) same)

  no_entries : (d : Directory) → IsHeld hash content d → tree_bytes (entries_of hash d) ≡ [] → d ≡ End
  no_entries d h none = bare d (tree_once hash [] (entries_of hash d) [] (subst (λ b. SpellsTree hash b (entries_of hash d)) none (spelled_whole d h)) (written_tree hash [] (all_spelled hash End tt tt)))
    where
      bare : (d : Directory) → entries_of hash d ≡ [] → d ≡ End
      bare End h = refl
      bare (File n x rest) h = cc
      bare (Sub n inner rest) h = cc

  never_without : (d : Directory) (root id : ObjectId) → IsHeld hash content d → root ≡ root_of hash d → IsWithin hash content d id → HasNoMap hash content root id → ⊥
  never_without d root id h is w (spelling bytes found none) =
      let same = same_bytes w.inner bytes w.held (ap (lookup content) (sym w.is_root) ∙ found) in
      none (entries_of hash w.inner) (subst (λ b. SpellsCanonically hash b (entries_of hash w.inner)) (sym same) (record {
        spelled = spelled_whole w.inner w.held;
        written = refl;
        sound = sound_entries hash w.inner w.held.canonical w.held.own;
        rising = rising_entries hash w.inner w.held.canonical;
        names = own_names hash w.inner w.held.canonical;
      }))
  never_without d root id h is w (digest bytes found other) = other (w.is_root ∙ ap (λ b. object_id hash (kind_name kind.Tree) b) (sym (same_bytes w.inner bytes w.held (ap (lookup content) (sym w.is_root) ∙ found))))
  never_without d root id h is w (empty above reach sub found) =
      let top = within d h is reach in
      let c = child_of top.inner above id top.held top.is_root sub in
      c.full (no_entries c.inner c.held (sym (same_bytes c.inner [] c.held (ap (lookup content) (sym c.is_root) ∙ found))))
  never_without d root id h is w (cycle above reach sub) =
      let low = within w.inner w.held w.is_root reach in
      let c = child_of low.inner above id low.held low.is_root sub in
      let same : c.inner ≡ w.inner = one_held c.inner w.inner c.held w.held (sym c.is_root ∙ w.is_root) in
      let sizes : size_of c.inner ≡ size_of w.inner = ap size_of same in
      let less = c.smaller in
      let more = low.smaller in
      absurd (omega (arith, sizes, less, more))

pub trees_have_maps : (hash : HashKind) (content : Content) (root : ObjectId) (m : PathMap) → HasIdsOf hash m → HasNoNullId hash m → Represents hash content root m → (id : ObjectId) → IsAtOrBelow hash content root id
    → ((bytes : List ℕ) × (lookup content id ≡ Some (kind.Tree, bytes))) × (HasNoMap hash content root id → ⊥)
trees_have_maps hash content root m ids own r id reach =
    let h : IsHeld hash content r.directory = record {
      canonical = r.stands.canonical;
      fits = fit_all hash r.directory r.stands.canonical (λ p leaf at. ids p leaf (sym (r.stands.leaves p) ∙ at));
      own = own r.directory r.stands;
      stored = r.stored;
    } in
    let w = within hash content r.directory h r.is_root reach in
    ((tree_bytes (entries_of hash w.inner), ap (lookup content) w.is_root ∙ stored_root hash content w.inner w.held), never_without hash content r.directory root id h r.is_root w)
