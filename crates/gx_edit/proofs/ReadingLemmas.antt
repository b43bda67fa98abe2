-- The trees that a reading has begun, from the root down.
use Rattle.std.proofs.Common.{◌≡◌, ◌≢◌, ℕ, suc, zero, Bool, true, false, ◌++◌, ◌+◌, ◌<◌, ◌≤◌, ◌⊎◌, inl, inr, ⊎_elim, cond, List, [], ◌∷◌, take, drop, length, Option, Some, None, is_some, IfSome, refl, sym, ap, ap₂, ◌∙◌, subst, arith, length-append, append_assoc, append-nil, ◌==◌, get_or, Contains, eqb-true, add-one, drop-cons}
use Rattle.std.proofs.lemmas.List.{drop_all}
use Rattle.std.proofs.lemmas.List.Elements.{Contains-append_right}
use Rattle.std.proofs.Math.Seq.{take-append_seam}
use Rattle.std.specs.List.{AllByRecursion, AllZip}
use Rattle.std.specs.declared.cmp.Ordering.TheVariants.{Less}
use Rattle.gx_hash.specs.declared.kind.HashKind.{HashKind}
use Rattle.gx_hash.specs.declared.kind.HashKind.TheVariants.{Sha1, Sha256}
use Rattle.gx_hash.specs.declared.oid.ObjectId.{ObjectId}
use Rattle.gx_hash.specs.declared.oid.ObjectId.TheVariants as oid
use Rattle.gx_hash.specs.HashKind.{kind_of}
use Rattle.gx_hash.specs.ObjectId.{object_id, null_id, bytes_of, id_from_bytes}
use Rattle.gx_object.specs.TreeSpelling.{SpellsEntry}
use Rattle.gx_rules.specs.Name.{name_cmp}
use Rattle.gx_rules.specs.Path.{at_front}
use Rattle.gx_object.specs.declared.kind.Kind.TheVariants as kind
use Rattle.gx_object.specs.declared.tree.Entry.{Entry}
use Rattle.gx_object.specs.declared.tree.EntryKind.TheVariants as entry_kind
use Rattle.gx_object.specs.Kind.{kind_name}
use Rattle.gx_object.specs.Mode.{mode_of, is_tree_mode}
use Rattle.gx_object.specs.Tree.{tree_bytes, sort_key}
use Rattle.gx_store.specs.Content.{Content, lookup, id_of, HoldsAll}
use Rattle.gx_edit.specs.Path.{Path, components, path_eq, IsName}
use Rattle.gx_edit.specs.PathMap.{PathMap}
use Rattle.gx_edit.specs.CanonicalTree.{Directory, leaf_at, IsCanonical, Represents, entries_of, tree_of, trees_of, trees_below, root_of}
use Rattle.gx_edit.specs.CanonicalTree.Directory.{End, File, Sub}
use Rattle.gx_edit.specs.ReadMapCauses.{IsSound, AreRising, HasSubtree, IsAtOrBelow}
use Rattle.gx_edit.specs.ReadMapCauses.IsAtOrBelow.{here, below}
use Rattle.gx_edit.specs.OpenTree.{IsOpened, IsOneOf}
use Rattle.gx_edit.specs.declared.leaf.Leaf.{Leaf}
use Rattle.gx_edit.specs.declared.stored_tree.open_tree.OpenTree.{OpenTree}
use Rattle.gx_edit.proofs.EntryOrder.{told_with, told_both, told_all, All-append, All-behind, keys_before, leaf_mode, tree_mode, precede_file, precede_sub}
use Rattle.gx_edit.proofs.DirectoryJoins.{join, entries-join, trees-join, Above, filled, names, AreFresh, filled-push, leaf_filled, leaf_opened, filled_same, leaf_inside, Precede, precede_apart, canonical_file, canonical_sub, HasIds, ids_join}

-- ---- paths

-- the path of the directories that are begun, with a slash after each
abbrev pub text_of : List Above → List ℕ
text_of [] = []
text_of (k ∷ ks) = k.entry.filename ++ 47 ∷ text_of ks

abbrev pub HaveNames : List Above → Type 0
HaveNames ks = AllByRecursion (λ (k : Above). IsName k.entry.filename) ks

text-push : (ks : List Above) (k : Above) → text_of (ks ++ k ∷ []) ≡ text_of ks ++ (k.entry.filename ++ 47 ∷ [])
text-push [] k = refl
text-push (j ∷ ks) k = ap (λ t. j.entry.filename ++ 47 ∷ t) (text-push ks k) ∙ sym (append_assoc j.entry.filename (47 ∷ text_of ks) (k.entry.filename ++ 47 ∷ []))

Contains-head : (b : ℕ) (n : List ℕ) → Contains (b ∷ n) b
Contains-head b n = (0, omega arith, refl)

Contains-tail : (b c : ℕ) (n : List ℕ) → Contains n c → Contains (b ∷ n) c
Contains-tail b c n h = Contains-append_right (b ∷ []) n c h

components-name : (n : List ℕ) → (Contains n 47 → ⊥) → components n ≡ n ∷ []
components-name [] free = refl
components-name (b ∷ n) free = go (b == 47) refl (components-name n (λ h. free (Contains-tail b 47 n h)))
  where
    go : (t : Bool) → (b == 47) ≡ t → components n ≡ n ∷ [] → cond t ([] ∷ components n) (at_front b (components n)) ≡ (b ∷ n) ∷ []
    go true e ih = absurd (free (subst (Contains (b ∷ n)) (eqb-true b 47 e) (Contains-head b n)))
    go false e ih = ap (at_front b) ih

components-sub : (n q : List ℕ) → (Contains n 47 → ⊥) → components (n ++ 47 ∷ q) ≡ n ∷ components q
components-sub [] q free = refl
components-sub (b ∷ n) q free = go (b == 47) refl (components-sub n q (λ h. free (Contains-tail b 47 n h)))
  where
    go : (t : Bool) → (b == 47) ≡ t → components (n ++ 47 ∷ q) ≡ n ∷ components q → cond t ([] ∷ components (n ++ 47 ∷ q)) (at_front b (components (n ++ 47 ∷ q))) ≡ (b ∷ n) ∷ components q
    go true e ih = absurd (free (subst (Contains (b ∷ n)) (eqb-true b 47 e) (Contains-head b n)))
    go false e ih = ap (at_front b) ih

-- the names of a path in the innermost directory
pub components-text : (ks : List Above) (n : List ℕ) → HaveNames ks → IsName n → components (text_of ks ++ n) ≡ names ks ++ n ∷ []
components-text [] n have name = components-name n name.no_slash
components-text (k ∷ ks) n have name =
    ap components (append_assoc k.entry.filename (47 ∷ text_of ks) n)
    ∙ components-sub k.entry.filename (text_of ks ++ n) have.0.no_slash ∙ ap (λ p. k.entry.filename ∷ p) (components-text ks n have.1 name)

-- ---- ids that are read are of the kind

read_fits : (hash : HashKind) (bytes : List ℕ) (id : ObjectId) → id_from_bytes hash bytes ≡ Some id → id_from_bytes hash (bytes_of id) ≡ Some id
read_fits Sha1 bytes id h = go (length bytes == 20) refl h
  where
    go : (t : Bool) → (length bytes == 20) ≡ t → cond t (Some (oid.Sha1 bytes)) None ≡ Some id → id_from_bytes Sha1 (bytes_of id) ≡ Some id
    go true e is = let same : oid.Sha1 bytes ≡ id = cc in subst (λ i. id_from_bytes Sha1 (bytes_of i) ≡ Some i) same (ap (λ t. cond t (Some (oid.Sha1 bytes)) None) e)
    go false e is = cc
read_fits Sha256 bytes id h = go (length bytes == 32) refl h
  where
    go : (t : Bool) → (length bytes == 32) ≡ t → cond t (Some (oid.Sha256 bytes)) None ≡ Some id → id_from_bytes Sha256 (bytes_of id) ≡ Some id
    go true e is = let same : oid.Sha256 bytes ≡ id = cc in subst (λ i. id_from_bytes Sha256 (bytes_of i) ≡ Some i) same (ap (λ t. cond t (Some (oid.Sha256 bytes)) None) e)
    go false e is = cc

spelled_fit : (hash : HashKind) (parts : List (List ℕ)) (es : List Entry) → AllZip (SpellsEntry hash) parts es → AllByRecursion (λ (e : Entry). id_from_bytes hash (bytes_of e.oid) ≡ Some e.oid) es
spelled_fit hash [] [] h = tt
spelled_fit hash [] (e ∷ es) h = absurd h
spelled_fit hash (part ∷ parts) [] h = absurd h
spelled_fit hash (part ∷ parts) (e ∷ es) h = (read_fits hash h.0.id e.oid h.0.oid, spelled_fit hash parts es h.1)

-- ---- a directory that is read so far

pub record IsFit (hash : HashKind) (told : Option Content) (done : Directory) : Type 0 where
  pub canonical : IsCanonical done
  pub ids : HasIds hash done
  pub stored : IfSome told (λ content. HoldsAll hash (trees_below hash done) content)

pub fit_none : (hash : HashKind) (told : Option Content) → IsFit hash told End
fit_none hash told = record { canonical = tt; ids = tt; stored = told_all told (λ content. tt) }

-- The tree at the id is read so far.
pub record IsLevel (hash : HashKind) (told : Option Content) (size : ℕ) (id : ObjectId) (tree : OpenTree) (done : Directory) : Type 0 where
  pub opened : IsOpened hash told id tree
  pub at_is : tree.at ≡ size
  pub split : tree.entries.items ≡ entries_of hash done ++ drop tree.place tree.entries.items
  pub fit : IsFit hash told done

-- The tree at the id is read so far, and an entry of it is begun.
pub record IsBegun (hash : HashKind) (told : Option Content) (size : ℕ) (id : ObjectId) (tree : OpenTree) (k : Above) : Type 0 where
  pub opened : IsOpened hash told id tree
  pub at_is : tree.at ≡ size
  pub split : tree.entries.items ≡ entries_of hash k.done ++ k.entry ∷ drop tree.place tree.entries.items
  pub fit : IsFit hash told k.done
  pub sound : IsSound k.entry
  pub is_tree : is_tree_mode k.entry.mode.value ≡ true
  pub before : Precede k.entry.filename (k.entry.filename ++ 47 ∷ []) k.done

-- Down the trees that are begun, from the one at the first id to the one at the second.
abbrev pub Within : HashKind → Option Content → ℕ → List OpenTree → List Above → ObjectId → ObjectId → Type 0
Within hash told size [] [] id inner = id ≡ inner
Within hash told size [] (k ∷ ks) id inner = ⊥
Within hash told size (tree ∷ trees) [] id inner = ⊥
Within hash told size (tree ∷ trees) (k ∷ ks) id inner = IsBegun hash told size id tree k × Within hash told (size + length k.entry.filename + 1) trees ks k.entry.oid inner

-- A reading of the tree at the root stands in this tree, below these; the leaves so far are in the map.
pub record IsAt (hash : HashKind) (told : Option Content) (levels : List OpenTree) (tree : OpenTree) (path : List ℕ) (root : ObjectId) (m : PathMap) : Type 0 where
  pub above : List Above
  pub done : Directory
  pub inner : ObjectId
  pub chain : Within hash told 0 levels above root inner
  pub level : IsLevel hash told (length (text_of above)) inner tree done
  pub text : path ≡ text_of above
  pub look : (p : Path) → m p ≡ leaf_at (filled above done) p
  pub some : (above ≡ []) ⊎ (tree.entries.items ≢ [])

module _ (hash : HashKind) (told : Option Content) where
  within_names : (size : ℕ) (trees : List OpenTree) (ks : List Above) (id inner : ObjectId) → Within hash told size trees ks id inner → HaveNames ks
  within_names size [] [] id inner h = tt
  within_names size [] (k ∷ ks) id inner h = absurd h
  within_names size (t ∷ ts) [] id inner h = absurd h
  within_names size (t ∷ ts) (k ∷ ks) id inner h = (h.0.sound.name, within_names (size + length k.entry.filename + 1) ts ks k.entry.oid inner h.1)

  within_fresh : (size : ℕ) (trees : List OpenTree) (ks : List Above) (id inner : ObjectId) → Within hash told size trees ks id inner → AreFresh ks
  within_fresh size [] [] id inner h = tt
  within_fresh size [] (k ∷ ks) id inner h = absurd h
  within_fresh size (t ∷ ts) [] id inner h = absurd h
  within_fresh size (t ∷ ts) (k ∷ ks) id inner h = (precede_apart k.entry.filename (k.entry.filename ++ 47 ∷ []) k.done h.0.before, within_fresh (size + length k.entry.filename + 1) ts ks k.entry.oid inner h.1)

  longer : (size : ℕ) (k : Above) (ks : List Above) → size + length (text_of (k ∷ ks)) ≡ (size + length k.entry.filename + 1) + length (text_of ks)
  longer size k ks = let sum = length-append k.entry.filename (47 ∷ text_of ks) in omega arith

  within_push : (size : ℕ) (trees : List OpenTree) (ks : List Above) (id inner : ObjectId) (t : OpenTree) (k : Above) → Within hash told size trees ks id inner → IsBegun hash told (size + length (text_of ks)) inner t k → Within hash told size (trees ++ t ∷ []) (ks ++ k ∷ []) id k.entry.oid
  within_push size [] [] id inner t k h b = (subst (λ i. IsBegun hash told size i t k) (sym h) (subst (λ n. IsBegun hash told n inner t k) (omega arith) b), refl)
  within_push size [] (j ∷ ks) id inner t k h b = absurd h
  within_push size (s ∷ ts) [] id inner t k h b = absurd h
  within_push size (s ∷ ts) (j ∷ ks) id inner t k h b = (h.0, within_push (size + length j.entry.filename + 1) ts ks j.entry.oid inner t k h.1 (subst (λ n. IsBegun hash told n inner t k) (longer size j ks) b))

  -- the innermost of the trees that are begun
  pub record IsLast (size : ℕ) (trees : List OpenTree) (t : OpenTree) (ks : List Above) (id inner : ObjectId) : Type 0 where
    pub front : List Above
    pub last : Above
    pub parts : ks ≡ front ++ last ∷ []
    pub outer : ObjectId
    pub chain : Within hash told size trees front id outer
    pub begun : IsBegun hash told (size + length (text_of front)) outer t last
    pub inner_is : inner ≡ last.entry.oid

  within_pop : (size : ℕ) (trees : List OpenTree) (t : OpenTree) (ks : List Above) (id inner : ObjectId) → Within hash told size (trees ++ t ∷ []) ks id inner → IsLast size trees t ks id inner
  within_pop size [] t [] id inner h = absurd h
  within_pop size [] t (k ∷ []) id inner h = record { front = []; last = k; parts = refl; outer = id; chain = refl; begun = subst (λ n. IsBegun hash told n id t k) (omega arith) h.0; inner_is = sym h.1 }
  within_pop size [] t (k ∷ j ∷ ks) id inner h = absurd h.1
  within_pop size (s ∷ ts) t [] id inner h = absurd h
  within_pop size (s ∷ ts) t (k ∷ ks) id inner h =
      let p = within_pop (size + length k.entry.filename + 1) ts t ks k.entry.oid inner h.1 in
      record {
        front = k ∷ p.front;
        last = p.last;
        parts = ap (λ l. k ∷ l) p.parts;
        outer = p.outer;
        chain = (h.0, p.chain);
        begun = subst (λ n. IsBegun hash told n p.outer t p.last) (sym (longer size k p.front)) p.begun;
        inner_is = p.inner_is;
      }

-- ---- what leads to the trees that are begun

reach_under : {hash : HashKind} {content : Content} {a b : ObjectId} (d : ObjectId) → HasSubtree hash content a b → IsAtOrBelow hash content b d → IsAtOrBelow hash content a d
reach_under {a = a} d leads here = below a d here leads
reach_under d leads (below above _ reach step) = below above d (reach_under above leads reach) step

-- the next entry of a tree
pub next_entry : (items : List Entry) (i : ℕ) (e : Entry) → i < length items → e ≡ get_or items i e → drop i items ≡ e ∷ drop (i + 1) items
next_entry items i e less is = drop-cons items i e less ∙ ap₂ (λ (x : Entry) (n : ℕ). x ∷ drop n items) (sym is) (sym (add-one i))

module _ (hash : HashKind) (told : Option Content) where
  pub leads_from : (id : ObjectId) (tree : OpenTree) (front rest : List Entry) (e : Entry) → IsOpened hash told id tree → tree.entries.items ≡ front ++ e ∷ rest → is_tree_mode e.mode.value ≡ true → IfSome told (λ content. HasSubtree hash content id e.oid)
  leads_from id tree front rest e o split tree_is = told_with told (λ content stored. record {
    entries = tree.entries.items;
    entry = e;
    has = record { bytes = tree_bytes tree.entries.items; stored = stored; spelled = o.spells.spelled };
    among = subst (λ es. Contains es e) (sym split) (Contains-append_right front (e ∷ rest) e (0, omega arith, refl));
    is_tree = tree_is;
    id_is = refl;
  }) o.stored

  begun_leads : (size : ℕ) (id : ObjectId) (tree : OpenTree) (k : Above) → IsBegun hash told size id tree k → IfSome told (λ content. HasSubtree hash content id k.entry.oid)
  begun_leads size id tree k b = leads_from id tree (entries_of hash k.done) (drop tree.place tree.entries.items) k.entry b.opened b.split b.is_tree

  pub within_reaches : (size : ℕ) (trees : List OpenTree) (ks : List Above) (id inner : ObjectId) → Within hash told size trees ks id inner → IfSome told (λ content. IsAtOrBelow hash content id inner)
  within_reaches size [] [] id inner h = told_all told (λ content. subst (IsAtOrBelow hash content id) h here)
  within_reaches size [] (k ∷ ks) id inner h = absurd h
  within_reaches size (t ∷ ts) [] id inner h = absurd h
  within_reaches size (t ∷ ts) (k ∷ ks) id inner h =
      told_both told (λ content leads reach. reach_under inner leads reach) (begun_leads size id t k h.0) (within_reaches (size + length k.entry.filename + 1) ts ks k.entry.oid inner h.1)

  pub within_one : (size : ℕ) (trees : List OpenTree) (ks : List Above) (id inner x : ObjectId) → IsOneOf x trees → Within hash told size trees ks id inner → IfSome told (λ content. IsAtOrBelow hash content x inner)
  within_one size [] ks id inner x one h = absurd (omega (arith, one.1))
  within_one size (t ∷ ts) [] id inner x one h = absurd h
  within_one size (t ∷ ts) (k ∷ ks) id inner x (zero, less, is) h =
      let same : id ≡ x = sym h.0.opened.id_is ∙ is in
      told_with told (λ content reach. subst (λ i. IsAtOrBelow hash content i inner) same reach) (within_reaches size (t ∷ ts) (k ∷ ks) id inner h)
  within_one size (t ∷ ts) (k ∷ ks) id inner x (suc i, less, is) h = within_one (size + length k.entry.filename + 1) ts ks k.entry.oid inner x (i, omega (arith, less), is) h.1

  -- ---- the steps of the reading

  pub at_root : (levels : List OpenTree) (tree : OpenTree) (path : List ℕ) (root : ObjectId) (m : PathMap) → levels ≡ [] → path ≡ [] → IsOpened hash told root tree → tree.place ≡ 0 → tree.at ≡ 0 → ((p : Path) → m p ≡ None) → IsAt hash told levels tree path root m
  at_root levels tree path root m none start o place at look = record {
    above = [];
    done = End;
    inner = root;
    chain = subst (λ ls. Within hash told 0 ls [] root root) (sym none) refl;
    level = record { opened = o; at_is = at; split = ap (λ n. drop n tree.entries.items) (sym place); fit = fit_none hash told };
    text = start;
    look = look;
    some = inl refl;
  }

  -- what is known of the next entry
  pub record IsNext (tree : OpenTree) (done : Directory) (e : Entry) : Type 0 where
    pub split : tree.entries.items ≡ entries_of hash done ++ e ∷ drop (tree.place + 1) tree.entries.items
    pub sound : IsSound e
    pub fits : id_from_bytes hash (bytes_of e.oid) ≡ Some e.oid
    pub keys : AllByRecursion (λ f. name_cmp (sort_key f) (sort_key e) ≡ Less) (entries_of hash done)

  pub next_of : (size : ℕ) (id : ObjectId) (tree : OpenTree) (done : Directory) (e : Entry) → IsLevel hash told size id tree done → tree.place < length tree.entries.items → e ≡ get_or tree.entries.items tree.place e → IsNext tree done e
  next_of size id tree done e l less is =
      let split : tree.entries.items ≡ entries_of hash done ++ e ∷ drop (tree.place + 1) tree.entries.items = l.split ∙ ap (λ es. entries_of hash done ++ es) (next_entry tree.entries.items tree.place e less is) in
      record {
        split = split;
        sound = (All-behind IsSound (entries_of hash done) (e ∷ drop (tree.place + 1) tree.entries.items) (subst (AllByRecursion IsSound) split l.opened.spells.sound)).0;
        fits = (All-behind (λ (f : Entry). id_from_bytes hash (bytes_of f.oid) ≡ Some f.oid) (entries_of hash done) (e ∷ drop (tree.place + 1) tree.entries.items) (subst (AllByRecursion (λ (f : Entry). id_from_bytes hash (bytes_of f.oid) ≡ Some f.oid)) split (spelled_fit hash l.opened.spells.spelled.0 tree.entries.items l.opened.spells.spelled.2))).0;
        keys = keys_before (entries_of hash done) (drop (tree.place + 1) tree.entries.items) e (subst AreRising split l.opened.spells.rising);
      }

  abbrev pub stepped : OpenTree → OpenTree
  stepped t = record { id = t.id; entries = t.entries; place = t.place + 1; at = t.at }

  opened_stepped : (id : ObjectId) (t : OpenTree) → IsOpened hash told id t → IsOpened hash told id (stepped t)
  opened_stepped id t o = record { id_is = o.id_is; stored = o.stored; own = o.own; spells = o.spells }

  pub at_file : (levels : List OpenTree) (t : OpenTree) (path : List ℕ) (root : ObjectId) (m n : PathMap) (e : Entry) → t.place < length t.entries.items → e ≡ get_or t.entries.items t.place e → is_tree_mode e.mode.value ≡ false
      → ((q : Path) → n q ≡ cond (path_eq (components (path ++ e.filename)) q) (Some (record { mode = e.mode; id = e.oid })) (m q)) → IsAt hash told levels t path root m → IsAt hash told levels (stepped t) path root n
  at_file levels t path root m n e less is file puts s =
      let l = s.level in
      let next : IsNext t s.done e = next_of (length (text_of s.above)) s.inner t s.done e l less is in
      let x : Leaf = record { mode = e.mode; id = e.oid } in
      let key : sort_key e ≡ e.filename = ap (λ b. cond b (e.filename ++ 47 ∷ []) e.filename) file in
      let before : Precede e.filename e.filename s.done = precede_file hash s.done e.filename l.fit.canonical (subst (λ k. AllByRecursion (λ f. name_cmp (sort_key f) k ≡ Less) (entries_of hash s.done)) key next.keys) in
      let rest : List Entry = drop (t.place + 1) t.entries.items in
      let own : components (path ++ e.filename) ≡ names s.above ++ e.filename ∷ [] = ap (λ b. components (b ++ e.filename)) s.text ∙ components-text s.above e.filename (within_names hash told 0 levels s.above root s.inner s.chain) next.sound.name in
      record {
        above = s.above;
        done = join s.done (File e.filename x End);
        inner = s.inner;
        chain = s.chain;
        level = record {
          opened = opened_stepped s.inner t l.opened;
          at_is = l.at_is;
          split = next.split ∙ sym (append_assoc (entries_of hash s.done) (e ∷ []) rest) ∙ ap (λ es. es ++ rest) (sym (entries-join hash s.done (File e.filename x End)));
          fit = record {
            canonical = canonical_file s.done e.filename x l.fit.canonical before next.sound.name (leaf_mode e.mode.value next.sound.mode file);
            ids = ids_join hash s.done (File e.filename x End) l.fit.ids ((next.sound.id, next.fits), tt);
            stored = told_with told (λ content h. subst (λ ts. HoldsAll hash ts content) (sym (trees-join hash s.done (File e.filename x End) ∙ append-nil (trees_below hash s.done))) h) l.fit.stored;
          };
        };
        text = s.text;
        look = λ p. puts p ∙ ap₂ (λ b o. cond (path_eq b p) (Some x) o) own (s.look p)
            ∙ sym (leaf_filled s.above s.done e.filename x (within_fresh hash told 0 levels s.above root s.inner s.chain) (precede_apart e.filename e.filename s.done before) p);
        some = s.some;
      }

  -- no leaf stands at the name of a directory
  pub leaf_there : (levels : List OpenTree) (t : OpenTree) (path : List ℕ) (root : ObjectId) (m : PathMap) (e : Entry) → (s : IsAt hash told levels t path root m) → IsName e.filename → m (components (path ++ e.filename)) ≡ leaf_at s.done (e.filename ∷ [])
  leaf_there levels t path root m e s name =
      s.look (components (path ++ e.filename))
      ∙ ap (leaf_at (filled s.above s.done)) (ap (λ b. components (b ++ e.filename)) s.text ∙ components-text s.above e.filename (within_names hash told 0 levels s.above root s.inner s.chain) name)
      ∙ leaf_inside s.above s.done (e.filename ∷ []) (within_fresh hash told 0 levels s.above root s.inner s.chain)

  nothing_some : (o : Option Leaf) → is_some o ≡ false → o ≡ None
  nothing_some None e = refl
  nothing_some (Some x) e = cc

  pub at_sub : (ls levels : List OpenTree) (t inner : OpenTree) (path more : List ℕ) (root : ObjectId) (m : PathMap) (e : Entry) → levels ≡ ls ++ stepped t ∷ [] → t.place < length t.entries.items → e ≡ get_or t.entries.items t.place e → is_tree_mode e.mode.value ≡ true
      → is_some (m (components (path ++ e.filename))) ≡ false → more ≡ (path ++ e.filename) ++ 47 ∷ [] → IsOpened hash told e.oid inner → inner.place ≡ 0 → inner.at ≡ length more → (inner.entries.items ≢ [])
      → IsAt hash told ls t path root m → IsAt hash told levels inner more root m
  at_sub ls levels t inner path more root m e parts less is tree none text o place at some s =
      let l = s.level in
      let next : IsNext t s.done e = next_of (length (text_of s.above)) s.inner t s.done e l less is in
      let n : List ℕ = e.filename in
      let k : Above = record { done = s.done; entry = e } in
      let key : sort_key e ≡ n ++ 47 ∷ [] = ap (λ b. cond b (n ++ 47 ∷ []) n) tree in
      let free : leaf_at s.done (n ∷ []) ≡ None = sym (leaf_there ls t path root m e s next.sound.name) ∙ nothing_some (m (components (path ++ n))) none in
      let before : Precede n (n ++ 47 ∷ []) s.done = precede_sub hash s.done n l.fit.canonical free (subst (λ k. AllByRecursion (λ f. name_cmp (sort_key f) k ≡ Less) (entries_of hash s.done)) key next.keys) in
      let begun : IsBegun hash told (length (text_of s.above)) s.inner (stepped t) k = record { opened = opened_stepped s.inner t l.opened; at_is = l.at_is; split = next.split; fit = l.fit; sound = next.sound; is_tree = tree; before = before } in
      let chain : Within hash told 0 (ls ++ stepped t ∷ []) (s.above ++ k ∷ []) root e.oid = within_push hash told 0 ls s.above root s.inner (stepped t) k s.chain (subst (λ i. IsBegun hash told i s.inner (stepped t) k) (omega arith) begun) in
      let whole : more ≡ text_of (s.above ++ k ∷ []) = text ∙ ap (λ b. (b ++ n) ++ 47 ∷ []) s.text ∙ append_assoc (text_of s.above) n (47 ∷ []) ∙ sym (text-push s.above k) in
      record {
        above = s.above ++ k ∷ [];
        done = End;
        inner = e.oid;
        chain = subst (λ v. Within hash told 0 v (s.above ++ k ∷ []) root e.oid) (sym parts) chain;
        level = record { opened = o; at_is = at ∙ ap length whole; split = ap (λ i. drop i inner.entries.items) (sym place); fit = fit_none hash told };
        text = whole;
        look = λ p. s.look p ∙ sym (filled_same s.above (join s.done (Sub n End End)) s.done (leaf_opened s.done n) p) ∙ ap (λ d. leaf_at d p) (sym (filled-push s.above k End));
        some = inr some;
      }

  -- a tree that is read whole
  whole_of : (size : ℕ) (id : ObjectId) (t : OpenTree) (done : Directory) → IsLevel hash told size id t done → length t.entries.items ≤ t.place → t.entries.items ≡ entries_of hash done
  whole_of size id t done l all = l.split ∙ ap (λ es. entries_of hash done ++ es) (drop_all t.place t.entries.items all) ∙ append-nil (entries_of hash done)

  not_none_above : (front : List Above) (k : Above) → front ++ k ∷ [] ≡ [] → ⊥
  not_none_above [] k h = cc
  not_none_above (x ∷ front) k h = cc

  not_none : (front rest : List Entry) (e : Entry) → front ++ e ∷ rest ≡ [] → ⊥
  not_none [] rest e h = cc
  not_none (x ∷ front) rest e h = cc

  root_is : (id : ObjectId) (t : OpenTree) (done : Directory) → IsOpened hash told id t → t.entries.items ≡ entries_of hash done → id ≡ root_of hash done
  root_is id t done o all = o.own ∙ ap (λ es. object_id hash (kind_name kind.Tree) (tree_bytes es)) all

  -- the tree objects of a directory that is read whole
  trees_stored : (size : ℕ) (id : ObjectId) (t : OpenTree) (done : Directory) → IsLevel hash told size id t done → t.entries.items ≡ entries_of hash done → IfSome told (λ content. HoldsAll hash (trees_of hash done) content)
  trees_stored size id t done l all = told_both told (λ content below own. All-append (λ object. lookup content (id_of hash object) ≡ Some object) (trees_below hash done) (tree_of hash done ∷ []) below
      (subst (λ i. lookup content i ≡ Some (tree_of hash done)) (root_is id t done l.opened all) (own ∙ ap (λ es. Some (kind.Tree, tree_bytes es)) all), tt)) l.fit.stored l.opened.stored

  pub at_closed : (ls levels : List OpenTree) (t outer : OpenTree) (path less : List ℕ) (root : ObjectId) (m : PathMap) → levels ≡ ls ++ outer ∷ [] → length t.entries.items ≤ t.place → less ≡ take outer.at path → IsAt hash told levels t path root m → IsAt hash told ls outer less root m
  at_closed ls levels t outer path less root m parts all cut s =
      let p = within_pop hash told 0 ls outer s.above root s.inner (subst (λ v. Within hash told 0 v s.above root s.inner) parts s.chain) in
      let k : Above = p.last in
      let n : List ℕ = k.entry.filename in
      let b : IsBegun hash told (0 + length (text_of p.front)) p.outer outer k = p.begun in
      let whole : t.entries.items ≡ entries_of hash s.done = whole_of (length (text_of s.above)) s.inner t s.done s.level all in
      let id : k.entry.oid ≡ root_of hash s.done = sym p.inner_is ∙ root_is s.inner t s.done s.level.opened whole in
      let mode : k.entry.mode.value ≡ mode_of entry_kind.Tree = tree_mode k.entry.mode.value b.sound.mode b.is_tree in
      let now : Directory = join k.done (Sub n s.done End) in
      let rest : List Entry = drop outer.place outer.entries.items in
      let entry : k.entry ≡ record { mode = record { value = mode_of entry_kind.Tree }; filename = n; oid = root_of hash s.done } = λ i. record { mode = record { value = mode i }; filename = n; oid = id i } in
      let split : outer.entries.items ≡ entries_of hash now ++ rest = b.split ∙ ap (λ e. entries_of hash k.done ++ e ∷ rest) entry ∙ sym (append_assoc (entries_of hash k.done) (record { mode = record { value = mode_of entry_kind.Tree }; filename = n; oid = root_of hash s.done } ∷ []) rest) ∙ ap (λ es. es ++ rest) (sym (entries-join hash k.done (Sub n s.done End))) in
      let some : s.done ≢ End = λ none. ⊎_elim (λ first. not_none_above p.front k (sym p.parts ∙ first)) (λ full. full (whole ∙ ap (entries_of hash) none)) s.some in
      let size : outer.at ≡ length (text_of p.front) = b.at_is ∙ omega arith in
      let text : path ≡ text_of p.front ++ (n ++ 47 ∷ []) = s.text ∙ ap text_of p.parts ∙ text-push p.front k in
      record {
        above = p.front;
        done = now;
        inner = p.outer;
        chain = p.chain;
        level = record {
          opened = b.opened;
          at_is = size;
          split = split;
          fit = record {
            canonical = canonical_sub k.done n s.done b.fit.canonical b.before b.sound.name some s.level.fit.canonical;
            ids = ids_join hash k.done (Sub n s.done End) b.fit.ids (s.level.fit.ids, tt, subst (λ i. i ≢ null_id (kind_of i)) id b.sound.id);
            stored = told_both told (λ content before own. subst (λ ts. HoldsAll hash ts content) (sym (trees-join hash k.done (Sub n s.done End) ∙ ap (λ ts. trees_below hash k.done ++ ts) (append-nil (trees_of hash s.done))))
                (All-append (λ object. lookup content (id_of hash object) ≡ Some object) (trees_below hash k.done) (trees_of hash s.done) before own)) b.fit.stored (trees_stored (length (text_of s.above)) s.inner t s.done s.level whole);
          };
        };
        text = cut ∙ ap₂ take size text ∙ take-append_seam (text_of p.front) (n ++ 47 ∷ []);
        look = λ q. s.look q ∙ ap (λ ks. leaf_at (filled ks s.done) q) p.parts ∙ ap (λ d. leaf_at d q) (filled-push p.front k s.done);
        some = inr (λ none. not_none (entries_of hash k.done) rest k.entry (sym b.split ∙ none));
      }

  -- ---- the end of the reading

  -- the directory of the root, read whole
  pub record IsRead (root : ObjectId) (m : PathMap) : Type 0 where
    pub directory : Directory
    pub canonical : IsCanonical directory
    pub ids : HasIds hash directory
    pub look : (p : Path) → leaf_at directory p ≡ m p
    pub is_root : root ≡ root_of hash directory
    pub stored : IfSome told (λ content. HoldsAll hash (trees_of hash directory) content)

  pub at_end : (levels : List OpenTree) (t : OpenTree) (path : List ℕ) (root : ObjectId) (m : PathMap) → levels ≡ [] → length t.entries.items ≤ t.place → IsAt hash told levels t path root m → IsRead root m
  at_end levels t path root m none all s = go s.above s.chain s.look
    where
      whole : t.entries.items ≡ entries_of hash s.done
      whole = whole_of (length (text_of s.above)) s.inner t s.done s.level all

      go : (ks : List Above) → Within hash told 0 levels ks root s.inner → ((p : Path) → m p ≡ leaf_at (filled ks s.done) p) → IsRead root m
      go [] chain look = record {
        directory = s.done;
        canonical = s.level.fit.canonical;
        ids = s.level.fit.ids;
        look = λ p. sym (look p);
        is_root = subst (λ ls. Within hash told 0 ls [] root s.inner) none chain ∙ root_is s.inner t s.done s.level.opened whole;
        stored = trees_stored (length (text_of s.above)) s.inner t s.done s.level whole;
      }
      go (k ∷ ks) chain look = absurd (subst (λ ls. Within hash told 0 ls (k ∷ ks) root s.inner) none chain)

  pub represents : (root : ObjectId) (m : PathMap) → IsRead root m → IfSome told (λ content. Represents hash content root m)
  represents root m r = told_with told (λ content stored. record { directory = r.directory; stands = record { canonical = r.canonical; leaves = r.look }; is_root = r.is_root; stored = stored }) r.stored
