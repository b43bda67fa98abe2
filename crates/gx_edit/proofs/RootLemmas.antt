-- Directories with one root are one, unless two of their trees share an id.
use Rattle.std.proofs.Common.{◌≡◌, ◌<◌, ◌==◌, ◌^◌, ◌⊎◌, inl, inr, ℕ, suc, zero, Bool, true, false, cond, List, [], ◌∷◌, ◌++◌, length, All, Contains, Some, None, refl, sym, ap, ◌∙◌, subst, true≢false, not, ◌&&◌, ne_eqb, arith}
use Rattle.std.specs.Str.{bytes_eq}
use Rattle.std.specs.List.{list_all}
use Rattle.std.proofs.Math.ListN.{get_or-append}
use Rattle.std.proofs.lemmas.List.{length-append}
use Rattle.std.proofs.lemmas.List.Elements.{All-cons, All-nil}
use Rattle.gx_hash.specs.declared.kind.HashKind.{HashKind}
use Rattle.gx_hash.specs.declared.oid.ObjectId.{ObjectId}
use Rattle.gx_hash.specs.ObjectId.{bytes_of, id_from_bytes}
use Rattle.gx_hash.specs.Laws.{object_id_is_whole}
use Rattle.gx_object.specs.declared.kind.Kind.{Kind}
use Rattle.gx_object.specs.declared.kind.Kind.TheVariants as kind
use Rattle.gx_object.specs.declared.tree.Entry.{Entry}
use Rattle.gx_object.specs.declared.tree.EntryKind.TheVariants as entry_kind
use Rattle.gx_object.specs.Kind.{kind_name}
use Rattle.gx_object.specs.Mode.{mode_of}
use Rattle.gx_object.specs.Tree.{tree_bytes, is_writable_filename}
use Rattle.gx_object.specs.TreeSpelling.{HasSpelling, SpellsTree}
use Rattle.gx_object.specs.Laws.{tree_once, written_tree}
use Rattle.gx_store.specs.Content.{Content, lookup, id_of, HoldsAll}
use Rattle.gx_edit.specs.Path.{Path, IsName}
use Rattle.gx_edit.specs.PathMap.{PathMap}
use Rattle.gx_edit.specs.CanonicalTree.{Directory, leaf_at, IsCanonical, IsLeafMode, StandsFor, Represents, entries_of, tree_of, root_of, trees_below, trees_of}
use Rattle.gx_edit.specs.CanonicalTree.Directory.{End, File, Sub}
use Rattle.gx_edit.specs.SharedIds.{HasIdsOf, ShareAnId}
use Rattle.gx_edit.specs.declared.leaf.Leaf.{Leaf}
use Rattle.gx_edit.proofs.PathLemmas.{bytes_eq-is, bytes_eq-of}
use Rattle.gx_edit.proofs.DirectoryLemmas.{leaf_at-root, Follow-none}
use Rattle.gx_edit.proofs.ListingLemmas.{has_some}

-- ---- ids of the kind

abbrev pub Fits : HashKind → ObjectId → Type 0
Fits hash id = id_from_bytes hash (bytes_of id) ≡ Some id

abbrev pub FitAll : HashKind → Directory → Type 0
FitAll hash End = Unit {0}
FitAll hash (File n x rest) = Fits hash x.id × FitAll hash rest
FitAll hash (Sub n inner rest) = FitAll hash inner × FitAll hash rest

module _ (hash : HashKind) where
  abbrev pub LeavesFit : Directory → Type 0
  LeavesFit d = (p : Path) (leaf : Leaf) → leaf_at d p ≡ Some leaf → Fits hash leaf.id

  behind_file : (n : List ℕ) (x : Leaf) (rest : Directory) → IsCanonical (File n x rest) → LeavesFit (File n x rest) → LeavesFit rest
  behind_file n x rest ok fit [] leaf h = let no : None ≡ Some leaf = sym (leaf_at-root rest) ∙ h in cc
  behind_file n x rest ok fit (c ∷ d ∷ p) leaf h = fit (c ∷ d ∷ p) leaf h
  behind_file n x rest ok fit (c ∷ []) leaf h = go (bytes_eq n c) refl
    where
      go : (t : Bool) → bytes_eq n c ≡ t → Fits hash leaf.id
      go true e = let no : None ≡ Some leaf = sym (Follow-none n n rest [] ok.1) ∙ ap (λ k. leaf_at rest (k ∷ [])) (bytes_eq-is n c e) ∙ h in cc
      go false e = fit (c ∷ []) leaf (ap (λ t. cond t (Some x) (leaf_at rest (c ∷ []))) e ∙ h)

  behind_sub : (n : List ℕ) (inner rest : Directory) → IsCanonical (Sub n inner rest) → LeavesFit (Sub n inner rest) → LeavesFit rest
  behind_sub n inner rest ok fit [] leaf h = let no : None ≡ Some leaf = sym (leaf_at-root rest) ∙ h in cc
  behind_sub n inner rest ok fit (c ∷ p) leaf h = go (bytes_eq n c) refl
    where
      go : (t : Bool) → bytes_eq n c ≡ t → Fits hash leaf.id
      go true e = let no : None ≡ Some leaf = sym (Follow-none n _ rest p ok.3) ∙ ap (λ k. leaf_at rest (k ∷ p)) (bytes_eq-is n c e) ∙ h in cc
      go false e = fit (c ∷ p) leaf (ap (λ t. cond t (leaf_at inner p) (leaf_at rest (c ∷ p))) e ∙ h)

  pub fit_all : (d : Directory) → IsCanonical d → LeavesFit d → FitAll hash d
  fit_all End ok fit = tt
  fit_all (File n x rest) ok fit = (fit (n ∷ []) x (ap (λ t. cond t (Some x) (leaf_at rest (n ∷ []))) (bytes_eq-of n n refl)), fit_all rest ok.2 (behind_file n x rest ok fit))
  fit_all (Sub n inner rest) ok fit =
      (fit_all inner ok.2 (λ p leaf h. fit (n ∷ p) leaf (ap (λ t. cond t (leaf_at inner p) (leaf_at rest (n ∷ p))) (bytes_eq-of n n refl) ∙ h)), fit_all rest ok.4 (behind_sub n inner rest ok fit))

-- ---- what is written of a directory spells its entries alone

name_fits : (n : List ℕ) → IsName n → is_writable_filename n ≡ true
name_fits [] name = absurd (name.not_empty refl)
name_fits (b ∷ n) name = ap (λ t. not t && list_all (λ c. not (c == 0)) (b ∷ n)) (ne_eqb (length (b ∷ n)) 0 (λ none. omega (arith, none))) ∙ has_some 0 (b ∷ n) name.no_zero

mode_fits : (mode : ℕ) → IsLeafMode mode → mode < 2 ^ 16
mode_fits mode (inl e) = omega (arith, e)
mode_fits mode (inr (inl e)) = omega (arith, e)
mode_fits mode (inr (inr (inl e))) = omega (arith, e)
mode_fits mode (inr (inr (inr e))) = omega (arith, e)

pub all_spelled : (hash : HashKind) (d : Directory) → IsCanonical d → FitAll hash d → All (HasSpelling hash) (entries_of hash d)
all_spelled hash End ok fit = All-nil (HasSpelling hash)
all_spelled hash (File n x rest) ok fit = All-cons (HasSpelling hash) _ _ (record { mode = mode_fits x.mode.value ok.3; filename = name_fits n ok.0; oid = fit.0 }) (all_spelled hash rest ok.2 fit.1)
all_spelled hash (Sub n inner rest) ok fit =
    All-cons (HasSpelling hash) _ _ (record { mode = omega arith; filename = name_fits n ok.0; oid = object_id_is_whole hash (kind_name kind.Tree) (tree_bytes (entries_of hash inner)) }) (all_spelled hash rest ok.4 fit.1)

same_entries : (hash : HashKind) (d e : Directory) → IsCanonical d → IsCanonical e → FitAll hash d → FitAll hash e → tree_bytes (entries_of hash d) ≡ tree_bytes (entries_of hash e) → entries_of hash d ≡ entries_of hash e
same_entries hash d e a b f g same = tree_once hash (tree_bytes (entries_of hash d)) _ _ (written_tree hash _ (all_spelled hash d a f))
    (subst (λ bytes. SpellsTree hash bytes (entries_of hash e)) (sym same) (written_tree hash _ (all_spelled hash e b g)))

-- ---- one root

among_left : {X : Type 0} (xs ys : List X) (x : X) → Contains xs x → Contains (xs ++ ys) x
among_left xs ys x h = (h.0, (let all = length-append xs ys in let less = h.1 in omega arith), get_or-append xs ys x h.0 h.1 ∙ h.2)

among_right : {X : Type 0} (xs ys : List X) (x : X) → Contains ys x → Contains (xs ++ ys) x
among_right [] ys x h = h
among_right (y ∷ xs) ys x h = let more = among_right xs ys x h in (suc more.0, (let less = more.1 in omega arith), more.2)

module _ (hash : HashKind) where
  abbrev Share : List (Kind × List ℕ) → List (Kind × List ℕ) → Type 0
  Share xs ys = ShareAnId hash xs ys

  share_left : (xs ys us vs : List (Kind × List ℕ)) → Share xs us → Share (xs ++ ys) (us ++ vs)
  share_left xs ys us vs s = record { one = s.one; other = s.other; among = among_left xs ys s.one s.among; among_others = among_left us vs s.other s.among_others; apart = s.apart; same_id = s.same_id }

  share_right : (xs ys us vs : List (Kind × List ℕ)) → Share ys vs → Share (xs ++ ys) (us ++ vs)
  share_right xs ys us vs s = record { one = s.one; other = s.other; among = among_right xs ys s.one s.among; among_others = among_right us vs s.other s.among_others; apart = s.apart; same_id = s.same_id }

  pub last : (xs : List (Kind × List ℕ)) (x : Kind × List ℕ) → Contains (xs ++ x ∷ []) x
  last xs x = among_right xs (x ∷ []) x (0, omega arith, refl)

  -- equal roots are those of equal trees, or are shared
  pub decided : (d e : Directory) → IsCanonical d → IsCanonical e → FitAll hash d → FitAll hash e → (entries_of hash d ≡ entries_of hash e → (d ≡ e) ⊎ Share (trees_below hash d) (trees_below hash e)) → root_of hash d ≡ root_of hash e
      → (d ≡ e) ⊎ Share (trees_of hash d) (trees_of hash e)
  decided d e a b f g below same = go (bytes_eq (tree_bytes (entries_of hash d)) (tree_bytes (entries_of hash e))) refl
    where
      more : (d ≡ e) ⊎ Share (trees_below hash d) (trees_below hash e) → (d ≡ e) ⊎ Share (trees_of hash d) (trees_of hash e)
      more (inl is) = inl is
      more (inr share) = inr (share_left (trees_below hash d) (tree_of hash d ∷ []) (trees_below hash e) (tree_of hash e ∷ []) share)

      go : (t : Bool) → bytes_eq (tree_bytes (entries_of hash d)) (tree_bytes (entries_of hash e)) ≡ t → (d ≡ e) ⊎ Share (trees_of hash d) (trees_of hash e)
      go true is = more (below (same_entries hash d e a b f g (bytes_eq-is _ _ is)))
      go false is = inr (record {
        one = tree_of hash d;
        other = tree_of hash e;
        among = last (trees_below hash d) (tree_of hash d);
        among_others = last (trees_below hash e) (tree_of hash e);
        apart = λ one. true≢false (sym (bytes_eq-of _ _ (ap (λ (t : Kind × List ℕ). t.1) one)) ∙ is);
        same_id = same;
      })

  no_tree : (mode : ℕ) → IsLeafMode mode → mode ≡ mode_of entry_kind.Tree → ⊥
  no_tree mode (inl e) is = absurd (omega (arith, e, is))
  no_tree mode (inr (inl e)) is = absurd (omega (arith, e, is))
  no_tree mode (inr (inr (inl e))) is = absurd (omega (arith, e, is))
  no_tree mode (inr (inr (inr e))) is = absurd (omega (arith, e, is))

  joined : (n m : List ℕ) (i j r s : Directory) → n ≡ m → (i ≡ j) ⊎ Share (trees_of hash i) (trees_of hash j) → (r ≡ s) ⊎ Share (trees_below hash r) (trees_below hash s) → (Sub n i r ≡ Sub m j s) ⊎ Share (trees_below hash (Sub n i r)) (trees_below hash (Sub m j s))
  joined n m i j r s name (inl inner) (inl rest) = inl cc
  joined n m i j r s name (inr share) rest = inr (share_left (trees_of hash i) (trees_below hash r) (trees_of hash j) (trees_below hash s) share)
  joined n m i j r s name (inl inner) (inr share) = inr (share_right (trees_of hash i) (trees_below hash r) (trees_of hash j) (trees_below hash s) share)

  behind : (n m : List ℕ) (x y : Leaf) (r s : Directory) → n ≡ m → x ≡ y → (r ≡ s) ⊎ Share (trees_below hash r) (trees_below hash s) → (File n x r ≡ File m y s) ⊎ Share (trees_below hash r) (trees_below hash s)
  behind n m x y r s name leaf (inl rest) = inl cc
  behind n m x y r s name leaf (inr share) = inr share

  abbrev leaf_in : Entry → Leaf
  leaf_in e = record { mode = e.mode; id = e.oid }

  pub one_or_shared : (d e : Directory) → IsCanonical d → IsCanonical e → FitAll hash d → FitAll hash e → entries_of hash d ≡ entries_of hash e → (d ≡ e) ⊎ Share (trees_below hash d) (trees_below hash e)
  one_or_shared End End a b f g same = inl refl
  one_or_shared End (File m y s) a b f g same = cc
  one_or_shared End (Sub m j s) a b f g same = cc
  one_or_shared (File n x r) End a b f g same = cc
  one_or_shared (Sub n i r) End a b f g same = cc
  one_or_shared (File n x r) (File m y s) a b f g same =
      let head : ◌≡◌ {A = Entry} (record { mode = x.mode; filename = n; oid = x.id }) (record { mode = y.mode; filename = m; oid = y.id }) = cc in
      behind n m x y r s (ap (λ (e : Entry). e.filename) head) (ap leaf_in head) (one_or_shared r s a.2 b.2 f.1 g.1 cc)
  one_or_shared (File n x r) (Sub m j s) a b f g same =
      let head : ◌≡◌ {A = Entry} (record { mode = x.mode; filename = n; oid = x.id }) (record { mode = record { value = mode_of entry_kind.Tree }; filename = m; oid = root_of hash j }) = cc in
      absurd (no_tree x.mode.value a.3 (ap (λ (e : Entry). e.mode.value) head))
  one_or_shared (Sub n i r) (File m y s) a b f g same =
      let head : ◌≡◌ {A = Entry} (record { mode = record { value = mode_of entry_kind.Tree }; filename = n; oid = root_of hash i }) (record { mode = y.mode; filename = m; oid = y.id }) = cc in
      absurd (no_tree y.mode.value b.3 (sym (ap (λ (e : Entry). e.mode.value) head)))
  one_or_shared (Sub n i r) (Sub m j s) a b f g same =
      let head : ◌≡◌ {A = Entry} (record { mode = record { value = mode_of entry_kind.Tree }; filename = n; oid = root_of hash i }) (record { mode = record { value = mode_of entry_kind.Tree }; filename = m; oid = root_of hash j }) = cc in
      joined n m i j r s (ap (λ (e : Entry). e.filename) head) (decided i j a.2 b.2 f.0 g.0 (one_or_shared i j a.2 b.2 f.0 g.0) (ap (λ (e : Entry). e.oid) head)) (one_or_shared r s a.4 b.4 f.1 g.1 cc)

pub maps_apart : (hash : HashKind) (d e : Directory) (m n : PathMap) → HasIdsOf hash m → HasIdsOf hash n → StandsFor d m → StandsFor e n → root_of hash d ≡ root_of hash e → ((p : Path) → m p ≡ n p) ⊎ ShareAnId hash (trees_of hash d) (trees_of hash e)
maps_apart hash d e m n f g s t same =
    let fits = fit_all hash d s.canonical (λ p leaf h. f p leaf (sym (s.leaves p) ∙ h)) in
    let others = fit_all hash e t.canonical (λ p leaf h. g p leaf (sym (t.leaves p) ∙ h)) in
    go (decided hash d e s.canonical t.canonical fits others (one_or_shared hash d e s.canonical t.canonical fits others) same)
  where
    go : (d ≡ e) ⊎ ShareAnId hash (trees_of hash d) (trees_of hash e) → ((p : Path) → m p ≡ n p) ⊎ ShareAnId hash (trees_of hash d) (trees_of hash e)
    go (inl is) = inl (λ p. sym (s.leaves p) ∙ ap (λ x. leaf_at x p) is ∙ t.leaves p)
    go (inr share) = inr share

-- ---- in one content

pub held : (hash : HashKind) (content : Content) (xs : List (Kind × List ℕ)) (x : Kind × List ℕ) → HoldsAll hash xs content → Contains xs x → lookup content (id_of hash x) ≡ Some x
held hash content [] x all h = absurd (omega (arith, h.1))
held hash content (y ∷ xs) x all (zero, less, is) = subst (λ z. lookup content (id_of hash z) ≡ Some z) is all.0
held hash content (y ∷ xs) x all (suc k, less, is) = held hash content xs x all.1 (k, omega (arith, less), is)

pub never_shared : (hash : HashKind) (content : Content) (xs ys : List (Kind × List ℕ)) → HoldsAll hash xs content → HoldsAll hash ys content → ShareAnId hash xs ys → ⊥
never_shared hash content xs ys left right share =
    let both : Some share.one ≡ Some share.other = sym (held hash content xs share.one left share.among) ∙ ap (lookup content) share.same_id ∙ held hash content ys share.other right share.among_others in
    share.apart cc

pub map_fixed : (hash : HashKind) (content : Content) (tree : ObjectId) (m n : PathMap) → HasIdsOf hash m → HasIdsOf hash n → Represents hash content tree m → Represents hash content tree n → (p : Path) → m p ≡ n p
map_fixed hash content tree m n f g r s = go (maps_apart hash r.directory s.directory m n f g r.stands s.stands (sym r.is_root ∙ s.is_root))
  where
    go : ((p : Path) → m p ≡ n p) ⊎ ShareAnId hash (trees_of hash r.directory) (trees_of hash s.directory) → (p : Path) → m p ≡ n p
    go (inl same) = same
    go (inr share) = λ p. absurd (never_shared hash content (trees_of hash r.directory) (trees_of hash s.directory) r.stored s.stored share)
