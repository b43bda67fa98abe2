-- Edits that are made one after another.
use Rattle.std.proofs.Common.{◌≡◌, ◌⊎◌, ◌∙◌, ◌<◌, ◌≤◌, ◌+◌, inl, inr, ℕ, Bool, true, false, not, ◌||◌, List, [], ◌∷◌, ◌++◌, map, length, take, drop, get_or, refl, sym, ap, subst, append_assoc, ◌&&◌, Option, Some, None, IfSome, Result, Ok, Err, IfOk, IfErr}
use Rattle.std.specs.List.{AllByRecursion}
use Rattle.std.proofs.lemmas.List.{take-append-drop, take_more, drop_more, map-append, append-nil, take_all, drop_all}
use Rattle.std.proofs.lemmas.List.Folds.{list_all-append}
use Rattle.gx_hash.specs.declared.kind.HashKind.{HashKind}
use Rattle.gx_hash.specs.declared.oid.ObjectId.{ObjectId}
use Rattle.gx_hash.specs.ObjectIds.{id_eq, has_id}
use Rattle.gx_object.specs.declared.kind.Kind.TheVariants as kind
use Rattle.gx_store.specs.Content.{Content, id_of}
use Rattle.gx_store.specs.State.{StoreState}
use Rattle.gx_edit.specs.Path.{components}
use Rattle.gx_edit.specs.PathMap.{blobs_in, blobs_of, path_of}
use Rattle.gx_edit.specs.Editor.{hash_of, view_of as directories_of}
use Rattle.gx_edit.specs.EditorCauses.{IsOnWay}
use Rattle.gx_edit.specs.View as directories
use Rattle.gx_edit.specs.View.{Names, IsLoad, only, names_of, upserted}
use Rattle.gx_edit.specs.StoredTree.{IsReadable}
use Rattle.gx_edit.specs.ViewOfEdits.{view_with, edited_view, PutsOwnId}
use Rattle.gx_edit.specs.declared.editor.Editor.{Editor}
use Rattle.gx_edit.specs.declared.error.EditError.{EditError}
use Rattle.gx_edit.specs.declared.error.EditError.TheVariants as edit_error
use Rattle.gx_edit.specs.declared.path_edit.PathEdit.{PathEdit}
use Rattle.gix.specs.declared.edits.Edited.{Edited}
use Rattle.gix.specs.declared.settings.Settings.{Settings}
use Rattle.gix.specs.declared.error.CommitEditsError.{CommitEditsError}
use Rattle.gix.specs.declared.error.CommitEditsError.TheVariants as error
use Rattle.gix.specs.CommitRequest.{CommitRequest}
use Rattle.gix.specs.View.{view_of}
use Rattle.gix.specs.Trees.{WhereLoaded, IsLoadedBy, has_gap, have_names}
use Rattle.gix.specs.Causes.{IsFirstGap}
use Rattle.gix.specs.Stages.{blob_ids, IsMadeBy, IsEdited, IsEditedBy, IsBaseEditor, IsToldAs, EditRefused, EditsCauses, StageCauses}
use Rattle.gix.proofs.Told.{told_with, told_both}
use Rattle.gix.proofs.BaseLemmas.{read_refused}

-- ---- the first edit that has a gap, after edits that have none

pub first_gap : (edits : List PathEdit) (i : ℕ) (edit : PathEdit) (path : List ℕ) → i < length edits → edit ≡ get_or edits i edit → have_names (take i edits) ≡ true → has_gap edit ≡ true → path ≡ path_of edit → IsFirstGap edits path
first_gap edits i edit path lt there named gap is = record {
  before = take i edits;
  edit = edit;
  after = drop (i + 1) edits;
  split = split_at edits i edit lt there;
  named = named;
  gap = gap;
  is_path = is;
}
  where
    split_at : (edits : List PathEdit) (i : ℕ) (edit : PathEdit) → i < length edits → edit ≡ get_or edits i edit → edits ≡ take i edits ++ edit ∷ drop (i + 1) edits
    split_at edits i edit lt there = sym (take-append-drop i edits) ∙ ap (λ l. take i edits ++ l) (drop_more edits i edit lt ∙ ap (λ e. e ∷ drop (i + 1) edits) (sym there))

-- ---- the first edits are made

next_edit : (edits : List PathEdit) (i : ℕ) (edit : PathEdit) → i < length edits → edit ≡ get_or edits i edit → drop i edits ≡ edit ∷ drop (i + 1) edits
next_edit edits i edit lt there = drop_more edits i edit lt ∙ ap (λ e. e ∷ drop (i + 1) edits) (sym there)

one_edit_more : (edits : List PathEdit) (i : ℕ) (edit : PathEdit) → i < length edits → edit ≡ get_or edits i edit → take (i + 1) edits ≡ take i edits ++ edit ∷ []
one_edit_more edits i edit lt there = take_more edits i edit lt ∙ ap (λ e. take i edits ++ e ∷ []) (sym there)

pub blob_ids-cons : (hash : HashKind) (edit : PathEdit) (edits : List PathEdit) → blob_ids hash (edit ∷ edits) ≡ blob_ids hash (edit ∷ []) ++ blob_ids hash edits
blob_ids-cons hash edit edits =
    map-append (id_of hash) (blobs_in edit) (blobs_of edits)
    ∙ ap (λ l. l ++ blob_ids hash edits) (ap (map (id_of hash)) (sym (append-nil (blobs_in edit))))

names_more : (edits : List PathEdit) (edit : PathEdit) → has_gap edit ≡ false → have_names edits ≡ true → have_names (edits ++ edit ∷ []) ≡ true
names_more edits edit gap named =
    list_all-append (λ e. not (has_gap e)) edits (edit ∷ [])
    ∙ ap (λ t. t && (not (has_gap edit) && true)) named
    ∙ ap (λ t. not t && true) gap

all_more : {A : Type 0} (P : A → Type 0) (xs : List A) (x : A) → AllByRecursion P xs → P x → AllByRecursion P (xs ++ x ∷ [])
all_more P [] x all one = (one, tt)
all_more P (y ∷ xs) x all one = (all.0, all_more P xs x all.1 one)

view_more : (hash : HashKind) (load : ObjectId → Names) (edits : List PathEdit) (edit : PathEdit) (v : directories.View) → edited_view hash load v (edits ++ edit ∷ []) ≡ view_with hash load (edited_view hash load v edits) edit
view_more hash load [] edit v = refl
view_more hash load (one ∷ edits) edit v = view_more hash load edits edit (view_with hash load v one)

-- of a list that ends in one, what stands before an element: all but the last, or less
none_left : {A : Type 0} (ys : List A) (y : A) (zs : List A) → [] ≡ ys ++ y ∷ zs → ⊥
none_left [] y zs e = cc
none_left (z ∷ ys) y zs e = cc

last_or_before : {A : Type 0} (xs ys zs : List A) (x y : A) → xs ++ x ∷ [] ≡ ys ++ y ∷ zs → ((xs ≡ ys) × (x ≡ y)) ⊎ ((ws : List A) × (xs ≡ ys ++ y ∷ ws))
last_or_before [] [] zs x y e = inl (refl, cc)
last_or_before [] (z ∷ ys) zs x y e = absurd (none_left ys y zs (let rest : [] ≡ ys ++ y ∷ zs = cc in rest))
last_or_before (w ∷ xs) [] zs x y e = inr (xs, (let same : w ≡ y = cc in ap (λ k. k ∷ xs) same))
last_or_before (w ∷ xs) (z ∷ ys) zs x y e = go (last_or_before xs ys zs x y cc)
  where
    same : w ≡ z
    same = cc

    go : ((xs ≡ ys) × (x ≡ y)) ⊎ ((ws : List _) × (xs ≡ ys ++ y ∷ ws)) → ((w ∷ xs ≡ z ∷ ys) × (x ≡ y)) ⊎ ((ws : List _) × (w ∷ xs ≡ z ∷ (ys ++ y ∷ ws)))
    go (inl is) = inl (ap (λ k. k ∷ xs) same ∙ ap (λ l. z ∷ l) is.0, is.1)
    go (inr is) = inr (is.0, ap (λ k. k ∷ xs) same ∙ ap (λ l. z ∷ l) is.1)

pub record IsEditing (s : StoreState) (start : directories.View) (edits : List PathEdit) (i : ℕ) (editor : Editor) (ids : List ObjectId) : Type 0 where
  pub hash : hash_of editor ≡ s.hash
  pub named : have_names (take i edits) ≡ true
  pub own : AllByRecursion (PutsOwnId s.hash) (take i edits)
  pub read : (id : ObjectId) → IsLoadedBy (view_of s) start (take i edits) id → IfSome s.content (λ content. IsReadable s.hash content id)
  pub is_end : WhereLoaded (view_of s) (λ load. directories_of editor ≡ edited_view s.hash load start (take i edits))
  pub blobs : ids ++ blob_ids s.hash (drop i edits) ≡ blob_ids s.hash edits

pub nothing_made : (s : StoreState) (start : directories.View) (edits : List PathEdit) (editor : Editor) → hash_of editor ≡ s.hash → directories_of editor ≡ start → IsEditing s start edits 0 editor []
nothing_made s start edits editor hash is = record {
  hash = hash;
  named = refl;
  own = tt;
  read = λ id loaded. absurd (none_left loaded.before loaded.edit loaded.after loaded.split);
  is_end = always s.content;
  blobs = refl;
}
  where
    always : (told : Option Content) → IfSome told (λ content. (load : ObjectId → Names) → IsLoad s.hash content load → directories_of editor ≡ start)
    always None = tt
    always (Some content) = λ load h. is

module _ (s : StoreState) (start : directories.View) (edits : List PathEdit) (i : ℕ) (edit : PathEdit) (old : Editor) (ids : List ObjectId)
    (lt : i < length edits) (there : edit ≡ get_or edits i edit) (e : IsEditing s start edits i old ids) where
  -- a tree that is on the way of this edit, in what those before it made
  on_way : (before : List PathEdit) (one : PathEdit) (id : ObjectId) → take i edits ≡ before → edit ≡ one
      → WhereLoaded (view_of s) (λ load. IsOnWay s.hash load (edited_view s.hash load start before) (components (path_of one)) id)
      → WhereLoaded (view_of s) (λ load. IsOnWay s.hash load (directories_of old) (components (path_of edit)) id)
  on_way before one id same is way = told_both s.content
      (λ content from_start made load h.
      subst (λ v. IsOnWay s.hash load v (components (path_of edit)) id) (sym (made load h))
      (subst (λ l. IsOnWay s.hash load (edited_view s.hash load start l) (components (path_of edit)) id) (sym same)
      (subst (λ x. IsOnWay s.hash load (edited_view s.hash load start before) (components (path_of x)) id) (sym is) (from_start load h))))
      way e.is_end

  -- and so one that this edit loads
  loaded_here : (id : ObjectId) → has_gap edit ≡ false → WhereLoaded (view_of s) (λ load. IsOnWay s.hash load (directories_of old) (components (path_of edit)) id) → IsLoadedBy (view_of s) start edits id
  loaded_here id gap way = record {
    before = take i edits;
    edit = edit;
    after = drop (i + 1) edits;
    split = sym (take-append-drop i edits) ∙ ap (λ l. take i edits ++ l) (next_edit edits i edit lt there);
    named = e.named;
    own = e.own;
    whole = gap;
    on_way = told_both s.content (λ content here made load h. subst (λ v. IsOnWay s.hash load v (components (path_of edit)) id) (made load h) (here load h)) way e.is_end;
  }

  pub edits_more : (new : Editor) (more : List ObjectId) → hash_of new ≡ hash_of old → has_gap edit ≡ false → IsMadeBy s (directories_of old) edit (directories_of new)
      → more ≡ ids ++ blob_ids s.hash (edit ∷ []) → IsEditing s start edits (i + 1) new more
  edits_more new more kept gap made adds =
      let next : drop i edits ≡ edit ∷ drop (i + 1) edits = next_edit edits i edit lt there in
      let taken : take i edits ++ edit ∷ [] ≡ take (i + 1) edits = sym (one_edit_more edits i edit lt there) in
      record {
        hash = kept ∙ e.hash;
        named = subst (λ l. have_names l ≡ true) taken (names_more (take i edits) edit gap e.named);
        own = subst (AllByRecursion (PutsOwnId s.hash)) taken (all_more (PutsOwnId s.hash) (take i edits) edit e.own made.own);
        read = λ id loaded. reads id loaded (last_or_before (take i edits) loaded.before loaded.after edit loaded.edit (taken ∙ loaded.split));
        is_end = told_both s.content (λ content m o load h. m load h ∙ ap (λ v. view_with s.hash load v edit) (o load h) ∙ sym (view_more s.hash load (take i edits) edit start)
            ∙ ap (edited_view s.hash load start) taken) made.view e.is_end;
        blobs = ap (λ l. l ++ blob_ids s.hash (drop (i + 1) edits)) adds ∙ append_assoc ids (blob_ids s.hash (edit ∷ [])) (blob_ids s.hash (drop (i + 1) edits))
            ∙ ap (λ l. ids ++ l) (sym (blob_ids-cons s.hash edit (drop (i + 1) edits))) ∙ ap (λ l. ids ++ blob_ids s.hash l) (sym next) ∙ e.blobs;
      }
    where
      reads : (id : ObjectId) (loaded : IsLoadedBy (view_of s) start (take (i + 1) edits) id)
          → ((take i edits ≡ loaded.before) × (edit ≡ loaded.edit)) ⊎ ((ws : List PathEdit) × (take i edits ≡ loaded.before ++ loaded.edit ∷ ws))
          → IfSome s.content (λ content. IsReadable s.hash content id)
      reads id loaded (inl here) = made.loads id (on_way loaded.before loaded.edit id here.0 here.1 loaded.on_way)
      reads id loaded (inr before) = e.read id (record {
        before = loaded.before;
        edit = loaded.edit;
        after = before.0;
        split = before.1;
        named = loaded.named;
        own = loaded.own;
        whole = loaded.whole;
        on_way = loaded.on_way;
      })

  -- why the edit is not made is why the edits are not
  pub edit_refused : (e : EditError) (told : CommitEditsError) → EditRefused s (directories_of old) edit e → IsToldAs edit e told → EditsCauses s start edits told
  edit_refused edit_error.EmptyPathComponent told c is = go is
    where
      go : (told ≡ error.EmptyPathComponent (path_of edit)) ⊎ (told ≡ error.NoMemory) → EditsCauses s start edits told
      go (inl is) = subst (EditsCauses s start edits) (sym is) (first_gap edits i edit (path_of edit) lt there e.named c refl)
      go (inr is) = subst (EditsCauses s start edits) (sym is) tt
  edit_refused edit_error.NoMemory told c is = subst (EditsCauses s start edits) (sym is) tt
  edit_refused edit_error.IsTree told c is = absurd c.3
  edit_refused (edit_error.FindExistingObject id) told c is = subst (EditsCauses s start edits) (sym is) (c.1, loaded_here c.1 c.0 c.2, c.3)
  edit_refused (edit_error.ObjectKind id actual) told c is = subst (EditsCauses s start edits) (sym is) (c.1, loaded_here c.1 c.0 c.2, c.3)
  edit_refused (edit_error.Decode id) told c is = subst (EditsCauses s start edits) (sym is) (c.1, loaded_here c.1 c.0 c.2, c.3)
  edit_refused (edit_error.InvalidFilename filename k id source) told c is = absurd c.3
  edit_refused (edit_error.MissingObject filename k id) told c is = absurd c.3
  edit_refused (edit_error.WriteObject field) told c is = absurd c.3
  edit_refused (edit_error.Store fault) told c is = subst (EditsCauses s start edits) (sym is) (c.1, loaded_here c.1 c.0 c.2, c.3)

pub all_edited : (s : StoreState) (start : directories.View) (edits : List PathEdit) (i : ℕ) (editor : Editor) (blobs : List ObjectId) (result : Edited) → length edits ≤ i → result.editor ≡ editor → result.blobs.items ≡ blobs
    → IsEditing s start edits i editor blobs → IsEdited s start edits result
all_edited s start edits i editor blobs result end is ids e =
    let all : take i edits ≡ edits = take_all i edits end in
    let none : drop i edits ≡ [] = drop_all i edits end in
    record {
      hash = ap hash_of is ∙ e.hash;
      named = subst (λ l. have_names l ≡ true) all e.named;
      own = subst (AllByRecursion (PutsOwnId s.hash)) all e.own;
      read = λ id loaded. e.read id (subst (λ l. IsLoadedBy (view_of s) start l id) (sym all) loaded);
      is_end = told_with s.content (λ content o load h. ap directories_of is ∙ o load h ∙ ap (edited_view s.hash load start) all) e.is_end;
      blobs = ids ∙ sym (append-nil blobs) ∙ ap (λ l. blobs ++ blob_ids s.hash l) (sym none) ∙ e.blobs;
    }

-- ---- the edits of a request

pub edited_by : (r : CommitRequest) (s : StoreState) (base : Editor) → IsBaseEditor r s base → (result : Result Edited CommitEditsError) → IfOk result (IsEdited s (directories_of base) r.edits) → IfOk result (IsEditedBy r s)
edited_by r s base b (Err e) h = tt
edited_by r s base b (Ok result) h =
    let e : IsEdited s (only (names_of b.entries)) r.edits result = subst (λ v. IsEdited s v r.edits result) b.fresh h in
    record {
      hash = e.hash;
      edits = record { entries = b.entries; is_base = b.is_base; named = e.named; own = e.own; read = e.read; is_end = e.is_end };
      blobs = e.blobs;
    }

module _ (settings : Settings) (r : CommitRequest) (s : StoreState) (base : Editor) (b : IsBaseEditor r s base) where
  refused_by : (e : CommitEditsError) → EditsCauses s (only (names_of b.entries)) r.edits e → StageCauses settings r s e
  refused_by (error.EmptyPathComponent path) c = ((b.entries, b.is_base), c)
  refused_by error.NoMemory c = tt
  refused_by (error.FindExistingObject id) c = read_refused settings r s kind.Tree c.0 (inr (record { entries = b.entries; is_base = b.is_base; loaded = c.1 })) (error.FindExistingObject id) c.2
  refused_by (error.ObjectKind id actual) c = read_refused settings r s kind.Tree c.0 (inr (record { entries = b.entries; is_base = b.is_base; loaded = c.1 })) (error.ObjectKind id actual) c.2
  refused_by (error.Decode id) c = read_refused settings r s kind.Tree c.0 (inr (record { entries = b.entries; is_base = b.is_base; loaded = c.1 })) (error.Decode id) c.2
  refused_by (error.Store fault) c = read_refused settings r s kind.Tree c.0 (inr (record { entries = b.entries; is_base = b.is_base; loaded = c.1 })) (error.Store fault) c.2
  refused_by (error.InvalidFilename filename k id source) c = absurd c.2
  refused_by (error.MissingObject filename k id) c = absurd c.2
  refused_by (error.WriteObject field) c = absurd c.2
  refused_by (error.Cycle name) c = absurd c.2
  refused_by (error.DepthLimitExceeded name) c = absurd c.2
  refused_by (error.MustExist name) c = absurd c.2
  refused_by (error.MustNotExist name actual) c = absurd c.2
  refused_by (error.ReferenceOutOfDate name expected actual) c = absurd c.2
  refused_by (error.NameConflict name other) c = absurd c.2

  pub edits_refused : (result : Result Edited CommitEditsError) → IfErr result (EditsCauses s (directories_of base) r.edits) → IfErr result (StageCauses settings r s)
  edits_refused (Ok result) c = tt
  edits_refused (Err e) c = refused_by e (subst (λ v. EditsCauses s v r.edits e) b.fresh c)

-- ---- ids as a set

moved : (a b c : Bool) → ((a || b) || c) ≡ (b || (a || c))
moved true true c = refl
moved true false c = refl
moved false b c = refl

pub one_more : (ids : List ObjectId) (i : ℕ) (id d : ObjectId) (old new : List ObjectId) → i < length ids → id ≡ get_or ids i d
    → ((one : ObjectId) → (has_id (drop i ids) one || has_id old one) ≡ has_id ids one) → ((one : ObjectId) → has_id new one ≡ (id_eq id one || has_id old one))
    → (one : ObjectId) → (has_id (drop (i + 1) ids) one || has_id new one) ≡ has_id ids one
one_more ids i id d old new within is before more one =
    ap (λ b. has_id (drop (i + 1) ids) one || b) (more one)
    ∙ sym (moved (id_eq id one) (has_id (drop (i + 1) ids) one) (has_id old one))
    ∙ ap (λ l. has_id l one || has_id old one) (ap (λ y. y ∷ drop (i + 1) ids) is ∙ sym (drop_more ids i d within))
    ∙ before one
