-- How the base of a commit is found or refused.
use Rattle.std.proofs.Common.{◌≡◌, ◌∙◌, sym, ap, refl, subst, List, [], ◌∷◌, ℕ, Option, Some, None, IfSome, drop, Result, Ok, Err, inl}
use Rattle.std.specs.Prelude.{MatchResult, slice_get}
use Rattle.gx_hash.specs.declared.kind.HashKind.{HashKind}
use Rattle.gx_hash.specs.declared.oid.ObjectId.{ObjectId}
use Rattle.gx_hash.specs.ObjectId.{hex_of, id_from_hex}
use Rattle.gx_object.specs.declared.kind.Kind.{Kind}
use Rattle.gx_object.specs.declared.kind.Kind.TheVariants as kind
use Rattle.gx_object.specs.declared.commit.decode.CommitRef.{CommitRef}
use Rattle.gx_object.specs.declared.decode.DecodeError.{DecodeError}
use Rattle.gx_object.specs.declared.decode.DecodeError.TheVariants as decode
use Rattle.gx_object.specs.declared.tree.Entry.{Entry}
use Rattle.gx_edit.specs.OpenTree.{LoadCauses}
use Rattle.gx_edit.specs.StoredTree.{TellsEntries}
use Rattle.gx_edit.specs.declared.error.EditError.{EditError}
use Rattle.gx_edit.specs.declared.error.EditError.TheVariants as edit_error
use Rattle.gx_object.specs.CommitSpelling.{CommitText, commit_text, SpellsCommit}
use Rattle.gx_store.specs.Content.{Content, lookup}
use Rattle.gx_store.specs.State.{StoreState}
use Rattle.gix.specs.declared.settings.Settings.{Settings}
use Rattle.gix.specs.declared.error.CommitEditsError.{CommitEditsError}
use Rattle.gix.specs.declared.error.CommitEditsError.TheVariants as error
use Rattle.gix.specs.CommitRequest.{CommitRequest}
use Rattle.gix.specs.View.{view_of}
use Rattle.gix.specs.Base.{HasTree, IsBaseTree, OfFirst}
use Rattle.gix.specs.Causes.{IsReadAs, IsAbsent, IsOther, IsBad, SpellsNone}
use Rattle.gix.specs.Lifting.{lifted, HasPlace}
use Rattle.gix.specs.Stages.{ReadCauses, StageCauses}
use Rattle.gix.proofs.Told.{told_with, told_both}

-- ---- one object

pub never_spelled : (result : Result CommitRef DecodeError) (hash h : HashKind) (bytes slice : List ℕ) (e : DecodeError) (at : ℕ) → h ≡ hash → slice ≡ bytes → result ≡ Err e → e ≡ decode.Decode at
    → ((t : CommitText) → SpellsCommit h slice t → MatchResult result (λ found. commit_text found ≡ t) (λ e. e ≡ decode.NoMemory)) → (t : CommitText) → ¬ SpellsCommit hash bytes t
never_spelled result hash h bytes slice e at same is r d only t spelled =
    let here : SpellsCommit h slice t = subst (λ b. SpellsCommit h b t) (sym is) (subst (λ k. SpellsCommit k bytes t) (sym same) spelled) in
    let none : e ≡ decode.NoMemory = subst (λ x. MatchResult x (λ found. commit_text found ≡ t) (λ e. e ≡ decode.NoMemory)) r (only t here) in
    cc

-- bytes that spell no object of their kind
pub misspelt : (s : StoreState) (wanted : Kind) (id : ObjectId) (bytes : List ℕ) → IfSome s.content (λ content. lookup content id ≡ Some (wanted, bytes)) → SpellsNone s.hash wanted bytes → ReadCauses s wanted id (error.Decode id)
misspelt s wanted id bytes stored none = (refl, told_with s.content (λ content at. (bytes, at, none)) stored)

pub has_tree : (told : Option Content) (hash h : HashKind) (commit tree : ObjectId) (bytes slice : List ℕ) (text : CommitText) → IfSome told (λ content. lookup content commit ≡ Some (kind.Commit, bytes)) → h ≡ hash → slice ≡ bytes → SpellsCommit h slice text
    → hex_of tree ≡ text.tree → id_from_hex (hex_of tree) ≡ Ok tree → IfSome told (λ content. HasTree hash content commit tree)
has_tree told hash h commit tree bytes slice text stored same is spelled digits back = told_with told (λ content at. record {
  bytes = bytes;
  text = text;
  stored = at;
  spelled = subst (λ b. SpellsCommit hash b text) is (subst (λ k. SpellsCommit k slice text) same spelled);
  named = ap id_from_hex (sym digits) ∙ back;
}) stored

-- ---- refusals

-- an object that is read for the base or an edit, and is not known
pub read_refused : (settings : Settings) (r : CommitRequest) (s : StoreState) (wanted : Kind) (id : ObjectId) → IsReadAs r (view_of s) id wanted → (e : CommitEditsError) → ReadCauses s wanted id e → StageCauses settings r s e
read_refused settings r s wanted id read (error.FindExistingObject named) c = subst (IsAbsent r (view_of s)) (sym c.0) (record { wanted = wanted; read = read; absent = c.1 })
read_refused settings r s wanted id read (error.ObjectKind named actual) c = subst (λ i. IsOther r (view_of s) i actual) (sym c.0) (record { wanted = wanted; read = read; other = c.1 })
read_refused settings r s wanted id read (error.Decode named) c = subst (IsBad r (view_of s)) (sym c.0) (record { wanted = wanted; read = read; bad = c.1 })
read_refused settings r s wanted id read (error.EmptyPathComponent path) c = absurd c
read_refused settings r s wanted id read (error.InvalidFilename filename k named source) c = absurd c
read_refused settings r s wanted id read (error.MissingObject filename k named) c = absurd c
read_refused settings r s wanted id read (error.WriteObject field) c = absurd c
read_refused settings r s wanted id read (error.Cycle name) c = absurd c
read_refused settings r s wanted id read (error.DepthLimitExceeded name) c = absurd c
read_refused settings r s wanted id read (error.MustExist name) c = absurd c
read_refused settings r s wanted id read (error.MustNotExist name actual) c = absurd c
read_refused settings r s wanted id read (error.ReferenceOutOfDate name expected actual) c = absurd c
read_refused settings r s wanted id read (error.NameConflict name other) c = absurd c
read_refused settings r s wanted id read (error.Store fault) c = subst (λ f. StageCauses settings r s (error.Store f)) (sym c.0) (c.1, inl (wanted, read))
read_refused settings r s wanted id read error.NoMemory c = tt

-- what keeps a tree from being loaded, as it is handed on
pub has_place : (s : StoreState) (id : ObjectId) (e : EditError) → LoadCauses s id e → HasPlace e
has_place s id edit_error.EmptyPathComponent c = absurd c
has_place s id edit_error.IsTree c = absurd c
has_place s id (edit_error.FindExistingObject named) c = tt
has_place s id (edit_error.ObjectKind named actual) c = tt
has_place s id (edit_error.Decode named) c = tt
has_place s id (edit_error.InvalidFilename filename k named source) c = tt
has_place s id (edit_error.MissingObject filename k named) c = tt
has_place s id (edit_error.WriteObject field) c = tt
has_place s id (edit_error.Store fault) c = tt
has_place s id edit_error.NoMemory c = tt

as_read : (s : StoreState) (id : ObjectId) (e : EditError) → LoadCauses s id e → ReadCauses s kind.Tree id (lifted e)
as_read s id edit_error.EmptyPathComponent c = absurd c
as_read s id edit_error.IsTree c = absurd c
as_read s id (edit_error.FindExistingObject named) c = c
as_read s id (edit_error.ObjectKind named actual) c = c
as_read s id (edit_error.Decode named) c = c
as_read s id (edit_error.InvalidFilename filename k named source) c = absurd c
as_read s id (edit_error.MissingObject filename k named) c = absurd c
as_read s id (edit_error.WriteObject field) c = absurd c
as_read s id (edit_error.Store fault) c = c
as_read s id edit_error.NoMemory c = tt

-- ---- the first parent

pub first_is : (xs : List ObjectId) (x : ObjectId) → Some x ≡ slice_get xs 0 → xs ≡ x ∷ drop 1 xs
first_is [] x h = cc
first_is (y ∷ ys) x h = ap (λ z. z ∷ ys) (let same : x ≡ y = cc in sym same)

-- without a parent the base has no entries
pub no_parent : (s : StoreState) (parents : List ObjectId) (entries : List Entry) → None ≡ slice_get parents 0 → entries ≡ [] → IsBaseTree (view_of s) parents entries
no_parent s [] entries none empty = empty
no_parent s (parent ∷ parents) entries none empty = let no : ◌≡◌ {A = Option ObjectId} None (Some parent) = none in cc

module _ (settings : Settings) (r : CommitRequest) (s : StoreState) (parent : ObjectId) (is : r.parents ≡ parent ∷ drop 1 r.parents) where
  first : (P : ObjectId → Type 0) → P parent → OfFirst r.parents P
  first P h = subst (λ ps. OfFirst ps P) (sym is) h

  -- it is read as a commit
  pub parent_refused : (e : CommitEditsError) → ReadCauses s kind.Commit parent e → StageCauses settings r s e
  parent_refused e c = read_refused settings r s kind.Commit parent (first (λ p. parent ≡ p) refl) e c

  -- and its tree as a tree
  pub root_refused : (tree : ObjectId) → IfSome s.content (λ content. HasTree s.hash content parent tree) → (e : EditError) → LoadCauses s tree e → StageCauses settings r s (lifted e)
  root_refused tree has e c = read_refused settings r s kind.Tree tree (inl (first (λ p. IfSome s.content (λ content. HasTree s.hash content p tree)) has)) (lifted e) (as_read s tree e c)

pub root_found : (r : CommitRequest) (s : StoreState) (parent tree : ObjectId) (entries : List Entry) → r.parents ≡ parent ∷ drop 1 r.parents → IfSome s.content (λ content. HasTree s.hash content parent tree)
    → TellsEntries s tree entries → IsBaseTree (view_of s) r.parents entries
root_found r s parent tree entries is has found = subst (λ ps. IsBaseTree (view_of s) ps entries) (sym is)
    (told_both s.content (λ content h at. record { tree = tree; has_tree = h; has = at }) has found)
