-- Why a reading of a stored tree stops.
use Rattle.std.proofs.Common.{◌≡◌, ℕ, true, ◌++◌, ◌+◌, ◌<◌, ◌⊎◌, ⊎_elim, List, [], ◌∷◌, drop, length, Option, Some, None, is_some, IfSome, refl, sym, ap, ◌∙◌, subst, get_or, arith}
use Rattle.gx_hash.specs.declared.kind.HashKind.{HashKind}
use Rattle.gx_hash.specs.declared.oid.ObjectId.{ObjectId}
use Rattle.gx_object.specs.declared.kind.Kind.TheVariants as kind
use Rattle.gx_object.specs.declared.tree.Entry.{Entry}
use Rattle.gx_object.specs.Mode.{is_tree_mode}
use Rattle.gx_object.specs.Tree.{tree_bytes}
use Rattle.gx_store.specs.Content.{Content, lookup}
use Rattle.gx_store.specs.State.{StoreState}
use Rattle.gx_edit.specs.Path.{components}
use Rattle.gx_edit.specs.PathMap.{PathMap}
use Rattle.gx_edit.specs.CanonicalTree.{leaf_at, entries_of}
use Rattle.gx_edit.specs.ReadMapCauses.{HaveOwnNames, SpellsCanonically, HasSubtree, IsAtOrBelow, HasNoMap, ReadMapCauses}
use Rattle.gx_edit.specs.ReadMapCauses.IsAtOrBelow.{here, below}
use Rattle.gx_edit.specs.ReadMapCauses.HasNoMap.{spelling, digest, empty, cycle}
use Rattle.gx_edit.specs.OpenTree.{IsOpened, IsOneOf, OpenCauses}
use Rattle.gx_edit.specs.declared.error.EditError.{EditError}
use Rattle.gx_edit.specs.declared.error.EditError.TheVariants as edit_error
use Rattle.gx_edit.specs.declared.stored_tree.open_tree.OpenTree.{OpenTree}
use Rattle.gx_edit.proofs.EntryOrder.{told_both, told_all, repeated}
use Rattle.gx_edit.proofs.ReadingLemmas.{IsAt, next_of, leads_from, within_reaches, within_one, leaf_there, text_of}

-- what stops the opening of a tree at or below the root stops the reading
pub opened_cause : (state : StoreState) (root id : ObjectId) (error : EditError) → IfSome state.content (λ content. IsAtOrBelow state.hash content root id) → OpenCauses state id error → ReadMapCauses state root error
opened_cause state root id edit_error.NoMemory reach h = tt
opened_cause state root id (edit_error.Store fault) reach h = (id, h, reach)
opened_cause state root id (edit_error.FindExistingObject named) reach h =
    told_both state.content (λ content r none. (subst (IsAtOrBelow state.hash content root) (sym h.0) r, subst (λ i. lookup content i ≡ None) (sym h.0) none)) reach h.1
opened_cause state root id (edit_error.ObjectKind named actual) reach h =
    told_both state.content (λ content r other. (subst (IsAtOrBelow state.hash content root) (sym h.0) r, other.0, other.1, subst (λ i. lookup content i ≡ Some (actual, other.1)) (sym h.0) other.2)) reach h.1
opened_cause state root id (edit_error.Decode named) reach h =
    subst (λ i. ReadMapCauses state root (edit_error.Decode i)) (sym h.0)
    (told_both state.content (λ content r bad. (r, ⊎_elim (λ never. spelling bad.0 bad.1 never) (λ other. digest bad.0 bad.1 other) bad.2)) reach h.1)
opened_cause state root id error reach h = absurd h

module _ (hash : HashKind) (told : Option Content) where
  reached : {levels : List OpenTree} {t : OpenTree} {path : List ℕ} {root : ObjectId} {m : PathMap} (s : IsAt hash told levels t path root m) → IfSome told (λ content. IsAtOrBelow hash content root s.inner)
  reached {levels = levels} {root = root} s = within_reaches hash told 0 levels s.above root s.inner s.chain

  leads_next : {levels : List OpenTree} {t : OpenTree} {path : List ℕ} {root : ObjectId} {m : PathMap} (e : Entry) → t.place < length t.entries.items → e ≡ get_or t.entries.items t.place e → is_tree_mode e.mode.value ≡ true
      → (s : IsAt hash told levels t path root m) → IfSome told (λ content. HasSubtree hash content s.inner e.oid)
  leads_next {t = t} e less is tree s =
      let next = next_of hash told (length (text_of s.above)) s.inner t s.done e s.level less is in
      leads_from hash told s.inner t (entries_of hash s.done) (drop (t.place + 1) t.entries.items) e s.level.opened next.split tree

  pub reached_next : {levels : List OpenTree} {t : OpenTree} {path : List ℕ} {root : ObjectId} {m : PathMap} (e : Entry) → t.place < length t.entries.items → e ≡ get_or t.entries.items t.place e → is_tree_mode e.mode.value ≡ true
      → IsAt hash told levels t path root m → IfSome told (λ content. IsAtOrBelow hash content root e.oid)
  reached_next e less is tree s = told_both told (λ content reach leads. below s.inner e.oid reach leads) (reached s) (leads_next e less is tree s)

  -- a tree that leads to one that is begun
  pub refused_cycle : {levels : List OpenTree} {t : OpenTree} {path : List ℕ} {root : ObjectId} {m : PathMap} (e : Entry) → t.place < length t.entries.items → e ≡ get_or t.entries.items t.place e → is_tree_mode e.mode.value ≡ true
      → (t.id ≡ e.oid) ⊎ IsOneOf e.oid levels → IsAt hash told levels t path root m → IfSome told (λ content. IsAtOrBelow hash content root e.oid × HasNoMap hash content root e.oid)
  refused_cycle {levels = levels} {root = root} e less is tree which s =
      let back : IfSome told (λ content. IsAtOrBelow hash content e.oid s.inner) = ⊎_elim
      (λ same. told_all told (λ content. subst (λ i. IsAtOrBelow hash content i s.inner) (sym s.level.opened.id_is ∙ same) here))
      (λ one. within_one hash told 0 levels s.above root s.inner e.oid one s.chain) which in
      told_both told (λ content reach no. (reach, no)) (reached_next e less is tree s)
      (told_both told (λ content own leads. cycle s.inner own leads) back (leads_next e less is tree s))

  -- an entry with the name of an earlier one
  pub refused_twice : {levels : List OpenTree} {t : OpenTree} {path : List ℕ} {root : ObjectId} {m : PathMap} (e : Entry) → t.place < length t.entries.items → e ≡ get_or t.entries.items t.place e
      → is_some (m (components (path ++ e.filename))) ≡ true → IsAt hash told levels t path root m → IfSome told (λ content. IsAtOrBelow hash content root t.id × HasNoMap hash content root t.id)
  refused_twice {levels = levels} {t = t} {path = path} {root = root} {m = m} e less is some s =
      let next = next_of hash told (length (text_of s.above)) s.inner t s.done e s.level less is in
      let there : is_some (leaf_at s.done (e.filename ∷ [])) ≡ true = ap is_some (sym (leaf_there hash told levels t path root m e s next.sound.name)) ∙ some in
      let rest : List Entry = drop (t.place + 1) t.entries.items in
      let never : (entries : List Entry) → SpellsCanonically hash (tree_bytes t.entries.items) entries → ⊥ = λ entries sp.
      repeated hash s.done e rest there (subst HaveOwnNames (sym (s.level.opened.spells.only entries sp.spelled) ∙ next.split) sp.names) in
      told_both told (λ content reach stored. subst (λ i. IsAtOrBelow hash content root i × HasNoMap hash content root i) (sym s.level.opened.id_is) (reach, spelling (tree_bytes t.entries.items) stored never)) (reached s) s.level.opened.stored

  -- an empty tree below another one
  pub refused_empty : {levels : List OpenTree} {t : OpenTree} {path : List ℕ} {root : ObjectId} {m : PathMap} (e : Entry) (inner : OpenTree) → t.place < length t.entries.items → e ≡ get_or t.entries.items t.place e → is_tree_mode e.mode.value ≡ true
      → IsOpened hash told e.oid inner → length inner.entries.items ≡ 0 → IsAt hash told levels t path root m → IfSome told (λ content. IsAtOrBelow hash content root inner.id × HasNoMap hash content root inner.id)
  refused_empty {root = root} e inner less is tree o none s =
      let bare : tree_bytes inner.entries.items ≡ [] = ap tree_bytes (no_length inner.entries.items none) in
      told_both {P = λ content. IsAtOrBelow hash content root s.inner × HasSubtree hash content s.inner e.oid} told (λ content parts stored. subst (λ i. IsAtOrBelow hash content root i × HasNoMap hash content root i) (sym o.id_is)
      (below s.inner e.oid parts.0 parts.1, empty s.inner parts.0 parts.1 (stored ∙ ap (λ b. Some (kind.Tree, b)) bare)))
      (told_both told (λ content reach leads. (reach, leads)) (reached s) (leads_next e less is tree s)) o.stored
    where
      no_length : (es : List Entry) → length es ≡ 0 → es ≡ []
      no_length [] h = refl
      no_length (x ∷ es) h = absurd (omega (arith, h))
