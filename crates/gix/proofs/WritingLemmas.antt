-- What calls mean that write an object.
use Rattle.std.proofs.Common.{◌≡◌, ◌∙◌, refl, arith, cond, sym, ap, subst, ℕ, Bool, true, false, true≢false, List, [], ◌∷◌, Option, Some, None, option_map, Result, Ok, Err, IfOk, IfErr, IfSome, IsTrue, is_some, IsErrOf}
use Rattle.std.specs.FinMap.{get, contains_key}
use Rattle.std.specs.Option.{option_or}
use Rattle.gx_hash.specs.declared.kind.HashKind.{HashKind}
use Rattle.gx_hash.specs.declared.oid.ObjectId.{ObjectId}
use Rattle.gx_hash.specs.HashKind.{IsOfKind}
use Rattle.gx_hash.specs.Laws.{object_id_kind, own_id}
use Rattle.gx_hash.specs.ObjectIds.{id_eq}
use Rattle.gx_object.specs.declared.encode.EncodeError.{EncodeError}
use Rattle.gx_object.specs.declared.encode.EncodeError.TheVariants as encode
use Rattle.gx_object.specs.declared.encode.Field.{Field}
use Rattle.gx_object.specs.declared.kind.Kind.{Kind}
use Rattle.gx_object.specs.Field.{NamesUnwritable, first_unwritable}
use Rattle.gx_object.specs.Kind.{kind_name}
use Rattle.gx_store.specs.Content.{Content, id_of, object_at, with_objects}
use Rattle.gx_store.specs.Faults.{Rose}
use Rattle.gx_store.specs.Laws.{AddedIsFound, WritesOnce, WritingAdds}
use Rattle.gx_store.specs.State.{StoreState, RefState, Becomes, HasCause, OfFault, all_stored, stored}
use Rattle.gx_store.specs.declared.error.StoreError.{StoreError}
use Rattle.gx_store.specs.declared.error.StoreError.TheVariants.{Fault, NoMemory}
use Rattle.gx_store.specs.declared.error.What.{What}
use Rattle.gix.specs.declared.object.write.WriteError.{WriteError}
use Rattle.gix.specs.Held.{Held, BothTold, WhereTold, state_of, state_told}
use Rattle.gix.specs.Meaning.{Means, Stays, IsLawful}
use Rattle.gix.specs.ObjectLaws.{WrittenIsStored, WritesTwice}
use Rattle.gix.specs.View.{State}
use Rattle.gix.specs.Writes.{AcceptsObject, LeavesObject, NamesFirst, Stores, WriteCauses, Writing, not_spelled, not_written, object_writing, write_part, writes}
use Rattle.gix.proofs.AskingLemmas.{told_still}

-- ---- what is stored

itself : (s : StoreState) → Becomes s s
itself s = record { same = refl; later = omega arith }

hash_told : (hash : HashKind) (content : Option Content) (references : Option RefState) (o : State) → state_told hash content references ≡ Some o → hash ≡ o.hash
hash_told hash None references o is = cc
hash_told hash (Some content) None o is = cc
hash_told hash (Some content) (Some refs) o is = cc

told_hash : (store : StoreState) (o : State) → state_of store ≡ Some o → store.hash ≡ o.hash
told_hash store o is = hash_told store.hash store.content store.references o is

module _ (adds : WritingAdds) (found : AddedIsFound) (object : Kind × List ℕ) where
  accepts_told : (hash : HashKind) (content : Option Content) (references : Option RefState) (id : ObjectId) → id ≡ id_of hash object
      → BothTold (λ o n. AcceptsObject object o id n) (state_told hash content references) (state_told hash (option_map (with_objects hash (object ∷ [])) content) references)
  accepts_told hash None references id is = tt
  accepts_told hash (Some content) None id is = tt
  accepts_told hash (Some content) (Some refs) id is = subst (λ i. AcceptsObject object (record { hash = hash; content = content; references = refs }) i (record { hash = hash; content = with_objects hash (object ∷ []) content; references = refs }))
      (sym is)
      (record { is_id = refl; same = refl; stored = λ apart. (found hash (object ∷ []) content (with_objects hash (object ∷ []) content) apart (adds hash (object ∷ []) content)).0 })

  accepts : (old new : StoreState) (id : ObjectId) → Stores object old id new → WhereTold (λ before after. AcceptsObject object before id after) old new
  accepts old new id s = subst (λ (t : StoreState). BothTold (λ o n. AcceptsObject object o id n) (state_of old) (state_of t)) (sym s.becomes.same) (accepts_told old.hash old.content old.references id s.is_id)

pub written_is_stored : WritingAdds → AddedIsFound → WrittenIsStored
written_is_stored adds found object old new id s = accepts adds found object old new id s

-- ---- twice

some_or : {X : Type 0} (o : Option X) (x : X) → is_some (option_or o (Some x)) ≡ true
some_or None x = refl
some_or (Some y) x = refl

at_own : (b : Bool) (object : Kind × List ℕ) → b ≡ true → cond b (Some object) None ≡ Some object
at_own true object e = refl
at_own false object e = cc

module _ (adds : WritingAdds) (object : Kind × List ℕ) where
  has_it : (hash : HashKind) (told : Option Content) → IfSome (option_map (with_objects hash (object ∷ [])) told) (λ content. IsTrue (contains_key content (id_of hash object)))
  has_it hash None = tt
  has_it hash (Some content) =
      let id : ObjectId = id_of hash object in
      ap is_some (adds hash (object ∷ []) content id ∙ ap (option_or (get content id)) (at_own (id_eq id id) object (own_id id))) ∙ some_or (get content id) object

  twice : WritesOnce → (old middle new : StoreState) (first second : ObjectId) → Stores object old first middle → Stores object middle second new → (second ≡ first) × Becomes middle new
  twice once old middle new first second s t =
      let hash : middle.hash ≡ old.hash = ap (λ (u : StoreState). u.hash) s.becomes.same in
      let content : middle.content ≡ option_map (with_objects old.hash (object ∷ [])) old.content = ap (λ (u : StoreState). u.content) s.becomes.same in
      let there : IfSome middle.content (λ content. IsTrue (contains_key content (id_of middle.hash object))) =
      subst (λ h. IfSome middle.content (λ c. IsTrue (contains_key c (id_of h object)))) (sym hash)
      (subst (λ o. IfSome o (λ c. IsTrue (contains_key c (id_of old.hash object)))) (sym content) (has_it old.hash old.content)) in (
        t.is_id ∙ ap (λ h. id_of h object) hash ∙ sym s.is_id,
        record {
          same = t.becomes.same ∙ ap {A = StoreState} {B = StoreState} (λ u. record u { faults = new.faults }) (once (id_of middle.hash object) object middle there);
          later = t.becomes.later;
        },
      )

pub writes_twice : WritingAdds → WritesOnce → WritesTwice
writes_twice adds once object old middle new first second s t = twice adds object once old middle new first second s t

-- ---- what the calls mean

left_same : (old new : StoreState) (failure : Option StoreError) → failure ≡ None → LeavesObject old new failure → new ≡ old
left_same old new None none left = left
left_same old new (Some failure) none left = cc

module _ {E : Type 0} (w : Writing E) where
  why_of : (old new : StoreState) (e : E) (failure : Option StoreError) → failure ≡ None → WriteCauses w old new e failure → w.why old.hash e
  why_of old new e None none causes = causes
  why_of old new e (Some failure) none causes = cc

  pub wrote : WrittenIsStored → (old new : Held) (id : ObjectId) → new.settings ≡ old.settings → w.may old.store.hash → Stores w.object old.store id new.store → Means (writes w) old (Ok id) new
  wrote stored old new id settings may stores = record {
    ok = (may, stores);
    settles = settings;
    leaves = tt;
    causes = tt;
    settings = tt;
    accepts = may_accept (state_of old.store) (state_of new.store) refl (stored w.object old.store new.store id stores);
    refuses = tt;
  }
    where
      may_accept : (before after : Option State) → before ≡ state_of old.store → BothTold (λ o n. AcceptsObject w.object o id n) before after → BothTold (λ o n. w.may o.hash × AcceptsObject w.object o id n) before after
      may_accept None None is h = tt
      may_accept None (Some n) is h = h
      may_accept (Some o) None is h = h
      may_accept (Some o) (Some n) is h = (subst w.may (told_hash old.store o (sym is)) may, h)

  pub not_wrote : (old new : Held) (e : E) → new.settings ≡ old.settings → LeavesObject old.store new.store (w.fails e) → WriteCauses w old.store new.store e (w.fails e) → Means (writes w) old (Err e) new
  not_wrote old new e settings left causes = record {
    ok = tt;
    settles = tt;
    leaves = left;
    causes = causes;
    settings = settings;
    accepts = tt;
    refuses = λ none. subst (λ s. WhereTold (λ before after. (after ≡ before) × w.why before.hash e) old.store s) (sym (left_same old.store new.store (w.fails e) none left))
        (told_still (λ view. w.why view.hash e) old.store (why_of old.store new.store e (w.fails e) none causes));
  }

  counted : (old new : StoreState) (e : E) (fault : What) (failure : Option StoreError) → failure ≡ Some (Fault fault) → WriteCauses w old new e failure → Rose old.faults new.faults
  counted old new e fault None is causes = cc
  counted old new e fault (Some (Fault other)) is causes = causes.1
  counted old new e fault (Some NoMemory) is causes = cc

  -- to write is lawful
  pub writing_lawful : IsLawful (writes w)
  writing_lawful = record {
    same = λ settings old new e none left. left_same old new (w.fails e) none left;
    stays = λ settings old new id makes. let b = makes.1.becomes in record { kind = ap (λ (s : StoreState). s.hash) b.same; parts = ap (λ (s : StoreState). s.unreadable) b.same; later = b.later };
    rises = λ settings old new e fault readable is causes. counted old new e fault (w.fails e) is causes;
  }

  -- a fault of the store while it writes
  pub store_failed : (of : StoreError → E) → ((failure : StoreError) → w.fails (of failure) ≡ Some failure) → (old new : Held) (failure : StoreError) → new.settings ≡ old.settings
      → Becomes old.store new.store → OfFault failure (HasCause old.store new.store) → Means (writes w) old (Err (of failure)) new
  store_failed of is old new failure settings becomes cause = not_wrote old new (of failure) settings
      (subst (LeavesObject old.store new.store) (sym (is failure)) becomes)
      (subst (WriteCauses w old.store new.store (of failure)) (sym (is failure)) (caused failure cause))
    where
      caused : (failure : StoreError) → OfFault failure (HasCause old.store new.store) → WriteCauses w old.store new.store (of failure) (Some failure)
      caused NoMemory c = tt
      caused (Fault fault) c = c

-- ---- bytes and values

pub is_written : (failure : StoreError) → write_part (not_written failure) ≡ Some failure
is_written NoMemory = refl
is_written (Fault fault) = refl

one_field : (T : Type 0) (first : Option Field) (field : Field) → NamesUnwritable {T = T} first (Err (encode.Unwritable field)) → first ≡ Some field
one_field T None field names = absurd (names field refl)
one_field T (Some first) field names = cc

-- a value without a spelling
pub spelling_failed : (T : Type 0) (kind : Kind) (spelling : List ℕ) (is_writable : Field → Bool) (held : Held) (e : EncodeError) → NamesUnwritable {T = T} (first_unwritable is_writable) (Err e)
    → Means (writes (object_writing kind spelling is_writable)) held (Err (not_spelled e)) held
spelling_failed T kind spelling is_writable held encode.NoMemory names = not_wrote (object_writing kind spelling is_writable) held held (not_spelled encode.NoMemory) refl (itself held.store) tt
spelling_failed T kind spelling is_writable held (encode.Unwritable field) names = not_wrote (object_writing kind spelling is_writable) held held (not_spelled (encode.Unwritable field)) refl refl (one_field T (first_unwritable is_writable) field names)

-- an object of these parts is stored
pub stores_parts : (kind kind' : Kind) (bytes bytes' : List ℕ) (old : StoreState) (id : ObjectId) (new : StoreState) → kind' ≡ kind → bytes' ≡ bytes → id ≡ id_of old.hash (kind', bytes') → IsOfKind old.hash id → Becomes (all_stored ((kind', bytes') ∷ []) old) new
    → Stores (kind, bytes) old id new
stores_parts kind kind' bytes bytes' old id new same_kind same_bytes is of becomes =
    subst (λ k. Stores (k, bytes) old id new) same_kind (subst (λ b. Stores (kind', b) old id new) same_bytes (record { is_id = is; kind = of; becomes = becomes }))

-- so is one whose id is known
pub stores_known : (object : Kind × List ℕ) (old : StoreState) (id : ObjectId) (new : StoreState) → id ≡ id_of old.hash object → Becomes (stored id object old) new → Stores object old id new
stores_known object old id new is becomes = record {
  is_id = is;
  kind = subst (IsOfKind old.hash) (sym is) (object_id_kind old.hash (kind_name object.0) object.1);
  becomes = subst (λ i. Becomes (stored i object old) new) is becomes;
}
