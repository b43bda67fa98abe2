-- A call of `commit_edits` over a store that tells its state is a step of a history.
use Rattle.std.proofs.Common.{◌≡◌, ◌∙◌, sym, ap, refl, subst, List, [], ◌∷◌, ◌++◌, append-nil, ℕ, Option, Some, None, inl, inr, ⊎_elim, Result, Ok, Err, IfOk, IfErr}
use Rattle.std.specs.Prelude.{option_map}
use Rattle.gx_hash.specs.declared.oid.ObjectId.{ObjectId}
use Rattle.gx_object.specs.declared.kind.Kind.{Kind}
use Rattle.gx_object.specs.declared.kind.Kind.TheVariants as kind
use Rattle.gx_store.specs.Content.{Content, with_objects, Adds}
use Rattle.gx_store.specs.State.{StoreState}
use Rattle.gx_store.specs.declared.error.What.{What}
use Rattle.gx_store.specs.declared.error.What.TheVariants as what
use Rattle.gx_edit.specs.Output.{Output}
use Rattle.gix.specs.declared.settings.Settings.{Settings}
use Rattle.gix.specs.declared.error.CommitEditsError.{CommitEditsError}
use Rattle.gix.specs.declared.error.CommitEditsError.TheVariants as error
use Rattle.gix.specs.CommitRequest.{CommitRequest}
use Rattle.gix.specs.View.{View, State, whole, view_of}
use Rattle.gix.specs.Trees.{brought}
use Rattle.gix.specs.LawsBelow.{LawsBelow}
use Rattle.gix.specs.Admission.{IsAdmitted}
use Rattle.gix.specs.CommitEdits.{Commits, Leaves, LeavesFault, HasBegun, IsTornBy, written_objects}
use Rattle.gix.specs.NewCommit.{commit_id, commit_text}
use Rattle.gix.specs.Held.{BothTold, state_told}
use Rattle.gix.specs.Machine.{Accepts}
use Rattle.gix.specs.History.{AddsCommit, CallStep}
use Rattle.gix.proofs.MachineLemmas.{accepts_of}

one_content : (a b : Content) → ◌≡◌ {A = Option Content} (Some a) (Some b) → a ≡ b
one_content a b same = cc

same_first : {X : Type 0} (a b : X) (xs ys : List X) → a ∷ xs ≡ b ∷ ys → a ≡ b
same_first a b xs ys e = cc

same_others : {X : Type 0} (a b : X) (xs ys : List X) → a ∷ xs ≡ b ∷ ys → xs ≡ ys
same_others a b xs ys e = cc

same_both : {X : Type 0} (a b : X) (xs ys : List X) → a ≡ b → xs ≡ ys → a ∷ xs ≡ b ∷ ys
same_both a b xs ys e f = cc

not_empty : {X : Type 0} (ys : List X) (z : X) (zs : List X) → [] ≡ ys ++ z ∷ zs → ⊥
not_empty [] z zs e = cc
not_empty (w ∷ ws) z zs e = cc

-- what stands before the last of a list, and is followed by something, stands before that last
all_but_last : {X : Type 0} (xs ys : List X) (a z : X) (zs : List X) → xs ++ a ∷ [] ≡ ys ++ z ∷ zs → (ws : List X) × (xs ≡ ys ++ ws)
all_but_last xs [] a z zs same = (xs, refl)
all_but_last [] (y ∷ ys) a z zs same = absurd (not_empty ys z zs (same_others a y [] (ys ++ z ∷ zs) same))
all_but_last (x ∷ xs) (y ∷ ys) a z zs same =
    let rest = all_but_last xs ys a z zs (same_others x y (xs ++ a ∷ []) (ys ++ z ∷ zs) same) in
    (rest.0, same_both x y xs (ys ++ rest.0) (same_first x y (xs ++ a ∷ []) (ys ++ z ∷ zs) same) rest.1)

module _ (laws : LawsBelow) (settings : Settings) (r : CommitRequest) (old new : StoreState) (before after : State) (was : view_of old ≡ whole before) (is : view_of new ≡ whole after) where
  abbrev Stepped : CommitEditsError → Type 0
  Stepped e = (stored : Option ObjectId) × CallStep settings (record { request = r; answer = Err e; stored = stored }) before after

  same_hash : old.hash ≡ before.hash
  same_hash = ap (λ (v : View). v.hash) was

  hash_after : new.hash ≡ old.hash → after.hash ≡ before.hash
  hash_after same = sym (ap (λ (v : View). v.hash) is) ∙ same ∙ same_hash

  -- what was written to the store was added to its content
  adds : (objects : List (Kind × List ℕ)) → new.content ≡ option_map (with_objects old.hash objects) old.content → Adds before.hash objects before.content after.content
  adds objects same =
      let told : option_map (with_objects before.hash objects) (Some before.content) ≡ Some after.content =
      sym (ap (λ (v : View). option_map (with_objects v.hash objects) v.content) was) ∙ sym same ∙ ap (λ (v : View). v.content) is in
      subst (Adds before.hash objects before.content) (one_content (with_objects before.hash objects before.content) after.content told) (laws.writing before.hash objects before.content)

  admitted_in : (output : Output) → IsAdmitted settings r (view_of old) output → IsAdmitted settings r (whole before) output
  admitted_in output a = subst (λ v. IsAdmitted settings r v output) was a

  whole_commit : (output : Output) → IsAdmitted settings r (view_of old) output → Adds before.hash (written_objects r output) before.content after.content → AddsCommit settings r before (commit_id before.hash r output) after
  whole_commit output a added = record { output = output; admitted = admitted_in output a; is_id = refl; adds = added }

  untouched : (e : CommitEditsError) → new ≡ old → Stepped e
  untouched e same =
      let content : after.content ≡ before.content = one_content after.content before.content (sym (ap (λ (v : View). v.content) is) ∙ ap (λ (s : StoreState). s.content) same ∙ ap (λ (v : View). v.content) was) in
      (None, record { hash = hash_after (ap (λ (s : StoreState). s.hash) same); left = inl content })

  begun : (e : CommitEditsError) → HasBegun settings r old new → Stepped e
  begun e b = go b.grows.rest b.grows.split
    where
      hash : after.hash ≡ before.hash
      hash = hash_after (ap (λ (s : StoreState). s.hash) b.grows.becomes.same)

      added : Adds before.hash b.grows.first before.content after.content
      added = adds b.grows.first (ap (λ (s : StoreState). s.content) b.grows.becomes.same)

      go : (rest : List (Kind × List ℕ)) → written_objects r b.output ≡ b.grows.first ++ rest → Stepped e
      go [] split =
          let all : b.grows.first ≡ written_objects r b.output = sym (append-nil b.grows.first) ∙ sym split in (
            Some (commit_id before.hash r b.output),
            record { hash = hash; left = whole_commit b.output b.admitted (subst (λ l. Adds before.hash l before.content after.content) all added) },
          )
      go (x ∷ rest) split =
          let less = all_but_last (brought r b.output) b.grows.first (kind.Commit, commit_text r b.output) x rest split in (
            None,
            record {
              hash = hash;
              left = inr (record { output = b.output; admitted = admitted_in b.output b.admitted; first = b.grows.first; rest = less.0; split = less.1; adds = added });
            },
          )

  torn : (e : CommitEditsError) → IsTornBy settings r old new → Stepped e
  torn e t =
      let content : new.content ≡ option_map (with_objects old.hash (written_objects r t.output)) old.content = ap (λ (s : StoreState). s.content) t.torn.same ∙ ap (λ (s : StoreState). s.content) t.becomes.same in
      let hash : new.hash ≡ old.hash = ap (λ (s : StoreState). s.hash) t.torn.same ∙ ap (λ (s : StoreState). s.hash) t.becomes.same in
      (Some (commit_id before.hash r t.output), record { hash = hash_after hash; left = whole_commit t.output t.admitted (adds (written_objects r t.output) content) })

  faulty : (fault : What) → LeavesFault settings r old new fault → Stepped (error.Store fault)
  faulty what.Write l = ⊎_elim (begun (error.Store what.Write)) (torn (error.Store what.Write)) l
  faulty fault l = untouched (error.Store fault) l

  refused : (e : CommitEditsError) → Leaves settings r old new e → Stepped e
  refused (error.Store fault) l = faulty fault l
  refused error.NoMemory l = ⊎_elim (untouched error.NoMemory) (begun error.NoMemory) l
  refused e l = untouched e l

  accepted : (id : ObjectId) → Commits settings r old id new → Accepts settings r before id after
  accepted id c =
      let first = subst (λ (v : View). BothTold (λ s t. Accepts settings r s id t) (state_told v.hash v.content v.references) (state_told new.hash new.content new.references)) was (accepts_of laws settings r old new id c) in
      subst (λ (v : View). BothTold (λ s t. Accepts settings r s id t) (Some before) (state_told v.hash v.content v.references)) is first

  pub step_of : (answer : Result ObjectId CommitEditsError) → IfOk answer (λ id. Commits settings r old id new) → IfErr answer (Leaves settings r old new)
      → (stored : Option ObjectId) × CallStep settings (record { request = r; answer = answer; stored = stored }) before after
  step_of (Ok id) commits leaves =
      let a = accepted id commits in
      (Some id, record { hash = a.hash; left = (refl, a) })
  step_of (Err e) commits leaves = refused e leaves
