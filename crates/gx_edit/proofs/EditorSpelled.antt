-- What is planned can be spelled, or it is refused.
use Rattle.std.proofs.Common.{◌≡◌, sym, refl, subst, List, [], ◌∷◌, Bool, true, false, true≢false, ◌&&◌, Contains, Result, Ok, Err}
use Rattle.std.specs.Prelude.{IfOk, IfErr}
use Rattle.std.specs.List.{AllByRecursion, list_all}
use Rattle.gx_hash.specs.declared.kind.HashKind.{HashKind}
use Rattle.gx_object.specs.declared.tree.Entry.{Entry}
use Rattle.gx_object.specs.Tree.{is_writable_filename}
use Rattle.gx_edit.specs.EditorPlan.{Misspells}
use Rattle.gx_edit.specs.EditorWriting.{PlanViewCauses}
use Rattle.gx_edit.specs.Output.{Output}
use Rattle.gx_edit.specs.View.{View}
use Rattle.gx_edit.specs.Written.{IsOutputOfView}
use Rattle.gx_edit.specs.declared.error.EditError.{EditError}
use Rattle.gx_edit.specs.declared.error.EditError.TheVariants as error
use Rattle.gx_edit.proofs.WrittenLists.{in_first, in_later}

abbrev is_spelled : Entry → Bool
is_spelled entry = is_writable_filename entry.filename

pub all_spelled : (entries : List Entry) → list_all (λ (entry : Entry). is_writable_filename entry.filename) entries ≡ true → AllByRecursion (λ (entry : Entry). is_writable_filename entry.filename ≡ true) entries
all_spelled [] is = tt
all_spelled (e ∷ entries) is = go (is_spelled e) refl is (all_spelled entries)
  where
    go : (t : Bool) → is_spelled e ≡ t → (t && list_all is_spelled entries) ≡ true → (list_all is_spelled entries ≡ true → AllByRecursion (λ (x : Entry). is_spelled x ≡ true) entries) → AllByRecursion (λ (x : Entry). is_spelled x ≡ true) (e ∷ entries)
    go true own is more = (own, more is)
    go false own is more = absurd (true≢false (sym is))

pub some_misspelt : (entries : List Entry) → list_all (λ (entry : Entry). is_writable_filename entry.filename) entries ≡ false → (entry : Entry) × Contains entries entry × (is_writable_filename entry.filename ≡ false)
some_misspelt [] is = absurd (true≢false is)
some_misspelt (e ∷ entries) is = go (is_spelled e) refl is (some_misspelt entries)
  where
    go : (t : Bool) → is_spelled e ≡ t → (t && list_all is_spelled entries) ≡ false → (list_all is_spelled entries ≡ false → (x : Entry) × Contains entries x × (is_spelled x ≡ false)) → (x : Entry) × Contains (e ∷ entries) x × (is_spelled x ≡ false)
    go true own is more = let x = more is in (x.0, in_later e x.0 entries x.1, x.2)
    go false own is more = (e, in_first e entries, own)

pub ok_is : {E : Type 0} (P : Output → Type 0) (out : Output) (result : Result Output E) → P out → IfOk result (λ output. output ≡ out) → IfOk result P
ok_is P out (Ok output) h is = subst P (sym is) h
ok_is P out (Err e) h is = tt

module _ (hash : HashKind) (v : View) (out : Output) (is : IsOutputOfView hash v out) where
  pub plan_refused : (e : EditError) → Misspells out e → PlanViewCauses hash v e
  plan_refused error.EmptyPathComponent c = absurd c
  plan_refused (error.FindExistingObject id) c = absurd c
  plan_refused (error.ObjectKind id actual) c = absurd c
  plan_refused (error.Decode id) c = absurd c
  plan_refused error.IsTree c = absurd c
  plan_refused (error.InvalidFilename filename kind id source) c = absurd c
  plan_refused (error.MissingObject filename kind id) c = absurd c
  plan_refused (error.WriteObject field) c = (c.0, out, is, c.1)
  plan_refused (error.Store fault) c = absurd c
  plan_refused error.NoMemory c = tt

  pub all_refused : (result : Result Output EditError) → IfErr result (Misspells out) → IfErr result (PlanViewCauses hash v)
  all_refused (Ok output) c = tt
  all_refused (Err e) c = plan_refused e c
