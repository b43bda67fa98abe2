-- What the definitions of edits and of listings say of one another.
use Rattle.std.specs.Prelude.{◌≡◌, ℕ, List, [], ◌∷◌, Option, Some, is_some}
use Rattle.std.specs.FinMap.{FinMap, get}
use Rattle.std.specs.List.{flat_map}
use Rattle.gx_rules.specs.Name.{name_cmp, IsFullName}
use Rattle.gx_object.specs.declared.encode.Field.{Field}
use Rattle.gx_store.specs.Change.{refs_after}
use Rattle.gx_store.specs.State.{RefState}
use Rattle.gx_store.specs.declared.target.Target.{Target}
use Rattle.gx_refs.specs.Chain.{AreDistinct}
use Rattle.gx_refs.specs.Edits.{EditsReferences, all_changes}
use Rattle.gx_refs.specs.EditCauses.{EditRefusal, CanSign, MayBeMade, AreMade}
use Rattle.gx_refs.specs.Finding.{IsListing}
use Rattle.gx_refs.specs.Plan.{touched_names, IsPlan}
use Rattle.gx_refs.specs.Shown.{stored_name}
use Rattle.gx_refs.specs.declared.edit.RefEdit.{RefEdit}
use Rattle.gx_refs.specs.declared.error.RefError.{RefError}
use Rattle.gx_refs.specs.declared.error.RefError.TheVariants as refusal
use Rattle.gx_refs.specs.declared.terms.Terms.{Terms}
use Rattle.gx_refs.specs.declared.plan.Plan.{Plan}

-- no name is touched twice
abbrev pub TouchOnce : List Plan → Type 0
TouchOnce plans = AreDistinct (flat_map touched_names plans)

-- Where no name is touched twice, one change a touched name makes what the edits make.
abbrev pub ChangesMakeEdits : Type 0
ChangesMakeEdits =
    (terms : Terms) (plans : List Plan) (refs : RefState) → TouchOnce plans
    → EditsReferences terms plans refs (refs_after (all_changes terms refs.logs plans) refs)

-- Edits make one result.
abbrev pub OneResult : Type 0
OneResult =
    (terms : Terms) (plans : List Plan) (old one other : RefState) → EditsReferences terms plans old one
    → EditsReferences terms plans old other → one ≡ other

-- Where the references are told, an edit has one plan.
abbrev pub OnePlan : Type 0
OnePlan =
    (space : List ℕ) (refs : RefState) (edit : RefEdit) (one other : Plan) → IsPlan space (Some refs) edit one
    → IsPlan space (Some refs) edit other → one ≡ other

-- Edits are made in one way.
abbrev pub OneMade : Type 0
OneMade =
    (terms : Terms) (edits : List RefEdit) (old one other : RefState) → AreMade terms edits old one
    → AreMade terms edits old other → one ≡ other

-- Edits that may be made are not refused.
abbrev pub MadeIsNotRefused : Type 0
MadeIsNotRefused =
    (terms : Terms) (refs : RefState) (edits : List RefEdit) (error : RefError)
    → MayBeMade terms (Some refs) edits → ¬ EditRefusal terms (Some refs) edits error

-- An edit by itself meets no other.
abbrev pub OneMeetsNone : Type 0
OneMeetsNone =
    (terms : Terms) (told : Option RefState) (edit : RefEdit) (name : List ℕ)
    → ¬ EditRefusal terms told (edit ∷ []) (refusal.DuplicateEdit name)

-- Where the committer can be written, each line is signed.
abbrev pub SignerSigns : Type 0
SignerSigns =
    (terms : Terms) (told : Option RefState) (edits : List RefEdit) → CanSign terms.committer
    → (¬ EditRefusal terms told edits refusal.MissingCommitter)
    × ((field : Field) → ¬ EditRefusal terms told edits (refusal.Unwritable field))

-- What is listed under a namespace goes by which references are there in it, and by nothing else. (gitnamespaces(7))
abbrev pub ListsItsOwn : Type 0
ListsItsOwn =
    (space prefix : List ℕ) (one other : FinMap name_cmp Target) (names others : List (List ℕ))
    → ((name : List ℕ) → IsFullName name
    → is_some (get one (stored_name space name)) ≡ is_some (get other (stored_name space name)))
    → IsListing space prefix one names → IsListing space prefix other others → names ≡ others
