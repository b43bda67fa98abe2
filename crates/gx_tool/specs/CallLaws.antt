-- What is known of the repository's calls, each of which is lawful.
use Rattle.std.specs.Prelude.{◌≡◌, ℕ, List, Option, Some, codes, true}
use Rattle.gx_object.specs.declared.signature.Signature.{Signature}
use Rattle.gx_refs.specs.EditCauses.{MayBeMade}
use Rattle.gx_refs.specs.declared.edit.RefEdit.{RefEdit}
use Rattle.gix.specs.Admission.{IsValidCommit}
use Rattle.gix.specs.EditReferences.{edit_references_meaning, terms_in}
use Rattle.gix.specs.Asking.{asks}
use Rattle.gix.specs.CommitRequest.{CommitRequest}
use Rattle.gix.specs.Logs.{log_query}
use Rattle.gix.specs.Machine.{commit_edits_meaning}
use Rattle.gix.specs.Meaning.{IsLawful, Admits}
use Rattle.gix.specs.References.{is_relative_path, references_query}

-- The laws of the calls that requests ask for.
pub record CallLaws : Type 0 where
  pub commit : (r : CommitRequest) → IsLawful (commit_edits_meaning r)
  pub commit_admits : (r : CommitRequest)
      → Admits (commit_edits_meaning r) (λ settings state. IsValidCommit settings r state)
  pub log : (name : List ℕ) → IsLawful (asks (log_query name))
  pub references : (prefix : List ℕ) → IsLawful (asks (references_query prefix))
  pub edits : (committer : Option Signature) (edits : List RefEdit)
      → IsLawful (edit_references_meaning committer edits)
  pub edits_admit : (committer : Option Signature) (edits : List RefEdit)
      → Admits (edit_references_meaning committer edits)
      (λ settings state. MayBeMade (terms_in settings committer) (Some state.references) edits)
  pub refs_is_relative : is_relative_path (codes "refs/") ≡ true
