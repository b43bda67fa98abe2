-- The edit of a commit's reference.
use Rattle.std.specs.Prelude.{Bool, true, false, ℕ, List, [], ◌∷◌, codes, Some}
use Rattle.std.specs.Str.{bytes_eq}
use Rattle.gx_hash.specs.declared.oid.ObjectId.{ObjectId}
use Rattle.gx_store.specs.declared.target.Target.TheVariants as target
use Rattle.gx_refs.specs.declared.edit.Change.TheVariants.{Update}
use Rattle.gx_refs.specs.declared.edit.LogChange.{LogChange}
use Rattle.gx_refs.specs.declared.edit.PreviousValue.{PreviousValue}
use Rattle.gx_refs.specs.declared.edit.PreviousValue.TheVariants.{MustNotExist, MustExistAndMatch, ExistingMustMatch}
use Rattle.gx_refs.specs.declared.edit.RefEdit.{RefEdit}
use Rattle.gx_refs.specs.declared.edit.RefLog.TheVariants.{AndReference}
use Rattle.gx_refs.specs.declared.terms.Terms.{Terms}
use Rattle.gix.specs.declared.settings.Settings.{Settings}
use Rattle.gix.specs.CommitRequest.{CommitRequest}
use Rattle.gix.specs.EditReferences.{terms_in}
use Rattle.gix.specs.Log.{commit_log_message}

-- the object is asked for, or, but of `HEAD`, absence
abbrev pub matched : Bool → ObjectId → PreviousValue
matched true id = MustExistAndMatch (target.Object id)
matched false id = ExistingMustMatch (target.Object id)

-- A commit without a parent makes its reference. One with a parent moves it from the first parent, or makes it, if
-- another name than `HEAD` was given. (gix, "commit_as"; git-update-ref(1), "<old-oid>")
abbrev pub asked_of : List ℕ → List ObjectId → PreviousValue
asked_of name [] = MustNotExist
asked_of name (parent ∷ parents) = matched (bytes_eq name (codes "HEAD")) parent

-- what the logs are told: the message of the commit, and nothing is forced
abbrev pub log_of : CommitRequest → LogChange
log_of r =
    record { mode = AndReference; force_create_reflog = false; message = commit_log_message r.parents r.message }

-- A commit is named by the end of its reference's chain, and each log on the way tells of it where a line is due.
-- (git-symbolic-ref(1), git-config(1) "core.logAllRefUpdates")
abbrev pub edit_of : CommitRequest → ObjectId → RefEdit
edit_of r id = record {
  change = Update (log_of r) (asked_of r.reference r.parents) (target.Object id);
  name = r.reference;
  deref = true;
}

-- the list of that edit alone
abbrev pub edits_of : CommitRequest → ObjectId → List RefEdit
edits_of r id = edit_of r id ∷ []

-- what it is made under: the committer signs
abbrev pub commit_terms : Settings → CommitRequest → Terms
commit_terms settings r = terms_in settings (Some r.committer)
