-- What is read of objects.
use Rattle.std.specs.Prelude.{◌≡◌, ℕ, List, Option, IfSome, option_map}
use Rattle.bstr.specs.BStr.{bstr_bytes}
use Rattle.gx_object.specs.Message.{body_of, title_of}
use Rattle.gx_object.specs.ParentIds.{GivesParent}
use Rattle.gx_object.specs.PartsRead.{PartsRead}
use Rattle.gx_object.specs.declared.message.MessageRef.{MessageRef}
use Rattle.gix.specs.AttachedObjects.{of_id}
use Rattle.gix.specs.declared.object.commit.parent_ids.CommitParentIds.{CommitParentIds}
use Rattle.gix.specs.declared.repository.Repository.{Repository}
use Rattle.gix.specs.declared.types.Id.{Id}

-- the title and the body are those of the message (git-commit(1), "Discussion")
abbrev pub HasParts : List ℕ → MessageRef → Type 0
HasParts message parts =
    (bstr_bytes parts.title ≡ title_of message) × (option_map bstr_bytes parts.body ≡ body_of message)

-- the ids that are to be given, and the repository that they are of
abbrev pub ids_to_give : {S : Type 0} → CommitParentIds S → PartsRead × Repository S
ids_to_give it = (it.inner, it.repo.now)

-- A call gives the next parent's id, which is of the repository.
pub record GivesParentId {S : Type 0} (old : CommitParentIds S) (item : Option (Id S))
    (new : CommitParentIds S) : Type 0 where
  pub next : GivesParent (ids_to_give old).0 (option_map (λ (id : Id S). (of_id id).id) item) (ids_to_give new).0
  pub attached : IfSome item (λ id. (of_id id).repository ≡ (ids_to_give old).1)
  pub same : (ids_to_give new).1 ≡ (ids_to_give old).1
