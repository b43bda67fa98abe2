-- What contracts see of objects and ids: what they are, and the repository that they are of.
use Rattle.std.specs.Prelude.{ℕ, List, codes}
use Rattle.gx_hash.specs.HashKind.{kind_of}
use Rattle.gx_hash.specs.declared.oid.ObjectId.{ObjectId}
use Rattle.gx_object.specs.PartsRead.{ObjectText, object_text}
use Rattle.gx_object.specs.declared.kind.Kind.{Kind}
use Rattle.gx_object.specs.declared.kind.Kind.TheVariants as kind
use Rattle.gix.specs.declared.repository.Repository.{Repository}
use Rattle.gix.specs.declared.types.Blob.{Blob}
use Rattle.gix.specs.declared.types.Commit.{Commit}
use Rattle.gix.specs.declared.types.Id.{Id}
use Rattle.gix.specs.declared.types.Object.{Object}
use Rattle.gix.specs.declared.types.ObjectDetached.{ObjectDetached}
use Rattle.gix.specs.declared.types.Tag.{Tag}
use Rattle.gix.specs.declared.types.Tree.{Tree}

-- An object, whole, and the repository that it is of. (gitglossary(7), "object")
pub record Attached (S : Type 0) : Type 0 where
  pub object : ObjectDetached
  pub repository : Repository S

-- the object of these parts
abbrev pub attached : {S : Type 0} → ObjectId → Kind → List ℕ → Repository S → Attached S
attached id kind bytes repository =
    record { object = record { id = id; kind = kind; bytes = bytes }; repository = repository }

-- the object that a value of each type is
abbrev pub of_object : {S : Type 0} → Object S → Attached S
of_object object = attached object.id object.kind object.bytes object.repo.now

-- a blob is of that kind
abbrev pub of_blob : {S : Type 0} → Blob S → Attached S
of_blob blob = attached blob.id kind.Blob blob.bytes blob.repo.now

-- so is a tree of its
abbrev pub of_tree : {S : Type 0} → Tree S → Attached S
of_tree tree = attached tree.id kind.Tree tree.bytes tree.repo.now

-- so is a commit of its
abbrev pub of_commit : {S : Type 0} → Commit S → Attached S
of_commit commit = attached commit.id kind.Commit commit.bytes commit.repo.now

-- so is a tag of its
abbrev pub of_tag : {S : Type 0} → Tag S → Attached S
of_tag tag = attached tag.id kind.Tag tag.bytes tag.repo.now

-- An id, and the repository that it is of.
pub record AttachedId (S : Type 0) : Type 0 where
  pub id : ObjectId
  pub repository : Repository S

-- the id of these parts
abbrev pub attached_id : {S : Type 0} → ObjectId → Repository S → AttachedId S
attached_id id repository = record { id = id; repository = repository }

-- that of the type
abbrev pub of_id : {S : Type 0} → Id S → AttachedId S
of_id id = attached_id id.inner id.repo.now

-- an object's bytes, in a repository of the kind of its id
abbrev pub text_of : {S : Type 0} → Attached S → ObjectText
text_of attached = object_text (kind_of attached.object.id) attached.object.bytes

-- what an object of the kind is called where it is shown
abbrev pub shown_name : Kind → List ℕ
shown_name kind.Blob = codes "Blob"
shown_name kind.Tree = codes "Tree"
shown_name kind.Commit = codes "Commit"
shown_name kind.Tag = codes "Tag"
