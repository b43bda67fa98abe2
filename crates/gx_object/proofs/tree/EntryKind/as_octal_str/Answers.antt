use Rattle.std.proofs.Common.{refl}
use Rattle.std.specs.Fmt.{digits}
use Rattle.gx_object.proofs.tree.EntryKind.as_octal_str.Goals as goal

pub returns-in-Tree : goal.returns-in-Tree
unfolding digits
returns-in-Tree c = rw c.in-Tree.is refl

pub returns-in-Blob : goal.returns-in-Blob
unfolding digits
returns-in-Blob c = rw c.in-Blob.is refl

pub returns-in-BlobExecutable : goal.returns-in-BlobExecutable
unfolding digits
returns-in-BlobExecutable c = rw c.in-BlobExecutable.is refl

pub returns-in-Link : goal.returns-in-Link
unfolding digits
returns-in-Link c = rw c.in-Link.is refl

pub returns-in-Commit : goal.returns-in-Commit
unfolding digits
returns-in-Commit c = rw c.in-Commit.is refl
