use Rattle.std.proofs.Common.{sym}
use Rattle.gx_hash.proofs.EmptyObjects.{empty_tree_sha1, empty_tree_sha256}
use Rattle.gx_hash.proofs.oid.ObjectId.empty_tree.Goals as goal

pub returns-in-Sha1-clause-id : goal.returns-in-Sha1-clause-id
returns-in-Sha1-clause-id c = rw c.in-Sha1.is (sym empty_tree_sha1)

pub returns-in-Sha256-clause-id : goal.returns-in-Sha256-clause-id
returns-in-Sha256-clause-id c = rw c.in-Sha256.is (sym empty_tree_sha256)
