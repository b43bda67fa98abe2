use Rattle.std.proofs.Common.{◌≡◌, ◌++◌, rules}
use Rattle.gx_edit.specs.PathTexts.{rows_of}
use Rattle.gx_edit.proofs.TextLemmas.{inserted}
use Rattle.gx_edit.proofs.LeafLemmas.{leaf_put}
use Rattle.gx_edit.proofs.stored_tree.leaves.insert_leaf.Goals as goal

pub returns : goal.returns
returns c =
    let text : c.extend_from_slice-2.new.self.items ≡ c.args.directory.now ++ c.args.entry.now.filename = search rules in
    leaf_put (rows_of c.args.leaves.now) (rows_of c.insert.new.self) (c.args.directory.now ++ c.args.entry.now.filename) (record { mode = c.args.entry.now.mode; id = c.args.entry.now.oid })
    (inserted c.args.leaves.now c.insert.new.self c.extend_from_slice-2.new.self (c.args.directory.now ++ c.args.entry.now.filename) (record { mode = c.args.entry.now.mode; id = c.args.entry.now.oid }) text c.in_ok-insert.ensures.updates)
