use Rattle.std.proofs.Common.{rules, ◌≡◌, ◌++◌, ◌∷◌, [], length, arith}
use Rattle.gx_object.proofs.TreeReading.{reads_more, reads_all}
use Rattle.gx_object.proofs.tree.decode.read_entries.Goals as goal

pub loop-rest-preserved : goal.loop-rest-preserved
loop-rest-preserved c =
    let added : c.push.new.self.items ≡ c.loop-rest.entries.items ++ c.in_ok-entry.entry ∷ [] = search rules in
    rw added (reads_more _ _ _ c.in_ok-entry.behind.now _ c.in_ok-entry.entry c.loop-rest.invariant c.in_ok-entry.ensures)

pub returns : goal.returns
returns c =
    let none : length c.loop-rest.rest.now ≡ 0 = grind (arith, c.loop-rest-test.ensures, c.loop-rest-test.false) in
    rw c.from_vec.ensures (reads_all _ _ _ _ c.loop-rest.invariant none)
