use Rattle.gix.proofs.NamedEntries.{NoneNamed}
use Rattle.gix.proofs.object.tree.read.first_named.Given as goal

abbrev pub invariant-loop-entry : goal.invariant-loop-entry
invariant-loop-entry l = NoneNamed l.fn.entries.text l.name l.entry-iterator
