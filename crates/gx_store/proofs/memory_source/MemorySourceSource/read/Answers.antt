use Rattle.std.proofs.Common.{arith, ap, sym, ◌∙◌, ℕ}
use Rattle.std.proofs.lemmas.List.{length-drop, length-take}
use Rattle.std.proofs.lemmas.Grind.{common_steps}
use Rattle.gx_store.specs.MemoryEnds.{MemorySourceState}
use Rattle.gx_store.proofs.OutsideLemmas.{read_part}
use Rattle.gx_store.proofs.memory_source.MemorySourceSource.read.Goals as goal

pub returns-clause-taken : goal.returns-clause-taken
returns-clause-taken c =
    ap (λ (s : MemorySourceState). s.left) (sym c.self.view_is) ∙ read_part c.self.inside.bytes.items c.args.buf.now c.copy_from_slice.new.self c.self.inside.place c.min-count.result (grind (arith, length-drop {A = ℕ}, length-take {A = ℕ})) (grind (arith, common_steps))
