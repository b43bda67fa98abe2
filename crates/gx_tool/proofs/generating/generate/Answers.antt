use Rattle.std.proofs.Common.{refl}
use Rattle.gx_tool.proofs.SummaryLemmas.{broken_memory, broken_store, told}
use Rattle.gx_tool.proofs.generating.generate.Goals as goal

pub returns : goal.returns
returns g c = told _ _ _ _ _ c.in-Ok.ensures.ok (rw c.object_hash-hash.ensures at c.tell.ensures)

pub returns-in-Err-Store : goal.returns-in-Err-Store
returns-in-Err-Store g c = broken_store _ _ _ _ (rw c.in-Err-Store.field-0-is at c.in-Err-Store.ensures.err) refl

pub returns-in-Err-NoMemory : goal.returns-in-Err-NoMemory
returns-in-Err-NoMemory g c = broken_memory _ _ _ (rw c.in-Err-NoMemory.field-0-is at c.in-Err-NoMemory.ensures.err) refl
