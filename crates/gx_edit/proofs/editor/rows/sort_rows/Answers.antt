use Rattle.std.proofs.Common.{rules}
use Rattle.std.specs.Ordering.{is_lt}
use Rattle.std.proofs.lemmas.List.Sorted.{ranks_by, answers_always}
use Rattle.gx_edit.specs.Written.{entry_cmp}
use Rattle.gx_edit.proofs.WrittenLists.{entry_total}
use Rattle.gx_edit.proofs.editor.rows.sort_rows.Goals as goal

pub returns-clause-sorted : goal.returns-clause-sorted
returns-clause-sorted c = c.sort_unstable_by.ensures.sorted (λ x y. is_lt (entry_cmp x y)) (ranks_by entry_total (λ x. x)) (answers_always _ _ _ (λ f a r g h. search rules))
