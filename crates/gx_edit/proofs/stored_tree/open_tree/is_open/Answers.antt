use Rattle.std.proofs.Common.{◌≡◌, inr, subst, rules}
use Rattle.gx_edit.specs.OpenTree.{IsOneOf}
use Rattle.gx_edit.proofs.ListingLemmas.{one_at}
use Rattle.gx_edit.proofs.stored_tree.open_tree.is_open.Goals as goal

pub returns-in-Some : goal.returns-in-Some
returns-in-Some c e =
    let same : c.in-Some.marked.now.id ≡ c.args.id.now = search rules in
    inr (subst (λ i. IsOneOf i c.args.levels.now) same (one_at c.args.levels.now c.args.mark c.in-Some.marked.now c.in-Some.ensures.lookup.3.0 c.in-Some.ensures.lookup.1))
