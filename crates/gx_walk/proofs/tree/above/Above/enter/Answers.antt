use Rattle.std.proofs.Common.{◌≡◌, ◌∙◌, ◌∷◌, ◌++◌, [], sym, ap, subst}
use Rattle.gx_walk.specs.Above.{IsSetOf}
use Rattle.gx_walk.proofs.AboveLemmas.{set_push, found_in}
use Rattle.gx_walk.proofs.AskedLemmas.{not_new}
use Rattle.gx_walk.proofs.tree.above.Above.enter.Goals as goal

pub invariant_of-self-then-is_new : goal.invariant_of-self-then-is_new
invariant_of-self-then-is_new c =
    subst (λ xs. IsSetOf xs c.insert.new.self.keys) (sym (c.push_reserved.ensures.items ∙ ap (λ xs. xs ++ c.args.id ∷ []) c.in_ok-reserve.ensures.items))
    (set_push c.self.inside.ids.items c.self.inside.set.keys c.insert.new.self.keys c.args.id c.self.invariant
    (sym (found_in c.self.inside.ids.items c.self.inside.set.keys c.args.id c.self.invariant) ∙ not_new _ (sym c.in_ok-is_new.ensures.added ∙ c.if-is_new.true))
    c.in_ok-is_new.ensures.updates.0)
