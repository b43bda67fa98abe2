use Rattle.std.proofs.Common.{◌≡◌, subst}
use Rattle.gx_walk.specs.Above.{IsSetOf}
use Rattle.gx_walk.proofs.AboveLemmas.{set_pop}
use Rattle.gx_walk.proofs.tree.above.Above.leave.Goals as goal

pub invariant_of-self : goal.invariant_of-self
invariant_of-self c =
    set_pop c.pop.new.self.items c.self.inside.set.keys c.remove.new.self.keys c.in-Some.id
    (subst (λ xs. IsSetOf xs c.self.inside.set.keys) c.in-Some.ensures.items c.self.invariant) c.remove.ensures.updates.0
