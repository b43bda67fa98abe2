use Rattle.std.proofs.Common.{◌∙◌, append-nil, refl}
use Rattle.gx_walk.specs.Simple.{IsNamed, IsNextInfo, IsWhole}
use Rattle.gx_walk.proofs.NextLemmas.{told_at, named_at, walk_is}
use Rattle.gx_walk.proofs.commit.simple.SimpleIterator.next.Goals as goal

pub returns-in-Ok-Some-clause-steps : goal.returns-in-Ok-Some-clause-steps
returns-in-Ok-Some-clause-steps g c =
    let here = c.self.invariant.2 c.if-self.false in
    let next = rw c.in-Ok-Some.field-0-is at c.in-Ok-Some.ensures.next in
    let listed = rw c.in-Ok-Some.field-0-is at c.in-Ok-Some.ensures.listed in
    rw (← c.self.view_is) (
      c.if-self.false,
      (walk_is _ _ _ _ _ _ _ _ listed c.if-self.false, c.advance.ensures.asks),
      told_at (g.S.Meanings.state c.self.inside.store.now) c.self.inside.options c.self.inside.course here
          (λ history. IsNextInfo history c.self.inside.options c.advance.new.course.frontier.asked.items c.self.inside.course.listed.items c.in-Ok-Some.info) next,
    )

pub returns-in-Ok-None-clause-steps : goal.returns-in-Ok-None-clause-steps
returns-in-Ok-None-clause-steps g c =
    let here = c.self.invariant.2 c.if-self.false in
    let end = rw c.in-Ok-None.field-0-is at c.in-Ok-None.ensures.end in
    let listed = rw c.in-Ok-None.field-0-is at c.in-Ok-None.ensures.listed in
    rw (← c.self.view_is) (
      (walk_is _ _ _ _ _ _ _ _ (listed ∙ append-nil _) refl, c.advance.ensures.asks),
      λ on. told_at (g.S.Meanings.state c.self.inside.store.now) c.self.inside.options c.self.inside.course here
          (λ history. IsWhole history c.self.inside.options c.advance.new.course.frontier.asked.items c.self.inside.course.listed.items) end,
    )

pub returns-in-Err-clause-steps : goal.returns-in-Err-clause-steps
returns-in-Err-clause-steps g c =
    let here = c.self.invariant.2 c.if-self.false in
    rw (← c.self.view_is) (
      c.if-self.false,
      (walk_is _ _ _ _ _ _ _ _ c.in-Err.ensures.unlisted refl, c.advance.ensures.asks),
      named_at (g.S.Meanings.state c.self.inside.store.now) c.self.inside.options c.self.inside.course here
          (λ id history. IsNamed history c.self.inside.options c.advance.new.course.frontier.asked.items c.self.inside.course.listed.items id) _ c.in-Err.ensures.causes,
    )
