use Rattle.std.proofs.Common.{Some, ap, subst, sym, ◌∙◌}
use Rattle.std.specs.Prelude.{bytes_eq}
use Rattle.gx_object.specs.TreeIter.{GivesEntry}
use Rattle.gix.proofs.NamedEntries.{passed_by, found_now, none_unless_ok, none_at_end}
use Rattle.gix.proofs.object.tree.read.first_named.Goals as goal

pub returns-in_default : goal.returns-in_default
returns-in_default c = none_unless_ok _ _ _ _ c.in-Some.entry c.in_default.not-Ok c.loop-entry.invariant c.in-Some.ensures.steps

pub returns-then-eq : goal.returns-then-eq
returns-then-eq c = found_now _ _ _ _ c.in-Ok.entry c.loop-entry.invariant
    (subst (λ r. GivesEntry c.loop-entry.entry-iterator (Some r) c.next.new.self) c.in-Ok.is c.in-Some.ensures.steps)
    (ap (λ w. bytes_eq w c.args.name.now) (sym c.as_bytes.ensures) ∙ sym c.eq.ensures ∙ c.if-eq.true)

pub loop-entry-preserved : goal.loop-entry-preserved
loop-entry-preserved c = passed_by _ _ _ _ c.in-Ok.entry c.loop-entry.invariant
    (subst (λ r. GivesEntry c.loop-entry.entry-iterator (Some r) c.next.new.self) c.in-Ok.is c.in-Some.ensures.steps)
    (ap (λ w. bytes_eq w c.args.name.now) (sym c.as_bytes.ensures) ∙ sym c.eq.ensures ∙ c.if-eq.false)

pub returns : goal.returns
returns c = none_at_end _ _ _ _ c.loop-entry.invariant c.in-None.ensures.steps
