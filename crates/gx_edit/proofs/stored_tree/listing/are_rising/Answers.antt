use Rattle.std.proofs.Common.{true≢false, refl, sym, ap, ◌∙◌}
use Rattle.std.specs.Ordering.{is_lt}
use Rattle.gx_edit.proofs.ListingLemmas.{rise_more, rise_last, rise_less, rise_not, rise_none}
use Rattle.gx_edit.proofs.stored_tree.listing.are_rising.Goals as goal

pub returns-then-not-is_lt : goal.returns-then-not-is_lt
returns-then-not-is_lt c = (
  λ e. absurd (true≢false (sym e)),
  λ h. absurd (rise_not c.loop-first.rest.now c.in-Some.others.now c.in-Some.first.now c.in-Some-first.second.now c.in-Some.ensures.cases.0 c.in-Some-first.ensures.value (ap is_lt (sym c.compare_keys.ensures) ∙ sym c.is_lt.ensures ∙ c.if-not-is_lt.true) (c.loop-first.invariant.behind h)),
)

pub loop-first-preserved-else-not-is_lt : goal.loop-first-preserved-else-not-is_lt
loop-first-preserved-else-not-is_lt c = record {
  before = λ h. c.loop-first.invariant.before (rise_more c.loop-first.rest.now c.in-Some.others.now c.in-Some.first.now c.in-Some-first.second.now c.in-Some.ensures.cases.0 c.in-Some-first.ensures.value (ap is_lt (sym c.compare_keys.ensures) ∙ sym c.is_lt.ensures ∙ c.if-not-is_lt.false) h);
  behind = λ h. rise_less c.loop-first.rest.now c.in-Some.others.now c.in-Some.first.now c.in-Some.ensures.cases.0 (c.loop-first.invariant.behind h);
}

pub loop-first-preserved : goal.loop-first-preserved
loop-first-preserved c = record {
  before = λ h. c.loop-first.invariant.before (rise_last c.loop-first.rest.now c.in-Some.others.now c.in-Some.first.now c.in-Some.ensures.cases.0 c.in_default-first.ensures.value h);
  behind = λ h. rise_less c.loop-first.rest.now c.in-Some.others.now c.in-Some.first.now c.in-Some.ensures.cases.0 (c.loop-first.invariant.behind h);
}

pub returns : goal.returns
returns c = (λ _. c.loop-first.invariant.before (rise_none c.loop-first.rest.now c.in_default.ensures.cases), λ _. refl)
