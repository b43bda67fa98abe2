use Rattle.std.proofs.Common.{◌≢◌, ◌<◌, subst, Some, Ok, Err}
use Rattle.gx_object.specs.PartsRead.{PartsRead}
use Rattle.gx_object.specs.TagFronts.{End, next_of}
use Rattle.gx_object.specs.TagItems.{item_of, GivesPart, parts_left, read_before}
use Rattle.gx_object.proofs.TagSteps.{at_end, fewer, next_none, next_some, reached, some_left}
use Rattle.gx_object.proofs.tag.iter.TagRefIterIterator.next.Goals as goal

pub invariant_of-self : goal.invariant_of-self
invariant_of-self c =
    let it = c.self.inside in
    let new = c.in-Some in
    reached it.hash (next_of it.stage) it.bytes.now it.rest.now (item_of new.token) new.rest.now (next_of new.stage) c.self.invariant new.ensures.item

pub returns-in-Some : goal.returns-in-Some
returns-in-Some c =
    let it = c.self.inside in
    let new = c.in-Some in
    let after : PartsRead = read_before it.hash it.bytes.now (next_of new.stage) in
    record {
      steps = subst (λ (v : PartsRead). GivesPart v (Some (Ok new.token)) after) c.self.view_is (next_some it.hash (next_of it.stage) it.bytes.now it.rest.now new.token new.rest.now (next_of new.stage) new.ensures.kind new.ensures.item c.self.invariant);
      goes = record {
        on = λ _. (tt, tt, subst (λ (v : PartsRead). parts_left after < parts_left v) c.self.view_is (fewer it.hash it.bytes.now (next_of it.stage) it.rest.now (item_of new.token) new.rest.now (next_of new.stage) new.ensures.item));
        keeps = tt;
        rests = λ _. tt;
      };
    }

pub returns-in-None : goal.returns-in-None
returns-in-None c =
    let it = c.self.inside in
    let going : next_of it.stage ≢ End = λ e. c.in_default.not-End (at_end it.stage e) in
    let error = c.bad_line-error.result in
    let after : PartsRead = read_before it.hash it.bytes.now End in
    record {
      steps = subst (λ (v : PartsRead). GivesPart v (Some (Err error)) after) c.self.view_is (next_none it.hash (next_of it.stage) it.bytes.now it.rest.now error going c.in-None.ensures.item c.bad_line-error.ensures c.self.invariant);
      goes = record { on = λ _. (tt, tt, subst (λ (v : PartsRead). parts_left after < parts_left v) c.self.view_is (some_left it.hash it.bytes.now (next_of it.stage) going)); keeps = tt; rests = λ _. tt };
    }
