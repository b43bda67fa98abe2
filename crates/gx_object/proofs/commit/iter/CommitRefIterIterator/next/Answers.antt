use Rattle.std.proofs.Common.{◌≢◌, ◌+◌, ◌<◌, subst, Some, Ok, Err}
use Rattle.gx_object.specs.CommitItems.{item_of, GivesPart, parts_left}
use Rattle.gx_object.specs.CommitNext.{CommitPlace, End, next_of}
use Rattle.gx_object.specs.PartsRead.{PartsRead}
use Rattle.gx_object.proofs.CommitIteration.{read_at, place_after, gives, goes_on, refuses, fewer_left, some_left}
use Rattle.gx_object.proofs.IterLemmas.{at_end}
use Rattle.gx_object.proofs.commit.iter.CommitRefIterIterator.next.Goals as goal

pub invariant_of-self : goal.invariant_of-self
invariant_of-self c other =
    let it = c.self.inside in
    let old : CommitPlace = record { hash = it.hash; bytes = it.bytes.now; rest = it.rest.now; next = next_of it.stage } in
    let going : old.next ≢ End = λ e. c.in_default.not-End (at_end it.stage e) in
    let new = c.in-Some in
    goes_on old it.given new.token new.rest.now (next_of new.stage) (c.self.invariant going) new.ensures.kind new.ensures.item

pub returns-in-Some : goal.returns-in-Some
returns-in-Some c =
    let it = c.self.inside in
    let old : CommitPlace = record { hash = it.hash; bytes = it.bytes.now; rest = it.rest.now; next = next_of it.stage } in
    let going : old.next ≢ End = λ e. c.in_default.not-End (at_end it.stage e) in
    let new = c.in-Some in
    let after : PartsRead = read_at (place_after old new.rest.now (next_of new.stage)) (it.given + 1) in
    record {
      steps = subst (λ (v : PartsRead). GivesPart v (Some (Ok new.token)) after) c.self.view_is (gives old it.given new.token new.rest.now (next_of new.stage) (c.self.invariant going) going new.ensures.kind new.ensures.item);
      goes = record {
        on = λ _. (tt, tt, subst (λ (v : PartsRead). parts_left after < parts_left v) c.self.view_is (fewer_left old it.given (item_of new.token) new.rest.now (next_of new.stage) (c.self.invariant going) going new.ensures.item));
        keeps = tt;
        rests = λ _. tt;
      };
    }

pub returns-in-None : goal.returns-in-None
returns-in-None c =
    let it = c.self.inside in
    let old : CommitPlace = record { hash = it.hash; bytes = it.bytes.now; rest = it.rest.now; next = next_of it.stage } in
    let going : old.next ≢ End = λ e. c.in_default.not-End (at_end it.stage e) in
    let error = c.bad_line-error.result in
    let after : PartsRead = read_at (place_after old old.rest End) it.given in
    record {
      steps = subst (λ (v : PartsRead). GivesPart v (Some (Err error)) after) c.self.view_is (refuses old it.given error (c.self.invariant going) going c.in-None.ensures.item c.bad_line-error.ensures);
      goes = record { on = λ _. (tt, tt, subst (λ (v : PartsRead). parts_left after < parts_left v) c.self.view_is (some_left old it.given going)); keeps = tt; rests = λ _. tt };
    }
