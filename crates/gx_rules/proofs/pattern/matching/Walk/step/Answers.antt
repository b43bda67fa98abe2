use Rattle.std.proofs.Common.{◌≡◌, length, eqb-true, refl, sym, ap, ◌∙◌, inl, arith}
use Rattle.std.proofs.lemmas.Bool.{eqb-false}
use Rattle.gx_rules.specs.Pattern.{letters}
use Rattle.gx_rules.specs.PatternReading.{letter_of, taken}
use Rattle.gx_rules.proofs.PatternMatching.{both_end, ended, star_is, star_onward, star_back, needs_byte, takes_none, byte_onward, byte_back, byte_sound}
use Rattle.gx_rules.proofs.pattern.matching.Walk.step.Goals as goal

pub returns-then-is_empty-clause-gives : goal.returns-then-is_empty-clause-gives
returns-then-is_empty-clause-gives g c =
    let walk = c.args.self in
    let empty : length walk.name.now ≡ 0 = eqb-true (length walk.name.now) 0 (sym c.if-is_empty.ensures) in
    (λ _. inl (both_end (letters walk.pattern.now) walk.name.now c.in_default.ensures.letters empty), λ _. refl)

pub returns-in_default-clause-gives : goal.returns-in_default-clause-gives
returns-in_default-clause-gives g c =
    let walk = c.args.self in
    let more = eqb-false (length walk.name.now) 0 (sym c.if-is_empty.ensures) in
    c.retry.ensures.gives (ended (letters walk.pattern.now) walk.name.now c.in_default.ensures.letters (omega arith))

pub returns-then-is_bare-clause-gives : goal.returns-then-is_bare-clause-gives
returns-then-is_bare-clause-gives g c =
    let walk = c.args.self in
    let all = letters walk.pattern.now in
    let rest = letters c.in-Some.rest.now in
    let behind = letters walk.behind_star.now in
    let star = star_is (letter_of c.in-Some.letter) all rest c.in-Some.ensures.letters (cc) in
    record {
      sound = λ k within match. match;
      onward = star_onward all rest behind walk.name.now walk.from_star.now star c.requires;
      back = star_back all rest behind walk.name.now walk.from_star.now star;
    }

pub returns-in_default-split_first-clause-gives : goal.returns-in_default-split_first-clause-gives
returns-in_default-split_first-clause-gives g c =
    let walk = c.args.self in
    let none = c.in_default-split_first.ensures.cases in
    c.retry-in_default-split_first.ensures.gives (needs_byte (letter_of c.in-Some.letter) (letters walk.pattern.now) (letters c.in-Some.rest.now) walk.name.now c.in-Some.ensures.letters (cc) (omega arith))

pub returns-in-Some-take_piece-clause-gives : goal.returns-in-Some-take_piece-clause-gives
returns-in-Some-take_piece-clause-gives g c =
    let walk = c.args.self in
    let all = letters walk.pattern.now in
    let rest = letters c.in-Some-take_piece.pattern.now in
    let behind = letters walk.behind_star.now in
    let byte = c.in-Some-split_first.byte.now in
    let more = c.in-Some-split_first.name.now in
    let took = ap (λ first. taken first byte) c.in-Some.ensures.letters ∙ c.in-Some-take_piece.ensures.taken in
    let name_is = c.in-Some-split_first.ensures.cases.0 in
    record {
      sound = byte_sound all rest behind byte walk.name.now more walk.from_star.now took name_is c.requires;
      onward = byte_onward all rest behind byte walk.name.now more walk.from_star.now took name_is;
      back = byte_back all rest behind byte walk.name.now more walk.from_star.now took name_is;
    }

pub returns-in-None-clause-gives : goal.returns-in-None-clause-gives
returns-in-None-clause-gives g c =
    let walk = c.args.self in
    c.retry-in-None.ensures.gives (takes_none (letter_of c.in-Some.letter) (letters walk.pattern.now) (letters c.in-Some.rest.now) c.in-Some-split_first.byte.now walk.name.now c.in-Some-split_first.name.now c.in-Some.ensures.letters (cc) c.in-None.ensures.taken c.in-Some-split_first.ensures.cases.0)

pub returns-in-None-clause-spends : goal.returns-in-None-clause-spends
returns-in-None-clause-spends g c =
    let told = c.in-None.ensures.cost in
    let shorter = c.in-Some.ensures.shorter in
    let ticked = c.tick.ensures in
    c.retry-in-None.ensures.spends c.args.steps.now c.take_piece.new.steps (omega (arith, told, shorter, ticked))
