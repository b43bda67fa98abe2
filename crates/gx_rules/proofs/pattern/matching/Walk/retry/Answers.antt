use Rattle.gx_rules.specs.Pattern.{letters}
use Rattle.gx_rules.proofs.PatternMatching.{retry_onward, retry_back}
use Rattle.gx_rules.proofs.pattern.matching.Walk.retry.Goals as goal

pub returns-in-Some-clause-gives : goal.returns-in-Some-clause-gives
returns-in-Some-clause-gives c =
    let walk = c.args.self in
    let all = letters walk.pattern.now in
    let behind = letters walk.behind_star.now in
    let from_is = c.in-Some.ensures.cases.0 in
    λ no. record {
      sound = λ k within match. match;
      onward = retry_onward all behind walk.name.now walk.from_star.now _ c.in-Some.name.now from_is no;
      back = retry_back all behind walk.name.now walk.from_star.now _ c.in-Some.name.now from_is;
    }
