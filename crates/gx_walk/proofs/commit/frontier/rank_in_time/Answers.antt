use Rattle.std.proofs.Common.{◌≡◌, ◌∙◌, Some, Option, sym, ap, subst, rules, to_z, of_z, w64}
use Rattle.std.specs.Option.{is_some}
use Rattle.std.proofs.lemmas.Bool.{iff_false}
use Rattle.gx_walk.specs.History.{History, Node, time_in, time_of}
use Rattle.gx_walk.specs.Rank.{rank_of}
use Rattle.gx_walk.specs.Read.{node_of}
use Rattle.gx_walk.specs.Walk.{IsInTime}
use Rattle.gx_walk.specs.Frontier.{IsReadFor}
use Rattle.gx_walk.proofs.TellLemmas.{told_then}
use Rattle.gx_walk.proofs.commit.frontier.rank_in_time.Goals as goal

pub returns-then-not-is_in_time : goal.returns-then-not-is_in_time
returns-then-not-is_in_time g c =
    let s = g.S.Meanings.state c.args.store.now in
    let found = λ (h : History). h c.args.id ≡ Some (node_of c.in_ok-commit.commit) in
    let time : c.in_ok-commit.commit.time ≡ to_z w64 (of_z w64 c.in_ok-commit.commit.time) = search rules in
    record {
      rank = tt;
      older = told_then s found (λ h. ¬ IsInTime c.args.sorting (time_of h c.args.id))
          (λ h at in_time. iff_false c.is_in_time.ensures c.if-not-is_in_time.true (subst (IsInTime c.args.sorting) time (subst (λ (o : Option Node). IsInTime c.args.sorting (time_in o)) at in_time))) c.in_ok-commit.ensures.ok;
      read = told_then s found (λ h. IsReadFor c.args.sorting h c.args.id) (λ h at. λ _. ap is_some at) c.in_ok-commit.ensures.ok;
      causes = tt;
    }

pub returns : goal.returns
returns g c =
    let s = g.S.Meanings.state c.args.store.now in
    let found = λ (h : History). h c.args.id ≡ Some (node_of c.in_ok-commit.commit) in
    let time : c.in_ok-commit.commit.time ≡ to_z w64 (of_z w64 c.in_ok-commit.commit.time) = search rules in
    let same : to_z w64 (of_z w64 c.rank.result) ≡ rank_of c.args.sorting c.in_ok-commit.commit.time = search rules in
    record {
      rank = told_then s found (λ h. (to_z w64 (of_z w64 c.rank.result) ≡ rank_of c.args.sorting (time_of h c.args.id)) × IsInTime c.args.sorting (time_of h c.args.id))
          (λ h at. (
            same ∙ ap (λ (o : Option Node). rank_of c.args.sorting (time_in o)) (sym at),
            subst (λ (o : Option Node). IsInTime c.args.sorting (time_in o)) (sym at) (subst (IsInTime c.args.sorting) (sym time) (c.is_in_time.ensures.0 c.if-not-is_in_time.false)),
          )) c.in_ok-commit.ensures.ok;
      older = tt;
      read = told_then s found (λ h. IsReadFor c.args.sorting h c.args.id) (λ h at. λ _. ap is_some at) c.in_ok-commit.ensures.ok;
      causes = tt;
    }
