use Rattle.std.proofs.Common.{◌≡◌, ◌∙◌, [], true, sym, ap, subst, Some, Option, IsSome, if◌then◌else◌}
use Rattle.gx_walk.specs.Graph.{IsGraphOf, history_in}
use Rattle.gx_walk.specs.History.{Node, cut, followed, parents_in}
use Rattle.gx_hash.specs.ObjectIds.{has_id}
use Rattle.gx_walk.specs.Reaching.{IsReaching}
use Rattle.gx_walk.proofs.FoundLemmas.{added_again, listed_more, read_more}
use Rattle.gx_walk.proofs.ReachLemmas.{reaching_old, reaching_new, not_old}
use Rattle.gx_walk.proofs.TellLemmas.{told_all, told_then}
use Rattle.gx_walk.proofs.commit.reach.visit.Goals as goal

pub returns-then-not-branch-clause-kept : goal.returns-then-not-branch-clause-kept
returns-then-not-branch-clause-kept g c =
    told_all (g.S.Meanings.state c.args.store.now) _ (λ h ids it.
    reaching_old h (followed h c.args.parents (has_id c.args.shallow.now)) ids c.args.found.now.set c.args.pending.now.items c.args.id it c.insert.new.self c.in_ok-insert.ensures.ok
    (not_old _ (sym c.in_ok-insert.ensures.new ∙ c.if-not-branch.true)))

pub returns-then-not-branch-clause-listed : goal.returns-then-not-branch-clause-listed
returns-then-not-branch-clause-listed g c = λ same x.
    same x ∙ sym (added_again c.args.found.now.set c.insert.new.self c.args.id c.in_ok-insert.ensures.ok (not_old _ (sym c.in_ok-insert.ensures.new ∙ c.if-not-branch.true)) x)

pub returns-then-not-branch-clause-read : goal.returns-then-not-branch-clause-read
returns-then-not-branch-clause-read g c = λ read x h.
    read x (sym (added_again c.args.found.now.set c.insert.new.self c.args.id c.in_ok-insert.ensures.ok (not_old _ (sym c.in_ok-insert.ensures.new ∙ c.if-not-branch.true)) x) ∙ h)

pub returns-clause-kept : goal.returns-clause-kept
returns-clause-kept g c =
    told_then (g.S.Meanings.state c.args.store.now) (λ h. IsGraphOf h c.load.new.graph) _ (λ h of ids it.
    let at = of c.args.id c.in_ok-load.ensures.ok in
    let next = c.followed_in.ensures ∙ ap (λ (o : Option Node). if has_id c.args.shallow.now c.args.id then [] else cut c.args.parents (parents_in o)) (sym at) in
    subst (IsReaching h (followed h c.args.parents (has_id c.args.shallow.now)) ids c.insert.new.self) (sym c.in_ok-extend_from_slice.ensures.items)
    (reaching_new h (followed h c.args.parents (has_id c.args.shallow.now)) ids c.args.found.now.set c.args.pending.now.items c.args.id it c.insert.new.self c.in_ok-insert.ensures.ok c.followed_in.result.now next
    (subst (λ o. IsSome o) (sym at) c.in_ok-load.ensures.ok)))
    c.in_ok-load.ensures.graph

pub returns-clause-listed : goal.returns-clause-listed
returns-clause-listed g c = λ same x.
    ap (λ w. has_id w x) c.in_ok-push.ensures.items ∙ listed_more c.args.found.now.set c.insert.new.self c.args.id c.in_ok-insert.ensures.ok c.args.found.now.list.items same x

pub returns-clause-read : goal.returns-clause-read
returns-clause-read g c =
    read_more c.args.found.now.set c.insert.new.self c.args.id c.in_ok-insert.ensures.ok c.args.graph.now c.load.new.graph c.in_ok-load.ensures.keeps c.in_ok-load.ensures.ok
