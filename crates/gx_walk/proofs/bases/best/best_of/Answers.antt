use Rattle.std.proofs.Common.{◌∙◌, sym, ap, subst}
use Rattle.std.specs.List.{filter}
use Rattle.gx_hash.specs.ObjectIds.{has_id}
use Rattle.gx_walk.specs.Best.{AreUnmarked, IsBestOf, has_child, rank_at}
use Rattle.gx_walk.specs.Graph.{history_in}
use Rattle.gx_walk.proofs.BestLemmas.{best_from}
use Rattle.gx_walk.proofs.bases.best.best_of.Goals as goal

pub returns : goal.returns
returns c =
    let h = history_in c.args.graph.now in
    let both = c.in_ok-both.ensures ∙ ap (filter (has_id c.args.of_one.now.set)) c.deref.ensures.value in
    subst (λ w. IsBestOf h (has_id c.args.shallow.now) w c.from_vec.result) both
    (best_from h (has_id c.in_ok-marked.marked) c.in_ok-both.both.items c.in_ok-keys.keys
    (subst (λ w. AreUnmarked (rank_at h) (has_id c.in_ok-marked.marked) w c.in_ok-keys.keys) c.deref-3.ensures.value c.in_ok-keys.ensures)
    c.in_ok-ids_of.ensures.ordered (has_id c.args.shallow.now) c.from_vec.result
    (λ q. c.in_ok-marked.ensures q ∙ ap (λ w. has_child h (has_id c.args.shallow.now) w q) c.deref-2.ensures.value) (c.from_vec.ensures ∙ c.in_ok-ids_of.ensures.ids))
