use Rattle.std.proofs.Common.{◌∙◌, sym}
use Rattle.std.proofs.lemmas.Result.{err_from_is_err_and}
use Rattle.gx_hash.specs.ObjectIds.{has_id}
use Rattle.gx_walk.proofs.DescribeLemmas.{described_ok, described_err, own_causes}
use Rattle.gx_walk.proofs.describe.function.describe.Goals as goal

pub returns-in_err-read_commit-clause-causes : goal.returns-in_err-read_commit-clause-causes
returns-in_err-read_commit-clause-causes g c =
    let p = err_from_is_err_and c.from_residual.result c.from_residual.ensures.1 in
    rw (p.1, p.2) (own_causes (g.S.Meanings.state c.args.store.now) (has_id c.args.shallow.now) c.args.options c.args.id
    c.in_err-read_commit.field-0.0 c.in_err-read_commit.ensures.causes)

pub returns-clause-ok : goal.returns-clause-ok
returns-clause-ok g c =
    described_ok (g.S.Meanings.state c.args.store.now) (record { id = c.args.id; parents = c.parents.result; shallow = c.from_vec.result }) c.args.options c.args.shallow.now
    c.parents.ensures (c.from_vec.ensures ∙ c.in_ok-to_vec.ensures.items_if_clones_equal (λ x y e. e)) c.by_nearest.result
    (sym c.in_ok-name.ensures ∙ c.in_default.is) c.by_nearest.ensures.ok

pub returns-clause-causes : goal.returns-clause-causes
returns-clause-causes g c =
    described_err (g.S.Meanings.state c.args.store.now) (record { id = c.args.id; parents = c.parents.result; shallow = c.from_vec.result }) c.args.options c.args.shallow.now
    c.parents.ensures (c.from_vec.ensures ∙ c.in_ok-to_vec.ensures.items_if_clones_equal (λ x y e. e)) c.by_nearest.result
    (sym c.in_ok-name.ensures ∙ c.in_default.is) c.by_nearest.ensures.causes
