use Rattle.std.proofs.Common.{◌≡◌, ◌∙◌, map, Ok, sym, subst}
use Rattle.gx_hash.specs.ObjectId.{id_from_hex}
use Rattle.gx_walk.proofs.ParentLemmas.{read_start, read_next, read_end}
use Rattle.gx_walk.proofs.commit.read.parent_ids.Goals as goal

pub loop-id-init : goal.loop-id-init
loop-id-init c = λ t s. read_start c.args.commit.now.text _ t.parents _ (c.into_iter-id-iterator.ensures.into_iter_gives ∙ c.parent_ids-id-items.ensures) c.new-parents.ensures.items

pub loop-id-preserved : goal.loop-id-preserved
loop-id-preserved c = λ t s. read_next _ _ _ t _ _ c.in-Some.id s (c.loop-id.invariant t s) c.in-Some.ensures.steps c.spellings_read_back.ensures.digits c.in_ok-push.ensures.items

pub returns : goal.returns
returns c = λ t s. subst (λ w. map id_from_hex t.parents ≡ map Ok w) (sym c.from_vec.ensures) (read_end _ _ _ t _ s (c.loop-id.invariant t s) c.in-None.ensures.steps)
