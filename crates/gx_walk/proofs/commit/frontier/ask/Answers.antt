use Rattle.std.proofs.Common.{◌≡◌, ◌∙◌, true, false, [], ◌∷◌, ◌++◌, refl, sym, ap, subst}
use Rattle.gx_hash.specs.ObjectIds.{has_id}
use Rattle.gx_walk.proofs.AskedLemmas.{Answers, asked_same, asked_more, asks_same, asks_one, not_new}
use Rattle.gx_walk.proofs.commit.frontier.ask.Goals as goal

pub returns-in_err-insert-clause-asked : goal.returns-in_err-insert-clause-asked
returns-in_err-insert-clause-asked g c = asked_same c.args.frontier.now _ c.requires.asked refl (λ q h. subst (λ w. has_id w q ≡ true) (sym c.in_err-insert.ensures.leaves) h)

pub returns-in_err-reserve-clause-asks : goal.returns-in_err-reserve-clause-asks
returns-in_err-reserve-clause-asks g c = asks_same g.F.Filter.admit_gives _ _ c.args.filter.now c.requires.asked.once c.reserve.ensures.items

pub returns-clause-asks : goal.returns-clause-asks
returns-clause-asks g c =
    let old = c.args.frontier.now.asked.items in
    let unseen : has_id c.args.frontier.now.seen c.args.id ≡ false = not_new _ (sym c.in_ok-insert.ensures.new ∙ c.if-not-branch.false) in
    let is : c.push_reserved.new.self.items ≡ old ++ (c.args.id, c.admit-answer.result) ∷ [] = c.push_reserved.ensures.items ∙ ap (λ (w : Answers). w ++ (c.args.id, c.admit-answer.result) ∷ []) c.reserve.ensures.items in
    let it = asked_more c.args.frontier.now (record { queue = c.args.frontier.now.queue; seen = c.insert.new.self; asked = c.push_reserved.new.self; count = c.args.frontier.now.count }) c.args.id c.admit-answer.result c.requires.asked unseen c.in_ok-insert.ensures.ok is in
    asks_one g.F.Filter.admit_gives old _ c.args.filter.now c.admit-answer.new.self c.args.id c.admit-answer.result is it.once c.admit-answer.ensures.gives

pub returns-clause-asked : goal.returns-clause-asked
returns-clause-asked g c =
    let old = c.args.frontier.now.asked.items in
    let unseen : has_id c.args.frontier.now.seen c.args.id ≡ false = not_new _ (sym c.in_ok-insert.ensures.new ∙ c.if-not-branch.false) in
    let is : c.push_reserved.new.self.items ≡ old ++ (c.args.id, c.admit-answer.result) ∷ [] = c.push_reserved.ensures.items ∙ ap (λ (w : Answers). w ++ (c.args.id, c.admit-answer.result) ∷ []) c.reserve.ensures.items in
    asked_more c.args.frontier.now _ c.args.id c.admit-answer.result c.requires.asked unseen c.in_ok-insert.ensures.ok is
