use Rattle.gx_object.proofs.ReadBack.{HasOwnIds, own_commit_back}
use Rattle.gx_object.proofs.laws.commit_reads_back.Goals as goal

pub returns : goal.returns
returns c =
    let own : HasOwnIds c.args.commit.now = record { tree = c.ids_have_digits.ensures.tree; parents = c.ids_have_digits.ensures.parents } in
    let other : HasOwnIds c.args.copy.now = record { tree = c.ids_have_digits-2.ensures.tree; parents = c.ids_have_digits-2.ensures.parents } in
    own_commit_back c.args.commit.now c.args.copy.now own other
