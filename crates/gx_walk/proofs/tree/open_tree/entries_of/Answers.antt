use Rattle.gx_walk.proofs.tree.open_tree.entries_of.Goals as goal

pub returns-in-Err-Decode : goal.returns-in-Err-Decode
returns-in-Err-Decode c = λ entries s. let only = c.in-Err-Decode.ensures.only entries s in cc
