use Rattle.gx_edit.proofs.GroupLemmas.{front_group}
use Rattle.gx_edit.proofs.writing.groups.first_group.Goals as goal

pub returns : goal.returns
returns c = front_group c.args.at c.args.rows.now c.args.name.now c.split_at.result.0.now c.split_at.result.1.now c.requires.reach c.requires.some c.group_len.result c.group_len.ensures.within c.group_len.ensures.count c.split_at.ensures.front c.split_at.ensures.back
