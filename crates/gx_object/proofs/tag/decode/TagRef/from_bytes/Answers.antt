use Rattle.gx_object.proofs.OwnedCommits.{tag_id}
use Rattle.gx_object.proofs.TagParts.{only_tag}
use Rattle.gx_object.proofs.tag.decode.TagRef.from_bytes.Goals as goal

pub returns-clause-only : goal.returns-clause-only
returns-clause-only c = only_tag c.args.hash c.args.bytes.now c.read_tag.result c.read_tag.ensures

pub returns-clause-id : goal.returns-clause-id
returns-clause-id c = tag_id c.args.hash c.args.bytes.now _ c.read_tag.result c.read_tag.ensures
