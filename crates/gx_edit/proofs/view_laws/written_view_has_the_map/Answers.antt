use Rattle.gx_edit.proofs.WrittenIds.{written_map}
use Rattle.gx_edit.proofs.view_laws.written_view_has_the_map.Goals as goal

pub returns : goal.returns
returns c = λ hash old new v m output d objects s out f apart adds among ids. written_map hash old new v m output d objects c.found_stays.ensures c.added_is_found.ensures s out f apart adds among ids
