use Rattle.gx_edit.proofs.LoadedMaps.{loaded_has_map}
use Rattle.gx_edit.proofs.view_laws.loaded_trees_have_maps.Goals as goal

pub returns : goal.returns
returns c = λ hash content load v m path id loads s way. loaded_has_map hash content load loads v m path id s way
