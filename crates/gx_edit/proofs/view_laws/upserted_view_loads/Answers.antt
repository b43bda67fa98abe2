use Rattle.gx_edit.specs.StandsForMap.{item_of}
use Rattle.gx_edit.proofs.LoadedPaths.{upserted_loaded}
use Rattle.gx_edit.proofs.view_laws.upserted_view_loads.Goals as goal

pub returns : goal.returns
returns c = λ hash load v p leaf q there. upserted_loaded hash load v p (item_of leaf) q there
