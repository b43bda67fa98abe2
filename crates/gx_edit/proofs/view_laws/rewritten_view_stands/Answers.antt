use Rattle.std.proofs.Common.{sym, subst}
use Rattle.gx_edit.specs.StandsForMap.{StandsForMap}
use Rattle.gx_edit.specs.View.{only, names_of}
use Rattle.gx_edit.proofs.FreshView.{directory_stands}
use Rattle.gx_edit.proofs.WrittenEntries.{written_entries}
use Rattle.gx_edit.proofs.view_laws.rewritten_view_stands.Goals as goal

pub returns : goal.returns
returns c = λ hash old new v m entries s w h.
    let r = h.represents in
    subst (λ es. StandsForMap hash new (only (names_of es)) m) (sym (written_entries hash old v entries w m r.directory s r.stands.canonical (λ q. sym (r.stands.leaves q)))) (directory_stands hash new _ m h)
