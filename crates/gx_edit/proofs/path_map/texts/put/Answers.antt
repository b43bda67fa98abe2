use Rattle.std.proofs.Common.{ap, ◌∙◌}
use Rattle.std.specs.List.{list_any}
use Rattle.std.specs.Str.{bytes_eq}
use Rattle.gx_edit.specs.PathTexts.{rows_of}
use Rattle.gx_edit.proofs.EditedLemmas.{put_made}
use Rattle.gx_edit.proofs.path_map.texts.put.Goals as goal

pub returns-clause-ok : goal.returns-clause-ok
returns-clause-ok c =
    put_made c.args.path.now c.deref.result.now (rows_of c.args.map.now) (λ q. ap (list_any (bytes_eq q)) c.deref.ensures.value ∙ c.in_ok-below.ensures q)
    (rows_of c.insert_text.new.map) (rows_of c.remove_texts.new.map) (rows_of c.remove_above.new.map) c.args.leaf c.in_ok-insert_text.ensures.ok c.remove_texts.ensures c.remove_above.ensures
