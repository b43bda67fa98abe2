use Rattle.std.proofs.Common.{◌∙◌, sym}
use Rattle.gx_edit.specs.Path.{components}
use Rattle.gx_edit.specs.Nodes.{places_of, view_at}
use Rattle.gx_edit.proofs.PushLemmas.{truncated}
use Rattle.gx_edit.proofs.WayLemmas.{drop_cause}
use Rattle.gx_edit.proofs.DropLemmas.{empty_cause}
use Rattle.gx_edit.proofs.editor.removals.drop_path.Goals as goal

pub returns-then-has_empty_name-clause-causes : goal.returns-then-has_empty_name-clause-causes
returns-then-has_empty_name-clause-causes g c = empty_cause (g.S.Meanings.state c.args.store.now) c.args.spare (view_at (places_of c.args.nodes.now.items) 0) (components c.args.path.now) (sym c.has_empty_name.ensures ∙ c.if-has_empty_name.true)

pub returns-in-Err-clause-err : goal.returns-in-Err-clause-err
returns-in-Err-clause-err g c = truncated c.args.nodes.now c.drop_named.new.nodes c.truncate.new.self.items c.len-len.result c.len-len.ensures c.truncate.ensures.items c.in-Err.ensures.err

pub returns-in-Err-clause-causes : goal.returns-in-Err-clause-causes
returns-in-Err-clause-causes g c = drop_cause (g.S.Meanings.state c.args.store.now) c.args.spare (view_at (places_of c.args.nodes.now.items) 0) (components c.args.path.now) c.in-Err.refusal (sym c.has_empty_name.ensures ∙ c.if-has_empty_name.false) c.in-Err.ensures.refused
