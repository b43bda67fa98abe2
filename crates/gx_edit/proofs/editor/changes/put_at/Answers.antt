use Rattle.std.proofs.Common.{arith}
use Rattle.gx_edit.specs.Nodes.{put}
use Rattle.gx_edit.proofs.PlaceLemmas.{ok_changed, err_unchanged}
use Rattle.gx_edit.proofs.editor.changes.put_at.Goals as goal

pub returns-clause-ok : goal.returns-clause-ok
returns-clause-ok c = ok_changed c.put.result c.args.nodes.now.items c.args.at c.put.new.self c.index_mut.result.now (put c.args.name.now c.args.item) (let w = c.requires in let o = c.args.nodes.now.ok.0 in omega (arith, w, o)) c.index_mut.ensures.value c.put.ensures.ok

pub returns-clause-err : goal.returns-clause-err
returns-clause-err c = err_unchanged c.put.result c.args.nodes.now.items c.args.at c.put.new.self c.index_mut.result.now (let w = c.requires in let o = c.args.nodes.now.ok.0 in omega (arith, w, o)) c.index_mut.ensures.value c.put.ensures.err
