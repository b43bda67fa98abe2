use Rattle.std.proofs.Common.{subst, arith}
use Rattle.std.specs.Prelude.{OnOk, slice_set}
use Rattle.gx_edit.specs.Nodes.{Changes, places_of, linked}
use Rattle.gx_edit.specs.declared.editor.item.Item.{Item}
use Rattle.gx_edit.proofs.PlaceLemmas.{ok_changed, err_unchanged}
use Rattle.gx_edit.proofs.editor.changes.link_at.Goals as goal

pub returns-clause-ok : goal.returns-clause-ok
returns-clause-ok c =
    subst (λ (i : Item). OnOk c.link.result (Changes (places_of c.args.nodes.now.items) c.args.at (linked c.args.name.now c.args.inner i) (places_of (slice_set c.args.nodes.now.items c.args.at c.link.new.self)))) c.new_tree.ensures
    (ok_changed c.link.result c.args.nodes.now.items c.args.at c.link.new.self c.index_mut.result.now (linked c.args.name.now c.args.inner c.new_tree.result) (let w = c.requires.within in let o = c.args.nodes.now.ok.0 in omega (arith, w, o)) c.index_mut.ensures.value c.link.ensures.ok)

pub returns-clause-err : goal.returns-clause-err
returns-clause-err c = err_unchanged c.link.result c.args.nodes.now.items c.args.at c.link.new.self c.index_mut.result.now (let w = c.requires.within in let o = c.args.nodes.now.ok.0 in omega (arith, w, o)) c.index_mut.ensures.value c.link.ensures.err
