use Rattle.std.proofs.Common.{subst, List}
use Rattle.gx_hash.specs.declared.kind.HashKind.{HashKind}
use Rattle.gx_edit.specs.Editor.{view_of}
use Rattle.gx_edit.specs.Nodes.{places_of, view_at}
use Rattle.gx_edit.specs.Written.{IsOutputOfView}
use Rattle.gx_edit.specs.declared.editor.nodes.Node.{Node}
use Rattle.gx_edit.proofs.EditorWrites.{represents_view}
use Rattle.gx_edit.proofs.editor.Editor.write.Goals as goal

pub returns-clause-represents : goal.returns-clause-represents
returns-clause-represents g c =
    let s = g.S.Meanings.state c.args.store.now in
    let o = c.in_ok-output.output in
    let here : IsOutputOfView c.args.self.now.hash (view_of c.args.self.now) o = subst (λ (ns : List Node). IsOutputOfView c.args.self.now.hash (view_at (places_of ns) 0) o) c.deref.ensures.value c.in_ok-output.ensures.ok.output in
    let out : IsOutputOfView s.hash (view_of c.args.self.now) o = subst (λ (h : HashKind). IsOutputOfView h (view_of c.args.self.now) o) c.requires here in
    represents_view c.writing_adds.ensures c.added_is_found.ensures c.found_stays.ensures (view_of c.args.self.now) c.args.protect s (g.S.Meanings.state c.write.new.store) o out c.in_ok-id.id c.in_ok-id.ensures.ok
