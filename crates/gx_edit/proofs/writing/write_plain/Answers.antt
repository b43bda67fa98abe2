use Rattle.std.proofs.Common.{subst}
use Rattle.std.proofs.lemmas.Result.{err_from_is_err_and}
use Rattle.gx_edit.specs.Output.{IsOutputOf}
use Rattle.gx_edit.specs.PathList.{map_of}
use Rattle.gx_edit.proofs.OutputLemmas.{represents_map, plan_cause}
use Rattle.gx_edit.proofs.writing.write_plain.Goals as goal

pub returns-in_err-output-clause-causes : goal.returns-in_err-output-clause-causes
returns-in_err-output-clause-causes g c =
    let p = err_from_is_err_and c.from_residual.result c.from_residual.ensures.1 in
    rw (p.1, p.2) (plan_cause c.args.map.now c.args.protect (g.S.Meanings.state c.args.store.now) _ c.in_err-output.ensures.causes)

pub returns-clause-represents : goal.returns-clause-represents
returns-clause-represents g c =
    let s = g.S.Meanings.state c.args.store.now in
    represents_map c.writing_adds.ensures c.added_is_found.ensures (map_of c.args.map.now) c.args.protect s (g.S.Meanings.state c.write.new.store) c.in_ok-output.output (subst (λ h. IsOutputOf h (map_of c.args.map.now) c.in_ok-output.output) c.hash_kind.ensures c.in_ok-output.ensures.ok) c.write.result c.write.ensures.ok
