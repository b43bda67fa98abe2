use Rattle.std.proofs.Common.{arith, ap, length}
use Rattle.std.proofs.lemmas.Result.{err_from_is_err_and}
use Rattle.gix.specs.Streams.{source_state}
use Rattle.gix.proofs.StreamLemmas.{read_failed, too_many}
use Rattle.gix.proofs.repository.write_stream.read_all.Goals as goal

pub returns-then-branch-clause-causes : goal.returns-then-branch-clause-causes
returns-then-branch-clause-causes g c =
    let state = source_state g.I.Source.left g.I.Source.faults in
    let last = rw c.if-branch.true at c.in_ok-read_one.ensures.read in
    too_many (state c.args.from.now) (state c.reads.from) (state c.read_one.new.from) c.reads.bytes.items last.0 c.reads.invariant.takes (omega (arith, c.reads-test.false, c.len.ensures)) c.reads.invariant.few last.1

pub returns-in_err-read_onto-clause-causes : goal.returns-in_err-read_onto-clause-causes
returns-in_err-read_onto-clause-causes g c =
    let state = source_state g.I.Source.left g.I.Source.faults in
    let p = err_from_is_err_and c.from_residual-in_err-read_onto.result c.from_residual-in_err-read_onto.ensures.1 in
    rw (p.1, p.2)
    (read_failed (state c.args.from.now) (state c.reads.from) (state c.read_onto.new.from) c.reads.bytes.items c.make_room.new.bytes.items c.read_onto.new.bytes.items _ c.in_err-read_onto.field-0.0 c.reads.invariant.takes (omega (arith, ap length c.make_room.ensures)) c.reads.invariant.later c.in_err-read_onto.ensures.read)
