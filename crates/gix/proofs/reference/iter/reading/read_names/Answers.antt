use Rattle.std.proofs.Common.{take, option_copied}
use Rattle.std.proofs.lemmas.Result.{err_from_is_err_and}
use Rattle.gx_store.specs.State.{IsUnreadable}
use Rattle.gx_store.specs.declared.error.What.TheVariants as part
use Rattle.gx_refs.specs.Shown.{prefix_of, stored_name}
use Rattle.gix.proofs.FoundLemmas.{fault_among, one_more}
use Rattle.gix.proofs.reference.iter.reading.read_names.Goals as goal

pub loop-name-preserved : goal.loop-name-preserved
loop-name-preserved g c =
    let state = g.S.Meanings.state c.args.store.now in
    one_more (prefix_of (option_copied c.args.space)) state.hash state.references c.args.names.now c.keep_found.new.list.items c.loop-name.name-index c.name-item.result c.loop-name-test.true c.name-item.is
    (c.in_ok-keep_found.ensures.found (take c.loop-name.name-index c.args.names.now) c.loop-name.invariant)

pub returns-in_err-keep_found-clause-fault : goal.returns-in_err-keep_found-clause-fault
returns-in_err-keep_found-clause-fault g c =
    let state = g.S.Meanings.state c.args.store.now in
    let space = prefix_of (option_copied c.args.space) in
    let p = err_from_is_err_and c.from_residual-in_err-keep_found.result c.from_residual-in_err-keep_found.ensures.1 in
    rw (p.1, p.2) (fault_among c.args.names.now c.loop-name.name-index c.name-item.result (λ name. IsUnreadable state (part.Name (stored_name space name))) c.in_err-keep_found.field-0.0 c.loop-name-test.true c.name-item.is c.in_err-keep_found.ensures.fault)
