use Rattle.std.proofs.Common.{inl}
use Rattle.std.proofs.lemmas.Result.{err_from_is_err_and}
use Rattle.gx_edit.specs.Path.{components}
use Rattle.gx_edit.specs.Nodes.{places_of}
use Rattle.gx_edit.proofs.PushLemmas.{within_places, within_nodes}
use Rattle.gx_edit.proofs.RemoveLemmas.{stops_spare}
use Rattle.gx_edit.proofs.DropLemmas.{leads_within, stops_makes, inside_ok, inside_spared, inside_err, inside_refused}
use Rattle.gx_edit.proofs.editor.removals.drop_inside.Goals as goal

pub take_entry-requires : goal.take_entry-requires
take_entry-requires g c = within_nodes c.reach.new.nodes c.in-Some.last (leads_within (g.S.Meanings.state c.args.store.now) (places_of c.args.nodes.now.items) c.args.from (components c.args.path.now) (places_of c.reach.new.nodes.items) c.in-Some.last c.in-Some.end.now (rw c.in-Some.is at c.in_ok-reach.ensures.ok))

pub returns-in_err-reach-clause-refused : goal.returns-in_err-reach-clause-refused
returns-in_err-reach-clause-refused g c =
    let p = err_from_is_err_and c.from_residual.result c.from_residual.ensures.1 in
    rw (p.1, p.2) (inl c.in_err-reach.ensures.refused)

pub returns-in-None-clause-ok : goal.returns-in-None-clause-ok
returns-in-None-clause-ok g c = stops_makes (g.S.Meanings.state c.args.store.now) (places_of c.args.nodes.now.items) c.args.from (components c.args.path.now) (places_of c.reach.new.nodes.items) (rw c.in-None.is at c.in_ok-reach.ensures.ok)

pub returns-in-None-clause-spared : goal.returns-in-None-clause-spared
returns-in-None-clause-spared g c = λ is. stops_spare (g.S.Meanings.state c.args.store.now) (places_of c.args.nodes.now.items) (places_of c.reach.new.nodes.items) c.args.from (components c.args.path.now) (rw c.in-None.is at c.in_ok-reach.ensures.ok)

pub returns-in-Some-clause-ok : goal.returns-in-Some-clause-ok
returns-in-Some-clause-ok g c = inside_ok c.take_entry.result (g.S.Meanings.state c.args.store.now) (places_of c.args.nodes.now.items) (places_of c.reach.new.nodes.items) c.args.from (components c.args.path.now) c.in-Some.last c.in-Some.end.now (rw c.in-Some.is at c.in_ok-reach.ensures.ok) (places_of c.take_entry.new.nodes.items) (within_places c.args.nodes.now c.args.from c.requires.within) c.take_entry.ensures.ok

pub returns-in-Some-clause-spared : goal.returns-in-Some-clause-spared
returns-in-Some-clause-spared g c = inside_spared c.take_entry.result (g.S.Meanings.state c.args.store.now) (places_of c.args.nodes.now.items) (places_of c.reach.new.nodes.items) c.args.from (components c.args.path.now) c.in-Some.last c.in-Some.end.now (rw c.in-Some.is at c.in_ok-reach.ensures.ok) c.args.spare c.take_entry.ensures.spared

pub returns-in-Some-clause-err : goal.returns-in-Some-clause-err
returns-in-Some-clause-err g c = inside_err c.take_entry.result (g.S.Meanings.state c.args.store.now) (places_of c.args.nodes.now.items) (places_of c.reach.new.nodes.items) c.args.from (components c.args.path.now) c.in-Some.last c.in-Some.end.now (rw c.in-Some.is at c.in_ok-reach.ensures.ok) (places_of c.take_entry.new.nodes.items) c.take_entry.ensures.err

pub returns-in-Some-clause-refused : goal.returns-in-Some-clause-refused
returns-in-Some-clause-refused g c = inside_refused c.take_entry.result (g.S.Meanings.state c.args.store.now) (places_of c.args.nodes.now.items) (places_of c.reach.new.nodes.items) c.args.from (components c.args.path.now) c.in-Some.last c.in-Some.end.now (rw c.in-Some.is at c.in_ok-reach.ensures.ok) c.args.spare c.take_entry.ensures.refused
