use Rattle.std.proofs.Common.{sym, subst, option_copied}
use Rattle.std.specs.List.{AllByRecursion}
use Rattle.gx_store.specs.Kinds.{IsTargetOfKind}
use Rattle.gx_store.specs.Listing.{IsListing}
use Rattle.gx_refs.specs.Shown.{prefix_of}
use Rattle.gx_refs.specs.declared.reference.Reference.{Reference}
use Rattle.gix.specs.Found.{AreFound}
use Rattle.gix.specs.Repository.{store_of}
use Rattle.gix.specs.References.{names_of}
use Rattle.gix.proofs.FoundLemmas.{found_listing, kinds_of, listed}
use Rattle.gix.proofs.reference.iter.reading.read_references.Goals as goal

pub returns-clause-kinds : goal.returns-clause-kinds
returns-clause-kinds g c =
    let state = g.S.Meanings.state (store_of c.args.repo.now) in
    let space = prefix_of (option_copied c.namespace_of-space.result) in
    subst (AllByRecursion (λ (reference : Reference). IsTargetOfKind state.hash reference.target)) (sym c.from_vec.ensures)
    (kinds_of space state.hash state.references c.as_slice.result.now c.in_ok-list.list.items c.in_ok-list.ensures.found)

pub returns-clause-ok : goal.returns-clause-ok
returns-clause-ok g c =
    let state = g.S.Meanings.state (store_of c.args.repo.now) in
    let space = prefix_of (option_copied c.namespace_of-space.result) in
    let found = subst (λ names. AreFound space state.hash state.references names c.in_ok-list.list.items) c.as_slice.ensures c.in_ok-list.ensures.found in
    let listing = listed space c.args.prefix.now state.hash state.references c.in_ok-names.names c.in_ok-list.list.items c.in_ok-names.ensures.ok found in
    rw (c.from_vec.ensures, sym c.namespace_of-space.ensures) listing

pub returns-clause-listing : goal.returns-clause-listing
returns-clause-listing g c =
    let state = g.S.Meanings.state (store_of c.args.repo.now) in
    let space = prefix_of (option_copied c.namespace_of-space.result) in
    let found = subst (λ names. AreFound space state.hash state.references names c.in_ok-list.list.items) c.as_slice.ensures c.in_ok-list.ensures.found in
    subst (λ list. IsListing c.args.prefix.now (names_of list)) (sym c.from_vec.ensures)
    (found_listing space c.args.prefix.now state.hash state.references c.in_ok-names.names c.in_ok-list.list.items c.in_ok-names.ensures.listing found)
