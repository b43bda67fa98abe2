use Rattle.std.proofs.Common.{◌≡◌, ◌++◌, ◌∷◌, [], sym, subst, IfSome, None, option_copied}
use Rattle.std.specs.FinMap.{get}
use Rattle.gx_refs.specs.Shown.{prefix_of, stored_name}
use Rattle.gix.specs.Found.{AreFound, IsFound}
use Rattle.gix.proofs.FoundLemmas.{found_more, found_same, none_of, some_of}
use Rattle.gix.proofs.reference.iter.reading.keep_found.Goals as goal

pub returns-in_default-clause-found : goal.returns-in_default-clause-found
returns-in_default-clause-found g c = λ names found.
    let state = g.S.Meanings.state c.args.store.now in
    let space = prefix_of (option_copied c.args.space) in
    found_same space state.hash state.references names c.args.list.now.items c.args.name.now found
    (none_of c.in_ok-reference.field-0 (IfSome state.references (λ refs. get refs.targets (stored_name space c.args.name.now) ≡ None)) c.in_ok-reference.ensures.none c.in_default.not-Some)

pub returns-clause-found : goal.returns-clause-found
returns-clause-found g c = λ names found.
    let state = g.S.Meanings.state c.args.store.now in
    let space = prefix_of (option_copied c.args.space) in
    subst (AreFound space state.hash state.references (names ++ c.args.name.now ∷ [])) (sym c.in_ok-push.ensures.items)
    (found_more space state.hash state.references names c.args.list.now.items c.args.name.now c.in-Some.reference found
    (some_of c.in_ok-reference.field-0 c.in-Some.reference (IsFound space state.hash state.references c.args.name.now) c.in_ok-reference.ensures.some c.in-Some.is))
