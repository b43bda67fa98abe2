use Rattle.std.proofs.Common.{◌∙◌, ◌++◌, ap, subst, IfSome}
use Rattle.gx_refs.specs.Finding.{IsListing}
use Rattle.gx_refs.specs.Listed.{KeepsWithin}
use Rattle.gx_refs.proofs.ListLemmas.{told_lists, cut_listing}
use Rattle.gx_refs.proofs.listing.iterate.Goals as goal

pub returns-clause-listing : goal.returns-clause-listing
returns-clause-listing g c =
    let under = c.in_ok-under.under in
    let names = c.in_ok-names.names in
    let from = c.deref.ensures.value ∙ c.in_ok-extend_from_slice.ensures.items ∙ ap (λ xs. xs ++ c.args.prefix.now) (c.in_ok-from.ensures.items ∙ c.prefix.ensures) in
    let kept = subst (λ ks. KeepsWithin under ks names) c.as_slice.ensures c.in_ok-names.ensures in
    cut_listing under c.args.prefix.now c.deref.result.now c.in_ok-stored.stored names from c.in_ok-stored.ensures.listing kept

pub returns-clause-ok : goal.returns-clause-ok
returns-clause-ok g c =
    let told = (g.S.Meanings.state c.args.store.now).references in
    let under = c.in_ok-under.under in
    let names = c.in_ok-names.names in
    let from = c.deref.ensures.value ∙ c.in_ok-extend_from_slice.ensures.items ∙ ap (λ xs. xs ++ c.args.prefix.now) (c.in_ok-from.ensures.items ∙ c.prefix.ensures) in
    let kept = subst (λ ks. KeepsWithin under ks names) c.as_slice.ensures c.in_ok-names.ensures in
    subst (λ s. IfSome told (λ refs. IsListing s c.args.prefix.now refs.targets names)) c.in_ok-under.ensures
    (told_lists under c.args.prefix.now c.deref.result.now told c.in_ok-stored.stored names from c.in_ok-stored.ensures.found kept)
