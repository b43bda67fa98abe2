use Rattle.std.proofs.Common.{◌≡◌, ◌∙◌, ap, refl, subst, IfOk, IfSome}
use Rattle.std.specs.FinMap.{contains_key}
use Rattle.gx_store.specs.State.{IfFault, IsUnreadable}
use Rattle.gx_store.specs.declared.error.What.TheVariants as what
use Rattle.gx_refs.specs.Shown.{stored_name}
use Rattle.gix.specs.Logs.{log_exists_query}
use Rattle.gix.specs.Repository.{held_by, store_of}
use Rattle.gix.specs.Space.{space_of}
use Rattle.gix.proofs.AskingLemmas.{asking_means, cause_of_part}
use Rattle.gix.proofs.repository.Repository.log_exists.Goals as goal

pub returns : goal.returns
returns g c =
    let held = held_by g.S.Meanings.state c.args.self.now in
    let name = c.args.name.now in
    let told = (g.S.Meanings.state (store_of c.args.self.now)).references in
    let query = log_exists_query name in
    let place = c.in_ok-stored.ensures ∙ ap (λ space. stored_name space name) c.namespace_of.ensures in
    let found = subst (λ n. IfOk c.log_exists.result (λ there. IfSome told (λ refs. there ≡ contains_key refs.logs n))) place c.log_exists.ensures.found in
    let fault = subst (λ n. IfFault c.log_exists.result (IsUnreadable held.store (what.Name n))) place c.log_exists.ensures.fault in
    asking_means query held c.log_exists.result found
    (cause_of_part query (λ e. refl) held.settings held.store c.log_exists.result (what.Name (stored_name (space_of held.settings) name)) refl fault)
