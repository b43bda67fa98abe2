-- The form `refs`.
use Rattle.std.proofs.Common.{◌≡◌, ◌∙◌, refl, sym, true≢false, ℕ, List, Option, Some, None, Ok, Err, true, false}
use Rattle.gx_store.specs.declared.error.StoreError.TheVariants.{Fault}
use Rattle.gx_store.specs.declared.error.What.{What}
use Rattle.gix.specs.References.{is_relative_path, listing_part}
use Rattle.gix.specs.declared.reference.iter.error.IterError.{IterError}
use Rattle.gix.specs.declared.reference.iter.error.IterError.TheVariants as error
use Rattle.gx_tool.specs.declared.executing.ExecuteError.TheVariants as no_reply
use Rattle.gx_tool.specs.declared.refusal.Refusal.{Refusal}
use Rattle.gx_tool.specs.CallLaws.{CallLaws}
use Rattle.gx_tool.specs.RefsForm.{IsValidPrefix, asked_prefix, refs_call, refs_tells}
use Rattle.gx_tool.proofs.CallLemmas.{Allowed, Lawful}

listing_refusal : (e : IterError) (refusal : Refusal) → refs_tells e ≡ Ok refusal → listing_part e ≡ None
listing_refusal error.RelativePath refusal told = refl
listing_refusal (error.Store fault) refusal told = cc
listing_refusal error.NoMemory refusal told = cc

listing_fault : (e : IterError) (fault : What) → refs_tells e ≡ Err (no_reply.Store fault) → listing_part e ≡ Some (Fault fault)
listing_fault error.RelativePath fault told = cc
listing_fault (error.Store other) fault told = cc
listing_fault error.NoMemory fault told = cc

pub refs_lawful : CallLaws → (prefix : Option (List ℕ)) → Lawful (refs_call prefix)
refs_lawful laws prefix = record { lawful = laws.references (asked_prefix prefix); refuses = listing_refusal; faults = listing_fault }

valid_is_relative : CallLaws → (prefix : Option (List ℕ)) → IsValidPrefix prefix → is_relative_path (asked_prefix prefix) ≡ true
valid_is_relative laws None valid = laws.refs_is_relative
valid_is_relative laws (Some prefix) valid = valid

pub refs_allowed : CallLaws → (prefix : Option (List ℕ)) → Allowed (refs_call prefix)
refs_allowed laws prefix = λ settings old new e refusal valid told refuses. true≢false (sym (valid_is_relative laws prefix valid) ∙ refuses.1.1)
