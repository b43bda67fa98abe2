use Rattle.std.proofs.Common.{rules, ◌≡◌, ◌∙◌, ap, Some, true, take, slice_get, get_or}
use Rattle.std.proofs.lemmas.Option.{slice_get-get_or}
use Rattle.std.specs.FinMap.{contains_key}
use Rattle.gx_store.specs.Slots.{refs_of}
use Rattle.gx_store.proofs.ConflictLemmas.{reference_there}
use Rattle.gx_store.proofs.conflict.reference_above.Goals as goal

pub returns-then-has_target-clause-some : goal.returns-then-has_target-clause-some
returns-then-has_target-clause-some c =
    let byte : get_or c.args.name.now c.args.at 0 ≡ 47 = search rules in
    let slash : slice_get c.args.name.now c.args.at ≡ Some 47 = slice_get-get_or c.args.name.now c.args.at 0 c.requires ∙ ap Some byte in
    let other = c.in_ok-name_of.field-0 in
    let front : other ≡ take c.args.at c.args.name.now = search rules in
    let found : contains_key (refs_of c.args.map.now).targets other ≡ true = search rules in
    reference_there (refs_of c.args.map.now).targets c.args.name.now other c.args.at slash front found
