use Rattle.std.proofs.Common.{[], ◌∷◌, rules, tests}
use Rattle.std.proofs.lemmas.Iterator.{YieldsList-from_slice}
use Rattle.std.proofs.lemmas.Iterator.Search.{any_from_yields_List}
use Rattle.gx_rules.specs.Component.{spells}
use Rattle.gx_rules.proofs.component_rules.is_device.Goals as goal

pub returns : goal.returns
returns c = any_from_yields_List (λ device. spells device.now (32 ∷ []) (46 ∷ []) c.args.name.now) _ _ _ c.any.ensures.ran (YieldsList-from_slice _ c.iter.ensures.rest) (λ x b q k. search (rules, tests))
