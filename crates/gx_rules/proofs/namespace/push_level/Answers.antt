use Rattle.std.proofs.Common.{[], ◌∷◌, codes}
use Rattle.gx_rules.proofs.NamespaceLemmas.{level_pushed}
use Rattle.gx_rules.proofs.namespace.push_level.Goals as goal

pub returns : goal.returns
returns c = level_pushed _ (codes "refs/namespaces/") c.args.component.now (47 ∷ []) c.extend_from_slice.new.self.items c.extend_from_slice-2.new.self.items _ c.in_ok-extend_from_slice.ensures.items c.in_ok-extend_from_slice-2.ensures.items c.in_ok-push.ensures.items
