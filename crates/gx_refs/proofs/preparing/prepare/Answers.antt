use Rattle.std.proofs.Common.{subst, sym}
use Rattle.gx_refs.specs.Planned.{ArePlansSound}
use Rattle.gx_refs.proofs.PreparedLemmas.{sound}
use Rattle.gx_refs.proofs.preparing.prepare.Goals as goal

pub make_ready-requires : goal.make_ready-requires
make_ready-requires g c = record {
  ways = subst (ArePlansSound (g.S.Meanings.state c.args.store.now) c.in_ok-terms.terms) (sym c.deref.ensures.value)
      (sound (g.S.Meanings.state c.args.store.now) c.in_ok-terms.terms c.args.edits c.in_ok-plans.plans.items c.in_ok-plans.ensures.ok c.requires.kinds c.in_ok-plans.ensures.kind);
}
