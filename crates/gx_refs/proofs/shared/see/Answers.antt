use Rattle.std.proofs.Common.{sym, ◌∙◌, not, Bool, true, false, ◌≡◌, refl}
use Rattle.gx_refs.proofs.SeenLemmas.{seen_more}
use Rattle.gx_refs.proofs.shared.see.Goals as goal

was_new : (b added : Bool) → added ≡ not b → added ≡ true → b ≡ false
was_new true added e f = sym f ∙ e
was_new false added e f = refl

pub returns-clause-ok : goal.returns-clause-ok
returns-clause-ok c = λ names seen. seen_more c.args.seen.now c.insert.new.self names c.in_ok-try_clone.field-0 c.args.place.now.name c.in_ok-try_clone.ensures c.in_ok-insert.ensures.updates.0 (was_new _ _ c.in_ok-insert.ensures.added c.if-not-branch.false) seen
