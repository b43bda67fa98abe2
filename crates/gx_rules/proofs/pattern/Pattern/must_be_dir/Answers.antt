use Rattle.std.proofs.Common.{◌≡◌, ◌-◌, ◌↔◌, IsTrue, ℕ, List, [], ◌∷◌, Bool, length, take, drop, nat_eq, sym, ◌∙◌, arith, length-drop}
use Rattle.std.specs.List.{ends_with}
use Rattle.std.proofs.lemmas.List.{take_all}
use Rattle.gx_rules.specs.Name.{StandsAt}
use Rattle.gx_rules.proofs.pattern.Pattern.must_be_dir.Goals as goal

-- from its last byte on a text has one byte at most
last_byte : (text : List ℕ) → take 1 (drop (length text - 1) text) ≡ drop (length text - 1) text
last_byte text = take_all 1 (drop (length text - 1) text) (omega (arith, length-drop (length text - 1) text))

ends_there : (text : List ℕ) (ends : Bool) → ends ≡ ends_with nat_eq text (47 ∷ []) → IsTrue ends ↔ StandsAt (47 ∷ []) text (length text - 1)
ends_there text ends h = rw (last_byte text) (λ e. sym h ∙ e, λ e. h ∙ e)

pub returns : goal.returns
returns c = ends_there c.args.self.now c.ends_with.result (rw c.as_slice.ensures at c.ends_with.ensures.value)
