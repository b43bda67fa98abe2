use Rattle.std.proofs.Common.{rules, ◌≡◌, ◌∙◌, sym, ap, subst, IfSome, arith, ◌≤◌, ◌+◌, ◌-◌, ◌^◌, max, min, ℕ}
use Rattle.gx_hash.specs.HashKind.{kind_of}
use Rattle.gx_hash.specs.Prefix.{IsPrefixOf}
use Rattle.gx_hash.specs.PrefixDigits.{len_in_hex}
use Rattle.gix.proofs.ShorteningLemmas.{shortened}
use Rattle.gix.proofs.id.shorten.shorten.Goals as goal

pub returns-clause-ok : goal.returns-clause-ok
returns-clause-ok g c = shortened c.shared_digits_are_a_prefix.ensures.shares c.shared_digits_are_a_prefix.ensures.begins c.args.id.now c.shared_digits_are_a_prefix.ensures.less c.id_has_digits.ensures.held c.args.hex_len c.first_digits.result c.in_ok-chosen.chosen c.in_ok-shared.shared _ c.in_ok-chosen.ensures.least (search rules) (search rules) c.in_ok-shared.ensures.found (search rules)
    (subst (λ n. IsPrefixOf c.args.id.now (min n (len_in_hex (kind_of c.args.id.now))) c.first_digits.result) (c.max.ensures ∙ ap (λ n. max c.in_ok-chosen.chosen n) c.saturating_add.ensures) c.first_digits.ensures)
