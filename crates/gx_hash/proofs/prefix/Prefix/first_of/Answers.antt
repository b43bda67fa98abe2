use Rattle.gx_hash.proofs.PrefixLemmas.{cut_is, cut_begins}
use Rattle.gx_hash.proofs.prefix.Prefix.first_of.Goals as goal

pub invariant_of-result : goal.invariant_of-result
invariant_of-result c = record { cut = cut_is c.args.id.now c.keeping_digits.result c.args.hex_len _ c.requires.least c.requires.most c.keeping_digits.ensures.size c.keeping_digits.ensures.digits }

pub returns-clause-prefix : goal.returns-clause-prefix
returns-clause-prefix c = record {
  kind = c.keeping_digits.ensures.kind;
  digits = cut_begins c.args.id.now c.keeping_digits.result c.args.hex_len _ c.requires.most c.keeping_digits.ensures.size c.keeping_digits.ensures.digits;
}
