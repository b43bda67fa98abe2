use Rattle.gx_hash.specs.Laws.Digits.{named_is_read, named_is}
use Rattle.gx_hash.proofs.oid.ObjectId.from_digits.Goals as goal

pub unwrap-requires : goal.unwrap-requires
unwrap-requires c = named_is_read c.requires.0 c.args.digits.now c.from_hex.result c.requires.1 c.from_hex.ensures

pub returns-clause-digits : goal.returns-clause-digits
returns-clause-digits c = (named_is c.requires.0 c.args.digits.now c.from_hex.result c.unwrap.result c.requires.1 c.from_hex.ensures c.unwrap.ensures).0

pub returns-clause-kind : goal.returns-clause-kind
returns-clause-kind c = λ hash id. (named_is hash c.args.digits.now c.from_hex.result c.unwrap.result id c.from_hex.ensures c.unwrap.ensures).1
