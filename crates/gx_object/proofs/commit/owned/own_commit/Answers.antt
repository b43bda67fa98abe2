use Rattle.std.proofs.Common.{map, sym, subst}
use Rattle.std.specs.List.{AllByRecursion}
use Rattle.bstr.specs.BStr.{bstr_bytes}
use Rattle.gx_hash.specs.IdDigits.{IsHexId}
use Rattle.gx_object.proofs.commit.owned.own_commit.Goals as goal

pub returns-clause-kind : goal.returns-clause-kind
returns-clause-kind c = λ hash ids. record {
  tree = c.from_digits.ensures.kind hash (subst (IsHexId hash) (sym c.as_bytes.ensures) ids.tree);
  parents = c.in_ok-own_ids.ensures.kind hash (subst (λ l. AllByRecursion (IsHexId hash) (map bstr_bytes l)) (sym c.as_slice.ensures) ids.parents);
}
