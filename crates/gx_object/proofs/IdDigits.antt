-- The texts of a commit's ids are digits of ids.
use Rattle.std.proofs.Common.{map, get_or, ℕ, zero, suc, ◌<◌, List, [], ◌∷◌, length, arith}
use Rattle.std.specs.List.{AllByRecursion}
use Rattle.bstr.specs.BStr.{bstr_bytes}
use Rattle.bstr.specs.declared.bstr.BStr.{BStr}
use Rattle.gx_hash.specs.IdDigits.{IsHexId}
use Rattle.gx_hash.specs.declared.kind.HashKind.{HashKind}

-- each of the texts is digits of an id
pub each_named : (hash : HashKind) (texts : List BStr) (k : ℕ) (other : BStr) → k < length texts → AllByRecursion (IsHexId hash) (map bstr_bytes texts) → IsHexId hash (bstr_bytes (get_or texts k other))
each_named hash [] k other within each = absurd (omega (arith, within))
each_named hash (text ∷ texts) zero other within each = each.0
each_named hash (text ∷ texts) (suc k) other within each = each_named hash texts k other (omega (arith, within)) each.1
