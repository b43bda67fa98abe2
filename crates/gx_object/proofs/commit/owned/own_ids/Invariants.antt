use Rattle.std.proofs.Common.{◌≡◌, map, take}
use Rattle.std.specs.List.{AllByRecursion}
use Rattle.bstr.specs.BStr.{bstr_bytes}
use Rattle.gx_hash.specs.HashKind.{IsOfKind}
use Rattle.gx_hash.specs.ObjectId.{hex_of}
use Rattle.gx_hash.specs.declared.kind.HashKind.{HashKind}
use Rattle.gx_hash.specs.IdDigits.{IsHexId}
use Rattle.gx_object.proofs.commit.owned.own_ids.Given as goal

-- the ids so far are read, and of the kind of their digits
abbrev pub invariant-loop-text : goal.invariant-loop-text
invariant-loop-text l =
    (map hex_of l.ids.items ≡ map bstr_bytes (take l.text-index l.digits))
    × ((hash : HashKind) → AllByRecursion (IsHexId hash) (map bstr_bytes l.digits) → AllByRecursion (IsOfKind hash) l.ids.items)
