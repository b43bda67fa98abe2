use Rattle.std.proofs.Common.{◌≡◌, ◌≤◌, ◌<◌, ◌+◌, ◌^◌, false, drop}
use Rattle.std.specs.Fmt.{digits, digits_onto}
use Rattle.gx_object.proofs.tree.write.write_octal.Given as goal

-- the digits that are left to write come before those that are written
abbrev pub invariant-loop-rest : goal.invariant-loop-rest
invariant-loop-rest l = record {
  some_left : 0 < l.at;
  six : l.at ≤ 6;
  fits : l.rest < 8 ^ l.at;
  written : digits_onto (l.at + 58) 8 false l.rest (drop l.at l.digits) ≡ digits 8 false l.mode;
}

abbrev pub decreases-loop-rest : goal.decreases-loop-rest
decreases-loop-rest l = l.at
