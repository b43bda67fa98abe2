use Rattle.std.proofs.Common.{◌≡◌, ◌≤◌, ◌<◌, length, take}
use Rattle.std.specs.Str.Parse.{AllDigits, digits_value}
use Rattle.gx_object.proofs.tree.decode.read_mode.Given as goal

-- the digits so far are octal, and spell the mode
abbrev pub invariant-loop-digit : goal.invariant-loop-digit
invariant-loop-digit l = record {
  some : 0 < length l.digits;
  short : length l.digits ≤ 6;
  octal : AllDigits 8 (take l.digit-index l.digits);
  value : digits_value 8 (take l.digit-index l.digits) ≡ l.mode;
}
