use Rattle.std.proofs.Common.{◌≡◌, ◌≤◌, drop}
use Rattle.std.specs.Str.Parse.{digits_value, digits_value_after}
use Rattle.inform_lexer.proofs.numbers.number_in.Given as goal

-- the digits that are left go on from the value so far
abbrev pub invariant-loop-byte : goal.invariant-loop-byte
invariant-loop-byte l = record {
  same : digits_value_after l.base l.value (drop l.byte-index l.digits) ≡ digits_value l.base l.digits;
  fits : l.value ≤ 4294967295;
}
