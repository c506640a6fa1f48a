use Rattle.std.proofs.Common.{◌<◌, ◌^◌}
use Rattle.adv_text.proofs.ShortNumbers.{HasRead}
use Rattle.adv_text.proofs.fast.short_amount.Given as goal

-- so many digits are read
abbrev pub invariant-loop-digits : goal.invariant-loop-digits
invariant-loop-digits l = record {
  read : HasRead l.bytes l.amount l.digits;
  small : l.amount < 10 ^ l.digits;
}
