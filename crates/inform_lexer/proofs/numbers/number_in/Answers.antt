use Rattle.std.proofs.Common.{◌≡◌, ◌+◌, ◌*◌, drop, sym, arith}
use Rattle.std.specs.Str.Parse.{digits_value, digits_value_after}
use Rattle.std.proofs.lemmas.Grind.{common_steps}
use Rattle.inform_lexer.proofs.Digits.{too_large}
use Rattle.inform_lexer.proofs.numbers.number_in.Goals as goal

pub returns-then-value-gt4294967295 : goal.returns-then-value-gt4294967295
returns-then-value-gt4294967295 c =
    let base = c.args.base in
    let value = c.loop-byte.value * base + c.digit_value.result in
    let rest = drop (c.loop-byte.byte-index + 1) c.args.digits.now in
    let same : digits_value_after base value rest ≡ digits_value base c.args.digits.now = grind (arith, common_steps) in
    sym (too_large base value rest c.args.digits.now c.requires.some c.if-value-gt4294967295.true same)
