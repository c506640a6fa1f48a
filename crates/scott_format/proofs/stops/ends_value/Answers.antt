use Rattle.scott_format.proofs.Leaving.{digit_ends, quote_ends}
use Rattle.scott_format.proofs.stops.ends_value.Goals as goal

pub returns-then-is_ascii_digit : goal.returns-then-is_ascii_digit
returns-then-is_ascii_digit c =
    digit_ends c.args.bytes.now c.is_ascii_digit.result c.in-len1-up.len_at_least c.is_ascii_digit.ensures.value c.if-is_ascii_digit.true

pub returns-else-is_ascii_digit : goal.returns-else-is_ascii_digit
returns-else-is_ascii_digit c =
    quote_ends c.args.bytes.now c.is_ascii_digit.result c.in-len1-up.len_at_least c.is_ascii_digit.ensures.value c.if-is_ascii_digit.false
