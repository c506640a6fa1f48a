-- To which session of a hall a line goes, and what that session is given.
use Rattle.std.specs.Prelude.{ℕ, zero, suc, ◌+◌, List, drop, bytes_eq, Option, Some, None, if◌then◌else◌}
use Rattle.std.specs.Fmt.{decimal}
use Rattle.adv_hall.specs.declared.addressing.Address.{Address}
use Rattle.scott_rules.specs.Commands.{Span, next_word, word_at}

-- the number of 1..n that is written so, in decimal and without leading zeros
abbrev pub number_among : ℕ → List ℕ → Option ℕ
number_among zero word = None
number_among (suc n) word =
    if bytes_eq (decimal (suc n)) word then Some (suc n) else number_among n word

-- what follows the first space behind a word
abbrev pub after_word : List ℕ → Span → List ℕ
after_word line span = drop (span.0 + span.1 + 1) line

abbrev pub addressed : List ℕ → Span → Option ℕ → Option Address
addressed line span None = None
addressed line span (Some k) = Some (record { session = k; line = after_word line span })

abbrev pub address_by : ℕ → List ℕ → Option Span → Option Address
address_by count line None = None
address_by count line (Some span) =
    addressed line span (number_among count (word_at line span))

-- the session whose number is the first word, if it is one of 1..count, and the rest of the line
abbrev pub address_of : ℕ → List ℕ → Option Address
address_of count line = address_by count line (next_word line 0)
