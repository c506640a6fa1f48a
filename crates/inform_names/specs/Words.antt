-- The words that numbers stand for, at each width.
use Rattle.std.specs.Prelude.{ℕ, ◌-◌, ◌*◌, ◌%◌, nat_lt, Bool, false, if◌then◌else◌, ℤ, pos, ◌-ℤ◌}
use Rattle.inform_tree.specs.declared.widths.Width.{Width}
use Rattle.inform_tree.specs.declared.widths.Width.TheVariants.{W16, W32}

-- how many words there are
abbrev pub word_count : Width → ℕ
word_count W16 = 65536
word_count W32 = 4294967296

-- of so many words the upper half is below 0
abbrev pub signed : ℕ → ℕ → ℤ
signed count n = if nat_lt (n * 2) count then pos n else pos n -ℤ pos count

-- the word of a number: that of its lowest bits
abbrev pub word : Width → ℕ → ℤ
word width n = signed (word_count width) (n % word_count width)

-- the word of a number with a minus sign before it
abbrev pub minus_word : Width → ℕ → ℤ
minus_word width n = word width (word_count width - n % word_count width)

-- whether a number has more bits than a program may write at this width
abbrev pub is_wide : Width → ℕ → Bool
is_wide W16 n = nat_lt 65535 n
is_wide W32 n = false
