-- What a single byte is to the lexer.
use Rattle.std.specs.Prelude.{ℕ, ◌==◌, ◌||◌, ◌&&◌, Bool, not, nat_le, nat_eq, [], ◌∷◌}
use Rattle.std.specs.List.{list_any}
use Rattle.std.specs.Char.{is_ascii_alphabetic, is_ascii_alphanumeric, is_digit}

-- a line feed or a return
abbrev pub is_break : ℕ → Bool
is_break b = b == 10 || b == 13

-- a break, a tab or a space
abbrev pub is_blank : ℕ → Bool
is_blank b = is_break b || (b == 9 || b == 32)

-- what a comment goes on with
abbrev pub is_comment_byte : ℕ → Bool
is_comment_byte b = not (is_break b)

-- a letter in either case or an underscore (95)
abbrev pub begins_word : ℕ → Bool
begins_word b = is_ascii_alphabetic b || b == 95

abbrev pub is_word_byte : ℕ → Bool
is_word_byte b = is_ascii_alphanumeric b || b == 95

-- a digit of this base, at most 16, in either case
abbrev pub is_digit_in : ℕ → ℕ → Bool
is_digit_in base b = is_digit b base

-- what a string goes on with: no quote
abbrev pub is_inside : ℕ → Bool
is_inside b = not (b == 34)

-- a byte that stands for itself in a string: printable, no space, and none of `"`, `@`, `\`, `^`
-- and `~`
abbrev pub is_plain : ℕ → Bool
is_plain b =
    nat_le 33 b && (nat_le b 126 && not (list_any (nat_eq b) (34 ∷ 64 ∷ 92 ∷ 94 ∷ 126 ∷ [])))
