-- The words of a width, and what is computed with them.
use Rattle.std.specs.Prelude.{ℕ, ◌+◌, ◌-◌, ◌%◌, ℤ, pos, ◌+ℤ◌, ◌-ℤ◌, ◌*ℤ◌, neg_ℤ, int_div, int_rem, int_lt, unsigned_abs, Bool, false, not, if◌then◌else◌, nat_lt, Option, Some, None}
use Rattle.std.specs.Int as i
use Rattle.std.specs.Int.{int_wrap, int_rem_euclid}
use Rattle.std.specs.Ordering.{int_eq}
use Rattle.inform_tree.specs.declared.widths.Width.{Width}
use Rattle.inform_tree.specs.declared.widths.Width.TheVariants.{W16, W32}
use Rattle.inform_tree.specs.declared.values.SumOp.{SumOp}
use Rattle.inform_tree.specs.declared.values.SumOp.TheVariants.{Add, Sub}
use Rattle.inform_tree.specs.declared.values.ProdOp.{ProdOp}
use Rattle.inform_tree.specs.declared.values.ProdOp.TheVariants.{Mul, Div, Rem}
use Rattle.inform_tree.specs.declared.conditions.Relation.{Relation}
use Rattle.inform_tree.specs.declared.conditions.Relation.TheVariants.{Eq, Ne, Lt, Gt, Le, Ge}
use Rattle.inform_names.specs.Words.{word}

abbrev pub bits_of : Width → i.Width
bits_of W16 = i.w16
bits_of W32 = i.w32

-- the word with the lowest bits of a whole number
abbrev pub wrapped : Width → ℤ → ℤ
wrapped width z = int_wrap (bits_of width) z

-- the word that a number of the program stands for; a small one is itself at each width
abbrev pub number_word : Width → ℕ → ℤ
number_word width n = if nat_lt n 32768 then pos n else word width n

-- ---- arithmetic

abbrev pub word_sum : Width → ℤ → ℤ → ℤ
word_sum width a b = wrapped width (a +ℤ b)

abbrev pub word_difference : Width → ℤ → ℤ → ℤ
word_difference width a b = wrapped width (a -ℤ b)

abbrev pub word_product : Width → ℤ → ℤ → ℤ
word_product width a b = wrapped width (a *ℤ b)

abbrev pub word_negation : Width → ℤ → ℤ
word_negation width a = wrapped width (neg_ℤ a)

-- toward zero, where the divisor isn't 0
abbrev pub word_quotient : Width → ℤ → ℤ → Option ℤ
word_quotient width a b = if int_eq b (pos 0) then None else Some (wrapped width (int_div a b))

-- with the sign of the dividend
abbrev pub word_remainder : Width → ℤ → ℤ → Option ℤ
word_remainder width a b = if int_eq b (pos 0) then None else Some (int_rem a b)

-- one more part of a sum
abbrev pub summed : Width → SumOp → ℤ → ℤ → ℤ
summed width Add a b = word_sum width a b
summed width Sub a b = word_difference width a b

-- one more part of a product, if it isn't a division by 0
abbrev pub multiplied : Width → ProdOp → ℤ → ℤ → Option ℤ
multiplied width Mul a b = Some (word_product width a b)
multiplied width Div a b = word_quotient width a b
multiplied width Rem a b = word_remainder width a b

-- ---- comparing, and bytes

abbrev pub compares : Relation → ℤ → ℤ → Bool
compares Eq a b = int_eq a b
compares Ne a b = not (int_eq a b)
compares Lt a b = int_lt a b
compares Gt a b = int_lt b a
compares Le a b = not (int_lt b a)
compares Ge a b = not (int_lt a b)

-- from the first to the last
abbrev pub is_between : ℤ → ℤ → ℤ → Bool
is_between first last x = if int_lt x first then false else not (int_lt last x)

-- the lowest 8 bits
abbrev pub low_byte : ℤ → ℕ
low_byte z = unsigned_abs (int_rem_euclid z (pos 256))

-- what `random` makes of a draw: a number of 1 to n
abbrev pub draw_within : ℤ → ℕ → ℤ
draw_within n draw = pos ((draw - 1) % unsigned_abs n + 1)
