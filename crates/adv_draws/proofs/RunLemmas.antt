-- Runs byte by byte.
use Rattle.std.proofs.Common.{◌≡◌, ℕ, ◌+◌, ◌-◌, ◌*◌, ◌<◌, ◌≤◌, Bool, true, false, cond, List, [], ◌∷◌, length, get_or, drop, Some, None, not, refl, ap, ◌∙◌, ◌&&◌, ◌⊎◌, inl, inr, arith, nat_le}
use Rattle.std.specs.List.{list_all, take_while}
use Rattle.std.specs.Char.{is_ascii_digit, digit_value}
use Rattle.std.specs.Str.Parse.{digits_value_after}
use Rattle.std.proofs.lemmas.Str.{digit_value_digit}
use Rattle.std.proofs.lemmas.List.Sums.{take_while-cons}
use Rattle.std.proofs.lemmas.List.{at_drop_more, at_drop_all}
use Rattle.std.proofs.lemmas.Bool.{ne_eqb, lt-leb, le-leb, leb-true, and_from, and_parts}
use Rattle.adv_io.specs.Text.{is_whitespace}
use Rattle.adv_draws.specs.Run.{is_solid, is_draw, draw_after, draw_of}

-- the run that begins at an offset of a text
abbrev pub run_at : List ℕ → ℕ → List ℕ
run_at text offset = take_while is_solid (drop offset text)

pub solid_first : (byte : ℕ) (rest : List ℕ) → is_whitespace byte ≡ false → take_while is_solid (byte ∷ rest) ≡ byte ∷ take_while is_solid rest
solid_first byte rest solid =
    take_while-cons is_solid byte rest ∙ ap (λ space. cond (not space) (byte ∷ take_while is_solid rest) []) solid

pub space_first : (byte : ℕ) (rest : List ℕ) → is_whitespace byte ≡ true → take_while is_solid (byte ∷ rest) ≡ []
space_first byte rest space =
    take_while-cons is_solid byte rest ∙ ap (λ space. cond (not space) (byte ∷ take_while is_solid rest) []) space

-- a solid byte is the first of its run
pub run_at-solid : (text : List ℕ) (offset : ℕ) → offset < length text → is_whitespace (get_or text offset 0) ≡ false → run_at text offset ≡ get_or text offset 0 ∷ run_at text (offset + 1)
run_at-solid text offset below solid =
    at_drop_more (take_while is_solid) text offset 0 below
    ∙ solid_first (get_or text offset 0) (drop (offset + 1) text) solid

-- no run begins at a byte of whitespace
pub run_at-space : (text : List ℕ) (offset : ℕ) → offset < length text → is_whitespace (get_or text offset 0) ≡ true → run_at text offset ≡ []
run_at-space text offset below space =
    at_drop_more (take_while is_solid) text offset 0 below
    ∙ space_first (get_or text offset 0) (drop (offset + 1) text) space

-- nor at the text's end
pub run_at-end : (text : List ℕ) (offset : ℕ) → length text ≤ offset → run_at text offset ≡ []
run_at-end text offset past = at_drop_all (take_while is_solid) text offset past

-- more digits never make a number less
least : (number : ℕ) (run : List ℕ) → number ≤ digits_value_after 10 number run
least number [] = omega arith
least number (byte ∷ run) = omega (arith, least (number * 10 + digit_value byte) run)

-- a run with a byte that is no digit is no draw
pub draw_after-other : (number byte : ℕ) (run : List ℕ) → is_ascii_digit byte ≡ false → draw_after number (byte ∷ run) ≡ None
draw_after-other number byte run other = rw other

-- the value of a digit
digit_worth : (byte : ℕ) → is_ascii_digit byte ≡ true → digit_value byte ≡ byte - 48
digit_worth byte digit =
    let sides = and_parts (nat_le 48 byte) (nat_le byte 57) digit in
    omega (arith, digit_value_digit byte (leb-true 48 byte sides.0, leb-true byte 57 sides.1))

-- a digit raises the number
pub draw_after-digit : (number byte : ℕ) (run : List ℕ) → is_ascii_digit byte ≡ true → draw_after number (byte ∷ run) ≡ draw_after (number * 10 + (byte - 48)) run
draw_after-digit number byte run digit =
    rw (digit, digit_worth byte digit)

-- a test that fails leaves no value
none_left : (first second : Bool) (number : ℕ) → cond (first && (second && false)) (Some number) None ≡ None
none_left true true number = refl
none_left true false number = refl
none_left false second number = refl

-- beyond 100 no further byte makes a draw
pub draw_after-large : (number : ℕ) (run : List ℕ) → 100 < number → draw_after number run ≡ None
draw_after-large number run large =
    let value : ℕ = digits_value_after 10 number run in
    let over : nat_le value 100 ≡ false = lt-leb value 100 (omega (arith, least number run)) in
    rw over (none_left (list_all is_ascii_digit run) (nat_le 1 value) value)

-- a byte that is no digit, or any byte beyond 100, makes no draw
pub draw_after-stuck : (number byte : ℕ) (run : List ℕ) → (is_ascii_digit byte ≡ false) ⊎ (100 < number) → draw_after number (byte ∷ run) ≡ None
draw_after-stuck number byte run why =
    elim why [ inl other ↦ draw_after-other number byte run other | inr large ↦ draw_after-large number (byte ∷ run) large ]

-- a number that is a draw, with no more digits
pub drawn : (number value : ℕ) → 1 ≤ number → number ≤ 100 → number ≡ value → draw_after number [] ≡ Some value
drawn number value least most same = rw (le-leb 1 number least, le-leb number 100 most) (ap Some same)

-- a digit, from its bounds
digit_in : (byte : ℕ) → 48 ≤ byte → byte ≤ 57 → is_ascii_digit byte ≡ true
digit_in byte least most = and_from (nat_le 48 byte) (nat_le byte 57) (le-leb 48 byte least) (le-leb byte 57 most)

-- a digit is no whitespace
pub digit_solid : (byte : ℕ) → 48 ≤ byte → is_whitespace byte ≡ false
digit_solid byte least =
    rw (le-leb 9 byte (omega arith), lt-leb byte 13 (omega arith), ne_eqb byte 32 (λ same. omega arith)) refl

-- a digit that isn't 0 is a draw
pub one_digit : (digit : ℕ) → 49 ≤ digit → digit ≤ 57 → draw_of (digit ∷ []) ≡ Some (digit - 48)
one_digit digit least most =
    draw_after-digit 0 digit [] (digit_in digit (omega arith) most)
    ∙ drawn (0 * 10 + (digit - 48)) (digit - 48) (omega arith) (omega arith) (omega arith)

-- two digits, the first of which isn't 0, are a draw
pub two_digits : (first second : ℕ) → 49 ≤ first → first ≤ 57 → 48 ≤ second → second ≤ 57 → draw_of (first ∷ second ∷ []) ≡ Some ((first - 48) * 10 + (second - 48))
two_digits first second least most above below =
    draw_after-digit 0 first (second ∷ []) (digit_in first (omega arith) most)
    ∙ draw_after-digit (0 * 10 + (first - 48)) second [] (digit_in second above below)
    ∙ drawn ((0 * 10 + (first - 48)) * 10 + (second - 48)) ((first - 48) * 10 + (second - 48)) (omega arith) (omega arith) (omega arith)

-- a number of 1..100 is a draw
pub is_draw_in : (number : ℕ) → 1 ≤ number → number ≤ 100 → is_draw number ≡ true
is_draw_in number least most =
    and_from (nat_le 1 number) (nat_le number 100) (le-leb 1 number least) (le-leb number 100 most)
