-- Reading from left to right, with the first fault that is reached.
use Rattle.std.specs.Prelude.{ℕ, ◌≡◌, ◌+◌, ◌-◌, ◌*◌, ◌≤◌, ◌<◌, ◌==◌, nat_le, nat_lt, Bool, true, false, if◌then◌else◌, Option, Some, None, drop, List, [], ◌∷◌, ◌++◌, length, ℤ, Result, Ok, Err}
use Rattle.std.specs.Global.{Vec}
use Rattle.std.specs.Char.{is_ascii_digit}
use Rattle.adv_io.specs.Answers.{IsExpected, IsExactly}
use Rattle.adv_io.specs.Text.{carriage_return, quote, plus_sign, minus_sign, grave_accent, is_whitespace, text_limit}
use Rattle.adv_text.specs.Spelling.{signed, greatest}
use Rattle.adv_text.specs.declared.faults.TextFault.{TextFault}
use Rattle.adv_text.specs.declared.faults.TextFault.TheVariants as answer

-- a place, counted from the beginning of all bytes, and the bytes from there on
pub record Input : Type 0 where
  pub at : ℕ
  pub rest : List ℕ

abbrev pub input : ℕ → List ℕ → Input
input at rest = record { at = at; rest = rest }

-- the same input, where more bytes follow
abbrev pub with_more : Input → List ℕ → Input
with_more s more = input s.at (s.rest ++ more)

-- two inputs are as far from the end as their places say
abbrev pub SameEnd : Input → Input → Type 0
SameEnd s after = after.at + length after.rest ≡ s.at + length s.rest

-- why there is no number or no string, with its place
pub data Fault : Type 0 where
  no_number : ℕ → Fault
  big_number : ℕ → Fault
  no_quote : ℕ → Fault
  open_string : ℕ → Fault
  long_string : ℕ → Fault

-- the input after the whitespace
abbrev pub past_whitespace : ℕ → List ℕ → Input
past_whitespace at [] = input at []
past_whitespace at (b ∷ bytes) =
    if is_whitespace b then past_whitespace (at + 1) bytes else input at (b ∷ bytes)

-- ---- numbers

-- whether a minus stands there, and the input after a sign
abbrev pub past_sign : ℕ → List ℕ → Bool × Input
past_sign at [] = (false, input at [])
past_sign at (b ∷ bytes) =
    if b == minus_sign then (true, input (at + 1) bytes)
    else if b == plus_sign then (false, input (at + 1) bytes)
    else (false, input at (b ∷ bytes))

-- digits go on after an amount; start is where the number began
abbrev pub digits_at : Bool → ℕ → ℕ → ℕ → List ℕ → Result (ℤ × Input) Fault
digits_at negative start n at [] = Ok (signed negative n, input at [])
digits_at negative start n at (b ∷ bytes) =
    if is_ascii_digit b
    then (if nat_le (n * 10 + (b - 48)) (greatest negative)
    then digits_at negative start (n * 10 + (b - 48)) (at + 1) bytes
    else Err (big_number start))
    else Ok (signed negative n, input at (b ∷ bytes))

-- the first digit
abbrev pub amount_at : Bool → ℕ → ℕ → List ℕ → Result (ℤ × Input) Fault
amount_at negative start at [] = Err (no_number start)
amount_at negative start at (b ∷ bytes) =
    if is_ascii_digit b then digits_at negative start (b - 48) (at + 1) bytes
    else Err (no_number start)

-- the number at an input, and the input after it
unfoldable pub number_at : Input → Result (ℤ × Input) Fault
number_at s =
    let start = past_whitespace s.at s.rest in
    let sign = past_sign start.at start.rest in
    amount_at sign.0 start.at sign.1.at sign.1.rest

-- ---- strings

-- one more byte is kept, unless there are 4,096 already
abbrev pub keep : ℕ → List ℕ → ℕ → (List ℕ → Result (List ℕ × Input) Fault)
    → Result (List ℕ × Input) Fault
keep opened kept b go_on =
    if nat_lt (length kept) text_limit then go_on (kept ++ b ∷ []) else Err (long_string opened)

-- inside a string; held tells that the byte before was a quote, which ends it unless a second
-- follows
abbrev pub inside_at : ℕ → Bool → List ℕ → ℕ → List ℕ → Result (List ℕ × Input) Fault
inside_at opened held kept at [] = if held then Ok (kept, input at []) else Err (open_string opened)
inside_at opened held kept at (b ∷ bytes) =
    if b == quote then (if held
    then keep opened kept quote (λ more. inside_at opened false more (at + 1) bytes)
    else inside_at opened true kept (at + 1) bytes)
    else if held then Ok (kept, input at (b ∷ bytes))
    else if b == carriage_return then inside_at opened false kept (at + 1) bytes
    else keep opened kept (if b == grave_accent then quote else b)
    (λ more. inside_at opened false more (at + 1) bytes)

-- the opening quote
abbrev pub opening_at : ℕ → List ℕ → Result (List ℕ × Input) Fault
opening_at at [] = Err (no_quote at)
opening_at at (b ∷ bytes) =
    if b == quote then inside_at at false [] (at + 1) bytes else Err (no_quote at)

-- the text of the string at an input, and the input after it
unfoldable pub quoted_at : Input → Result (List ℕ × Input) Fault
quoted_at s = let start = past_whitespace s.at s.rest in opening_at start.at start.rest

-- ---- what the program answers

-- the program's fault for a fault of reading
abbrev pub fault_answer : Fault → TextFault
fault_answer (no_number at) = answer.NoNumber at
fault_answer (big_number at) = answer.BigNumber at
fault_answer (no_quote at) = answer.NoQuote at
fault_answer (open_string at) = answer.OpenString at
fault_answer (long_string at) = answer.LongString at

-- the fault of reading that an answer of the program is; want of memory is none
abbrev pub fault_of : TextFault → Option Fault
fault_of (answer.NoNumber at) = Some (no_number at)
fault_of (answer.BigNumber at) = Some (big_number at)
fault_of (answer.NoQuote at) = Some (no_quote at)
fault_of (answer.OpenString at) = Some (open_string at)
fault_of (answer.LongString at) = Some (long_string at)
fault_of answer.Memory = None

-- a fault of the program is the one that reading gives, unless memory ran out
abbrev pub Stands : {X : Type 0} → TextFault → Result X Fault → Type 0
Stands fault read = IsExpected fault_of fault read

-- the same, where no memory is taken
abbrev pub IsFaultOf : {X : Type 0} → TextFault → Result X Fault → Type 0
IsFaultOf fault read = IsExactly fault_of fault read

-- the text was read, unless memory ran out
abbrev pub IsText : Result (Vec ℕ) TextFault → List ℕ → Type 0
IsText (Ok v) text = v.items ≡ text
IsText (Err fault) text = fault ≡ answer.Memory

-- more bytes of the string that was opened at this place make it longer than 4,096, unless memory
-- ran out
abbrev pub IsLong : TextFault → ℕ → ℕ → Type 0
IsLong (answer.NoNumber at) opened size = ⊥
IsLong (answer.BigNumber at) opened size = ⊥
IsLong (answer.NoQuote at) opened size = ⊥
IsLong (answer.OpenString at) opened size = ⊥
IsLong (answer.LongString at) opened size = (at ≡ opened) × (text_limit < size)
IsLong answer.Memory opened size = Unit {0}

-- From any place: a piece of a string takes bytes, and what was kept by then goes on after it; or
-- the string ends here, or the file.
abbrev pub GoesOn : ℕ → Bool → List ℕ → List ℕ → List ℕ → Option (ℕ × Bool) → Type 0
GoesOn opened held kept rest more None =
    (more ≡ kept)
    × ((at : ℕ) → inside_at opened held kept at rest
    ≡ (if held then Ok (kept, input at rest) else Err (open_string opened)))
GoesOn opened held kept rest more (Some piece) =
    (1 ≤ piece.0) × (piece.0 ≤ length rest)
    × ((at : ℕ) → inside_at opened held kept at rest
    ≡ inside_at opened piece.1 more (at + piece.0) (drop piece.0 rest))
