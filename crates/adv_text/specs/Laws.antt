-- The laws of reading and writing: what is read is so spelled, what is so spelled is read, and what
-- was written reads back.
use Rattle.std.specs.Prelude.{ℕ, Bool, nat_lt, ◌≡◌, ◌+◌, ◌<◌, ◌↔◌, ◌≤ℤ◌, List, ◌++◌, length, Result, ℤ, pos, negsuc, IsTrue, Ok, Err}
use Rattle.std.specs.List.{list_all}
use Rattle.adv_text.specs.Spelling.{AfterWhitespace, Number, NoNumber, BigNumber, NoDigit, Quoted, NoString, Opened, Unclosed, Overlong, NoQuote}
use Rattle.adv_text.specs.Reading.{Input, with_more, SameEnd, Fault, no_number, big_number, no_quote, open_string, long_string, number_at, quoted_at}
use Rattle.adv_io.specs.Text.{is_text}
use Rattle.adv_text.specs.Writing.{number_text, quoted_text}

-- ---- values

-- a number that is read is spelled so
abbrev pub NumberIsSpelled : Type 0
NumberIsSpelled =
    (s after : Input) (z : ℤ) → number_at s ≡ Ok (z, after) → Number z s.rest after.rest

-- a number that is spelled so is read, and the input after it has the rest
abbrev pub SpelledNumberIsRead : Type 0
SpelledNumberIsRead = (s : Input) (z : ℤ) (rest : List ℕ) → Number z s.rest rest
    → (after : Input) × (after.rest ≡ rest) × (number_at s ≡ Ok (z, after))

abbrev pub StringIsSpelled : Type 0
StringIsSpelled =
    (s after : Input) (text : List ℕ) → quoted_at s ≡ Ok (text, after)
    → Quoted text s.rest after.rest

abbrev pub SpelledStringIsRead : Type 0
SpelledStringIsRead = (s : Input) (text rest : List ℕ) → Quoted text s.rest rest
    → (after : Input) × (after.rest ≡ rest) × (quoted_at s ≡ Ok (text, after))

-- the input after a number that is read has moved by just the bytes that were taken
abbrev pub NumberEnds : Type 0
NumberEnds = (s after : Input) (z : ℤ) → number_at s ≡ Ok (z, after) → SameEnd s after

abbrev pub StringEnds : Type 0
StringEnds = (s after : Input) (text : List ℕ) → quoted_at s ≡ Ok (text, after) → SameEnd s after

-- ---- faults

-- what stands k bytes of whitespace after an input is at this place
abbrev pub PastWhitespace : (List ℕ → Type 0) → Input → ℕ → Type 0
PastWhitespace P s place = (k : ℕ) × AfterWhitespace P k s.rest × (place ≡ s.at + k)

-- why no number stands at an input, with the place after the whitespace
abbrev pub NumberFault : Input → Fault → Type 0
NumberFault s (no_number place) = PastWhitespace NoNumber s place
NumberFault s (big_number place) = PastWhitespace BigNumber s place
NumberFault s (no_quote place) = ⊥
NumberFault s (open_string place) = ⊥
NumberFault s (long_string place) = ⊥

-- why no string stands at an input, with the place after the whitespace
abbrev pub StringFault : Input → Fault → Type 0
StringFault s (no_number place) = ⊥
StringFault s (big_number place) = ⊥
StringFault s (no_quote place) = PastWhitespace NoString s place
StringFault s (open_string place) = PastWhitespace (Opened Unclosed) s place
StringFault s (long_string place) = PastWhitespace (Opened Overlong) s place

-- a fault is answered exactly where it stands
abbrev pub NumberFaultIsExact : Type 0
NumberFaultIsExact = (s : Input) (fault : Fault) → (number_at s ≡ Err fault) ↔ NumberFault s fault

abbrev pub StringFaultIsExact : Type 0
StringFaultIsExact = (s : Input) (fault : Fault) → (quoted_at s ≡ Err fault) ↔ StringFault s fault

-- ---- what is given

-- a number of 32 bits with a sign
abbrev pub Fits32 : ℤ → Type 0
Fits32 z = (negsuc 2147483647 ≤ℤ z) × (z ≤ℤ pos 2147483647)

abbrev pub NumberFits : Type 0
NumberFits = (z : ℤ) (bytes rest : List ℕ) → Number z bytes rest → Fits32 z

-- the text of a string can be written as one
abbrev pub StringIsText : Type 0
StringIsText = (text bytes rest : List ℕ) → Quoted text bytes rest → IsTrue (is_text text)

abbrev pub is_byte : ℕ → Bool
is_byte b = nat_lt b 256

abbrev pub AreBytes : List ℕ → Type 0
AreBytes bytes = IsTrue (list_all is_byte bytes)

-- what follows a number in a list of bytes are bytes
abbrev pub NumberLeavesBytes : Type 0
NumberLeavesBytes =
    (z : ℤ) (bytes rest : List ℕ) → Number z bytes rest → AreBytes bytes → AreBytes rest

-- the text of a string in a list of bytes, and what follows it, are bytes
abbrev pub StringLeavesBytes : Type 0
StringLeavesBytes =
    (text bytes rest : List ℕ) → Quoted text bytes rest → AreBytes bytes → AreBytes text
    × AreBytes rest

-- ---- bytes that come in pieces

-- a fault of bytes that end there stands whatever follows them
abbrev pub IsSettled : (end : ℕ) → Fault → Type 0
IsSettled end (no_number place) = place + 1 < end
IsSettled end (big_number place) = Unit {0}
IsSettled end (no_quote place) = place < end
IsSettled end (open_string place) = ⊥
IsSettled end (long_string place) = Unit {0}

-- what was read of bytes is read of them with more behind them too, where a byte follows it or its
-- fault is settled
abbrev pub Stays : {X : Type 0} → (more : List ℕ) → (end : ℕ)
    → (read longer : Result (X × Input) Fault)
    → Type 0
Stays more end (Ok read) longer =
    0 < length read.1.rest → longer ≡ Ok (read.0, with_more read.1 more)
Stays more end (Err fault) longer = IsSettled end fault → longer ≡ Err fault

abbrev pub NumberStays : Type 0
NumberStays =
    (s : Input) (more : List ℕ)
    → Stays more (s.at + length s.rest) (number_at s) (number_at (with_more s more))

abbrev pub StringStays : Type 0
StringStays =
    (s : Input) (more : List ℕ)
    → Stays more (s.at + length s.rest) (quoted_at s) (quoted_at (with_more s more))

-- ---- texts that were written

-- the text of a number of 32 bits is a spelling of it, whatever follows but a digit
abbrev pub WrittenNumberIsSpelled : Type 0
WrittenNumberIsSpelled = (z : ℤ) (rest : List ℕ) → Fits32 z → NoDigit rest
    → Number z (number_text z ++ rest) rest

-- the text of a string is a spelling of it, whatever follows but a quote
abbrev pub WrittenStringIsSpelled : Type 0
WrittenStringIsSpelled = (text rest : List ℕ) → IsTrue (is_text text) → NoQuote rest
    → Quoted text (quoted_text text ++ rest) rest
