-- The turns of the loops that write a string, and that read a number and a string.
use Rattle.std.proofs.Common.{◌≡◌, ◌≢◌, ◌∙◌, ℕ, ◌+◌, ◌-◌, ◌*◌, ◌<◌, ◌≤◌, Bool, true, false, leb, nat_le, ℤ, Result, Ok, Err, List, [], ◌∷◌, ◌++◌, length, length-drop, take, drop, get_or, refl, sym, ap, append_assoc, arith}
use Rattle.std.specs.Char.{is_ascii_digit}
use Rattle.std.specs.List.{flat_map}
use Rattle.std.proofs.lemmas.Bool.{le-leb, lt-leb, leb-true, and_parts}
use Rattle.std.proofs.lemmas.Bool.Decides.{nat_tests}
use Rattle.std.proofs.lemmas.List.{flat_map_more, take_more, take_all}
use Rattle.adv_text.specs.Spelling.{signed, greatest}
use Rattle.adv_text.specs.Reading.{Input, input, Fault, no_number, big_number, digits_at, amount_at}
use Rattle.adv_text.specs.Writing.{byte_text, quoted_text}

-- ---- writing a string

-- one byte more, in the form in which it is written
turn : (out before after text : List ℕ) (i : ℕ) → i < length text → before ≡ out ++ 34 ∷ flat_map byte_text (take i text)
    → after ≡ before ++ byte_text (get_or text i 0) → after ≡ out ++ 34 ∷ flat_map byte_text (take (i + 1) text)
turn out before after text i there so_far added =
    let b = get_or text i 0 in
    added ∙ ap (λ (t : List ℕ). t ++ byte_text b) so_far ∙ append_assoc out (34 ∷ flat_map byte_text (take i text)) (byte_text b)
    ∙ ap (λ (t : List ℕ). out ++ 34 ∷ t) (flat_map_more byte_text [] (take i text) b ∙ ap (flat_map byte_text) (sym (take_more text i 0 there)))

-- a quote is written twice
pub quote_more : (out before middle after text : List ℕ) (i : ℕ) → i < length text → get_or text i 0 ≡ 34 → before ≡ out ++ 34 ∷ flat_map byte_text (take i text)
    → middle ≡ before ++ 34 ∷ [] → after ≡ middle ++ get_or text i 0 ∷ [] → after ≡ out ++ 34 ∷ flat_map byte_text (take (i + 1) text)
quote_more out before middle after text i there is so_far first second =
    let two : byte_text (get_or text i 0) ≡ 34 ∷ 34 ∷ [] = rw is refl in
    turn out before after text i there so_far (second ∙ rw (first, two, is) (append_assoc before (34 ∷ []) (34 ∷ [])))

-- any other byte is written once
pub byte_more : (out before after text : List ℕ) (i : ℕ) → i < length text → get_or text i 0 ≢ 34 → before ≡ out ++ 34 ∷ flat_map byte_text (take i text)
    → after ≡ before ++ get_or text i 0 ∷ [] → after ≡ out ++ 34 ∷ flat_map byte_text (take (i + 1) text)
byte_more out before after text i there other so_far added =
    let once : byte_text (get_or text i 0) ≡ get_or text i 0 ∷ [] = grind (arith, nat_tests) in
    turn out before after text i there so_far (rw once added)

-- the last quote ends the text
pub whole_text : (out before after text : List ℕ) (i : ℕ) → length text ≤ i → before ≡ out ++ 34 ∷ flat_map byte_text (take i text)
    → after ≡ before ++ 34 ∷ [] → after ≡ out ++ quoted_text text
whole_text out before after text i past so_far added =
    added ∙ ap (λ (t : List ℕ). t ++ 34 ∷ []) (so_far ∙ ap (λ (t : List ℕ). out ++ 34 ∷ flat_map byte_text t) (take_all i text past))
    ∙ append_assoc out (34 ∷ flat_map byte_text text) (34 ∷ [])

-- ---- reading a number

-- what is left after a first byte
after_first : (b : ℕ) (bytes : List ℕ) → take (length (b ∷ bytes) - 1) bytes ≡ bytes
after_first b bytes = take_all (length (b ∷ bytes) - 1) bytes (omega arith)

-- a byte further, the end is as far
pub place_further : (at end : ℕ) (rest : List ℕ) → 1 ≤ length rest → at + length rest ≡ end
    → at + 1 + length (take (length rest - 1) (drop 1 rest)) ≡ end
place_further at end [] there so_far = absurd (omega arith)
place_further at end (b ∷ bytes) there so_far = rw (after_first b bytes) (omega arith)

-- a digit that keeps the amount within its limit is read on from
pub digit_read : (negative : Bool) (start n more at : ℕ) (rest : List ℕ) (whole : Result (ℤ × Input) Fault) → 1 ≤ length rest
    → is_ascii_digit (get_or rest 0 0) ≡ true → more ≡ get_or rest 0 0 - 48 → n * 10 + more ≤ greatest negative
    → digits_at negative start n at rest ≡ whole → digits_at negative start (n * 10 + more) (at + 1) (take (length rest - 1) (drop 1 rest)) ≡ whole
digit_read negative start n more at [] whole there digit is fits so_far = absurd (omega arith)
digit_read negative start n more at (b ∷ bytes) whole there digit is fits so_far =
    let small : leb (n * 10 + (b - 48)) (greatest negative) ≡ true = le-leb (n * 10 + (b - 48)) (greatest negative) (rw is at fits) in
    rw (after_first b bytes, is) (rw (digit, small) at so_far)

-- a digit that carries the amount past its limit is the fault
pub digit_too_many : (negative : Bool) (start n more at : ℕ) (rest : List ℕ) (whole : Result (ℤ × Input) Fault) → 1 ≤ length rest
    → is_ascii_digit (get_or rest 0 0) ≡ true → more ≡ get_or rest 0 0 - 48 → greatest negative < n * 10 + more
    → digits_at negative start n at rest ≡ whole → whole ≡ Err (big_number start)
digit_too_many negative start n more at [] whole there digit is over so_far = absurd (omega arith)
digit_too_many negative start n more at (b ∷ bytes) whole there digit is over so_far =
    let large : leb (n * 10 + (b - 48)) (greatest negative) ≡ false = lt-leb (n * 10 + (b - 48)) (greatest negative) (rw is at over) in
    sym so_far ∙ rw (digit, large) refl

-- at the end no more digits are read
pub digits_end : (negative : Bool) (start n at : ℕ) (rest : List ℕ) → length rest < 1 → digits_at negative start n at rest ≡ Ok (signed negative n, input at rest)
digits_end negative start n at [] none = refl
digits_end negative start n at (b ∷ bytes) none = absurd (omega arith)

-- nor at a byte that is no digit
pub digits_stop : (negative : Bool) (start n at : ℕ) (rest : List ℕ) → 1 ≤ length rest → is_ascii_digit (get_or rest 0 0) ≡ false
    → digits_at negative start n at rest ≡ Ok (signed negative n, input at rest)
digits_stop negative start n at [] there other = absurd (omega arith)
digits_stop negative start n at (b ∷ bytes) there other = rw other refl

-- no number begins at the end
pub amount_end : (negative : Bool) (start at : ℕ) (rest : List ℕ) → length rest < 1 → amount_at negative start at rest ≡ Err (no_number start)
amount_end negative start at [] none = refl
amount_end negative start at (b ∷ bytes) none = absurd (omega arith)

-- nor at a byte that is no digit
pub amount_other : (negative : Bool) (start at : ℕ) (rest : List ℕ) → 1 ≤ length rest → is_ascii_digit (get_or rest 0 0) ≡ false
    → amount_at negative start at rest ≡ Err (no_number start)
amount_other negative start at [] there other = absurd (omega arith)
amount_other negative start at (b ∷ bytes) there other = rw other refl

-- one digit keeps within the limit
pub first_fits : (negative : Bool) (n b : ℕ) → is_ascii_digit b ≡ true → n ≡ b - 48 → n ≤ greatest negative
first_fits negative n b digit is = by_limit negative (omega (arith, leb-true b 57 (and_parts (nat_le 48 b) (nat_le b 57) digit).1))
  where
    by_limit : (sign : Bool) → n ≤ 9 → n ≤ greatest sign
    by_limit true small = omega arith
    by_limit false small = omega arith

-- the first digit is read on from
pub amount_first : (negative : Bool) (start n at : ℕ) (rest : List ℕ) → 1 ≤ length rest → is_ascii_digit (get_or rest 0 0) ≡ true → n ≡ get_or rest 0 0 - 48
    → digits_at negative start n (at + 1) (take (length rest - 1) (drop 1 rest)) ≡ amount_at negative start at rest
amount_first negative start n at [] there digit is = absurd (omega arith)
amount_first negative start n at (b ∷ bytes) there digit is = rw (after_first b bytes, is, digit) refl

-- ---- reading a string

-- what is left after a piece
pub after_piece : (size : ℕ) (rest : List ℕ) → take (length rest - size) (drop size rest) ≡ drop size rest
after_piece size rest = take_all (length rest - size) (drop size rest) (omega (arith, length-drop size rest))

-- the end is as far after a piece
pub place_after_piece : (at size end : ℕ) (rest : List ℕ) → size ≤ length rest → at + length rest ≡ end
    → at + size + length (drop size rest) ≡ end
place_after_piece at size end rest there so_far = omega (arith, length-drop size rest)
