-- A number is read exactly where one is spelled.
use Rattle.std.proofs.Common.{◌≡◌, ℕ, ◌+◌, ◌-◌, ◌*◌, ◌≤◌, ◌<◌, Bool, true, false, cond, ◌||◌, eqb, leb, ◌⊎◌, inl, inr, List, [], ◌∷◌, Result, Ok, Err, ℤ, pos, refl, sym, subst, arith}
use Rattle.std.proofs.lemmas.Bool.{and_parts, and_right, or_from, or_left, or_right, both_ways, ne_eqb, leb-true, leb-false, le-leb, lt-leb, eqb-true}
use Rattle.std.specs.Char.{is_ascii_digit}
use Rattle.adv_io.specs.Text.{is_whitespace}
use Rattle.adv_text.specs.Spelling.{NoDigit, Digits, last, digit, Amount, Signed, bare, plus, minus, signed, greatest, BeginsNumber, Number, NoNumber, BigNumber}
use Rattle.adv_text.specs.Reading.{Input, input, Fault, no_number, big_number, no_quote, open_string, long_string, past_whitespace, past_sign, digits_at, amount_at, number_at}
use Rattle.adv_text.specs.Laws.{NumberIsSpelled, SpelledNumberIsRead, NumberFault, NumberFaultIsExact}
use Rattle.adv_text.proofs.Whitespace.{Skipped, skipped, found, NoWhitespace, NoWhitespace-past_whitespace}

-- ---- what is read is so spelled

-- the digits that stand after an amount, and that they make no less of it
record MoreDigits (n : ℕ) (bytes : List ℕ) : Type 0 where
  total : ℕ
  rest : List ℕ
  digits : Digits n total bytes rest
  grown : n ≤ total

more_digit : (n b : ℕ) (bytes : List ℕ) (d : Bool) → is_ascii_digit b ≡ d → MoreDigits (n * 10 + (b - 48)) bytes → MoreDigits n (b ∷ bytes)
more_digit n b bytes true e h = record { total = h.total; rest = h.rest; digits = digit e h.digits; grown = omega (arith, h.grown) }
more_digit n b bytes false e h = record { total = n; rest = b ∷ bytes; digits = last e; grown = omega arith }

more_digits : (n : ℕ) (bytes : List ℕ) → MoreDigits n bytes
more_digits n [] = record { total = n; rest = []; digits = last tt; grown = omega arith }
more_digits n (b ∷ bytes) = more_digit n b bytes (is_ascii_digit b) refl (more_digits (n * 10 + (b - 48)) bytes)

-- what reading digits after an amount says of them
abbrev DigitsTell : Bool → ℕ → ℕ → List ℕ → Result (ℤ × Input) Fault → Type 0
DigitsTell negative start n bytes (Ok x) = (m : ℕ) × Digits n m bytes x.1.rest × (m ≤ greatest negative) × (x.0 ≡ signed negative m)
DigitsTell negative start n bytes (Err fault) = (fault ≡ big_number start) × (m : ℕ) × (rest : List ℕ) × Digits n m bytes rest × (greatest negative < m)

tell_more : (negative : Bool) (start n b : ℕ) (bytes : List ℕ) (r : Result (ℤ × Input) Fault) → is_ascii_digit b ≡ true
    → DigitsTell negative start (n * 10 + (b - 48)) bytes r → DigitsTell negative start n (b ∷ bytes) r
tell_more negative start n b bytes (Ok x) e h = (h.0, digit e h.1, h.2, h.3)
tell_more negative start n b bytes (Err fault) e h = (h.0, h.1, h.2, digit e h.3, h.4)

tell_digit : (negative : Bool) (start n at b : ℕ) (bytes : List ℕ) (r : Result (ℤ × Input) Fault) (d t : Bool) → n ≤ greatest negative
    → is_ascii_digit b ≡ d → leb (n * 10 + (b - 48)) (greatest negative) ≡ t
    → (n * 10 + (b - 48) ≤ greatest negative → DigitsTell negative start (n * 10 + (b - 48)) bytes r)
    → DigitsTell negative start n (b ∷ bytes) (cond d (cond t r (Err (big_number start))) (Ok (signed negative n, input at (b ∷ bytes))))
tell_digit negative start n at b bytes r true true fits d t more = tell_more negative start n b bytes r d (more (leb-true _ _ t))
tell_digit negative start n at b bytes r true false fits d t more =
    let h = more_digits (n * 10 + (b - 48)) bytes in
    let big : greatest negative < h.total = omega (arith, leb-false _ _ t, h.grown) in
    (refl, h.total, h.rest, digit d h.digits, big)
tell_digit negative start n at b bytes r false t fits d e more = (n, last d, fits, refl)

digits_tell : (negative : Bool) (start n at : ℕ) (bytes : List ℕ) → n ≤ greatest negative
    → DigitsTell negative start n bytes (digits_at negative start n at bytes)
digits_tell negative start n at [] fits = (n, last tt, fits, refl)
digits_tell negative start n at (b ∷ bytes) fits =
    tell_digit negative start n at b bytes (digits_at negative start (n * 10 + (b - 48)) (at + 1) bytes) (is_ascii_digit b) _ fits refl refl
    (λ m. digits_tell negative start (n * 10 + (b - 48)) (at + 1) bytes m)

-- what reading an amount says of the bytes
abbrev AmountTells : Bool → ℕ → List ℕ → Result (ℤ × Input) Fault → Type 0
AmountTells negative start bytes (Ok x) = (m : ℕ) × Amount m bytes x.1.rest × (m ≤ greatest negative) × (x.0 ≡ signed negative m)
AmountTells negative start bytes (Err fault) =
    ((fault ≡ no_number start) × NoDigit bytes) ⊎ ((fault ≡ big_number start) × (m : ℕ) × (rest : List ℕ) × Amount m bytes rest × (greatest negative < m))

tell_first : (negative : Bool) (start b : ℕ) (bytes : List ℕ) (r : Result (ℤ × Input) Fault) (d : Bool) → is_ascii_digit b ≡ d
    → DigitsTell negative start (b - 48) bytes r → AmountTells negative start (b ∷ bytes) (cond d r (Err (no_number start)))
tell_first negative start b bytes (Ok x) true e h = (h.0, (e, h.1), h.2, h.3)
tell_first negative start b bytes (Err fault) true e h = inr (h.0, h.1, h.2, (e, h.3), h.4)
tell_first negative start b bytes r false e h = inl (refl, e)

-- one digit is no more than a number of 32 bits can hold
digit_fits : (negative : Bool) (b : ℕ) → is_ascii_digit b ≡ true → b - 48 ≤ greatest negative
digit_fits true b e = omega (arith, leb-true b 57 (and_parts (leb 48 b) (leb b 57) e).1)
digit_fits false b e = omega (arith, leb-true b 57 (and_parts (leb 48 b) (leb b 57) e).1)

amount_tells : (negative : Bool) (start at : ℕ) (bytes : List ℕ) → AmountTells negative start bytes (amount_at negative start at bytes)
amount_tells negative start at [] = inl (refl, tt)
amount_tells negative start at (b ∷ bytes) = by_first (is_ascii_digit b) refl
  where
    by_first : (d : Bool) → is_ascii_digit b ≡ d → AmountTells negative start (b ∷ bytes) (cond d (digits_at negative start (b - 48) (at + 1) bytes) (Err (no_number start)))
    by_first true e = tell_first negative start b bytes (digits_at negative start (b - 48) (at + 1) bytes) true e (digits_tell negative start (b - 48) (at + 1) bytes (digit_fits negative b e))
    by_first false e = inl (refl, e)

-- what reading a number without whitespace says of the bytes
abbrev BytesTell : ℕ → List ℕ → Result (ℤ × Input) Fault → Type 0
BytesTell start bytes (Ok x) = BeginsNumber x.0 x.1.rest bytes
BytesTell start bytes (Err fault) = ((fault ≡ no_number start) × NoNumber bytes) ⊎ ((fault ≡ big_number start) × BigNumber bytes)

-- a spelling of an amount with a sign is one of a number
tell_signed : (negative : Bool) (start : ℕ) (whole bytes : List ℕ) (r : Result (ℤ × Input) Fault)
    → ((m : ℕ) (rest : List ℕ) → Amount m bytes rest → Signed negative m whole rest) → (NoDigit bytes → NoNumber whole)
    → AmountTells negative start bytes r → BytesTell start whole r
tell_signed negative start whole bytes (Ok x) spelled missing h =
    record { negative = negative; amount = h.0; spelled = spelled h.0 x.1.rest h.1; fits = h.2; value = h.3 }
tell_signed negative start whole bytes (Err fault) spelled missing (inl h) = inl (h.0, missing h.1)
tell_signed negative start whole bytes (Err fault) spelled missing (inr h) =
    inr (h.0, record { negative = negative; amount = h.1; rest = h.2; spelled = spelled h.1 h.2 h.3; exceeds = h.4 })

-- the number that is read from a sign on
abbrev from_sign : ℕ → Bool × Input → Result (ℤ × Input) Fault
from_sign start sign = amount_at sign.0 start sign.1.at sign.1.rest

-- after a sign or without one, a number that is read is spelled so, or its fault stands
sign_tells : (start at b : ℕ) (bytes : List ℕ) → is_whitespace b ≡ false → (m p : Bool) → eqb b 45 ≡ m → eqb b 43 ≡ p
    → BytesTell start (b ∷ bytes) (from_sign start (cond m (true, input (at + 1) bytes) (cond p (false, input (at + 1) bytes) (false, input at (b ∷ bytes)))))
sign_tells start at b bytes first true p e f =
    let is45 : 45 ≡ b = sym (eqb-true _ _ e) in
    subst (λ (c : ℕ). BytesTell start (c ∷ bytes) (amount_at true start (at + 1) bytes)) is45
    (tell_signed true start (45 ∷ bytes) bytes (amount_at true start (at + 1) bytes) (λ m rest a. minus a) (λ h. (refl, refl, λ _. h)) (amount_tells true start (at + 1) bytes))
sign_tells start at b bytes first false true e f =
    let is43 : 43 ≡ b = sym (eqb-true _ _ f) in
    subst (λ (c : ℕ). BytesTell start (c ∷ bytes) (amount_at false start (at + 1) bytes)) is43
    (tell_signed false start (43 ∷ bytes) bytes (amount_at false start (at + 1) bytes) (λ m rest a. plus a) (λ h. (refl, refl, λ _. h)) (amount_tells false start (at + 1) bytes))
sign_tells start at b bytes first false false e f =
    tell_signed false start (b ∷ bytes) (b ∷ bytes) (amount_at false start at (b ∷ bytes)) (λ m rest a. bare a)
    (λ h. (first, h, λ sign. absurd (no_sign sign))) (amount_tells false start at (b ∷ bytes))
  where
    no_sign : (eqb b 43 || eqb b 45) ≡ true → ⊥
    no_sign sign = both_ways _ (or_from _ _ f e) sign

bytes_tell : (start at : ℕ) (bytes : List ℕ) → NoWhitespace bytes → BytesTell start bytes (from_sign start (past_sign at bytes))
bytes_tell start at [] first = inl (refl, tt)
bytes_tell start at (b ∷ bytes) first = sign_tells start at b bytes first (eqb b 45) (eqb b 43) refl refl

-- what reading gives: a spelling, or a fault with its place
abbrev NumberTells : Input → Result (ℤ × Input) Fault → Type 0
NumberTells s (Ok x) = Number x.0 s.rest x.1.rest
NumberTells s (Err fault) = NumberFault s fault

tell_after : (s start : Input) (r : Result (ℤ × Input) Fault) → ((P : List ℕ → Type 0) → Skipped P s.at s.rest start)
    → BytesTell start.at start.rest r → NumberTells s r
tell_after s start (Ok x) whitespace h = let k = whitespace (BeginsNumber x.0 x.1.rest) in (k.count, k.after h)
tell_after s start (Err fault) whitespace (inl h) = let k = whitespace NoNumber in subst (λ (f : Fault). NumberFault s f) (sym h.0) (k.count, k.after h.1, k.place)
tell_after s start (Err fault) whitespace (inr h) = let k = whitespace BigNumber in subst (λ (f : Fault). NumberFault s f) (sym h.0) (k.count, k.after h.1, k.place)

number_tells : (s : Input) → NumberTells s (number_at s)
unfolding number_at
number_tells s =
    let start = past_whitespace s.at s.rest in
    tell_after s start (from_sign start.at (past_sign start.at start.rest)) (λ P. skipped P s.at s.rest)
    (bytes_tell start.at start.at start.rest (NoWhitespace-past_whitespace s.at s.rest))

pub number_is_spelled : NumberIsSpelled
number_is_spelled s after z e = subst (λ (r : Result (ℤ × Input) Fault). NumberTells s r) e (number_tells s)

-- ---- what is so spelled is read

-- digits make no less of an amount
Digits-le : {n m : ℕ} {bytes rest : List ℕ} → Digits n m bytes rest → n ≤ m
Digits-le (last h) = omega arith
Digits-le (digit e h) = omega (arith, Digits-le h)

-- a reading gives this value, and leaves this rest
abbrev Reads : ℤ → List ℕ → Result (ℤ × Input) Fault → Type 0
Reads z rest r = (after : Input) × (after.rest ≡ rest) × (r ≡ Ok (z, after))

module _ (negative : Bool) (start : ℕ) where
  ends_here : (n at : ℕ) (rest : List ℕ) → NoDigit rest → Reads (signed negative n) rest (digits_at negative start n at rest)
  ends_here n at [] h = (input at [], refl, refl)
  ends_here n at (b ∷ bytes) h = (input at (b ∷ bytes), refl, rw h refl)

  digits_read : {n m : ℕ} {bytes rest : List ℕ} → Digits n m bytes rest → m ≤ greatest negative → (at : ℕ)
      → Reads (signed negative m) rest (digits_at negative start n at bytes)
  digits_read (last {n = n} {rest = rest} h) fits at = ends_here n at rest h
  digits_read (digit {n = n} {m = m} {b = b} {bytes = bytes} e h) fits at =
      let more = digits_read h fits (at + 1) in
      let t : leb (n * 10 + (b - 48)) (greatest negative) ≡ true = le-leb _ _ (omega (arith, Digits-le h)) in
      (more.0, more.1, rw (e, t) more.2)

  -- digits of an amount that 32 bits can't hold are answered as a number that is too big
  digits_exceed : {n m : ℕ} {bytes rest : List ℕ} → Digits n m bytes rest → n ≤ greatest negative → greatest negative < m → (at : ℕ)
      → digits_at negative start n at bytes ≡ Err (big_number start)
  digits_exceed (last h) fits big at = absurd (omega arith)
  digits_exceed (digit {n = n} {m = m} {b = b} {bytes = bytes} {rest = rest} e h) fits big at =
      exceed_digit n m b at bytes e (leb (n * 10 + (b - 48)) (greatest negative)) refl (λ less. digits_exceed h less big (at + 1))
    where
      exceed_digit : (n m b at : ℕ) (bytes : List ℕ) → is_ascii_digit b ≡ true → (t : Bool) → leb (n * 10 + (b - 48)) (greatest negative) ≡ t
          → (n * 10 + (b - 48) ≤ greatest negative → digits_at negative start (n * 10 + (b - 48)) (at + 1) bytes ≡ Err (big_number start))
          → digits_at negative start n at (b ∷ bytes) ≡ Err (big_number start)
      exceed_digit n m b at bytes e true t more = rw (e, t) (more (leb-true _ _ t))
      exceed_digit n m b at bytes e false t more = rw (e, t) refl

  amount_reads : (m at : ℕ) (bytes rest : List ℕ) → Amount m bytes rest → m ≤ greatest negative
      → Reads (signed negative m) rest (amount_at negative start at bytes)
  amount_reads m at [] rest a fits = absurd a
  amount_reads m at (b ∷ bytes) rest a fits = let h = digits_read a.1 fits (at + 1) in (h.0, h.1, rw a.0 h.2)

  amount_exceeds : (m at : ℕ) (bytes rest : List ℕ) → Amount m bytes rest → greatest negative < m
      → amount_at negative start at bytes ≡ Err (big_number start)
  amount_exceeds m at [] rest a big = absurd a
  amount_exceeds m at (b ∷ bytes) rest a big = rw a.0 (digits_exceed a.1 (digit_fits negative b a.0) big (at + 1))

  amount_misses : (at : ℕ) (bytes : List ℕ) → NoDigit bytes → amount_at negative start at bytes ≡ Err (no_number start)
  amount_misses at [] h = refl
  amount_misses at (b ∷ bytes) h = rw h refl

-- a digit is neither a sign nor a byte of whitespace
pub record IsNoSign (b : ℕ) : Type 0 where
  pub minus_no : eqb b 45 ≡ false
  pub plus_no : eqb b 43 ≡ false
  pub space_no : is_whitespace b ≡ false

pub digit_no_sign : (b : ℕ) → is_ascii_digit b ≡ true → IsNoSign b
digit_no_sign b e =
    let low : 48 ≤ b = leb-true 48 b (and_parts (leb 48 b) (leb b 57) e).0 in
    record {
      minus_no = ne_eqb b 45 (λ (h : b ≡ 45). omega arith);
      plus_no = ne_eqb b 43 (λ (h : b ≡ 43). omega arith);
      space_no = or_from _ _ (and_right _ _ (lt-leb b 13 (omega arith))) (ne_eqb b 32 (λ (h : b ≡ 32). omega arith));
    }

sign_reads : {negative : Bool} {n : ℕ} {bytes rest : List ℕ} → Signed negative n bytes rest → n ≤ greatest negative → (start at : ℕ)
    → Reads (signed negative n) rest (from_sign start (past_sign at bytes))
sign_reads (plus {n = n} {bytes = bytes} {rest = rest} a) fits start at = amount_reads false start n (at + 1) bytes rest a fits
sign_reads (minus {n = n} {bytes = bytes} {rest = rest} a) fits start at = amount_reads true start n (at + 1) bytes rest a fits
sign_reads (bare {n = n} {bytes = bytes} {rest = rest} a) fits start at = bare_reads n bytes rest a fits start at
  where
    bare_reads : (n : ℕ) (bytes rest : List ℕ) → Amount n bytes rest → n ≤ greatest false → (start at : ℕ) → Reads (pos n) rest (from_sign start (past_sign at bytes))
    bare_reads n [] rest a fits start at = absurd a
    bare_reads n (b ∷ bytes) rest a fits start at =
        let h = digit_no_sign b a.0 in rw (h.minus_no, h.plus_no) (amount_reads false start n at (b ∷ bytes) rest a fits)

sign_exceeds : {negative : Bool} {n : ℕ} {bytes rest : List ℕ} → Signed negative n bytes rest → greatest negative < n → (start at : ℕ)
    → from_sign start (past_sign at bytes) ≡ Err (big_number start)
sign_exceeds (plus {n = n} {bytes = bytes} {rest = rest} a) big start at = amount_exceeds false start n (at + 1) bytes rest a big
sign_exceeds (minus {n = n} {bytes = bytes} {rest = rest} a) big start at = amount_exceeds true start n (at + 1) bytes rest a big
sign_exceeds (bare {n = n} {bytes = bytes} {rest = rest} a) big start at = bare_exceeds n bytes rest a big start at
  where
    bare_exceeds : (n : ℕ) (bytes rest : List ℕ) → Amount n bytes rest → greatest false < n → (start at : ℕ) → from_sign start (past_sign at bytes) ≡ Err (big_number start)
    bare_exceeds n [] rest a big start at = absurd a
    bare_exceeds n (b ∷ bytes) rest a big start at =
        let h = digit_no_sign b a.0 in rw (h.minus_no, h.plus_no) (amount_exceeds false start n at (b ∷ bytes) rest a big)

sign_misses : (start at : ℕ) (bytes : List ℕ) → NoNumber bytes → from_sign start (past_sign at bytes) ≡ Err (no_number start)
sign_misses start at [] h = refl
sign_misses start at (b ∷ bytes) h = by_sign (eqb b 45) (eqb b 43) refl refl
  where
    by_sign : (m p : Bool) → eqb b 45 ≡ m → eqb b 43 ≡ p
        → from_sign start (cond m (true, input (at + 1) bytes) (cond p (false, input (at + 1) bytes) (false, input at (b ∷ bytes)))) ≡ Err (no_number start)
    by_sign true p e f = amount_misses true start (at + 1) bytes (h.2 (or_right _ _ e))
    by_sign false true e f = amount_misses false start (at + 1) bytes (h.2 (or_left _ _ f))
    by_sign false false e f = amount_misses false start at (b ∷ bytes) h.1

NoWhitespace-signed : {negative : Bool} {n : ℕ} {bytes rest : List ℕ} → Signed negative n bytes rest → NoWhitespace bytes
NoWhitespace-signed (plus a) = refl
NoWhitespace-signed (minus a) = refl
NoWhitespace-signed (bare {n = n} {bytes = bytes} {rest = rest} a) = of_amount n bytes rest a
  where
    of_amount : (n : ℕ) (bytes rest : List ℕ) → Amount n bytes rest → NoWhitespace bytes
    of_amount n [] rest a = absurd a
    of_amount n (b ∷ bytes) rest a = (digit_no_sign b a.0).space_no

-- what is read from the first byte after the whitespace on
abbrev from_whitespace : Input → Result (ℤ × Input) Fault
from_whitespace start = from_sign start.at (past_sign start.at start.rest)

pub spelled_number_is_read : SpelledNumberIsRead
unfolding number_at
spelled_number_is_read s z rest h =
    let f = found (BeginsNumber z rest) (λ b bytes p. NoWhitespace-signed p.spelled) s.at h.1 in
    let read = sign_reads f.1.spelled f.1.fits (s.at + h.0) (s.at + h.0) in
    let there : Reads z rest (from_whitespace (input (s.at + h.0) f.0)) = subst (λ (y : ℤ). Reads y rest (from_whitespace (input (s.at + h.0) f.0))) (sym f.1.value) read in
    subst (λ (start : Input). Reads z rest (from_whitespace start)) (sym f.2) there

-- a fault that stands where a number is to be read is answered
exact : (s : Input) (fault : Fault) → NumberFault s fault → number_at s ≡ Err fault
unfolding number_at
exact s (no_number place) h =
    let f = found NoNumber (λ b bytes p. p.0) s.at h.1 in
    let there = sign_misses (s.at + h.0) (s.at + h.0) f.0 f.1 in
    rw h.2 (subst (λ (start : Input). from_whitespace start ≡ Err (no_number (s.at + h.0))) (sym f.2) there)
exact s (big_number place) h =
    let f = found BigNumber (λ b bytes p. NoWhitespace-signed p.spelled) s.at h.1 in
    let there = sign_exceeds f.1.spelled f.1.exceeds (s.at + h.0) (s.at + h.0) in
    rw h.2 (subst (λ (start : Input). from_whitespace start ≡ Err (big_number (s.at + h.0))) (sym f.2) there)
exact s (no_quote place) h = absurd h
exact s (open_string place) h = absurd h
exact s (long_string place) h = absurd h

pub number_fault_is_exact : NumberFaultIsExact
number_fault_is_exact s fault =
    (λ e. subst (λ (r : Result (ℤ × Input) Fault). NumberTells s r) e (number_tells s), exact s fault)
