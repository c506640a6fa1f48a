-- What is read of bytes stays when more bytes follow them, where it doesn't hang on their end.
use Rattle.std.proofs.Common.{◌≡◌, ℕ, ◌+◌, ◌-◌, ◌*◌, ◌≤◌, Bool, true, false, cond, eqb, leb, ltb, List, [], ◌∷◌, ◌++◌, length, Result, ℤ, refl, arith}
use Rattle.std.specs.Char.{is_ascii_digit}
use Rattle.adv_io.specs.Text.{is_whitespace}
use Rattle.adv_text.specs.Spelling.{greatest}
use Rattle.adv_text.specs.Reading.{Input, Fault, past_whitespace, past_sign, digits_at, amount_at, number_at, inside_at, opening_at, quoted_at}
use Rattle.adv_text.specs.Laws.{Stays, NumberStays, StringStays}

-- ---- choices

module _ {X : Type 0} (more : List ℕ) (end : ℕ) where
  choose : (test : Bool) (a b c d : Result (X × Input) Fault) → Stays more end a c → Stays more end b d → Stays more end (cond test a b) (cond test c d)
  choose true a b c d h k = h
  choose false a b c d h k = k

  -- the same of what is read from one of two places
  choose_from : {S : Type 0} (read : S → Result (X × Input) Fault) (test : Bool) (a b c d : S) → Stays more end (read a) (read c) → Stays more end (read b) (read d)
      → Stays more end (read (cond test a b)) (read (cond test c d))
  choose_from read true a b c d h k = h
  choose_from read false a b c d h k = k

module _ (more : List ℕ) where
  digits_stay : (negative : Bool) (start n at end : ℕ) (bytes : List ℕ) → Stays more end (digits_at negative start n at bytes) (digits_at negative start n at (bytes ++ more))
  digits_stay negative start n at end [] = λ followed. absurd (omega arith)
  digits_stay negative start n at end (b ∷ bytes) =
      let m = n * 10 + (b - 48) in
      choose more end (is_ascii_digit b) _ _ _ _
      (choose more end (leb m (greatest negative)) _ _ _ _ (digits_stay negative start m (at + 1) end bytes) (λ settled. refl))
      (λ followed. refl)

  amount_stays : (negative : Bool) (start at end : ℕ) (bytes : List ℕ) → at ≤ start + 1 → at + length bytes ≡ end
      → Stays more end (amount_at negative start at bytes) (amount_at negative start at (bytes ++ more))
  amount_stays negative start at end [] near is = λ settled. absurd (omega (arith, near, is, settled))
  amount_stays negative start at end (b ∷ bytes) near is =
      choose more end (is_ascii_digit b) _ _ _ _ (digits_stay negative start (b - 48) (at + 1) end bytes) (λ settled. refl)

  abbrev from_sign : ℕ → Bool × Input → Result (ℤ × Input) Fault
  from_sign start sign = amount_at sign.0 start sign.1.at sign.1.rest

  signed_stays : (at end : ℕ) (bytes : List ℕ) → at + length bytes ≡ end → Stays more end (from_sign at (past_sign at bytes)) (from_sign at (past_sign at (bytes ++ more)))
  signed_stays at end [] is = λ settled. absurd (omega (arith, is, settled))
  signed_stays at end (b ∷ bytes) is =
      choose_from more end (from_sign at) (eqb b 45) _ _ _ _ (amount_stays true at (at + 1) end bytes (omega arith) (omega (arith, is)))
      (choose_from more end (from_sign at) (eqb b 43) _ _ _ _ (amount_stays false at (at + 1) end bytes (omega arith) (omega (arith, is)))
      (amount_stays false at at end (b ∷ bytes) (omega arith) is))

  abbrev from_start : Input → Result (ℤ × Input) Fault
  from_start start = from_sign start.at (past_sign start.at start.rest)

  number_from : (at end : ℕ) (bytes : List ℕ) → at + length bytes ≡ end → Stays more end (from_start (past_whitespace at bytes)) (from_start (past_whitespace at (bytes ++ more)))
  number_from at end [] is = λ settled. absurd (omega (arith, is, settled))
  number_from at end (b ∷ bytes) is =
      choose_from more end from_start (is_whitespace b) _ _ _ _ (number_from (at + 1) end bytes (omega (arith, is))) (signed_stays at end (b ∷ bytes) is)

  -- what is read inside a string stays when more bytes follow, where it doesn't hang on the end
  inside_stays : (opened : ℕ) (held : Bool) (kept : List ℕ) (at end : ℕ) (bytes : List ℕ)
      → Stays more end (inside_at opened held kept at bytes) (inside_at opened held kept at (bytes ++ more))
  inside_stays opened true kept at end [] = λ followed. absurd (omega arith)
  inside_stays opened false kept at end [] = λ settled. absurd settled
  inside_stays opened held kept at end (b ∷ bytes) =
      choose more end (eqb b 34) _ _ _ _
      (choose more end held _ _ _ _
      (choose more end (ltb (length kept) 4096) _ _ _ _ (inside_stays opened false (kept ++ 34 ∷ []) (at + 1) end bytes) (λ settled. refl))
      (inside_stays opened true kept (at + 1) end bytes))
      (choose more end held _ _ _ _ (λ followed. refl)
      (choose more end (eqb b 13) _ _ _ _ (inside_stays opened false kept (at + 1) end bytes)
      (choose more end (ltb (length kept) 4096) _ _ _ _ (inside_stays opened false (kept ++ cond (eqb b 96) 34 b ∷ []) (at + 1) end bytes) (λ settled. refl))))

  opening_stays : (at end : ℕ) (bytes : List ℕ) → at + length bytes ≡ end → Stays more end (opening_at at bytes) (opening_at at (bytes ++ more))
  opening_stays at end [] is = λ settled. absurd (omega (arith, is, settled))
  opening_stays at end (b ∷ bytes) is =
      choose more end (eqb b 34) _ _ _ _ (inside_stays at false [] (at + 1) end bytes) (λ settled. refl)

  abbrev from_opening : Input → Result (List ℕ × Input) Fault
  from_opening start = opening_at start.at start.rest

  string_from : (at end : ℕ) (bytes : List ℕ) → at + length bytes ≡ end → Stays more end (from_opening (past_whitespace at bytes)) (from_opening (past_whitespace at (bytes ++ more)))
  string_from at end [] is = λ settled. absurd (omega (arith, is, settled))
  string_from at end (b ∷ bytes) is =
      choose_from more end from_opening (is_whitespace b) _ _ _ _ (string_from (at + 1) end bytes (omega (arith, is))) (opening_stays at end (b ∷ bytes) is)

pub number_stays : NumberStays
unfolding number_at
number_stays s more = number_from more s.at (s.at + length s.rest) s.rest refl

pub string_stays : StringStays
unfolding quoted_at
string_stays s more = string_from more s.at (s.at + length s.rest) s.rest refl
