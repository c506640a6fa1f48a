-- What was written is spelled as it should be.
use Rattle.std.proofs.Common.{◌≡◌, ℕ, suc, ◌+◌, ◌-◌, ◌*◌, ◌≤◌, ◌<◌, ◌^◌, Bool, true, false, cond, eqb, leb, List, [], ◌∷◌, ◌++◌, length, pos, negsuc, refl, sym, subst, append_assoc, arith, rules}
use Rattle.std.specs.Char.{is_ascii_digit}
use Rattle.std.specs.List.{flat_map, list_all}
use Rattle.std.specs.Str.{all_ascii_digits}
use Rattle.std.specs.Fmt.{decimal}
use Rattle.std.proofs.lemmas.Bool.{eqb-true, and_parts, or_from, leb-true, not-true, not_from_false}
use Rattle.std.proofs.lemmas.List.Concat.{flat_map-cons}
use Rattle.std.proofs.lemmas.Str.Parse.{IsNumeralModel, numerals_by_fold}
use Rattle.std.proofs.lemmas.Fmt.{digits_decimal, digits_value-decimal, decimal_nonempty}
use Rattle.std.proofs.lemmas.Int.{ints}
use Rattle.adv_text.specs.Spelling.{here, NoDigit, Digits, last, digit, Amount, bare, minus, Inside, plain, two_quotes}
use Rattle.adv_io.specs.Text.{is_text_byte}
use Rattle.adv_text.specs.Writing.{byte_text}
use Rattle.adv_text.specs.Laws.{WrittenNumberIsSpelled, WrittenStringIsSpelled}

-- ---- numbers

-- what digits make of an amount before them
abbrev value_after : ℕ → List ℕ → ℕ
value_after n [] = n
value_after n (b ∷ bytes) = value_after (n * 10 + (b - 48)) bytes

own : IsNumeralModel (λ ds. all_ascii_digits ds ≡ true) (value_after 0)
own = numerals_by_fold _ (search rules) value_after (search rules)

-- digits, and no digit after them, are a spelling of what they make
Digits-all : (ds rest : List ℕ) (n : ℕ) → all_ascii_digits ds ≡ true → NoDigit rest → Digits n (value_after n ds) (ds ++ rest) rest
Digits-all [] rest n all h = last h
Digits-all (b ∷ ds) rest n all h =
    let parts = and_parts (is_ascii_digit b) (all_ascii_digits ds) all in
    digit parts.0 (Digits-all ds rest (n * 10 + (b - 48)) parts.1 h)

Amount-all : (ds rest : List ℕ) → all_ascii_digits ds ≡ true → 0 < length ds → NoDigit rest → Amount (value_after 0 ds) (ds ++ rest) rest
Amount-all [] rest all long h = absurd (omega arith)
Amount-all (b ∷ ds) rest all long h =
    let parts = and_parts (is_ascii_digit b) (all_ascii_digits ds) all in
    let first : 0 * 10 + (b - 48) ≡ b - 48 = omega arith in
    (parts.0, subst (λ (n : ℕ). Digits (b - 48) (value_after n ds) (ds ++ rest) rest) (sym first) (Digits-all ds rest (b - 48) parts.1 h))

Amount-decimal : (n : ℕ) (rest : List ℕ) → n < 2 ^ 64 → NoDigit rest → Amount n (decimal n ++ rest) rest
Amount-decimal n rest small h =
    subst (λ (m : ℕ). Amount m (decimal n ++ rest) rest) (digits_value-decimal own n small)
    (Amount-all (decimal n) rest (digits_decimal own n small) (decimal_nonempty n small) h)

-- an amount begins with a digit, and so does a number without a sign
pub written_number_is_spelled : WrittenNumberIsSpelled
written_number_is_spelled (pos n) rest range h =
    let fits : n ≤ 2147483647 = omega (arith, ints) in
    (0, here (record { negative = false; amount = n; spelled = bare (Amount-decimal n rest (omega arith) h); fits = fits; value = refl }))
written_number_is_spelled (negsuc n) rest range h =
    let fits : suc n ≤ 2147483648 = omega (arith, ints) in
    (0, here (record { negative = true; amount = suc n; spelled = minus (Amount-decimal (suc n) rest (omega arith) h); fits = fits; value = refl }))

-- ---- strings

Inside-byte : (b : ℕ) (text bytes rest : List ℕ) (q : Bool) → eqb b 34 ≡ q → is_text_byte b ≡ true → Inside text bytes rest
    → Inside (b ∷ text) (cond q (34 ∷ 34 ∷ []) (b ∷ []) ++ bytes) rest
Inside-byte b text bytes rest true e f h = subst (λ (c : ℕ). Inside (c ∷ text) (34 ∷ 34 ∷ bytes) rest) (sym (eqb-true b 34 e)) (two_quotes h)
Inside-byte b text bytes rest false e f h = plain (not_from_false _ (or_from _ _ e (not-true _ f))) h

Inside-text : (text rest : List ℕ) → list_all is_text_byte text ≡ true → Inside text (flat_map byte_text text ++ rest) rest
Inside-text [] rest h = here
Inside-text (b ∷ text) rest h =
    let parts = and_parts (is_text_byte b) (list_all is_text_byte text) h in
    let more = Inside-byte b text (flat_map byte_text text ++ rest) rest (eqb b 34) refl parts.0 (Inside-text text rest parts.1) in
    rw (flat_map-cons, append_assoc) more

pub written_string_is_spelled : WrittenStringIsSpelled
written_string_is_spelled text rest fits h =
    let parts = and_parts (leb (length text) 4096) (list_all is_text_byte text) fits in
    let inside : Inside text ((flat_map byte_text text ++ 34 ∷ []) ++ rest) (34 ∷ rest) = rw append_assoc (Inside-text text (34 ∷ rest) parts.1) in
    (0, here (refl, record { inside = inside; closed = h; short = leb-true _ _ parts.0 }))
