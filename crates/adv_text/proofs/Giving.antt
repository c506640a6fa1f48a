-- What a number and a string give, whatever file they stand in.
use Rattle.std.proofs.Common.{◌≡◌, ℕ, ◌≤◌, Bool, true, false, ◌||◌, eqb, List, [], ◌∷◌, ℤ, refl, sym, subst, arith}
use Rattle.std.specs.List.{list_all}
use Rattle.std.proofs.lemmas.Bool.{and_parts, and_from, or_parts, not-true, not_from_false, le-leb}
use Rattle.std.proofs.lemmas.Int.{ints}
use Rattle.adv_text.specs.Spelling.{AfterWhitespace, here, space, Digits, last, digit, Amount, Signed, bare, plus, minus, signed, greatest, BeginsNumber, Inside, plain, two_quotes, grave, return, Opened, Closes}
use Rattle.adv_io.specs.Text.{is_text_byte, is_text}
use Rattle.adv_text.specs.Laws.{Fits32, is_byte, AreBytes, NumberFits, StringIsText, NumberLeavesBytes, StringLeavesBytes}

-- ---- ranges

signed_fits : (negative : Bool) (n : ℕ) → n ≤ greatest negative → Fits32 (signed negative n)
signed_fits true n h = (omega (arith, ints), omega (arith, ints))
signed_fits false n h = (omega (arith, ints), omega (arith, ints))

-- what holds where whitespace ends holds where it begins
after_gives : (P : List ℕ → Type 0) (Q : Type 0) → ((bytes : List ℕ) → P bytes → Q) → {k : ℕ} {bytes : List ℕ} → AfterWhitespace P k bytes → Q
after_gives P Q step (here {bytes = bytes} h) = step bytes h
after_gives P Q step (space e h) = after_gives P Q step h

pub number_fits : NumberFits
number_fits z bytes rest h =
    after_gives (BeginsNumber z rest) (Fits32 z) (λ text begins. subst (λ (y : ℤ). Fits32 y) (sym begins.value) (signed_fits begins.negative begins.amount begins.fits)) h.1

-- ---- texts

Inside-is_text : {text bytes rest : List ℕ} → Inside text bytes rest → list_all is_text_byte text ≡ true
Inside-is_text here = refl
Inside-is_text (plain {b = b} e h) = and_from _ _ (not_from_false _ (or_parts (eqb b 34) (eqb b 13 || eqb b 96) (not-true _ e)).1) (Inside-is_text h)
Inside-is_text (two_quotes h) = Inside-is_text h
Inside-is_text (grave h) = Inside-is_text h
Inside-is_text (return h) = Inside-is_text h

opened_is_text : (text rest bytes : List ℕ) → Opened (Closes text rest) bytes → is_text text ≡ true
opened_is_text text rest [] h = absurd h
opened_is_text text rest (b ∷ bytes) h = and_from _ _ (le-leb _ _ h.1.short) (Inside-is_text h.1.inside)

pub string_is_text : StringIsText
string_is_text text bytes rest h = after_gives (Opened (Closes text rest)) (is_text text ≡ true) (opened_is_text text rest) h.1

-- ---- bytes

bytes_after : (b : ℕ) (bytes : List ℕ) → AreBytes (b ∷ bytes) → AreBytes bytes
bytes_after b bytes h = (and_parts (is_byte b) (list_all is_byte bytes) h).1

byte_first : (b : ℕ) (bytes : List ℕ) → AreBytes (b ∷ bytes) → is_byte b ≡ true
byte_first b bytes h = (and_parts (is_byte b) (list_all is_byte bytes) h).0

Digits-bytes : {n m : ℕ} {bytes rest : List ℕ} → Digits n m bytes rest → AreBytes bytes → AreBytes rest
Digits-bytes (last h) all = all
Digits-bytes (digit {b = b} {bytes = bytes} e h) all = Digits-bytes h (bytes_after b bytes all)

Amount-bytes : (n : ℕ) (bytes rest : List ℕ) → Amount n bytes rest → AreBytes bytes → AreBytes rest
Amount-bytes n [] rest h all = absurd h
Amount-bytes n (b ∷ bytes) rest h all = Digits-bytes h.1 (bytes_after b bytes all)

Signed-bytes : {negative : Bool} {n : ℕ} {bytes rest : List ℕ} → Signed negative n bytes rest → AreBytes bytes → AreBytes rest
Signed-bytes (bare {n = n} {bytes = bytes} {rest = rest} h) all = Amount-bytes n bytes rest h all
Signed-bytes (plus {n = n} {bytes = bytes} {rest = rest} h) all = Amount-bytes n bytes rest h (bytes_after 43 bytes all)
Signed-bytes (minus {n = n} {bytes = bytes} {rest = rest} h) all = Amount-bytes n bytes rest h (bytes_after 45 bytes all)

-- what holds of bytes holds of them after whitespace
after_bytes : (P : List ℕ → Type 0) (Q : Type 0) → ((bytes : List ℕ) → P bytes → AreBytes bytes → Q)
    → {k : ℕ} {bytes : List ℕ} → AfterWhitespace P k bytes → AreBytes bytes → Q
after_bytes P Q step (here {bytes = bytes} h) all = step bytes h all
after_bytes P Q step (space {b = b} {bytes = bytes} e h) all = after_bytes P Q step h (bytes_after b bytes all)

pub number_leaves_bytes : NumberLeavesBytes
number_leaves_bytes z bytes rest h all =
    after_bytes (BeginsNumber z rest) (AreBytes rest) (λ text begins of_bytes. Signed-bytes begins.spelled of_bytes) h.1 all

Inside-bytes : {text bytes rest : List ℕ} → Inside text bytes rest → AreBytes bytes → AreBytes text × AreBytes rest
Inside-bytes here all = (refl, all)
Inside-bytes (plain {b = b} {bytes = bytes} e h) all =
    let more = Inside-bytes h (bytes_after b bytes all) in (and_from _ _ (byte_first b bytes all) more.0, more.1)
Inside-bytes (two_quotes {bytes = bytes} h) all = Inside-bytes h all
Inside-bytes (grave {bytes = bytes} h) all = Inside-bytes h all
Inside-bytes (return {bytes = bytes} h) all = Inside-bytes h all

Opened-bytes : (text rest bytes : List ℕ) → Opened (Closes text rest) bytes → AreBytes bytes → AreBytes text × AreBytes rest
Opened-bytes text rest [] h all = absurd h
Opened-bytes text rest (b ∷ bytes) h all =
    let inside = Inside-bytes h.1.inside (bytes_after b bytes all) in (inside.0, bytes_after 34 rest inside.1)

pub string_leaves_bytes : StringLeavesBytes
string_leaves_bytes text bytes rest h all =
    after_bytes (Opened (Closes text rest)) (AreBytes text × AreBytes rest) (Opened-bytes text rest) h.1 all
