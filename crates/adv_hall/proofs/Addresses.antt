-- The line that a session is given is the rest of the hall's line.
use Rattle.std.proofs.Common.{◌≡◌, ◌∙◌, ℕ, zero, suc, ◌+◌, ◌-◌, min, List, [], ◌∷◌, length, drop, map, take, Some, refl, sym, ap, arith, length-drop}
use Rattle.std.specs.Prelude.{IsTrue}
use Rattle.std.specs.List.{list_all}
use Rattle.std.proofs.lemmas.Bool.{and_parts}
use Rattle.std.proofs.lemmas.List.{take_all}
use Rattle.adv_io.specs.TypedLine.{IsTyped, line_byte, is_line_byte}
use Rattle.adv_io.proofs.TypedLines.{line-again}
use Rattle.scott_rules.specs.Commands.{Span, next_word, word_at}
use Rattle.adv_hall.specs.Address.{number_among, addressed, address_by, address_of}

all-drop : (n : ℕ) (bytes : List ℕ) → IsTrue (list_all is_line_byte bytes)
    → IsTrue (list_all is_line_byte (drop n bytes))
all-drop zero bytes all = all
all-drop (suc n) [] all = refl
all-drop (suc n) (b ∷ bytes) all = all-drop n bytes
    (and_parts (is_line_byte b) (list_all is_line_byte bytes) all).1

typed-rest : (n : ℕ) (line : List ℕ) → IsTyped line → IsTyped (drop n line)
typed-rest n line typed = record {
  short = omega (arith, length-drop n line, typed.short);
  lower = all-drop n line typed.lower;
}

-- to drop more than there is is to drop all
drop-min : (n : ℕ) (line : List ℕ) → drop (min n (length line)) line ≡ drop n line
drop-min zero line = ap (λ m. drop m line) (let e : min 0 (length line) ≡ 0 = omega arith in e)
drop-min (suc n) [] = ap (λ m. drop m []) (let e : min (suc n) 0 ≡ 0 = omega arith in e)
drop-min (suc n) (b ∷ line) =
    let e : min (suc n) (suc (length line)) ≡ suc (min n (length line)) = omega arith in
    rw e (drop-min n line)

-- a line that is typed again from a place on
pub rest-again : (line bytes : List ℕ) (n from : ℕ) → bytes ≡ line → IsTyped line
    → from ≡ min n (length bytes)
    → map line_byte (take 120 (take (length bytes - from) (drop from bytes))) ≡ drop n line
rest-again line bytes n from same typed is =
    let whole = take_all (length bytes - from) (drop from bytes)
    (omega (arith, length-drop from bytes)) in
    let place : drop from bytes ≡ drop n line =
    ap (λ m. drop m bytes) is ∙ drop-min n bytes ∙ ap (drop n) same in
    ap (λ t. map line_byte (take 120 t)) (whole ∙ place)
    ∙ line-again (drop n line) (typed-rest n line typed)

pub address-found : (count : ℕ) (line : List ℕ) (span : Span) (k : ℕ) (given : List ℕ)
    → next_word line 0 ≡ Some span → Some k ≡ number_among count (word_at line span)
    → given ≡ drop (span.0 + span.1 + 1) line → Some (record { session = k; line = given })
    ≡ address_of count line
address-found count line span k given first number is =
    ap (λ l. Some (record { session = k; line = l })) is
    ∙ ap (addressed line span) number
    ∙ ap (address_by count line) (sym first)
