-- The words of the language, and names of a letter and a number.
use Rattle.std.proofs.Common.{◌≡◌, ℕ, ◌+◌, ◌-◌, ◌^◌, ◌≤◌, ◌<◌, ◌&&◌, not, Bool, true, false, eqb, List, [], ◌∷◌, length, Option, Some, None, refl, ap, subst, ◌∙◌, arith}
use Rattle.std.specs.Prelude.{codes}
use Rattle.std.specs.List.{list_all}
use Rattle.std.specs.Str.{bytes_eq}
use Rattle.std.specs.Char.{is_ascii_digit, is_ascii_alphabetic}
use Rattle.std.specs.Fmt.{decimal}
use Rattle.std.proofs.lemmas.Bool.{and_parts, and_from, or_left, le-leb, eqb-true, not-true, agree_below, agree_below_at}
use Rattle.std.proofs.lemmas.Fmt.{length-decimal-le, decimal_injective}
use Rattle.std.proofs.lemmas.Slice.Eq.{bytes_eq-Decides}
use Rattle.source_reader.specs.Tokens.{is_word_byte}
use Rattle.source_reader.specs.Names.{condition_code, opcode_number, condition_word, opcode_word, is_name}
use Rattle.source_reader.proofs.NameWords.{name_digit}
use Rattle.adv_decompiler.proofs.Decimals.{is_numeral, decimal-numeral}
use Rattle.adv_decompiler.proofs.Apart.{is_spelled_word}

-- ---- words of conditions and opcodes

abbrev is_number_of : ℕ → Option ℕ → Bool
is_number_of n (Some k) = eqb k n
is_number_of n None = false

number_of : (n : ℕ) (o : Option ℕ) → is_number_of n o ≡ true → o ≡ Some n
number_of n (Some k) h = ap (λ (j : ℕ). Some j) (eqb-true k n h)
number_of n None h = absurd (cc)

is_condition_word : ℕ → Bool
is_condition_word code = is_spelled_word (condition_word code) && is_number_of code (condition_code (condition_word code))

condition_words_right : agree_below is_condition_word (λ n. true) 20 ≡ true
unfolding is_condition_word condition_word
condition_words_right = refl

condition_word_right : (code : ℕ) → code < 20 → (is_spelled_word (condition_word code) ≡ true) × (is_number_of code (condition_code (condition_word code)) ≡ true)
unfolding is_condition_word
condition_word_right code h = and_parts _ _ (agree_below_at is_condition_word (λ n. true) 20 code condition_words_right h)

pub condition_word-spelled : (code : ℕ) → code < 20 → is_spelled_word (condition_word code) ≡ true
condition_word-spelled code h = (condition_word_right code h).0

pub condition_word-code : (code : ℕ) → code < 20 → condition_code (condition_word code) ≡ Some code
condition_word-code code h = number_of code (condition_code (condition_word code)) (condition_word_right code h).1

-- by a number from 0 on
is_opcode_word : ℕ → Bool
is_opcode_word k =
    is_spelled_word (opcode_word (k + 52))
    && (is_number_of (k + 52) (opcode_number (opcode_word (k + 52)))
    && (not (bytes_eq (opcode_word (k + 52)) (codes "say")) && not (bytes_eq (opcode_word (k + 52)) (codes "op"))))

opcode_words_right : agree_below is_opcode_word (λ n. true) 38 ≡ true
unfolding is_opcode_word opcode_word
opcode_words_right = refl

pub record IsOpcodeWord (n : ℕ) : Type 0 where
  pub spelled : is_spelled_word (opcode_word n) ≡ true
  pub number : opcode_number (opcode_word n) ≡ Some n
  pub no_say : bytes_eq (opcode_word n) (codes "say") ≡ false
  pub no_op : bytes_eq (opcode_word n) (codes "op") ≡ false

-- the word of an opcode from 52 to 89 is read as its number, and is neither `say` nor `op`
opcode_word-from_52 : (k : ℕ) → k < 38 → IsOpcodeWord (k + 52)
unfolding is_opcode_word
opcode_word-from_52 k h =
    let one = and_parts (is_spelled_word (opcode_word (k + 52))) _ (agree_below_at is_opcode_word (λ n. true) 38 k opcode_words_right h) in
    let two = and_parts (is_number_of (k + 52) (opcode_number (opcode_word (k + 52)))) _ one.1 in
    let three = and_parts (not (bytes_eq (opcode_word (k + 52)) (codes "say"))) _ two.1 in
    record {
      spelled = one.0;
      number = number_of (k + 52) (opcode_number (opcode_word (k + 52))) two.0;
      no_say = not-true (bytes_eq (opcode_word (k + 52)) (codes "say")) three.0;
      no_op = not-true (bytes_eq (opcode_word (k + 52)) (codes "op")) three.1;
    }

pub opcode_word-right : (n : ℕ) → 52 ≤ n → n < 90 → IsOpcodeWord n
opcode_word-right n low high =
    let e : n - 52 + 52 ≡ n = omega arith in subst IsOpcodeWord e (opcode_word-from_52 (n - 52) (omega arith))

-- ---- names: a letter and a number

digits-word : (bytes : List ℕ) → list_all is_ascii_digit bytes ≡ true → list_all is_word_byte bytes ≡ true
digits-word [] h = refl
digits-word (b ∷ bytes) h =
    let parts = and_parts (is_ascii_digit b) (list_all is_ascii_digit bytes) h in
    and_from _ _ (or_left _ _ (or_left _ _ (or_left _ _ parts.0))) (digits-word bytes parts.1)

numeral-word : (bytes : List ℕ) → is_numeral bytes ≡ true → list_all is_word_byte bytes ≡ true
numeral-word [] h = absurd (cc)
numeral-word (b ∷ bytes) h = digits-word (b ∷ bytes) h

numeral-name : (letter : ℕ) (bytes : List ℕ) → is_numeral bytes ≡ true → is_name (letter ∷ bytes) ≡ true
numeral-name letter [] h = absurd (cc)
numeral-name letter (b ∷ bytes) h = name_digit letter b bytes (and_parts (is_ascii_digit b) (list_all is_ascii_digit bytes) h).0

pub name-is_name : (letter n : ℕ) → n < 2 ^ 64 → is_name (letter ∷ decimal n) ≡ true
name-is_name letter n small = numeral-name letter (decimal n) (decimal-numeral n small)

pub name-spelled : (letter n : ℕ) → is_ascii_alphabetic letter ≡ true → n < 2 ^ 64 → is_spelled_word (letter ∷ decimal n) ≡ true
name-spelled letter n is small =
    let short : length (decimal n) ≤ 20 = length-decimal-le 20 n (omega arith) (omega arith) small in
    and_from _ _ is (and_from _ _ (numeral-word (decimal n) (decimal-numeral n small)) (le-leb (length (letter ∷ decimal n)) 32 (omega arith)))

-- a name is the name of one number
pub name-one : (letter m n : ℕ) → m < 2 ^ 64 → n < 2 ^ 64 → bytes_eq (letter ∷ decimal m) (letter ∷ decimal n) ≡ true → m ≡ n
name-one letter m n small_m small_n e =
    let same : letter ∷ decimal m ≡ letter ∷ decimal n = (bytes_eq-Decides (letter ∷ decimal m) (letter ∷ decimal n)).0 e in
    let digits : decimal m ≡ decimal n = cc in decimal_injective m n small_m small_n digits

pub name-same : (word : List ℕ) → bytes_eq word word ≡ true
name-same word = (bytes_eq-Decides word word).1 refl
