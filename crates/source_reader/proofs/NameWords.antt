-- Words with a digit as their second byte are names.
use Rattle.std.proofs.Common.{◌≡◌, ℕ, suc, ◌+◌, ◌≤◌, get_or, not, Bool, true, false, ltb, List, [], ◌∷◌, length, None, refl, ap, ◌∙◌, arith}
use Rattle.std.specs.List.{list_all, position_or_len}
use Rattle.std.specs.Str.{bytes_eq}
use Rattle.std.specs.Char.{is_ascii_digit}
use Rattle.std.proofs.lemmas.Bool.{and_parts, cond-true, cond-false, le-ltb, not_from_true, not_from_false, false_from_ne_true}
use Rattle.std.proofs.lemmas.Slice.Eq.{bytes_eq-Decides}
use Rattle.source_reader.specs.Names.{among, condition_words, opcode_words, other_words, is_name}

-- no word of the language has a digit as its second byte
abbrev no_second_digit : List ℕ → Bool
no_second_digit (a ∷ b ∷ bytes) = not (is_ascii_digit b)
no_second_digit _ = true

others-right : list_all no_second_digit other_words ≡ true
others-right = refl

conditions-right : list_all no_second_digit condition_words ≡ true
conditions-right = refl

opcodes-right : list_all no_second_digit opcode_words ≡ true
opcodes-right = refl

other_word : (w word : List ℕ) → no_second_digit w ≡ true → no_second_digit word ≡ false → bytes_eq w word ≡ false
other_word w word h k =
    false_from_ne_true (bytes_eq w word) (λ e. let same : w ≡ word = (bytes_eq-Decides w word).0 e in
    let both : no_second_digit w ≡ no_second_digit word = ap no_second_digit same in absurd (cc))

passed_all : (words : List (List ℕ)) (word : List ℕ) → list_all no_second_digit words ≡ true → no_second_digit word ≡ false
    → position_or_len (λ w. bytes_eq w word) words ≡ length words
passed_all [] word all k = refl
passed_all (w ∷ words) word all k =
    let parts = and_parts (no_second_digit w) (list_all no_second_digit words) all in
    let others = passed_all words word parts.1 k in
    let more : 1 + position_or_len (λ w. bytes_eq w word) words ≡ suc (length words) = omega arith in
    cond-true (not (bytes_eq w word)) _ _ (not_from_false (bytes_eq w word) (other_word w word parts.0 k)) ∙ more

none-among : (words : List (List ℕ)) (word : List ℕ) → list_all no_second_digit words ≡ true → no_second_digit word ≡ false → among words word ≡ None
none-among words word all k =
    let at = position_or_len (λ w. bytes_eq w word) words in
    let end = passed_all words word all k in cond-false (ltb at (length words)) _ _ (le-ltb at (length words) (omega arith))

name-by : (word : List ℕ) → no_second_digit word ≡ false → is_name word ≡ true
unfolding is_name
name-by word k =
    rw (none-among other_words word others-right k, none-among condition_words word conditions-right k, none-among opcode_words word opcodes-right k) refl

pub name_digit : (a b : ℕ) (bytes : List ℕ) → is_ascii_digit b ≡ true → is_name (a ∷ b ∷ bytes) ≡ true
name_digit a b bytes digit = name-by (a ∷ b ∷ bytes) (not_from_true (is_ascii_digit b) digit)

pub name_second : (word : List ℕ) → 2 ≤ length word → is_ascii_digit (get_or word 1 0) ≡ true → is_name word ≡ true
name_second [] h digit = absurd (omega arith)
name_second (a ∷ []) h digit = absurd (omega arith)
name_second (a ∷ b ∷ bytes) h digit = name_digit a b bytes digit
