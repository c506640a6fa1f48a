-- Names, numbers, characters and strings as they are written, and whole lists of lexemes.
use Rattle.std.proofs.Common.{◌≡◌, ℕ, suc, ◌^◌, ◌+◌, ◌-◌, ◌≤◌, ◌<◌, Bool, true, false, not, cond, ◌&&◌, eqb, leb, ltb, List, [], ◌∷◌, ◌++◌, length, take, drop, map, Option, Some, None, Result, Ok, Err, refl, sym, ap, subst, ◌∙◌, arith, append_assoc, length-append}
use Rattle.std.specs.Prelude.{slice_index}
use Rattle.std.specs.Char.{to_ascii_lowercase}
use Rattle.std.specs.List.{prefix_len, list_all}
use Rattle.std.specs.Fmt.{decimal}
use Rattle.std.specs.Str.Parse.{digits_value}
use Rattle.std.proofs.lemmas.Bool.{and_parts, and_from, not-true, ltb-true, lt-ltb, le-leb}
use Rattle.std.proofs.lemmas.Bool.Decides.{nat_tests}
use Rattle.std.proofs.lemmas.List.{take_at, drop_at, drop-drop}
use Rattle.inform_tree.specs.Words.{is_number, is_character, is_text, is_reserved, begins_name, is_name_byte}
use Rattle.inform_tree.specs.Words.{is_name as is_name_text}
use Rattle.inform_tree.specs.declared.words.TheConstants.{NAME_LIMIT}
use Rattle.inform_lexemes.specs.Lexemes.{Lexeme, Word, Reserved, Name, Number, Character, Quoted, Sign, word_lexeme}
use Rattle.inform_lexer.specs.declared.kinds.Kind.TheVariants as kind
use Rattle.inform_lexer.specs.declared.kinds.Token.{Token}
use Rattle.inform_lexer.specs.Pieces.{Piece, Pieces, none, first}
use Rattle.inform_lexer.specs.Bytes.{begins_word, is_word_byte, is_blank, is_digit_in, is_inside, is_comment_byte}
use Rattle.inform_lexer.specs.Numbers.{fitting, number_in}
use Rattle.inform_lexer.specs.Strings.{inside_said}
use Rattle.inform_lexer.specs.Tokens.{TokenStep, token, gap, number_token, quoted, word_here, decimal_here, string_here, character_here, dollar_here, symbol_token, symbol_first, token_step}
use Rattle.inform_lexer.specs.declared.faults.LexFault.TheVariants.{BadCharacter, OpenString, LongName}
use Rattle.inform_lexer.specs.Spans.{word_said, number_lexeme, or_nothing, span, lexeme_of, lexeme_at}
use Rattle.inform_lexer.specs.Written.{string_text, written, is_writable, ends_line, gap_after, text_of}
use Rattle.inform_lexer.specs.Laws.{TextReadsBack}
use Rattle.inform_lexer.proofs.Names.{free_word}
use Rattle.inform_lexer.proofs.Fronts.{front, stops_at, all_of, decimal_digits, decimal_some, decimal_value}
use Rattle.inform_lexer.proofs.WrittenStrings.{text_is_inside, reads_back}
use Rattle.inform_lexer.proofs.WrittenTables.{kind_of, Stands, sign_stands, word_stands}

-- the chain of tests of the first byte of a token, at given truth values
abbrev pub picked : Bool → Bool → Bool → Bool → Bool → Bool → Bool → ℕ → ℕ → List ℕ → TokenStep
picked blank word digit quote apostrophe mark dollar at b bytes =
    cond blank (gap (prefix_len is_blank bytes)) (cond word (word_here at bytes) (cond digit (decimal_here at (b ∷ bytes))
    (cond quote (string_here at bytes) (cond apostrophe (character_here at bytes) (cond mark (gap (prefix_len is_comment_byte bytes))
    (cond dollar (dollar_here at bytes) (symbol_token at (symbol_first (b ∷ bytes)))))))))

pub step_is : (at b : ℕ) (bytes : List ℕ) → token_step tt at (b ∷ bytes)
    ≡ picked (is_blank b) (begins_word b) (is_digit_in 10 b) (eqb b 34) (eqb b 39) (eqb b 33) (eqb b 36) at b bytes
unfolding token_step
step_is at b bytes = refl

-- ---- names

lower_same : (bytes : List ℕ) → list_all is_name_byte bytes ≡ true → map to_ascii_lowercase bytes ≡ bytes
lower_same [] all = refl
lower_same (b ∷ bytes) all =
    let parts = and_parts (is_name_byte b) (list_all is_name_byte bytes) all in
    let same : to_ascii_lowercase b ≡ b = lower_byte b parts.0 in
    ap (λ (x : ℕ). x ∷ map to_ascii_lowercase bytes) same ∙ ap (λ (xs : List ℕ). b ∷ xs) (lower_same bytes parts.1)
  where
    lower_byte : (b : ℕ) → is_name_byte b ≡ true → to_ascii_lowercase b ≡ b
    lower_byte b is = grind (arith, nat_tests)

name_byte_in_word : (b : ℕ) → is_name_byte b ≡ true → is_word_byte b ≡ true
name_byte_in_word b is = grind (arith, nat_tests)

name_first : (b : ℕ) → begins_name b ≡ true → (begins_word b ≡ true) × (is_blank b ≡ false)
name_first b is = (grind (arith, nat_tests), grind (arith, nat_tests))

first_is_name_byte : (b : ℕ) → begins_name b ≡ true → is_name_byte b ≡ true
first_is_name_byte b is = grind (arith, nat_tests)

name_step : (at b : ℕ) (bytes rest : List ℕ) → begins_name b ≡ true → list_all is_name_byte bytes ≡ true → ltb (length bytes) NAME_LIMIT ≡ true
    → token_step tt at (b ∷ (bytes ++ 32 ∷ rest)) ≡ token kind.Word at (length bytes)
name_step at b bytes rest begins all short =
    let head = name_first b begins in
    let size = front is_word_byte bytes (32 ∷ rest) (all_of is_name_byte is_word_byte bytes name_byte_in_word all) refl in
    step_is at b (bytes ++ 32 ∷ rest)
    ∙ ap (λ (t : Bool). picked t (begins_word b) (is_digit_in 10 b) (eqb b 34) (eqb b 39) (eqb b 33) (eqb b 36) at b (bytes ++ 32 ∷ rest)) head.1
    ∙ ap (λ (t : Bool). picked false t (is_digit_in 10 b) (eqb b 34) (eqb b 39) (eqb b 33) (eqb b 36) at b (bytes ++ 32 ∷ rest)) head.0
    ∙ ap (λ (n : ℕ). cond (ltb n NAME_LIMIT) (token kind.Word at n) (Err (LongName at))) size
    ∙ ap (λ (t : Bool). cond t (token kind.Word at (length bytes)) (Err (LongName at))) short

-- bytes that may be a name, short enough and not reserved, say that name
name_says : (b : ℕ) (bytes : List ℕ) → begins_name b ≡ true → list_all is_name_byte bytes ≡ true → ltb (length bytes) NAME_LIMIT ≡ true
    → is_reserved (b ∷ bytes) ≡ false → lexeme_of kind.Word (b ∷ bytes) ≡ Name (b ∷ bytes)
unfolding word_lexeme
name_says b bytes begins all short free =
    let name = b ∷ bytes in
    let fits : leb (length name) NAME_LIMIT ≡ true = short_enough bytes short in
    let lower : word_said name ≡ name = lower_same name (and_from (is_name_byte b) (list_all is_name_byte bytes) (first_is_name_byte b begins) all) in
    ap (λ (t : Bool). cond t (word_lexeme (word_said name)) Reserved) fits
    ∙ ap word_lexeme lower
    ∙ free_word name free
  where
    short_enough : (bytes : List ℕ) → ltb (length bytes) NAME_LIMIT ≡ true → leb (suc (length bytes)) NAME_LIMIT ≡ true
    short_enough bytes short = le-leb (suc (length bytes)) NAME_LIMIT (omega (arith, ltb-true (length bytes) NAME_LIMIT short))

-- a written name is taken whole, and says itself
name_stands : (name : List ℕ) → is_name_text name ≡ true → Stands (Name name)
unfolding written
name_stands [] is = absurd (cc)
name_stands (b ∷ bytes) is =
    let one = and_parts (begins_name b) (list_all is_name_byte bytes && (ltb (length bytes) NAME_LIMIT && not (is_reserved (b ∷ bytes)))) is in
    let two = and_parts (list_all is_name_byte bytes) (ltb (length bytes) NAME_LIMIT && not (is_reserved (b ∷ bytes))) one.1 in
    let three = and_parts (ltb (length bytes) NAME_LIMIT) (not (is_reserved (b ∷ bytes))) two.1 in
    record {
      head = b;
      tail = bytes;
      same = refl;
      blank = (name_first b one.0).1;
      step = λ at rest. name_step at b bytes rest one.0 two.0 three.0;
      says = name_says b bytes one.0 two.0 three.0 (not-true (is_reserved (b ∷ bytes)) three.1);
    }

-- ---- numbers

digit_first : (b : ℕ) → is_digit_in 10 b ≡ true → (is_blank b ≡ false) × (begins_word b ≡ false) × (eqb b 36 ≡ false)
digit_first b is = (grind (arith, nat_tests), grind (arith, nat_tests), grind (arith, nat_tests))

abbrev number_dollars : List ℕ → Option ℕ
number_dollars bytes = cond (eqb (slice_index bytes 0) 36) (number_in 2 (drop 1 bytes)) (number_in 16 bytes)

-- a number in decimal digits is taken whole, and says itself
number_stands_as : (n : ℕ) (ds : List ℕ) → decimal n ≡ ds → is_number n ≡ true → list_all (is_digit_in 10) ds ≡ true → 1 ≤ length ds
    → digits_value 10 ds ≡ n → Stands (Number n)
unfolding written
number_stands_as n [] is fits all some value = absurd (omega arith)
number_stands_as n (d ∷ ds) is fits all some value =
    let parts = and_parts (is_digit_in 10 d) (list_all (is_digit_in 10) ds) all in
    let head = digit_first d parts.0 in
    let number : number_in 10 (d ∷ ds) ≡ Some n = ap fitting value ∙ ap (λ (t : Bool). cond t (Some n) None) fits in
    record {
      head = d;
      tail = ds;
      same = is;
      blank = head.0;
      step = λ at rest.
          step_is at d (ds ++ 32 ∷ rest)
          ∙ ap (λ (t : Bool). picked t (begins_word d) (is_digit_in 10 d) (eqb d 34) (eqb d 39) (eqb d 33) (eqb d 36) at d (ds ++ 32 ∷ rest)) head.0
          ∙ ap (λ (t : Bool). picked false t (is_digit_in 10 d) (eqb d 34) (eqb d 39) (eqb d 33) (eqb d 36) at d (ds ++ 32 ∷ rest)) head.1
          ∙ ap (λ (t : Bool). picked false false t (eqb d 34) (eqb d 39) (eqb d 33) (eqb d 36) at d (ds ++ 32 ∷ rest)) parts.0
          ∙ ap (λ (m : ℕ). number_token at m (number_in 10 (d ∷ take m (ds ++ 32 ∷ rest)))) (front (is_digit_in 10) ds (32 ∷ rest) parts.1 refl)
          ∙ ap (λ (xs : List ℕ). number_token at (length ds) (number_in 10 (d ∷ xs))) (take_at ds (32 ∷ rest) (length ds) refl)
          ∙ ap (λ (o : Option ℕ). number_token at (length ds) o) number;
      says =
          ap (λ (xs : List ℕ). lexeme_of kind.Number xs) is
          ∙ ap (λ (t : Bool). number_lexeme (cond t (number_dollars ds) (number_in 10 (d ∷ ds)))) head.2
          ∙ ap number_lexeme number;
    }

number_stands : (n : ℕ) → is_number n ≡ true → Stands (Number n)
number_stands n fits =
    let small : n < 2 ^ 64 = grind (arith, nat_tests) in
    number_stands_as n (decimal n) refl fits (decimal_digits n small) (decimal_some n small) (decimal_value n small)

-- ---- characters and strings

character_stands : (byte : ℕ) → is_character byte ≡ true → Stands (Character byte)
unfolding written token_step
character_stands byte is = record {
  head = 39;
  tail = byte ∷ 39 ∷ [];
  same = refl;
  blank = refl;
  step = λ at rest. ap (λ (t : Bool). cond (t && true) (token kind.Character at 2) (Err (BadCharacter at))) is;
  says = refl;
}

-- what is written of a string, between its quotes and before a blank, is one token
string_step_of : (at : ℕ) (w text rest : List ℕ) → list_all is_inside w ≡ true → inside_said w ≡ Ok text
    → token_step tt at (34 ∷ ((w ++ 34 ∷ []) ++ 32 ∷ rest)) ≡ token kind.Quoted at (length (w ++ 34 ∷ []))
string_step_of at w text rest all said =
    let bytes = w ++ 34 ∷ 32 ∷ rest in
    let more : length w < length bytes = omega (arith, length-append w (34 ∷ 32 ∷ rest)) in
    let size : length w + 1 ≡ length (w ++ 34 ∷ []) = sym (length-append w (34 ∷ [])) in
    ap (λ (xs : List ℕ). token_step tt at (34 ∷ xs)) (append_assoc w (34 ∷ []) (32 ∷ rest))
    ∙ step_is at 34 bytes
    ∙ ap (λ (n : ℕ). cond (ltb n (length bytes)) (quoted at n (inside_said (take n bytes))) (Err (OpenString at))) (front is_inside w (34 ∷ 32 ∷ rest) all refl)
    ∙ ap (λ (t : Bool). cond t (quoted at (length w) (inside_said (take (length w) bytes))) (Err (OpenString at))) (lt-ltb (length w) (length bytes) more)
    ∙ ap (λ (xs : List ℕ). quoted at (length w) (inside_said xs)) (take_at w (34 ∷ 32 ∷ rest) (length w) refl)
    ∙ ap (λ (r : Result (List ℕ) ℕ). quoted at (length w) r) said
    ∙ ap (λ (n : ℕ). token kind.Quoted at n) size

string_says : (w text : List ℕ) → inside_said w ≡ Ok text → lexeme_of kind.Quoted (34 ∷ (w ++ 34 ∷ [])) ≡ Quoted text
string_says w text said =
    let size : length (34 ∷ (w ++ 34 ∷ [])) - 2 ≡ length w = omega (arith, length-append w (34 ∷ [])) in
    ap (λ (n : ℕ). Quoted (or_nothing (inside_said (take n (w ++ 34 ∷ []))))) size
    ∙ ap (λ (xs : List ℕ). Quoted (or_nothing (inside_said xs))) (take_at w (34 ∷ []) (length w) refl)
    ∙ ap (λ (r : Result (List ℕ) ℕ). Quoted (or_nothing r)) said

-- a written string is taken whole, and says itself
string_stands : (text : List ℕ) → is_text text ≡ true → Stands (Quoted text)
unfolding written inside_said
string_stands text is =
    let w = string_text false text in
    let said : inside_said w ≡ Ok text = reads_back false text is false 0 in
    record {
      head = 34;
      tail = w ++ 34 ∷ [];
      same = refl;
      blank = refl;
      step = λ at rest. string_step_of at w text rest (text_is_inside false text is) said;
      says = string_says w text said;
    }

-- ---- each lexeme that can be written

stands : (x : Lexeme) → is_writable x ≡ true → Stands x
stands (Word keyword) is = word_stands keyword
stands Reserved is = absurd (cc)
stands (Name name) is = name_stands name is
stands (Number n) is = number_stands n is
stands (Character byte) is = character_stands byte is
stands (Quoted text) is = string_stands text is
stands (Sign symbol) is = sign_stands symbol

-- ---- lists of lexemes

gap_is_blank : (line : Bool) → is_blank (cond line 10 32) ≡ true
gap_is_blank true = refl
gap_is_blank false = refl

gap_step : (x : Lexeme) (at : ℕ) (rest : List ℕ) → prefix_len is_blank rest ≡ 0 → token_step tt at (gap_after x ∷ rest) ≡ gap 0
gap_step x at rest stops =
    let g = gap_after x in
    step_is at g rest
    ∙ ap (λ (t : Bool). picked t (begins_word g) (is_digit_in 10 g) (eqb g 34) (eqb g 39) (eqb g 33) (eqb g 36) at g rest) (gap_is_blank (ends_line x))
    ∙ ap (λ (n : ℕ). gap n) stops

abbrev token_of : Lexeme → ℕ → ℕ → Token
token_of x at more = record { kind = kind_of x; start = at; end = at + 1 + more }

-- a written lexeme and the gap after it are pieces, and its token comes before those of the rest
pieces_of : (x : Lexeme) (st : Stands x) (at : ℕ) (rest : List ℕ) (ts : List Token) → prefix_len is_blank rest ≡ 0
    → Pieces token_step tt (at + 1 + length st.tail + 1 + 0) rest ts
    → Pieces token_step tt at (st.head ∷ (st.tail ++ gap_after x ∷ rest)) (token_of x at (length st.tail) ∷ ts)
pieces_of x st at rest ts stops pieces =
    let here = at + 1 + length st.tail in
    let blank : Piece (Unit {0}) Token = record { gives = []; more = 0; next = tt } in
    let whole : Piece (Unit {0}) Token = record { gives = token_of x at (length st.tail) ∷ []; more = length st.tail; next = tt } in
    let after : Pieces token_step tt here (gap_after x ∷ rest) ts = first blank (gap_step x here rest stops) pieces in
    let there : Pieces token_step tt here (drop (length st.tail) (st.tail ++ gap_after x ∷ rest)) ts =
    subst (λ (bytes : List ℕ). Pieces token_step tt here bytes ts) (sym (drop_at st.tail (gap_after x ∷ rest) (length st.tail) refl)) after in
    first whole (st.step at rest) there

text_is : (x : Lexeme) (st : Stands x) (xs : List Lexeme) → text_of (x ∷ xs) ≡ st.head ∷ (st.tail ++ gap_after x ∷ text_of xs)
unfolding text_of
text_is x st xs = ap (λ (bytes : List ℕ). bytes ++ gap_after x ∷ text_of xs) st.same

no_blank_first : (xs : List Lexeme) → list_all is_writable xs ≡ true → prefix_len is_blank (text_of xs) ≡ 0
unfolding text_of
no_blank_first [] all = refl
no_blank_first (x ∷ xs) all =
    let st = stands x (and_parts (is_writable x) (list_all is_writable xs) all).0 in
    ap (λ (bytes : List ℕ). prefix_len is_blank bytes) (text_is x st xs) ∙ stops_at is_blank st.head (st.tail ++ gap_after x ∷ text_of xs) st.blank

span_is : (whole : List ℕ) (x : Lexeme) (st : Stands x) (at : ℕ) (rest : List ℕ)
    → drop at whole ≡ st.head ∷ (st.tail ++ rest) → span whole (token_of x at (length st.tail)) ≡ written x
span_is whole x st at rest is =
    let size : at + 1 + length st.tail - at ≡ length (st.head ∷ st.tail) = omega arith in
    ap (λ (bytes : List ℕ). take (at + 1 + length st.tail - at) bytes) is
    ∙ ap (λ (n : ℕ). take n ((st.head ∷ st.tail) ++ rest)) size
    ∙ take_at (st.head ∷ st.tail) rest (length (st.head ∷ st.tail)) refl ∙ sym st.same

rest_is : (whole : List ℕ) (x : Lexeme) (st : Stands x) (at : ℕ) (rest : List ℕ)
    → drop at whole ≡ st.head ∷ (st.tail ++ gap_after x ∷ rest) → drop (at + 1 + length st.tail + 1 + 0) whole ≡ rest
rest_is whole x st at rest is =
    let size : at + 1 + length st.tail + 1 + 0 ≡ at + length ((st.head ∷ st.tail) ++ gap_after x ∷ []) = omega (arith, length-append (st.head ∷ st.tail) (gap_after x ∷ [])) in
    let front_part = (st.head ∷ st.tail) ++ gap_after x ∷ [] in
    ap (λ (n : ℕ). drop n whole) size ∙ sym (drop-drop (length front_part) at whole)
    ∙ ap (λ (bytes : List ℕ). drop (length front_part) bytes) (is ∙ sym (append_assoc (st.head ∷ st.tail) (gap_after x ∷ []) rest))
    ∙ drop_at front_part rest (length front_part) refl

-- the text of lexemes that can be written has tokens that say them, wherever it ends a whole text
read_list : (xs : List Lexeme) → list_all is_writable xs ≡ true → (whole : List ℕ) (at : ℕ) → drop at whole ≡ text_of xs
    → (tokens : List Token) × Pieces token_step tt at (text_of xs) tokens × (map (lexeme_at whole) tokens ≡ xs)
unfolding text_of
read_list [] all whole at is = ([], none, refl)
read_list (x ∷ xs) all whole at is =
    let parts = and_parts (is_writable x) (list_all is_writable xs) all in
    let st = stands x parts.0 in
    let split : drop at whole ≡ st.head ∷ (st.tail ++ gap_after x ∷ text_of xs) = is ∙ text_is x st xs in
    let later = read_list xs parts.1 whole (at + 1 + length st.tail + 1 + 0) (rest_is whole x st at (text_of xs) split) in
    let t = token_of x at (length st.tail) in
    let pieces = pieces_of x st at (text_of xs) later.0 (no_blank_first xs parts.1) later.1 in
    let says : lexeme_at whole t ≡ x = ap (lexeme_of (kind_of x)) (span_is whole x st at (gap_after x ∷ text_of xs) split) ∙ st.says in (
      t ∷ later.0,
      subst (λ (bytes : List ℕ). Pieces token_step tt at bytes (t ∷ later.0)) (sym (text_is x st xs)) pieces,
      ap (λ (y : Lexeme). y ∷ map (lexeme_at whole) later.0) says ∙ ap (λ (ys : List Lexeme). x ∷ ys) later.2,
    )

pub text_reads_back : TextReadsBack
text_reads_back xs all = read_list xs all (text_of xs) 0 refl
