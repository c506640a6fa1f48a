-- A token is as long as possible: a text of any kind at a piece is no longer than the piece.
use Rattle.std.specs.Prelude.{is_some}
use Rattle.std.proofs.Common.{◌≡◌, ℕ, zero, suc, ◌+◌, ◌-◌, ◌≤◌, ◌<◌, Bool, true, false, cond, ◌&&◌, eqb, leb, ltb, List, [], ◌∷◌, ◌++◌, length, take, drop, get_or, Option, Some, None, Result, Ok, Err, refl, sym, ap, subst, ◌∙◌, arith}
use Rattle.std.specs.Option.{option_or}
use Rattle.std.specs.List.{prefix_len, list_all, AllByRecursion}
use Rattle.std.proofs.lemmas.Bool.{and_parts, eqb-true}
use Rattle.std.proofs.lemmas.Bool.Decides.{nat_tests}
use Rattle.std.proofs.lemmas.List.{length-take-le, drop-drop, length-drop}
use Rattle.inform_tree.specs.Words.{is_character}
use Rattle.inform_tree.specs.declared.words.TheConstants.{NAME_LIMIT}
use Rattle.inform_lexemes.specs.declared.symbols.Symbol.{Symbol}
use Rattle.inform_lexemes.specs.declared.symbols.Symbol.TheVariants as s
use Rattle.inform_lexemes.specs.Symbols.{symbol_text, symbol_spelled}
use Rattle.inform_lexer.specs.declared.kinds.Kind.{Kind}
use Rattle.inform_lexer.specs.declared.kinds.Kind.TheVariants as kind
use Rattle.inform_lexer.specs.declared.kinds.Token.{Token}
use Rattle.inform_lexer.specs.declared.faults.LexFault.TheVariants.{BadByte, LongName, BadCharacter, OpenString}
use Rattle.inform_lexer.specs.Pieces.{Piece, Pieces, none, first}
use Rattle.inform_lexer.specs.Bytes.{begins_word, is_word_byte, is_blank, is_digit_in, is_inside}
use Rattle.inform_lexer.specs.Numbers.{number_in}
use Rattle.inform_lexer.specs.Strings.{inside_said}
use Rattle.inform_lexer.specs.Tokens.{token, gap, number_token, quoted, word_here, decimal_here, based_here, string_here, character_here, dollar_here, symbol_token, symbol_first, token_step}
use Rattle.inform_lexer.specs.Longest.{is_word_text, are_digits, are_dollar_digits, is_number_text, is_character_text, is_quoted_text, is_text_of, IsLongest, TokensAreLongest}
use Rattle.inform_lexer.proofs.LongestSymbol.{spelled_text}
use Rattle.inform_lexer.proofs.WrittenLexemes.{picked, step_is}

-- ---- runs

-- so many bytes that all pass are no more than the run has
run_has : (p : ℕ → Bool) (n : ℕ) (bytes : List ℕ) → n ≤ length bytes → list_all p (take n bytes) ≡ true → n ≤ prefix_len p bytes
run_has p zero bytes within all = omega arith
run_has p (suc n) [] within all = absurd (omega arith)
run_has p (suc n) (b ∷ bytes) within all =
    let parts = and_parts (p b) (list_all p (take n bytes)) all in
    let rest : n ≤ prefix_len p bytes = run_has p n bytes (omega arith) parts.1 in
    let one : prefix_len p (b ∷ bytes) ≡ 1 + prefix_len p bytes = ap (λ (t : Bool). cond t (1 + prefix_len p bytes) 0) parts.0 in
    omega (arith, rest, one)

-- fewer bytes have no longer run
run_less : (p : ℕ → Bool) (n : ℕ) (bytes : List ℕ) → prefix_len p (take n bytes) ≤ prefix_len p bytes
run_less p zero bytes = omega arith
run_less p (suc n) [] = omega arith
run_less p (suc n) (b ∷ bytes) = by (p b) (run_less p n bytes)
  where
    by : (t : Bool) → prefix_len p (take n bytes) ≤ prefix_len p bytes
        → cond t (1 + prefix_len p (take n bytes)) 0 ≤ cond t (1 + prefix_len p bytes) 0
    by true less = omega (arith, less)
    by false less = omega arith

-- ---- how many bytes a piece has after its first one

token_more : (k : Kind) (at more : ℕ) (p : Piece (Unit {0}) Token) → token k at more ≡ Ok p → p.more ≡ more
token_more k at more p e =
    let made : Piece (Unit {0}) Token = record { gives = record { kind = k; start = at; end = at + 1 + more } ∷ []; more = more; next = tt } in
    let same : made ≡ p = cc in sym (ap (λ (q : Piece (Unit {0}) Token). q.more) same)

number_more : (at more : ℕ) (o : Option ℕ) (p : Piece (Unit {0}) Token) → number_token at more o ≡ Ok p → p.more ≡ more
number_more at more (Some n) p e = token_more kind.Number at more p e
number_more at more None p e = absurd (cc)

word_more : (t : Bool) (at more : ℕ) (p : Piece (Unit {0}) Token) → cond t (token kind.Word at more) (Err (LongName at)) ≡ Ok p → p.more ≡ more
word_more true at more p e = token_more kind.Word at more p e
word_more false at more p e = absurd (cc)

based_more : (t : Bool) (at more : ℕ) (o : Option ℕ) (p : Piece (Unit {0}) Token) → cond t (number_token at more o) (Err (BadByte at)) ≡ Ok p → p.more ≡ more
based_more true at more o p e = number_more at more o p e
based_more false at more o p e = absurd (cc)

character_more : (t : Bool) (at : ℕ) (p : Piece (Unit {0}) Token) → cond t (token kind.Character at 2) (Err (BadCharacter at)) ≡ Ok p → p.more ≡ 2
character_more true at p e = token_more kind.Character at 2 p e
character_more false at p e = absurd (cc)

quoted_more : (at size : ℕ) (r : Result (List ℕ) ℕ) (p : Piece (Unit {0}) Token) → quoted at size r ≡ Ok p → p.more ≡ size + 1
quoted_more at size (Ok text) p e = token_more kind.Quoted at (size + 1) p e
quoted_more at size (Err place) p e = absurd (cc)

string_more : (t : Bool) (at size : ℕ) (r : Result (List ℕ) ℕ) (p : Piece (Unit {0}) Token) → cond t (quoted at size r) (Err (OpenString at)) ≡ Ok p → p.more ≡ size + 1
string_more true at size r p e = quoted_more at size r p e
string_more false at size r p e = absurd (cc)

-- ---- words

word_first : (b : ℕ) → begins_word b ≡ true → is_blank b ≡ false
word_first b is = grind (arith, nat_tests)

word_step : (at b : ℕ) (bytes : List ℕ) → begins_word b ≡ true → token_step tt at (b ∷ bytes) ≡ word_here at bytes
word_step at b bytes is =
    step_is at b bytes
    ∙ ap (λ (t : Bool). picked t (begins_word b) (is_digit_in 10 b) (eqb b 34) (eqb b 39) (eqb b 33) (eqb b 36) at b bytes) (word_first b is)
    ∙ ap (λ (t : Bool). picked false t (is_digit_in 10 b) (eqb b 34) (eqb b 39) (eqb b 33) (eqb b 36) at b bytes) is

word_within : (at b n : ℕ) (bytes : List ℕ) (p : Piece (Unit {0}) Token) → n ≤ length bytes → is_word_text (b ∷ take n bytes) ≡ true
    → token_step tt at (b ∷ bytes) ≡ Ok p → n ≤ p.more
word_within at b n bytes p within is e =
    let parts = and_parts (begins_word b) (list_all is_word_byte (take n bytes)) is in
    let size : p.more ≡ prefix_len is_word_byte bytes =
    word_more (ltb (prefix_len is_word_byte bytes) NAME_LIMIT) at (prefix_len is_word_byte bytes) p (sym (word_step at b bytes parts.0) ∙ e) in
    omega (arith, size, run_has is_word_byte n bytes within parts.1)

-- ---- numbers

digit_first : (b : ℕ) → is_digit_in 10 b ≡ true → (is_blank b ≡ false) × (begins_word b ≡ false)
digit_first b is = (grind (arith, nat_tests), grind (arith, nat_tests))

digit_step : (at b : ℕ) (bytes : List ℕ) → is_digit_in 10 b ≡ true → token_step tt at (b ∷ bytes) ≡ decimal_here at (b ∷ bytes)
digit_step at b bytes is =
    let head = digit_first b is in
    step_is at b bytes
    ∙ ap (λ (t : Bool). picked t (begins_word b) (is_digit_in 10 b) (eqb b 34) (eqb b 39) (eqb b 33) (eqb b 36) at b bytes) head.0
    ∙ ap (λ (t : Bool). picked false t (is_digit_in 10 b) (eqb b 34) (eqb b 39) (eqb b 33) (eqb b 36) at b bytes) head.1
    ∙ ap (λ (t : Bool). picked false false t (eqb b 34) (eqb b 39) (eqb b 33) (eqb b 36) at b bytes) is

dollar_step : (at : ℕ) (bytes : List ℕ) → token_step tt at (36 ∷ bytes) ≡ dollar_here at bytes
unfolding token_step
dollar_step at bytes = refl

digits_within : (base n : ℕ) (bytes : List ℕ) → n ≤ length bytes → are_digits base (take n bytes) ≡ true → n ≤ prefix_len (is_digit_in base) bytes
digits_within base n bytes within are = run_has (is_digit_in base) n bytes within (all (take n bytes) are)
  where
    all : (xs : List ℕ) → are_digits base xs ≡ true → list_all (is_digit_in base) xs ≡ true
    all [] are = refl
    all (x ∷ xs) are = are

-- where digits of a number stand after a dollar, the piece that is read there takes them all
dollar_within : (at n : ℕ) (bytes : List ℕ) (p : Piece (Unit {0}) Token) → n ≤ length bytes → are_dollar_digits (take n bytes) ≡ true
    → dollar_here at bytes ≡ Ok p → n ≤ p.more
dollar_within at zero bytes p within are e = omega arith
dollar_within at (suc n) [] p within are e = absurd (omega arith)
dollar_within at (suc n) (c ∷ bytes) p within are e = by (eqb c 36) are e
  where
    by : (t : Bool) → cond t (are_digits 2 (take n bytes)) (are_digits 16 (c ∷ take n bytes)) ≡ true
        → cond t (based_here at 2 1 bytes) (based_here at 16 0 (c ∷ bytes)) ≡ Ok p → suc n ≤ p.more
    by true are e =
        let size : p.more ≡ 1 + prefix_len (is_digit_in 2) bytes =
        based_more (leb 1 (prefix_len (is_digit_in 2) bytes)) at (1 + prefix_len (is_digit_in 2) bytes) (number_in 2 (take (prefix_len (is_digit_in 2) bytes) bytes)) p e in
        omega (arith, size, digits_within 2 n bytes (omega arith) are)
    by false are e =
        let run = prefix_len (is_digit_in 16) (c ∷ bytes) in
        let size : p.more ≡ 0 + run = based_more (leb 1 run) at (0 + run) (number_in 16 (take run (c ∷ bytes))) p e in
        let more : suc n ≤ run = digits_within 16 (suc n) (c ∷ bytes) within are in
        omega (arith, size, more)

-- a text of a number at a piece is no longer than the piece
number_within : (at b n : ℕ) (bytes : List ℕ) (p : Piece (Unit {0}) Token) → n ≤ length bytes → is_number_text (b ∷ take n bytes) ≡ true
    → token_step tt at (b ∷ bytes) ≡ Ok p → n ≤ p.more
number_within at b n bytes p within is e = by (eqb b 36) refl is
  where
    by : (t : Bool) → eqb b 36 ≡ t → cond t (are_dollar_digits (take n bytes)) (are_digits 10 (b ∷ take n bytes)) ≡ true → n ≤ p.more
    by true sign is =
        let there : token_step tt at (36 ∷ bytes) ≡ Ok p = subst (λ (c : ℕ). token_step tt at (c ∷ bytes) ≡ Ok p) (eqb-true b 36 sign) e in
        dollar_within at n bytes p within is (sym (dollar_step at bytes) ∙ there)
    by false sign is =
        let parts = and_parts (is_digit_in 10 b) (list_all (is_digit_in 10) (take n bytes)) is in
        let run = prefix_len (is_digit_in 10) bytes in
        let size : p.more ≡ run = number_more at run (number_in 10 (b ∷ take run bytes)) p (sym (digit_step at b bytes parts.0) ∙ e) in
        omega (arith, size, run_has (is_digit_in 10) n bytes within parts.1)

-- ---- characters and strings

character_size : (xs : List ℕ) → is_character_text xs ≡ true → (length xs ≡ 3) × (get_or xs 0 0 ≡ 39)
character_size [] is = absurd (cc)
character_size (a ∷ []) is = absurd (cc)
character_size (a ∷ b ∷ []) is = absurd (cc)
character_size (a ∷ b ∷ c ∷ []) is = (omega arith, eqb-true a 39 (and_parts (eqb a 39) (is_character b && eqb c 39) is).0)
character_size (a ∷ b ∷ c ∷ d ∷ xs) is = absurd (cc)

apostrophe_step : (at : ℕ) (bytes : List ℕ) → token_step tt at (39 ∷ bytes) ≡ character_here at bytes
unfolding token_step
apostrophe_step at bytes = refl

character_here_more : (at : ℕ) (bytes : List ℕ) (p : Piece (Unit {0}) Token) → character_here at bytes ≡ Ok p → p.more ≡ 2
character_here_more at [] p e = absurd (cc)
character_here_more at (c ∷ []) p e = absurd (cc)
character_here_more at (c ∷ d ∷ bytes) p e = character_more (is_character c && eqb d 39) at p e

character_within : (at b n : ℕ) (bytes : List ℕ) (p : Piece (Unit {0}) Token) → n ≤ length bytes → is_character_text (b ∷ take n bytes) ≡ true
    → token_step tt at (b ∷ bytes) ≡ Ok p → n ≤ p.more
character_within at b n bytes p within is e =
    let shape = character_size (b ∷ take n bytes) is in
    let there : token_step tt at (39 ∷ bytes) ≡ Ok p = subst (λ (c : ℕ). token_step tt at (c ∷ bytes) ≡ Ok p) shape.1 e in
    let size : p.more ≡ 2 = character_here_more at bytes p (sym (apostrophe_step at bytes) ∙ there) in
    let taken : length (take n bytes) ≡ n = length-take-le n bytes within in
    let three : suc (length (take n bytes)) ≡ 3 = shape.0 in
    omega (arith, size, taken, three)

quote_step : (at : ℕ) (bytes : List ℕ) → token_step tt at (34 ∷ bytes) ≡ string_here at bytes
unfolding token_step
quote_step at bytes = refl

quoted_within : (at b n : ℕ) (bytes : List ℕ) (p : Piece (Unit {0}) Token) → n ≤ length bytes → is_quoted_text (b ∷ take n bytes) ≡ true
    → token_step tt at (b ∷ bytes) ≡ Ok p → n ≤ p.more
quoted_within at b n bytes p within is e =
    let inner = prefix_len is_inside (take n bytes) in
    let parts = and_parts (eqb b 34) (eqb (inner + 1) (length (take n bytes))) is in
    let there : token_step tt at (34 ∷ bytes) ≡ Ok p = subst (λ (c : ℕ). token_step tt at (c ∷ bytes) ≡ Ok p) (eqb-true b 34 parts.0) e in
    let run = prefix_len is_inside bytes in
    let size : p.more ≡ run + 1 = string_more (ltb run (length bytes)) at run (inside_said (take run bytes)) p (sym (quote_step at bytes) ∙ there) in
    let last : inner + 1 ≡ length (take n bytes) = eqb-true (inner + 1) (length (take n bytes)) parts.1 in
    omega (arith, size, last, length-take-le n bytes within, run_less is_inside n bytes)

-- ---- symbols

-- each symbol has one byte to three
symbol_sizes : (x : Symbol) → (1 ≤ length (symbol_text x)) × (length (symbol_text x) ≤ 3)
symbol_sizes s.Semicolon = (omega arith, omega arith)
symbol_sizes s.Comma = (omega arith, omega arith)
symbol_sizes s.Colon = (omega arith, omega arith)
symbol_sizes s.LeftRound = (omega arith, omega arith)
symbol_sizes s.RightRound = (omega arith, omega arith)
symbol_sizes s.LeftBrace = (omega arith, omega arith)
symbol_sizes s.RightBrace = (omega arith, omega arith)
symbol_sizes s.LeftSquare = (omega arith, omega arith)
symbol_sizes s.RightSquare = (omega arith, omega arith)
symbol_sizes s.Assign = (omega arith, omega arith)
symbol_sizes s.Equal = (omega arith, omega arith)
symbol_sizes s.NotEqual = (omega arith, omega arith)
symbol_sizes s.Less = (omega arith, omega arith)
symbol_sizes s.Greater = (omega arith, omega arith)
symbol_sizes s.LessEqual = (omega arith, omega arith)
symbol_sizes s.GreaterEqual = (omega arith, omega arith)
symbol_sizes s.And = (omega arith, omega arith)
symbol_sizes s.Or = (omega arith, omega arith)
symbol_sizes s.Not = (omega arith, omega arith)
symbol_sizes s.Plus = (omega arith, omega arith)
symbol_sizes s.Minus = (omega arith, omega arith)
symbol_sizes s.Times = (omega arith, omega arith)
symbol_sizes s.Divide = (omega arith, omega arith)
symbol_sizes s.Remainder = (omega arith, omega arith)
symbol_sizes s.ByteArrow = (omega arith, omega arith)
symbol_sizes s.WordArrow = (omega arith, omega arith)
symbol_sizes s.Increment = (omega arith, omega arith)
symbol_sizes s.Decrement = (omega arith, omega arith)

-- what begins as a symbol does is a symbol
symbol_step : (x : Symbol) (at : ℕ) (bytes : List ℕ)
    → token_step tt at (get_or (symbol_text x) 0 0 ∷ bytes) ≡ symbol_token at (symbol_first (get_or (symbol_text x) 0 0 ∷ bytes))
unfolding token_step
symbol_step s.Semicolon at bytes = refl
symbol_step s.Comma at bytes = refl
symbol_step s.Colon at bytes = refl
symbol_step s.LeftRound at bytes = refl
symbol_step s.RightRound at bytes = refl
symbol_step s.LeftBrace at bytes = refl
symbol_step s.RightBrace at bytes = refl
symbol_step s.LeftSquare at bytes = refl
symbol_step s.RightSquare at bytes = refl
symbol_step s.Assign at bytes = refl
symbol_step s.Equal at bytes = refl
symbol_step s.NotEqual at bytes = refl
symbol_step s.Less at bytes = refl
symbol_step s.Greater at bytes = refl
symbol_step s.LessEqual at bytes = refl
symbol_step s.GreaterEqual at bytes = refl
symbol_step s.And at bytes = refl
symbol_step s.Or at bytes = refl
symbol_step s.Not at bytes = refl
symbol_step s.Plus at bytes = refl
symbol_step s.Minus at bytes = refl
symbol_step s.Times at bytes = refl
symbol_step s.Divide at bytes = refl
symbol_step s.Remainder at bytes = refl
symbol_step s.ByteArrow at bytes = refl
symbol_step s.WordArrow at bytes = refl
symbol_step s.Increment at bytes = refl
symbol_step s.Decrement at bytes = refl

-- the length of a symbol that so many bytes are
spelled_size : (n : ℕ) (bytes : List ℕ) (x : Symbol) → n ≤ length bytes → symbol_spelled (take n bytes) ≡ Some x → length (symbol_text x) ≡ n
spelled_size n bytes x within e = sym (ap length (spelled_text (take n bytes) x e)) ∙ length-take-le n bytes within

-- three bytes that are a symbol have at least two, where two are there
three_size : (bytes : List ℕ) (x : Symbol) → 2 ≤ length bytes → symbol_spelled (take 3 bytes) ≡ Some x → 2 ≤ length (symbol_text x)
three_size [] x some e = absurd (omega arith)
three_size (a ∷ []) x some e = absurd (omega arith)
three_size (a ∷ b ∷ []) x some e = let same : 2 ≡ length (symbol_text x) = ap length (spelled_text (a ∷ b ∷ []) x e) in omega (arith, same)
three_size (a ∷ b ∷ c ∷ bytes) x some e = let same : 3 ≡ length (symbol_text x) = ap length (spelled_text (a ∷ b ∷ c ∷ []) x e) in omega (arith, same)

-- where the first bytes are a symbol, the one that is looked up first is at least as long
first_is_longest : (n : ℕ) (bytes : List ℕ) (x y : Symbol) → n ≤ length bytes → symbol_spelled (take n bytes) ≡ Some x → symbol_first bytes ≡ Some y
    → n ≤ length (symbol_text y)
first_is_longest zero bytes x y within is e = omega arith
first_is_longest (suc zero) bytes x y within is e = (symbol_sizes y).0
first_is_longest (suc (suc zero)) bytes x y within is e = by (symbol_spelled (take 3 bytes)) refl e
  where
    by : (o : Option Symbol) → symbol_spelled (take 3 bytes) ≡ o
        → option_or o (option_or (symbol_spelled (take 2 bytes)) (symbol_spelled (take 1 bytes))) ≡ Some y → 2 ≤ length (symbol_text y)
    by (Some z) three e = three_size bytes y within (three ∙ e)
    by None three e =
        let two : option_or (Some x) (symbol_spelled (take 1 bytes)) ≡ Some y =
        sym (ap (λ (o : Option Symbol). option_or o (symbol_spelled (take 1 bytes))) is) ∙ e in
        let size : length (symbol_text y) ≡ 2 = spelled_size 2 bytes y within (is ∙ two) in omega (arith, size)
first_is_longest (suc (suc (suc zero))) bytes x y within is e =
    let three : option_or (Some x) (option_or (symbol_spelled (take 2 bytes)) (symbol_spelled (take 1 bytes))) ≡ Some y =
    sym (ap (λ (o : Option Symbol). option_or o (option_or (symbol_spelled (take 2 bytes)) (symbol_spelled (take 1 bytes)))) is) ∙ e in
    let size : length (symbol_text y) ≡ 3 = spelled_size 3 bytes y within (is ∙ three) in omega (arith, size)
first_is_longest (suc (suc (suc (suc n)))) bytes x y within is e =
    let size = spelled_size (suc (suc (suc (suc n)))) bytes x within is in
    absurd (omega (arith, size, (symbol_sizes x).1))

symbol_more : (at n : ℕ) (o : Option Symbol) (p : Piece (Unit {0}) Token) → ((y : Symbol) → o ≡ Some y → suc n ≤ length (symbol_text y))
    → symbol_token at o ≡ Ok p → n ≤ p.more
symbol_more at n None p long e = absurd (cc)
symbol_more at n (Some y) p long e =
    let size : p.more ≡ length (symbol_text y) - 1 = token_more kind.Symbol at (length (symbol_text y) - 1) p e in
    omega (arith, size, long y refl)

-- a text of a symbol at a piece is no longer than the piece
symbol_within : (at b n : ℕ) (bytes : List ℕ) (p : Piece (Unit {0}) Token) → n ≤ length bytes → is_some (symbol_spelled (b ∷ take n bytes)) ≡ true
    → token_step tt at (b ∷ bytes) ≡ Ok p → n ≤ p.more
symbol_within at b n bytes p within is e = by (symbol_spelled (b ∷ take n bytes)) refl is
  where
    by : (o : Option Symbol) → symbol_spelled (b ∷ take n bytes) ≡ o → is_some o ≡ true → n ≤ p.more
    by None spelled is = absurd (cc)
    by (Some x) spelled is =
        let head : b ≡ get_or (symbol_text x) 0 0 = ap (λ (xs : List ℕ). get_or xs 0 0) (spelled_text (b ∷ take n bytes) x spelled) in
        let step : token_step tt at (b ∷ bytes) ≡ symbol_token at (symbol_first (b ∷ bytes)) =
        subst (λ (c : ℕ). token_step tt at (c ∷ bytes) ≡ symbol_token at (symbol_first (c ∷ bytes))) (sym head) (symbol_step x at bytes) in
        symbol_more at n (symbol_first (b ∷ bytes)) p (λ y is_first. first_is_longest (suc n) (b ∷ bytes) x y (omega arith) spelled is_first) (sym step ∙ e)

-- ---- any kind

text_within : (k : Kind) (at b n : ℕ) (bytes : List ℕ) (p : Piece (Unit {0}) Token) → n ≤ length bytes → is_text_of k (b ∷ take n bytes) ≡ true
    → token_step tt at (b ∷ bytes) ≡ Ok p → n ≤ p.more
text_within kind.Word at b n bytes p within is e = word_within at b n bytes p within is e
text_within kind.Number at b n bytes p within is e = number_within at b n bytes p within is e
text_within kind.Character at b n bytes p within is e = character_within at b n bytes p within is e
text_within kind.Quoted at b n bytes p within is e = quoted_within at b n bytes p within is e
text_within kind.Symbol at b n bytes p within is e = symbol_within at b n bytes p within is e

-- ---- the whole text

-- the tokens of a piece begin where it does, and end where it does
abbrev Spans : ℕ → Piece (Unit {0}) Token → Type 0
Spans at p = AllByRecursion (λ t. (t.start ≡ at) × (t.end ≡ at + 1 + p.more)) p.gives

gap_spans : (more at : ℕ) (p : Piece (Unit {0}) Token) → gap more ≡ Ok p → Spans at p
gap_spans more at p e =
    let made : Piece (Unit {0}) Token = record { gives = []; more = more; next = tt } in
    let same : made ≡ p = cc in subst (Spans at) same tt

token_spans : (k : Kind) (at more : ℕ) (p : Piece (Unit {0}) Token) → token k at more ≡ Ok p → Spans at p
token_spans k at more p e =
    let made : Piece (Unit {0}) Token = record { gives = record { kind = k; start = at; end = at + 1 + more } ∷ []; more = more; next = tt } in
    let same : made ≡ p = cc in subst (Spans at) same ((refl, refl), tt)

word_spans : (t : Bool) (at more : ℕ) (p : Piece (Unit {0}) Token) → cond t (token kind.Word at more) (Err (LongName at)) ≡ Ok p → Spans at p
word_spans true at more p e = token_spans kind.Word at more p e
word_spans false at more p e = absurd (cc)

number_spans : (at more : ℕ) (o : Option ℕ) (p : Piece (Unit {0}) Token) → number_token at more o ≡ Ok p → Spans at p
number_spans at more (Some n) p e = token_spans kind.Number at more p e
number_spans at more None p e = absurd (cc)

based_spans : (t : Bool) (at more : ℕ) (o : Option ℕ) (p : Piece (Unit {0}) Token) → cond t (number_token at more o) (Err (BadByte at)) ≡ Ok p → Spans at p
based_spans true at more o p e = number_spans at more o p e
based_spans false at more o p e = absurd (cc)

dollar_spans : (at : ℕ) (bytes : List ℕ) (p : Piece (Unit {0}) Token) → dollar_here at bytes ≡ Ok p → Spans at p
dollar_spans at [] p e = absurd (cc)
dollar_spans at (c ∷ bytes) p e = by (eqb c 36) e
  where
    by : (t : Bool) → cond t (based_here at 2 1 bytes) (based_here at 16 0 (c ∷ bytes)) ≡ Ok p → Spans at p
    by true e = based_spans _ at _ _ p e
    by false e = based_spans _ at _ _ p e

character_by : (t : Bool) (at : ℕ) (p : Piece (Unit {0}) Token) → cond t (token kind.Character at 2) (Err (BadCharacter at)) ≡ Ok p → Spans at p
character_by true at p e = token_spans kind.Character at 2 p e
character_by false at p e = absurd (cc)

character_spans : (at : ℕ) (bytes : List ℕ) (p : Piece (Unit {0}) Token) → character_here at bytes ≡ Ok p → Spans at p
character_spans at [] p e = absurd (cc)
character_spans at (c ∷ []) p e = absurd (cc)
character_spans at (c ∷ d ∷ bytes) p e = character_by (is_character c && eqb d 39) at p e

quoted_spans : (at size : ℕ) (r : Result (List ℕ) ℕ) (p : Piece (Unit {0}) Token) → quoted at size r ≡ Ok p → Spans at p
quoted_spans at size (Ok text) p e = token_spans kind.Quoted at (size + 1) p e
quoted_spans at size (Err place) p e = absurd (cc)

string_spans : (t : Bool) (at size : ℕ) (r : Result (List ℕ) ℕ) (p : Piece (Unit {0}) Token) → cond t (quoted at size r) (Err (OpenString at)) ≡ Ok p → Spans at p
string_spans true at size r p e = quoted_spans at size r p e
string_spans false at size r p e = absurd (cc)

symbol_spans : (at : ℕ) (o : Option Symbol) (p : Piece (Unit {0}) Token) → symbol_token at o ≡ Ok p → Spans at p
symbol_spans at None p e = absurd (cc)
symbol_spans at (Some symbol) p e = token_spans kind.Symbol at (length (symbol_text symbol) - 1) p e

picked_spans : (blank word digit quote apostrophe mark dollar : Bool) (at b : ℕ) (bytes : List ℕ) (p : Piece (Unit {0}) Token)
    → picked blank word digit quote apostrophe mark dollar at b bytes ≡ Ok p → Spans at p
picked_spans true word digit quote apostrophe mark dollar at b bytes p e = gap_spans _ at p e
picked_spans false true digit quote apostrophe mark dollar at b bytes p e = word_spans _ at _ p e
picked_spans false false true quote apostrophe mark dollar at b bytes p e = number_spans at _ _ p e
picked_spans false false false true apostrophe mark dollar at b bytes p e = string_spans _ at _ _ p e
picked_spans false false false false true mark dollar at b bytes p e = character_spans at bytes p e
picked_spans false false false false false true dollar at b bytes p e = gap_spans _ at p e
picked_spans false false false false false false true at b bytes p e = dollar_spans at bytes p e
picked_spans false false false false false false false at b bytes p e = symbol_spans at (symbol_first (b ∷ bytes)) p e

step_spans : (at b : ℕ) (bytes : List ℕ) (p : Piece (Unit {0}) Token) → token_step tt at (b ∷ bytes) ≡ Ok p → Spans at p
step_spans at b bytes p e =
    picked_spans (is_blank b) (begins_word b) (is_digit_in 10 b) (eqb b 34) (eqb b 39) (eqb b 33) (eqb b 36) at b bytes p (sym (step_is at b bytes) ∙ e)

-- no more bytes than the piece has are a text
no_longer : (k : Kind) (at b size : ℕ) (bytes : List ℕ) (p : Piece (Unit {0}) Token) → token_step tt at (b ∷ bytes) ≡ Ok p
    → 1 + p.more < size → size ≤ 1 + length bytes → is_text_of k (take size (b ∷ bytes)) ≡ false
no_longer k at b zero bytes p e longer within = absurd (omega arith)
no_longer k at b (suc n) bytes p e longer within = by (is_text_of k (b ∷ take n bytes)) refl
  where
    by : (t : Bool) → is_text_of k (b ∷ take n bytes) ≡ t → t ≡ false
    by true is = let short : n ≤ p.more = text_within k at b n bytes p (omega arith) is e in absurd (omega (arith, short, longer))
    by false is = refl

piece_longest : (whole : List ℕ) (at b : ℕ) (bytes : List ℕ) (p : Piece (Unit {0}) Token) (t : Token) → drop at whole ≡ b ∷ bytes
    → token_step tt at (b ∷ bytes) ≡ Ok p → t.start ≡ at → t.end ≡ at + 1 + p.more → IsLongest whole t
piece_longest whole at b bytes p t there e starts ends k size longer within =
    let rest : length whole - at ≡ suc (length bytes) = sym (length-drop at whole) ∙ ap length there in
    ap (λ (n : ℕ). is_text_of k (take size (drop n whole))) starts
    ∙ ap (λ (xs : List ℕ). is_text_of k (take size xs)) there
    ∙ no_longer k at b size bytes p e (omega (arith, longer, starts, ends)) (omega (arith, within, starts, rest))

each_longest : (whole : List ℕ) (at b : ℕ) (bytes : List ℕ) (p : Piece (Unit {0}) Token) (tokens rest : List Token) → drop at whole ≡ b ∷ bytes
    → token_step tt at (b ∷ bytes) ≡ Ok p → AllByRecursion (λ t. (t.start ≡ at) × (t.end ≡ at + 1 + p.more)) tokens
    → AllByRecursion (IsLongest whole) rest → AllByRecursion (IsLongest whole) (tokens ++ rest)
each_longest whole at b bytes p [] rest there e spans others = others
each_longest whole at b bytes p (t ∷ tokens) rest there e spans others =
    (piece_longest whole at b bytes p t there e spans.0.0 spans.0.1, each_longest whole at b bytes p tokens rest there e spans.1 others)

pieces_longest : (known : Unit {0}) (at : ℕ) (bytes : List ℕ) (tokens : List Token) → Pieces token_step known at bytes tokens
    → (whole : List ℕ) → drop at whole ≡ bytes → AllByRecursion (IsLongest whole) tokens
pieces_longest known at _ _ none whole there = tt
pieces_longest known at _ _ (first {b = b} {bytes = bytes} {xs = xs} p is rest) whole there =
    let size : at + 1 + p.more ≡ at + suc p.more = omega arith in
    let onward : drop (at + 1 + p.more) whole ≡ drop p.more bytes =
    ap (λ (n : ℕ). drop n whole) size ∙ sym (drop-drop (suc p.more) at whole) ∙ ap (λ (ys : List ℕ). drop (suc p.more) ys) there in
    each_longest whole at b bytes p p.gives xs there is (step_spans at b bytes p is)
    (pieces_longest p.next (at + 1 + p.more) (drop p.more bytes) xs rest whole onward)

pub tokens_are_longest : TokensAreLongest
tokens_are_longest bytes tokens spelled = pieces_longest tt 0 bytes tokens spelled bytes refl
