-- No longer symbol begins with most of the symbols of one byte.
use Rattle.std.proofs.Common.{◌≡◌, ℕ, List, [], ◌∷◌, Some, refl}
use Rattle.inform_lexemes.specs.Symbols.{symbol_spelled}
use Rattle.inform_lexemes.specs.declared.symbols.Symbol.TheVariants.{Semicolon, Comma, Colon, LeftRound, RightRound, LeftBrace, RightBrace, LeftSquare, RightSquare, Times, Divide, Remainder}
use Rattle.inform_lexer.specs.Tokens.{symbol_first}

pub semicolon : (bytes : List ℕ) → symbol_first (59 ∷ bytes) ≡ Some Semicolon
unfolding symbol_spelled
semicolon [] = refl
semicolon (b ∷ []) = refl
semicolon (b ∷ c ∷ bytes) = refl

pub comma : (bytes : List ℕ) → symbol_first (44 ∷ bytes) ≡ Some Comma
unfolding symbol_spelled
comma [] = refl
comma (b ∷ []) = refl
comma (b ∷ c ∷ bytes) = refl

pub colon : (bytes : List ℕ) → symbol_first (58 ∷ bytes) ≡ Some Colon
unfolding symbol_spelled
colon [] = refl
colon (b ∷ []) = refl
colon (b ∷ c ∷ bytes) = refl

pub left_round : (bytes : List ℕ) → symbol_first (40 ∷ bytes) ≡ Some LeftRound
unfolding symbol_spelled
left_round [] = refl
left_round (b ∷ []) = refl
left_round (b ∷ c ∷ bytes) = refl

pub right_round : (bytes : List ℕ) → symbol_first (41 ∷ bytes) ≡ Some RightRound
unfolding symbol_spelled
right_round [] = refl
right_round (b ∷ []) = refl
right_round (b ∷ c ∷ bytes) = refl

pub left_brace : (bytes : List ℕ) → symbol_first (123 ∷ bytes) ≡ Some LeftBrace
unfolding symbol_spelled
left_brace [] = refl
left_brace (b ∷ []) = refl
left_brace (b ∷ c ∷ bytes) = refl

pub right_brace : (bytes : List ℕ) → symbol_first (125 ∷ bytes) ≡ Some RightBrace
unfolding symbol_spelled
right_brace [] = refl
right_brace (b ∷ []) = refl
right_brace (b ∷ c ∷ bytes) = refl

pub left_square : (bytes : List ℕ) → symbol_first (91 ∷ bytes) ≡ Some LeftSquare
unfolding symbol_spelled
left_square [] = refl
left_square (b ∷ []) = refl
left_square (b ∷ c ∷ bytes) = refl

pub right_square : (bytes : List ℕ) → symbol_first (93 ∷ bytes) ≡ Some RightSquare
unfolding symbol_spelled
right_square [] = refl
right_square (b ∷ []) = refl
right_square (b ∷ c ∷ bytes) = refl

pub times : (bytes : List ℕ) → symbol_first (42 ∷ bytes) ≡ Some Times
unfolding symbol_spelled
times [] = refl
times (b ∷ []) = refl
times (b ∷ c ∷ bytes) = refl

pub divide : (bytes : List ℕ) → symbol_first (47 ∷ bytes) ≡ Some Divide
unfolding symbol_spelled
divide [] = refl
divide (b ∷ []) = refl
divide (b ∷ c ∷ bytes) = refl

pub remainder : (bytes : List ℕ) → symbol_first (37 ∷ bytes) ≡ Some Remainder
unfolding symbol_spelled
remainder [] = refl
remainder (b ∷ []) = refl
remainder (b ∷ c ∷ bytes) = refl

pub ruleset lone_symbols = (semicolon, comma, colon, left_round, right_round, left_brace, right_brace, left_square, right_square, times, divide, remainder)
