-- The lexemes with which constants and expressions are printed, before those that follow.
use Rattle.std.specs.Prelude.{ℕ, Bool, true, false, List, ◌∷◌}
use Rattle.inform_tree.specs.declared.values.Const.{Const}
use Rattle.inform_tree.specs.declared.values.Const.TheVariants as k
use Rattle.inform_tree.specs.Values as v
use Rattle.inform_tree.specs.Values.{Expression, Arguments, Terms, Factors}
use Rattle.inform_lexemes.specs.declared.symbols.Symbol.{Symbol}
use Rattle.inform_lexemes.specs.declared.symbols.Symbol.TheVariants.{Comma, LeftRound, RightRound, Minus}
use Rattle.inform_lexemes.specs.declared.keywords.Keyword.TheVariants as w
use Rattle.inform_lexemes.specs.Lexemes.{Lexeme, Word, Name, Number, Character, Sign}
use Rattle.inform_grammar.specs.Lexemes.{arrow, factor_sign, term_sign}

-- ---- what may be left out

abbrev pub opening : Bool → List Lexeme → List Lexeme
opening true rest = Sign LeftRound ∷ rest
opening false rest = rest

abbrev pub closing : Bool → List Lexeme → List Lexeme
closing true rest = Sign RightRound ∷ rest
closing false rest = rest

-- in brackets, or not
abbrev pub bracketed : Bool → (List Lexeme → List Lexeme) → List Lexeme → List Lexeme
bracketed part inside rest = opening part (inside (closing part rest))

-- always in brackets
abbrev pub round : (List Lexeme → List Lexeme) → List Lexeme → List Lexeme
round inside rest = Sign LeftRound ∷ inside (Sign RightRound ∷ rest)

-- after a separator, or not
abbrev pub separated : Bool → Symbol → List Lexeme → List Lexeme
separated true symbol rest = Sign symbol ∷ rest
separated false symbol rest = rest

-- ---- constants

abbrev pub constant_lexemes : Const → List Lexeme → List Lexeme
constant_lexemes (k.Number n) rest = Number n ∷ rest
constant_lexemes (k.Char byte) rest = Character byte ∷ rest
constant_lexemes (k.Name name) rest = Name name ∷ rest
constant_lexemes (k.Minus n) rest = Sign Minus ∷ Number n ∷ rest

abbrev pub is_minus : Const → Bool
is_minus (k.Minus n) = true
is_minus x = false

-- an entry of an array: a number with a minus sign stands in brackets
abbrev pub entry_lexemes : Const → List Lexeme → List Lexeme
entry_lexemes x rest = bracketed (is_minus x) (constant_lexemes x) rest

-- ---- expressions

-- The truth value tells whether it is a part of a chain, an index or the operand of a minus sign.
-- Such a part stands in brackets, unless it is a number, a character, a name, a call or `random`.
-- Of arguments it tells whether one stands before them.
abbrev mutual
  pub value_lexemes : Bool → Expression → List Lexeme → List Lexeme
  value_lexemes part (v.Number n) rest = Number n ∷ rest
  value_lexemes part (v.Char byte) rest = Character byte ∷ rest
  value_lexemes part (v.Name name) rest = Name name ∷ rest
  value_lexemes part (v.Entry name words index) rest =
      bracketed part (λ after. Name name ∷ Sign (arrow words) ∷ value_lexemes true index after) rest
  value_lexemes part (v.Call name xs) rest =
      Name name ∷ Sign LeftRound ∷ argument_lexemes false xs rest
  value_lexemes part (v.Random limit) rest =
      Word w.Random ∷ Sign LeftRound ∷ value_lexemes false limit (Sign RightRound ∷ rest)
  value_lexemes part (v.Neg operand) rest =
      bracketed part (λ after. Sign Minus ∷ value_lexemes true operand after) rest
  value_lexemes part (v.Sum first xs) rest =
      bracketed part (λ after. value_lexemes true first (term_lexemes xs after)) rest
  value_lexemes part (v.Product first xs) rest =
      bracketed part (λ after. value_lexemes true first (factor_lexemes xs after)) rest

  -- with the closing bracket
  pub argument_lexemes : Bool → Arguments → List Lexeme → List Lexeme
  argument_lexemes later v.NoArguments rest = Sign RightRound ∷ rest
  argument_lexemes later (v.MoreArguments x xs) rest =
      separated later Comma (value_lexemes false x (argument_lexemes true xs rest))

  pub term_lexemes : Terms → List Lexeme → List Lexeme
  term_lexemes v.NoTerms rest = rest
  term_lexemes (v.MoreTerms op x xs) rest =
      Sign (term_sign op) ∷ value_lexemes true x (term_lexemes xs rest)

  pub factor_lexemes : Factors → List Lexeme → List Lexeme
  factor_lexemes v.NoFactors rest = rest
  factor_lexemes (v.MoreFactors op x xs) rest =
      Sign (factor_sign op) ∷ value_lexemes true x (factor_lexemes xs rest)

-- ---- parts of expressions

-- the first part of a chain, after the bracket of the chain
abbrev pub first_lexemes : Bool → Expression → List Lexeme → List Lexeme
first_lexemes part first rest = opening part (value_lexemes true first rest)

-- an entry of an array that is read
abbrev pub element_lexemes : List ℕ → Bool → Expression → List Lexeme → List Lexeme
element_lexemes name words index rest =
    Name name ∷ Sign (arrow words) ∷ value_lexemes true index rest

-- an operand after a minus sign
abbrev pub negative_lexemes : Expression → List Lexeme → List Lexeme
negative_lexemes operand rest = Sign Minus ∷ value_lexemes true operand rest

-- a call with its arguments
abbrev pub call_lexemes : List ℕ → Arguments → List Lexeme → List Lexeme
call_lexemes name xs rest = Name name ∷ Sign LeftRound ∷ argument_lexemes false xs rest
