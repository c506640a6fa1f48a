-- The symbols: how each is spelled.
use Rattle.std.specs.Prelude.{ℕ, Bool, nat_eq, List, codes, Option, find}
use Rattle.std.specs.Cmp.Lexicographic.{pointwise}
use Rattle.inform_lexemes.specs.declared.symbols.Symbol.{Symbol}
use Rattle.inform_lexemes.specs.declared.symbols.Symbol.TheVariants.{Semicolon, Comma, Colon, LeftRound, RightRound, LeftBrace, RightBrace, LeftSquare, RightSquare, Assign, Equal, NotEqual, Less, Greater, LessEqual, GreaterEqual, And, Or, Not, Plus, Minus, Times, Divide, Remainder, ByteArrow, WordArrow, Increment, Decrement}
use Rattle.inform_lexemes.specs.declared.symbols.TheConstants.{SYMBOLS}

-- how each is spelled
abbrev pub symbol_text : Symbol → List ℕ
symbol_text Semicolon = codes ";"
symbol_text Comma = codes ","
symbol_text Colon = codes ":"
symbol_text LeftRound = codes "("
symbol_text RightRound = codes ")"
symbol_text LeftBrace = codes "{"
symbol_text RightBrace = codes "}"
symbol_text LeftSquare = codes "["
symbol_text RightSquare = codes "]"
symbol_text Assign = codes "="
symbol_text Equal = codes "=="
symbol_text NotEqual = codes "~="
symbol_text Less = codes "<"
symbol_text Greater = codes ">"
symbol_text LessEqual = codes "<="
symbol_text GreaterEqual = codes ">="
symbol_text And = codes "&&"
symbol_text Or = codes "||"
symbol_text Not = codes "~~"
symbol_text Plus = codes "+"
symbol_text Minus = codes "-"
symbol_text Times = codes "*"
symbol_text Divide = codes "/"
symbol_text Remainder = codes "%"
symbol_text ByteArrow = codes "->"
symbol_text WordArrow = codes "-->"
symbol_text Increment = codes "++"
symbol_text Decrement = codes "--"

-- a number for each, by which they are told apart
abbrev pub symbol_number : Symbol → ℕ
symbol_number Semicolon = 0
symbol_number Comma = 1
symbol_number Colon = 2
symbol_number LeftRound = 3
symbol_number RightRound = 4
symbol_number LeftBrace = 5
symbol_number RightBrace = 6
symbol_number LeftSquare = 7
symbol_number RightSquare = 8
symbol_number Assign = 9
symbol_number Equal = 10
symbol_number NotEqual = 11
symbol_number Less = 12
symbol_number Greater = 13
symbol_number LessEqual = 14
symbol_number GreaterEqual = 15
symbol_number And = 16
symbol_number Or = 17
symbol_number Not = 18
symbol_number Plus = 19
symbol_number Minus = 20
symbol_number Times = 21
symbol_number Divide = 22
symbol_number Remainder = 23
symbol_number ByteArrow = 24
symbol_number WordArrow = 25
symbol_number Increment = 26
symbol_number Decrement = 27

-- whether two are the same
abbrev pub same_symbol : Symbol → Symbol → Bool
same_symbol a b = nat_eq (symbol_number a) (symbol_number b)

-- the symbol that is spelled so
unfoldable pub symbol_spelled : List ℕ → Option Symbol
symbol_spelled text = find (λ symbol. pointwise nat_eq text (symbol_text symbol)) SYMBOLS
