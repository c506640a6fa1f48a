-- What lexemes mean to the grammar: their classes, the operators that they are, and which of them
-- open and close.
use Rattle.std.specs.Prelude.{ℕ, zero, suc, Bool, true, false, List, [], ◌∷◌, Option, Some, None, is_some, unwrap_or, ◌≡◌}
use Rattle.inform_tree.specs.declared.values.SumOp.{SumOp}
use Rattle.inform_tree.specs.declared.values.SumOp.TheVariants.{Add, Sub}
use Rattle.inform_tree.specs.declared.values.ProdOp.{ProdOp}
use Rattle.inform_tree.specs.declared.values.ProdOp.TheVariants.{Mul, Div, Rem}
use Rattle.inform_tree.specs.declared.conditions.Relation.{Relation}
use Rattle.inform_tree.specs.declared.conditions.Relation.TheVariants.{Eq, Ne, Lt, Gt, Le, Ge}
use Rattle.inform_lexemes.specs.declared.symbols.Symbol.{Symbol}
use Rattle.inform_lexemes.specs.declared.symbols.Symbol.TheVariants.{Comma, Colon, LeftRound, RightRound, LeftBrace, RightBrace, Equal, NotEqual, Less, Greater, LessEqual, GreaterEqual, And, Or, Plus, Minus, Times, Divide, Remainder, ByteArrow, WordArrow}
use Rattle.inform_lexemes.specs.declared.keywords.Keyword.TheVariants as w
use Rattle.inform_lexemes.specs.Lexemes.{Lexeme, Word, Name, Sign}
use Rattle.inform_grammar.specs.Trees.{AllOf, AnyOf, Join}

-- ---- what stands next

-- the first of these lexemes, if there is one, passes the test
abbrev pub heads : (Lexeme → Bool) → List Lexeme → Bool
heads test [] = false
heads test (x ∷ xs) = test x

abbrev pub Yes : (Lexeme → Bool) → List Lexeme → Type 0
Yes test xs = heads test xs ≡ true

abbrev pub No : (Lexeme → Bool) → List Lexeme → Type 0
No test xs = heads test xs ≡ false

-- ---- classes

abbrev pub any_lexeme : Lexeme → Bool
any_lexeme x = true

-- the bytes of a name
abbrev pub name_in : Lexeme → List ℕ
name_in (Name name) = name
name_in _ = []

-- `->` and `-->`
abbrev pub is_arrow : Lexeme → Bool
is_arrow (Sign ByteArrow) = true
is_arrow (Sign WordArrow) = true
is_arrow _ = false

abbrev pub is_factor_sign : Lexeme → Bool
is_factor_sign (Sign Times) = true
is_factor_sign (Sign Divide) = true
is_factor_sign (Sign Remainder) = true
is_factor_sign _ = false

abbrev pub is_term_sign : Lexeme → Bool
is_term_sign (Sign Plus) = true
is_term_sign (Sign Minus) = true
is_term_sign _ = false

-- `&&` and `||`
abbrev pub is_connective : Lexeme → Bool
is_connective (Sign And) = true
is_connective (Sign Or) = true
is_connective _ = false

-- the one connective in place of the other
abbrev pub swapped : Lexeme → Lexeme
swapped (Sign And) = Sign Or
swapped (Sign Or) = Sign And
swapped x = x

-- what a name is followed by where it begins a case of a `switch`: `:`, `,` or `to`
abbrev pub continues_choice : Lexeme → Bool
continues_choice (Sign Colon) = true
continues_choice (Sign Comma) = true
continues_choice (Word w.To) = true
continues_choice _ = false

-- how two values are compared by it
abbrev pub relation_in : Lexeme → Option Relation
relation_in (Sign Equal) = Some Eq
relation_in (Sign NotEqual) = Some Ne
relation_in (Sign Less) = Some Lt
relation_in (Sign Greater) = Some Gt
relation_in (Sign LessEqual) = Some Le
relation_in (Sign GreaterEqual) = Some Ge
relation_in _ = None

abbrev pub is_relation : Lexeme → Bool
is_relation x = is_some (relation_in x)

abbrev pub relation_of : Lexeme → Relation
relation_of x = unwrap_or (relation_in x) Eq

-- ---- the symbols of operators

-- true is for words
abbrev pub arrow : Bool → Symbol
arrow true = WordArrow
arrow false = ByteArrow

abbrev pub factor_sign : ProdOp → Symbol
factor_sign Mul = Times
factor_sign Div = Divide
factor_sign Rem = Remainder

abbrev pub term_sign : SumOp → Symbol
term_sign Add = Plus
term_sign Sub = Minus

abbrev pub relation_sign : Relation → Symbol
relation_sign Eq = Equal
relation_sign Ne = NotEqual
relation_sign Lt = Less
relation_sign Gt = Greater
relation_sign Le = LessEqual
relation_sign Ge = GreaterEqual

abbrev pub connective : Join → Symbol
connective AllOf = And
connective AnyOf = Or

-- the connective that may not stand in such a chain
abbrev pub other_connective : Join → Symbol
other_connective AllOf = Or
other_connective AnyOf = And

-- ---- openers

-- A round bracket and a brace open something, and so does each of these words: its statement.
abbrev pub is_opener : Lexeme → Bool
is_opener (Sign LeftRound) = true
is_opener (Sign LeftBrace) = true
is_opener (Word w.If) = true
is_opener (Word w.While) = true
is_opener (Word w.Do) = true
is_opener (Word w.For) = true
is_opener _ = false

abbrev pub is_closer : Lexeme → Bool
is_closer (Sign RightRound) = true
is_closer (Sign RightBrace) = true
is_closer _ = false

-- one fewer
abbrev pub one_less : ℕ → ℕ
one_less zero = zero
one_less (suc n) = n
