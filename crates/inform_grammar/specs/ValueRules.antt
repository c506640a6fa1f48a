-- How constants and expressions are read: with which lexemes each rule begins, and what follows.
use Rattle.std.specs.Prelude.{ℕ, List, [], ◌∷◌, Option, Some, None}
use Rattle.inform_tree.specs.declared.values.Const.{Const}
use Rattle.inform_tree.specs.declared.values.Const.TheVariants as k
use Rattle.inform_tree.specs.declared.values.SumOp.{SumOp}
use Rattle.inform_tree.specs.declared.values.SumOp.TheVariants.{Add, Sub}
use Rattle.inform_tree.specs.declared.values.ProdOp.{ProdOp}
use Rattle.inform_tree.specs.declared.values.ProdOp.TheVariants.{Mul, Div, Rem}
use Rattle.inform_tree.specs.Values as v
use Rattle.inform_tree.specs.Values.{Expression}
use Rattle.inform_lexemes.specs.declared.symbols.Symbol.TheVariants.{Comma, LeftRound, RightRound, Plus, Minus, Times, Divide, Remainder, WordArrow}
use Rattle.inform_lexemes.specs.declared.keywords.Keyword.TheVariants as w
use Rattle.inform_lexemes.specs.Lexemes.{Lexeme, Word, Name, Number, Character, Sign, is_sign, is_number}
use Rattle.inform_grammar.specs.Rules as r
use Rattle.inform_grammar.specs.Lexemes.{is_arrow}
use Rattle.inform_grammar.specs.Plan.{Plan, done, refuse, next, maybe, many, ◌>>=◌, take, one, onward}
use Rattle.inform_grammar.specs.Trees.{product_of, sum_of}

-- ---- constants

-- a number, which must stand here
abbrev pub number_in : Lexeme → ℕ
number_in (Number n) = n
number_in _ = 0

unfoldable pub minus_number : Plan Const
minus_number = next is_number (λ x. done (k.Minus (number_in x))) refuse

unfoldable pub constant : Lexeme → Option (Plan Const)
constant (Number n) = Some (done (k.Number n))
constant (Character byte) = Some (done (k.Char byte))
constant (Name name) = Some (done (k.Name name))
constant (Sign Minus) = Some minus_number
constant _ = None

-- an entry of an array has brackets where it has a minus sign
unfoldable pub entry : Lexeme → Option (Plan Const)
entry (Number n) = Some (done (k.Number n))
entry (Character byte) = Some (done (k.Char byte))
entry (Name name) = Some (done (k.Name name))
entry (Sign LeftRound) =
    Some (take (is_sign Minus) (minus_number >>= λ x. take (is_sign RightRound) (done x)))
entry _ = None

-- ---- operands

-- what follows the bracket after a name: arguments with commas between them, if any, and a closing
-- bracket
unfoldable pub arguments : Plan (List Expression)
arguments =
    maybe r.Value (λ x. many r.Argument (x ∷ []) (λ xs. take (is_sign RightRound) (done xs)))
    (take (is_sign RightRound) (done []))

-- what follows a name that is no array
unfoldable pub name_after : List ℕ → Plan Expression
name_after name =
    next (is_sign LeftRound) (λ _. arguments >>= λ xs. done (v.Call name (v.arguments xs)))
    (done (v.Name name))

-- what follows a name where an entry of an array may stand
unfoldable pub entry_after : List ℕ → Plan Expression
entry_after name =
    next is_arrow (λ a. one r.Primary (λ x. done (v.Entry name (is_sign WordArrow a) x)))
    (name_after name)

unfoldable pub primary : Lexeme → Option (Plan Expression)
primary (Number n) = Some (done (v.Number n))
primary (Character byte) = Some (done (v.Char byte))
primary (Name name) = Some (name_after name)
primary (Word w.Random) =
    Some (take (is_sign LeftRound)
    (one r.Value (λ x. take (is_sign RightRound) (done (v.Random x)))))
primary (Sign LeftRound) = Some (one r.Value (λ x. take (is_sign RightRound) (done x)))
primary _ = None

unfoldable pub unary : Lexeme → Option (Plan Expression)
unary (Name name) = Some (entry_after name)
unary (Sign Minus) = Some (one r.Primary (λ x. done (v.Neg x)))
unary x = primary x

-- ---- chains

unfoldable pub factor : Lexeme → Option (Plan (ProdOp × Expression))
factor (Sign Times) = Some (one r.Unary (λ x. done (Mul, x)))
factor (Sign Divide) = Some (one r.Unary (λ x. done (Div, x)))
factor (Sign Remainder) = Some (one r.Unary (λ x. done (Rem, x)))
factor _ = None

unfoldable pub factors_after : Expression → Plan Expression
factors_after x = many r.Factor [] (λ ys. done (product_of x ys))

unfoldable pub product : Lexeme → Option (Plan Expression)
product x = onward (unary x) factors_after

unfoldable pub term : Lexeme → Option (Plan (SumOp × Expression))
term (Sign Plus) = Some (one r.Product (λ x. done (Add, x)))
term (Sign Minus) = Some (one r.Product (λ x. done (Sub, x)))
term _ = None

unfoldable pub terms_after : Expression → Plan Expression
terms_after x = many r.Term [] (λ ys. done (sum_of x ys))

unfoldable pub value : Lexeme → Option (Plan Expression)
value x = onward (product x) terms_after

-- a further argument
unfoldable pub argument : Lexeme → Option (Plan Expression)
argument (Sign Comma) = Some (one r.Value done)
argument _ = None
