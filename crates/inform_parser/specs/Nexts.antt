-- The plans of one lexeme.
use Rattle.std.specs.Prelude.{ℕ, Bool, List, []}
use Rattle.inform_tree.specs.declared.values.SumOp.{SumOp}
use Rattle.inform_tree.specs.declared.values.SumOp.TheVariants.{Add, Sub}
use Rattle.inform_tree.specs.declared.values.ProdOp.{ProdOp}
use Rattle.inform_tree.specs.declared.values.ProdOp.TheVariants.{Mul, Div, Rem}
use Rattle.inform_tree.specs.declared.conditions.Relation.{Relation}
use Rattle.inform_lexemes.specs.declared.symbols.Symbol.TheVariants.{WordArrow, Plus, Minus, Times, Divide, Remainder}
use Rattle.inform_lexemes.specs.Lexemes.{Lexeme, Character, Quoted, Sign, is_sign}
use Rattle.inform_grammar.specs.Lexemes.{any_lexeme, is_arrow, is_relation, relation_of, relation_sign}
use Rattle.inform_grammar.specs.Plan.{Plan, done, refuse, next, take}

-- a lexeme that passes the test
abbrev pub next_of : (Lexeme → Bool) → Plan Lexeme
next_of test = next test done refuse

-- any lexeme
abbrev pub any_next : Plan (Unit {0})
any_next = take any_lexeme (done tt)

-- `->` or `-->`, and whether it is the one of words
unfoldable pub arrow_next : Plan Bool
arrow_next = next is_arrow (λ x. done (is_sign WordArrow x)) refuse

-- a symbol that compares values, and how
unfoldable pub relation_next : Plan Relation
relation_next = next is_relation (λ x. done (relation_of x)) refuse

-- the sign of a further factor
unfoldable pub factor_next : Plan ProdOp
factor_next =
    next (is_sign Times) (λ _. done Mul)
    (next (is_sign Divide) (λ _. done Div) (next (is_sign Remainder) (λ _. done Rem) refuse))

-- the sign of a further term
unfoldable pub term_next : Plan SumOp
term_next = next (is_sign Plus) (λ _. done Add) (next (is_sign Minus) (λ _. done Sub) refuse)

abbrev pub relation_lexeme : Relation → Lexeme
relation_lexeme op = Sign (relation_sign op)

-- the byte of a character, and the bytes that a string says
abbrev pub character_in : Lexeme → ℕ
character_in (Character byte) = byte
character_in _ = 0

abbrev pub text_in : Lexeme → List ℕ
text_in (Quoted text) = text
text_in _ = []
