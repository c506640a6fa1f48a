-- How conditions are read.
use Rattle.std.specs.Prelude.{[], ◌∷◌, Option, Some, None}
use Rattle.inform_tree.specs.Values.{Expression}
use Rattle.inform_tree.specs.Conditions as c
use Rattle.inform_tree.specs.Conditions.{Condition}
use Rattle.inform_lexemes.specs.declared.symbols.Symbol.TheVariants.{LeftRound, RightRound, And, Or, Not}
use Rattle.inform_lexemes.specs.Lexemes.{Lexeme, Sign, is_sign}
use Rattle.inform_grammar.specs.Rules as r
use Rattle.inform_grammar.specs.Lexemes.{is_relation, relation_of, other_connective}
use Rattle.inform_grammar.specs.Plan.{Plan, done, next, maybe, chain, ◌>>=◌, take, one, onward}
use Rattle.inform_grammar.specs.ValueRules.{factors_after, terms_after, value}
use Rattle.inform_grammar.specs.Trees.{AllOf, AnyOf, Guard, Join, Plain, Tested, condition, joined}

-- what follows a value: a relation and another value, or nothing
unfoldable pub relation_after : Expression → Plan Guard
relation_after x =
    next is_relation (λ sign. one r.Value (λ y. done (Tested (c.Compare (relation_of sign) x y))))
    (done (Plain x))

-- the value goes on after a first part in brackets
unfoldable pub value_after : Expression → Plan Expression
value_after x = factors_after x >>= terms_after

-- what follows what stands in brackets: an expression may go on, and a condition may not
unfoldable pub bracket_after : Guard → Plan Guard
bracket_after (Plain x) = value_after x >>= relation_after
bracket_after (Tested test) = done (Tested test)

unfoldable pub test : Lexeme → Option (Plan Guard)
test (Sign Not) =
    Some (take (is_sign LeftRound)
    (one r.Condition (λ x. take (is_sign RightRound) (done (Tested (c.Not (condition x)))))))
test (Sign LeftRound) = Some (one r.Condition (λ x. take (is_sign RightRound) (bracket_after x)))
test x = onward (value x) relation_after

-- a further member of a chain
unfoldable pub member : Join → Lexeme → Option (Plan Condition)
member AllOf (Sign And) = Some (one r.Test (λ x. done (condition x)))
member AnyOf (Sign Or) = Some (one r.Test (λ x. done (condition x)))
member _ _ = None

-- the further members after the first two; the other connective can't stand after them
unfoldable pub members_after : Join → Condition → Condition → Plan Guard
members_after join x y =
    chain (r.Member join) (is_sign (other_connective join)) (x ∷ y ∷ [])
    (λ xs. done (Tested (joined join xs)))

-- what follows the first test
unfoldable pub tests_after : Guard → Plan Guard
tests_after x =
    maybe (r.Member AllOf) (λ y. members_after AllOf (condition x) y)
    (maybe (r.Member AnyOf) (λ y. members_after AnyOf (condition x) y) (done x))

unfoldable pub guarded : Lexeme → Option (Plan Guard)
guarded x = onward (test x) tests_after
