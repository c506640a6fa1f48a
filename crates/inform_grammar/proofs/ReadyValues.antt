-- Constants, expressions and conditions that were begun can be completed.
use Rattle.std.proofs.Common.{◌≡◌, ℕ, Bool, false, List, [], Option, Some, None, refl}
use Rattle.inform_tree.specs.declared.values.Const.TheVariants as k
use Rattle.inform_tree.specs.Values as v
use Rattle.inform_tree.specs.Values.{Expression}
use Rattle.inform_tree.specs.Conditions as c
use Rattle.inform_lexemes.specs.declared.symbols.Symbol.TheVariants.{Semicolon, Comma, Colon, LeftRound, RightRound, RightBrace, RightSquare, Assign, And, Or, Not, Plus, Minus, Times, Divide, Remainder}
use Rattle.inform_lexemes.specs.declared.keywords.Keyword.TheVariants as w
use Rattle.inform_lexemes.specs.Lexemes.{Lexeme, Word, Name, Number, Character, Sign, is_sign}
use Rattle.inform_grammar.specs.Rules as r
use Rattle.inform_grammar.specs.Rules.{Rule}
use Rattle.inform_grammar.specs.Lexemes.{is_arrow, is_relation, other_connective}
use Rattle.inform_grammar.specs.Plan.{Plan, done, ◌>>=◌, onward, no_lexeme}
use Rattle.inform_grammar.specs.ValueRules.{constant, entry, arguments, name_after, primary, unary, factor, factors_after, product, term, terms_after, value, argument}
use Rattle.inform_grammar.specs.ConditionRules.{relation_after, value_after, bracket_after, test, member, members_after, tests_after, guarded}
use Rattle.inform_grammar.proofs.Opened.{opened}
use Rattle.inform_grammar.proofs.Steps.{starts}
use Rattle.inform_grammar.proofs.Ready.{Place, Statements, Others, Free, Good, Safe, good, good-then, safe-then}
use Rattle.inform_grammar.proofs.ReadyPlans.{done-safe, next-good, next-skip, take-good, take-safe, Witness, maybe-good, maybe-skip, one-good, Bars, chain-safe, GoodIfAny}
use Rattle.inform_grammar.specs.Trees.{AllOf, AnyOf, Guard, Join, Plain, Tested, condition}

-- ---- tests that no lexeme passes that may follow

abbrev Others-free : (Lexeme → Bool) → Type 0
Others-free test =
    (test (Sign RightRound) ≡ false) × (test (Sign RightBrace) ≡ false) × (test (Sign RightSquare) ≡ false) × (test (Sign Colon) ≡ false)
    × (test (Sign Assign) ≡ false) × (test (Word w.Until) ≡ false) × (test (Sign Semicolon) ≡ false)

pub free-others : (test : Lexeme → Bool) → Others-free test → Free Others test
free-others test e (Sign RightRound) h = e.0
free-others test e (Sign RightBrace) h = e.1
free-others test e (Sign RightSquare) h = e.2
free-others test e (Sign Colon) h = e.3
free-others test e (Sign Assign) h = e.4
free-others test e (Word w.Until) h = e.5
free-others test e (Sign Semicolon) h = e.6
free-others test e _ h = absurd (cc)

abbrev Statements-free : (Lexeme → Bool) → Type 0
Statements-free test =
    (test (Sign RightRound) ≡ false) × (test (Sign RightBrace) ≡ false) × (test (Sign RightSquare) ≡ false) × (test (Sign Colon) ≡ false)
    × (test (Sign Assign) ≡ false) × (test (Word w.Until) ≡ false)

pub free-statements : (test : Lexeme → Bool) → Statements-free test → Free Statements test
free-statements test e (Sign RightRound) h = e.0
free-statements test e (Sign RightBrace) h = e.1
free-statements test e (Sign RightSquare) h = e.2
free-statements test e (Sign Colon) h = e.3
free-statements test e (Sign Assign) h = e.4
free-statements test e (Word w.Until) h = e.5
free-statements test e _ h = absurd (cc)

pub bars-none : (r : Rule) → Bars r no_lexeme
bars-none r = (λ x e. refl, λ x e. absurd (cc))

-- a rule that begins as another
pub ready-then : {X Y : Type 0} {place between : Place} (o : Option (Plan X)) (f : X → Plan Y) → GoodIfAny between o → ((x : X) → Safe place between (f x))
    → GoodIfAny place (onward o f)
ready-then None f g h = tt
ready-then (Some p) f g h = good-then g h

-- a plan that is done
pub done-good : {X : Type 0} {place : Place} {x : X} → Good place (done x)
done-good = good done-safe

-- ---- chains

pub factors-safe : (x : Expression) → Safe Others Others (factors_after x)
unfolding opened
factors-safe x = chain-safe (free-others (starts r.Factor) (refl, refl, refl, refl, refl, refl, refl)) (bars-none r.Factor) (λ xs. done-safe)

pub terms-safe : (x : Expression) → Safe Others Others (terms_after x)
unfolding opened
terms-safe x = chain-safe (free-others (starts r.Term) (refl, refl, refl, refl, refl, refl, refl)) (bars-none r.Term) (λ xs. done-safe)

-- ---- a number begins each of these

pub number-primary : Witness r.Primary
unfolding opened
number-primary = record { first = Number 0; plan = done (v.Number 0); begins = refl; completes = (done-good).completes }

number-unary : Witness r.Unary
unfolding opened
number-unary = record { first = Number 0; plan = done (v.Number 0); begins = refl; completes = (done-good).completes }

number-product : Witness r.Product
unfolding opened
number-product = record { first = Number 0; plan = factors_after (v.Number 0); begins = refl; completes = (factors-safe (v.Number 0)).closes.completes }

pub value-safe : (x : Expression) → Safe Others Others (value_after x)
unfolding value_after
value-safe x = safe-then (factors-safe x) terms-safe

pub number-value : Witness r.Value
unfolding opened
number-value = record { first = Number 0; plan = value_after (v.Number 0); begins = refl; completes = (value-safe (v.Number 0)).closes.completes }

-- ---- constants

pub number-constant : Witness r.Constant
unfolding opened
number-constant = record { first = Number 0; plan = done (k.Number 0); begins = refl; completes = (done-good).completes }

pub number-entry : Witness r.Entry
unfolding opened
number-entry = record { first = Number 0; plan = done (k.Number 0); begins = refl; completes = (done-good).completes }

pub ready-constant : (x : Lexeme) → GoodIfAny Others (constant x)
unfolding opened
ready-constant (Number n) = done-good
ready-constant (Character byte) = done-good
ready-constant (Name name) = done-good
ready-constant (Sign Minus) = next-good (Number 0) refl (λ y e. done-good) tt
ready-constant _ = tt

pub ready-entry : (x : Lexeme) → GoodIfAny Others (entry x)
unfolding opened
ready-entry (Number n) = done-good
ready-entry (Character byte) = done-good
ready-entry (Name name) = done-good
ready-entry (Sign LeftRound) = take-good (Sign Minus) refl (next-good (Number 0) refl (λ y e. take-good (Sign RightRound) refl done-good) tt)
ready-entry _ = tt

-- ---- operands

pub arguments-good : {X : Type 0} {place : Place} {k : List Expression → Plan X} → ((xs : List Expression) → Good place (k xs)) → Good place (arguments >>= k)
unfolding opened
arguments-good g =
    maybe-good number-value
    (λ x. chain-safe (free-others (starts r.Argument) (refl, refl, refl, refl, refl, refl, refl)) (bars-none r.Argument)
    (λ xs. take-safe (Sign RightRound) refl refl (g xs)))
    (good (take-safe {before = Others} (Sign RightRound) refl refl (g []))).onward

name-safe : (name : List ℕ) → Safe Others Others (name_after name)
unfolding opened
name-safe name =
    next-skip (free-others (is_sign LeftRound) (refl, refl, refl, refl, refl, refl, refl)) (λ y e. arguments-good (λ xs. done-good)) done-safe

pub ready-primary : (x : Lexeme) → GoodIfAny Others (primary x)
unfolding opened
ready-primary (Number n) = done-good
ready-primary (Character byte) = done-good
ready-primary (Name name) = good (name-safe name)
ready-primary (Word w.Random) = take-good (Sign LeftRound) refl (one-good number-value (λ x. take-safe (Sign RightRound) refl refl done-good))
ready-primary (Sign LeftRound) = one-good number-value (λ x. take-safe (Sign RightRound) refl refl done-good)
ready-primary _ = tt

pub ready-unary : (x : Lexeme) → GoodIfAny Others (unary x)
unfolding opened
ready-unary (Name name) =
    good (next-skip (free-others is_arrow (refl, refl, refl, refl, refl, refl, refl)) (λ y e. one-good number-primary (λ x. done-safe)) (name-safe name))
ready-unary (Sign Minus) = one-good number-primary (λ x. done-safe)
ready-unary x = ready-primary x

pub ready-factor : (x : Lexeme) → GoodIfAny Others (factor x)
unfolding opened
ready-factor (Sign Times) = one-good number-unary (λ x. done-safe)
ready-factor (Sign Divide) = one-good number-unary (λ x. done-safe)
ready-factor (Sign Remainder) = one-good number-unary (λ x. done-safe)
ready-factor _ = tt

pub ready-product : (x : Lexeme) → GoodIfAny Others (product x)
unfolding product
ready-product x = ready-then (unary x) factors_after (ready-unary x) factors-safe

pub ready-term : (x : Lexeme) → GoodIfAny Others (term x)
unfolding opened
ready-term (Sign Plus) = one-good number-product (λ x. done-safe)
ready-term (Sign Minus) = one-good number-product (λ x. done-safe)
ready-term _ = tt

pub ready-value : (x : Lexeme) → GoodIfAny Others (value x)
unfolding value
ready-value x = ready-then (product x) terms_after (ready-product x) terms-safe

pub ready-argument : (x : Lexeme) → GoodIfAny Others (argument x)
unfolding opened
ready-argument (Sign Comma) = one-good number-value (λ x. done-safe)
ready-argument _ = tt

-- ---- conditions

pub relation-safe : (x : Expression) → Safe Others Others (relation_after x)
unfolding opened
relation-safe x =
    next-skip (free-others is_relation (refl, refl, refl, refl, refl, refl, refl)) (λ y e. one-good number-value (λ x. done-safe)) done-safe

bracket-safe : (x : Guard) → Safe Others Others (bracket_after x)
unfolding bracket_after
bracket-safe (Plain x) = safe-then (value-safe x) relation-safe
bracket-safe (Tested x) = done-safe

-- the other connective may not follow
bars-other : (join : Join) → Bars (r.Member join) (is_sign (other_connective join))
unfolding opened
bars-other AllOf = (free-others (is_sign Or) (refl, refl, refl, refl, refl, refl, refl), elim [ Sign Or ↦ λ e. (refl, refl) | _ ↦ λ e. absurd (cc) ])
bars-other AnyOf = (free-others (is_sign And) (refl, refl, refl, refl, refl, refl, refl), elim [ Sign And ↦ λ e. (refl, refl) | _ ↦ λ e. absurd (cc) ])

free-member : (join : Join) → Free Others (starts (r.Member join))
unfolding opened
free-member AllOf = free-others (starts (r.Member AllOf)) (refl, refl, refl, refl, refl, refl, refl)
free-member AnyOf = free-others (starts (r.Member AnyOf)) (refl, refl, refl, refl, refl, refl, refl)

members-safe : (join : Join) (x y : c.Condition) → Safe Others Others (members_after join x y)
unfolding members_after
members-safe join x y = chain-safe (free-member join) (bars-other join) (λ xs. done-safe)

tests-safe : (x : Guard) → Safe Others Others (tests_after x)
unfolding tests_after
tests-safe x =
    maybe-skip (free-member AllOf) (λ y. members-safe AllOf (condition x) y)
    (maybe-skip (free-member AnyOf) (λ y. members-safe AnyOf (condition x) y) done-safe)

number-test : Witness r.Test
unfolding opened
number-test = record {
  first = Number 0;
  plan = value_after (v.Number 0) >>= relation_after;
  begins = refl;
  completes = (safe-then (value-safe (v.Number 0)) relation-safe).closes.completes;
}

pub number-condition : Witness r.Condition
unfolding opened
number-condition = record {
  first = Number 0;
  plan = (value_after (v.Number 0) >>= relation_after) >>= tests_after;
  begins = refl;
  completes = (safe-then (safe-then (value-safe (v.Number 0)) relation-safe) tests-safe).closes.completes;
}

pub ready-test : (x : Lexeme) → GoodIfAny Others (test x)
unfolding opened
ready-test (Sign Not) =
    take-good (Sign LeftRound) refl (one-good number-condition (λ x. take-safe (Sign RightRound) refl refl done-good))
ready-test (Sign LeftRound) = one-good number-condition (λ x. take-safe (Sign RightRound) refl refl (good (bracket-safe x)))
ready-test x = ready-then (value x) relation_after (ready-value x) relation-safe

pub ready-member : (join : Join) (x : Lexeme) → GoodIfAny Others (member join x)
unfolding opened
ready-member AllOf (Sign And) = one-good number-test (λ x. done-safe)
ready-member AllOf _ = tt
ready-member AnyOf (Sign Or) = one-good number-test (λ x. done-safe)
ready-member AnyOf _ = tt

pub ready-guarded : (x : Lexeme) → GoodIfAny Others (guarded x)
unfolding guarded
ready-guarded x = ready-then (test x) tests_after (ready-test x) tests-safe
