-- The lists of a tree, as the grammar has them.
use Rattle.std.proofs.Common.{◌≡◌, true, List, [], ◌∷◌, Option, Some, None, refl, ap, ◌∙◌}
use Rattle.std.specs.Prelude.{option_map}
use Rattle.inform_tree.specs.declared.values.SumOp.{SumOp}
use Rattle.inform_tree.specs.declared.values.ProdOp.{ProdOp}
use Rattle.inform_tree.specs.Values as v
use Rattle.inform_tree.specs.Values.{Expression, Arguments, Terms, Factors}
use Rattle.inform_tree.specs.Conditions as c
use Rattle.inform_tree.specs.Conditions.{Condition, Conditions}
use Rattle.inform_tree.specs.Statements as s
use Rattle.inform_tree.specs.Statements.{Statement, Statements, Cases, Default, Choice}
use Rattle.inform_tree.specs.Formed.{has_terms, has_factors}
use Rattle.inform_grammar.specs.Trees.{product_of, sum_of, Guard, Plain, Tested, condition, Join, AllOf, AnyOf, joined, cases_tree}

-- ---- expressions

abbrev pub argument_list : Arguments → List Expression
argument_list v.NoArguments = []
argument_list (v.MoreArguments x xs) = x ∷ argument_list xs

abbrev pub term_list : Terms → List (SumOp × Expression)
term_list v.NoTerms = []
term_list (v.MoreTerms op x xs) = (op, x) ∷ term_list xs

abbrev pub factor_list : Factors → List (ProdOp × Expression)
factor_list v.NoFactors = []
factor_list (v.MoreFactors op x xs) = (op, x) ∷ factor_list xs

pub arguments_back : (xs : Arguments) → v.arguments (argument_list xs) ≡ xs
arguments_back v.NoArguments = refl
arguments_back (v.MoreArguments x xs) =
    ap (λ (ys : Arguments). v.MoreArguments x ys) (arguments_back xs)

terms_back : (xs : Terms) → v.terms (term_list xs) ≡ xs
terms_back v.NoTerms = refl
terms_back (v.MoreTerms op x xs) = ap (λ (ys : Terms). v.MoreTerms op x ys) (terms_back xs)

factors_back : (xs : Factors) → v.factors (factor_list xs) ≡ xs
factors_back v.NoFactors = refl
factors_back (v.MoreFactors op x xs) =
    ap (λ (ys : Factors). v.MoreFactors op x ys) (factors_back xs)

-- a chain that has a further part is its sum, or its product
pub sum_back : (first : Expression) (xs : Terms) → has_terms xs ≡ true
    → sum_of first (term_list xs) ≡ v.Sum first xs
sum_back first v.NoTerms e = absurd (cc)
sum_back first (v.MoreTerms op x xs) e =
    ap (λ (ys : Terms). v.Sum first (v.MoreTerms op x ys)) (terms_back xs)

pub product_back : (first : Expression) (xs : Factors) → has_factors xs ≡ true
    → product_of first (factor_list xs) ≡ v.Product first xs
product_back first v.NoFactors e = absurd (cc)
product_back first (v.MoreFactors op x xs) e =
    ap (λ (ys : Factors). v.Product first (v.MoreFactors op x ys)) (factors_back xs)

-- ---- conditions

-- what a condition is where one is expected
abbrev pub guard_of : Condition → Guard
guard_of (c.Nonzero x) = Plain x
guard_of x = Tested x

pub guard_back : (x : Condition) → condition (guard_of x) ≡ x
guard_back (c.Compare relation left right) = refl
guard_back (c.Nonzero x) = refl
guard_back (c.All xs) = refl
guard_back (c.Any xs) = refl
guard_back (c.Not x) = refl

pub guards_back : (x : Option Condition) → option_map condition (option_map guard_of x) ≡ x
guards_back None = refl
guards_back (Some x) = ap (λ (y : Condition). Some y) (guard_back x)

-- the members of a chain, each as it is where a condition is expected
abbrev pub member_list : Conditions → List Condition
member_list c.NoConditions = []
member_list (c.MoreConditions x xs) = condition (guard_of x) ∷ member_list xs

pub members_back : (xs : Conditions) → c.conditions (member_list xs) ≡ xs
members_back c.NoConditions = refl
members_back (c.MoreConditions x xs) =
    ap (λ (y : Condition). c.MoreConditions y (c.conditions (member_list xs))) (guard_back x)
    ∙ ap (λ (ys : Conditions). c.MoreConditions x ys) (members_back xs)

-- the condition that members are together
abbrev pub together : Join → Conditions → Condition
together AllOf xs = c.All xs
together AnyOf xs = c.Any xs

pub joined_back : (join : Join) (xs : Conditions) → joined join (member_list xs) ≡ together join xs
joined_back AllOf xs = ap c.All (members_back xs)
joined_back AnyOf xs = ap c.Any (members_back xs)

-- ---- statements

abbrev pub statement_list : Statements → List Statement
statement_list s.NoStatements = []
statement_list (s.MoreStatements x xs) = x ∷ statement_list xs

pub statements_back : (xs : Statements) → s.statements (statement_list xs) ≡ xs
statements_back s.NoStatements = refl
statements_back (s.MoreStatements x xs) =
    ap (λ (ys : Statements). s.MoreStatements x ys) (statements_back xs)

abbrev pub case_list : Cases → List (List Choice × List Statement)
case_list s.NoCases = []
case_list (s.MoreCases choices body xs) = (choices, statement_list body) ∷ case_list xs

pub cases_back : (xs : Cases) → cases_tree (case_list xs) ≡ xs
cases_back s.NoCases = refl
cases_back (s.MoreCases choices body xs) =
    ap (λ (b : Statements). s.MoreCases choices b (cases_tree (case_list xs)))
    (statements_back body)
    ∙ ap (λ (ys : Cases). s.MoreCases choices body ys) (cases_back xs)

abbrev pub default_list : Default → Option (List Statement)
default_list s.NoDefault = None
default_list (s.SomeDefault body) = Some (statement_list body)

pub default_back : (x : Default) → s.default (default_list x) ≡ x
default_back s.NoDefault = refl
default_back (s.SomeDefault body) = ap s.SomeDefault (statements_back body)
