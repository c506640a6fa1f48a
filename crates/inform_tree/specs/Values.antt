-- Expressions as plain trees of lists and numbers, and the one that an `Expr` of the program is.
use Rattle.std.specs.Prelude.{ℕ, Bool, List, [], ◌∷◌, map}
use Rattle.inform_tree.specs.declared.values.SumOp.{SumOp}
use Rattle.inform_tree.specs.declared.values.ProdOp.{ProdOp}
use Rattle.inform_tree.specs.declared.values.Expr.{Expr}
use Rattle.inform_tree.specs.declared.values.Expr.TheOpen.{Expr-F}
use Rattle.inform_tree.specs.declared.values.Expr.TheOpen as e
use Rattle.inform_tree.specs.declared.values.Expr.TheFolds.{fold-Expr}

-- ---- the trees

mutual
  pub data Expression : Type 0 where
    Number : ℕ → Expression
    Char : ℕ → Expression
    Name : List ℕ → Expression
    Entry : List ℕ → Bool → Expression → Expression
    Call : List ℕ → Arguments → Expression
    Random : Expression → Expression
    Neg : Expression → Expression
    Sum : Expression → Terms → Expression
    Product : Expression → Factors → Expression

  -- the arguments of a call
  pub data Arguments : Type 0 where
    NoArguments : Arguments
    MoreArguments : Expression → Arguments → Arguments

  -- the further parts of a sum, each after its sign
  pub data Terms : Type 0 where
    NoTerms : Terms
    MoreTerms : SumOp → Expression → Terms → Terms

  -- the further parts of a product
  pub data Factors : Type 0 where
    NoFactors : Factors
    MoreFactors : ProdOp → Expression → Factors → Factors

-- ---- the tree of an `Expr`

abbrev pub arguments : List Expression → Arguments
arguments [] = NoArguments
arguments (x ∷ xs) = MoreArguments x (arguments xs)

abbrev pub terms : List (SumOp × Expression) → Terms
terms [] = NoTerms
terms (x ∷ xs) = MoreTerms x.0 x.1 (terms xs)

abbrev pub factors : List (ProdOp × Expression) → Factors
factors [] = NoFactors
factors (x ∷ xs) = MoreFactors x.0 x.1 (factors xs)

-- one layer of it, where the trees of the parts are known
abbrev pub expression_step : Expr-F Expression → Expression
expression_step (e.Number n) = Number n
expression_step (e.Char byte) = Char byte
expression_step (e.Name name) = Name name
expression_step (e.Entry name words index) = Entry name words index.value
expression_step (e.Call name xs) = Call name (arguments xs.items)
expression_step (e.Random limit) = Random limit.value
expression_step (e.Neg operand) = Neg operand.value
expression_step (e.Sum first xs) = Sum first.value (terms xs.items)
expression_step (e.Product first xs) = Product first.value (factors xs.items)

abbrev pub expression_of : Expr → Expression
expression_of = fold-Expr Expression expression_step

abbrev pub arguments_of : List Expr → Arguments
arguments_of xs = arguments (map expression_of xs)

abbrev pub terms_of : List (SumOp × Expr) → Terms
terms_of xs = terms (map (λ x. (x.0, expression_of x.1)) xs)

abbrev pub factors_of : List (ProdOp × Expr) → Factors
factors_of xs = factors (map (λ x. (x.0, expression_of x.1)) xs)
