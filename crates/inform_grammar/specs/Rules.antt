-- The rules of the grammar that read the same thing again and again, and what each of them gives.
use Rattle.std.specs.Prelude.{ℕ, List}
use Rattle.inform_tree.specs.declared.values.Const.{Const}
use Rattle.inform_tree.specs.declared.values.SumOp.{SumOp}
use Rattle.inform_tree.specs.declared.values.ProdOp.{ProdOp}
use Rattle.inform_tree.specs.Values.{Expression}
use Rattle.inform_tree.specs.Conditions as c
use Rattle.inform_tree.specs.Statements as s
use Rattle.inform_tree.specs.Statements.{Assignment, PrintItem}
use Rattle.inform_tree.specs.Programs.{DirectiveTree}
use Rattle.inform_grammar.specs.Trees.{Guard, Join}

-- what stands in the braces of a `switch`, one after another: the choices of a case, and statements
pub data SwitchPart : Type 0 where
  Head : List s.Choice → SwitchPart
  Said : s.Statement → SwitchPart

pub data Rule : Type 0 where
  Constant : Rule
  Entry : Rule
  Primary : Rule
  Unary : Rule
  Factor : Rule
  Product : Rule
  Term : Rule
  Value : Rule
  Argument : Rule
  Test : Rule
  Member : Join → Rule
  Condition : Rule
  Change : Rule
  Item : Rule
  FurtherItem : Rule
  Statement : Rule
  Body : Rule
  Choice : Rule
  FurtherChoice : Rule
  Part : Rule
  Local : Rule
  Directive : Rule

-- what a rule gives
abbrev pub TreeOf : Rule → Type 0
TreeOf Constant = Const
TreeOf Entry = Const
TreeOf Primary = Expression
TreeOf Unary = Expression
TreeOf Factor = ProdOp × Expression
TreeOf Product = Expression
TreeOf Term = SumOp × Expression
TreeOf Value = Expression
TreeOf Argument = Expression
TreeOf Test = Guard
TreeOf (Member join) = c.Condition
TreeOf Condition = Guard
TreeOf Change = Assignment
TreeOf Item = PrintItem
TreeOf FurtherItem = PrintItem
TreeOf Statement = s.Statement
TreeOf Body = List s.Statement
TreeOf Choice = s.Choice
TreeOf FurtherChoice = s.Choice
TreeOf Part = SwitchPart
TreeOf Local = List ℕ
TreeOf Directive = DirectiveTree
