-- Statements as plain trees, and the one that a `Stmt` of the program is.
use Rattle.std.specs.Prelude.{ℕ, Bool, List, [], ◌∷◌, Option, Some, None, option_map, map}
use Rattle.inform_tree.specs.declared.values.Const.{Const}
use Rattle.inform_tree.specs.declared.statements.Change.{Change}
use Rattle.inform_tree.specs.declared.statements.Change.TheVariants as a
use Rattle.inform_tree.specs.declared.statements.Item.{Item}
use Rattle.inform_tree.specs.declared.statements.Item.TheVariants as i
use Rattle.inform_tree.specs.declared.statements.Stmt.{Stmt}
use Rattle.inform_tree.specs.declared.statements.Stmt.TheOpen.{Stmt-F, Case-F}
use Rattle.inform_tree.specs.declared.statements.Stmt.TheOpen as s
use Rattle.inform_tree.specs.declared.statements.Stmt.TheFolds.{fold-Stmt, fold-Case}
use Rattle.inform_tree.specs.declared.statements.Case.{Case}
use Rattle.inform_tree.specs.declared.conditions.Cond.{Cond}
use Rattle.inform_tree.specs.Values.{Expression, Arguments, expression_of, arguments_of}
use Rattle.inform_tree.specs.Conditions.{Condition, condition_of}

-- ---- the trees

-- what changes a variable or an entry
pub data Assignment : Type 0 where
  Set : List ℕ → Expression → Assignment
  SetEntry : List ℕ → Bool → Expression → Expression → Assignment
  Inc : List ℕ → Assignment
  Dec : List ℕ → Assignment

-- what `print` says
pub data PrintItem : Type 0 where
  Text : List ℕ → PrintItem
  Value : Expression → PrintItem
  Char : Expression → PrintItem

-- a value, or a value and the last one of a range
abbrev pub Choice : Type 0
Choice = Const × Option Const

mutual
  pub data Statement : Type 0 where
    Empty : Statement
    Block : Statements → Statement
    Assign : Assignment → Statement
    Call : List ℕ → Arguments → Statement
    If : Condition → Statements → Statements → Statement
    While : Condition → Statements → Statement
    Do : Statements → Condition → Statement
    For : Option Assignment → Option Condition → Option Assignment → Statements → Statement
    Switch : Expression → Cases → Default → Statement
    Break : Statement
    Continue : Statement
    Quit : Statement
    Rtrue : Statement
    Rfalse : Statement
    Return : Option Expression → Statement
    NewLine : Statement
    Print : List PrintItem → Statement
    Read : List ℕ → List ℕ → Statement

  pub data Statements : Type 0 where
    NoStatements : Statements
    MoreStatements : Statement → Statements → Statements

  -- the cases of a `switch`, each with its choices and its body
  pub data Cases : Type 0 where
    NoCases : Cases
    MoreCases : List Choice → Statements → Cases → Cases

  -- what a `switch` does where no case fits
  pub data Default : Type 0 where
    NoDefault : Default
    SomeDefault : Statements → Default

-- ---- the tree of a `Stmt`

abbrev pub assignment_of : Change → Assignment
assignment_of (a.Set name x) = Set name (expression_of x)
assignment_of (a.SetEntry name words index x) =
    SetEntry name words (expression_of index) (expression_of x)
assignment_of (a.Inc name) = Inc name
assignment_of (a.Dec name) = Dec name

abbrev pub assignment_if_any : Option Change → Option Assignment
assignment_if_any = option_map assignment_of

abbrev pub condition_if_any : Option Cond → Option Condition
condition_if_any = option_map condition_of

abbrev pub print_item_of : Item → PrintItem
print_item_of (i.Text text) = Text text
print_item_of (i.Value x) = Value (expression_of x)
print_item_of (i.Char x) = Char (expression_of x)

abbrev pub statements : List Statement → Statements
statements [] = NoStatements
statements (x ∷ xs) = MoreStatements x (statements xs)

abbrev pub cases : List (List Choice × Statements) → Cases
cases [] = NoCases
cases (x ∷ xs) = MoreCases x.0 x.1 (cases xs)

abbrev pub default : Option (List Statement) → Default
default None = NoDefault
default (Some xs) = SomeDefault (statements xs)

-- one layer of it, where the trees of the parts are known
abbrev pub statement_step : Stmt-F Statement (List Choice × Statements) → Statement
statement_step s.Empty = Empty
statement_step (s.Block body) = Block (statements body.items)
statement_step (s.Change change) = Assign (assignment_of change)
statement_step (s.Call name xs) = Call name (arguments_of xs.items)
statement_step (s.If test body other) =
    If (condition_of test) (statements body.items) (statements other.items)
statement_step (s.While test body) = While (condition_of test) (statements body.items)
statement_step (s.Do body test) = Do (statements body.items) (condition_of test)
statement_step (s.For head body) =
    For (assignment_if_any head.value.first) (condition_if_any head.value.test)
    (assignment_if_any head.value.next) (statements body.items)
statement_step (s.Switch x xs rest) =
    Switch (expression_of x) (cases xs.items) (default (option_map (λ v. v.items) rest))
statement_step s.Break = Break
statement_step s.Continue = Continue
statement_step s.Quit = Quit
statement_step s.Rtrue = Rtrue
statement_step s.Rfalse = Rfalse
statement_step (s.Return x) = Return (option_map expression_of x)
statement_step s.NewLine = NewLine
statement_step (s.Print items) = Print (map print_item_of items.items)
statement_step (s.Read line words) = Read line words

-- a case: its choices, and the tree of its body
abbrev pub case_step : Case-F Statement (List Choice × Statements) → List Choice × Statements
case_step c = (c.choices.items, statements c.body.items)

abbrev pub statement_of : Stmt → Statement
statement_of = fold-Stmt Statement (List Choice × Statements) statement_step case_step

abbrev pub case_of : Case → List Choice × Statements
case_of = fold-Case Statement (List Choice × Statements) statement_step case_step

abbrev pub statements_of : List Stmt → Statements
statements_of xs = statements (map statement_of xs)

abbrev pub cases_of : List Case → Cases
cases_of xs = cases (map case_of xs)
