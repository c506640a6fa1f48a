-- Parts of blocks.
use Rattle.std.specs.Prelude.{None}
use Rattle.inform_tree.specs.Values.{Number}
use Rattle.inform_tree.specs.Conditions.{Condition, Nonzero}
use Rattle.inform_tree.specs.Statements.{Statement, Empty, If, For, Statements, NoStatements, MoreStatements}
use Rattle.inform_meaning.specs.Frames.{Loop}
use Rattle.inform_meaning.specs.Statements.{for_loop}

-- the first statement of a block, and those after it
abbrev pub first_of : Statements → Statement
first_of NoStatements = Empty
first_of (MoreStatements x xs) = x

abbrev pub rest_of : Statements → Statements
rest_of NoStatements = NoStatements
rest_of (MoreStatements x xs) = xs

-- the loop that a `for` is
abbrev pub loop_of : Statement → Loop
loop_of (For first test change block) = for_loop test change block
loop_of _ = for_loop None None NoStatements

-- the condition of an `if`
abbrev pub test_of : Statement → Condition
test_of (If test block other) = test
test_of _ = Nonzero (Number 0)

-- what is done where it holds
abbrev pub block_of : Statement → Statements
block_of (If test block other) = block
block_of _ = NoStatements
