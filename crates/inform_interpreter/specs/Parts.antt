-- The parts of a program that are no frame's.
use Rattle.std.specs.Prelude.{ℕ, ℤ, List, Option}
use Rattle.inform_tree.specs.Values.{Arguments}
use Rattle.inform_tree.specs.Conditions.{Condition}
use Rattle.inform_tree.specs.Statements.{Statement, Assignment}
use Rattle.inform_meaning.specs.Frames.{Loop, Blocks, TurnDue, Begins, Looping}
use Rattle.inform_meaning.specs.Meaning.{eval_call, test_if_any, alter_if_any}
use Rattle.inform_meaning.specs.Parts.{counts}
use Rattle.inform_meaning.specs.Statements.{act}
use Rattle.inform_interpreter.specs.Doing.{Part, begun, then_handed}

-- the routine of this name with these values
abbrev pub called : List ℕ → List ℤ → Part
called name values p call = call name values

-- a call of which these values are known
abbrev pub called_with : List ℕ → List ℤ → Arguments → Part
called_with name values xs p call = eval_call p call name values xs

abbrev pub tested_if_any : Option Condition → Part
tested_if_any x p call = test_if_any p call x

abbrev pub altered_if_any : Option Assignment → Part
altered_if_any x p call = alter_if_any p call x

-- what a statement does after its step
abbrev pub acted : Statement → Part
acted x p call = act p call x

-- a variable counts by 1 or -1
abbrev pub counted : List ℕ → ℤ → Part
counted name by p call = counts p name by

-- ---- a turn of a loop

-- its body, and what follows that
abbrev pub turn_body : Loop → Part
turn_body l = then_handed (begun (Blocks l.body)) (Looping l)

-- the change after it, and the next turn
abbrev pub turn_change : Loop → Part
turn_change l = then_handed (altered_if_any l.change) (Begins (TurnDue l))
