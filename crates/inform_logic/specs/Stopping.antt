-- Parts of a run that stop it: it is over, or it waits for a line, a draw or a step.
use Rattle.std.specs.Prelude.{◌≡◌, ℕ, ℤ, Bool, true, List, [], ◌∷◌, Option, Some}
use Rattle.inform_tree.specs.declared.values.SumOp.{SumOp}
use Rattle.inform_tree.specs.declared.values.ProdOp.{ProdOp}
use Rattle.inform_tree.specs.declared.conditions.Relation.{Relation}
use Rattle.inform_tree.specs.Values as v
use Rattle.inform_tree.specs.Values.{Expression, Arguments, Terms, Factors}
use Rattle.inform_tree.specs.Conditions as c
use Rattle.inform_tree.specs.Conditions.{Condition, Conditions}
use Rattle.inform_tree.specs.Statements as t
use Rattle.inform_tree.specs.Statements.{Statement, Statements, Cases, Default, Assignment, PrintItem}
use Rattle.inform_meaning.specs.Worlds.{Program, Scope, Config}
use Rattle.inform_meaning.specs.Frames.{Loop, Frame, Outcome, Normal, Continues, Halts, Waits, Meaning}
use Rattle.inform_meaning.specs.Statements.{while_loop, loop_goes_on}
use Rattle.inform_meaning.specs.Runs.{call_at, Stop, Halted, Lacking}
use Rattle.inform_logic.specs.Stages.{Stage, stage_of}
use Rattle.inform_logic.specs.Leading.{lack_leaves, Takes, Part, TheValue, TheCall, TheSum, TheProduct, TheTest, TheAll, TheAny, TheChange, TheItems, TheAct, TheStatement, TheBlock, TheTurns, AfterTest, AfterBody, meaning_of}

-- an outcome stops the run for this, whatever frames wait
abbrev pub IsStop : Stop → Outcome → Type 0
IsStop (Halted halt) e = e ≡ Halts halt
IsStop (Lacking lack) e = (fs : List Frame) × (e ≡ Waits lack fs)

-- a meaning stops the run, in some scope
pub record Ends (m : Meaning) (s : Scope) (w : Stage) (stop : Stop) (w' : Stage) (most : ℕ) : Type 0
  where
    pub ending : Outcome
    pub scope : Scope
    pub is : IsStop stop ending
    pub takes : Takes m s w ending scope w' most

-- a part of a program stops the run
pub record Stops (p : Program) (d : ℕ) (part : Part) (s : Scope) (w : Stage) (stop : Stop)
    (w' : Stage) (most : ℕ) : Type 0 where
  pub ends : Ends (meaning_of p d part) s w stop w' most

-- a call of a routine with these arguments stops the run, whatever the caller's scope
pub record CallStops (p : Program) (d : ℕ) (name : List ℕ) (values : List ℤ) (w : Stage)
    (stop : Stop) (w' : Stage) (most : ℕ) : Type 0 where
  pub ends : (s : Scope) → Ends (call_at p d name values) s w stop w' most

-- ---- whole runs

-- which steps may be left where a run stopped for this
abbrev pub stop_leaves : Stop → ℕ → Type 0
stop_leaves (Halted halt) k = Unit {0}
stop_leaves (Lacking lack) k = lack_leaves lack k

-- a run stopped for this, and left this stage
pub record Stopped (r : Outcome × Config) (stop : Stop) (w : Stage) : Type 0 where
  pub is : IsStop stop r.0
  pub stage : stage_of r.1 ≡ w

-- ---- parts and wholes

-- the first part of a whole: what stops there stops the whole
pub data First : Part → Part → Type 0 where
  -- of a value
  in_entry : {a : List ℕ} {words : Bool} {x : Expression}
      → First (TheValue x) (TheValue (v.Entry a words x))
  in_random : {x : Expression} → First (TheValue x) (TheValue (v.Random x))
  in_negation : {x : Expression} → First (TheValue x) (TheValue (v.Neg x))
  in_sum : {x : Expression} {xs : Terms} → First (TheValue x) (TheValue (v.Sum x xs))
  in_term : {a : ℤ} {op : SumOp} {x : Expression} {xs : Terms}
      → First (TheValue x) (TheSum a (v.MoreTerms op x xs))
  in_product : {x : Expression} {xs : Factors} → First (TheValue x) (TheValue (v.Product x xs))
  in_factor : {a : ℤ} {op : ProdOp} {x : Expression} {xs : Factors}
      → First (TheValue x) (TheProduct a (v.MoreFactors op x xs))
  in_call : {name : List ℕ} {xs : Arguments}
      → First (TheCall name [] xs) (TheValue (v.Call name xs))
  in_argument : {name : List ℕ} {values : List ℤ} {x : Expression} {xs : Arguments}
      → First (TheValue x) (TheCall name values (v.MoreArguments x xs))
  -- of a condition
  in_comparison : {op : Relation} {x y : Expression}
      → First (TheValue x) (TheTest (Some (c.Compare op x y)))
  in_nonzero : {x : Expression} → First (TheValue x) (TheTest (Some (c.Nonzero x)))
  in_negated : {x : Condition} → First (TheTest (Some x)) (TheTest (Some (c.Not x)))
  in_all : {xs : Conditions} → First (TheAll xs) (TheTest (Some (c.All xs)))
  in_one_of_all : {x : Condition} {xs : Conditions}
      → First (TheTest (Some x)) (TheAll (c.MoreConditions x xs))
  in_any : {xs : Conditions} → First (TheAny xs) (TheTest (Some (c.Any xs)))
  in_one_of_any : {x : Condition} {xs : Conditions}
      → First (TheTest (Some x)) (TheAny (c.MoreConditions x xs))
  -- of a change and of what is printed
  in_set : {a : List ℕ} {x : Expression} → First (TheValue x) (TheChange (Some (t.Set a x)))
  in_index : {a : List ℕ} {words : Bool} {x y : Expression}
      → First (TheValue x) (TheChange (Some (t.SetEntry a words x y)))
  in_number : {x : Expression} {xs : List PrintItem}
      → First (TheValue x) (TheItems (t.Value x ∷ xs))
  in_character : {x : Expression} {xs : List PrintItem}
      → First (TheValue x) (TheItems (t.Char x ∷ xs))
  -- of a statement whose step is taken
  in_statements : {xs : Statements} → First (TheBlock xs) (TheAct (t.Block xs))
  in_assignment : {x : Assignment} → First (TheChange (Some x)) (TheAct (t.Assign x))
  in_print : {xs : List PrintItem} → First (TheItems xs) (TheAct (t.Print xs))
  in_call_alone : {name : List ℕ} {xs : Arguments}
      → First (TheCall name [] xs) (TheAct (t.Call name xs))
  in_return : {x : Expression} → First (TheValue x) (TheAct (t.Return (Some x)))
  in_if : {x : Condition} {xs ys : Statements} → First (TheTest (Some x)) (TheAct (t.If x xs ys))
  in_switch : {x : Expression} {xs : Cases} {rest : Default}
      → First (TheValue x) (TheAct (t.Switch x xs rest))
  in_while : {x : Condition} {xs : Statements}
      → First (TheTurns (while_loop x xs)) (TheAct (t.While x xs))
  in_do : {x : Condition} {xs : Statements} → First (TheBlock xs) (TheAct (t.Do xs x))
  in_for : {first : Option Assignment} {x : Option Condition} {change : Option Assignment}
      {xs : Statements} → First (TheChange first) (TheAct (t.For first x change xs))
  -- of a block and of a loop
  in_block : {x : Statement} {xs : Statements}
      → First (TheStatement x) (TheBlock (t.MoreStatements x xs))
  in_body : {l : Loop} {b : Bool} → loop_goes_on l b ≡ true
      → First (TheBlock l.body) (AfterTest l b)
  in_change : {l : Loop} → First (TheChange l.change) (AfterBody l Normal)
  in_change_again : {l : Loop} → First (TheChange l.change) (AfterBody l Continues)
