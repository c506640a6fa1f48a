-- What has begun and isn't finished, and what becomes of a part of a run.
use Rattle.std.specs.Prelude.{ℕ, ℤ, pos, Bool, if◌then◌else◌, List, [], ◌∷◌, ◌++◌, Option}
use Rattle.inform_tree.specs.declared.values.SumOp.{SumOp}
use Rattle.inform_tree.specs.declared.values.ProdOp.{ProdOp}
use Rattle.inform_tree.specs.declared.conditions.Relation.{Relation}
use Rattle.inform_tree.specs.Values.{Expression, Arguments, Terms, Factors}
use Rattle.inform_tree.specs.Conditions.{Condition, Conditions}
use Rattle.inform_tree.specs.Statements.{Statement, Statements, Cases, Default, Assignment, PrintItem}
use Rattle.inform_meaning.specs.declared.traps.Trap.{Trap}
use Rattle.inform_meaning.specs.Worlds.{Scope, Config}

-- ---- frames

-- a loop: it goes on where its test, if it has one, has this truth value
pub record Loop : Type 0 where
  pub test : Option Condition
  pub goes_on : Bool
  pub change : Option Assignment
  pub body : Statements

-- what has not begun yet
pub data Begin : Type 0 where
  Evals : Expression → Begin
  -- a call of the routine of this name, whose arguments are known
  CallDue : List ℕ → List ℤ → Begin
  DrawDue : ℤ → Begin  -- a draw for a number up to this one
  Tests : Condition → Begin
  Alters : Assignment → Begin
  Due : Statement → Begin
  Blocks : Statements → Begin
  Prints : List PrintItem → Begin
  LineDue : List ℕ → Begin  -- a line for this buffer
  TurnDue : Loop → Begin

-- what waits for the value of a part
pub data Want : Type 0 where
  IndexOf : List ℕ → Want
  Args : List ℕ → List ℤ → Arguments → Want
  RangeOf : Want
  Negates : Want
  SumFrom : Terms → Want
  SumOnto : SumOp → ℤ → Terms → Want
  ProductFrom : Factors → Want
  ProductOnto : ProdOp → ℤ → Factors → Want
  LeftOf : Relation → Expression → Want
  RightOf : Relation → ℤ → Want
  IsNonzero : Want
  Sets : List ℕ → Want
  PlaceOf : List ℕ → Bool → Expression → Want
  Stores : List ℕ → Bool → ℤ → Want
  Forgets : Want
  Picks : Cases → Default → Want
  Gives : Want
  SaysNumber : List PrintItem → Want
  SaysChar : List PrintItem → Want

-- what waits for the truth value of a part
pub data Decide : Type 0 where
  AllOf : Conditions → Decide
  AnyOf : Conditions → Decide
  Flips : Decide
  Branches : Statements → Statements → Decide
  Testing : Loop → Decide

-- how a run is over
pub data Halt : Type 0 where
  Quits : Halt
  Trapped : Trap → ℕ → Halt  -- in the routine of this directive

pub data Frame : Type 0 where
  Begins : Begin → Frame
  Wants : Want → Frame
  Decides : Decide → Frame
  Looping : Loop → Frame  -- the body of a loop runs
  Calling : Scope → Frame  -- the body of a routine runs; the scope is the caller's
  Main : Frame  -- the routine runs with which the run began
  Over : Halt → Frame

-- ---- outcomes

-- what a run waits for
pub data Lack : Type 0 where
  NeedsLine : Lack
  NeedsDraw : Lack
  Spent : Lack

pub data Outcome : Type 0 where
  Value : ℤ → Outcome
  Truth : Bool → Outcome
  Normal : Outcome
  Returns : ℤ → Outcome
  Breaks : Outcome
  Continues : Outcome
  Halts : Halt → Outcome
  Waits : Lack → List Frame → Outcome  -- with what has begun, innermost first

-- ---- meanings

-- what a part of a program does: its outcome, and what is left after it
abbrev pub Meaning : Type 0
Meaning = Config → Outcome × Config

abbrev pub gives : Outcome → Meaning
gives e = λ c. (e, c)

-- one part, and then what is done with its outcome
unfoldable pub bind : Meaning → (Outcome → Meaning) → Meaning
bind m k = λ c. (let r = m c in k r.0 r.1)

unfoldable pub when : Bool → Meaning → Meaning → Meaning
when b m n = if b then m else n

-- ---- what a frame does with the outcome of its part: where that waits, the frame waits too

abbrev pub waits_with : Frame → Lack → List Frame → Meaning
waits_with f lack fs = gives (Waits lack (fs ++ f ∷ []))

unfoldable pub on_normal : Frame → Meaning → Outcome → Meaning
on_normal f m Normal = m
on_normal f m (Waits lack fs) = waits_with f lack fs
on_normal f m e = gives e

unfoldable pub on_value : Frame → (ℤ → Meaning) → Outcome → Meaning
on_value f k (Value v) = k v
on_value f k (Waits lack fs) = waits_with f lack fs
on_value f k e = gives e

unfoldable pub on_truth : Frame → (Bool → Meaning) → Outcome → Meaning
on_truth f k (Truth b) = k b
on_truth f k (Waits lack fs) = waits_with f lack fs
on_truth f k e = gives e

-- the body of a loop: `break` ends the loop, and after `continue` it goes on
unfoldable pub on_body : Frame → Meaning → Outcome → Meaning
on_body f m Normal = m
on_body f m Continues = m
on_body f m Breaks = gives Normal
on_body f m (Waits lack fs) = waits_with f lack fs
on_body f m e = gives e

-- the body of a routine: its value, which is 1 at the end of the body
abbrev pub returned : Outcome → Outcome
returned Normal = Value (pos 1)
returned (Returns v) = Value v
returned e = e

abbrev pub within_scope : Scope → Config → Config
within_scope s c = record c { world = record c.world { scope = s } }

-- the caller's scope comes back
unfoldable pub on_return : Scope → Outcome → Meaning
on_return s (Waits lack fs) = waits_with (Calling s) lack fs
on_return s e = λ c. (returned e, within_scope s c)

-- the routine with which the run began: the run is over
abbrev pub halt_of : Outcome → Halt
halt_of (Halts halt) = halt
halt_of e = Quits

unfoldable pub on_main : Outcome → Meaning
on_main (Waits lack fs) = waits_with Main lack fs
on_main e = gives (Halts (halt_of e))

unfoldable pub on_over : Halt → Outcome → Meaning
on_over halt (Waits lack fs) = waits_with (Over halt) lack fs
on_over halt e = gives (Halts halt)
